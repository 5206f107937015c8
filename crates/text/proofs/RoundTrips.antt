-- Reading the text of a book, or of claims, gives back its bytes. Assumes nothing.
use Prim.Native.Nat.{ℕ, zero, suc, ◌+◌, ◌*◌, ◌-◌, ◌/◌, ◌%◌, ◌≤◌, ◌<◌}
use mathlib.Core.Path.{◌≡◌, refl, sym, ap, ap₂, ◌∙◌}
use mathlib.Core.List.{List, [], ◌∷◌, ◌++◌, append_assoc, append-nil}
use native.Mathlib.Omega.{arith}
use lib.ListN.{length, take, drop, get_or}
use lib.Seq.{take-add, take_all}
use borrow.Author.Tests.{le-ltb}
use Rattle.lists.proofs.Parts.{here}
use Rattle.records.specs.declared.Record.{Record}
use Rattle.records.specs.Record.{record_at, records}
use Rattle.pages.specs.Text.{ascii}
use Rattle.pages.specs.Lines as pages
use Rattle.text.specs.declared.Form.{Form}
use Rattle.text.specs.declared.Form.TheVariants.{Records, Claims}
use Rattle.text.specs.Lines.{lines}
use Rattle.text.specs.Entry.{six_bytes, bytes_of}
use Rattle.text.specs.Text.{Entries, most, mark_length, lines_of, read_lines, read_text}
use Rattle.text.specs.Shown.{show_record, show_records}
use Rattle.text.specs.RoundTrip.{RoundTrip, ClaimsRoundTrip}
use Rattle.text.proofs.Loops.{line-entry, no_lines}
use Rattle.text.proofs.Pages.{small-a, small_b, records-length}
use Rattle.text.proofs.Firsts.{shown-mark}
use Rattle.text.proofs.Shows.{Textual, Choice, scanner, sheets, book-textual, claim-textual, body_of, line-shown, lines-shown}

-- ## the bytes of a record

next : (s : List ℕ) (p k : ℕ) → p + 6 ≤ length s → k < 6 → drop (p + k) s ≡ get_or s (p + k) 0 ∷ drop (p + suc k) s
next s p k h g = let e : p + k + 1 ≡ p + suc k = omega arith in here s (p + k) 0 (omega arith) ∙ ap (λ (n : ℕ). get_or s (p + k) 0 ∷ drop n s) e

six-at : (s : List ℕ) (p : ℕ) → p + 6 ≤ length s
    → take 6 (drop p s) ≡ get_or s p 0 ∷ get_or s (p + 1) 0 ∷ get_or s (p + 2) 0 ∷ get_or s (p + 3) 0 ∷ get_or s (p + 4) 0 ∷ get_or s (p + 5) 0 ∷ []
six-at s p h =
    ap (take 6) (here s p 0 (omega arith))
    ∙ ap (λ (l : List ℕ). get_or s p 0 ∷ take 5 l) (next s p 1 h (omega arith))
    ∙ ap (λ (l : List ℕ). get_or s p 0 ∷ get_or s (p + 1) 0 ∷ take 4 l) (next s p 2 h (omega arith))
    ∙ ap (λ (l : List ℕ). get_or s p 0 ∷ get_or s (p + 1) 0 ∷ get_or s (p + 2) 0 ∷ take 3 l) (next s p 3 h (omega arith))
    ∙ ap (λ (l : List ℕ). get_or s p 0 ∷ get_or s (p + 1) 0 ∷ get_or s (p + 2) 0 ∷ get_or s (p + 3) 0 ∷ take 2 l) (next s p 4 h (omega arith))
    ∙ ap (λ (l : List ℕ). get_or s p 0 ∷ get_or s (p + 1) 0 ∷ get_or s (p + 2) 0 ∷ get_or s (p + 3) 0 ∷ get_or s (p + 4) 0 ∷ take 1 l) (next s p 5 h (omega arith))

-- a 16-bit number is made of its bytes
low-is : (x y : ℕ) → x < 256 → (x + 256 * y) % 256 ≡ x
low-is x y h = omega arith

high_is : (x y : ℕ) → x < 256 → y < 256 → (x + 256 * y) / 256 % 256 ≡ y
high_is x y h g = omega arith

same_bytes : (s : List ℕ) → ((k : ℕ) → get_or s k 0 < 256) → (i : ℕ) → 6 * i + 6 ≤ length s → six_bytes (record_at s i) ≡ take 6 (drop (6 * i) s)
unfolding record_at
same_bytes s byte i h =
    rw (
      six-at s (6 * i) h,
      low-is (get_or s (6 * i + 2) 0) (get_or s (6 * i + 3) 0) (byte (6 * i + 2)),
      high_is (get_or s (6 * i + 2) 0) (get_or s (6 * i + 3) 0) (byte (6 * i + 2)) (byte (6 * i + 3)),
      low-is (get_or s (6 * i + 4) 0) (get_or s (6 * i + 5) 0) (byte (6 * i + 4)),
      high_is (get_or s (6 * i + 4) 0) (get_or s (6 * i + 5) 0) (byte (6 * i + 4)) (byte (6 * i + 5)),
    )

-- ## record by record

module _ (form : Form) (choice : List ℕ) (c : Choice form choice) (six : (r : Record) → bytes_of form r ≡ six_bytes r) (short : length choice ≤ 7)
    (s : List ℕ) (byte : (k : ℕ) → get_or s k 0 < 256) (whole : length s % 6 ≡ 0) (each : (i : ℕ) → i < records s → Textual form (record_at s i))
    (few : records s ≤ most form) where
  abbrev line_at : ℕ → List ℕ
  line_at i = show_record choice (record_at s i)

  -- so many entries are left behind the first i
  module _ (i : ℕ) (h : suc i ≤ records s) (left : ℕ) (more : List ℕ) where
    grown : take (6 * i) s ++ bytes_of form (record_at s i) ≡ take (6 * suc i) s
    grown =
        let e : 6 * suc i ≡ 6 * i + 6 = omega arith in
        ap (λ (x : List ℕ). take (6 * i) s ++ x) (six (record_at s i) ∙ same_bytes s byte i (omega arith)) ∙ sym (ap (λ (n : ℕ). take n s) e ∙ take-add (6 * i) 6 s)

    one_more : read_lines form (suc left) (suc i) (take (6 * i) s) (lines (line_at i ++ more)) ≡ read_lines form left (suc (suc i)) (take (6 * suc i) s) (lines more)
    one_more =
        let r = record_at s i in
        let t = each i h in
        let a = small-a s byte i in
        let b = small_b s byte i in
        ap (read_lines form (suc left) (suc i) (take (6 * i) s)) (lines-shown form choice c r t a b more)
        ∙ line-entry form left (suc i) (take (6 * i) s) (body_of form choice c r t a b) (lines more) r (line-shown form choice c r t a b)
        ∙ ap (λ (x : List ℕ). read_lines form left (suc (suc i)) x (lines more)) grown

  through : (i left : ℕ) → i ≤ records s → (more : List ℕ)
      → read_lines form (left + i) 1 [] (lines (pages.lines line_at i ++ more)) ≡ read_lines form left (suc i) (take (6 * i) s) (lines more)
  unfolding pages.lines
  through zero left h more = let e : left + 0 ≡ left = omega arith in ap (λ (k : ℕ). read_lines form k 1 [] (lines more)) e
  through (suc i) left h more =
      let e : left + suc i ≡ suc left + i = omega arith in
      ap₂ (λ (k : ℕ) (x : List ℕ). read_lines form k 1 [] (lines x)) e (append_assoc (pages.lines line_at i) (line_at i) more)
      ∙ through i (suc left) (omega arith) (line_at i ++ more)
      ∙ one_more i h left more

  lines-back : read_lines form (most form) 1 [] (lines (pages.lines line_at (records s))) ≡ Entries s
  lines-back =
      let n = records s in
      let e : most form ≡ (most form - n) + n = omega arith in
      ap₂ (λ (k : ℕ) (x : List ℕ). read_lines form k 1 [] (lines x)) e (sym (append-nil (pages.lines line_at n)))
      ∙ through n (most form - n) (omega arith) []
      ∙ no_lines form (most form - n) (suc n) (take (6 * n) s)
      ∙ ap Entries (take_all (6 * n) s (omega (arith, whole)))

  -- no such text begins with the mark, or is too long
  pub text-back : mark_length (show_records choice s) ≡ 0 → 28 * most form ≤ 524288 → read_text form (show_records choice s) ≡ Entries s
  unfolding read_text lines_of show_records
  text-back m l =
      let k : length (show_records choice s) ≤ 524288 = omega (arith, records-length choice s short byte) in
      rw (le-ltb 524288 (length (show_records choice s)) k, m) lines-back

records-six : (r : Record) → bytes_of Records r ≡ six_bytes r
unfolding bytes_of
records-six r = refl

claims-six : (r : Record) → bytes_of Claims r ≡ six_bytes r
unfolding bytes_of
claims-six r = refl

pub round_trip : RoundTrip
round_trip s h few =
    text-back Records (ascii "scanner") scanner records-six (omega arith) s h.bytes h.whole (λ i l. book-textual (record_at s i) (h.each i l)) few (shown-mark (ascii "scanner") s) (omega arith)

pub claims-round-trip : ClaimsRoundTrip
claims-round-trip s h few =
    text-back Claims (ascii "sheets") sheets claims-six (omega arith) s h.bytes h.whole (λ i l. claim-textual (record_at s i) (h.each i l)) few (shown-mark (ascii "sheets") s) (omega arith)
