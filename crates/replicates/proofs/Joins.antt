-- `parts_join`: a log sent in parts gives the bytes of the whole log, and the same window. Assumes nothing.
use Rattle.std.specs.Prelude.{Err, Ok}
use Rattle.records.specs.Refused.{refused_at}
use Rattle.outcomes.specs.Accepted.{Outcome, accepted_with}
use Prim.Native.Nat.{ℕ, ◌+◌, ◌-◌, ◌*◌, ◌/◌, ◌%◌, ◌<◌, ◌≤◌}
use mathlib.Core.Path.{◌≡◌, refl, sym, ap, ap₂, ◌∙◌}
use mathlib.Core.Logic.{◌⊎◌, inl, inr}
use mathlib.Core.List.{List, [], ◌∷◌, ◌++◌, append-nil, append_assoc}
use native.Mathlib.Decide.{dec_lt}
use native.Mathlib.Omega.{arith}
use borrow.Author.Tests.{le-ltb}
use lib.Dec.{ltb}
use lib.ListN.{length, get_or, drop, length-append, length-drop, get_or-append}
use lib.Seq.{get_or-append-add, ext_get_or, take-append_seam, drop-append-le, drop-drop}
use Rattle.lists.proofs.Bools.{Known, is_true, is_false, known}
use Rattle.lists.proofs.Tabs.{tab-at}
use Rattle.parentheses.specs.Padded.{padded}
use Rattle.records.specs.Check.{book_check}
use Rattle.records.specs.declared.Refusal.{Refusal}
use Rattle.records.specs.declared.Refusal.TheVariants.{ShortBuffer}
use Rattle.outcomes.specs.Call.{by_book}
use Rattle.replicates.specs.declared.Window.{Window}
use Rattle.replicates.specs.Before.{bytes_from}
use Rattle.replicates.specs.Log.{entry_count, entry_at, entries, handed, sequence, last_of, window_of}
use Rattle.replicates.specs.Call.{by_part, outcome, apart_in, bytes_in}
use Rattle.replicates.specs.Writing.{Fits}
use Rattle.replicates.specs.Join.{whole, bytes_sent, window_sent, PartsJoin}
use Rattle.replicates.proofs.Same.{bytes_same}
use Rattle.replicates.proofs.Shift.{bytes-shift, bytes-split}
use Rattle.replicates.proofs.Sequences.{entries-length, sequence-length, last-length}
use Rattle.replicates.proofs.Rows.{passes, passed, all-passes}

listed : (log : List ℕ) (i : ℕ) → i < entry_count log → get_or (entries log) i 0 ≡ entry_at log i
unfolding entries
listed log i l = tab-at (entry_at log) (entry_count log) i 0 l

-- a window that is handed back is the last entries
handed-back : (xs : List ℕ) → handed (window_of xs) ≡ last_of xs
unfolding handed window_of padded
handed-back xs = take-append_seam (last_of xs) _

-- the last of a list and of what is left of it
last-drop : (xs : List ℕ) (k : ℕ) → k ≤ length xs - 31 → last_of xs ≡ last_of (drop k xs)
unfolding last_of
last-drop xs k l =
    let e : k + (length (drop k xs) - 31) ≡ length xs - 31 = omega (arith, length-drop k xs) in
    ap (λ (j : ℕ). drop j xs) (sym e) ∙ sym (drop-drop (length (drop k xs) - 31) k xs)

-- ---- two parts as one

-- whole entries, then others
abbrev Even : List ℕ → Type 0
Even log = length log % 2 ≡ 0

module _ (a b : List ℕ) (even : Even a) where
  pub count-append : entry_count (a ++ b) ≡ entry_count a + entry_count b
  count-append = ap (λ (k : ℕ). k / 2) (length-append a b) ∙ omega arith

  first_entry : (i : ℕ) → i < entry_count a → entry_at (a ++ b) i ≡ entry_at a i
  first_entry i l =
      ap₂ (λ (x y : ℕ). x + 256 * y) (get_or-append a b 0 (2 * i) (omega arith)) (get_or-append a b 0 (2 * i + 1) (omega arith))

  next-entry : (i : ℕ) → entry_at (a ++ b) (entry_count a + i) ≡ entry_at b i
  next-entry i =
      let e : 2 * (entry_count a + i) ≡ length a + 2 * i = omega arith in
      let f : 2 * (entry_count a + i) + 1 ≡ length a + (2 * i + 1) = omega arith in
      ap₂ (λ (x y : ℕ). get_or (a ++ b) x 0 + 256 * get_or (a ++ b) y 0) e f
      ∙ ap₂ (λ (x y : ℕ). x + 256 * y) (get_or-append-add a b (2 * i) 0) (get_or-append-add a b (2 * i + 1) 0)

  entries-append : entries (a ++ b) ≡ entries a ++ entries b
  entries-append =
      ext_get_or 0 (entries (a ++ b)) (entries a ++ entries b)
      (entries-length (a ++ b) ∙ count-append ∙ sym (length-append (entries a) (entries b) ∙ ap₂ ◌+◌ (entries-length a) (entries-length b)))
      (λ i l. let k : i < entry_count (a ++ b) = omega (arith, l, entries-length (a ++ b)) in listed (a ++ b) i k ∙ at i (omega (arith, k, count-append)) (dec_lt i (entry_count a)))
    where
      at : (i : ℕ) → i < entry_count a + entry_count b → Dec (i < entry_count a) → entry_at (a ++ b) i ≡ get_or (entries a ++ entries b) i 0
      at i l (yes h) = first_entry i h ∙ sym (get_or-append (entries a) (entries b) 0 i (omega (arith, h, entries-length a)) ∙ listed a i h)
      at i l (no h) =
          let e : entry_count a + (i - entry_count a) ≡ i = omega arith in
          let f : length (entries a) + (i - entry_count a) ≡ i = omega (arith, e, entries-length a) in
          ap (entry_at (a ++ b)) (sym e)
          ∙ next-entry (i - entry_count a)
          ∙ sym (listed b (i - entry_count a) (omega arith))
          ∙ sym (get_or-append-add (entries a) (entries b) (i - entry_count a) 0)
          ∙ ap (λ (k : ℕ). get_or (entries a ++ entries b) k 0) f

module _ (w : Window) (a b : List ℕ) (even : Even a) where
  -- the sequence of both, and that of the second with the window of the first
  both : sequence w (a ++ b) ≡ sequence w a ++ entries b
  unfolding sequence
  both = ap (λ (l : List ℕ). handed w ++ l) (entries-append a b even) ∙ sym (append_assoc (handed w) (entries a) (entries b))

  abbrev gone : ℕ
  gone = length (sequence w a) - 31

  second : sequence (window_of (sequence w a)) b ≡ drop gone (sequence w a ++ entries b)
  unfolding sequence last_of
  second = ap (λ (l : List ℕ). l ++ entries b) (handed-back (sequence w a)) ∙ sym (drop-append-le gone (sequence w a) (entries b) (omega arith))

  kept-length : length (handed (window_of (sequence w a))) ≡ length (sequence w a) - gone
  kept-length = ap length (handed-back (sequence w a)) ∙ last-length (sequence w a)

  near : (gone ≡ 0) ⊎ (31 ≤ length (handed (window_of (sequence w a))))
  near = pick (dec_lt (length (sequence w a)) 31)
    where
      pick : Dec (length (sequence w a) < 31) → (gone ≡ 0) ⊎ (31 ≤ length (handed (window_of (sequence w a))))
      pick (yes l) = inl (omega arith)
      pick (no l) = inr (omega (arith, kept-length))

  join-bytes : (s : List ℕ) (n : ℕ) → bytes_in s n w (a ++ b) ≡ bytes_in s n w a ++ bytes_in s n (window_of (sequence w a)) b
  unfolding bytes_in
  join-bytes s n =
      let R = apart_in s n in
      let xs = sequence w a ++ entries b in
      let c = length (handed w) in
      let k = length (handed (window_of (sequence w a))) in
      let e : c + entry_count a ≡ gone + k = omega (arith, sequence-length w a, kept-length) in
      ap₂ (λ (l : List ℕ) (m : ℕ). bytes_from R l c m) both (count-append a b even)
      ∙ bytes-split R xs c (entry_count a) (entry_count b)
      ∙ ap₂ ◌++◌
      (bytes_same R R xs (sequence w a) (length (sequence w a))
      (λ j q l m. ap₂ R (get_or-append (sequence w a) (entries b) 0 j l) (get_or-append (sequence w a) (entries b) 0 q m))
      c (entry_count a) (omega (arith, sequence-length w a)))
      (ap (λ (j : ℕ). bytes_from R xs j (entry_count b)) e
      ∙ bytes-shift R xs gone k (entry_count b) near
      ∙ ap (λ (l : List ℕ). bytes_from R l k (entry_count b)) (sym second))

  join-window : window_of (sequence w (a ++ b)) ≡ window_of (sequence (window_of (sequence w a)) b)
  unfolding window_of
  join-window = ap (λ (l : List ℕ). record { pieces = padded 0 31 l; count = length l }) last-same
    where
      long : length (sequence w a ++ entries b) ≡ length (sequence w a) + length (entries b)
      long = length-append (sequence w a) (entries b)

      last-same : last_of (sequence w (a ++ b)) ≡ last_of (sequence (window_of (sequence w a)) b)
      last-same = ap last_of both ∙ last-drop (sequence w a ++ entries b) gone (omega (arith, long)) ∙ ap last_of (sym second)

-- ---- acceptance

pub sent_is :
    (s : List ℕ) (w : Window) (log : List ℕ) (room n nodes shadows : ℕ) → outcome s w log room ≡ accepted_with n nodes shadows
    → (by_book s [] (book_check s) ≡ accepted_with n nodes shadows) × Even log × Fits n w log
unfolding outcome by_part
sent_is s w log room n nodes shadows e = first (known (ltb room (2 * entry_count log)))
  where
    never : (r : Refusal) (i : ℕ) → refused_at r i ≡ accepted_with n nodes shadows → ⊥
    never r i q = let z : ◌≡◌ {A = ℕ} 0 1 = cc in omega arith

    go : (o : Outcome) → by_book s [] (book_check s) ≡ o → by_part w log o ≡ accepted_with n nodes shadows → (by_book s [] (book_check s) ≡ accepted_with n nodes shadows) × Even log × Fits n w log
    go (Err r) q h = absurd (never r.refusal r.place h)
    go (Ok m) q h =
        let p = passes m.pieces m.nodes m.shadows log w {a = n} {b = nodes} {c = shadows} h in
        let z = p.1 in
        let k : m.pieces ≡ n = cc in
        (q ∙ z, passed m.pieces m.nodes m.shadows log w {a = n} {b = nodes} {c = shadows} h, rw k at p.0)

    first : Known (ltb room (2 * entry_count log)) → (by_book s [] (book_check s) ≡ accepted_with n nodes shadows) × Even log × Fits n w log
    first (is_true t) = absurd (never ShortBuffer 0 (sym (rw (t, outcome)) ∙ e))
    first (is_false t) = go (by_book s [] (book_check s)) refl (sym (rw (t, outcome)) ∙ e)

unsent :
    (s : List ℕ) (w : Window) (log : List ℕ) (room n nodes shadows : ℕ) → 2 * entry_count log ≤ room → by_book s [] (book_check s) ≡ accepted_with n nodes shadows → Even log → Fits n w log
    → outcome s w log room ≡ accepted_with n nodes shadows
unfolding outcome
unsent s w log room n nodes shadows l e even F =
    rw (le-ltb room (2 * entry_count log) l, outcome) (ap (by_part w log) e ∙ all-passes n nodes shadows log w even F)

fits_both : (n : ℕ) (w v : Window) (a b : List ℕ) → Even a → entry_count (a ++ b) ≤ 32768 → Fits n w a → Fits n v b → Fits n w (a ++ b)
fits_both n w v a b even few F G =
    record { few = few; short = F.short; window = F.window; entries = λ i l. at i (omega (arith, l, count-append a b even)) (dec_lt i (entry_count a)) }
  where
    at : (i : ℕ) → i < entry_count a + entry_count b → Dec (i < entry_count a) → entry_at (a ++ b) i < n
    at i l (yes h) = rw (first_entry a b even i h) (F.entries i h)
    at i l (no h) =
        let e : entry_count a + (i - entry_count a) ≡ i = omega arith in
        rw (← e, next-entry a b even (i - entry_count a)) (G.entries (i - entry_count a) (omega arith))

even-both : (a b : List ℕ) → Even a → Even b → Even (a ++ b)
even-both a b p q = ap (λ (k : ℕ). k % 2) (length-append a b) ∙ omega arith

-- ---- any number of parts

pub parts_join : PartsJoin
unfolding whole bytes_sent window_sent
parts_join s w n nodes shadows first [] S =
    let A = sent_is s w first S.0.0 n nodes shadows S.0.1 in
    let e : first ++ [] ≡ first = append-nil first in
    record {
      bytes-are = append-nil (bytes_in s n w first) ∙ ap (bytes_in s n w) (sym e);
      window-is = ap (λ (l : List ℕ). window_of (sequence w l)) (sym e);
      accepted = λ room l k. ap (λ (x : List ℕ). outcome s w x room) e ∙ unsent s w first room n nodes shadows (rw e at l) A.0 A.1 A.2;
    }
parts_join s w n nodes shadows first (next ∷ rest) S =
    let A = sent_is s w first S.0.0 n nodes shadows S.0.1 in
    let v = window_of (sequence w first) in
    let J = parts_join s v n nodes shadows next rest S.1 in
    let more = next ++ whole rest in
    record {
      bytes-are = ap (λ (l : List ℕ). bytes_in s n w first ++ l) J.bytes-are ∙ sym (join-bytes w first more A.1 s n);
      window-is = J.window-is ∙ sym (join-window w first more A.1);
      accepted = λ room l k.
          let c = count-append first more A.1 in
          let B = sent_is s v more (2 * entry_count more) n nodes shadows (J.accepted (2 * entry_count more) (omega arith) (omega (arith, c))) in
          unsent s w (first ++ more) room n nodes shadows l A.0 (even-both first more A.1 B.1) (fits_both n w v first more A.1 k A.2 B.2);
    }
