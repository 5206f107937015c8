-- A text that is read has an entry for each line with words, and each such line says its entry. Assumes nothing.
use Prim.Native.Nat.{ℕ, zero, suc, ◌+◌, ◌*◌, ◌-◌, ◌≤◌, ◌<◌, min}
use mathlib.Core.Path.{◌≡◌, refl, sym, ap, ap₂, subst, ◌∙◌}
use mathlib.Core.Bool.{Bool, true, false}
use mathlib.Core.List.{List, [], ◌∷◌, ◌++◌, append-nil, append_assoc}
use native.Mathlib.Omega.{arith}
use lib.Dec.{ltb}
use lib.ListN.{length, take, drop, get_or, length-append}
use Rattle.lists.proofs.Parts.{between}
use Rattle.records.specs.declared.Record.{Record}
use Rattle.text.specs.Tests.{if_true}
use Rattle.text.specs.declared.Form.{Form}
use Rattle.text.specs.declared.Form.TheVariants.{Records, Claims, Log}
use Rattle.text.specs.declared.Reason.{Reason}
use Rattle.text.specs.declared.Reason.TheVariants.{TooLong}
use Rattle.std.specs.Prelude.{Some, None, Ok, Err}
use Rattle.text.specs.Word.{word}
use Rattle.text.specs.Line.{Said, if_none, said, some_entry, line_of}
use Rattle.text.specs.Entry.{size, bytes_of}
use Rattle.text.specs.Text.{Reading, Entries, Broken, most, lines_of, read_lines, read_text}
use Rattle.text.specs.Lent.{entries_of}
use Rattle.text.specs.Place.{one_if, numbered_if, numbered, place_line, EntryForEach, Says, LineSaysEntry}
use Rattle.text.proofs.Loops.{Which, nothing, entry, bad, which, line-nothing, line-entry, line-bad, none_left, size_is, size_none, size-more, size-suc}

-- ## a line with a word says something

entered : (x : Said) → some_entry x ≡ Ok None → ⊥
entered (Ok e) q = let o : ◌≡◌ {A = ℕ} 0 1 = cc in omega arith
entered (Err r) q = let o : ◌≡◌ {A = ℕ} 0 1 = cc in omega arith

none-if : (w : List ℕ) (x : Said) → if_none w (Ok None) (some_entry x) ≡ Ok None → w ≡ []
none-if [] x q = refl
none-if (a ∷ w) x q = absurd (entered x q)

some-if : (w : List ℕ) (x : Said) (e : Record) → if_none w (Ok None) (some_entry x) ≡ Ok (Some e) → one_if w ≡ 1
some-if [] x e q = let o : ◌≡◌ {A = ℕ} 0 1 = cc in absurd (omega arith)
some-if (a ∷ w) x e q = refl

module _ (form : Form) (l : List ℕ) where
  no_word : line_of form l ≡ Ok None → word l ≡ []
  unfolding line_of
  no_word q = none-if (word l) (said form l) q

  a_word : (e : Record) → line_of form l ≡ Ok (Some e) → one_if (word l) ≡ 1
  unfolding line_of
  a_word e q = some-if (word l) (said form l) e q

numbered-one : (w : List ℕ) (n : ℕ) (ns : List ℕ) → one_if w ≡ 1 → numbered_if w n ns ≡ n ∷ ns
numbered-one [] n ns h = absurd (omega arith)
numbered-one (x ∷ w) n ns h = refl

module _ (n : ℕ) (l : List ℕ) (ls : List (List ℕ)) where
  numbered-none : word l ≡ [] → numbered n (l ∷ ls) ≡ numbered (suc n) ls
  unfolding numbered
  numbered-none e = ap (λ (w : List ℕ). numbered_if w n (numbered (suc n) ls)) e

  numbered-some : one_if (word l) ≡ 1 → numbered n (l ∷ ls) ≡ n ∷ numbered (suc n) ls
  unfolding numbered
  numbered-some e = numbered-one (word l) n (numbered (suc n) ls) e

-- ## how many entries there are

read_none : (form : Form) (left n : ℕ) (done : List ℕ) → read_lines form left n done [] ≡ Entries done
unfolding read_lines
read_none form left n done = refl

counted_none : (n : ℕ) → numbered n [] ≡ []
unfolding numbered
counted_none n = refl

counted : (form : Form) (left n : ℕ) (done : List ℕ) (ls : List (List ℕ)) (bytes : List ℕ) → read_lines form left n done ls ≡ Entries bytes
    → length bytes ≡ length done + size form * min left (length (numbered n ls))
counted form left n done [] bytes h =
    let q : done ≡ bytes = cc (read_none form left n done) in
    let m : min left (length (numbered n [])) ≡ 0 = omega (arith, ap length (counted_none n)) in
    omega (arith, ap length q, ap (λ (x : ℕ). size form * x) m, size_none form)
counted form zero n done (l ∷ ls) bytes h =
    let q : done ≡ bytes = cc (none_left form n done (l ∷ ls)) in
    let m : min 0 (length (numbered n (l ∷ ls))) ≡ 0 = omega arith in
    omega (arith, ap length q, ap (λ (x : ℕ). size form * x) m, size_none form)
counted form (suc left) n done (l ∷ ls) bytes h =
    choose (which (line_of form l)) (λ d e. counted form left (suc n) d ls bytes e) (λ e. counted form (suc left) (suc n) done ls bytes e)
  where
    choose : Which (line_of form l)
        → ((d : List ℕ) → read_lines form left (suc n) d ls ≡ Entries bytes → length bytes ≡ length d + size form * min left (length (numbered (suc n) ls)))
        → (read_lines form (suc left) (suc n) done ls ≡ Entries bytes → length bytes ≡ length done + size form * min (suc left) (length (numbered (suc n) ls)))
        → length bytes ≡ length done + size form * min (suc left) (length (numbered n (l ∷ ls)))
    choose (nothing w) more same =
        rw (numbered-none n l ls (no_word form l w)) (same (sym (line-nothing form left n done l ls w) ∙ h))
    choose (entry e w) more same =
        let m : min (suc left) (length (n ∷ numbered (suc n) ls)) ≡ suc (min left (length (numbered (suc n) ls))) = omega arith in
        rw (numbered-some n l ls (a_word form l e w))
        (omega (
          arith,
          more (done ++ bytes_of form e) (sym (line-entry form left n done l ls e w) ∙ h),
          length-append done (bytes_of form e),
          size_is form e,
          ap (λ (x : ℕ). size form * x) m,
          size-suc form (min left (length (numbered (suc n) ls))),
        ))
    choose (bad r w) more same = let o : ◌≡◌ {A = ℕ} 0 1 = cc (line-bad form left n done l ls r w) in absurd (omega arith)

-- ## a text is read as its lines are, unless it is too long

read-if : (b : Bool) (x y : Reading) (bytes : List ℕ) → entries_of x ≡ [] → entries_of (if_true b x y) ≡ bytes → 0 < length bytes → entries_of y ≡ bytes
read-if true x y bytes e q h = absurd (omega (arith, ap length (sym e ∙ q)))
read-if false x y bytes e q h = q

whole-if : (b : Bool) (line : ℕ) (r : Reason) (y : Reading) (bytes : List ℕ) → if_true b (Broken line r []) y ≡ Entries bytes → y ≡ Entries bytes
whole-if true line r y bytes q = let o : ◌≡◌ {A = ℕ} 0 1 = cc in absurd (omega arith)
whole-if false line r y bytes q = q

pub entry-for-each : EntryForEach
unfolding read_text
entry-for-each form text bytes h =
    counted form (most form) 1 [] (lines_of text) bytes (whole-if (ltb 524288 (length text)) 0 TooLong _ bytes h) ∙ omega arith

-- ## which line an entry was read from

-- the entries that are done stay in front
onward : (form : Form) (left n : ℕ) (done : List ℕ) (ls : List (List ℕ)) → (more : List ℕ) × (entries_of (read_lines form left n done ls) ≡ done ++ more)
onward form left n done [] = ([], ap entries_of (read_none form left n done) ∙ sym (append-nil done))
onward form zero n done (l ∷ ls) = ([], ap entries_of (none_left form n done (l ∷ ls)) ∙ sym (append-nil done))
onward form (suc left) n done (l ∷ ls) =
    choose (which (line_of form l)) (λ d. onward form left (suc n) d ls) (onward form (suc left) (suc n) done ls)
  where
    choose : Which (line_of form l) → ((d : List ℕ) → (more : List ℕ) × (entries_of (read_lines form left (suc n) d ls) ≡ d ++ more))
        → ((more : List ℕ) × (entries_of (read_lines form (suc left) (suc n) done ls) ≡ done ++ more))
        → (more : List ℕ) × (entries_of (read_lines form (suc left) n done (l ∷ ls)) ≡ done ++ more)
    choose (nothing w) f g = (g.0, ap entries_of (line-nothing form left n done l ls w) ∙ g.1)
    choose (entry e w) f g =
        let m = f (done ++ bytes_of form e) in
        (bytes_of form e ++ m.0, ap entries_of (line-entry form left n done l ls e w) ∙ m.1 ∙ append_assoc done (bytes_of form e) m.0)
    choose (bad r w) f g = ([], ap entries_of (line-bad form left n done l ls r w) ∙ sym (append-nil done))

-- entry d + k of the bytes is said by line k of those with words
abbrev Told : Form → (n d k : ℕ) → List (List ℕ) → List ℕ → Type 0
Told form n d k ls bytes = Says form n ls (get_or (numbered n ls) k 0) (take (size form) (drop (size form * (d + k)) bytes))

said-later : (form : Form) (n line : ℕ) (l : List ℕ) (ls : List (List ℕ)) (bytes : List ℕ) → Says form (suc n) ls line bytes → Says form n (l ∷ ls) line bytes
said-later form n line l ls bytes s =
    let c = s.counted in
    let e : line - n ≡ suc (line - suc n) = omega arith in
    record {
      counted = omega arith;
      entry = s.entry;
      says = ap (λ (k : ℕ). line_of form (get_or (l ∷ ls) k [])) e ∙ s.says;
      same = s.same;
    }

module _ (form : Form) where
  told : (left n d : ℕ) (done : List ℕ) (ls : List (List ℕ)) (k : ℕ) → length done ≡ size form * d
      → size form * (d + suc k) ≤ length (entries_of (read_lines form left n done ls)) → 0 < size form
      → Told form n d k ls (entries_of (read_lines form left n done ls))
  told left n d done [] k e h z = absurd (omega (arith, ap length (ap entries_of (read_none form left n done)), size-more form d (suc k), size-suc form k))
  told zero n d done (l ∷ ls) k e h z = absurd (omega (arith, ap length (ap entries_of (none_left form n done (l ∷ ls))), size-more form d (suc k), size-suc form k))
  told (suc left) n d done (l ∷ ls) k e h z =
      choose (which (line_of form l)) k h (λ b j f g. told left (suc n) (suc d) b ls j f g z) (λ g. told (suc left) (suc n) d done ls k e g z)
    where
      choose : Which (line_of form l) → (k : ℕ) → size form * (d + suc k) ≤ length (entries_of (read_lines form (suc left) n done (l ∷ ls)))
          → ((b : List ℕ) (j : ℕ) → length b ≡ size form * suc d → size form * (suc d + suc j) ≤ length (entries_of (read_lines form left (suc n) b ls))
          → Told form (suc n) (suc d) j ls (entries_of (read_lines form left (suc n) b ls)))
          → (size form * (d + suc k) ≤ length (entries_of (read_lines form (suc left) (suc n) done ls)) → Told form (suc n) d k ls (entries_of (read_lines form (suc left) (suc n) done ls)))
          → Told form n d k (l ∷ ls) (entries_of (read_lines form (suc left) n done (l ∷ ls)))
      choose (nothing w) k h more same =
          let q = ap entries_of (line-nothing form left n done l ls w) in
          rw (q, numbered-none n l ls (no_word form l w))
          (said-later form n (get_or (numbered (suc n) ls) k 0) l ls _ (same (rw q at h)))
      choose (entry x w) zero h more same =
          let q = ap entries_of (line-entry form left n done l ls x w) in
          let o = onward form left (suc n) (done ++ bytes_of form x) ls in
          let a : d + 0 ≡ d = omega arith in
          let f : size form * (d + 0) ≡ length done = omega (arith, ap (λ (y : ℕ). size form * y) a, e) in
          let s : get_or (numbered n (l ∷ ls)) 0 0 ≡ n = ap (λ (y : List ℕ). get_or y 0 0) (numbered-some n l ls (a_word form l x w)) in
          record {
            counted = omega (arith, s);
            entry = x;
            says = (let i : get_or (numbered n (l ∷ ls)) 0 0 - n ≡ 0 = omega (arith, s) in ap (λ (y : ℕ). line_of form (get_or (l ∷ ls) y [])) i ∙ w);
            same =
                sym (ap₂ (λ (y : ℕ) (t : List ℕ). take y (drop (size form * (d + 0)) t)) (sym (size_is form x)) (q ∙ o.1)
                ∙ between done (bytes_of form x) o.0 (size form * (d + 0)) (sym f));
          }
      choose (entry x w) (suc k) h more same =
          let q = ap entries_of (line-entry form left n done l ls x w) in
          let i : d + suc (suc k) ≡ suc d + suc k = omega arith in
          let j : d + suc k ≡ suc d + k = omega arith in
          let b = done ++ bytes_of form x in
          let t : Told form (suc n) (suc d) k ls (entries_of (read_lines form left (suc n) b ls)) =
          more b k (omega (arith, length-append done (bytes_of form x), size_is form x, size-suc form d, e)) (omega (arith, ap length q, ap (λ (y : ℕ). size form * y) i)) in
          rw (q, numbered-some n l ls (a_word form l x w), j)
          (said-later form n (get_or (numbered (suc n) ls) k 0) l ls _ t)
      choose (bad r w) k h more same = absurd (omega (arith, ap length (ap entries_of (line-bad form left n done l ls r w)), size-more form d (suc k), size-suc form k))

size-some : (form : Form) → 0 < size form
size-some Records = omega arith
size-some Claims = omega arith
size-some Log = omega arith

pub line-says-entry : LineSaysEntry
unfolding read_text place_line
line-says-entry form text k h =
    let z = size-some form in
    let b = ltb 524288 (length text) in
    let y = read_lines form (most form) 1 [] (lines_of text) in
    let g : 0 < length (entries_of (read_text form text)) = omega (arith, size-suc form k) in
    let q : entries_of y ≡ entries_of (read_text form text) = read-if b (Broken 0 TooLong []) y (entries_of (read_text form text)) refl refl g in
    let i : 0 + k ≡ k = omega arith in
    let j : suc k ≡ 0 + suc k = omega arith in
    rw (← q)
    (subst (λ (x : ℕ). Says form 1 (lines_of text) (place_line text k) (take (size form) (drop (size form * x) (entries_of y)))) i
    (told form (most form) 1 0 [] (lines_of text) k (sym (size_none form)) (omega (arith, ap length q, ap (λ (x : ℕ). size form * x) j)) z))
