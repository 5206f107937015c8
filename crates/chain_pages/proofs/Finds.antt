-- What the functions of the reader find, test by test. Assumes nothing.
use Prim.Native.Nat.{ℕ, zero, suc, ◌+◌, ◌*◌, ◌-◌, ◌/◌, ◌%◌, ◌≤◌, ◌<◌}
use mathlib.Core.Path.{◌≡◌, refl, sym, ap, ◌∙◌}
use mathlib.Core.List.{List}
use native.Mathlib.Numerals.{add-one}
use native.Mathlib.Decide.{dec_lt}
use native.Mathlib.Omega.{arith}
use lib.Dec.{ltb}
use lib.ListN.{length, take, drop, get_or, drop_of_length-le}
use lib.Seq.{get_or-drop}
use borrow.Author.Tests.{eq-eqb, ne_eqb, lt-ltb, le-ltb}
use Rattle.pages.specs.Text.{ascii}
use Rattle.verdicts.specs.declared.Answer.{Answer}
use Rattle.verdicts.specs.declared.Answer.TheVariants.{Follows, Denied}
use Rattle.text.specs.declared.words.Sort.TheVariants.{Digit, Gap}
use Rattle.text.specs.Runs.{of_sort, run, behind}
use Rattle.std.specs.Prelude.{Option, not, ◌==◌}
use Rattle.std.specs.Option.{unwrap_or}
use Rattle.text.specs.Number.{number}
use Rattle.lists.proofs.Parts.{here}
use Rattle.text.proofs.Runs.{ends-in, between, beyond}
use Rattle.chain_pages.specs.StepLine.{count}
use Rattle.chain_pages.specs.Read.{digits_in, after, found, num, place_in, kind_by, rule_by, rule_in, origin_by, answer_by, step_in, left_in, claim_in, answer_in}
use Rattle.chain_pages.specs.Found.{DigitsAt, FoundAt, FoundIf, StepAt, HeadOf}

-- ---- the place of a byte in a table

module _ (l : List ℕ) (x i : ℕ) where
  pub place_here : i < length l → get_or l i 0 ≡ x → place_in i (drop i l) x ≡ i
  unfolding place_in
  place_here h e = ap (λ (m : List ℕ). place_in i m x) (here l i 0 h) ∙ rw (eq-eqb (get_or l i 0) x e, place_in)

  pub place-next : i < length l → (get_or l i 0 ≡ x → ⊥) → place_in i (drop i l) x ≡ place_in (i + 1) (drop (i + 1) l) x
  unfolding place_in
  place-next h d = ap (λ (m : List ℕ). place_in i m x) (here l i 0 h) ∙ rw (ne_eqb (get_or l i 0) x d, place_in, add-one)

  pub place_none : length l ≤ i → place_in i (drop i l) x ≡ i
  unfolding place_in
  place_none h = rw (drop_of_length-le l h)

-- ---- letters

module _ (x : ℕ) where
  pub origin-sheet : x ≡ 115 → 1 ≡ origin_by x
  unfolding origin_by
  origin-sheet e = rw (eq-eqb x 115 e, origin_by)

  pub origin-all : (x ≡ 115 → ⊥) → 0 ≡ origin_by x
  unfolding origin_by
  origin-all d = rw (ne_eqb x 115 d, origin_by)

  pub answer-follows : x ≡ 70 → Follows ≡ answer_by x
  unfolding answer_by
  answer-follows e = rw (eq-eqb x 70 e, answer_by)

  pub answer-denied : (x ≡ 70 → ⊥) → Denied ≡ answer_by x
  unfolding answer_by
  answer-denied d = rw (ne_eqb x 70 d, answer_by)

module _ (s : List ℕ) (at x y : ℕ) (is : x ≡ get_or s (at + 6) 0) (is' : y ≡ get_or s (at + 7) 0) where
  same-rule : rule_by x y ≡ rule_in (drop at s)
  unfolding rule_in
  same-rule = rw (get_or-drop at s 6 0, get_or-drop at s 7 0, is, is')

  pub rule-primed : y ≡ 39 → (r : ℕ) → r ≡ place_in 0 (ascii ".....abcde") x % 256 → r ≡ rule_in (drop at s)
  unfolding rule_by
  rule-primed e r h = h ∙ (rw (eq-eqb y 39 e, rule_by) at same-rule)

  pub rule-plain : (y ≡ 39 → ⊥) → (r : ℕ) → r ≡ place_in 0 (ascii "Dabcf.....de") x % 256 → r ≡ rule_in (drop at s)
  unfolding rule_by
  rule-plain d r h = h ∙ (rw (ne_eqb y 39 d, rule_by) at same-rule)

-- ---- numbers

none_more : (from to k : ℕ) → to ≡ from + k → (from == to) ≡ not (ltb 0 k)
none_more from to k e =
    elim (dec_lt 0 k) [
      | yes h ↦ rw (ne_eqb from to (λ z. omega arith), lt-ltb 0 k h)
      | no h ↦ rw (eq-eqb from to (omega arith), le-ltb 0 k (omega arith))
    ]

module _ (s : List ℕ) (at from to : ℕ) (h : at ≤ length s) (d : from ≡ at + length (run (of_sort Gap) (drop at s))) where
  pub gap-inside : from ≤ length s
  gap-inside = (ends-in (of_sort Gap) s at from h d).1

  pub digits-at : to ≡ from + length (run (of_sort Digit) (drop from s)) → DigitsAt s at from to
  unfolding digits_in after found
  digits-at e =
      let skipped : drop from s ≡ behind (of_sort Gap) (drop at s) = beyond (of_sort Gap) s at from h d in
      let ends = ends-in (of_sort Digit) s from to gap-inside e in
      record {
        some = none_more from to _ e ∙ ap (λ (m : List ℕ). not (ltb 0 (length (run (of_sort Digit) m)))) skipped;
        is = between (of_sort Digit) s from to gap-inside e ∙ ap (run (of_sort Digit)) skipped;
        left = beyond (of_sort Digit) s from to gap-inside e ∙ ap (behind (of_sort Digit)) skipped;
        ordered = ends.0;
        inside = ends.1;
      }

pub number-found : {s : List ℕ} {at from to : ℕ} (n : Option ℕ) (v : ℕ) → DigitsAt s at from to → n ≡ number (take (to - from) (drop from s)) → v ≡ unwrap_or n 0
    → FoundAt s at v to
unfolding num
number-found n v w i j =
    record { value-is = j ∙ ap (λ m. unwrap_or m 0) (i ∙ ap number w.is); left = w.left; inside = w.inside }

module _ (n : ℕ) (s : List ℕ) (at : ℕ) where
  pub none-wanted : at ≤ length s → n ≡ 0 → FoundIf n s at 0 at
  none-wanted h e = rw e (record { value-is = refl; left = refl; inside = h })

  pub one_wanted : (v next : ℕ) → (n ≡ 0 → ⊥) → FoundAt s at v next → FoundIf n s at v next
  one_wanted v next d f = go n d
    where
      go : (k : ℕ) → (k ≡ 0 → ⊥) → FoundIf k s at v next
      go zero d = absurd (d refl)
      go (suc k) d = record { value-is = f.value-is; left = f.left; inside = f.inside }

-- ---- a step, and the first line

module _ (s : List ℕ) (at : ℕ) {a na b nb f nf g next : ℕ} (x kind rule n : ℕ) where
  pub step-found : x ≡ get_or s (at + 1) 0 → kind ≡ kind_by x → FoundAt s at a na → FoundAt s na b nb → rule ≡ rule_in (drop nb s) → n ≡ count rule
      → FoundIf n s nb f nf → FoundIf (n / 2) s nf g next
      → StepAt s at (record { rule = rule; kind = kind; a = a; b = b; first = f; second = g }) next
  unfolding step_in left_in
  step-found xe ke A B re ne F G =
      record {
        step_is =
            rw (get_or-drop at s 1 0, ← A.left, ← B.left, ← re, ← ne, ← F.left, ← xe, ← ke, ← A.value-is, ← B.value-is, ← F.value-is, ← G.value-is);
        left = rw (← A.left, ← B.left, ← re, ← ne, ← F.left) G.left;
        inside = G.inside;
      }

module _ (s : List ℕ) {a na b nb : ℕ} (x kind y origin z : ℕ) (answer : Answer) where
  pub head-found : x ≡ get_or s 0 0 → kind ≡ kind_by x → FoundAt s 0 a na → FoundAt s na b nb → y ≡ get_or s (nb + 1) 0 → origin ≡ origin_by y
      → z ≡ get_or s (nb + 1 + 7 * origin) 0 → answer ≡ answer_by z
      → HeadOf s (record { kind = kind; origin = origin; a = a; b = b }) answer nb
  unfolding claim_in answer_in
  head-found xe ke A B ye oe ze ae =
      let last : get_or s (nb + (1 + 7 * origin)) 0 ≡ z = ap (λ (i : ℕ). get_or s i 0) (omega arith) ∙ sym ze in
      let second : get_or (drop nb s) 1 0 ≡ y = get_or-drop nb s 1 0 ∙ sym ye in
      record {
        claim-is = rw (← A.left, ← B.left, second, ← xe, ← ke, ← oe, ← A.value-is, ← B.value-is);
        answer-is = rw (← A.left, ← B.left, second, ← oe, get_or-drop nb s (1 + 7 * origin) 0, last) ae;
        left = B.left ∙ ap after A.left;
        inside = B.inside;
      }
