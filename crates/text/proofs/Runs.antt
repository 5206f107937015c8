-- The laws of `run` and `behind`, and a word by its place. Assumes nothing.
use Prim.Native.Nat.{ℕ, ◌+◌, ◌-◌, ◌≤◌, ◌<◌}
use mathlib.Core.Path.{◌≡◌, refl, sym, ap, ◌∙◌}
use mathlib.Core.Bool.{Bool, true, false}
use mathlib.Core.List.{List, [], ◌∷◌}
use native.Mathlib.Omega.{arith}
use lib.ListN.{length, take, drop, get_or, length-drop, drop_of_length-le}
use lib.Seq.{drop-drop}
use Rattle.lists.proofs.Parts.{here}
use Rattle.lists.proofs.Bools.{Known, is_true, is_false, known}
use Rattle.text.specs.declared.words.Sort.TheVariants.{Blank, Letter}
use Rattle.text.specs.Runs.{of_sort, run, behind}
use Rattle.text.specs.Word.{word, rest}
use Rattle.text.specs.Reading.{WordAt}

module _ (f : ℕ → Bool) where
  pub run-yes : (x : ℕ) (xs : List ℕ) → f x ≡ true → run f (x ∷ xs) ≡ x ∷ run f xs
  unfolding run
  run-yes x xs e = rw (e, run)

  pub run-no : (x : ℕ) (xs : List ℕ) → f x ≡ false → run f (x ∷ xs) ≡ []
  unfolding run
  run-no x xs e = rw (e, run)

  pub behind-yes : (x : ℕ) (xs : List ℕ) → f x ≡ true → behind f (x ∷ xs) ≡ behind f xs
  unfolding behind
  behind-yes x xs e = rw (e, behind)

  pub behind-no : (x : ℕ) (xs : List ℕ) → f x ≡ false → behind f (x ∷ xs) ≡ x ∷ xs
  unfolding behind
  behind-no x xs e = rw (e, behind)

  -- the length of a run that begins at a place
  pub runs_on : (l : List ℕ) (i : ℕ) → i < length l → f (get_or l i 0) ≡ true → length (run f (drop i l)) ≡ 1 + length (run f (drop (i + 1) l))
  runs_on l i h e = ap (λ (m : List ℕ). length (run f m)) (here l i 0 h) ∙ ap length (run-yes (get_or l i 0) (drop (i + 1) l) e) ∙ omega arith

  pub runs-off : (l : List ℕ) (i : ℕ) → i < length l → f (get_or l i 0) ≡ false → length (run f (drop i l)) ≡ 0
  runs-off l i h e = ap (λ (m : List ℕ). length (run f m)) (here l i 0 h) ∙ ap length (run-no (get_or l i 0) (drop (i + 1) l) e)

  pub runs-out : (l : List ℕ) (i : ℕ) → length l ≤ i → length (run f (drop i l)) ≡ 0
  unfolding run
  runs-out l i h = rw (drop_of_length-le l h)

  -- a run and what is behind it, cut off by its length
  pub run-taken : (l : List ℕ) → take (length (run f l)) l ≡ run f l
  unfolding run
  run-taken [] = refl
  run-taken (x ∷ xs) = pick (known (f x)) (run-taken xs)
    where
      pick : Known (f x) → take (length (run f xs)) xs ≡ run f xs → take (length (run f (x ∷ xs))) (x ∷ xs) ≡ run f (x ∷ xs)
      pick (is_true e) r = rw (run-yes x xs e) (ap (λ (m : List ℕ). x ∷ m) r)
      pick (is_false e) r = rw (run-no x xs e)

  pub run-dropped : (l : List ℕ) → drop (length (run f l)) l ≡ behind f l
  unfolding run behind
  run-dropped [] = refl
  run-dropped (x ∷ xs) = pick (known (f x)) (run-dropped xs)
    where
      pick : Known (f x) → drop (length (run f xs)) xs ≡ behind f xs → drop (length (run f (x ∷ xs))) (x ∷ xs) ≡ behind f (x ∷ xs)
      pick (is_true e) r = rw (run-yes x xs e, behind-yes x xs e) r
      pick (is_false e) r = rw (run-no x xs e, behind-no x xs e)

  pub run_short : (l : List ℕ) → length (run f l) ≤ length l
  unfolding run
  run_short [] = omega arith
  run_short (x ∷ xs) = pick (known (f x)) (run_short xs)
    where
      pick : Known (f x) → length (run f xs) ≤ length xs → length (run f (x ∷ xs)) ≤ length (x ∷ xs)
      pick (is_true e) r = rw (run-yes x xs e) (omega arith)
      pick (is_false e) r = rw (run-no x xs e) (omega arith)

  -- the same of a run between two places
  module _ (l : List ℕ) (p q : ℕ) (h : p ≤ length l) (e : q ≡ p + length (run f (drop p l))) where
    pub ends-in : (p ≤ q) × (q ≤ length l)
    ends-in = (omega arith, omega (arith, run_short (drop p l), length-drop p l))

    pub between : take (q - p) (drop p l) ≡ run f (drop p l)
    between = let n : q - p ≡ length (run f (drop p l)) = omega arith in ap (λ (k : ℕ). take k (drop p l)) n ∙ run-taken (drop p l)

    pub beyond : drop q l ≡ behind f (drop p l)
    beyond = ap (λ (k : ℕ). drop k l) e ∙ sym (drop-drop (length (run f (drop p l))) p l) ∙ run-dropped (drop p l)

pub word_at : (l : List ℕ) (at from to : ℕ) → at ≤ length l → from ≡ at + length (run (of_sort Blank) (drop at l))
    → to ≡ from + length (run (of_sort Letter) (drop from l)) → WordAt l at from to
unfolding word rest
word_at l at from to h d e =
    let b = ends-in (of_sort Blank) l at from h d in
    let w = ends-in (of_sort Letter) l from to b.1 e in
    let skipped : drop from l ≡ behind (of_sort Blank) (drop at l) = beyond (of_sort Blank) l at from h d in
    record {
      ordered = w.0;
      inside = w.1;
      is = between (of_sort Letter) l from to b.1 e ∙ ap (run (of_sort Letter)) skipped;
      left = beyond (of_sort Letter) l from to b.1 e ∙ ap (behind (of_sort Letter)) skipped;
    }
