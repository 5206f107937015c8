-- The lines of a text, by the places where they end. Assumes nothing.
use Prim.Native.Nat.{ℕ, ◌+◌, ◌-◌, ◌≤◌, ◌<◌}
use mathlib.Core.Path.{◌≡◌, sym, ap, ap₂, ◌∙◌}
use mathlib.Core.Bool.{true, false}
use mathlib.Core.List.{List, [], ◌∷◌}
use native.Mathlib.Omega.{arith}
use lib.Dec.{eqb}
use lib.ListN.{length, take, drop, length-drop}
use lib.Seq.{drop-drop}
use Rattle.lists.proofs.Bools.{Known, is_true, is_false, known}
use Rattle.text.specs.declared.words.Sort.TheVariants.{Inner}
use Rattle.text.specs.Runs.{of_sort, run, behind}
use Rattle.text.specs.Lines.{longer, lines}
use Rattle.text.proofs.Runs.{run-yes, run-no, behind-yes, behind-no, between, beyond}

inner-yes : (x : ℕ) → eqb x 10 ≡ false → of_sort Inner x ≡ true
unfolding of_sort
inner-yes x e = rw e

inner-no : (x : ℕ) → eqb x 10 ≡ true → of_sort Inner x ≡ false
unfolding of_sort
inner-no x e = rw e

pub line-ends : (x : ℕ) (xs : List ℕ) → eqb x 10 ≡ true → lines (x ∷ xs) ≡ [] ∷ lines xs
unfolding lines
line-ends x xs e = rw (e, lines)

pub line-longer : (x : ℕ) (xs : List ℕ) → eqb x 10 ≡ false → lines (x ∷ xs) ≡ longer x (lines xs)
unfolding lines
line-longer x xs e = rw (e, lines)

-- the first line of a list, and the lines behind the byte that ends it
abbrev cut : List ℕ → List (List ℕ)
cut l = run (of_sort Inner) l ∷ lines (drop 1 (behind (of_sort Inner) l))

first-line : (x : ℕ) (xs : List ℕ) → lines (x ∷ xs) ≡ cut (x ∷ xs)
unfolding lines run behind
first-line x [] = pick (known (eqb x 10))
  where
    pick : Known (eqb x 10) → lines (x ∷ []) ≡ cut (x ∷ [])
    pick (is_true e) = rw (line-ends x [] e, run-no (of_sort Inner) x [] (inner-no x e), behind-no (of_sort Inner) x [] (inner-no x e))
    pick (is_false e) = rw (line-longer x [] e, run-yes (of_sort Inner) x [] (inner-yes x e), behind-yes (of_sort Inner) x [] (inner-yes x e))
first-line x (y ∷ ys) = pick (known (eqb x 10)) (first-line y ys)
  where
    pick : Known (eqb x 10) → lines (y ∷ ys) ≡ cut (y ∷ ys) → lines (x ∷ y ∷ ys) ≡ cut (x ∷ y ∷ ys)
    pick (is_true e) r = rw (line-ends x (y ∷ ys) e, run-no (of_sort Inner) x (y ∷ ys) (inner-no x e), behind-no (of_sort Inner) x (y ∷ ys) (inner-no x e))
    pick (is_false e) r =
        line-longer x (y ∷ ys) e ∙ ap (longer x) r
        ∙ sym (ap₂ (λ (a b : List ℕ). a ∷ lines (drop 1 b)) (run-yes (of_sort Inner) x (y ∷ ys) (inner-yes x e)) (behind-yes (of_sort Inner) x (y ∷ ys) (inner-yes x e)))

some-line : (l : List ℕ) → 0 < length l → lines l ≡ cut l
some-line [] h = absurd (omega arith)
some-line (x ∷ xs) h = first-line x xs

-- the line at a place of a text
pub line_at : (text : List ℕ) (p e : ℕ) → p < length text → e ≡ p + length (run (of_sort Inner) (drop p text))
    → lines (drop p text) ≡ take (e - p) (drop p text) ∷ lines (drop (e + 1) text)
line_at text p e h i =
    let l : p ≤ length text = omega arith in
    some-line (drop p text) (omega (arith, length-drop p text))
    ∙ ap₂ ◌∷◌ (sym (between (of_sort Inner) text p e l i)) (ap (λ (m : List ℕ). lines (drop 1 m)) (sym (beyond (of_sort Inner) text p e l i)) ∙ ap lines (drop-drop 1 e text))
