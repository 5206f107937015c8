-- What marks, D, T and a row of pieces tell of the claims about a piece g, as bits. Assumes nothing.
use Rattle.std.specs.Prelude.{◌≡◌, Bool, true, false, ◌&&◌, ◌||◌, List, ℕ, ◌<◌, eqb}
use Rattle.lists.specs.Any.{any_below}
use Rattle.matrices.specs.Matrix.{bit_of, common}
use Rattle.rules.specs.Fact.{fact_of}
use Rattle.records.specs.declared.Record.{Record}
use Rattle.records.specs.Record.{record_at}
use Rattle.verdicts.specs.ByMarks.{by_marks}

-- by D, one of x and g is in a, and the other in b
unfoldable pub across : List ℕ → ℕ → ℕ → ℕ → ℕ → Bool
across d g x a b = (bit_of d b g && bit_of d a x) || (bit_of d a g && bit_of d b x)

-- the record r is an APART of such a and b
unfoldable pub parting : List ℕ → ℕ → Record → ℕ → Bool
parting d g r x = eqb r.kind 2 && across d g x r.a r.b

-- row 0 of m: one of the first k records of s is such an APART
pub record Parted (d s : List ℕ) (g k : ℕ) (m : List ℕ) : Type 0 where
  pub bits : (x : ℕ) → x < 2048 → bit_of m 0 x ≡ any_below (λ i. parting d g (record_at s i) x) k

-- m' is m with the bits of f put into row 0
pub record Widened (m m' : List ℕ) (f : ℕ → Bool) : Type 0 where
  pub bits : (x : ℕ) → x < 2048 → bit_of m' 0 x ≡ (bit_of m 0 x || f x)

-- the claim of kind k, 1 to 3, about x and g: by the matrices
unfoldable pub shown : List ℕ → List ℕ → List ℕ → ℕ → ℕ → ℕ → Bool
shown d t m k g x = elim (eqb k 1) [ true ↦ bit_of d g x | false ↦ elim (eqb k 2) [ true ↦ bit_of m 0 x | false ↦ common t x d g ] ]

-- and by the marks or the matrices
unfoldable pub told : (ℕ → Bool) → List ℕ → List ℕ → List ℕ → ℕ → ℕ → ℕ → Bool
told void d t m k g x = by_marks void (fact_of k x g) || shown d t m k g x
