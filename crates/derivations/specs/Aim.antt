-- Which stored record leads to a fact about a and b, by the matrices D and T. Assumes nothing.
use Rattle.std.specs.Prelude.{ℕ, Bool, ◌&&◌, ◌||◌, List, eqb}
use Rattle.matrices.specs.Matrix.{bit_of, common}
use Rattle.records.specs.declared.Record.{Record}
use Rattle.chain_format.specs.Step.{unordered}
use Rattle.chain_format.specs.Citing.{lets}
use Rattle.derivations.specs.declared.search.Aim.{Aim}
use Rattle.derivations.specs.declared.search.Aim.TheVariants.{Apart, Meets, NotPart, Outside}

-- the kind of the record
abbrev pub kind_for : Aim → ℕ
kind_for Apart = 2
kind_for Meets = 3
kind_for NotPart = 4
kind_for Outside = 2

-- and its pieces x and y: a in x and b in y; x in a and y in b; x in a and b in y; b in x, where a meets y
unfoldable pub joining : Aim → List ℕ → List ℕ → ℕ → ℕ → ℕ → ℕ → Bool
joining Apart d t a b x y = bit_of d x a && bit_of d y b
joining Meets d t a b x y = bit_of d a x && bit_of d b y
joining NotPart d t a b x y = bit_of d a x && bit_of d y b
joining Outside d t a b x y = bit_of d x b && common t a d y

-- a record that may be cited does so, its pieces either way round where its kind is unordered
unfoldable pub serving : Aim → Record → List ℕ → List ℕ → ℕ → ℕ → Record → Bool
serving aim claim d t a b r =
    eqb r.kind (kind_for aim)
    && (lets claim r && (joining aim d t a b r.a r.b || (unordered (kind_for aim) && joining aim d t a b r.b r.a)))
