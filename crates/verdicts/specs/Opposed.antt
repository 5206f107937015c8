-- A record that the closure of its run contradicts: a PART of a piece not marked in a marked one, a MEETS of a marked piece, an APART whose pieces
-- meet, a NOTPART whose first piece is marked or part of its second. Assumes nothing.
use Rattle.std.specs.Prelude.{ℕ, Bool, not, ◌&&◌, ◌||◌, List, eqb}
use Rattle.matrices.specs.Matrix.{bit_of, common}
use Rattle.records.specs.declared.Record.{Record}

-- by the marks and the matrices D and T
unfoldable pub opposed : (ℕ → Bool) → List ℕ → List ℕ → Record → Bool
opposed void d t r =
    ((eqb r.kind 1 && (not (void r.a) && void r.b)) || (eqb r.kind 3 && (void r.a || void r.b)))
    || ((eqb r.kind 2 && common t r.a d r.b) || (eqb r.kind 4 && (void r.a || bit_of d r.b r.a)))
