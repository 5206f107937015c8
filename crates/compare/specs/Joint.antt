-- The records of two books together, a shared one taken once, and whether they can be laid in ice. Assumes nothing.
use Rattle.std.specs.Prelude.{ℕ, max, Bool, not, ◌&&◌, ◌||◌, List, ◌++◌, eqb}
use Rattle.lists.specs.Any.{any_below}
use Rattle.rules.specs.Follows.{clash}
use Rattle.records.specs.declared.Record.{Record}
use Rattle.records.specs.Record.{record_at, records}
use Rattle.records.specs.Pieces.{piece_count}
use Rattle.records.specs.Facts.{facts}
use Rattle.records.specs.Kept.{kept}
use Rattle.records.specs.Marked.{marked}

-- each book counts as having the pieces of the larger
abbrev pub pieces : List ℕ → List ℕ → ℕ
pieces s t = max (piece_count s) (piece_count t)

unfoldable pub same : Record → Record → Bool
same q r = (eqb q.kind r.kind && eqb q.origin r.origin) && (eqb q.a r.a && eqb q.b r.b)

-- a run has a record
unfoldable pub has : List ℕ → Record → Bool
has s r = any_below (λ i. same (record_at s i) r) (records s)

-- the records of s, then those of t that s has not
unfoldable pub joint_run : List ℕ → List ℕ → List ℕ
joint_run s t = s ++ kept (λ r. not (has s r)) t

-- they can be laid: their facts are not contradictory with the marks of both
unfoldable pub consistent : List ℕ → List ℕ → Bool
consistent s t = not (clash (marked (joint_run s t)) (pieces s t) (facts (joint_run s t)))

-- a piece that one of the two marks
abbrev pub either_marked : List ℕ → List ℕ → ℕ → Bool
either_marked s t g = marked s g || marked t g
