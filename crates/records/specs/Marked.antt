-- The pieces that a book marks as void: those that some record of kind 6 names. Assumes nothing.
use Rattle.std.specs.Prelude.{ℕ, Bool, ◌&&◌, List, eqb}
use Rattle.lists.specs.Any.{any_below}
use Rattle.records.specs.declared.Record.{Record}
use Rattle.records.specs.Record.{record_at, records}
use Rattle.records.specs.Pieces.{marking}

-- a record that marks piece g
unfoldable pub marks : ℕ → Record → Bool
marks g r = marking r && eqb r.a g

-- some of the first n records does
abbrev pub marked_up_to : List ℕ → ℕ → ℕ → Bool
marked_up_to s n g = any_below (λ i. marks g (record_at s i)) n

unfoldable pub marked : List ℕ → ℕ → Bool
marked s g = marked_up_to s (records s) g
