-- A fresh call on a run of records and its claims, with lent buffers that are long enough: rows 3 to 14. Assumes nothing.
use Rattle.records.specs.Refused.{BookCheck, refused_at}
use Rattle.outcomes.specs.Accepted.{Outcome}
use Rattle.std.specs.Prelude.{ℕ, List, Err, Ok}
use Rattle.records.specs.Check.{book_check}
use Rattle.outcomes.specs.Call.{by_book}

unfoldable pub fresh_call : List ℕ → List ℕ → Outcome
fresh_call s cs = by_book s cs (book_check s)

-- what it says without its counts of nodes and shadows
unfoldable pub uncounted : Outcome → BookCheck
uncounted (Err r) = Err r
uncounted (Ok n) = Ok n.pieces
