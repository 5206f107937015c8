-- What the call comes to, from its input alone: the outcome, the window handed back, and every byte of the output. Assumes nothing.
use Rattle.records.specs.Refused.{Finding, refused_at}
use Rattle.outcomes.specs.Accepted.{Outcome, accepted_with}
use Rattle.std.specs.Prelude.{ℕ, ◌*◌, ◌%◌, ◌≡◌, Bool, true, false, not, ◌||◌, List, [], eqb, ltb, leb, length, get_or, Err, Ok}
use Rattle.lists.specs.Any.{any_below}
use Rattle.lists.specs.Front.{front}
use Rattle.rules.specs.Fact.{APART}
use Rattle.rules.specs.Follows.{follows}
use Rattle.records.specs.Facts.{facts}
use Rattle.records.specs.Marked.{marked}
use Rattle.records.specs.Check.{book_check}
use Rattle.records.specs.Refusal.{row, judge, scan}
use Rattle.records.specs.declared.Refusal.TheVariants.{ShortBuffer, LogLength, ReplicatePiece}
use Rattle.outcomes.specs.Call.{by_book}
use Rattle.replicates.specs.declared.Window.{Window}
use Rattle.replicates.specs.declared.Replicated.{Replicated}
use Rattle.replicates.specs.Log.{entry_count, entry_at, handed, sequence, window_of}
use Rattle.replicates.specs.Before.{bytes_from}

-- ---- the outcome: 1, the book's rows, 14, then 20 and 21

-- 20: a part of odd length, or of more than 32,768 entries
abbrev pub bad_length : List ℕ → Bool
bad_length log = not (eqb (length log % 2) 0) || ltb 32768 (entry_count log)

-- 21: a window of more than 31 pieces, or with one beyond the book's
abbrev pub bad_window : ℕ → Window → Bool
bad_window n w = ltb 31 w.count || any_below (λ j. leb n (get_or w.pieces j 0)) w.count

abbrev pub part_finding : ℕ → Window → List ℕ → Finding
part_finding n w log = row (bad_length log) LogLength (row (bad_window n w) ReplicatePiece (Ok tt))

-- 21: an entry beyond the book's pieces
abbrev pub entry_finding : ℕ → List ℕ → ℕ → Finding
entry_finding n log i = row (leb n (entry_at log i)) ReplicatePiece (Ok tt)

unfoldable pub by_part : Window → List ℕ → Outcome → Outcome
by_part w log (Err r) = Err r
by_part w log (Ok n) =
    judge (λ r. refused_at r 0) (scan refused_at (accepted_with n.pieces n.nodes n.shadows) (entry_finding n.pieces log) 0 (entry_count log)) (part_finding n.pieces w log)

-- of a book, a window, a part of the log and so many bytes of output
unfoldable pub outcome : List ℕ → Window → List ℕ → ℕ → Outcome
outcome s w log room = elim (ltb room (2 * entry_count log)) [ true ↦ refused_at ShortBuffer 0 | false ↦ by_part w log (by_book s [] (book_check s)) ]

-- ---- bytes and window

-- x and y are certainly APART in a book of n pieces
abbrev pub apart_in : List ℕ → ℕ → ℕ → ℕ → Bool
apart_in s n x y = follows (marked s) n (facts s) (APART x y)

unfoldable pub bytes_in : List ℕ → ℕ → Window → List ℕ → List ℕ
bytes_in s n w log = bytes_from (apart_in s n) (sequence w log) (length (handed w)) (entry_count log)

unfoldable pub left : List ℕ → Window → List ℕ → List ℕ → Outcome → List ℕ
left s w log out (Err r) = out
left s w log out (Ok n) = front (bytes_in s n.pieces w log) out

unfoldable pub handed_back : Window → List ℕ → Outcome → Window
handed_back w log (Err r) = w
handed_back w log (Ok n) = window_of (sequence w log)

pub record Determined (s : List ℕ) (w : Window) (log out : List ℕ) (r : Replicated) (out' : List ℕ) : Type 0 where
  pub outcome-is : r.outcome ≡ outcome s w log (length out)
  pub window-is : r.window ≡ handed_back w log r.outcome
  pub bytes-are : out' ≡ left s w log out r.outcome
