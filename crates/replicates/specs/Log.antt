-- A part of the measurement log, 16-bit piece numbers, low byte first, and the window of entries before it, oldest first. Assumes nothing.
use Rattle.std.specs.Prelude.{ℕ, ◌+◌, ◌-◌, ◌*◌, ◌/◌, List, ◌++◌, length, get_or, take, drop}
use Rattle.lists.specs.Tab.{tab}
use Rattle.parentheses.specs.Padded.{padded}
use Rattle.records.specs.Record.{pair}
use Rattle.replicates.specs.declared.Window.{Window}

-- how many whole entries
abbrev pub entry_count : List ℕ → ℕ
entry_count log = length log / 2

-- entry i
abbrev pub entry_at : List ℕ → ℕ → ℕ
entry_at log i = pair (get_or log (2 * i) 0) (get_or log (2 * i + 1) 0)

unfoldable pub entries : List ℕ → List ℕ
entries log = tab (entry_at log) 0 (entry_count log)

-- the pieces of a window
unfoldable pub handed : Window → List ℕ
handed w = take w.count w.pieces

-- what a call looks at: the window, then the part
unfoldable pub sequence : Window → List ℕ → List ℕ
sequence w log = handed w ++ entries log

-- the last up to 31 of a sequence, and these as a window, with zeros behind them
unfoldable pub last_of : List ℕ → List ℕ
last_of xs = drop (length xs - 31) xs

unfoldable pub window_of : List ℕ → Window
window_of xs = record { pieces = padded 0 31 (last_of xs); count = length (last_of xs) }
