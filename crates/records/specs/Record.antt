-- Record i of a run of bytes: six bytes, no header. Kind, origin, then a and b as 16-bit numbers, low byte first.
-- Assumes nothing.
use Rattle.std.specs.Prelude.{ℕ, ◌+◌, ◌*◌, ◌/◌, List, length, get_or}
use Rattle.records.specs.declared.Record.{Record}

-- a 16-bit number, low byte first
abbrev pub pair : ℕ → ℕ → ℕ
pair low high = low + 256 * high

unfoldable pub record_at : List ℕ → ℕ → Record
record_at s i =
    record {
      kind = get_or s (6 * i) 0;
      origin = get_or s (6 * i + 1) 0;
      a = pair (get_or s (6 * i + 2) 0) (get_or s (6 * i + 3) 0);
      b = pair (get_or s (6 * i + 4) 0) (get_or s (6 * i + 5) 0);
    }

-- how many whole records
abbrev pub records : List ℕ → ℕ
records s = length s / 6
