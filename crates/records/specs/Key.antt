-- The six bytes from p on as one number, and the two bits that stand for such a number in a filter. Assumes nothing.
use Rattle.std.specs.Prelude.{ℕ, ◌+◌, ◌*◌, ◌%◌, List, get_or}

abbrev pub key_at : List ℕ → ℕ → ℕ
key_at s p =
    ((((get_or s (p + 5) 0 * 256 + get_or s (p + 4) 0) * 256 + get_or s (p + 3) 0) * 256 + get_or s (p + 2) 0) * 256 + get_or s (p + 1) 0) * 256 + get_or s p 0

abbrev pub slot_of : ℕ → ℕ
slot_of key = key % 257731

abbrev pub other_slot : ℕ → ℕ
other_slot key = key % 246731
