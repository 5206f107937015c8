-- A filter of bits in words of 64: which are set, and where a search begins that the filter may spare. Assumes nothing.
use Rattle.std.specs.Prelude.{◌≡◌, List, Bool, true, false, ◌&&◌, ℕ, ◌/◌, ◌%◌, ◌^◌, eqb, get_or}
use Rattle.std.specs.Int.Bits.{bit_and}
use Rattle.records.specs.Key.{slot_of, other_slot}

-- bit k is set
unfoldable pub met : List ℕ → ℕ → Bool
met m k = eqb (get_or m (k / 64) 0 / 2 ^ (k % 64) % 2) 1

-- m' has bit k, and the bits of m
pub record Marked (m m' : List ℕ) (k : ℕ) : Type 0 where
  pub hit : met m' k ≡ true
  pub kept : (j : ℕ) → met m j ≡ true → met m' j ≡ true

-- both bits of a key are set, each in its place within the mask of a filter
unfoldable pub noted : ℕ → List ℕ → ℕ → Bool
noted mask m key = met m (bit_and (slot_of key) mask) && met m (bit_and (other_slot key) mask)

-- m' has the key, and the keys of m; t is true where m had the key, and perhaps elsewhere
pub record Noted (mask : ℕ) (m m' : List ℕ) (key : ℕ) (t : Bool) : Type 0 where
  pub hit : noted mask m' key ≡ true
  pub kept : (x : ℕ) → noted mask m x ≡ true → noted mask m' x ≡ true
  pub told : noted mask m key ≡ true → t ≡ true

-- the first of i places to look at
abbrev pub start : Bool → ℕ → ℕ
start true i = 0
start false i = i
