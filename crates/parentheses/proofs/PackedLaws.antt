-- Bits in bytes: how many there are, which stands where, and what a store of one does.
-- Assumes nothing.
use mathlib.Core.Path.{◌≡◌, ◌∙◌}
use mathlib.Core.Bool.{true, false}
use mathlib.Core.List.{List}
use Prim.Native.Nat.{ℕ, ◌*◌, ◌/◌, ◌%◌, ◌^◌, ◌<◌}
use native.Mathlib.Decide.{ℕ_discrete}
use native.Mathlib.Omega.{arith}
use lib.Bits.{bit_or}
use lib.ListN.{get_or, length, set, length-set}
use lib.Seq.{ext_get_or, get_or-set_same, get_or-set_other}
use Rattle.parentheses.specs.Bits.{bits, bit_of}
use Rattle.lists.proofs.Tabs.{tab-at, tab-length}
use Rattle.parentheses.proofs.Masks.{set_same, set_other}

pub bits-length : (l : List ℕ) → length (bits l) ≡ 8 * length l
unfolding bits
bits-length l = tab-length (bit_of l) 0 (8 * length l)

pub bits_at : (l : List ℕ) (k : ℕ) → k < 8 * length l → get_or (bits l) k false ≡ bit_of l k
unfolding bits
bits_at l k h = tab-at (bit_of l) (8 * length l) k false h

-- ---- a store of bit k
module _ (l : List ℕ) (k : ℕ) (h : k < 8 * length l) where
  abbrev byte : ℕ
  byte = bit_or (get_or l (k / 8) 0) (2 ^ (k % 8))

  abbrev stored : List ℕ
  stored = set l (k / 8) byte

  stored_at : (i : ℕ) → i < length (bits stored) → bit_of stored i ≡ get_or (set (bits l) k true) i false
  unfolding bit_of
  stored_at i g =
      let within : i < 8 * length l = rw (bits-length stored, length-set) at g in
      elim (ℕ_discrete i k) [
        | yes e ↦ rw (e, get_or-set_same l (k / 8) byte 0 (omega arith), set_same, get_or-set_same (bits l) k true false (rw bits-length h))
        | no n ↦ rw (get_or-set_other (bits l) k i true false n, bits_at l i within)
            (elim (ℕ_discrete (i / 8) (k / 8)) [
              | yes e ↦ rw (e, get_or-set_same l (k / 8) byte 0 (omega arith), set_other (get_or l (k / 8) 0) (k % 8) (i % 8) (omega arith))
              | no m ↦ rw (get_or-set_other l (k / 8) (i / 8) byte 0 m)
            ])
      ]

  pub bits_put : bits stored ≡ set (bits l) k true
  bits_put =
      ext_get_or false (bits stored) (set (bits l) k true) (simp (bits-length, length-set))
      (λ i g. bits_at stored i (rw bits-length at g) ∙ stored_at i g)
