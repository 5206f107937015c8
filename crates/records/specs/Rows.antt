-- Document 01's rows 3 to 13 and row 19, one definition each: true where the row refuses. Assumes nothing.
use Rattle.std.specs.Prelude.{ℕ, zero, suc, ◌+◌, ◌*◌, ◌%◌, Bool, true, false, ◌&&◌, ◌||◌, not, List, length, get_or, leb, ltb, eqb}
use Rattle.lists.specs.Any.{any_below}
use Rattle.records.specs.declared.Record.{Record}
use Rattle.records.specs.declared.Edition.{Edition}
use Rattle.records.specs.declared.Edition.TheVariants.{Former, Current}
use Rattle.records.specs.Record.{records}
use Rattle.records.specs.Pieces.{stated, marking, largest}

-- 3 and 10: not a multiple of 6
abbrev pub ragged : List ℕ → Bool
ragged s = not (eqb (length s % 6) 0)

-- 4 and 11: more than so many records
abbrev pub more_than : ℕ → List ℕ → Bool
more_than most s = ltb most (records s)

-- 5: a kind that the edition does not have. Both have 1 to 4, the former one TRAY too, and the one in force marks
unfoldable pub admitted : Edition → Record → Bool
admitted Former r = stated r || eqb r.kind 5
admitted Current r = stated r || marking r

abbrev pub kind_row : Edition → Record → Bool
kind_row e r = not (admitted e r)

-- 6: an origin above 1
abbrev pub origin_row : Record → Bool
origin_row r = ltb 1 r.origin

-- 7: a above 2,047, or b above it in kinds 1 to 4
abbrev pub piece_row : Record → Bool
piece_row r = ltb 2047 (largest r)

-- 19, between 7 and 8: a mark of piece 0, or one whose b is not zero
abbrev pub bad_mark : Record → Bool
bad_mark r = eqb r.a 0 || not (eqb r.b 0)

abbrev pub void_row : Record → Bool
void_row r = marking r && bad_mark r

-- 8, in the former edition alone: PART with b not below a. Today a container may have any number
abbrev pub rising : Record → Bool
rising r = eqb r.kind 1 && leb r.a r.b

unfoldable pub order_row : Edition → Record → Bool
order_row Former r = rising r
order_row Current r = false

-- n bytes from p on are those from q on
unfoldable pub same_bytes : List ℕ → ℕ → ℕ → ℕ → Bool
same_bytes s p q zero = true
same_bytes s p q (suc n) = eqb (get_or s (p + n) 0) (get_or s (q + n) 0) && same_bytes s p q n

-- 9: record i repeats an earlier one byte for byte
abbrev pub repeat_row : List ℕ → ℕ → Bool
repeat_row s i = any_below (λ j. same_bytes s (6 * i) (6 * j) 6) i

-- 12: a claim's kind not 1 to 4, or byte 1 above 1
abbrev pub claim_row : Record → Bool
claim_row r = not (stated r) || origin_row r

-- 13: a or b beyond the book's pieces
abbrev pub beyond_row : ℕ → Record → Bool
beyond_row pieces r = leb pieces (largest r)
