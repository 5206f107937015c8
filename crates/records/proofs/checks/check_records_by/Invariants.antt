-- `checks::check_records_by` meets its contract: the outer loop keeps what is left of the scan, the keys of the records passed, that the bit of each
-- is set, and their piece count; the inner loop keeps that no earlier key passed is the key at hand. Assumes nothing.
use Rattle.records.specs.Pieces.{pieces_up_to}
use mathlib.Core.Path.{◌≡◌}
use Prim.Native.Nat.{ℕ, ◌<◌, ◌*◌}
use lib.ListN.{length, get_or}
use Rattle.records.specs.Key.{key_at}
use Rattle.records.proofs.Books.{Left}
use Rattle.records.proofs.Filters.{AllMet}
use Rattle.records.proofs.checks.check_records_by.Given as goal

abbrev pub invariant-loop-i : goal.invariant-loop-i
invariant-loop-i l = record {
  same : length l.keys ≡ length l.initial.keys;
  counted : l.pieces ≡ pieces_up_to l.book l.i;
  keyed : (p : ℕ) → p < l.i → get_or l.keys p 0 ≡ key_at l.book (6 * p);
  met : AllMet l.mask l.book l.seen l.i;
  left : Left l.edition l.book l.n l.i;
}

abbrev pub invariant-loop-j : goal.invariant-loop-j
invariant-loop-j l = (q : ℕ) → q < l.j → get_or l.keys q 0 ≡ l.key → ⊥
