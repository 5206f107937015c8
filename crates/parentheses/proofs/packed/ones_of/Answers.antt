-- `parentheses::packed::ones_of` meets its contract: the library's count of ones is that of each byte, together.
-- Assumes nothing.
use Rattle.parentheses.proofs.Ones.{word-count, ones_in-le}
use Rattle.parentheses.proofs.packed.ones_of.Goals as goal

pub returns : goal.returns
returns c = let e = word-count 8 c.args.w c.ranges.w.fits in (e, rw e (ones_in-le 8 c.args.w))
