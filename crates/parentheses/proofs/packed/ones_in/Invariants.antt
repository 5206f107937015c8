-- `parentheses::packed::ones_in` meets its contract: the ones of the words before the index are counted, and those of the bytes behind all words.
-- Assumes nothing.
use mathlib.Core.Path.{◌≡◌}
use Prim.Native.Nat.{◌+◌}
use lib.ListN.{take}
use Rattle.std.specs.List.{sum_by}
use Rattle.parentheses.proofs.Ones.{word_ones}
use Rattle.parentheses.proofs.packed.ones_in.Given as goal

abbrev pub invariant-loop-word : goal.invariant-loop-word
invariant-loop-word l = l.ones ≡ l.initial.ones + sum_by word_ones (take l.word-index l.words)
