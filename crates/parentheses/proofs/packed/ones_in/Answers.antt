-- `parentheses::packed::ones_in` meets its contract: the ones of the words, and those of the bytes behind all words.
-- Assumes nothing.
use mathlib.Core.Path.{◌≡◌, ap}
use mathlib.Core.List.{[]}
use Prim.Native.Nat.{◌+◌, ◌*◌, ◌-◌}
use native.Mathlib.Omega.{arith}
use lib.Seq.{take_all}
use Rattle.std.specs.List.{sum_by}
use Rattle.std.proofs.lemmas.List.Sums.{sum_by_more_le}
use Rattle.parentheses.specs.Bits.{bits}
use Rattle.parentheses.specs.Rank.{rank}
use Rattle.parentheses.specs.Words.{ones_in}
use Rattle.parentheses.proofs.Ones.{word_ones, counted}
use Rattle.parentheses.proofs.Ranks.{rank-le}
use Rattle.parentheses.proofs.Rankings.{rank-near}
use Rattle.parentheses.proofs.packed.ones_in.Goals as goal

pub overflow_add-ones : goal.overflow_add-ones
overflow_add-ones c =
    let l = c.args.bytes.now in
    let words = c.as_chunks.result.0.now in
    let i = c.loop-word.word-index in
    let all = counted l c.args.from c.args.to (omega arith) (omega arith) (λ i g. (c.type_inv.bytes i).fits) in
    let rest = ap (sum_by (ones_in 8)) c.as_chunks.ensures.back in
    let front = ap (sum_by word_ones) c.as_chunks.ensures.front in
    let word = ap (ones_in 8) c.from_le_bytes.ensures in
    let more = sum_by_more_le word_ones words i [] (omega arith) in
    record { fits = omega (arith, all, rest, front, word, more, rank-le (bits l) (8 * c.args.to)) }

pub returns : goal.returns
returns c =
    let l = c.args.bytes.now in
    let words = c.as_chunks.result.0.now in
    let all = counted l c.args.from c.args.to (omega arith) (omega arith) (λ i g. (c.type_inv.bytes i).fits) in
    let rest = ap (sum_by (ones_in 8)) c.as_chunks.ensures.back in
    let front = ap (sum_by word_ones) c.as_chunks.ensures.front in
    let whole = ap (sum_by word_ones) (take_all c.loop-word.word-index words (omega arith)) in
    let sum : rank (bits l) (8 * c.args.from) + c.loop-word.ones ≡ rank (bits l) (8 * c.args.to) = omega (arith, all, rest, front, whole) in
    let end : 8 * c.args.from + 8 * (c.args.to - c.args.from) ≡ 8 * c.args.to = omega arith in
    (sum, omega (arith, sum, rank-near (bits l) (8 * c.args.from) (8 * (c.args.to - c.args.from)), ap (rank (bits l)) end))
