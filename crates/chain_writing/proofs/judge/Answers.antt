-- `chain_writing::judge` meets its contract. Assumes nothing.
use mathlib.Core.Path.{refl, sym}
use Rattle.chain_writing.proofs.Replies.{by-marks, judged-clash, judged-free}
use Rattle.chain_writing.proofs.judge.Goals as goal

pub slice_bounds-settle_book-end : goal.slice_bounds-settle_book-end
slice_bounds-settle_book-end c = refl

pub settle_book-requires : goal.settle_book-requires
settle_book-requires c = (c.requires.0, refl)

pub slice_bounds-write_whole-end : goal.slice_bounds-write_whole-end
slice_bounds-write_whole-end c = sym c.settle_book.auto.voids

pub write_whole-requires : goal.write_whole-requires
write_whole-requires c =
    (c.requires.0, c.settle_book.ensures.0, c.settle_book.ensures.1.free c.in_default.is, c.if-claim-eq0.true, c.requires.1, c.requires.2, c.requires.3)

pub shape_of-c-then-claim-eq0 : goal.shape_of-c-then-claim-eq0
shape_of-c-then-claim-eq0 c = c.write_whole.auto.c

pub returns-then-claim-eq0 : goal.returns-then-claim-eq0
returns-then-claim-eq0 c =
    judged-free _ _ _ _ c.requires.0 (by-marks _ _ _ c.settle_book.ensures.0 (c.settle_book.ensures.1.free c.in_default.is)) _ c.write_whole.ensures

pub slice_bounds-write_restricted-end : goal.slice_bounds-write_restricted-end
slice_bounds-write_restricted-end c = sym c.settle_book.auto.voids

pub write_restricted-requires : goal.write_restricted-requires
write_restricted-requires c =
    let O = by-marks _ _ _ c.settle_book.ensures.0 (c.settle_book.ensures.1.free c.in_default.is) in (c.requires.0, c.settle_book.ensures.0, O.is, c.if-claim-eq0.false, c.requires.1, c.requires.2, c.requires.3)

pub returns-in-Err : goal.returns-in-Err
returns-in-Err c =
    judged-clash _ _ _ _ c.requires.0 _ _ (rw c.from.ensures at c.refuse.ensures) (rw c.settle_book.ensures.0.1 at (c.settle_book.ensures.1.clash _ c.in-Err.is))

pub shape_of-c : goal.shape_of-c
shape_of-c c = c.write_restricted.auto.c

pub returns : goal.returns
returns c =
    judged-free _ _ _ _ c.requires.0 (by-marks _ _ _ c.settle_book.ensures.0 (c.settle_book.ensures.1.free c.in_default.is)) _ c.write_restricted.ensures
