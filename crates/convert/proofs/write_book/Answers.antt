-- `convert::write_book` meets its contract. Assumes nothing.
use mathlib.Core.Path.{sym}
use native.Mathlib.Omega.{arith}
use lib.Seq.{length-take-le}
use Rattle.convert.proofs.Writes.{shorter, small, counted-again, all_named, room-for-one, one-named}
use borrow.Author.Rules.{rules}
use Rattle.convert.proofs.write_book.Goals as goal

pub slice_bounds-piece_count-end : goal.slice_bounds-piece_count-end
slice_bounds-piece_count-end c =
    let D = c.drop_trays-at in
    omega (arith, D.ensures.0, D.auto.out, shorter c.args.book.now, c.requires.long)

pub slice_bounds-piece_count-end-2 : goal.slice_bounds-piece_count-end-2
slice_bounds-piece_count-end-2 c =
    let D = c.drop_trays-at in
    sym (length-take-le _ _ (omega (arith, D.ensures.0, D.auto.out, shorter c.args.book.now, c.requires.long)))

pub returns-then-n-piece_count : goal.returns-then-n-piece_count
returns-then-n-piece_count c =
    let D = c.drop_trays-at in
    all_named c.args.book.now _ c.requires.former _ _ _ _ D.ensures.0 D.ensures.1 (counted-again c.args.book.now _ c.requires.former _ _ _ _ D.ensures.0 D.ensures.1 c.piece_count.ensures) c.if-n-piece_count.true

pub overflow_cast-last-2 : goal.overflow_cast-last-2
overflow_cast-last-2 c = omega (arith, small c.args.book.now _ c.requires.former)

pub copy_where-requires : goal.copy_where-requires
copy_where-requires c =
    let D = c.drop_trays-at in
    (search rules, omega (arith, D.ensures.0, D.auto.out, c.requires.long, room-for-one c.args.book.now _ c.requires.former _ (counted-again c.args.book.now _ c.requires.former _ _ _ _ D.ensures.0 D.ensures.1 c.piece_count.ensures) c.if-n-piece_count.false))

pub returns : goal.returns
returns c =
    let D = c.drop_trays-at in
    one-named c.args.book.now _ c.requires.former _ _ _ _ _ _ D.ensures.0 D.ensures.1 (counted-again c.args.book.now _ c.requires.former _ _ _ _ D.ensures.0 D.ensures.1 c.piece_count.ensures) c.if-n-piece_count.false c.copy_where.ensures.0 c.copy_where.ensures.1
