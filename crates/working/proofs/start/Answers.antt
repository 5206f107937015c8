-- `working::start` meets its contract. Assumes nothing.
use mathlib.Core.Path.{refl}
use mathlib.Core.List.{[]}
use native.Mathlib.Omega.{arith}
use Rattle.records.specs.declared.Refusal.TheVariants.{ShortBuffer}
use Rattle.working.specs.Rows.{start_outcome}
use Rattle.working.specs.Kept.{no_records}
use Rattle.working.proofs.Settling.{refused, passed, start-short, start-passes}
use Rattle.working.proofs.start.Goals as goal

pub returns-then-area-lt-BOOK_BYTES : goal.returns-then-area-lt-BOOK_BYTES
returns-then-area-lt-BOOK_BYTES c =
    let s = c.args.area.now in
    refused no_records s [] (start_outcome s) ShortBuffer 0 (start-short s (omega arith)) c.refuse.result.outcome c.refuse.result.working c.refuse.ensures.0 c.refuse.ensures.1

pub slice_bounds-keep-end : goal.slice_bounds-keep-end
slice_bounds-keep-end c = refl

pub keep-requires : goal.keep-requires
keep-requires c = (omega arith, c.if-area-lt-BOOK_BYTES.false)

pub shape_of-area : goal.shape_of-area
shape_of-area c = c.keep.auto.area

pub returns : goal.returns
returns c =
    let s = c.args.area.now in
    passed no_records s [] (start_outcome s) (start-passes s c.if-area-lt-BOOK_BYTES.false) c.keep.result c.keep.new.area c.keep.ensures
