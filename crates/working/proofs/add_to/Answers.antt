-- `working::add_to` meets its contract. Assumes nothing.
use mathlib.Core.Path.{sym}
use native.Mathlib.Omega.{arith}
use lib.Seq.{length-take-le}
use Rattle.records.specs.declared.Refusal.TheVariants.{ShortBuffer, BookLength, TooManyRecords}
use Rattle.working.specs.Standing.{extended}
use Rattle.working.specs.Rows.{add_outcome}
use Rattle.working.proofs.Written.{stands-short}
use Rattle.working.proofs.Settling.{refused, passed, kept-as, add-short, add-many, add-length, add-full, add-passes}
use Rattle.working.proofs.add_to.Goals as goal

pub returns-then-area-lt-BOOK_BYTES : goal.returns-then-area-lt-BOOK_BYTES
returns-then-area-lt-BOOK_BYTES c =
    let k = c.args.was.records in
    let s = c.args.area.now in
    refused c.args.was s (extended s k c.args.addition.now) (add_outcome s k c.args.addition.now) ShortBuffer 0 (add-short s c.args.addition.now k c.if-area-lt-BOOK_BYTES.true) c.refuse.result.outcome c.refuse.result.working c.refuse.ensures.0 c.refuse.ensures.1

pub returns-then-records-gt-RECORDS : goal.returns-then-records-gt-RECORDS
returns-then-records-gt-RECORDS c =
    let k = c.args.was.records in
    let s = c.args.area.now in
    refused c.args.was s (extended s k c.args.addition.now) (add_outcome s k c.args.addition.now) TooManyRecords 0 (add-many s c.args.addition.now k c.if-area-lt-BOOK_BYTES.false c.if-records-gt-RECORDS.true) c.refuse-then-records-gt-RECORDS.result.outcome c.refuse-then-records-gt-RECORDS.result.working c.refuse-then-records-gt-RECORDS.ensures.0 c.refuse-then-records-gt-RECORDS.ensures.1

pub returns-then-addition-ne-RECORD_BYTES : goal.returns-then-addition-ne-RECORD_BYTES
returns-then-addition-ne-RECORD_BYTES c =
    let k = c.args.was.records in
    let s = c.args.area.now in
    refused c.args.was s (extended s k c.args.addition.now) (add_outcome s k c.args.addition.now) BookLength 0 (add-length s k c.if-area-lt-BOOK_BYTES.false c.args.addition.now c.if-records-gt-RECORDS.false c.if-addition-ne-RECORD_BYTES.true) c.refuse-then-addition-ne-RECORD_BYTES.result.outcome c.refuse-then-addition-ne-RECORD_BYTES.result.working c.refuse-then-addition-ne-RECORD_BYTES.ensures.0 c.refuse-then-addition-ne-RECORD_BYTES.ensures.1

pub returns-then-records-ge-RECORDS : goal.returns-then-records-ge-RECORDS
returns-then-records-ge-RECORDS c =
    let k = c.args.was.records in
    let s = c.args.area.now in
    refused c.args.was s (extended s k c.args.addition.now) (add_outcome s k c.args.addition.now) TooManyRecords 0 (add-full s k c.if-area-lt-BOOK_BYTES.false c.args.addition.now (omega arith) c.if-addition-ne-RECORD_BYTES.false) c.refuse-then-records-ge-RECORDS.result.outcome c.refuse-then-records-ge-RECORDS.result.working c.refuse-then-records-ge-RECORDS.ensures.0 c.refuse-then-records-ge-RECORDS.ensures.1

pub extend-end-requires : goal.extend-end-requires
extend-end-requires c = (c.if-records-ge-RECORDS.false, (c.if-area-lt-BOOK_BYTES.false, c.if-addition-ne-RECORD_BYTES.false))

pub slice_bounds-run-end : goal.slice_bounds-run-end
slice_bounds-run-end c = c.extend-end.ensures.within

pub slice_bounds-keep-end : goal.slice_bounds-keep-end
slice_bounds-keep-end c = sym (length-take-le _ _ c.extend-end.ensures.within)

pub keep-requires : goal.keep-requires
keep-requires c = (stands-short c.extend-end.ensures, c.if-area-lt-BOOK_BYTES.false)

pub shape_of-area : goal.shape_of-area
shape_of-area c = c.keep.auto.area

pub returns : goal.returns
returns c =
    let k = c.args.was.records in
    let s = c.args.area.now in
    let a = c.args.addition.now in
    passed c.args.was s (extended s k a) (add_outcome s k a) (add-passes s k c.if-area-lt-BOOK_BYTES.false a c.if-records-gt-RECORDS.false c.if-addition-ne-RECORD_BYTES.false) c.keep.result c.keep.new.area
    (kept-as c.args.was s (extended s k a) c.extend-end.ensures c.keep.result c.keep.new.area c.keep.ensures)
