-- `working::withdraw_from` meets its contract. Assumes nothing.
use mathlib.Core.Path.{sym}
use lib.Seq.{length-take-le}
use Rattle.records.specs.declared.Refusal.TheVariants.{ShortBuffer, TooManyRecords, NotStanding}
use Rattle.working.specs.Standing.{without}
use Rattle.working.specs.Rows.{withdraw_outcome}
use Rattle.working.proofs.Written.{stands-short}
use Rattle.working.proofs.Settling.{refused, passed, kept-as, withdraw-short, withdraw-many, withdraw-absent, withdraw-passes}
use Rattle.working.proofs.withdraw_from.Goals as goal

pub returns-then-area-lt-BOOK_BYTES : goal.returns-then-area-lt-BOOK_BYTES
returns-then-area-lt-BOOK_BYTES c =
    let k = c.args.was.records in
    let s = c.args.area.now in
    refused c.args.was s (without s k c.args.number) (withdraw_outcome s k c.args.number) ShortBuffer 0 (withdraw-short s k c.args.number c.if-area-lt-BOOK_BYTES.true) c.refuse.result.outcome c.refuse.result.working c.refuse.ensures.0 c.refuse.ensures.1

pub returns-then-records-gt-RECORDS : goal.returns-then-records-gt-RECORDS
returns-then-records-gt-RECORDS c =
    let k = c.args.was.records in
    let s = c.args.area.now in
    refused c.args.was s (without s k c.args.number) (withdraw_outcome s k c.args.number) TooManyRecords 0 (withdraw-many s k c.args.number c.if-area-lt-BOOK_BYTES.false c.if-records-gt-RECORDS.true) c.refuse-then-records-gt-RECORDS.result.outcome c.refuse-then-records-gt-RECORDS.result.working c.refuse-then-records-gt-RECORDS.ensures.0 c.refuse-then-records-gt-RECORDS.ensures.1

pub returns-then-records-number : goal.returns-then-records-number
returns-then-records-number c =
    let k = c.args.was.records in
    let s = c.args.area.now in
    refused c.args.was s (without s k c.args.number) (withdraw_outcome s k c.args.number) NotStanding 0 (withdraw-absent s k c.if-area-lt-BOOK_BYTES.false c.args.number c.if-records-gt-RECORDS.false c.if-records-number.true) c.refuse-then-records-number.result.outcome c.refuse-then-records-number.result.working c.refuse-then-records-number.ensures.0 c.refuse-then-records-number.ensures.1

pub remove-end-requires : goal.remove-end-requires
remove-end-requires c = (c.if-records-number.false, (c.if-records-gt-RECORDS.false, c.if-area-lt-BOOK_BYTES.false))

pub slice_bounds-run-end : goal.slice_bounds-run-end
slice_bounds-run-end c = c.remove-end.ensures.within

pub slice_bounds-keep-end : goal.slice_bounds-keep-end
slice_bounds-keep-end c = sym (length-take-le _ _ c.remove-end.ensures.within)

pub keep-requires : goal.keep-requires
keep-requires c = (stands-short c.remove-end.ensures, c.if-area-lt-BOOK_BYTES.false)

pub shape_of-area : goal.shape_of-area
shape_of-area c = c.keep.auto.area

pub returns : goal.returns
returns c =
    let k = c.args.was.records in
    let s = c.args.area.now in
    let i = c.args.number in
    passed c.args.was s (without s k i) (withdraw_outcome s k i) (withdraw-passes s k c.if-area-lt-BOOK_BYTES.false i c.if-records-gt-RECORDS.false c.if-records-number.false) c.keep.result c.keep.new.area
    (kept-as c.args.was s (without s k i) c.remove-end.ensures c.keep.result c.keep.new.area c.keep.ensures)
