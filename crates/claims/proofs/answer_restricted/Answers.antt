-- `claims::answer_restricted` meets its contract. Assumes nothing.
use borrow.Author.Rules.{rules}
use Prim.Native.Nat.{ℕ, ◌≤◌}
use native.Mathlib.Omega.{arith}
use mathlib.Core.Path.{◌≡◌, sym}
use lib.ListN.{length-replicate}
use lib.Seq.{length-take-le}
use Rattle.records.proofs.Keeps.{sheets-shorter}
use Rattle.claims.proofs.Sheets.{sheets-taken, book-short, sheets-bounded, sheets-stepped, sheets-answered}
use Rattle.claims.proofs.answer_restricted.Goals as goal

fits_in : {a b c : ℕ} → a ≤ c → b ≡ c → a ≤ b
fits_in l e = omega arith

prefix-in : {k a b c d : ℕ} → k ≡ a → a ≤ b → b ≤ c → d ≡ c → k ≤ d
prefix-in e l m f = omega arith

pub slice_bounds-keep_sheets-end : goal.slice_bounds-keep_sheets-end
slice_bounds-keep_sheets-end c = sym (length-replicate {A = ℕ} 49152 0)

pub keep_sheets-length-requires : goal.keep_sheets-length-requires
keep_sheets-length-requires c = fits_in (book-short _ c.requires.sound) (length-replicate {A = ℕ} 49152 0)

pub slice_bounds-kept-end : goal.slice_bounds-kept-end
slice_bounds-kept-end c =
    let K = c.keep_sheets-length in
    prefix-in K.ensures.0 (sheets-shorter c.args.book.now) (book-short _ c.requires.sound) c.kept-2-1.given

pub slice_bounds-run-end : goal.slice_bounds-run-end
slice_bounds-run-end c =
    let K = c.keep_sheets-length in
    sym (length-take-le _ _ (prefix-in K.ensures.0 (sheets-shorter c.args.book.now) (book-short _ c.requires.sound) c.kept-2-1.given))

pub settle_alone-requires : goal.settle_alone-requires
settle_alone-requires c =
    let s = c.requires in
    let K = c.keep_sheets-length in
    let run = sheets-taken _ _ _ K.ensures.0 K.ensures.1 in
    (sheets-bounded _ s.sound run, s.void)

pub complete-requires : goal.complete-requires
complete-requires c =
    let s = c.requires in
    let K = c.keep_sheets-length in
    let T = c.settle_alone in
    let run = sheets-taken _ _ _ K.ensures.0 K.ensures.1 in
    (sheets-bounded _ s.sound run, s.void, sheets-stepped _ s.sound run _ s.void.whole s.free T.result T.ensures.0 T.ensures.1, (search rules), (search rules), (search rules))

pub answer_each-requires : goal.answer_each-requires
answer_each-requires c =
    let s = c.requires in
    let K = c.keep_sheets-length in
    let run = sheets-taken _ _ _ K.ensures.0 K.ensures.1 in
    record { n = _; small = (sheets-bounded _ s.sound run).fits; fit = s.fit; rooms = s.rooms; voids-sized = s.void.sized }

pub shape_of-answers : goal.shape_of-answers
shape_of-answers c = c.answer_each.auto.answers

pub returns : goal.returns
returns c =
    let s = c.requires in
    let K = c.keep_sheets-length in
    let T = c.settle_alone in
    let C = c.complete.ensures in
    sheets-answered _ s.sound (sheets-taken _ _ _ K.ensures.0 K.ensures.1) _ s.void.whole s.free T.result T.ensures.0 C.0 C.1 C.2 s.fit c.answer_each.ensures
