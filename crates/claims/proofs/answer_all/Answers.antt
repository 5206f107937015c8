-- `claims::answer_all` meets its contract. Assumes nothing.
use borrow.Author.Rules.{rules}
use Prim.Native.Nat.{ℕ, ◌<◌, ◌/◌}
use native.Mathlib.Omega.{arith}
use mathlib.Core.Path.{◌≡◌, sym, ◌∙◌}
use Rattle.claims.proofs.Counts.{counted-settleable}
use Rattle.claims.proofs.Answering.{answers-none, answers-all, answers-both}
use Rattle.claims.proofs.answer_all.Goals as goal

-- fewer than six bytes have no record
none-whole : {k : ℕ} → k < 6 → k / 6 ≡ 0
none-whole l = omega arith

pub returns-then-claims-lt-RECORD_BYTES : goal.returns-then-claims-lt-RECORD_BYTES
returns-then-claims-lt-RECORD_BYTES c = answers-none _ _ _ _ (none-whole c.if-claims-lt-RECORD_BYTES.true) c.requires.rooms

pub complete-requires : goal.complete-requires
complete-requires c =
    let s = c.requires in
    ((counted-settleable _ s.sound).bounded, s.void.0, s.stepped, (search rules), (search rules), (search rules))

pub answer_each-requires : goal.answer_each-requires
answer_each-requires c =
    let s = c.requires in
    record { n = _; small = (counted-settleable _ s.sound).bounded.fits; fit = s.fit; rooms = s.rooms; voids-sized = s.void.0.sized }

pub shape_of-answers-then-not-some_restricted : goal.shape_of-answers-then-not-some_restricted
shape_of-answers-then-not-some_restricted c = c.answer_each.auto.answers

pub returns-then-not-some_restricted : goal.returns-then-not-some_restricted
returns-then-not-some_restricted c =
    let C = c.complete.ensures in
    let A = c.answer_each in
    answers-all c.requires C.0 C.1 C.2 A.ensures A.auto.answers (sym c.some_restricted.ensures ∙ c.if-not-some_restricted.true)

pub answer_restricted-requires : goal.answer_restricted-requires
answer_restricted-requires c =
    let s = c.requires in
    record { sound = s.sound; void = s.void.0; free = s.free; fit = s.fit; rooms = c.answer_each.auto.answers ∙ s.rooms }

pub shape_of-answers : goal.shape_of-answers
shape_of-answers c = c.answer_restricted.auto.answers ∙ c.answer_each.auto.answers

pub returns : goal.returns
returns c =
    let C = c.complete.ensures in
    let A = c.answer_each in
    let R = c.answer_restricted in
    answers-both c.requires C.0 C.1 C.2 A.ensures A.auto.answers {answers = R.new.answers} R.auto.answers R.ensures
