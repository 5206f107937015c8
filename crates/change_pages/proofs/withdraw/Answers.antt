-- `change_pages::withdraw` meets its contract. Assumes nothing.
use native.Mathlib.Omega.{arith}
use mathlib.Core.Path.{◌∙◌, ap}
use mathlib.Core.List.{[]}
use lib.ListN.{take, length}
use Prim.Native.Nat.{◌-◌}
use Rattle.outcomes.specs.Fresh.{fresh_call}
use Rattle.change_pages.specs.Changes.{judged}
use Rattle.change_pages.proofs.Mades.{made_as, made_none}
use Rattle.change_pages.proofs.Books.{ragged, many, absent, left-run, standing-judged, refused-so}
use Rattle.change_pages.proofs.withdraw.Goals as goal

pub returns-then-end-ne0 : goal.returns-then-end-ne0
returns-then-end-ne0 c = made_none _ _ _ _ _ (made_as (refused-so _ _ _ _ (ragged _ _ c.if-end-ne0.true)) (rw c.at.ensures at c.refuse.ensures))

pub returns-then-end-gt-RECORDS : goal.returns-then-end-gt-RECORDS
returns-then-end-gt-RECORDS c =
    made_none _ _ _ _ _ (made_as (refused-so _ _ _ _ (many _ _ c.if-end-ne0.false c.if-end-gt-RECORDS.true)) (rw c.at-then-end-gt-RECORDS.ensures at c.refuse-then-end-gt-RECORDS.ensures))

pub returns-then-end-i : goal.returns-then-end-i
returns-then-end-i c =
    made_none _ _ _ _ _ (made_as (refused-so _ _ _ _ (absent _ _ c.if-end-ne0.false c.if-end-gt-RECORDS.false c.if-end-i.true)) (rw c.at-then-end-i.ensures at c.refuse-then-end-i.ensures))

pub overflow_mul-i : goal.overflow_mul-i
overflow_mul-i c = omega (arith, c.if-end-i.false)

pub write_without-requires : goal.write_without-requires
write_without-requires c = (omega (arith, c.if-end-ne0.false, c.if-end-i.false), (omega arith, omega (arith, c.requires)))

pub overflow_sub-n : goal.overflow_sub-n
overflow_sub-n c = omega (arith, c.if-end-i.false)

pub settle-requires : goal.settle-requires
settle-requires c = omega (arith, c.requires, c.write_without.auto)

pub returns : goal.returns
returns c =
    made_as (ap (λ run. judged c.args.source.now run (fresh_call run [])) (ap (take (length c.args.book.now - 6)) c.write_without.ensures ∙ left-run c.args.book.now c.args.i c.if-end-ne0.false c.if-end-gt-RECORDS.false c.if-end-i.false c.args.out.now) ∙ standing-judged _ _ c.if-end-ne0.false c.if-end-gt-RECORDS.false c.if-end-i.false _) c.settle.ensures
