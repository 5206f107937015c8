-- `replicates::judge` meets its contract. Assumes nothing.
use mathlib.Core.Path.{sym, ◌∙◌}
use Rattle.contradiction.proofs.SettlingLaws.{row-free, row-clash}
use Rattle.replicates.proofs.Rows.{passes}
use Rattle.replicates.proofs.Calls.{clash-refused, part-refused, part-written}
use Rattle.replicates.proofs.judge.Goals as goal

pub find_aparts-requires : goal.find_aparts-requires
find_aparts-requires c =
    let S = c.settle_counted-settled.ensures in
    let q = row-free c.in-Ok.is in
    let O = S.1.free q in
    record { sound = c.requires.0; void = S.0; free = O.is; steps = S.2.free q; parts = O.parts }

pub write_part-requires : goal.write_part-requires
write_part-requires c =
    record {
      sound = c.requires.0;
      aparts = c.find_aparts.ensures;
      fits = (passes c.args.n _ _ c.args.log.now c.args.window (sym (rw c.of.ensures at c.check_part-fit.ensures) ∙ c.in-Ok-fit.is)).0;
      wide = c.requires.1;
    }

pub returns-in-Err : goal.returns-in-Err
returns-in-Err c =
    let A = c.args in
    let S = c.settle_counted-settled.ensures in
    clash-refused A.book.now A.n c.requires.0 A.window A.log.now A.out.now _ _ (rw c.from.ensures at c.refuse.ensures)
    (rw S.0.1 at (S.1.clash _ (row-clash c.in-Err.is)))

pub returns-in-Err-fit : goal.returns-in-Err-fit
returns-in-Err-fit c =
    let A = c.args in
    let S = c.settle_counted-settled.ensures in
    part-refused A.book.now A.n c.requires.0 A.window A.log.now A.out.now
    (rw S.0.1 at (S.1.free (row-free c.in-Ok.is)).is) (S.3.free _ _ c.in-Ok.is) _ _ _ c.refuse-in-Err-fit.ensures
    (sym c.in-Err-fit.is ∙ (rw c.of.ensures at c.check_part-fit.ensures))

pub returns-in-Ok-fit : goal.returns-in-Ok-fit
returns-in-Ok-fit c =
    let A = c.args in
    let S = c.settle_counted-settled.ensures in
    rw c.in-Ok-fit.is (part-written A.book.now A.n c.requires.0 A.window A.log.now A.out.now
    (rw S.0.1 at (S.1.free (row-free c.in-Ok.is)).is) (S.3.free _ _ c.in-Ok.is) _ _ _ _ _
    (sym c.in-Ok-fit.is ∙ (rw c.of.ensures at c.check_part-fit.ensures)) c.write_part.ensures.0 c.write_part.ensures.1)
