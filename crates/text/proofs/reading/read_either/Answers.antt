-- `text::read_either` meets its contract. Assumes nothing.
use native.Mathlib.Omega.{arith}
use Rattle.text.proofs.Lents.{lent-short, lent-text, lent-kept}
use Prim.Native.Nat.{min}
use mathlib.Core.Path.{sym, ap, ◌∙◌}
use lib.ListN.{length}
use Rattle.text.proofs.reading.read_either.Goals as goal

pub returns-then-as_text : goal.returns-then-as_text
returns-then-as_text c =
    lent-text c.args.form c.args.s.now c.args.out.now (sym c.as_text.ensures ∙ c.if-as_text.true) _ _ c.read_text.ensures

pub returns-then-out-most : goal.returns-then-out-most
returns-then-out-most c = lent-short c.args.form _ c.args.out.now (omega (arith, c.bytes_most-most.ensures))

pub returns : goal.returns
returns c =
    lent-kept c.args.form c.args.s.now c.args.out.now (omega (arith, c.bytes_most-most.ensures)) (sym c.as_text.ensures ∙ c.if-as_text.false) _ _ (c.min-n.ensures ∙ ap (min (length c.args.s.now)) c.bytes_most-most.ensures) c.copy_from_slice.ensures.after
