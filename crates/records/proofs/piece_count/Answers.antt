-- `records::piece_count` meets its contract: the loop keeps the count of the records passed. Assumes nothing.
use Prim.Native.Nat.{ℕ, max, ◌+◌}
use mathlib.Core.Path.{sym, ap, ap₂, ◌∙◌}
use native.Mathlib.Omega.{arith}
use Rattle.records.specs.Pieces.{largest, pieces_up_to}
use Rattle.records.proofs.Books.{pieces_none, pieces_more, named_small}
use Rattle.records.proofs.piece_count.Goals as goal

pub loop-i-init : goal.loop-i-init
loop-i-init c = pieces_none _

pub overflow_add-largest_named : goal.overflow_add-largest_named
overflow_add-largest_named c =
    omega (arith, c.largest_named.ensures, ap largest c.record_at.ensures, named_small c.args.run.now c.loop-i.i (λ k. (c.shared_slice_known-1.given k).fits))

pub loop-i-preserved : goal.loop-i-preserved
loop-i-preserved c =
    c.max-pieces.ensures
    ∙ ap₂ (λ (x y : ℕ). max x (y + 1)) c.loop-i.invariant (c.largest_named.ensures ∙ ap largest c.record_at.ensures)
    ∙ sym (pieces_more _ _)

pub returns : goal.returns
returns c = c.loop-i.invariant ∙ ap (pieces_up_to _) (omega arith)
