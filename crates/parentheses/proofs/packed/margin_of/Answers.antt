-- `packed::margin_of` meets its contract: the sum is a natural number, so the cast keeps it.
-- Assumes nothing.
use mathlib.Core.Path.{◌≡◌, sym, ap, ◌∙◌}
use Prim.Native.Nat.{ℕ, ◌<◌}
use native.Mathlib.Omega.{arith}
use lib.IntN.{ℤ, pos, ◌+ℤ◌}
use mir.Syntax.{w8}
use mir.Val.{SFits, to_z, of_z}
use mir.ValLaws.{to_z-of_z, to_z_pos}
use Rattle.parentheses.specs.Tables.{lowest_of}
use Rattle.parentheses.proofs.Margins.{margin, margin-is, margin-small}
use Rattle.parentheses.proofs.packed.margin_of.Goals as goal

module _ (z : ℤ) (b : ℕ) (h : b < 256) (e : z ≡ lowest_of b) (s : SFits w8 z) where
  -- what `lowest_of(b) + 8` is
  sum : to_z w8 (of_z w8 z) +ℤ pos 8 ≡ pos (margin b)
  sum = ap (λ (x : ℤ). x +ℤ pos 8) (to_z-of_z w8 z s ∙ e) ∙ margin-is b h

  kept : to_z w8 (of_z w8 (to_z w8 (of_z w8 z) +ℤ pos 8)) ≡ pos (margin b)
  kept = ap (λ (x : ℤ). to_z w8 (of_z w8 x)) sum ∙ to_z_pos w8 (margin b) (omega (arith, margin-small b))

pub overflow_add-result : goal.overflow_add-result
overflow_add-result c =
    let b = c.args.b in
    rw (sum c.lowest_of.result b c.ranges.b.fits c.lowest_of.ensures (record { sfits = c.lowest_of.type_inv })) (record { sfits = omega (arith, margin-small b) })

pub overflow_cast-result : goal.overflow_cast-result
overflow_cast-result c =
    let b = c.args.b in
    rw (kept c.lowest_of.result b c.ranges.b.fits c.lowest_of.ensures (record { sfits = c.lowest_of.type_inv })) (tt, record { fits = omega (arith, margin-small b) })

pub returns : goal.returns
returns c =
    let b = c.args.b in
    rw (kept c.lowest_of.result b c.ranges.b.fits c.lowest_of.ensures (record { sfits = c.lowest_of.type_inv })) (sym (margin-is b c.ranges.b.fits))
