-- `change_pages::extend` meets its contract. Assumes nothing.
use native.Mathlib.Omega.{arith}
use mathlib.Core.Path.{◌∙◌, ap, refl}
use mathlib.Core.List.{[]}
use lib.ListN.{take, length}
use Prim.Native.Nat.{◌+◌}
use Rattle.outcomes.specs.Fresh.{fresh_call}
use Rattle.change_pages.specs.Changes.{judged}
use Rattle.change_pages.proofs.Mades.{made_as}
use Rattle.change_pages.proofs.Books.{added-run}
use Rattle.change_pages.proofs.extend.Goals as goal

pub write_runs-requires : goal.write_runs-requires
write_runs-requires c = omega (arith, c.requires)

pub settle-requires : goal.settle-requires
settle-requires c = omega (arith, c.requires, c.write_runs.auto)

pub returns : goal.returns
returns c =
    made_as (ap (λ run. judged c.args.source.now run (fresh_call run [])) (ap (take (length c.args.book.now + 6)) c.write_runs.ensures ∙ added-run c.args.book.now c.args.six c.args.out.now (length c.args.book.now + 6) (omega arith) refl)) c.settle.ensures
