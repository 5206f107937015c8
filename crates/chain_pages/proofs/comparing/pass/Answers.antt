-- `comparing::pass` meets its contract: the text stands at the place, or not. Assumes nothing.
use native.Mathlib.Omega.{arith}
use Rattle.chain_pages.proofs.Passes.{behind-page, too_short, stands, stands-not}
use mathlib.Core.Path.{refl, sym, ◌∙◌}
use mathlib.Core.Bool.{false≢true}
use Rattle.chain_pages.proofs.comparing.pass.Goals as goal

pub returns-then-page-at : goal.returns-then-page-at
returns-then-page-at c = behind-page _ _ _ c.if-page-at.true

pub returns-then-page-at-2 : goal.returns-then-page-at-2
returns-then-page-at-2 c = too_short _ _ _ (omega arith) c.if-page-at-2.true

pub returns-then-same : goal.returns-then-same
returns-then-same c = stands _ _ _ _ refl (omega arith) (c.same.ensures.0 c.if-same.true)

pub returns : goal.returns
returns c = stands-not _ _ _ _ refl (omega arith) (λ e. false≢true (sym c.if-same.false ∙ c.same.ensures.1 e))
