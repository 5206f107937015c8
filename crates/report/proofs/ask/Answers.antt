-- `report::ask` meets its contract.
-- Assumes nothing.
use mathlib.Core.Path.{◌≡◌, refl, ap, ap₂, ◌∙◌}
use mathlib.Core.Bool.{Bool, true, false, ◌&&◌}
use mathlib.Core.List.{List}
use Prim.Native.Nat.{ℕ, ◌≤◌, ◌<◌}
use borrow.Author.Tests.{le-leb, lt-leb}
use native.Mathlib.Omega.{arith}
use lib.Dec.{leb}
use lib.ListN.{length}
use Rattle.report.specs.Asked.{roomy}
use Rattle.report.proofs.ask.Goals.{then-claims-gt-CLAIMS_READ-via-then-claims-gt-CLAIMS_READ, then-claims-gt-CLAIMS_READ-via-else-claims-gt-CLAIMS_READ+then-page-lt-PAGE_BYTES}
use Rattle.report.proofs.ask.Goals as goal

and_no : (b : Bool) → (b && false) ≡ false
and_no true = refl
and_no false = refl

long-claims : (claims page : List ℕ) → 24582 < length claims → roomy claims page ≡ false
unfolding roomy
long-claims claims page h = ap (λ (b : Bool). b && leb 135285 (length page)) (lt-leb (length claims) 24582 h)

short-page : (claims page : List ℕ) → length page < 135285 → roomy claims page ≡ false
unfolding roomy
short-page claims page h = ap (λ (b : Bool). leb (length claims) 24582 && b) (lt-leb 135285 (length page) h) ∙ and_no (leb (length claims) 24582)

enough : (claims page : List ℕ) → length claims ≤ 24582 → 135285 ≤ length page → roomy claims page ≡ true
unfolding roomy
enough claims page h k = ap₂ ◌&&◌ (le-leb (length claims) 24582 h) (le-leb 135285 (length page) k)

pub returns-then-claims-gt-CLAIMS_READ : goal.returns-then-claims-gt-CLAIMS_READ
returns-then-claims-gt-CLAIMS_READ c =
    elim c.then-claims-gt-CLAIMS_READ.branch [
      | then-claims-gt-CLAIMS_READ-via-then-claims-gt-CLAIMS_READ w ↦ (long-claims _ _ (omega arith), refl)
      | then-claims-gt-CLAIMS_READ-via-else-claims-gt-CLAIMS_READ+then-page-lt-PAGE_BYTES w ↦ (short-page _ _ (omega arith), refl)
    ]

pub returns : goal.returns
returns c = (enough _ _ c.if-claims-gt-CLAIMS_READ.false c.if-page-lt-PAGE_BYTES.false, c.write_session.ensures)
