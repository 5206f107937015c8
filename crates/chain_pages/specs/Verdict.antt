-- What the page of `verify` comes to. Assumes nothing.
use Rattle.std.specs.Prelude.{ℕ, ◌≤◌, ◌<◌, ◌≡◌, Bool, true, false, Option, Some, List, length, take}
use Rattle.pages.specs.Text.{ascii}
use Rattle.pages.specs.Written.{Page}
use Rattle.text.specs.declared.Form.TheVariants.{Records}
use Rattle.text.specs.Text.{Entries}
use Rattle.text.specs.Either.{read_either}
use Rattle.sentences.specs.Sources.{of_book}
use Rattle.chain_writing.specs.Call.{shown}
use Rattle.chain_pages.specs.Verified.{said, Verifies}
use Rattle.chain_pages.specs.Why.{Asks, Why}

unfoldable pub verdict_line : Bool → List ℕ
verdict_line true = ascii "PASSES\n"
verdict_line false = ascii "FAILS\n"

abbrev pub verdict_page : (source : List ℕ) → Bool → List ℕ
verdict_page source passes = of_book source (λ book. verdict_line passes)

-- PASSES exactly where the chain verifies by the book of the source
pub record Verdict (source chain page page' : List ℕ) (r : Option ℕ) : Type 0 where
  pub passes : Bool
  pub verifies : (book : List ℕ) → read_either Records source ≡ Entries book → Verifies book chain passes
  pub page-is : Page page (verdict_page source passes) page' r
  -- so a page of that many bytes has room
  pub short : length (verdict_page source passes) ≤ 95

-- what `why` printed for FOLLOWS or DENIED, about the same source, passes
abbrev pub WhyPasses : Type 0
WhyPasses =
    (source words book claim page page' out out' : List ℕ) (r r' : Option ℕ) (end : ℕ)
    → Why source words page page' r → Asks source words book claim → shown (said book claim) ≡ true → r ≡ Some end
    → (v : Verdict source (take end page') out out' r') → v.passes ≡ true

-- and nothing that is longer than every page of `why` does
abbrev pub LongFails : Type 0
LongFails = (source book chain out out' : List ℕ) (r : Option ℕ) → read_either Records source ≡ Entries book → 852835 < length chain
    → (v : Verdict source chain out out' r) → v.passes ≡ false
