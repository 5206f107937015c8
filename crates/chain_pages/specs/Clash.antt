-- What the page of `why` without a claim comes to. Assumes nothing.
use Rattle.outcomes.specs.Accepted.{Outcome}
use Rattle.std.specs.Prelude.{ℕ, ◌*◌, ◌≤◌, ◌≡◌, true, false, Option, List, [], ◌++◌, length, take, Err, Ok}
use Rattle.outcomes.specs.Fresh.{fresh_call}
use Rattle.chain_format.specs.Step.{steps}
use Rattle.clash.specs.Clash.{passes, reply_of, shown}
use Rattle.pages.specs.Put.{Put}
use Rattle.pages.specs.Written.{Page}
use Rattle.text.specs.declared.Form.TheVariants.{Records}
use Rattle.text.specs.Text.{Entries}
use Rattle.text.specs.Either.{read_either}
use Rattle.sentences.specs.Refusals.{refused}
use Rattle.sentences.specs.Sources.{of_book}
use Rattle.report.specs.Session.{counts_line}
use Rattle.chain_pages.specs.StepLine.{step_lines}
use Rattle.chain_pages.specs.ChainText.{Bytes}

-- of the outcome of a book that was read from a source, with the steps c
unfoldable pub clash_text : (source : List ℕ) → Outcome → (c : List ℕ) → List ℕ
clash_text source (Ok n) c = counts_line n.pieces n.nodes n.shadows
clash_text source (Err r) c = refused r.refusal r.place source [] ++ step_lines c (steps c)

unfoldable pub clash_page : (source c : List ℕ) → List ℕ
clash_page source c = of_book source (λ book. clash_text source (fresh_call book []) c)

-- the steps behind refusal 14: they pass, so the last shows the opposite of the record at the place. Other outcomes have none
pub record Behind (book chain : List ℕ) : Type 0 where
  pub passing : shown (reply_of (fresh_call book [])) ≡ true → passes book chain ≡ true
  pub none : shown (reply_of (fresh_call book [])) ≡ false → chain ≡ []

-- the page of the outcome and of steps behind it; which of several chains they are is free
pub record Clash (source page page' : List ℕ) (r : Option ℕ) : Type 0 where
  pub chain : List ℕ
  pub bytes : Bytes chain
  pub behind : (book : List ℕ) → read_either Records source ≡ Entries book → Behind book chain
  pub page-is : Page page (clash_page source chain) page' r
  -- so a page of that many bytes has room
  pub short : length (clash_page source chain) ≤ 852942

-- ---- what the inner functions promise each other

-- so many steps stand at the front of the lent bytes
pub record Shown (book : List ℕ) (n : ℕ) (c' : List ℕ) : Type 0 where
  pub room : length c' ≡ 164000
  pub few : n ≤ 16400
  pub behind : Behind book (take (10 * n) c')

-- at most 16,400 steps behind the contradiction of a book
pub record StepsOf (book page : List ℕ) (at : ℕ) (page' : List ℕ) (end : ℕ) : Type 0 where
  pub chain : List ℕ
  pub bytes : Bytes chain
  pub few : length chain ≤ 164000
  pub behind : Behind book chain
  pub put : Put page at (step_lines chain (steps chain)) page' end

pub record OfBook (source book page page' : List ℕ) (end : ℕ) : Type 0 where
  pub chain : List ℕ
  pub bytes : Bytes chain
  pub behind : Behind book chain
  pub put : Put page 0 (clash_text source (fresh_call book []) chain) page' end
  pub short : length (clash_text source (fresh_call book []) chain) ≤ 852942
