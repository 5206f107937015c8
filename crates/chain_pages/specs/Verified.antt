-- When a page verifies: it is one that `why` could have printed, of steps that pass. Assumes nothing.
use Rattle.chain_writing.specs.Reply.{Reply}
use Rattle.std.specs.Prelude.{ℕ, ◌-◌, ◌≡◌, Bool, true, false, List, Ok}
use Rattle.rules.specs.Fact.{Fact, opposite}
use Rattle.records.specs.Record.{record_at}
use Rattle.records.specs.Facts.{saying}
use Rattle.verdicts.specs.declared.Answer.{Answer}
use Rattle.verdicts.specs.declared.Answer.TheVariants.{Follows, Denied, Open}
use Rattle.chain_format.specs.Step.{step_at, steps, shows}
use Rattle.chain_check.specs.Call.{asked, passes}
use Rattle.chain_writing.specs.Call.{reply_of}
use Rattle.chain_pages.specs.ChainText.{chain_text, Bytes}

-- the last step shows the claim for FOLLOWS, its opposite for DENIED
unfoldable pub tells : Answer → Fact → List ℕ → Bool
tells Follows f c = shows (step_at c (steps c - 1)) f
tells Denied f c = shows (step_at c (steps c - 1)) (opposite f)
tells Open f c = false

-- the page is that of a claim, an answer and steps
pub record PageOf (book page claim : List ℕ) (answer : Answer) (chain : List ℕ) : Type 0 where
  pub page-is : page ≡ chain_text (record_at claim 0) answer chain
  pub passing : passes book claim chain ≡ true
  pub telling : tells answer (saying (record_at claim 0)) chain ≡ true

-- of some
pub record Verified (book page : List ℕ) : Type 0 where
  pub claim : List ℕ
  pub answer : Answer
  pub chain : List ℕ
  pub claim-bytes : Bytes claim
  pub chain-bytes : Bytes chain
  pub page-of : PageOf book page claim answer chain

-- what the inner function finds
pub record Judged (book page claim : List ℕ) (answer : Answer) (chain : List ℕ) (r : Bool) : Type 0 where
  pub claim-bytes : Bytes claim
  pub chain-bytes : Bytes chain
  pub sound : r ≡ true → PageOf book page claim answer chain
  pub complete : PageOf book page claim answer chain → r ≡ true

-- what the call comes to
abbrev pub Verifies : (book page : List ℕ) → Bool → Type 0
Verifies book page true = Verified book page
Verifies book page false = Verified book page → ⊥

-- the reply to the one claim
unfoldable pub said : (book claim : List ℕ) → Reply
said book claim = reply_of (record_at claim 0) book (asked book claim)

-- the answer on such a page is the call's own
abbrev pub SaysSo : Type 0
SaysSo = (book page : List ℕ) (v : Verified book page) → said book v.claim ≡ Ok v.answer

-- the text of the call's own answer and of any steps that pass verifies
abbrev pub AnswerVerifies : Type 0
AnswerVerifies =
    (book claim chain : List ℕ) (answer : Answer) → Bytes claim → Bytes chain → said book claim ≡ Ok answer → passes book claim chain ≡ true
    → Verified book (chain_text (record_at claim 0) answer chain)
