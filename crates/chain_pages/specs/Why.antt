-- What the page of `why` with a claim comes to. Assumes nothing.
use Rattle.chain_writing.specs.Reply.{Reply}
use Rattle.std.specs.Prelude.{ℕ, ◌*◌, ◌≤◌, ◌≡◌, true, false, Option, Some, Ok, List, [], length, take}
use Rattle.records.specs.declared.Record.{Record}
use Rattle.verdicts.specs.declared.Answer.{Answer}
use Rattle.chain_check.specs.Call.{passes}
use Rattle.chain_writing.specs.Call.{shown}
use Rattle.chain_writing.specs.declared.Chain.{Chain}
use Rattle.pages.specs.Written.{Page}
use Rattle.text.specs.declared.Form.TheVariants.{Records, Claims}
use Rattle.text.specs.Entry.{six_bytes}
use Rattle.text.specs.Text.{Entries}
use Rattle.text.specs.Either.{read_either}
use Rattle.sentences.specs.Sources.{of_book}
use Rattle.sentences.specs.Arguments.{words_of}
use Rattle.chain_pages.specs.ChainText.{Bytes}
use Rattle.chain_pages.specs.Verified.{said, Verified}
use Rattle.chain_pages.specs.WhyText.{why_text, why_page}

-- the steps behind the reply to a claim: they pass. OPEN and refusals have none
pub record Behind (book claim chain : List ℕ) : Type 0 where
  pub passing : shown (said book claim) ≡ true → passes book claim chain ≡ true
  pub none : shown (said book claim) ≡ false → chain ≡ []

-- the book of a source, and the claim that the words say
pub record Asks (source words book claim : List ℕ) : Type 0 where
  pub read : read_either Records source ≡ Entries book
  pub entry : Record
  pub worded : words_of Claims words ≡ Ok entry
  pub claim-is : claim ≡ six_bytes entry

-- the page of the reply and of steps behind it; which of several chains they are is free
pub record Why (source words page page' : List ℕ) (r : Option ℕ) : Type 0 where
  pub chain : List ℕ
  pub bytes : Bytes chain
  pub behind : (book claim : List ℕ) → Asks source words book claim → Behind book claim chain
  pub page-is : Page page (why_page source words chain) page' r
  -- so a page of that many bytes has room
  pub short : length (why_page source words chain) ≤ 852835

-- what was printed for FOLLOWS or DENIED verifies
abbrev pub WhyVerifies : Type 0
WhyVerifies =
    (source words book claim page page' : List ℕ) (r : Option ℕ) (end : ℕ)
    → Why source words page page' r → Asks source words book claim → shown (said book claim) ≡ true → r ≡ Some end → Verified book (take end page')

-- ---- what the inner functions promise each other

-- a claim that is answered is six bytes
abbrev pub Whole : List ℕ → Reply → Type 0
Whole claim r = (a : Answer) → r ≡ Ok a → length claim ≡ 6

-- the reply, and the steps at the front of the lent bytes
pub record Shown (book claim : List ℕ) (r : Chain) (c' : List ℕ) : Type 0 where
  pub room : length c' ≡ 164000
  pub reply-is : r.reply ≡ said book claim
  pub few : r.steps ≤ 16400
  pub behind : Behind book claim (take (10 * r.steps) c')

pub record OfBook (source book claim page page' : List ℕ) (r : Option ℕ) : Type 0 where
  pub chain : List ℕ
  pub bytes : Bytes chain
  pub behind : Behind book claim chain
  pub page-is : Page page (why_text source claim (said book claim) chain) page' r
  pub short : length (why_text source claim (said book claim) chain) ≤ 852835

abbrev pub text_of : (source : List ℕ) → Record → (c : List ℕ) → List ℕ
text_of source r c = of_book source (λ book. why_text source (six_bytes r) (said book (six_bytes r)) c)

pub record OfSource (source : List ℕ) (entry : Record) (page page' : List ℕ) (r : Option ℕ) : Type 0 where
  pub chain : List ℕ
  pub bytes : Bytes chain
  pub behind : (book : List ℕ) → read_either Records source ≡ Entries book → Behind book (six_bytes entry) chain
  pub page-is : Page page (text_of source entry chain) page' r
  pub short : length (text_of source entry chain) ≤ 852835
