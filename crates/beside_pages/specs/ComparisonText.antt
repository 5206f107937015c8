-- The text of `compare`: whether the records of both books can be laid together, then both answers to each claim. Assumes nothing.
use Rattle.compare.specs.Refused.{Comparison}
use Rattle.std.specs.Prelude.{ℕ, ◌+◌, ◌*◌, Bool, true, false, List, [], ◌∷◌, ◌++◌, eqb, get_or, replicate, Err, Ok}
use Rattle.records.specs.declared.Record.{Record}
use Rattle.records.specs.Record.{record_at, records}
use Rattle.records.specs.declared.Refusal.{Refusal}
use Rattle.compare.specs.Call.{outcome, left}
use Rattle.text.specs.Tests.{if_true}
use Rattle.pages.specs.Text.{ascii, line}
use Rattle.pages.specs.Decimal.{decimal}
use Rattle.pages.specs.Lines.{lines}
use Rattle.sentences.specs.Words.{kind_name, answer_name, agreement_name}
use Rattle.sentences.specs.Refusals.{refused}
use Rattle.sentences.specs.Unread.{prefix}
use Rattle.sentences.specs.Sources.{of_book, of_second, of_claims}

-- the line of claim i: its number, kind, a, b, both answers, and how they agree
unfoldable pub pair_line : (i : ℕ) → Record → (ours theirs agreement : ℕ) → List ℕ
pair_line i r ours theirs agreement =
    line (decimal i ∷ kind_name r.kind ∷ decimal r.a ∷ decimal r.b ∷ answer_name ours ∷ answer_name theirs ∷ agreement_name agreement ∷ [])

-- the first n claims, each with its three bytes
unfoldable pub pair_lines : (claims bytes : List ℕ) → ℕ → List ℕ
pair_lines claims bytes n = lines (λ i. pair_line i (record_at claims i) (get_or bytes (3 * i) 0) (get_or bytes (3 * i + 1) 0) (get_or bytes (3 * i + 2) 0)) n

unfoldable pub together_line : Bool → List ℕ
together_line true = ascii "TOGETHER YES\n"
together_line false = ascii "TOGETHER NO\n"

-- the refusal of book 2 begins with SECOND; book 1 and 0, which is the claims, have no such word
unfoldable pub refused_in : ℕ → Refusal → (place : ℕ) → (source second claims : List ℕ) → List ℕ
refused_in k r i source second claims = if_true (eqb k 2) (prefix 1 ++ refused r i second claims) (refused r i source claims)

-- of a comparison and bytes, where both books and the claims were read from sources
unfoldable pub text_of : (asked source second claims : List ℕ) → Comparison → (bytes : List ℕ) → List ℕ
text_of asked source second claims (Ok b) bytes = together_line b ++ pair_lines asked bytes (records asked)
text_of asked source second claims (Err k) bytes = refused_in k.book k.refusal k.place source second claims

-- of what the call comes to and of the bytes that it leaves
unfoldable pub beside_text : (first other asked source second claims : List ℕ) → List ℕ
beside_text first other asked source second claims =
    text_of asked source second claims (outcome first other asked 12291) (left first other asked (replicate 12291 0) (outcome first other asked 12291))

unfoldable pub comparison_text : (source second claims : List ℕ) → List ℕ
comparison_text source second claims =
    of_book source (λ first. of_second second (λ other. of_claims claims (λ asked. beside_text first other asked source second claims)))
