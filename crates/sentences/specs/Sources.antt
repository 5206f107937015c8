-- The text of what was read from a source, the bytes of a file in either form; or the line of what cannot be read. Assumes nothing.
use Rattle.std.specs.Prelude.{ℕ, ◌≤◌, ◌≡◌, List, Result, Ok, Err, length, take}
use Rattle.text.specs.declared.Form.{Form}
use Rattle.text.specs.declared.Form.TheVariants.{Records, Claims, Log}
use Rattle.text.specs.declared.Reason.{Reason}
use Rattle.text.specs.Reason.{reason_number}
use Rattle.text.specs.Text.{Reading, Entries, Broken}
use Rattle.text.specs.Either.{read_either}
use Rattle.sentences.specs.Unread.{cause_number, unread_line}
use Rattle.sentences.specs.declared.Unread.{Unread}

abbrev pub if_read : (whom : ℕ) → Reading → (List ℕ → List ℕ) → List ℕ
if_read whom (Entries bytes) text = text bytes
if_read whom (Broken l reason bytes) text = unread_line whom l (reason_number reason)

-- whose source it is stands before the line
unfoldable pub of_source : (whom : ℕ) → Form → (source : List ℕ) → (List ℕ → List ℕ) → List ℕ
of_source whom form source text = if_read whom (read_either form source) text

abbrev pub of_book : (source : List ℕ) → (List ℕ → List ℕ) → List ℕ
of_book source text = of_source 0 Records source text

abbrev pub of_second : (source : List ℕ) → (List ℕ → List ℕ) → List ℕ
of_second source text = of_source 1 Records source text

abbrev pub of_claims : (source : List ℕ) → (List ℕ → List ℕ) → List ℕ
of_claims source text = of_source 2 Claims source text

abbrev pub of_log : (source : List ℕ) → (List ℕ → List ℕ) → List ℕ
of_log source text = of_source 3 Log source text

-- the line and the reason of what cannot be read
pub record Breaks (x : Reading) (l number : ℕ) : Type 0 where
  pub reason : Reason
  pub before : List ℕ
  pub is : x ≡ Broken l reason before
  pub numbered : number ≡ reason_number reason

-- what was read stands at the front of the lent bytes
abbrev pub Took : Reading → (out : List ℕ) → Result ℕ Unread → Type 0
Took x out (Ok n) = (n ≤ length out) × (x ≡ Entries (take n out))
Took x out (Err u) = Breaks x u.line (cause_number u.cause)
