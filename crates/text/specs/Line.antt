-- What one line says: nothing, an entry, or what is the matter with it. Assumes nothing.
use Rattle.std.specs.Prelude.{ℕ, List, [], ◌∷◌, Option, Some, None, Result, Ok, Err, eqb}
use Rattle.records.specs.declared.Record.{Record}
use Rattle.text.specs.Tests.{if_true}
use Rattle.text.specs.declared.Form.{Form}
use Rattle.text.specs.declared.Form.TheVariants.{Records, Claims, Log}
use Rattle.text.specs.declared.Reason.{Reason}
use Rattle.text.specs.declared.Reason.TheVariants.{NotKind, NotNumber, NotChoice, WordTooMany}
use Rattle.text.specs.Word.{word, rest}
use Rattle.text.specs.Number.{number}
use Rattle.text.specs.Names.{kind_of, choice_of}

-- what a line with a word says
abbrev pub Said : Type 0
Said = Result Record Reason

-- what any line says
abbrev pub Line : Type 0
Line = Result (Option Record) Reason

abbrev pub entry : (kind origin a b : ℕ) → Record
entry kind origin a b = record { kind = kind; origin = origin; a = a; b = b }

-- no word, or some word
abbrev pub if_none : {A : Type 0} → List ℕ → A → A → A
if_none [] none some = none
if_none (x ∷ w) none some = some

-- what a word is must stand there; what is behind it is read with it
abbrev pub if_there : Option ℕ → Reason → (ℕ → Said) → Said
if_there None reason more = Err reason
if_there (Some n) reason more = more n

unfoldable pub with_number : List ℕ → (ℕ → List ℕ → Said) → Said
with_number l more = if_there (number (word l)) NotNumber (λ n. more n (rest l))

-- in a log no word can stand behind the number
abbrev pub bad_choice : Form → Reason
bad_choice Records = NotChoice
bad_choice Claims = NotChoice
bad_choice Log = WordTooMany

-- the choice that stands last, where there is one
unfoldable pub lastly : Form → (kind a b : ℕ) → List ℕ → Said
lastly form kind a b l =
    if_none (word l) (Ok (entry kind 0 a b))
    (if_there (choice_of form (word l)) (bad_choice form) (λ origin. if_none (word (rest l)) (Ok (entry kind origin a b)) (Err WordTooMany)))

-- behind the first number: VOID has no other, and 0 for it
unfoldable pub secondly : Form → (kind a : ℕ) → List ℕ → Said
secondly form kind a l = if_true (eqb kind 6) (lastly form kind a 0 l) (with_number l (λ b m. lastly form kind a b m))

-- behind a kind
unfoldable pub kinded : Form → (kind : ℕ) → List ℕ → Said
kinded form kind l = with_number l (λ a m. secondly form kind a m)

-- a line of a log is one number
unfoldable pub logged : List ℕ → Said
logged l = with_number l (λ a m. lastly Log 0 a 0 m)

abbrev pub said : Form → List ℕ → Said
said Records l = if_there (kind_of Records (word l)) NotKind (λ kind. kinded Records kind (rest l))
said Claims l = if_there (kind_of Claims (word l)) NotKind (λ kind. kinded Claims kind (rest l))
said Log l = logged l

abbrev pub some_entry : Said → Line
some_entry (Ok e) = Ok (Some e)
some_entry (Err reason) = Err reason

unfoldable pub line_of : Form → List ℕ → Line
line_of form l = if_none (word l) (Ok None) (some_entry (said form l))
