-- What is put on a page by the cases of a source that was read, or of words. Assumes nothing.
use Prim.Native.Nat.{ℕ, ◌≤◌}
use mathlib.Core.Path.{◌≡◌, subst}
use mathlib.Core.List.{List}
use native.Mathlib.Omega.{arith}
use lib.ListN.{length, take}
use lib.Seq.{length-take-le}
use Rattle.records.specs.declared.Record.{Record}
use Rattle.text.specs.declared.Form.{Form}
use Rattle.text.specs.Text.{Reading, Entries}
use Rattle.text.specs.Either.{read_either}
use Rattle.pages.specs.Put.{Put}
use Rattle.pages.specs.Written.{written_at, Page}
use Rattle.std.specs.Prelude.{Option, Result, Ok, Err}
use Rattle.pages.proofs.Writing.{write-page}
use Rattle.sentences.specs.Unread.{whom_number, cause_number, unread_line}
use Rattle.sentences.specs.Sources.{Breaks, Took, of_source}
use Rattle.sentences.specs.Arguments.{words_of, speaker, of_words}
use Rattle.sentences.specs.declared.Unread.{Unread}
use Rattle.sentences.specs.declared.Cause.{Cause}
use Rattle.sentences.proofs.Readings.{of-read, of-unread}
use Rattle.sentences.proofs.Arguments.{of_entry, of-wrong}

-- a page of a text of at most so many bytes
abbrev pub Paged : ℕ → (page text page' : List ℕ) → Option ℕ → Type 0
Paged most page text page' r = Page page text page' r × (length text ≤ most)

-- what is made of two facts, from the pair of them
pub told : {A B R : Type 0} → (A → B → R) → A × B → R
told f x = f x.0 x.1

-- ---- what a reading took, by its answer

pub took-bytes : (x : Reading) (out : List ℕ) {r : Result ℕ Unread} {n : ℕ} → r ≡ Ok n → Took x out r → (n ≤ length out) × (x ≡ Entries (take n out))
took-bytes x out e t = subst (Took x out) e t

pub took-unread : (x : Reading) (out : List ℕ) {r : Result ℕ Unread} {u : Unread} → r ≡ Err u → Took x out r → Breaks x u.line (cause_number u.cause)
took-unread x out e t = subst (Took x out) e t

-- no more was read than was lent
pub took-short : (out : List ℕ) (n : ℕ) {lent : ℕ} → n ≤ length out → length out ≡ lent → length (take n out) ≤ lent
took-short out n h e = omega (arith, length-take-le n out h)

-- ---- texts by another name

pub put-page : {most : ℕ} {p s q : List ℕ} {e : ℕ} {r : Option ℕ} → Put p 0 s q e × (length s ≤ most) → r ≡ written_at (length q) e → Paged most p s q r
put-page {r = r} a is = (write-page r a.0 is, a.1)

module _ (most : ℕ) (p q : List ℕ) (r : Option ℕ) where
  pub page-as : (s t : List ℕ) → s ≡ t → Paged most p s q r → Paged most p t q r
  page-as s t same a = subst (λ x. Paged most p x q r) same a

  module _ (whom : ℕ) (form : Form) (source : List ℕ) (text : List ℕ → List ℕ) where
    pub page-read : {bytes : List ℕ} → read_either form source ≡ Entries bytes → Paged most p (text bytes) q r → Paged most p (of_source whom form source text) q r
    page-read {bytes} is a = page-as (text bytes) (of_source whom form source text) (of-read whom form source text bytes is) a

    -- 95 bytes always serve for what cannot be read
    pub page-unread : {l number : ℕ} → 95 ≤ most → Breaks (read_either form source) l number → Paged 95 p (unread_line whom l number) q r
        → Paged most p (of_source whom form source text) q r
    page-unread {l} {number} h b a = page-as (unread_line whom l number) (of_source whom form source text) (of-unread whom form source text l number b) (a.0, omega (arith, a.1))

    -- by what a reading of the source answered
    module _ (out : List ℕ) {took : Result ℕ Unread} where
      pub page-took : {n : ℕ} → took ≡ Ok n → Took (read_either form source) out took → Paged most p (text (take n out)) q r
          → Paged most p (of_source whom form source text) q r
      page-took e t a = page-read (took-bytes (read_either form source) out e t).1 a

      pub page-untook : {u : Unread} → 95 ≤ most → took ≡ Err u → Took (read_either form source) out took → Paged 95 p (unread_line whom u.line (cause_number u.cause)) q r
          → Paged most p (of_source whom form source text) q r
      page-untook h e t a = page-unread h (took-unread (read_either form source) out e t) a

  module _ (form : Form) (words : List ℕ) (text : Record → List ℕ) {w : Result Record Cause} (is : w ≡ words_of form words) where
    pub page-entry : {said : Record} → w ≡ Ok said → Paged most p (text said) q r → Paged most p (of_words form words text) q r
    page-entry {said} so a = page-as (text said) (of_words form words text) (of_entry form words text w is said so) a

    pub page-wrong : {cause : Cause} → 95 ≤ most → w ≡ Err cause → Paged 95 p (unread_line (whom_number (speaker form)) 0 (cause_number cause)) q r
        → Paged most p (of_words form words text) q r
    page-wrong {cause} h so a = page-as (unread_line (whom_number (speaker form)) 0 (cause_number cause)) (of_words form words text) (of-wrong form words text w is cause so) (a.0, omega (arith, a.1))
