-- What the calls of include/piecebook.h on text hand back: the promises of `text`, with document 03's numbers. Assumes nothing.
use Rattle.std.specs.Prelude.{◌≡◌, List, ℕ, zero, suc, Option, Some, None, Result, Ok, Err, ltb}
use Rattle.std.proofs.Math.ListN as on
use Rattle.lists.specs.Front.{front}
use Rattle.lists.specs.Tally.{num}
use Rattle.text.specs.declared.Form.{Form}
use Rattle.text.specs.declared.Form.TheVariants.{Records, Claims, Log}
use Rattle.text.specs.declared.reading.Unread.{Unread}
use Rattle.text.specs.declared.reading.Unread.TheVariants.{BadLine, ShortBuffer}
use Rattle.text.specs.Reason.{reason_number}
use Rattle.text.specs.Text.{read_text}
use Rattle.text.specs.Lent.{into, leaves}
use Rattle.text.specs.Tests.{if_true}
use Rattle.piecebook.specs.declared.texts.PiecebookReading.{PiecebookReading}
use Rattle.piecebook.specs.declared.texts.PiecebookShown.{PiecebookShown}

-- document 03's number of the reason; 6 where too few bytes are lent
abbrev pub number : Result ℕ Unread → ℕ
number (Ok n) = 0
number (Err (BadLine line reason)) = reason_number reason
number (Err ShortBuffer) = 6

abbrev pub bad_line : Result ℕ Unread → ℕ
bad_line (Ok n) = 0
bad_line (Err (BadLine line reason)) = line
bad_line (Err ShortBuffer) = 0

abbrev pub size : Result ℕ Unread → ℕ
size (Ok n) = n
size (Err (BadLine line reason)) = 0
size (Err ShortBuffer) = 0

pub record Told (o : Result ℕ Unread) (r : PiecebookReading) : Type 0 where
  pub number_is : r.number ≡ number o
  pub line-is : r.line ≡ bad_line o
  pub length-is : r.length ≡ size o

-- the result, and the bytes at exit, from the input alone
pub record ReadAs (form : Form) (text out : List ℕ) (r : PiecebookReading) (out' : List ℕ) : Type 0 where
  pub told : Told (into form (on.length out) (read_text form text)) r
  pub left_is : out' ≡ leaves form (read_text form text) out

-- no form has such a number: 7, and nothing is written
pub record NotRead (out : List ℕ) (r : PiecebookReading) (out' : List ℕ) : Type 0 where
  pub number_is : r.number ≡ 7
  pub line-is : r.line ≡ 0
  pub length-is : r.length ≡ 0
  pub left_is : out' ≡ out

-- the forms by their numbers
abbrev pub Reads : ℕ → (text out : List ℕ) → PiecebookReading → List ℕ → Type 0
Reads zero text out r out' = ReadAs Records text out r out'
Reads (suc zero) text out r out' = ReadAs Claims text out r out'
Reads (suc (suc zero)) text out r out' = ReadAs Log text out r out'
Reads (suc (suc (suc n))) text out r out' = NotRead out r out'

-- a page that is written, or is too short
abbrev pub shortness : Option ℕ → ℕ
shortness (Some end) = 0
shortness None = 1

abbrev pub written : Option ℕ → ℕ
written (Some end) = end
written None = 0

pub record Handed (w : Option ℕ) (r : PiecebookShown) : Type 0 where
  pub number_is : r.number ≡ shortness w
  pub length-is : r.length ≡ written w

-- 1 just where the page is shorter than the text; else the text stands at its front, and the bytes behind are as they were
pub record Shows (text page : List ℕ) (r : PiecebookShown) (page' : List ℕ) : Type 0 where
  pub number_is : r.number ≡ num (ltb (on.length page) (on.length text))
  pub length-is : r.length ≡ if_true (ltb (on.length page) (on.length text)) 0 (on.length text)
  pub left_is : r.number ≡ 0 → page' ≡ front text page
