-- What the words of the arguments come to, and their text. Assumes nothing.
use Prim.Native.Nat.{ℕ, ◌≤◌, ◌<◌, ◌/◌, ◌%◌}
use mathlib.Core.Path.{◌≡◌, ◌∙◌, sym}
use mathlib.Core.List.{List, [], ◌∷◌}
use lib.ListN.{length}
use borrow.Author.Tests.{lt-ltb, le-ltb}
use Rattle.records.specs.declared.Record.{Record}
use Rattle.text.specs.declared.Form.{Form}
use Rattle.text.specs.Line.{Line, line_of}
use Rattle.text.specs.Entry.{six_bytes}
use Rattle.std.specs.Prelude.{Result, Ok, Err}
use Rattle.sentences.specs.declared.Cause.{Cause}
use Rattle.sentences.specs.declared.Cause.TheVariants.{WordsTooLong}
use Rattle.sentences.specs.Unread.{whom_number, cause_number, unread_line}
use Rattle.sentences.specs.Arguments.{by_line, words_of, speaker, of_words}

module _ (form : Form) (words : List ℕ) where
  pub too_long : 4095 < length words → Err WordsTooLong ≡ words_of form words
  unfolding words_of
  too_long h = rw (lt-ltb 4095 (length words) h)

  pub by-line : length words ≤ 4095 → (l : Line) → l ≡ line_of form words → (w : Result Record Cause) → w ≡ by_line form l → w ≡ words_of form words
  unfolding words_of
  by-line h l e w is = is ∙ rw (e, le-ltb 4095 (length words) h)

  module _ (text : Record → List ℕ) (w : Result Record Cause) (is : w ≡ words_of form words) where
    pub of_entry : (r : Record) → w ≡ Ok r → text r ≡ of_words form words text
    unfolding of_words
    of_entry r e = rw (sym is ∙ e)

    pub of-wrong : (cause : Cause) → w ≡ Err cause → unread_line (whom_number (speaker form)) 0 (cause_number cause) ≡ of_words form words text
    unfolding of_words
    of-wrong cause e = rw (sym is ∙ e)

    pub wrong-short : (n : ℕ) (cause : Cause) → w ≡ Err cause → length (unread_line (whom_number (speaker form)) 0 (cause_number cause)) ≤ n → length (of_words form words text) ≤ n
    wrong-short n cause e h = rw (sym (of-wrong cause e)) h

pub six : (r : Record) (w x y z : ℕ) → w ≡ r.a % 256 → x ≡ r.a / 256 % 256 → y ≡ r.b % 256 → z ≡ r.b / 256 % 256
    → r.kind ∷ r.origin ∷ w ∷ x ∷ y ∷ z ∷ [] ≡ six_bytes r
six r w x y z is js ks ls = rw (is, js, ks, ls)
