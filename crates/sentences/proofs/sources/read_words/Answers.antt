-- `sentences::read_words` meets its contract. Assumes nothing.
use mathlib.Core.Path.{refl, ◌∙◌, ap, sym}
use Rattle.std.specs.Prelude.{Ok, Err}
use Rattle.sentences.specs.declared.Cause.TheVariants.{Text}
use Rattle.sentences.proofs.Arguments.{too_long, by-line}
use Rattle.sentences.proofs.sources.read_words.Goals as goal

pub returns-then-words-gt-WORDS_BYTES : goal.returns-then-words-gt-WORDS_BYTES
returns-then-words-gt-WORDS_BYTES c = too_long _ _ c.if-words-gt-WORDS_BYTES.true

pub returns-in-Ok-Some : goal.returns-in-Ok-Some
returns-in-Ok-Some c = by-line _ _ c.if-words-gt-WORDS_BYTES.false _ (sym (ap Ok c.in-Ok-Some.field-0-is) ∙ c.in-Ok-Some.ensures) _ refl

pub returns-in-Ok-None : goal.returns-in-Ok-None
returns-in-Ok-None c =
    by-line _ _ c.if-words-gt-WORDS_BYTES.false _ (sym (ap Ok c.in-Ok-None.field-0-is) ∙ c.in-Ok-None.ensures) _ (ap (λ r. Err (Text r)) c.absent.ensures)

pub returns-in-Err : goal.returns-in-Err
returns-in-Err c = by-line _ _ c.if-words-gt-WORDS_BYTES.false _ c.in-Err.ensures _ refl
