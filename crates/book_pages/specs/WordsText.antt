-- The line of words that cannot be read, and nothing of words that can. Assumes nothing.
use Rattle.std.specs.Prelude.{ℕ, List, []}
use Rattle.text.specs.declared.Form.{Form}
use Rattle.sentences.specs.Arguments.{of_words}

unfoldable pub words_text : Form → (words : List ℕ) → List ℕ
words_text form words = of_words form words (λ r. [])
