-- The first word of what is left of a line, and what is left behind it. A comment has no words. Assumes nothing.
use Rattle.std.specs.Prelude.{ℕ, List}
use Rattle.text.specs.declared.words.Sort.TheVariants.{Blank, Letter}
use Rattle.text.specs.Runs.{of_sort, run, behind}

-- empty where there is none
unfoldable pub word : List ℕ → List ℕ
word l = run (of_sort Letter) (behind (of_sort Blank) l)

unfoldable pub rest : List ℕ → List ℕ
rest l = behind (of_sort Letter) (behind (of_sort Blank) l)
