-- Which command the arguments name, by document 03's table. Assumes nothing.
use Rattle.std.specs.Prelude.{ℕ, if◌then◌else◌, Bool, List, [], ◌∷◌, ◌++◌, eqb, ltb, Option, Some, None}
use Rattle.std.specs.Str.{bytes_eq}
use Rattle.pages.specs.Text.{ascii}
use Rattle.commands.specs.declared.Command.{Command}
use Rattle.commands.specs.declared.Command.TheVariants.{Session, Task}
use Rattle.commands.specs.declared.Session.TheVariants.{Check, AskWords, AskInput}
use Rattle.commands.specs.declared.Task.TheVariants.{Book, Words, Replicates, Verify, Compare, Edit, Write, New, Help}
use Rattle.commands.specs.declared.BookPage.TheVariants as book
use Rattle.commands.specs.declared.WordsPage.TheVariants as words
use Rattle.commands.specs.declared.Change.TheVariants.{Add, Withdraw}
use Rattle.commands.specs.declared.Export.TheVariants.{Pack, Convert}

-- the same bytes: command words are exact
abbrev pub same : List ℕ → List ℕ → Bool
same word name = bytes_eq word name

pub data Row : Type 0 where
  row : (name : List ℕ) → Command → Row

-- the command of a word's row, and help where it has none
unfoldable pub named : List Row → (word : List ℕ) → Command
named [] word = Task Help
named (row name command ∷ rows) word = if same word name then command else named rows word

-- the command of a word's row
unfoldable pub found : List Row → (word : List ℕ) → Option Command
found [] word = None
found (row name command ∷ rows) word = if same word name then Some command else found rows word

-- COMMAND BOOK
abbrev pub of_book : List Row
of_book =
    row (ascii "check") (Session Check)
    ∷ row (ascii "why") (Task (Book book.Why))
    ∷ row (ascii "grid") (Task (Book book.Grid))
    ∷ row (ascii "show") (Task (Book book.Show))
    ∷ row (ascii "ask") (Session AskInput)
    ∷ row (ascii "replicates") (Task Replicates)
    ∷ row (ascii "new") (Task New)
    ∷ []

-- COMMAND BOOK and one word or more
abbrev pub of_words : List Row
of_words =
    row (ascii "ask") (Session AskWords)
    ∷ row (ascii "why") (Task (Words words.Why))
    ∷ row (ascii "inside") (Task (Words words.Inside))
    ∷ row (ascii "touching") (Task (Words words.Touching))
    ∷ row (ascii "apart") (Task (Words words.Apart))
    ∷ row (ascii "add") (Task (Edit Add))
    ∷ row (ascii "withdraw") (Task (Edit Withdraw))
    ∷ []

-- COMMAND BOOK and another file
abbrev pub of_files : List Row
of_files =
    row (ascii "verify") (Task Verify)
    ∷ row (ascii "compare") (Task Compare)
    ∷ row (ascii "pack") (Task (Write Pack))
    ∷ row (ascii "convert") (Task (Write Convert))
    ∷ []

-- the rows for so many arguments, the program's own name and the command among them
unfoldable pub rows_for : ℕ → List Row
rows_for count = if ltb count 3 then [] else if eqb count 3 then of_book else if eqb count 4 then of_files ++ of_words else of_words

unfoldable pub command_of : (word : List ℕ) → (count : ℕ) → Command
command_of word count = named (rows_for count) word
