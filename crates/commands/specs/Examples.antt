-- Which command some arguments name. Assumes nothing.
use Rattle.std.specs.Prelude.{◌≡◌, []}
use Rattle.pages.specs.Text.{ascii}
use Rattle.commands.specs.declared.Command.TheVariants.{Session, Task}
use Rattle.commands.specs.declared.Session.TheVariants.{AskWords, AskInput}
use Rattle.commands.specs.declared.Task.TheVariants.{Book, Words, Verify, Edit, Help}
use Rattle.commands.specs.declared.BookPage.TheVariants as book
use Rattle.commands.specs.declared.WordsPage.TheVariants as words
use Rattle.commands.specs.declared.Change.TheVariants.{Add}
use Rattle.commands.specs.Named.{command_of}

-- the count has the program's own name and the command
pub record Commands : Type 0 where
  -- `why BOOK`, `why BOOK part 5 2`
  pub why-book : command_of (ascii "why") 3 ≡ Task (Book book.Why)
  pub why-claim : command_of (ascii "why") 6 ≡ Task (Words words.Why)
  -- `ask BOOK`, `ask BOOK WORD`, `verify BOOK CHAIN`, `add BOOK void 3 scanner`
  pub ask-input : command_of (ascii "ask") 3 ≡ Session AskInput
  pub ask-word : command_of (ascii "ask") 4 ≡ Session AskWords
  pub chain : command_of (ascii "verify") 4 ≡ Task Verify
  pub added : command_of (ascii "add") 6 ≡ Task (Edit Add)
  -- `verify BOOK`, `check`, `Check BOOK`, `grid BOOK WORD`, no word
  pub no-chain : command_of (ascii "verify") 3 ≡ Task Help
  pub no-book : command_of (ascii "check") 2 ≡ Task Help
  pub capital : command_of (ascii "Check") 3 ≡ Task Help
  pub too_many : command_of (ascii "grid") 4 ≡ Task Help
  pub no_word : command_of [] 1 ≡ Task Help
