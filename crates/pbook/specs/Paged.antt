-- The page of each command, and what its words are. Assumes nothing.
use Rattle.std.specs.Prelude.{ℕ, ◌≤◌, Option, Some, None, List, length}
use Rattle.pages.specs.Written.{Page}
use Rattle.text.specs.declared.Form.{Form}
use Rattle.text.specs.declared.Form.TheVariants.{Records, Claims, Log}
use Rattle.book_pages.specs.AskText.{check_text, ask_text, ask_words_text}
use Rattle.book_pages.specs.ListText.{list_text}
use Rattle.book_pages.specs.GridText.{grid_text}
use Rattle.book_pages.specs.ShowText.{show_text}
use Rattle.change_pages.specs.Change as made
use Rattle.change_pages.specs.Changes as new
use Rattle.chain_pages.specs.Why.{Why}
use Rattle.chain_pages.specs.Clash.{Clash}
use Rattle.commands.specs.declared.BookPage.{BookPage}
use Rattle.commands.specs.declared.BookPage.TheVariants as book
use Rattle.commands.specs.declared.WordsPage.{WordsPage}
use Rattle.commands.specs.declared.WordsPage.TheVariants as words
use Rattle.commands.specs.declared.Session.{Session}
use Rattle.commands.specs.declared.Session.TheVariants.{Check, AskWords, AskInput}
use Rattle.commands.specs.declared.Change.{Change}
use Rattle.commands.specs.declared.Change.TheVariants.{Add, Withdraw}
use Rattle.commands.specs.declared.Export.{Export}
use Rattle.commands.specs.declared.Export.TheVariants.{Pack, Convert}

-- a text on the page; a page of `most` bytes has room for it
pub record Served (text : List ℕ) (most : ℕ) (page page' : List ℕ) (r : Option ℕ) : Type 0 where
  pub page-is : Page page text page' r
  pub short : length text ≤ most

-- of a session with a book: `asked` are the words, or the claims
abbrev pub SessionPaged : Session → (source asked page page' : List ℕ) → Option ℕ → Type 0
SessionPaged Check source asked page page' r = Served (check_text source) 142 page page' r
SessionPaged AskWords source asked page page' r = Served (ask_words_text source asked) 175 page page' r
SessionPaged AskInput source asked page page' r = Served (ask_text source asked) 135343 page page' r

-- of a book alone
abbrev pub BookPaged : BookPage → (source page page' : List ℕ) → Option ℕ → Type 0
BookPaged book.Why source page page' r = Clash source page page' r
BookPaged book.Grid source page page' r = Served (grid_text source) 4498 page page' r
BookPaged book.Show source page page' r = Served (show_text source) 229404 page page' r

-- the kind of a list's claims, by document 01's numbers; a chain has none
abbrev pub list_kind : WordsPage → Option ℕ
list_kind words.Why = None
list_kind words.Inside = Some 1
list_kind words.Touching = Some 3
list_kind words.Apart = Some 2

-- of a book and the words behind it
abbrev pub WordsPaged : WordsPage → (source words page page' : List ℕ) → Option ℕ → Type 0
WordsPaged words.Why source said page page' r = Why source said page page' r
WordsPaged words.Inside source said page page' r = Served (list_text source 1 said) 12300 page page' r
WordsPaged words.Touching source said page page' r = Served (list_text source 3 said) 12300 page page' r
WordsPaged words.Apart source said page page' r = Served (list_text source 2 said) 12300 page page' r

-- the new book by the words, or why the file stays as it is
abbrev pub change_by : Change → (source words : List ℕ) → made.Change
change_by Add source words = new.adding source words
change_by Withdraw source words = new.withdrawing source words

-- the book that is written to another file
abbrev pub export_by : Export → (source : List ℕ) → made.Change
export_by Pack source = new.packing source
export_by Convert source = new.converting source

-- what the words of a page are
abbrev pub words_form : WordsPage → Form
words_form words.Why = Claims
words_form words.Inside = Log
words_form words.Touching = Log
words_form words.Apart = Log

-- what the words of a change are
abbrev pub change_form : Change → Form
change_form Add = Records
change_form Withdraw = Log

-- where a page ends that is written; nothing of one that has no room
abbrev pub end_of : Option ℕ → ℕ
end_of (Some n) = n
end_of None = 0
