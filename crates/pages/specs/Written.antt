-- A text written on a page. Assumes nothing.
use Rattle.std.specs.Prelude.{ℕ, ◌<◌, if◌then◌else◌, Option, Some, None, List, leb, length}
use Rattle.pages.specs.Printed.{Printed}

-- how many bytes of the page are text, where all that was put ends at `end`
unfoldable pub written_at : (length end : ℕ) → Option ℕ
written_at length end = if leb end length then Some end else None

-- the page begins with the text and is otherwise as it was; or the text is longer than the page
abbrev pub Page : (page text page' : List ℕ) → Option ℕ → Type 0
Page page text page' (Some end) = Printed page text page' end
Page page text page' None = length page < length text
