-- What the call that lays out a session comes to. Assumes nothing.
use Rattle.std.specs.Prelude.{ℕ, ◌≡◌, Bool, true, false, ◌&&◌, Option, Some, None, List, leb, length}
use Rattle.report.specs.Page.{printed}
use Rattle.pages.specs.Printed.{Printed}

-- claims of at most 24,582 bytes, which is what the program reads, and a page for the longest session of 4,097 claims: `Room.bytes_for 4097`
unfoldable pub roomy : List ℕ → List ℕ → Bool
roomy claims page = leb (length claims) 24582 && leb 135285 (length page)

abbrev pub Asked : (book claims page page' : List ℕ) → Option ℕ → Type 0
Asked book claims page page' (Some end) = (roomy claims page ≡ true) × Printed page (printed book claims) page' end
Asked book claims page page' None = (roomy claims page ≡ false) × (page' ≡ page)
