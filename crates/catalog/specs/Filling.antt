-- What the steps of a catalog promise each other. Assumes nothing.
use Rattle.records.specs.Refused.{BookCheck, refused_at}
use Rattle.catalog.specs.Listing.{Listing}
use Rattle.std.specs.Prelude.{◌≡◌, Bool, true, false, not, ◌&&◌, List, [], ℕ, ◌≤◌, ◌<◌, leb, length, Err, Ok}
use Rattle.lists.specs.Front.{front}
use Rattle.rules.specs.Follows.{clash}
use Rattle.records.specs.Facts.{facts}
use Rattle.records.specs.Check.{book_check}
use Rattle.records.specs.declared.Refusal.{Refusal}
use Rattle.records.specs.declared.Refusal.TheVariants.{ClaimFormat, ClaimPiece}
use Rattle.closure.specs.Void.{void_of}
use Rattle.closure.specs.Closed.{Holds, part_bit, toward_bit}
use Rattle.outcomes.specs.Call.{by_runs}
use Rattle.closure.specs.Counted.{MarksOf}
use Rattle.answers.specs.Judging.{Exact}
use Rattle.areas.specs.Area.{filled}
use Rattle.catalog.specs.Lent.{Lent}
use Rattle.catalog.specs.Call.{list_of, places_of, area_of, by_index, left}
use Rattle.catalog.specs.declared.Lengths.{Lengths}

-- the book's rows, then 12 and 13 for the kind and the piece: the piece count, or the first refusal
unfoldable pub refused_if : Bool → Refusal → BookCheck → BookCheck
refused_if true r below = refused_at r 0
refused_if false r below = below

unfoldable pub asked : ℕ → ℕ → BookCheck → BookCheck
asked k g (Err r) = Err r
asked k g (Ok n) = refused_if (not (leb 1 k && leb k 3)) ClaimFormat (refused_if (leb n g) ClaimPiece (Ok n))

-- a list and areas of these lengths have room for what is written
pub record Roomy (list meets apart notpart : ℕ) : Type 0 where
  pub list-long : 2048 ≤ list
  pub meets-long : 16384 ≤ meets
  pub apart-long : 16384 ≤ apart
  pub notpart-long : 16384 ≤ notpart

-- a kind and a piece that pass rows 12 and 13
pub record Asked (n k g : ℕ) : Type 0 where
  pub least : 1 ≤ k
  pub most : k ≤ 3
  pub piece : g < n

-- a book that is not contradictory, its marks, its D and T, and the place list of its index
pub record Settled (s : List ℕ) (n : ℕ) (voids d t places : List ℕ) : Type 0 where
  pub sound : book_check s ≡ Ok n
  pub void : MarksOf s voids
  pub free : false ≡ clash (void_of voids) n (facts s)
  pub parts : Holds n d (part_bit n (facts s))
  pub toward : Holds n t (toward_bit (void_of voids) n (facts s))
  pub placed : places ≡ places_of s n

-- the list and the areas of a book, and how long they are
pub record Filled (s : List ℕ) (k g n : ℕ) (list meets apart notpart : List ℕ) (c : Lengths) (list' meets' apart' notpart' : List ℕ) : Type 0 where
  pub listed-are : c.listed ≡ length (list_of s n k g)
  pub in-meets : c.meets ≡ length (area_of s n 3)
  pub in-apart : c.apart ≡ length (area_of s n 2)
  pub in-notpart : c.notpart ≡ length (area_of s n 4)
  pub list-is : list' ≡ front (list_of s n k g) list
  pub meets-are : meets' ≡ filled (area_of s n 3) meets
  pub apart-are : apart' ≡ filled (area_of s n 2) apart
  pub notpart-are : notpart' ≡ filled (area_of s n 4) notpart

-- a book that passes the rows before 12, index parts of exactly the lengths that are written, and a list and areas with room
pub record Ready (s : List ℕ) (n : ℕ) (l : Lent) : Type 0 where
  pub sound : book_check s ≡ Ok n
  pub exact : Exact s n [] l.index
  pub roomy : Roomy (length l.list) (length l.meets) (length l.apart) (length l.notpart)

-- row 14's outcome, and what it leaves in them
pub record Judged (s : List ℕ) (k g n : ℕ) (l : Lent) (r : Listing) (l' : Lent) : Type 0 where
  pub outcome-is : r ≡ by_index s k g (by_runs s n)
  pub left_is : l' ≡ left s k g l r
