-- The two bytes of each entry of an accepted part, by derivations and by models. Assumes nothing.
use Rattle.std.specs.Prelude.{ℕ, ◌<◌, ◌≡◌, ◌↔◌, Bool, true, List, length, get_or}
use Rattle.lists.specs.Front.{front}
use Rattle.rules.specs.Fact.{APART}
use Rattle.rules.specs.Derives.{Derives}
use Rattle.rules.specs.Model.{Model, keeps, keeps_all}
use Rattle.records.specs.Facts.{facts}
use Rattle.records.specs.Marked.{marked}
use Rattle.records.specs.Pieces.{piece_count}
use Rattle.outcomes.specs.Outcome.{number}
use Rattle.replicates.specs.Before.{bytes_from}
use Rattle.replicates.specs.declared.Window.{Window}
use Rattle.replicates.specs.Log.{entry_count, handed, sequence}
use Rattle.replicates.specs.Call.{outcome, apart_in, left}

-- R is true of exactly those two of n pieces that are certainly APART: APART has a derivation from the book's facts and marks
abbrev pub ByDerivations : List ℕ → ℕ → (ℕ → ℕ → Bool) → Type 0
ByDerivations s n R = (x y : ℕ) → x < n → y < n → (R x y ≡ true) ↔ Derives (marked s) n (facts s) (APART x y)

-- the same by models: APART is true in every model of the book
abbrev pub ByModels : List ℕ → ℕ → (ℕ → ℕ → Bool) → Type 0
ByModels s n R = (x y : ℕ) → x < n → y < n → (R x y ≡ true) ↔ ((M : Model (marked s) n) → keeps_all M (facts s) → keeps M (APART x y))

-- what is left in the output are the bytes of R
abbrev pub Bytes : List ℕ → Window → List ℕ → List ℕ → (ℕ → ℕ → Bool) → Type 0
Bytes s w log out R =
    left s w log out (outcome s w log (length out)) ≡ front (bytes_from R (sequence w log) (length (handed w)) (entry_count log)) out

-- all entries at hand are the book's pieces; `apart_in` says of every two pieces whether they are certainly APART, both ways; and the bytes are those of
-- whatever R says so
pub record Certain (s : List ℕ) (n : ℕ) (w : Window) (log out : List ℕ) : Type 0 where
  pub pieces : (j : ℕ) → j < length (sequence w log) → get_or (sequence w log) j 0 < n
  pub derived : ByDerivations s n (apart_in s n)
  pub entailed : ByModels s n (apart_in s n)
  pub by-derivations : (R : ℕ → ℕ → Bool) → ByDerivations s n R → Bytes s w log out R
  pub by-models : (R : ℕ → ℕ → Bool) → ByModels s n R → Bytes s w log out R

-- of every accepted part
abbrev pub ApartCertain : Type 0
ApartCertain = (s : List ℕ) (w : Window) (log out : List ℕ) → number (outcome s w log (length out)) ≡ 0 → Certain s (piece_count s) w log out
