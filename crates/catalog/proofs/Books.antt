-- What an accepted book gives its list and its areas. Assumes nothing.
use Rattle.std.specs.Prelude.{Ok}
use mathlib.Core.Path.{◌≡◌, ap, ◌∙◌}
use mathlib.Core.List.{List}
use Prim.Native.Nat.{ℕ, ◌≤◌, ◌<◌}
use native.Mathlib.Omega.{arith}
use lib.ListN.{length, get_or}
use mathlib.Core.Bool.{Bool}
use Rattle.lists.specs.Tab.{tab}
use Rattle.lists.specs.Front.{front}
use Rattle.lists.proofs.Tabs.{tab-at, tab-length}
use Rattle.rules.specs.Fact.{fact_of}
use Rattle.rules.specs.Follows.{follows}
use Rattle.records.specs.Record.{records}
use Rattle.records.specs.Facts.{facts}
use Rattle.records.specs.Marked.{marked}
use Rattle.records.specs.Check.{book_check}
use Rattle.records.proofs.Accepted.{accepted}
use Rattle.parentheses.specs.Padded.{padded}
use Rattle.parentheses.proofs.Paddeds.{padded-length}
use Rattle.index.specs.Index.{visits_of}
use Rattle.groups.specs.Groups.{number, groups}
use Rattle.groups.specs.Index.{edges, book_visits, book_places, BookIndex}
use Rattle.groups.proofs.Numbered.{number-below}
use Rattle.index.specs.Tree.{visits, whole}
use Rattle.index.specs.Parts as on
use Rattle.index.proofs.Packing.{padded-at}
use Rattle.index.proofs.Standing.{place-small}
use Rattle.closure.specs.Bounded.{Bounded}
use Rattle.contradiction.proofs.GroupIndex as of
use Rattle.contradiction.proofs.SettlingLaws.{settleable, settled-room}
use Rattle.outcomes.specs.Call.{pairs_of}
use Rattle.lists.specs.Passing.{passing}
use Rattle.areas.specs.Area.{pairs, filled}
use Rattle.catalog.specs.Call.{list_of, places_of, area_of}
use Rattle.catalog.specs.Filling.{Filled}

module _ (s : List ℕ) (n : ℕ) (sound : book_check s ≡ Ok n) where
  pub book-bounded : Bounded n (facts s)
  book-bounded = (settleable s n sound).bounded

  pub book-few : records s ≤ 8192
  book-few = (accepted s n sound).few

  -- the place list has 2,048 numbers
  pub places-long : length (places_of s n) ≡ 2048
  unfolding places_of book_places
  places-long =
      padded-length 0 2048 (book_places n (pairs_of s)) (omega (arith, book-bounded.fits, tab-length (λ g. on.place (book_visits n (pairs_of s)) (number n (pairs_of s) g)) 0 n))

  -- and those of pieces are below 10,240
  pub places-small : (x : ℕ) → x < n → get_or (places_of s n) x 0 < 10240
  unfolding places_of book_places book_visits visits_of
  places-small x l =
      let S = settleable s n sound in
      let B = S.bounded in
      let k = groups n (pairs_of s) in
      let edge = edges n (pairs_of s) in
      let P : ℕ → ℕ = λ g. on.place (visits (whole k edge)) (number n (pairs_of s) g) in
      let e = padded-at 0 2048 (tab P 0 n) x (omega (arith, B.fits)) ∙ tab-at P n x 0 l in
      omega (arith, e, place-small k edge (of.book n (facts s) B) (number n (pairs_of s) x) (number-below n (pairs_of s) (of.pairs-within n (facts s) B) x l), (settled-room S).marks)

  pub places-fit : (places : List ℕ) → places ≡ places_of s n → (n ≤ length places) × ((x : ℕ) → x < n → get_or places x 0 < 10240)
  places-fit places e = rw e (omega (arith, book-bounded.fits, places-long), places-small)

  -- the place list of a free book as it stands in its index
  pub places-are :
      {parens marks shadows places : List ℕ} {nodes shadowed : ℕ} → BookIndex n (pairs_of s) parens marks shadows places nodes shadowed → length places ≡ 2048 → places ≡ places_of s n
  unfolding places_of
  places-are I l = I.places-are ∙ ap (λ (k : ℕ). padded 0 k (book_places n (pairs_of s))) l

-- the list, the areas and their lengths
pub filled-all :
    (s : List ℕ) (k g n : ℕ) (places : List ℕ) → places ≡ places_of s n → (void : ℕ → Bool) → void ≡ marked s
    → (list list' meets meets' apart apart' notpart notpart' : List ℕ) (a b c d : ℕ)
    → (list' ≡ front (passing (λ x. follows void n (facts s) (fact_of k x g)) n) list) × (a ≡ length (passing (λ x. follows void n (facts s) (fact_of k x g)) n))
    → (meets' ≡ filled (pairs (facts s) 3 places) meets) × (b ≡ length (pairs (facts s) 3 places))
    → (apart' ≡ filled (pairs (facts s) 2 places) apart) × (c ≡ length (pairs (facts s) 2 places))
    → (notpart' ≡ filled (pairs (facts s) 4 places) notpart) × (d ≡ length (pairs (facts s) 4 places))
    → Filled s k g n list meets apart notpart (record { listed = a; meets = b; apart = c; notpart = d }) list' meets' apart' notpart'
unfolding list_of area_of
filled-all s k g n places e void v list list' meets meets' apart apart' notpart notpart' a b c d L M A N =
    record {
      listed-are = rw v at L.1;
      in-meets = rw e at M.1;
      in-apart = rw e at A.1;
      in-notpart = rw e at N.1;
      list-is = rw v at L.0;
      meets-are = rw e at M.0;
      apart-are = rw e at A.0;
      notpart-are = rw e at N.0;
    }
