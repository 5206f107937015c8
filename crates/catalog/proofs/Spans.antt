-- The range of a piece in the index of an accepted book. Assumes nothing.
use Rattle.std.specs.Prelude.{Ok}
use mathlib.Core.Path.{◌≡◌, sym, ap, ◌∙◌}
use mathlib.Core.Bool.{Bool, false}
use mathlib.Core.List.{List}
use Prim.Native.Nat.{ℕ, suc, ◌+◌, ◌-◌, ◌≤◌, ◌<◌}
use native.Mathlib.Omega.{arith}
use lib.ListN.{length, get_or, take, drop, replicate, length-append, get_or-append}
use Rattle.lists.specs.Front.{front}
use Rattle.lists.proofs.Fronts.{front-taken}
use Rattle.lists.proofs.Tabs.{tab-at}
use Rattle.records.specs.Facts.{facts}
use Rattle.records.specs.Check.{book_check}
use Rattle.parentheses.specs.Bits.{bits}
use Rattle.parentheses.specs.Padded.{padded}
use Rattle.parentheses.specs.Forest.{size, children}
use Rattle.parentheses.specs.Subtree.{after}
use Rattle.parentheses.proofs.Trees.{after-enc, ones-enc}
use Rattle.groups.specs.Groups.{number, groups}
use Rattle.groups.specs.Index.{edges, book_parens, book_visits, book_places}
use Rattle.groups.proofs.Numbered.{number-below}
use Rattle.index.specs.Tree.{whole}
use Rattle.index.specs.Index.{parentheses_of, visits_of}
use Rattle.index.specs.Parts as on
use Rattle.index.proofs.Packing.{packed-is, padded-at}
use Rattle.index.proofs.Ranges.{ones-parens}
use Rattle.index.proofs.Standing.{place-small}
use Rattle.contradiction.proofs.GroupIndex as of
use Rattle.contradiction.proofs.SettlingLaws.{settleable, settled-room}
use Rattle.outcomes.specs.Call.{pairs_of}
use Rattle.outcomes.proofs.Buffers.{packed-long}
use Rattle.catalog.specs.Call.{places_of}
use Rattle.areas.specs.Subtree.{range_from, range_to, Spanned}
use Rattle.catalog.specs.Questions.{SubtreesSpanned}
use Rattle.catalog.proofs.Books.{places-long}
use Rattle.areas.proofs.Subtrees.{end-there, range-some}

-- what is written at the front of a buffer
front_long : (k : ℕ) (xs old : List ℕ) → length xs ≡ k → k ≤ length (front xs old)
unfolding front
front_long k xs old e = omega (arith, length-append xs (drop (length xs) old))

front_at : (xs old : List ℕ) (i : ℕ) → i < length xs → get_or (front xs old) i 0 ≡ get_or xs i 0
unfolding front
front_at xs old i l = get_or-append xs (drop (length xs) old) 0 i l

module _ (s : List ℕ) (n : ℕ) (sound : book_check s ≡ Ok n) (old old' : List ℕ) (h : ℕ) (l : h < n) where
  abbrev parens : List ℕ
  parens = front (on.packed 2560 (book_parens n (pairs_of s))) old

  abbrev places : List ℕ
  places = front (places_of s n) old'

  P : ℕ
  P = on.place (book_visits n (pairs_of s)) (number n (pairs_of s) h)

  placed : get_or places h 0 ≡ P
  unfolding places_of book_places P
  placed =
      let f = (settleable s n sound).bounded.fits in
      front_at (places_of s n) old' h (omega (arith, places-long s n sound)) ∙ padded-at 0 2048 (book_places n (pairs_of s)) h (omega arith)
      ∙ tab-at (λ g. on.place (book_visits n (pairs_of s)) (number n (pairs_of s) g)) n h 0 l

  small : P < size (on.shape (whole (groups n (pairs_of s)) (edges n (pairs_of s))))
  unfolding P book_visits visits_of on.parens
  small =
      let S = settleable s n sound in
      let B = S.bounded in
      let k = groups n (pairs_of s) in
      let edge = edges n (pairs_of s) in
      let m = number-below n (pairs_of s) (of.pairs-within n (facts s) B) h l in
      omega (arith, place-small k edge (of.book n (facts s) B) (number n (pairs_of s) h) m, ones-enc (on.shape (whole k edge)), ones-parens (whole k edge))

  ends : suc (P + size (children (on.shape (whole (groups n (pairs_of s)) (edges n (pairs_of s)))) P)) ≡ after (bits (take 2560 parens)) P
  unfolding book_parens parentheses_of on.parens padded
  ends =
      let S = settleable s n sound in
      let k = groups n (pairs_of s) in
      let edge = edges n (pairs_of s) in
      let w = on.parens (whole k edge) in
      let r = (settled-room S).parens in
      let t : take 2560 (front (on.packed 2560 w) old) ≡ on.packed 2560 w =
      ap (λ (j : ℕ). take j (front (on.packed 2560 w) old)) (sym (packed-long 2560 w)) ∙ front-taken (on.packed 2560 w) old in
      sym (ap (λ (bs : List Bool). after bs P) (ap bits t ∙ packed-is 2560 w r)
      ∙ after-enc (on.shape (whole k edge)) (replicate (20480 - length w) false) P small ∙ omega arith)

  spans : Spanned (groups n (pairs_of s)) (edges n (pairs_of s)) (number n (pairs_of s) h) (range_from parens places h) (range_to parens places h)
  unfolding P book_visits
  spans =
      let long = front_long 2560 (on.packed 2560 (book_parens n (pairs_of s))) old (packed-long 2560 _) in
      let f = (settleable s n sound).bounded.fits in
      let wide = front_long 2048 (places_of s n) old' (places-long s n sound) in
      let e = end-there parens places h P (suc (P + size (children (on.shape (whole (groups n (pairs_of s)) (edges n (pairs_of s)))) P))) long (omega arith) (sym placed) ends in
      let r = range-some parens places h (suc (P + size (children (on.shape (whole (groups n (pairs_of s)) (edges n (pairs_of s)))) P))) P e (λ z. omega arith) (sym placed) in
      record { from_is = sym r.0; to_is = omega (arith, r.1) }

-- THE THEOREM: the range in what a catalog leaves, that of the piece's group
pub spanned : SubtreesSpanned
spanned s n sound old old' h l = spans s n sound old old' h l
