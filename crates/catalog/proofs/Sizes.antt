-- The list and the areas of a catalog have room: no more pairs are kept than there are records. Assumes nothing.
use Rattle.std.specs.Prelude.{Ok}
use mathlib.Core.Path.{◌≡◌, refl, sym, ap, ◌∙◌}
use mathlib.Core.List.{List, ◌++◌}
use Prim.Native.Nat.{ℕ, ◌+◌, ◌-◌, ◌*◌, ◌≤◌}
use native.Mathlib.Nat.{add-zero}
use native.Mathlib.Omega.{arith}
use borrow.Author.Tests.{eq-eqb}
use lib.Dec.{eqb}
use lib.ListN.{length, drop, replicate, length-append, length-replicate}
use lib.Seq.{drop-append-add}
use Rattle.lists.specs.Front.{front}
use Rattle.lists.specs.Passing.{each}
use Rattle.lists.proofs.Anys.{below-hit}
use Rattle.lists.proofs.Passed.{passing-few}
use Rattle.rules.specs.Fact.{fact_of}
use Rattle.rules.specs.Follows.{follows}
use Rattle.records.specs.Record.{records}
use Rattle.records.specs.Facts.{facts}
use Rattle.records.specs.Marked.{marked}
use Rattle.records.specs.Check.{book_check}
use Rattle.areas.specs.Area.{stored, cell, filled}
use Rattle.areas.proofs.Lists.{twice}
use Rattle.areas.proofs.Sources.{Row, Column, stored-from}
use Rattle.catalog.specs.Call.{list_of, places_of, area_of}
use Rattle.catalog.specs.Sizes.{Sized, CatalogFits}
use Rattle.catalog.proofs.Books.{book-bounded, book-few}

-- what lies behind a front of so many numbers
behind-front : (xs old : List ℕ) (m : ℕ) → length xs ≡ m → drop m (front xs old) ≡ drop m old
unfolding front
behind-front xs old m e =
    ap (λ (k : ℕ). drop k (xs ++ drop (length xs) old)) (sym e ∙ sym (add-zero (length xs))) ∙ drop-append-add xs (drop (length xs) old) 0 ∙ ap (λ (k : ℕ). drop k old) e

module _ (s : List ℕ) (n k : ℕ) (sound : book_check s ≡ Ok n) (least : 1 ≤ k) (most : k ≤ 4) where
  -- each pair comes from a record
  few : length (area_of s n k) ≤ 8192
  unfolding area_of
  few =
      let ps = places_of s n in
      omega (
        arith,
        book-few s n sound,
        passing-few (stored (facts s) k ps) (λ i. Row s k ps i * 10240 + Column s k ps i) (records s) 104857600 (λ j l e.
            let w = stored-from s k ps least most j e in
            below-hit (λ i. eqb (Row s k ps i * 10240 + Column s k ps i) j) (records s) w.0 w.1 (eq-eqb _ j w.3)),
      )

  listed : (g : ℕ) → length (list_of s n k g) ≤ 2048
  unfolding list_of
  listed g =
      omega (arith, (book-bounded s n sound).fits, passing-few (λ x. follows (marked s) n (facts s) (fact_of k x g)) (λ x. x) n n (λ x l e. below-hit (λ i. eqb i x) n x l (eq-eqb x x refl)))

  sized : Sized s n k
  unfolding filled
  sized =
      let js = area_of s n k in
      record {
        list-fits = listed;
        area-fits = few;
        behind = λ old. behind-front (each cell js ++ replicate (16384 - 2 * length js) 0) old 16384
            (omega (arith, length-append (each cell js) (replicate (16384 - 2 * length js) 0), length-replicate {A = ℕ} (16384 - 2 * length js) 0, twice cell (λ j. refl) js, few));
      }

pub catalog-fits : CatalogFits
catalog-fits s n sound k least most = sized s n k sound least most
