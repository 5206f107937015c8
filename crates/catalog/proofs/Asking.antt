-- The range question on the pairs of a book, by its stored facts. Assumes nothing.
use mathlib.Core.Path.{◌≡◌, refl, sym, ap, subst, ◌∙◌}
use mathlib.Core.Bool.{Bool, true, false, ◌&&◌, ◌||◌, and_comm, or_comm}
use mathlib.Core.List.{List, Memᴰ}
use Prim.Native.Nat.{ℕ, ◌/◌, ◌%◌, ◌<◌, min, max}
use native.Mathlib.Omega.{arith}
use native.Mathlib.Decide.{dec_lt}
use borrow.Author.Tests.{eq-eqb, eqb-true}
use lib.Dec.{eqb}
use lib.ListN.{length, get_or}
use Rattle.lists.specs.Any.{any}
use Rattle.lists.proofs.Anys.{any-find, any-hit}
use Rattle.lists.proofs.Bools.{and_both, both-and, same_truth}
use Rattle.lists.proofs.Members.{at-member, member-at}
use Rattle.rules.specs.Fact.{Fact, kind, left, right}
use Rattle.records.specs.Facts.{facts}
use Rattle.lists.specs.Passing.{passing}
use Rattle.areas.specs.Area.{unordered_kind, row_of, column_of, number_of, stored, pairs}
use Rattle.areas.specs.Between.{within, inside, between}
use Rattle.areas.specs.Question.{stored_between}
use Rattle.catalog.specs.Call.{places_of, area_of}
use Rattle.catalog.specs.Questions.{AnswersStored}
use Rattle.lists.proofs.Passed.{passing-at, passing-back, passing-less}
use Rattle.areas.proofs.Crosses.{either}
use Rattle.catalog.proofs.Books.{book-bounded, places-small}

module _ (rf rt cf ct : ℕ) where
  -- rows and columns change places
  turn : (x y : ℕ) → inside cf ct rf rt x y ≡ inside rf rt cf ct y x
  unfolding inside
  turn x y = and_comm (within cf ct x) (within rf rt y)

  -- a pair of places lies between, as it is kept, where it does in one order or the other
  kept : (u : Bool) (a b : ℕ)
      → (inside rf rt cf ct (row_of u a b) (column_of u a b) || (u && inside cf ct rf rt (row_of u a b) (column_of u a b)))
      ≡ (inside rf rt cf ct a b || (u && inside rf rt cf ct b a))
  unfolding row_of column_of
  kept false a b = refl
  kept true a b =
      elim (dec_lt a b) [
        | yes h ↦
            let e : min a b ≡ a = omega arith in
            let f : max a b ≡ b = omega arith in
            rw (e, f, turn a b)
        | no h ↦
            let e : min a b ≡ b = omega arith in
            let f : max a b ≡ a = omega arith in
            rw (e, f, turn b a) (or_comm (inside rf rt cf ct b a) (inside rf rt cf ct a b))
      ]

  number-between : (u : Bool) (a b : ℕ) → a < 10240 → b < 10240 → between u rf rt cf ct (number_of u a b) ≡ (inside rf rt cf ct a b || (u && inside rf rt cf ct b a))
  unfolding between
  number-between u a b la lb =
      let w = either (λ x. x < 10240) u a b la lb in
      let d : number_of u a b / 10240 ≡ row_of u a b = omega (arith, w.1) in
      let r : number_of u a b % 10240 ≡ column_of u a b = omega (arith, w.1) in
      rw (d, r) (kept u a b)

  module _ (fs : List Fact) (k : ℕ) (ps : List ℕ) (small : (f : Fact) → Memᴰ f fs → (get_or ps (left f) 0 < 10240) × (get_or ps (right f) 0 < 10240)) where
    lies : Fact → Bool
    lies f = inside rf rt cf ct (get_or ps (left f) 0) (get_or ps (right f) 0) || (unordered_kind k && inside rf rt cf ct (get_or ps (right f) 0) (get_or ps (left f) 0))

    pair : Fact → ℕ
    pair f = number_of (unordered_kind k) (get_or ps (left f) 0) (get_or ps (right f) 0)

    pair-lies : (f : Fact) → Memᴰ f fs → between (unordered_kind k) rf rt cf ct (pair f) ≡ lies f
    unfolding lies pair
    pair-lies f m = let w = small f m in number-between (unordered_kind k) (get_or ps (left f) 0) (get_or ps (right f) 0) w.0 w.1

    pair_small : (f : Fact) → Memᴰ f fs → pair f < 104857600
    unfolding pair
    pair_small f m =
        let w = small f m in
        let v = either (λ x. x < 10240) (unordered_kind k) (get_or ps (left f) 0) (get_or ps (right f) 0) w.0 w.1 in
        omega (arith, v.0, v.1)

    to : any (between (unordered_kind k) rf rt cf ct) (pairs fs k ps) ≡ true → stored_between fs k ps rf rt cf ct ≡ true
    unfolding stored_between stored lies pair
    to e =
        let w = any-find (between (unordered_kind k) rf rt cf ct) (pairs fs k ps) e in
        let i = member-at 0 w.1 in
        let t : stored fs k ps w.0 ≡ true = subst (λ (j : ℕ). stored fs k ps j ≡ true) i.2 (passing-at (stored fs k ps) 104857600 i.0 i.1).0 in
        let v = any-find (λ f. eqb (kind f) k && eqb (pair f) w.0) fs t in
        let b = and_both (eqb (kind v.0) k) (eqb (pair v.0) w.0) v.2 in
        any-hit (λ f. eqb (kind f) k && lies f) v.1
        (both-and b.0 (sym (pair-lies v.0 v.1) ∙ ap (between (unordered_kind k) rf rt cf ct) (eqb-true (pair v.0) w.0 b.1) ∙ w.2))

    from : stored_between fs k ps rf rt cf ct ≡ true → any (between (unordered_kind k) rf rt cf ct) (pairs fs k ps) ≡ true
    unfolding stored_between stored lies pair
    from e =
        let v = any-find (λ f. eqb (kind f) k && lies f) fs e in
        let f = v.0 in
        let b = and_both (eqb (kind f) k) (lies f) v.2 in
        let t : stored fs k ps (pair f) ≡ true = any-hit (λ h. eqb (kind h) k && eqb (pair h) (pair f)) v.1 (both-and b.0 (eq-eqb (pair f) (pair f) refl)) in
        let l = pair_small f v.1 in
        let at = passing-back (stored fs k ps) (pair f) 104857600 l t in
        let m : Memᴰ (pair f) (pairs fs k ps) =
        subst (λ (j : ℕ). Memᴰ j (pairs fs k ps)) at (at-member (pairs fs k ps) 0 (length (passing (stored fs k ps) (pair f))) (passing-less (stored fs k ps) (pair f) 104857600 l t)) in
        any-hit (between (unordered_kind k) rf rt cf ct) m (pair-lies f v.1 ∙ b.1)

    between-stored : any (between (unordered_kind k) rf rt cf ct) (pairs fs k ps) ≡ stored_between fs k ps rf rt cf ct
    between-stored = same_truth _ _ to from

-- THE THEOREM: on an area that the catalog of an accepted book left, and its count, the question is answered by the stored facts
pub answers-stored : AnswersStored
unfolding area_of
answers-stored s n sound k rf rt cf ct old answer A =
    A (stored (facts s) k (places_of s n)) old refl refl
    ∙ between-stored rf rt cf ct (facts s) k (places_of s n)
    (λ f m. let w = (book-bounded s n sound).within f m in (places-small s n sound (left f) w.0, places-small s n sound (right f) w.1))
