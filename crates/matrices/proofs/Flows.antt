-- Rows carried along edges: one row at a time, then all. Assumes nothing.
use mathlib.Core.Path.{◌≡◌, refl, sym, ap, ◌∙◌}
use mathlib.Core.Logic.{◌⊎◌, inl, inr}
use mathlib.Core.List.{List}
use mathlib.Core.Bool.{Bool, true, false, ◌||◌, ◌&&◌, or-false, or_assoc, true≢false}
use Prim.Native.Nat.{ℕ, ◌+◌, ◌<◌, ◌≤◌}
use native.Mathlib.Decide.{ℕ_discrete, dec_lt}
use native.Mathlib.Omega.{arith}
use lib.Dec.{eqb, ltb, leb}
use lib.ListN.{get_or}
use borrow.Author.Tests.{eqb-true, lt-ltb, le-ltb, leb-true, le-leb}
use Rattle.lists.specs.Any.{any_below}
use Rattle.lists.proofs.Bools.{and_both, both-and, or-either, left_or, right_or, same_truth, not-true, eqb-self}
use Rattle.lists.proofs.Anys.{below-find, below-hit}
use Rattle.matrices.specs.Matrix.{bit_of, through, Joins, United, Gathered}
use Rattle.matrices.specs.Flow.{Sorted, Pushed, Reached, Carried, along, against}
use Rattle.lists.proofs.Searches.{Sought}

-- ---- one row

-- a row other than h still is as at the start
pub from_start : (m m' m'' : List ℕ) (h p : ℕ) (f : ℕ → Bool) → (p ≡ h → ⊥) → Joins m m' h f → United m' m'' h m' p → United m' m'' h m p
from_start m m' m'' h p f ne J U = record {
  row = λ j l. U.row j l ∙ ap (λ (t : Bool). bit_of m' h j || t) (J.other p j l ne);
  other = U.other;
}

-- no edge leads from h to h, so the bit found is another
pub elsewhere : (e : List ℕ) (h from p : ℕ) → Sought (bit_of e h) from 2048 p → p < 2048 → bit_of e h h ≡ false → p ≡ h → ⊥
elsewhere e h from p S l free q = true≢false (sym (S.hit l) ∙ ap (bit_of e h) q ∙ free)

-- row h is put into the rows before column `from` to which edges lead
pub record PushedTo (e m m' : List ℕ) (h from : ℕ) : Type 0 where
  pub bits : (q y : ℕ) → q < 2048 → y < 2048 → bit_of m' q y ≡ (bit_of m q y || ((ltb q from && bit_of e h q) && bit_of m h y))

pub push-none : (e m : List ℕ) (h : ℕ) → PushedTo e m m h 0
push-none e m h = record { bits = λ q y l k. sym (ap (λ (t : Bool). bit_of m q y || ((t && bit_of e h q) && bit_of m h y)) (le-ltb q 0 (omega arith)) ∙ or-false (bit_of m q y)) }

module _ (e m m' : List ℕ) (h from p : ℕ) (hl : h < 2048) (free : bit_of e h h ≡ false) (S : Sought (bit_of e h) from 2048 p) (P : PushedTo e m m' h from) where
  -- columns from `from` to before p bring nothing
  passed : (q : ℕ) → q < 2048 → (q < p) ⊎ (p ≡ 2048) → (ltb q from && bit_of e h q) ≡ bit_of e h q
  passed q l c = pick (dec_lt q from)
    where
      q-below : (q < p) ⊎ (p ≡ 2048) → q < p
      q-below (inl a) = a
      q-below (inr a) = omega arith

      pick : Dec (q < from) → (ltb q from && bit_of e h q) ≡ bit_of e h q
      pick (yes a) = ap (λ (t : Bool). t && bit_of e h q) (lt-ltb q from a)
      pick (no a) = ap (λ (t : Bool). t && bit_of e h q) (le-ltb q from (omega arith)) ∙ sym (S.before q (omega arith) (q-below c))

  row_kept : (y : ℕ) → y < 2048 → bit_of m' h y ≡ bit_of m h y
  row_kept y l = P.bits h y hl l ∙ ap (λ (t : Bool). bit_of m h y || (t && bit_of m h y)) (off (ltb h from)) ∙ or-false (bit_of m h y)
    where
      off : (t : Bool) → (t && bit_of e h h) ≡ false
      off true = free
      off false = refl

  pub push-more : (m'' : List ℕ) → p < 2048 → United m' m'' p m' h → PushedTo e m m'' h (p + 1)
  push-more m'' g U = record { bits = λ q y l k. pick q y l k (ℕ_discrete q p) }
    where
      pick : (q y : ℕ) → q < 2048 → y < 2048 → Dec (q ≡ p) → bit_of m'' q y ≡ (bit_of m q y || ((ltb q (p + 1) && bit_of e h q) && bit_of m h y))
      pick q y l k (yes c) =
          rw c
          (U.row y k ∙ ap (λ (t : Bool). t || bit_of m' h y) (P.bits p y g k ∙ ap (λ (t : Bool). bit_of m p y || ((t && bit_of e h p) && bit_of m h y)) (le-ltb p from (omega (arith, S.from))) ∙ or-false (bit_of m p y))
          ∙ ap (λ (t : Bool). bit_of m p y || t) (row_kept y k)
          ∙ sym (ap (λ (t : Bool). bit_of m p y || ((t && bit_of e h p) && bit_of m h y)) (lt-ltb p (p + 1) (omega arith)) ∙ ap (λ (t : Bool). bit_of m p y || (t && bit_of m h y)) (S.hit g)))
      pick q y l k (no c) = U.other q y k c ∙ P.bits q y l k ∙ ap (λ (t : Bool). bit_of m q y || (t && bit_of m h y)) (side (dec_lt q p))
        where
          side : Dec (q < p) → (ltb q from && bit_of e h q) ≡ (ltb q (p + 1) && bit_of e h q)
          side (yes a) = passed q l (inl a) ∙ sym (ap (λ (t : Bool). t && bit_of e h q) (lt-ltb q (p + 1) (omega arith)))
          side (no a) = ap (λ (t : Bool). t && bit_of e h q) (le-ltb q from (omega (arith, S.from)) ∙ sym (le-ltb q (p + 1) (omega arith)))

-- ---- all rows

-- the union of what h reaches is its own row and the unions of what its steps lead to
module _ (s : ℕ → ℕ → Bool) (n : ℕ) (r : ℕ → ℕ → Bool) (R : Reached s n r) (m : List ℕ) (small : n ≤ 2048) where
  abbrev pub all : ℕ → ℕ → Bool
  all h y = any_below (λ x. r h x && bit_of m x y) 2048

  pub all-step : (h y : ℕ) → h < n → all h y ≡ (bit_of m h y || any_below (λ p. s h p && all p y) n)
  all-step h y l = same_truth _ _ to from
    where
      to : all h y ≡ true → (bit_of m h y || any_below (λ p. s h p && all p y) n) ≡ true
      to t = let x = below-find (λ x. r h x && bit_of m x y) 2048 t in let b = and_both _ _ x.2 in pick x.0 x.1 b.1 (or-either _ _ (sym (R.step h x.0 l x.1) ∙ b.0))
        where
          pick : (x : ℕ) → x < 2048 → bit_of m x y ≡ true → (eqb h x ≡ true) ⊎ (any_below (λ p. s h p && r p x) n ≡ true) → (bit_of m h y || any_below (λ p. s h p && all p y) n) ≡ true
          pick x k g (inl q) = left_or (any_below (λ p. s h p && all p y) n) (ap (λ (z : ℕ). bit_of m z y) (eqb-true h x q) ∙ g)
          pick x k g (inr q) =
              let p = below-find (λ p. s h p && r p x) n q in
              let b = and_both (s h p.0) (r p.0 x) p.2 in
              right_or (bit_of m h y) (below-hit (λ p. s h p && all p y) n p.0 p.1 (both-and b.0 (below-hit (λ x. r p.0 x && bit_of m x y) 2048 x k (both-and b.1 g))))

      from : (bit_of m h y || any_below (λ p. s h p && all p y) n) ≡ true → all h y ≡ true
      from t = pick (or-either _ _ t)
        where
          pick : (bit_of m h y ≡ true) ⊎ (any_below (λ p. s h p && all p y) n ≡ true) → all h y ≡ true
          pick (inl q) = below-hit (λ x. r h x && bit_of m x y) 2048 h (omega arith) (both-and (R.step h h l (omega arith) ∙ left_or _ (eqb-self h)) q)
          pick (inr q) =
              let p = below-find (λ p. s h p && all p y) n q in
              let b = and_both (s h p.0) (all p.0 y) p.2 in
              let x = below-find (λ x. r p.0 x && bit_of m x y) 2048 b.1 in
              let d = and_both (r p.0 x.0) (bit_of m x.0 y) x.2 in
              below-hit (λ x. r h x && bit_of m x y) 2048 x.0 x.1
              (both-and (R.step h x.0 l x.1 ∙ right_or (eqb h x.0) (below-hit (λ q. s h q && r q x.0) n p.0 p.1 (both-and b.0 d.0))) d.1)

-- two searches that agree where the first test holds
any-and : (s f g : ℕ → Bool) (b c : ℕ) → ((p : ℕ) → p < b → s p ≡ true → (p < c) × (f p ≡ g p)) → ((p : ℕ) → p < c → s p ≡ true → (p < b) × (f p ≡ g p))
    → any_below (λ p. s p && f p) b ≡ any_below (λ p. s p && g p) c
any-and s f g b c to from =
    same_truth _ _
    (λ t. let p = below-find (λ p. s p && f p) b t in let d = and_both _ _ p.2 in let q = to p.0 p.1 d.0 in below-hit (λ p. s p && g p) c p.0 q.0 (both-and d.0 (sym q.1 ∙ d.1)))
    (λ t. let p = below-find (λ p. s p && g p) c t in let d = and_both _ _ p.2 in let q = from p.0 p.1 d.0 in below-hit (λ p. s p && f p) b p.0 q.0 (both-and d.0 (q.1 ∙ d.1)))

-- the rows that come before place k are done
pub record DoneTo (e : List ℕ) (n : ℕ) (at : ℕ → ℕ) (m m' : List ℕ) (k : ℕ) : Type 0 where
  pub row : (r : ℕ → ℕ → Bool) → Reached (along e) n r → (h y : ℕ) → at h < k → h < n → y < 2048 → bit_of m' h y ≡ any_below (λ x. r h x && bit_of m x y) 2048
  pub after : (h y : ℕ) → h < n → k ≤ at h → y < 2048 → bit_of m' h y ≡ bit_of m h y
  pub beyond : (h y : ℕ) → n ≤ h → h < 2048 → y < 2048 → bit_of m' h y ≡ bit_of m h y

-- only the row at place k is at place k
apart-at : (e : List ℕ) (n : ℕ) (order : List ℕ) (R : Sorted e n order) (g h : ℕ) → g < n → h < n → R.at g ≡ R.at h → g ≡ h
apart-at e n order R g h l k q = sym (R.placed g l).1 ∙ ap (λ (i : ℕ). get_or order i 0) q ∙ (R.placed h k).1

pub along-more : (e : List ℕ) (n : ℕ) (order m m' m'' : List ℕ) (h k : ℕ) (R : Sorted e n order) → n ≤ 2048 → k < n → h ≡ get_or order k 0 → DoneTo e n R.at m m' k → Gathered m' m'' e h m' → DoneTo e n R.at m m'' (k + 1)
unfolding through
along-more e n order m m' m'' h k R small kn hk D G = record {
  row = λ r Q g y a b c. pick r Q g y a b c (ℕ_discrete g h);
  after = λ g y a b c. G.other g y c (λ q. omega (arith, ap R.at q, place)) ∙ D.after g y a (omega arith) c;
  beyond = λ g y a b c. G.other g y c (λ q. omega (arith, l)) ∙ D.beyond g y a b c;
}
  where
    l : h < n
    l = rw hk (R.row k kn).0

    place : R.at h ≡ k
    place = ap R.at hk ∙ (R.row k kn).1

    pick : (r : ℕ → ℕ → Bool) → Reached (along e) n r → (g y : ℕ) → R.at g < k + 1 → g < n → y < 2048 → Dec (g ≡ h) → bit_of m'' g y ≡ any_below (λ x. r g x && bit_of m x y) 2048
    pick r Q g y a b c (yes q) =
        rw q
        (G.row y c ∙ ap (λ (t : Bool). t || any_below (λ x. bit_of e h x && bit_of m' x y) 2048) (D.after h y l (omega (arith, place)) c)
        ∙ ap (λ (t : Bool). bit_of m h y || t)
        (any-and (bit_of e h) (λ p. bit_of m' p y) (λ p. all (along e) n r Q m small p y) 2048 n
        (λ p w t. let z = R.earlier h p l w t in (z.1, D.row r Q p y (omega (arith, z.0, place)) z.1 c))
        (λ p w t. let z = R.earlier h p l (omega arith) t in (omega arith, D.row r Q p y (omega (arith, z.0, place)) w c)))
        ∙ sym (all-step (along e) n r Q m small h y l))
    pick r Q g y a b c (no q) = G.other g y c q ∙ D.row r Q g y (older (ℕ_discrete (R.at g) k)) b c
      where
        older : Dec (R.at g ≡ k) → R.at g < k
        older (yes z) = absurd (q (apart-at e n order R g h b l (z ∙ sym place)))
        older (no z) = omega arith

pub along-all : (e : List ℕ) (n : ℕ) (order m m' : List ℕ) (k : ℕ) (R : Sorted e n order) → k ≡ n → DoneTo e n R.at m m' k → (r : ℕ → ℕ → Bool) → Reached (along e) n r → Carried r n m m'
along-all e n order m m' k R z D r Q = record { row = λ h y a b. D.row r Q h y (omega (arith, (R.placed h a).0)) a b; other = D.beyond }

-- the rows from place k on have been put where their edges lead
pub record Sent (e : List ℕ) (n : ℕ) (at : ℕ → ℕ) (m m' : List ℕ) (k : ℕ) : Type 0 where
  pub row : (r : ℕ → ℕ → Bool) → Reached (against e) n r → (q y : ℕ) → q < n → y < 2048
      → bit_of m' q y ≡ (bit_of m q y || any_below (λ h. (leb k (at h) && bit_of e h q) && any_below (λ x. r h x && bit_of m x y) 2048) n)
  pub other : (q y : ℕ) → n ≤ q → q < 2048 → y < 2048 → bit_of m' q y ≡ bit_of m q y

pub against-none : (e : List ℕ) (n : ℕ) (order m : List ℕ) (R : Sorted e n order) → Sent e n R.at m m n
against-none e n order m R = record {
  row = λ r Q q y a b. sym (ap (λ (t : Bool). bit_of m q y || t) (not-true _ (λ t. none r q y (below-find _ n t))) ∙ or-false (bit_of m q y));
  other = λ q y a b c. refl;
}
  where
    none : (r : ℕ → ℕ → Bool) (q y : ℕ) → (h : ℕ) × (h < n) × (((leb n (R.at h) && bit_of e h q) && any_below (λ x. r h x && bit_of m x y) 2048) ≡ true) → ⊥
    none r q y (h, l, t) = omega (arith, leb-true n (R.at h) (and_both _ _ (and_both (leb n (R.at h) && bit_of e h q) _ t).0).0, (R.placed h l).0)

module _ (e : List ℕ) (n : ℕ) (order m m' : List ℕ) (h k : ℕ) (R : Sorted e n order) (small : n ≤ 2048) (kn : k < n) (hk : h ≡ get_or order k 0) (S : Sent e n R.at m m' (k + 1)) where
  own_in : h < n
  own_in = rw hk (R.row k kn).0

  own_at : R.at h ≡ k
  own_at = ap R.at hk ∙ (R.row k kn).1

  -- edges into h come from rows that come later, so row h is whole
  whole : (r : ℕ → ℕ → Bool) (Q : Reached (against e) n r) → (y : ℕ) → y < 2048 → bit_of m' h y ≡ all (against e) n r Q m small h y
  whole r Q y c =
      S.row r Q h y own_in c
      ∙ ap (λ (t : Bool). bit_of m h y || t)
      (same_truth _ _
      (λ t. let p = below-find (λ g. (leb (k + 1) (R.at g) && bit_of e g h) && all (against e) n r Q m small g y) n t in
      let d = and_both (leb (k + 1) (R.at p.0) && bit_of e p.0 h) _ p.2 in
      below-hit (λ g. bit_of e g h && all (against e) n r Q m small g y) n p.0 p.1 (both-and (and_both (leb (k + 1) (R.at p.0)) (bit_of e p.0 h) d.0).1 d.1))
      (λ t. let p = below-find (λ g. bit_of e g h && all (against e) n r Q m small g y) n t in
      let d = and_both (bit_of e p.0 h) _ p.2 in
      below-hit (λ g. (leb (k + 1) (R.at g) && bit_of e g h) && all (against e) n r Q m small g y) n p.0 p.1
      (both-and (both-and (le-leb (k + 1) (R.at p.0) (omega (arith, (R.earlier p.0 h p.1 (omega (arith, own_in)) d.0).0, own_at))) d.0) d.1)))
      ∙ sym (all-step (against e) n r Q m small h y own_in)

  pub against-more : (m'' : List ℕ) → Pushed e m' m'' h → Sent e n R.at m m'' k
  against-more m'' P = record {
    row = λ r Q q y a c.
        P.bits q y (omega arith) c ∙ ap (λ (t : Bool). bit_of m' q y || (bit_of e h q && t)) (whole r Q y c)
        ∙ ap (λ (t : Bool). t || (bit_of e h q && all (against e) n r Q m small h y)) (S.row r Q q y a c)
        ∙ or_assoc (bit_of m q y) (any_below (λ g. (leb (k + 1) (R.at g) && bit_of e g q) && all (against e) n r Q m small g y) n) (bit_of e h q && all (against e) n r Q m small h y)
        ∙ ap (λ (t : Bool). bit_of m q y || t) (same_truth _ _ (λ t. to r Q q y (or-either _ _ t)) (λ t. from r Q q y (below-find _ n t)));
    other = λ q y a b c. P.bits q y b c ∙ ap (λ (t : Bool). bit_of m' q y || (t && bit_of m' h y)) (not-true (bit_of e h q) (λ t. omega (arith, (R.earlier h q own_in b t).1))) ∙ or-false (bit_of m' q y) ∙ S.other q y a b c;
  }
    where
      W : ℕ → (r : ℕ → ℕ → Bool) → Reached (against e) n r → ℕ → ℕ → ℕ → Bool
      W j r Q q y g = (leb j (R.at g) && bit_of e g q) && all (against e) n r Q m small g y

      to : (r : ℕ → ℕ → Bool) (Q : Reached (against e) n r) (q y : ℕ) → (any_below (W (k + 1) r Q q y) n ≡ true) ⊎ ((bit_of e h q && all (against e) n r Q m small h y) ≡ true) → any_below (W k r Q q y) n ≡ true
      to r Q q y (inl t) =
          let p = below-find (W (k + 1) r Q q y) n t in
          let d = and_both (leb (k + 1) (R.at p.0) && bit_of e p.0 q) _ p.2 in
          let f = and_both (leb (k + 1) (R.at p.0)) (bit_of e p.0 q) d.0 in
          below-hit (W k r Q q y) n p.0 p.1 (both-and (both-and (le-leb k (R.at p.0) (omega (arith, leb-true (k + 1) (R.at p.0) f.0))) f.1) d.1)
      to r Q q y (inr t) =
          let d = and_both (bit_of e h q) (all (against e) n r Q m small h y) t in
          below-hit (W k r Q q y) n h own_in (both-and (both-and (le-leb k (R.at h) (omega (arith, own_at))) d.0) d.1)

      from : (r : ℕ → ℕ → Bool) (Q : Reached (against e) n r) (q y : ℕ) → (g : ℕ) × (g < n) × (W k r Q q y g ≡ true)
          → (any_below (W (k + 1) r Q q y) n || (bit_of e h q && all (against e) n r Q m small h y)) ≡ true
      from r Q q y (g, l, t) = side (ℕ_discrete (R.at g) k)
        where
          d : ((leb k (R.at g) && bit_of e g q) ≡ true) × (all (against e) n r Q m small g y ≡ true)
          d = and_both (leb k (R.at g) && bit_of e g q) _ t

          f : (leb k (R.at g) ≡ true) × (bit_of e g q ≡ true)
          f = and_both (leb k (R.at g)) (bit_of e g q) d.0

          side : Dec (R.at g ≡ k) → (any_below (W (k + 1) r Q q y) n || (bit_of e h q && all (against e) n r Q m small h y)) ≡ true
          side (yes z) = let same = apart-at e n order R g h l own_in (z ∙ sym own_at) in
              right_or (any_below (W (k + 1) r Q q y) n) (both-and (rw same at f.1) (rw same at d.1))
          side (no z) = left_or _ (below-hit (W (k + 1) r Q q y) n g l (both-and (both-and (le-leb (k + 1) (R.at g) (omega (arith, leb-true k (R.at g) f.0))) f.1) d.1))

pub against-all : (e : List ℕ) (n : ℕ) (at : ℕ → ℕ) (m m' : List ℕ) (k : ℕ) → n ≤ 2048 → k ≡ 0 → Sent e n at m m' k → (r : ℕ → ℕ → Bool) → Reached (against e) n r → Carried r n m m'
against-all e n at m m' k small q S r Q = record {
  row = λ h y a b. S.row r Q h y a b ∙ ap (λ (t : Bool). bit_of m h y || t) (same_truth _ _
      (λ t. let p = below-find (λ g. (leb k (at g) && bit_of e g h) && all (against e) n r Q m small g y) n t in
      let d = and_both (leb k (at p.0) && bit_of e p.0 h) _ p.2 in
      below-hit (λ g. bit_of e g h && all (against e) n r Q m small g y) n p.0 p.1 (both-and (and_both (leb k (at p.0)) (bit_of e p.0 h) d.0).1 d.1))
      (λ t. let p = below-find (λ g. bit_of e g h && all (against e) n r Q m small g y) n t in
      let d = and_both (bit_of e p.0 h) _ p.2 in
      below-hit (λ g. (leb k (at g) && bit_of e g h) && all (against e) n r Q m small g y) n p.0 p.1 (both-and (both-and (le-leb k (at p.0) (omega arith)) d.0) d.1)))
      ∙ sym (all-step (against e) n r Q m small h y a);
  other = S.other;
}
