-- The depth-first walk with no stack: it stands at a node c and looks at the pieces from p on. What is still to be written from there,
-- and how one step changes it. A loop over (c, p) writes the index by these steps. Assumes nothing.
use mathlib.Core.Path.{◌≡◌, refl, sym, ap, ◌∙◌}
use mathlib.Core.Logic.{◌⊎◌, inl, inr}
use mathlib.Core.Bool.{Bool, true, false}
use mathlib.Core.List.Memᴰ.{head as here}
use mathlib.Core.List.Memᴰ.{tail as there}
use mathlib.Core.List.{List, [], ◌∷◌, ◌++◌, append_assoc}
use Prim.Native.Nat.{ℕ, zero, suc, ◌+◌, ◌-◌, ◌≤◌, ◌<◌}
use native.Mathlib.Omega.{arith}
use native.Mathlib.Decide.{dec_lt}
use lib.Dec.{eqb}
use Rattle.lists.specs.Tab.{tab}
use Rattle.parentheses.specs.Forest.{enc}
use Rattle.index.specs.Parts.{shape}
use borrow.Author.Tests.{eq-eqb, ne_eqb}
use Rattle.lists.specs.Numbers.{range, keep}
use Rattle.index.specs.Breadth.{parent}
use Rattle.index.specs.Tree.{Visit, node, shadow, Forest, end, tree, hang, under, whole, visits}
use Rattle.index.specs.Parts.{parens}
use Rattle.lists.proofs.Numbers.{◌∈◌, which, keep-yes, keep-no}
use Rattle.index.specs.Pairs.{parts, Book}
use Rattle.index.proofs.Reached.{parent-edge}
use Rattle.index.proofs.Nexts.{Next}
use Rattle.index.proofs.Nodes.{hang-node, hang-shadow, parts-mem}

-- ## The walk as a list of events

pub data Event : Type 0 where
  enter : Visit → Event
  leave : Event

unfoldable pub events : Forest → List Event
events end = []
events (tree v F G) = enter v ∷ (events F ++ (leave ∷ events G))

unfoldable pub event_bits : List Event → List Bool
event_bits [] = []
event_bits (enter v ∷ es) = true ∷ event_bits es
event_bits (leave ∷ es) = false ∷ event_bits es

unfoldable pub event_visits : List Event → List Visit
event_visits [] = []
event_visits (enter v ∷ es) = v ∷ event_visits es
event_visits (leave ∷ es) = event_visits es

event_bits-append : (xs ys : List Event) → event_bits (xs ++ ys) ≡ event_bits xs ++ event_bits ys
unfolding event_bits
event_bits-append [] ys = refl
event_bits-append (enter v ∷ xs) ys = ap (λ (l : List Bool). true ∷ l) (event_bits-append xs ys)
event_bits-append (leave ∷ xs) ys = ap (λ (l : List Bool). false ∷ l) (event_bits-append xs ys)

event_visits-append : (xs ys : List Event) → event_visits (xs ++ ys) ≡ event_visits xs ++ event_visits ys
unfolding event_visits
event_visits-append [] ys = refl
event_visits-append (enter v ∷ xs) ys = ap (λ (l : List Visit). v ∷ l) (event_visits-append xs ys)
event_visits-append (leave ∷ xs) ys = event_visits-append xs ys

pub parens-events : (F : Forest) → parens F ≡ event_bits (events F)
unfolding events event_bits parens shape enc
parens-events end = refl
parens-events (tree v F G) = rw (event_bits-append (events F) (leave ∷ events G), parens-events F, parens-events G)

pub visits-events : (F : Forest) → visits F ≡ event_visits (events F)
unfolding events event_visits visits
visits-events end = refl
visits-events (tree v F G) = rw (event_visits-append (events F) (leave ∷ events G), visits-events F, visits-events G)

empty : (qs : List ℕ) → ((q : ℕ) → q ∈ qs → ⊥) → qs ≡ []
empty [] h = refl
empty (q ∷ qs) h = absurd (h q (here refl))

-- pieces that are not kept can be passed over
keep-from : (f : ℕ → Bool) (j k m : ℕ) → ((x : ℕ) → x < k + j → f x ≡ false) → j ≤ m → keep f (range k m) ≡ keep f (range (k + j) (m - j))
unfolding range tab
keep-from f zero k m h l = let e : k + 0 ≡ k = omega arith in let d : m - 0 ≡ m = omega arith in rw (e, d)
keep-from f (suc j) k zero h l = absurd (omega arith)
keep-from f (suc j) k (suc m) h l =
    let e : suc k + j ≡ k + suc j = omega arith in
    let d : m - j ≡ suc m - suc j = omega arith in
    keep-no f k (range (suc k) m) (h k (omega arith)) ∙ keep-from f j (suc k) m (λ x b. h x (omega arith)) (omega arith) ∙ rw (e, d)

module _ (n : ℕ) (edge : ℕ → ℕ → Bool) where
  -- ## The depth does not matter, once it is enough

  hang-same : (f g : ℕ → Forest) (c : ℕ) (qs : List ℕ) → ((q : ℕ) → q ∈ qs → f q ≡ g q) → hang n edge f c qs ≡ hang n edge g c qs
  unfolding hang
  hang-same f g c [] h = refl
  hang-same f g c (q ∷ qs) h = go (which (eqb (parent n edge q) c)) (hang-same f g c qs (λ x m. h x (there m)))
    where
      go : (eqb (parent n edge q) c ≡ true) ⊎ (eqb (parent n edge q) c ≡ false) → hang n edge f c qs ≡ hang n edge g c qs
          → hang n edge f c (q ∷ qs) ≡ hang n edge g c (q ∷ qs)
      go (inl e) r = rw (hang-node n edge f c q qs e, hang-node n edge g c q qs e, r, h q (here refl))
      go (inr e) r = rw (hang-shadow n edge f c q qs e, hang-shadow n edge g c q qs e, r)

  -- what hangs from c, from the piece p on
  unfoldable pub onward : ℕ → ℕ → Forest
  onward c p = hang n edge (under n edge n) c (keep (λ q. edge q c) (range p (n - p)))

  -- what is written after the node c is left, and what is written from (c, p) on
  unfoldable pub upward : ℕ → ℕ → List Event
  upward zero c = []
  upward (suc k) c = elim (eqb c 0) [ true ↦ [] | false ↦ events (onward (parent n edge c) (suc c)) ++ (leave ∷ upward k (parent n edge c)) ]

  unfoldable pub rest : ℕ → ℕ → List Event
  rest c p = events (onward c p) ++ (leave ∷ upward n c)

  module _ (B : Book n edge) where
    none-low : (c p : ℕ) → p < 1 → edge p c ≡ false
    none-low c p h = go (which (edge p c))
      where
        go : (edge p c ≡ true) ⊎ (edge p c ≡ false) → edge p c ≡ false
        go (inl e) = absurd (omega (arith, B.below p c e))
        go (inr e) = e

    -- no part is left at n and beyond
    none-high : (c p : ℕ) → n ≤ p → edge p c ≡ false
    none-high c p h = go (which (edge p c))
      where
        go : (edge p c ≡ true) ⊎ (edge p c ≡ false) → edge p c ≡ false
        go (inl e) = absurd (omega (arith, B.piece p c e))
        go (inr e) = e

    no-parts : (c : ℕ) → n ≤ B.level c → parts n edge c ≡ []
    no-parts c h = empty (parts n edge c) (λ q m. let e = parts-mem n edge B c m in omega (arith, B.lower q c e, B.fits q (B.piece q c e)))

    under_same : (k j c : ℕ) → n ≤ B.level c + k → n ≤ B.level c + j → under n edge k c ≡ under n edge j c
    unfolding under hang
    under_same zero zero c a b = refl
    under_same zero (suc j) c a b = sym (ap (hang n edge (under n edge j) c) (no-parts c (omega arith)))
    under_same (suc k) zero c a b = ap (hang n edge (under n edge k) c) (no-parts c (omega arith))
    under_same (suc k) (suc j) c a b =
        hang-same (under n edge k) (under n edge j) c (parts n edge c)
        (λ q m. let lt = B.lower q c (parts-mem n edge B c m) in under_same k j q (omega arith) (omega arith))

    -- only 0 has the lowest level
    low-zero : (c : ℕ) → c < n → B.level c ≤ 0 → c ≡ 0
    low-zero zero l h = refl
    low-zero (suc c) l h = absurd (omega (arith, B.lower (suc c) (parent n edge (suc c)) (parent-edge n edge B (suc c) (omega arith) l)))

    upward-zero : (k : ℕ) → upward k 0 ≡ []
    unfolding upward
    upward-zero zero = refl
    upward-zero (suc k) = refl

    upward-same : (k j c : ℕ) → B.level c ≤ k → B.level c ≤ j → c < n → upward k c ≡ upward j c
    unfolding upward
    upward-same zero zero c a b l = refl
    upward-same zero (suc j) c a b l = rw (eq-eqb c 0 (low-zero c l a), upward)
    upward-same (suc k) zero c a b l = rw (eq-eqb c 0 (low-zero c l b), upward)
    upward-same (suc k) (suc j) zero a b l = refl
    upward-same (suc k) (suc j) (suc c) a b l =
        let lt = B.lower (suc c) (parent n edge (suc c)) (parent-edge n edge B (suc c) (omega arith) l) in
        rw (ne_eqb (suc c) 0 (λ w. omega arith), upward)
        (ap (λ (es : List Event). events (onward (parent n edge (suc c)) (suc (suc c))) ++ (leave ∷ es)) (upward-same k j (parent n edge (suc c)) (omega arith) (omega arith) (B.whole (suc c) (parent n edge (suc c)) (parent-edge n edge B (suc c) (omega arith) l))))

    -- 0 is no part
    under-onward : (c : ℕ) → c < n → under n edge n c ≡ onward c 1
    unfolding under onward parts
    under-onward c l =
        let e : 0 + 1 ≡ 1 = omega arith in
        under_same n (suc n) c (omega arith) (omega arith)
        ∙ ap (hang n edge (under n edge n) c) (keep-from (λ q. edge q c) 1 0 n (λ x b. none-low c x (omega arith)) (omega arith) ∙ rw e)

    upward-step : (c : ℕ) → 0 < c → c < n → upward n c ≡ rest (parent n edge c) (suc c)
    unfolding upward rest
    upward-step c pos l = upward-same n (suc n) c (omega (arith, B.fits c l)) (omega (arith, B.fits c l)) l ∙ rw (ne_eqb c 0 (λ w. omega arith), upward)

    module _ (c p : ℕ) (l : p < n) where
      open-range : range p (n - p) ≡ p ∷ range (suc p) (n - suc p)
      unfolding range tab
      open-range = let e : n - p ≡ suc (n - suc p) = omega arith in rw e

      -- ## The steps

      pub step_skip : edge p c ≡ false → rest c p ≡ rest c (suc p)
      unfolding rest onward
      step_skip e = rw (open-range, keep-no (λ q. edge q c) p (range (suc p) (n - suc p)) e)

      pub step-shadow : edge p c ≡ true → (parent n edge p ≡ c → ⊥) → rest c p ≡ enter (shadow p) ∷ leave ∷ rest c (suc p)
      unfolding rest onward events
      step-shadow e x = rw (open-range, keep-yes (λ q. edge q c) p (range (suc p) (n - suc p)) e, hang-shadow n edge (under n edge n) c p (keep (λ q. edge q c) (range (suc p) (n - suc p))) (ne_eqb (parent n edge p) c x))

      pub step-node : c < n → edge p c ≡ true → parent n edge p ≡ c → rest c p ≡ enter (node p) ∷ rest p 1
      unfolding rest onward events
      step-node k e x =
          let pos = B.below p c e in
          rw (
            open-range,
            keep-yes (λ q. edge q c) p (range (suc p) (n - suc p)) e,
            hang-node n edge (under n edge n) c p (keep (λ q. edge q c) (range (suc p) (n - suc p))) (eq-eqb (parent n edge p) c x),
            ← under-onward p l,
            upward-step p pos l,
            x,
          )
          (ap (λ (es : List Event). enter (node p) ∷ es)
          (append_assoc (events (under n edge n p)) (leave ∷ events (onward c (suc p))) (leave ∷ upward n c)))

    -- ## The parts that are passed over

    step-pass : (c p : ℕ) → edge p c ≡ false → rest c p ≡ rest c (suc p)
    step-pass c p e = elim (dec_lt p n) [ yes l ↦ step_skip c p l e | no l ↦ over (omega arith) ]
      where
        over : n ≤ p → rest c p ≡ rest c (suc p)
        over l = unfold rest onward range tab in let d : n - p ≡ 0 = omega arith in let f : n - suc p ≡ 0 = omega arith in rw (d, f)

    step-over : (k c p : ℕ) → ((q : ℕ) → p ≤ q → q < p + k → edge q c ≡ false) → rest c p ≡ rest c (p + k)
    step-over zero c p h = let e : p ≡ p + 0 = omega arith in ap (rest c) e
    step-over (suc k) c p h =
        let e : suc p + k ≡ p + suc k = omega arith in
        step-pass c p (h p (omega arith) (omega arith)) ∙ step-over k c (suc p) (λ q a b. h q (omega arith) (omega arith)) ∙ ap (rest c) e

    pub step-next : (c p r : ℕ) → Next n edge c p r → rest c p ≡ rest c r
    step-next c p r N = let e : p + (r - p) ≡ r = omega (arith, N.from) in step-over (r - p) c p (λ q a b. N.before q a (omega arith)) ∙ ap (rest c) e

    pub step-leave : (c p : ℕ) → 0 < c → c < n → n ≤ p → rest c p ≡ leave ∷ rest (parent n edge c) (suc c)
    unfolding rest onward range tab hang events keep
    step-leave c p pos l h = let e : n - p ≡ 0 = omega arith in rw (e, ← upward-step c pos l)

    pub step_end : (p : ℕ) → n ≤ p → rest 0 p ≡ leave ∷ []
    unfolding rest onward range tab hang events keep upward
    step_end p h = let e : n - p ≡ 0 = omega arith in rw (e, upward-zero n)

    pub start : events (whole n edge) ≡ enter (node 0) ∷ rest 0 1
    unfolding rest upward whole events
    start = rw (under-onward 0 B.some, upward-zero n)
