-- Steps between leaders: what containment is along them and against them, and that the stored PARTs make them. Assumes nothing.
use Prim.Native.Nat.{ℕ, ◌<◌, ◌≤◌}
use mathlib.Core.Path.{◌≡◌, refl, sym, ap, ◌∙◌}
use mathlib.Core.Logic.{◌⊎◌, inl, inr}
use mathlib.Core.Bool.{true, not, ◌&&◌, false≢true}
use mathlib.Core.List.{List, Memᴰ}
use native.Mathlib.Decide.{ℕ_discrete}
use native.Mathlib.Omega.{arith}
use borrow.Author.Tests.{eqb-true, eqb-false, eq-eqb, ne_eqb, ltb-true, lt-ltb}
use lib.Dec.{eqb, ltb}
use lib.ListN.{length, get_or}
use Rattle.lists.proofs.Bools.{and_both, both-and, or-either, left_or, right_or, not-is-true}
use Rattle.matrices.specs.Matrix.{bit_of}
use Rattle.matrices.specs.Flow.{along, against}
use Rattle.matrices.specs.Led.{Led}
use Rattle.rules.specs.Fact.{Fact, PART, fact_of, unmarked}
use Rattle.rules.specs.Follows.{storing}
use Rattle.rules.proofs.Facts.{storing-find, storing-hit}
use Rattle.rules.proofs.Paths.{Path, here, top, up, leap, path-trans, path-below}
use Rattle.closure.specs.Stored.{stepping, step_bit}
use Rattle.closure.specs.Bounded.{Bounded}
use Rattle.closure.specs.Stepped.{Stepped}
use Rattle.closure.specs.Closed.{Holds, part_bit, whole_bit}
use Rattle.closure.proofs.Products.{path-above, d-path, path-d}
use Rattle.closure.proofs.Spans.{Spanned}

module _ (n : ℕ) (fs : List Fact) (B : Bounded n fs) where
  part-path : {h g : ℕ} → part_bit n fs h g ≡ true → Path unmarked n fs g h
  part-path q = d-path n fs B.within B.some B.fits q

  path-part : {h g : ℕ} → Path unmarked n fs g h → part_bit n fs h g ≡ true
  path-part w = path-d n fs B.within B.some B.fits w

  part-inside : (h x : ℕ) → part_bit n fs h x ≡ true → (h < n) × (x < n)
  part-inside h x q = let w = part-path q in (path-above B.within w, path-below B.within w)

  part-itself : (h : ℕ) → h < n → part_bit n fs h h ≡ true
  part-itself h l = let w : Path unmarked n fs h h = here l in path-part w

  part-onward : (h x y : ℕ) → part_bit n fs h x ≡ true → part_bit n fs x y ≡ true → part_bit n fs h y ≡ true
  part-onward h x y q r = path-part (path-trans (part-path r) (part-path q))

  module _ (e order lead : List ℕ) (S : Stepped n fs e order lead) where
    pub parts-spanned : Spanned (along e) (part_bit n fs) n lead
    parts-spanned = record {
      led = S.led;
      inside = part-inside;
      itself = part-itself;
      onward = part-onward;
      follower = S.up;
      leader = S.down;
      sound = λ h p l k q. S.sound h p l (omega (arith, B.fits)) q;
      step = λ h x a b ne q. let i = part-inside h x q in S.first h x i.0 i.1 a b ne q;
    }

    pub wholes-spanned : Spanned (against e) (whole_bit n fs) n lead
    unfolding whole_bit
    wholes-spanned = record {
      led = S.led;
      inside = λ h x q. let i = part-inside x h q in (i.1, i.0);
      itself = part-itself;
      onward = λ h x y q r. part-onward y x h r q;
      follower = S.down;
      leader = S.up;
      sound = λ h p l k q. let b = S.sound p h k (omega (arith, B.fits)) q in (b.1, b.0, b.2);
      step = λ h x a b ne q. let i = part-inside x h q in S.last x h i.0 i.1 b a (λ z. ne (sym z)) q;
    }

  -- ---- the steps that the stored PARTs make

  -- p is a part of k by one step
  data Step (lead : List ℕ) (k p : ℕ) : Type 0 where
    stored : (a b : ℕ) → Memᴰ (PART a b) fs → (get_or lead a 0 ≡ get_or lead b 0 → ⊥) → get_or lead b 0 ≡ k → get_or lead a 0 ≡ p → Step lead k p
    crowned : k ≡ 0 → 0 < p → p < n → get_or lead p 0 ≡ p → Step lead k p

  module _ (e lead : List ℕ) (E : Holds n e (step_bit n fs lead)) (L : Led n lead) (whole : get_or lead 0 0 ≡ 0) (raised : (g : ℕ) → g < n → part_bit n fs (get_or lead g 0) g ≡ true) (lowered : (g : ℕ) → g < n → part_bit n fs g (get_or lead g 0) ≡ true) where
    bit-step : {k p : ℕ} → k < n → p < 2048 → bit_of e k p ≡ true → Step lead k p
    unfolding step_bit stepping fact_of
    bit-step {k} {p} lk lp q = pick (or-either _ _ (sym (E.bits k p lk lp) ∙ q))
      where
        pick : (storing fs 1 (stepping lead k p) ≡ true) ⊎ ((eqb k 0 && (ltb 0 p && (ltb p n && eqb (get_or lead p 0) p))) ≡ true) → Step lead k p
        pick (inl h) =
            let s = storing-find fs 1 (stepping lead k p) h in
            let t = and_both (not (eqb (get_or lead s.0 0) (get_or lead s.1 0))) (eqb (get_or lead s.1 0) k && eqb (get_or lead s.0 0) p) s.3 in
            let u = and_both (eqb (get_or lead s.1 0) k) (eqb (get_or lead s.0 0) p) t.1 in
            stored s.0 s.1 s.2 (eqb-false _ _ (not-is-true _ t.0)) (eqb-true _ k u.0) (eqb-true _ p u.1)
        pick (inr h) =
            let a = and_both (eqb k 0) (ltb 0 p && (ltb p n && eqb (get_or lead p 0) p)) h in
            let b = and_both (ltb 0 p) (ltb p n && eqb (get_or lead p 0) p) a.1 in
            let c = and_both (ltb p n) (eqb (get_or lead p 0) p) b.1 in
            crowned (eqb-true k 0 a.0) (ltb-true 0 p b.0) (ltb-true p n c.0) (eqb-true _ p c.1)

    step-bit : {k p : ℕ} → k < n → p < n → Step lead k p → bit_of e k p ≡ true
    unfolding step_bit stepping
    step-bit {k} {p} lk lp (stored a b m ne x y) =
        let f = B.fits in
        E.bits k p lk (omega arith)
        ∙ left_or _ (storing-hit fs 1 (stepping lead k p) (PART a b) m refl (both-and (ap not (ne_eqb _ _ ne)) (both-and (eq-eqb _ k x) (eq-eqb _ p y))))
    step-bit {k} {p} lk lp (crowned z l h o) =
        let f = B.fits in
        E.bits k p lk (omega arith)
        ∙ right_or (storing fs 1 (stepping lead k p)) (both-and (eq-eqb k 0 z) (both-and (lt-ltb 0 p l) (both-and (lt-ltb p n h) (eq-eqb _ p o))))

    -- a step is a path between two leaders
    step-leads : {k p : ℕ} → Step lead k p → (get_or lead k 0 ≡ k) × (get_or lead p 0 ≡ p) × (p ≡ k → ⊥) × Path unmarked n fs p k
    step-leads {k} {p} (stored a b m ne x y) =
        let w = B.within _ m in (
          ap (λ (v : ℕ). get_or lead v 0) (sym x) ∙ L.own b w.1 ∙ x,
          ap (λ (v : ℕ). get_or lead v 0) (sym y) ∙ L.own a w.0 ∙ y,
          λ z. ne (y ∙ z ∙ sym x),
          rw (x, y) at (path-trans (part-path (lowered a w.0)) (up m (part-path (raised b w.1)))),
        )
    step-leads {k} {p} (crowned z l h o) = (ap (λ (v : ℕ). get_or lead v 0) z ∙ whole ∙ sym z, o, λ q. omega arith, rw z (top h (here B.some)))

    -- the last step of a path to a leader, and the first of one between leaders
    climb-last : {g k : ℕ} → get_or lead k 0 ≡ k → Path unmarked n fs g k → (get_or lead g 0 ≡ k) ⊎ ((p : ℕ) × (p < n) × (bit_of e k p ≡ true) × Path unmarked n fs g p)
    climb-last o (here l) = inl o
    climb-last o (leap c l r w) = absurd (false≢true c)
    climb-last {g} {k} o (up {h = h} m w) = go (climb-last o w) (ℕ_discrete (get_or lead g 0) (get_or lead h 0))
      where
        l : g < n
        l = (B.within _ m).0

        go : (get_or lead h 0 ≡ k) ⊎ ((p : ℕ) × (p < n) × (bit_of e k p ≡ true) × Path unmarked n fs h p) → Dec (get_or lead g 0 ≡ get_or lead h 0)
            → (get_or lead g 0 ≡ k) ⊎ ((p : ℕ) × (p < n) × (bit_of e k p ≡ true) × Path unmarked n fs g p)
        go (inl q) (yes z) = inl (z ∙ q)
        go (inl q) (no z) = inr (get_or lead g 0, L.below g l, step-bit (path-above B.within w) (L.below g l) (stored g h m z q refl), part-path (raised g l))
        go (inr r) d = inr (r.0, r.1, r.2, up m r.3)
    climb-last {g} {k} o (top l w) = go (climb-last o w) (ℕ_discrete (get_or lead g 0) 0)
      where
        go : (get_or lead 0 0 ≡ k) ⊎ ((p : ℕ) × (p < n) × (bit_of e k p ≡ true) × Path unmarked n fs 0 p) → Dec (get_or lead g 0 ≡ 0)
            → (get_or lead g 0 ≡ k) ⊎ ((p : ℕ) × (p < n) × (bit_of e k p ≡ true) × Path unmarked n fs g p)
        go (inl q) (yes z) = inl (z ∙ sym whole ∙ q)
        go (inl q) (no z) =
            inr (get_or lead g 0, L.below g l, step-bit (path-above B.within w) (L.below g l) (crowned (sym q ∙ whole) (omega arith) (L.below g l) (L.own g l)), part-path (raised g l))
        go (inr r) d = inr (r.0, r.1, r.2, top l r.3)

    climb-first : {g k : ℕ} → Path unmarked n fs g k → (get_or lead g 0 ≡ get_or lead k 0) ⊎ ((p : ℕ) × (p < n) × (bit_of e p (get_or lead g 0) ≡ true) × Path unmarked n fs p k)
    climb-first (here l) = inl refl
    climb-first (leap c l r w) = absurd (false≢true c)
    climb-first {g} {k} (up {h = h} m w) = go (climb-first w) (ℕ_discrete (get_or lead g 0) (get_or lead h 0))
      where
        l : (g < n) × (h < n)
        l = B.within _ m

        go : (get_or lead h 0 ≡ get_or lead k 0) ⊎ ((p : ℕ) × (p < n) × (bit_of e p (get_or lead h 0) ≡ true) × Path unmarked n fs p k) → Dec (get_or lead g 0 ≡ get_or lead h 0)
            → (get_or lead g 0 ≡ get_or lead k 0) ⊎ ((p : ℕ) × (p < n) × (bit_of e p (get_or lead g 0) ≡ true) × Path unmarked n fs p k)
        go (inl q) (yes z) = inl (z ∙ q)
        go (inr r) (yes z) = inr (r.0, r.1, ap (bit_of e r.0) z ∙ r.2, r.3)
        go d (no z) =
            inr (get_or lead h 0, L.below h l.1, step-bit (L.below h l.1) (L.below g l.0) (stored g h m z refl refl), path-trans (part-path (lowered h l.1)) w)
    climb-first {g} {k} (top l w) = go (climb-first w) (ℕ_discrete (get_or lead g 0) 0)
      where
        go : (get_or lead 0 0 ≡ get_or lead k 0) ⊎ ((p : ℕ) × (p < n) × (bit_of e p (get_or lead 0 0) ≡ true) × Path unmarked n fs p k) → Dec (get_or lead g 0 ≡ 0)
            → (get_or lead g 0 ≡ get_or lead k 0) ⊎ ((p : ℕ) × (p < n) × (bit_of e p (get_or lead g 0) ≡ true) × Path unmarked n fs p k)
        go (inl q) (yes z) = inl (z ∙ sym whole ∙ q)
        go (inr r) (yes z) = inr (r.0, r.1, ap (bit_of e r.0) (z ∙ sym whole) ∙ r.2, r.3)
        go d (no z) = inr (0, B.some, step-bit B.some (L.below g l) (crowned refl (omega arith) (L.below g l) (L.own g l)), w)

    -- so steps by `steps` are what rows are joined along, in an order of the pieces in which a leader comes after those that are part of it
    pub stepped :
        (order : List ℕ) (at : ℕ → ℕ) → n ≤ length order → ((i : ℕ) → i < n → (get_or order i 0 < n) × (at (get_or order i 0) ≡ i))
        → ((h : ℕ) → h < n → (at h < n) × (get_or order (at h) 0 ≡ h))
        → ((h p : ℕ) → h < n → p < n → get_or lead h 0 ≡ h → get_or lead p 0 ≡ p → (p ≡ h → ⊥) → part_bit n fs h p ≡ true → at p < at h)
        → Stepped n fs e order lead
    stepped order at room row placed before = record {
      sized = E.sized;
      sorted = record {
        room = room;
        at = at;
        row = row;
        placed = placed;
        earlier = λ h p l k q.
            let s = step-leads (bit-step l k q) in
            let b = path-below B.within s.3 in
            (before h p l b s.0 s.1 s.2 (path-part s.3), b);
      };
      led = L;
      up = raised;
      down = lowered;
      sound = λ h p l k q. let s = step-leads (bit-step l k q) in (s.0, s.1, path-part s.3);
      first = λ h x l k a b ne q. down h x a b ne (climb-last a (part-path q));
      last = λ h x l k a b ne q. up_from h x a b ne (climb-first (part-path q));
    }
      where
        down : (h x : ℕ) → get_or lead h 0 ≡ h → get_or lead x 0 ≡ x → (h ≡ x → ⊥) → (get_or lead x 0 ≡ h) ⊎ ((p : ℕ) × (p < n) × (bit_of e h p ≡ true) × Path unmarked n fs x p)
            → (p : ℕ) × (p < n) × (bit_of e h p ≡ true) × (part_bit n fs p x ≡ true)
        down h x a b ne (inl q) = absurd (ne (sym q ∙ b))
        down h x a b ne (inr r) = (r.0, r.1, r.2, path-part r.3)

        up_from : (h x : ℕ) → get_or lead h 0 ≡ h → get_or lead x 0 ≡ x → (h ≡ x → ⊥)
            → (get_or lead x 0 ≡ get_or lead h 0) ⊎ ((p : ℕ) × (p < n) × (bit_of e p (get_or lead x 0) ≡ true) × Path unmarked n fs p h)
            → (p : ℕ) × (p < n) × (bit_of e p x ≡ true) × (part_bit n fs h p ≡ true)
        up_from h x a b ne (inl q) = absurd (ne (sym (sym b ∙ q ∙ a)))
        up_from h x a b ne (inr r) = (r.0, r.1, ap (bit_of e r.0) (sym b) ∙ r.2, path-part r.3)
