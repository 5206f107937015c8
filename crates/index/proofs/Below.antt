-- What is visited below a piece: its parts in the book, theirs, and so on; each part of a node that is visited is visited too. Assumes nothing.
use mathlib.Core.Path.{◌≡◌, refl, ap}
use mathlib.Core.Logic.{◌⊎◌, inl, inr}
use mathlib.Core.Bool.{Bool, true, false}
use mathlib.Core.List.Memᴰ
use mathlib.Core.List.Memᴰ.{head as here}
use mathlib.Core.List.Memᴰ.{tail as there}
use mathlib.Core.List.{List, [], ◌∷◌, ◌++◌}
use Prim.Native.Nat.{ℕ, zero, suc, ◌+◌, ◌≤◌}
use native.Mathlib.Omega.{arith}
use lib.Dec.{eqb}
use Rattle.index.specs.Breadth.{parent}
use Rattle.index.specs.Tree.{Visit, node, shadow, Forest, hang, under, visits}
use Rattle.lists.proofs.Numbers.{◌∈◌, which}
use Rattle.index.specs.Pairs.{parts, Book, Within, self, step}
use Rattle.index.proofs.Nodes.{hang-node, hang-shadow, parts-mem, mem-parts}

-- the piece of a visit
unfoldable pub piece : Visit → ℕ
piece (node p) = p
piece (shadow p) = p

pub within-trans : {edge : ℕ → ℕ → Bool} {f g h : ℕ} → Within edge f g → Within edge g h → Within edge f h
within-trans self w = w
within-trans (step e u) w = step e (within-trans u w)

-- a piece is visited, as a node or as a shadow
abbrev pub Seen : ℕ → List Visit → Type 0
Seen g vs = (node g ∈ vs) ⊎ (shadow g ∈ vs)

pub seen-in : {g : ℕ} {xs ys : List Visit} → ((v : Visit) → v ∈ xs → v ∈ ys) → Seen g xs → Seen g ys
seen-in {g} h (inl m) = inl (h (node g) m)
seen-in {g} h (inr m) = inr (h (shadow g) m)

module _ (n : ℕ) (edge : ℕ → ℕ → Bool) where
  module _ (below : ℕ → Forest) (c : ℕ) where
    -- what a visit of `hang` can be
    pub data Hung (qs : List ℕ) (v : Visit) : Type 0 where
      as-shadow : (q : ℕ) → q ∈ qs → v ≡ shadow q → Hung qs v
      as-node : (q : ℕ) → q ∈ qs → eqb (parent n edge q) c ≡ true → v ≡ node q → Hung qs v
      deeper : (q : ℕ) → q ∈ qs → eqb (parent n edge q) c ≡ true → v ∈ visits (below q) → Hung qs v

    later : {q : ℕ} {qs : List ℕ} {v : Visit} → Hung qs v → Hung (q ∷ qs) v
    later (as-shadow p m w) = as-shadow p (there m) w
    later (as-node p m e w) = as-node p (there m) e w
    later (deeper p m e w) = deeper p (there m) e w

    pub hang-mem : (qs : List ℕ) {v : Visit} → v ∈ visits (hang n edge below c qs) → Hung qs v
    unfolding hang visits
    hang-mem [] m = absurd (Memᴰ.not-nil m)
    hang-mem (q ∷ qs) {v} m = go (which (eqb (parent n edge q) c)) (λ (t : v ∈ visits (hang n edge below c qs)). hang-mem qs t)
      where
        rest : List Visit
        rest = visits (hang n edge below c qs)

        deep : eqb (parent n edge q) c ≡ true → (v ∈ visits (below q)) ⊎ (v ∈ rest) → (v ∈ rest → Hung qs v) → Hung (q ∷ qs) v
        deep e (inl j) r = deeper q (here refl) e j
        deep e (inr j) r = later (r j)

        at-node : eqb (parent n edge q) c ≡ true → (v ≡ node q) ⊎ (v ∈ visits (below q) ++ rest) → (v ∈ rest → Hung qs v) → Hung (q ∷ qs) v
        at-node e (inl w) r = as-node q (here refl) e w
        at-node e (inr j) r = deep e (Memᴰ.append_cases (visits (below q)) j) r

        at-shadow : (v ≡ shadow q) ⊎ (v ∈ rest) → (v ∈ rest → Hung qs v) → Hung (q ∷ qs) v
        at-shadow (inl w) r = as-shadow q (here refl) w
        at-shadow (inr j) r = later (r j)

        go : (eqb (parent n edge q) c ≡ true) ⊎ (eqb (parent n edge q) c ≡ false) → (v ∈ rest → Hung qs v) → Hung (q ∷ qs) v
        go (inl e) r = at-node e (Memᴰ.cases_cons (rw (hang-node n edge below c q qs e) at m)) r
        go (inr e) r = at-shadow (Memᴰ.cases_cons (rw (hang-shadow n edge below c q qs e) at m)) r

    -- and what `hang` visits: each of its pieces, and below those that are nodes
    pub mem-hang : (qs : List ℕ) {q : ℕ} → q ∈ qs
        → ((node q ∈ visits (hang n edge below c qs)) × ((v : Visit) → v ∈ visits (below q) → v ∈ visits (hang n edge below c qs)))
        ⊎ ((shadow q ∈ visits (hang n edge below c qs)) × (eqb (parent n edge q) c ≡ false))
    unfolding hang visits
    mem-hang [] m = absurd (Memᴰ.not-nil m)
    mem-hang (p ∷ qs) {q} m = go (which (eqb (parent n edge p) c)) (Memᴰ.cases_cons m) (λ (t : q ∈ qs). mem-hang qs t)
      where
        All : List Visit → Type 0
        All vs = ((node q ∈ vs) × ((v : Visit) → v ∈ visits (below q) → v ∈ vs)) ⊎ ((shadow q ∈ vs) × (eqb (parent n edge q) c ≡ false))

        rest : List Visit
        rest = visits (hang n edge below c qs)

        all_in : {vs : List Visit} → ((v : Visit) → v ∈ rest → v ∈ vs) → All rest → All vs
        all_in h (inl a) = inl (h (node q) a.0, λ v i. h v (a.1 v i))
        all_in h (inr a) = inr (h (shadow q) a.0, a.1)

        go : (eqb (parent n edge p) c ≡ true) ⊎ (eqb (parent n edge p) c ≡ false) → (q ≡ p) ⊎ (q ∈ qs) → (q ∈ qs → All rest)
            → All (visits (hang n edge below c (p ∷ qs)))
        go (inl e) (inl w) r = rw (hang-node n edge below c p qs e) (inl (here (ap node w), λ v i. there (Memᴰ.append_left rest (rw w at i))))
        go (inr e) (inl w) r = rw (hang-shadow n edge below c p qs e) (inr (here (ap shadow w), rw w e))
        go (inl e) (inr t) r = rw (hang-node n edge below c p qs e) (all_in (λ v i. there (Memᴰ.append_right (visits (below p)) i)) (r t))
        go (inr e) (inr t) r = rw (hang-shadow n edge below c p qs e) (all_in (λ v i. there i) (r t))

  module _ (B : Book n edge) where
    pub within-le : {g h : ℕ} → Within edge g h → B.level h ≤ B.level g
    within-le self = omega arith
    within-le (step {g = g} {c = c} e w) = omega (arith, B.lower g c e, within-le w)

    -- what is visited below c is a part of something within c
    pub under-mem : (k c : ℕ) {v : Visit} → v ∈ visits (under n edge k c) → (d : ℕ) × (edge (piece v) d ≡ true) × Within edge d c
    unfolding under visits piece
    under-mem zero c m = absurd (Memᴰ.not-nil m)
    under-mem (suc k) c {v} m = go (hang-mem (under n edge k) c (parts n edge c) m) (λ (q : ℕ) (i : v ∈ visits (under n edge k q)). under-mem k q i)
      where
        Found : ℕ → Type 0
        Found c = (d : ℕ) × (edge (piece v) d ≡ true) × Within edge d c

        top : (q : ℕ) → q ∈ parts n edge c → piece v ≡ q → Found c
        top q i w = (c, rw w (parts-mem n edge B c i), self)

        go : Hung (under n edge k) c (parts n edge c) v → ((q : ℕ) → v ∈ visits (under n edge k q) → Found q) → Found c
        go (as-shadow q i w) r = top q i (ap piece w)
        go (as-node q i e w) r = top q i (ap piece w)
        go (deeper q i e w) r = let f = r q w in (f.0, f.1, within-trans f.2 (step (parts-mem n edge B c i) self))

    -- a part of h is visited below h
    pub part-seen : (k h g : ℕ) → n ≤ B.level h + k → edge g h ≡ true → Seen g (visits (under n edge k h))
    unfolding under
    part-seen zero h g l e = absurd (omega (arith, B.lower g h e, B.fits g (B.piece g h e)))
    part-seen (suc k) h g l e = go (mem-hang (under n edge k) h (parts n edge h) (mem-parts n edge B g h e))
      where
        vs : List Visit
        vs = visits (hang n edge (under n edge k) h (parts n edge h))

        go : ((node g ∈ vs) × ((v : Visit) → v ∈ visits (under n edge k g) → v ∈ vs)) ⊎ ((shadow g ∈ vs) × (eqb (parent n edge g) h ≡ false)) → Seen g vs
        go (inl a) = inl a.0
        go (inr a) = inr a.0

    -- a part of a node that is visited below h is visited below h
    pub node-part-seen : (k h c g : ℕ) → n ≤ B.level h + k → edge g c ≡ true → node c ∈ visits (under n edge k h) → Seen g (visits (under n edge k h))
    unfolding under visits
    node-part-seen zero h c g l e m = absurd (Memᴰ.not-nil m)
    node-part-seen (suc k) h c g l e m =
        go (hang-mem (under n edge k) h (parts n edge h) m)
        (λ (q : ℕ) (s : q ∈ parts n edge h) (i : node c ∈ visits (under n edge k q)). node-part-seen k q c g (omega (arith, B.lower q h (parts-mem n edge B h s))) e i)
      where
        vs : List Visit
        vs = visits (hang n edge (under n edge k) h (parts n edge h))

        lift : (q : ℕ) → q ∈ parts n edge h → eqb (parent n edge q) h ≡ true → Seen g (visits (under n edge k q)) → Seen g vs
        lift q i e s = pick (mem-hang (under n edge k) h (parts n edge h) i)
          where
            pick : ((node q ∈ vs) × ((v : Visit) → v ∈ visits (under n edge k q) → v ∈ vs)) ⊎ ((shadow q ∈ vs) × (eqb (parent n edge q) h ≡ false)) → Seen g vs
            pick (inl a) = seen-in a.1 s
            pick (inr a) = let z : true ≡ false = cc in absurd (mathlib.Core.Bool.true≢false z)

        go : Hung (under n edge k) h (parts n edge h) (node c)
            → ((q : ℕ) → q ∈ parts n edge h → node c ∈ visits (under n edge k q) → Seen g (visits (under n edge k q))) → Seen g vs
        go (as-shadow q i w) r = let z : true ≡ false = cc in absurd (mathlib.Core.Bool.true≢false z)
        go (as-node q i t w) r =
            let cq : c ≡ q = cc in
            lift q i t (part-seen k q g (omega (arith, B.lower q h (parts-mem n edge B h i))) (rw cq at e))
        go (deeper q i t w) r = lift q i t (r q i w)
