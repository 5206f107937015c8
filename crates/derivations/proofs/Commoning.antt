-- Two pieces that meet in a common piece: the last of these on the way. Assumes nothing.
use Prim.Native.Nat.{ℕ, suc, ◌+◌, ◌-◌, ◌≤◌, ◌<◌}
use mathlib.Core.Path.{◌≡◌, refl, sym, ap, subst, ◌∙◌}
use mathlib.Core.Logic.{◌⊎◌, inl, inr}
use mathlib.Core.Bool.{true, false, false≢true}
use mathlib.Core.List.{List}
use native.Mathlib.Omega.{arith}
use lib.ListN.{get_or}
use Rattle.lists.proofs.Bools.{not-true}
use Rattle.matrices.specs.Matrix.{bit_of}
use Rattle.rules.specs.Fact.{PART, MEETS, fact_of}
use Rattle.records.specs.declared.Record.{Record}
use Rattle.records.specs.Record.{records}
use Rattle.chain_format.specs.declared.steps.Step.{Step}
use Rattle.chain_format.specs.Step.{step_at, shows}
use Rattle.chain_format.specs.Citing.{citing}
use Rattle.chain_format.specs.Twice.{alike}
use Rattle.chain_format.proofs.Showing.{Ends, straight, swapped, showing-ends, ends-show}
use Rattle.derivations.specs.Written.{Put}
use Rattle.derivations.specs.Hops.{Way, arrived, onward, Reaches, Hopped}
use Rattle.derivations.specs.Sources.{Sources}
use Rattle.derivations.specs.Climbs.{Contained}
use Rattle.derivations.specs.Distinct.{Upward, begun, higher}
use Rattle.derivations.proofs.Climbing.{goes_on}
use Rattle.derivations.proofs.Distincts.{unlike-kind, unlike-part, distinct_none, distinct-one, distinct-weaken, distinct-kept, distinct-join}
use Rattle.derivations.specs.Shown.{Writes, Adds}
use Rattle.derivations.specs.Lifts.{lift-c', Setting, Telling, Unmarked, Inside, Between, Spanning, Same, Lifting, Lifted, meets, Routed, Spans}
use Rattle.derivations.specs.Commons.{Last, Risen, Joined}
use Rattle.derivations.proofs.Joining.{justified-c'}
use Rattle.derivations.proofs.Composed.{still-shown, adds_none, adds-some, writes_one, writes-adds, writes-put}
use Rattle.derivations.proofs.Linked.{upward-between, hops-sourced, inside-itself}
use Rattle.derivations.specs.Routes.{lift_to, route_to}
use Rattle.derivations.proofs.Carries.{saying, as_said, itself-grounded, once-unlike, twice-unlike}
use Rattle.derivations.proofs.Lifting.{alike_same, base-lift}

-- ---- the walk

module _ {hop : List ℕ} {a : ℕ} where
  -- what is above y is the next piece, or above it
  above-next : {y w : ℕ} (z : ℕ) → z ≡ get_or hop y 0 → Upward hop a y w → (w ≡ z) ⊎ Upward hop a z w
  above-next z e (begun o v f) = inl (f ∙ sym e)
  above-next {y} {w} z e (higher u o v f) = pick (above-next z e u) o v f
    where
      pick : {x l : ℕ} → (x ≡ z) ⊎ Upward hop a z x → (x ≡ a → ⊥) → Way hop a x (suc l) → w ≡ get_or hop x 0 → (w ≡ z) ⊎ Upward hop a z w
      pick {x} {l} (inl q) o v f = inr (begun (λ r. o (q ∙ r)) (subst (λ u. Way hop a u (suc l)) q v) (f ∙ ap (λ u. get_or hop u 0) q))
      pick (inr q) o v f = inr (higher q o v f)

  -- nothing is above a
  above-none : {y w : ℕ} → y ≡ a → Upward hop a y w → ⊥
  above-none e (begun o v f) = o e
  above-none e (higher u o v f) = above-none e u

-- after i hops from x the walk stands at y, and of the pieces that it met `last` is the last that is in b
pub record Walking (hop d : List ℕ) (a b x i y last : ℕ) : Type 0 where
  pub left : (l : ℕ) × (i + l ≤ 2047) × Way hop a y l
  pub here : (y ≡ x) ⊎ Upward hop a x y
  pub met : (last ≡ x) ⊎ Upward hop a x last
  pub inside : bit_of d b last ≡ true
  pub reaches : Reaches hop a last 2047
  pub outside : (w : ℕ) → Upward hop a last w → (bit_of d b w ≡ false) ⊎ Upward hop a y w

module _ {hop d : List ℕ} {a b x : ℕ} where
  pub walk_start : Reaches hop a x 2047 → bit_of d b x ≡ true → Walking hop d a b x 0 x x
  walk_start r i =
      record { left = (r.0, omega (arith, r.1), r.2); here = inl refl; met = inl refl; inside = i; reaches = r; outside = λ w u. inr u }

  module _ {i y last : ℕ} (W : Walking hop d a b x i y last) where
    pub walk-done : y ≡ a → Last hop d a b x last
    walk-done e = record { met = W.met; inside = W.inside; reaches = W.reaches; outside = λ w u. pick (W.outside w u) }
      where
        pick : {w : ℕ} → (bit_of d b w ≡ false) ⊎ Upward hop a y w → bit_of d b w ≡ false
        pick (inl q) = q
        pick (inr q) = absurd (above-none e q)

    pub walk_end : 2047 ≤ i → Last hop d a b x last
    walk_end l = walk-done (pick W.left.0 W.left.1 W.left.2)
      where
        pick : (n : ℕ) → i + n ≤ 2047 → Way hop a y n → y ≡ a
        pick n h (arrived e) = e
        pick n h (onward {l = m} c v) = absurd (omega arith)

    module _ (o : y ≡ a → ⊥) where
      ways : (m : ℕ) × (W.left.0 ≡ suc m) × (y < 2048) × Way hop a (get_or hop y 0) m
      ways = goes_on W.left.2 o

      pub walk-low : y < 2048
      walk-low = ways.2

      module _ (z : ℕ) (e : z ≡ get_or hop y 0) where
        way : Way hop a z ways.0
        way = subst (λ u. Way hop a u ways.0) (sym e) ways.3

        next : (l : ℕ) × (i + 1 + l ≤ 2047) × Way hop a z l
        next = (ways.0, omega (arith, W.left.1, ways.1), way)

        from : Way hop a y (suc ways.0)
        from = subst (Way hop a y) ways.1 W.left.2

        pub walk_up : Upward hop a x z
        walk_up = pick W.here
          where
            pick : (y ≡ x) ⊎ Upward hop a x y → Upward hop a x z
            pick (inl q) = begun (λ r. o (q ∙ r)) (subst (λ u. Way hop a u (suc ways.0)) q from) (e ∙ ap (λ u. get_or hop u 0) q)
            pick (inr q) = higher q o from e

        pub walk-in : bit_of d b z ≡ true → Walking hop d a b x (i + 1) z z
        walk-in t =
            record {
              left = next;
              here = inr walk_up;
              met = inr walk_up;
              inside = t;
              reaches = (ways.0, omega (arith, W.left.1, ways.1), way);
              outside = λ w u. inr u;
            }

        pub walk-out : bit_of d b z ≡ false → Walking hop d a b x (i + 1) z last
        walk-out t = record { left = next; here = inr walk_up; met = W.met; inside = W.inside; reaches = W.reaches; outside = λ w u. pick (W.outside w u) }
          where
            then : {w : ℕ} → (w ≡ z) ⊎ Upward hop a z w → (bit_of d b w ≡ false) ⊎ Upward hop a z w
            then (inl q) = inl (ap (bit_of d b) q ∙ t)
            then (inr q) = inr q

            pick : {w : ℕ} → (bit_of d b w ≡ false) ⊎ Upward hop a y w → (bit_of d b w ≡ false) ⊎ Upward hop a z w
            pick (inl q) = inl q
            pick (inr q) = then (above-next z e q)

-- ---- the lift along the hops

abbrev risen : ℕ → ℕ → Step
risen k g = record { rule = 7; kind = 3; a = k; b = g; first = 0; second = 0 }

pub risen-none : {n : ℕ} {hop source : List ℕ} {g k : ℕ} {c : List ℕ} {m : ℕ} → g ≡ k → Risen n hop source g k c m c m
risen-none {g = g} {c = c} {m = m} e =
    record { writes = λ es S q. adds_none (subst (λ u. shows (step_at c (m - 1)) (MEETS u g) ≡ true) e q); steps = distinct_none }

pub risen-some :
    {n : ℕ} {hop source : List ℕ} {g k : ℕ} {c c' c'' : List ℕ} {m m' : ℕ} → g < n → k < n → 1 ≤ m → (g ≡ k → ⊥) → Reaches hop k g 2047 → Contained hop source k g c m c' m'
    → Put c' c'' m' (record { rule = 7; kind = 3; a = k; b = g; first = m' - 1; second = m - 1 }) → Risen n hop source g k c m c'' (m' + 1)
risen-some {n} {hop} {source} {g} {k} {c} {c'} {c''} {m} {m'} lg lk lm o R C p =
    let h = C.more in
    record {
      writes = λ es S q.
          let w : Writes n es (PART g k) 4093 c m c' m' = record { more = C.more; few = omega (arith, C.few 2047 (omega arith) R); edited = C.edited; shown = C.shown; ok = C.ok n es S lg } in
          adds-some
          (writes-put w p
          (justified-c' n es m' last (step_at c' (m' - 1)) (step_at c' (m - 1)) lk lg (omega arith) (omega arith) g g k refl C.shown (still-shown C.edited (m - 1) (omega arith) (MEETS g g) q)
          (ends-show last 3 g k refl (swapped refl refl refl)))
          (MEETS k g) (ends-show last 3 k g refl (straight refl refl)));
      steps =
          distinct-weaken all
          (distinct-join (omega arith) (omega arith) beside (distinct-kept p.edited (omega arith) (C.steps o)) (distinct-one p));
    }
  where
    last : Step
    last = record { rule = 7; kind = 3; a = k; b = g; first = m' - 1; second = m - 1 }

    beside : (z y : Step) → (z.kind ≡ 1) × Upward hop k g z.b → y ≡ last → alike z y ≡ false
    beside z y a b = unlike-kind z y (λ e. omega (arith, a.0, ap (λ (x : Step). x.kind) b))

    all : (z : Step) → ((z.kind ≡ 1) × Upward hop k g z.b) ⊎ (z ≡ last) → ((z.kind ≡ 1) × Upward hop k g z.b) ⊎ ((g ≡ k → ⊥) × Same z (risen k g))
    all z (inl a) = inl a
    all z (inr b) = inr (o, subst (λ y. Same y (risen k g)) (sym b) (record { kinds = refl; lefts = refl; rights = refl }))

-- ---- both lifts

module _ {n : ℕ} {claim : Record} {book e d hop : List ℕ} {x a b g : ℕ} (S : Setting n claim book e) (T : Telling n claim book d) (U : Unmarked n claim book x) (lx : x < n) (la : a < n) (lb : b < n) (H : Hopped n e a hop) (L : Last hop d a b x g) where
  lies : (g < n) × Inside n claim book x g
  lies = pick L.met
    where
      pick : (g ≡ x) ⊎ Upward hop a x g → (g < n) × Inside n claim book x g
      pick (inl q) = (omega arith, subst (Inside n claim book x) (sym q) (inside-itself S x lx))
      pick (inr u) = let z = upward-between S la H lx u in (z.present, z.over)

  pub last-low : g < n
  last-low = lies.0

  pub last-inside : Inside n claim book g b
  last-inside = sym (T.tells g b last-low lb) ∙ L.inside

  abbrev base : Step
  base = saying 9 3 g g 0

  abbrev end : Step
  end = saying 7 3 a b 0

  -- nothing further up on the way to a is on the way to b
  parted : {w : ℕ} → Upward hop a g w → Between n claim book g b w → ⊥
  parted {w} u B = false≢true (sym (L.outside w u) ∙ T.tells w b B.present lb ∙ B.under)

  module _ {source c c₀ c₁ : List ℕ} {m i : ℕ} (O : Sources claim book hop (records book) source) (p : Put c c₀ m base) (R : Risen n hop source g a c₀ (m + 1) c₁ i) where
    first : Writes n (citing claim book) (MEETS g g) 1 c m c₀ (m + 1)
    first = writes_one p ((itself-grounded n (citing claim book) S.small g last-low (U g last-low lies.1)).holds _ _ _) (MEETS g g) (as_said 9 3 g g 0)

    rise : Adds n (citing claim book) (MEETS a g) 4094 c₀ (m + 1) c₁ i
    rise = R.writes (citing claim book) (hops-sourced S la H O) first.shown

    pub risen-writes : Writes n (citing claim book) (MEETS a g) 4095 c m c₁ i
    risen-writes = writes-adds first rise

    module _ {c₂ : List ℕ} {j : ℕ} (Y : Lifted n claim book (lift_to g b 7 true 3 a b) c₁ i c₂ j) where
      last : Adds n (citing claim book) (MEETS a b) 4094 c₁ i c₂ j
      last = Y.writes (MEETS a g) (MEETS a b) (MEETS a b) lift-c' risen-writes.shown (as_said 7 3 a b 0) (as_said 7 3 a b 0)

      abbrev Up : Step → Type 0
      Up z = ((z.kind ≡ 1) × Upward hop a g z.b) ⊎ ((g ≡ a → ⊥) × Same z (risen a g))

      as-lift : (z : Step) → Up z → Lifting n claim book (lift_to g a 7 true 3 a g) z
      as-lift z (inl q) = inl (q.0, upward-between S la H last-low q.1)
      as-lift z (inr q) = inr q

      -- the base shows neither a MEETS g nor a MEETS b
      other : base.kind ≡ 1 → ⊥
      other q = omega arith

      end-unlike : (g ≡ b → ⊥) → alike base end ≡ false
      end-unlike o = not-true _ (λ q. pick (showing-ends base 3 a b q))
        where
          pick : Ends base 3 a b → ⊥
          pick (straight u v) = o v
          pick (swapped t u v) = o u

      second : (z w : Step) → z ≡ base → Up w → alike z w ≡ false
      second z w q r = base-lift (lift_to g a 7 true 3 a g) other (λ o. once-unlike 3 g g a b base (as_said 9 3 g g 0) o 7) z w q (as-lift w r)

      beside : (z w : Step) → Up z → Lifting n claim book (lift_to g b 7 true 3 a b) w → alike z w ≡ false
      beside z w (inl q) (inl r) = unlike-part z w r.0 (λ u v. parted (subst (Upward hop a g) v q.1) r.1)
      beside z w (inl q) (inr r) = unlike-kind z w (λ u. omega (arith, q.0, r.1.kinds))
      beside z w (inr q) (inl r) = unlike-kind z w (λ u. omega (arith, q.1.kinds, r.0))
      beside z w (inr q) (inr r) = alike_same q.1 r.1 ∙ twice-unlike 3 g g a b base r.0 7 7

      third : (z w : Step) → (z ≡ base) ⊎ Up z → Lifting n claim book (lift_to g b 7 true 3 a b) w → alike z w ≡ false
      third z w (inl q) r = base-lift (lift_to g b 7 true 3 a b) other end-unlike z w q r
      third z w (inr q) r = beside z w q r

      all : (z : Step) → ((z ≡ base) ⊎ Up z) ⊎ Lifting n claim book (lift_to g b 7 true 3 a b) z → Spanning n claim book 3 g a g b z
      all z (inl (inl q)) = inr (ap (λ (y : Step). y.kind) q)
      all z (inl (inr (inl q))) = inl (inl (q.0, upward-between S la H last-low q.1))
      all z (inl (inr (inr q))) = inr q.1.kinds
      all z (inr (inl q)) = inl (inr q)
      all z (inr (inr q)) = inr q.1.kinds

      pub common-joined : Joined n claim book x x a b c m c₂ j
      common-joined =
          let h = rise.more in
          let k = last.more in
          record {
            writes = writes-adds risen-writes last;
            left = g;
            right = g;
            left_in = last-low;
            right-in = last-low;
            over-x = lies.1;
            over-y = lies.1;
            steps = λ q.
                distinct-weaken all
                (distinct-join (omega arith) (omega arith) third
                (distinct-join (omega arith) (omega arith) second (distinct-kept last.edited (omega arith) (distinct-kept rise.edited (omega arith) (distinct-one p)))
                (distinct-kept last.edited (omega arith) R.steps))
                (Y.steps (λ z. omega arith)));
          }

-- from two pieces
pub meets-routed :
    {n : ℕ} {claim : Record} {book : List ℕ} {x y a b : ℕ} → x < n → y < n → a < n → b < n → Inside n claim book x a → Inside n claim book y b → Routed n claim book 3 a b x y
unfolding route_to
meets-routed lx ly la lb p q = record { carriable = meets; from-left = lx; from-right = ly; to-left = la; to-right = lb; once = p; twice = q }

pub spans-joined :
    {n : ℕ} {claim : Record} {book e : List ℕ} {x y a b : ℕ} {c c' : List ℕ} {m m' : ℕ} → Setting n claim book e → (x ≡ y → ⊥) → x < n → y < n → Spans n claim book 3 a b x y c m c' m'
    → Joined n claim book x y a b c m c' m'
unfolding fact_of route_to
spans-joined {x = x} {y = y} S o lx ly P =
    record {
      writes = P.writes;
      left = x;
      right = y;
      left_in = lx;
      right-in = ly;
      over-x = inside-itself S x lx;
      over-y = inside-itself S y ly;
      steps = λ d. P.steps (d o);
    }

pub same-joined :
    {n : ℕ} {claim : Record} {book : List ℕ} {x y a b : ℕ} {c c' : List ℕ} {m m' : ℕ} → x ≡ y → Joined n claim book x x a b c m c' m' → Joined n claim book x y a b c m c' m'
same-joined {n} {claim} {book} {x} {y} {a} {b} {c} {c'} {m} {m'} e J = subst (λ z. Joined n claim book x z a b c m c' m') e J
