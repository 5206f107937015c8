-- A fact carried along a containment. Assumes nothing.
use Prim.Native.Nat.{ℕ, ◌+◌, ◌-◌, ◌≤◌, ◌<◌}
use mathlib.Core.Path.{◌≡◌, refl, sym, ap, subst, ◌∙◌}
use mathlib.Core.Logic.{◌⊎◌, inl, inr}
use mathlib.Core.Bool.{Bool, true, false}
use mathlib.Core.List.{List}
use native.Mathlib.Omega.{arith}
use Rattle.rules.specs.Fact.{Fact, PART, APART, MEETS, NOTPART, kind, left, right}
use Rattle.records.specs.declared.Record.{Record}
use Rattle.chain_format.specs.Citing.{Cited, citing}
use Rattle.chain_format.specs.declared.steps.Step.{Step}
use Rattle.chain_format.specs.Step.{step_at, unordered, showing, shows}
use Rattle.chain_format.specs.Justified.{justified}
use Rattle.derivations.specs.declared.showing.Lift.{Lift}
use Rattle.derivations.specs.declared.showing.Route.{Route}
use Rattle.derivations.specs.Written.{Put}
use Rattle.chain_format.proofs.Showing.{Ends, straight, swapped, showing-kind, showing-ends, ends-show}
use Rattle.chain_format.specs.Twice.{alike}
use Rattle.derivations.specs.Distinct.{Distinct}
use Rattle.derivations.proofs.Distincts.{unlike-kind, unlike-part, distinct_none, distinct-one, distinct-weaken, distinct-kept, distinct-join}
use Rattle.derivations.specs.Shown.{Writes, Adds}
use Rattle.derivations.specs.Lifts.{Along, lift-b, lift-a', lift-b', lift-c', Between, Disjoint, OnWay, Reached, Same, Lifting, Lifted, Grounded, told, Carried, Unlike, Forked, Routing, Lifts}
use Rattle.derivations.proofs.Joining.{justified-b, justified-a', justified-b', justified-c'}
use Rattle.derivations.proofs.Composed.{still-shown, writes_one, adds_none, adds-some, writes-adds, writes-put}

-- a step with its premises
abbrev pub by : Step → ℕ → ℕ → Step
by s first second = record { rule = s.rule; kind = s.kind; a = s.a; b = s.b; first = first; second = second }

pub by-shows : (s : Step) (first second : ℕ) (f : Fact) → shows s f ≡ true → shows (by s first second) f ≡ true
unfolding showing
by-shows s first second f e = e

module _ (n : ℕ) (es : List Cited) (i : ℕ) (p q : Step) where
  part-first :
      {r g k : ℕ} {f f' : Fact} → Along r true g k f f' → (s : Step) → s.rule ≡ r → s.a < n → s.b < n → s.first < i → s.second < i → shows p (PART g k) ≡ true → shows q f ≡ true
      → shows s f' ≡ true → justified n es i s p q ≡ true
  part-first (lift-b {g = g} {h = h} {k = k}) s r la lb lf ls x y z = justified-b n es i s p q la lb lf ls g h k r x y z
  part-first (lift-a' {g = g} {h = h} {k = k}) s r la lb lf ls x y z = justified-a' n es i s p q la lb lf ls g h k r x y z
  part-first (lift-c' {g = g} {h = h} {k = k}) s r la lb lf ls x y z = justified-c' n es i s p q la lb lf ls g h k r x y z

  part-second :
      {r g k : ℕ} {f f' : Fact} → Along r false g k f f' → (s : Step) → s.rule ≡ r → s.a < n → s.b < n → s.first < i → s.second < i → shows p f ≡ true → shows q (PART g k) ≡ true
      → shows s f' ≡ true → justified n es i s p q ≡ true
  part-second (lift-b' {g = g} {h = h} {k = k}) s r la lb lf ls x y z = justified-b' n es i s p q la lb lf ls g h k r x y z

-- along g PART g nothing changes
still : {r g k : ℕ} {b : Bool} {f f' : Fact} → Along r b g k f f' → g ≡ k → (t : Step) → shows t f ≡ true → shows t f' ≡ true
still (lift-b {g = g} {h = h} {k = k}) e t x = subst (λ (z : ℕ). shows t (APART z k) ≡ true) (sym e) x
still (lift-a' {g = g} {h = h} {k = k}) e t x = subst (λ (z : ℕ). shows t (NOTPART z k) ≡ true) e x
still (lift-b' {g = g} {h = h} {k = k}) e t x = subst (λ (z : ℕ). shows t (NOTPART g z) ≡ true) (sym e) x
still (lift-c' {g = g} {h = h} {k = k}) e t x = subst (λ (z : ℕ). shows t (MEETS g z) ≡ true) e x

-- a fact that s shows in two ways is shown by t in the one way if in the other
either_way : (s t : Step) (f d : Fact) → shows s f ≡ true → shows s d ≡ true → shows t f ≡ true → shows t d ≡ true
either_way s t f d p q r =
    let same : kind f ≡ kind d = sym (showing-kind s _ _ _ p) ∙ showing-kind s _ _ _ q in
    ends-show t _ _ _ (showing-kind t _ _ _ r ∙ same) (pick same (showing-ends s _ _ _ p) (showing-ends s _ _ _ q) (showing-ends t _ _ _ r))
  where
    pick : kind f ≡ kind d → Ends s (kind f) (left f) (right f) → Ends s (kind d) (left d) (right d) → Ends t (kind f) (left f) (right f) → Ends t (kind d) (left d) (right d)
    pick e (straight a b) (straight x y) (straight u v) = straight (u ∙ sym a ∙ x) (v ∙ sym b ∙ y)
    pick e (straight a b) (straight x y) (swapped o u v) = swapped (ap unordered (sym e) ∙ o) (u ∙ sym b ∙ y) (v ∙ sym a ∙ x)
    pick e (straight a b) (swapped o x y) (straight u v) = swapped o (u ∙ sym a ∙ x) (v ∙ sym b ∙ y)
    pick e (straight a b) (swapped o x y) (swapped o' u v) = straight (u ∙ sym b ∙ y) (v ∙ sym a ∙ x)
    pick e (swapped o a b) (straight x y) (straight u v) = swapped (ap unordered (sym e) ∙ o) (u ∙ sym b ∙ y) (v ∙ sym a ∙ x)
    pick e (swapped o a b) (straight x y) (swapped o' u v) = straight (u ∙ sym a ∙ x) (v ∙ sym b ∙ y)
    pick e (swapped o a b) (swapped o' x y) (straight u v) = straight (u ∙ sym b ∙ y) (v ∙ sym a ∙ x)
    pick e (swapped o a b) (swapped o' x y) (swapped o'' u v) = swapped o' (u ∙ sym a ∙ x) (v ∙ sym b ∙ y)

-- ---- what the steps of a lift show

by-same : (s : Step) (first second : ℕ) (z : Step) → z ≡ by s first second → Same z s
by-same s first second z e = subst (λ y. Same y s) (sym e) (record { kinds = refl; lefts = refl; rights = refl })

pub alike_same : {x y z w : Step} → Same x y → Same z w → alike x z ≡ alike y w
unfolding showing
alike_same p q = rw (p.kinds, p.lefts, p.rights, q.kinds, q.lefts, q.rights)

itself : (s : Step) → Same s s
itself s = record { kinds = refl; lefts = refl; rights = refl }

-- a step shows what one shows that shows the same
pub shown-alike : (x t : Step) (f : Fact) → alike x t ≡ true → shows t f ≡ true → shows x f ≡ true
shown-alike x t f p q =
    let k = showing-kind t _ _ _ q in
    ends-show x _ _ _ (showing-kind x _ _ _ p ∙ k) (pick k (showing-ends x _ _ _ p) (showing-ends t _ _ _ q))
  where
    pick : t.kind ≡ kind f → Ends x t.kind t.a t.b → Ends t (kind f) (left f) (right f) → Ends x (kind f) (left f) (right f)
    pick k (straight a b) (straight u v) = straight (a ∙ u) (b ∙ v)
    pick k (straight a b) (swapped o u v) = swapped o (a ∙ u) (b ∙ v)
    pick k (swapped o a b) (straight u v) = swapped (ap unordered (sym k) ∙ o) (a ∙ v) (b ∙ u)
    pick k (swapped o a b) (swapped o' u v) = straight (a ∙ v) (b ∙ u)

pub lifted-none : {n : ℕ} {claim : Record} {book : List ℕ} {c : List ℕ} {m : ℕ} (l : Lift) → l.g ≡ l.k → Lifted n claim book l c m c m
lifted-none {c = c} {m = m} l e =
    record {
      writes = λ f f' d r x y z. adds_none (either_way l.step (step_at c (m - 1)) f' d y z (still r e (step_at c (m - 1)) x));
      steps = λ o. distinct_none;
    }

-- the way from g to k, and the step that joins it to the step before
module _ {n : ℕ} {claim : Record} {book : List ℕ} {c c' : List ℕ} {m m' : ℕ} (l : Lift) (la : l.step.a < n) (lb : l.step.b < n) (p : 1 ≤ m) (o : l.g ≡ l.k → ⊥) (R : Reached n claim book l.g l.k c m c' m') where
  abbrev s : Step
  s = l.step

  abbrev w : Writes n (citing claim book) (PART l.g l.k) 4093 c m c' m'
  w = R.writes

  before : (f : Fact) → shows (step_at c (m - 1)) f ≡ true → shows (step_at c' (m - 1)) f ≡ true
  before f e = still-shown w.edited (m - 1) (omega arith) f e

  lifted-steps : {c'' : List ℕ} (i j : ℕ) → Put c' c'' m' (by s i j) → (s.kind ≡ 1 → ⊥) → Distinct (Lifting n claim book l) c'' m (m' + 1)
  lifted-steps i j p u =
      let h = w.more in
      distinct-weaken all
      (distinct-join (omega arith) (omega arith) last (distinct-kept p.edited (omega arith) (R.steps o)) (distinct-weaken (by-same s i j) (distinct-one p)))
    where
      last : (z y : Step) → OnWay n claim book l.g l.k z → Same y s → alike z y ≡ false
      last z y a b = unlike-kind z y (λ e. u (sym b.kinds ∙ sym e ∙ a.0))

      all : (z : Step) → OnWay n claim book l.g l.k z ⊎ Same z s → Lifting n claim book l z
      all z (inl a) = inl a
      all z (inr a) = inr (o, a)

  pub lifted-first : {c'' : List ℕ} → l.first ≡ true → Put c' c'' m' (by s (m' - 1) (m - 1)) → Lifted n claim book l c m c'' (m' + 1)
  lifted-first {c''} t p =
      let h = w.more in
      record {
        writes = λ f f' d r x y z.
            adds-some
            (writes-put w p
            (part-first n (citing claim book) m' (step_at c' (m' - 1)) (step_at c' (m - 1)) (subst (λ z. Along s.rule z l.g l.k f f') t r) (by s (m' - 1) (m - 1)) refl la lb (omega arith) (omega arith)
            w.shown (before f x) (by-shows s _ _ f' y))
            d (by-shows s _ _ d z));
        steps = lifted-steps (m' - 1) (m - 1) p;
      }

  pub lifted-second : {c'' : List ℕ} → l.first ≡ false → Put c' c'' m' (by s (m - 1) (m' - 1)) → Lifted n claim book l c m c'' (m' + 1)
  lifted-second {c''} t p =
      let h = w.more in
      record {
        writes = λ f f' d r x y z.
            adds-some
            (writes-put w p
            (part-second n (citing claim book) m' (step_at c' (m - 1)) (step_at c' (m' - 1)) (subst (λ z. Along s.rule z l.g l.k f f') t r) (by s (m - 1) (m' - 1)) refl la lb (omega arith) (omega arith)
            (before f x) w.shown (by-shows s _ _ f' y))
            d (by-shows s _ _ d z));
        steps = lifted-steps (m - 1) (m' - 1) p;
      }

-- ---- steps of a base and of lifts beside each other

module _ {n : ℕ} {claim : Record} {book : List ℕ} where
  -- a base, and a step of a lift to another fact of its kind
  pub base-lift :
      {base : Step} (l : Lift) → (base.kind ≡ 1 → ⊥) → ((l.g ≡ l.k → ⊥) → alike base l.step ≡ false) → (z w : Step) → z ≡ base → Lifting n claim book l w → alike z w ≡ false
  base-lift {base} l o q z w e (inl a) = unlike-kind z w (λ f. o (ap (λ (x : Step). x.kind) (sym e) ∙ f ∙ a.0))
  base-lift {base} l o q z w e (inr a) = alike_same (subst (Same z) e (itself z)) a.1 ∙ q a.0

  -- steps on two ways that have no piece in common
  pub ways-apart : {g k h l : ℕ} → Disjoint n claim book g k h l → (z w : Step) → OnWay n claim book g k z → OnWay n claim book h l w → alike z w ≡ false
  ways-apart {g} {k} {h} {l} D z w a b = unlike-part z w b.0 (λ e f. D w.b (subst (Between n claim book g k) f a.1) b.1)

  -- steps of two lifts
  lift-lift :
      (r : Route) → (r.once.step.kind ≡ 1 → ⊥) → (r.twice.step.kind ≡ 1 → ⊥) → Forked n claim book r → ((r.twice.g ≡ r.twice.k → ⊥) → alike r.once.step r.twice.step ≡ false)
      → (z w : Step) → Lifting n claim book r.once z → Lifting n claim book r.twice w → alike z w ≡ false
  lift-lift r ks kt D q z w (inl a) (inl b) = ways-apart D z w a b
  lift-lift r ks kt D q z w (inl a) (inr b) = unlike-kind z w (λ e. kt (sym b.1.kinds ∙ sym e ∙ a.0))
  lift-lift r ks kt D q z w (inr a) (inl b) = unlike-kind z w (λ e. ks (sym a.1.kinds ∙ e ∙ b.0))
  lift-lift r ks kt D q z w (inr a) (inr b) = alike_same a.1 b.1 ∙ q b.0

-- a base and two lifts
based : {n : ℕ} {es : List Cited} {base : Step} {r : Route} → Grounded n es base → (C : Carried base r) → {c c₀ : List ℕ} {m : ℕ} → Put c c₀ m base → Writes n es C.low 1 c m c₀ (m + 1)
based G C p = writes_one p (G.holds _ _ _) C.low C.begins

module _ {n : ℕ} {claim : Record} {book : List ℕ} {base : Step} {r : Route} (G : Grounded n (citing claim book) base) (C : Carried base r) {c c₀ : List ℕ} {m : ℕ} (p : Put c c₀ m base) where
  module _ {c₁ : List ℕ} {i : ℕ} (w : Lifted n claim book r.once c₀ (m + 1) c₁ i) where
    adds-once : Adds n (citing claim book) C.middle 4094 c₀ (m + 1) c₁ i
    adds-once = w.writes C.low C.high C.middle C.once (based G C p).shown C.between.0 C.between.1

    pub carried-once : Writes n (citing claim book) C.middle 4095 c m c₁ i
    carried-once = writes-adds (based G C p) adds-once

    module _ {c₂ : List ℕ} {j : ℕ} (v : Lifted n claim book r.twice c₁ i c₂ j) where
      adds-twice : Adds n (citing claim book) (told r.twice.step) 4094 c₁ i c₂ j
      adds-twice = v.writes C.middle C.last (told r.twice.step) C.twice carried-once.shown C.ends.0 C.ends.1

      carried-steps : alike base r.twice.step ≡ false → Unlike base r → Forked n claim book r → Distinct (Routing n claim book base.kind r) c₂ m j
      carried-steps f U D =
          let x = adds-once.more in
          let y = adds-twice.more in
          distinct-weaken all
          (distinct-join (omega arith) (omega arith) third
          (distinct-join (omega arith) (omega arith) (base-lift r.once U.other U.once)
          (distinct-kept adds-twice.edited (omega arith) (distinct-kept adds-once.edited (omega arith) (distinct-one p)))
          (distinct-kept adds-twice.edited (omega arith) (w.steps s-other)))
          (v.steps t-other))
        where
          s-other : r.once.step.kind ≡ 1 → ⊥
          s-other e = U.other (sym U.s-kind ∙ e)

          t-other : r.twice.step.kind ≡ 1 → ⊥
          t-other e = U.other (sym U.t-kind ∙ e)

          third : (z y : Step) → (z ≡ base) ⊎ Lifting n claim book r.once z → Lifting n claim book r.twice y → alike z y ≡ false
          third z y (inl a) b = base-lift r.twice U.other (λ o. f) z y a b
          third z y (inr a) b = lift-lift r s-other t-other D U.twice z y a b

          all : (z : Step) → ((z ≡ base) ⊎ Lifting n claim book r.once z) ⊎ Lifting n claim book r.twice z → Routing n claim book base.kind r z
          all z (inl (inl e)) = inr (ap (λ (x : Step). x.kind) e)
          all z (inl (inr (inl a))) = inl (inl a)
          all z (inl (inr (inr a))) = inr (a.1.kinds ∙ U.s-kind)
          all z (inr (inl a)) = inl (inr a)
          all z (inr (inr a)) = inr (a.1.kinds ∙ U.t-kind)

      pub carried-twice : alike base r.twice.step ≡ false → Lifts n claim book base r c m c₂ j
      carried-twice f = record { writes = writes-adds carried-once adds-twice; steps = carried-steps f }

  -- the base shows it already
  pub carried_none : alike base r.twice.step ≡ true → Lifts n claim book base r c m c₀ (m + 1)
  carried_none f =
      let W = writes_one p (G.holds _ _ _) (told r.twice.step) (shown-alike base r.twice.step (told r.twice.step) f C.ends.1) in
      record {
        writes = record { more = W.more; few = omega (arith, W.few); edited = W.edited; shown = W.shown; ok = W.ok };
        steps = λ U D. distinct-weaken (λ z e. inr (ap (λ (x : Step). x.kind) e)) (distinct-one p);
      }
