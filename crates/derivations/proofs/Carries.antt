-- Facts along the route of their kind, and the bases that routes begin with. Assumes nothing.
use Prim.Native.Nat.{ℕ, ◌+◌, ◌-◌, ◌≤◌, ◌<◌}
use mathlib.Core.Path.{◌≡◌, refl, sym, ap, ap₂, subst, ◌∙◌}
use mathlib.Core.Logic.{◌⊎◌, inl, inr}
use mathlib.Core.Bool.{true, false, not, ◌||◌}
use mathlib.Core.List.{List}
use native.Mathlib.Omega.{arith}
use lib.ListN.{get_or}
use borrow.Author.Tests.{eq-eqb, ne_eqb}
use Rattle.lists.proofs.Bools.{both-and, left_or, right_or, not-true}
use Rattle.rules.specs.Fact.{APART, MEETS, NOTPART, fact_of}
use Rattle.records.specs.declared.Record.{Record}
use Rattle.chain_format.specs.Citing.{Cited, none, citing, marks_piece, marks_some}
use Rattle.chain_format.specs.declared.steps.Step.{Step}
use Rattle.chain_format.specs.Step.{step_at, unordered, showing, shows}
use Rattle.chain_format.specs.Justified.{cites}
use Rattle.derivations.specs.declared.showing.Lift.{Lift}
use Rattle.derivations.specs.declared.showing.Route.{Route}
use Rattle.derivations.specs.Written.{Put}
use Rattle.chain_format.specs.Twice.{alike, Differ}
use Rattle.derivations.specs.Distinct.{Distinct}
use Rattle.derivations.specs.Shown.{Writes, Adds}
use Rattle.derivations.specs.Commons.{Joined}
use Rattle.derivations.specs.Lifts.{lift-b, lift-a', lift-b', lift-c', Inside, Disjoint, OnWay, Spanning, Leads, Lifting, Lifted, Grounded, told, Carried, Unlike, Routing, Lifts, Carriable, apart, meets, notpart, Routed, Spans, Outlies}
use Rattle.derivations.specs.Routes.{lift_to, route_to}
use Rattle.chain_format.proofs.Showing.{straight, swapped, Ends, showing-kind, showing-ends, ends-show}
use Rattle.chain_format.proofs.Stepping.{by-record, by-e', by-d, by-e}
use Rattle.derivations.proofs.Hopping.{justify}
use Rattle.derivations.proofs.Distincts.{unlike-kind, distinct-one, distinct-weaken, distinct-kept, distinct-join}
use Rattle.derivations.proofs.Joining.{justified-d'}
use Rattle.derivations.proofs.Lifting.{base-lift, ways-apart}
use Rattle.derivations.proofs.Composed.{still-shown, writes_one, writes-adds, writes-after, writes-put}

abbrev pub saying : ℕ → ℕ → ℕ → ℕ → ℕ → Step
saying r k a b i = record { rule = r; kind = k; a = a; b = b; first = i; second = 0 }

pub as_said : (r k a b i : ℕ) → showing (saying r k a b i) k a b ≡ true
as_said r k a b i = ends-show (saying r k a b i) k a b refl (straight refl refl)

pub turned-said : (r k a b i : ℕ) → unordered k ≡ true → showing (saying r k a b i) k b a ≡ true
turned-said r k a b i u = ends-show (saying r k a b i) k b a refl (swapped u refl refl)

-- a step shows an unordered fact the other way round too
pub shows-turned : (s : Step) (k a b : ℕ) → unordered k ≡ true → showing s k a b ≡ true → showing s k b a ≡ true
shows-turned s k a b u e = pick (showing-ends s k a b e)
  where
    pick : Ends s k a b → showing s k b a ≡ true
    pick (straight p q) = ends-show s k b a (showing-kind s k a b e) (swapped u p q)
    pick (swapped v p q) = ends-show s k b a (showing-kind s k a b e) (straight p q)

-- ---- bases

module _ (n : ℕ) (es : List Cited) (small : n ≤ 2048) where
  -- a record that may be cited
  pub stored-grounded : (k x y i : ℕ) → x < n → y < n → i < 65536 → cites (get_or es i none) (saying 0 k x y i) ≡ true → Grounded n es (saying 0 k x y i)
  stored-grounded k x y i lx ly li e =
      record {
        holds = λ j p q. justify n es j (saying 0 k x y i) p q lx ly (sym (by-record es j (saying 0 k x y i) p q 0 refl) ∙ e);
        left = omega arith;
        right = omega arith;
        first = li;
        second = omega arith;
      }

  -- x MEETS x, of a piece that is not marked
  pub itself-grounded : (x : ℕ) → x < n → marks_some es x ≡ false → Grounded n es (saying 9 3 x x 0)
  itself-grounded x lx m =
      record {
        holds = λ j p q. justify n es j (saying 9 3 x x 0) p q lx lx (sym (by-e' es j (saying 9 3 x x 0) p q 9 refl) ∙ both-and (ap not m) (as_said 9 3 x x 0));
        left = omega arith;
        right = omega arith;
        first = omega arith;
        second = omega arith;
      }

  -- x APART y, by a mark of one of them
  pub void-grounded :
      (x y i : ℕ) → x < n → y < n → i < 65536 → (marks_piece x (get_or es i none) ≡ true) ⊎ (marks_piece y (get_or es i none) ≡ true) → Grounded n es (saying 10 2 x y i)
  void-grounded x y i lx ly li m =
      record {
        holds = λ j p q. justify n es j (saying 10 2 x y i) p q lx ly (sym (by-d es j (saying 10 2 x y i) p q 10 refl) ∙ both-and (as_said 10 2 x y i) (pick m));
        left = omega arith;
        right = omega arith;
        first = li;
        second = omega arith;
      }
    where
      pick : (marks_piece x (get_or es i none) ≡ true) ⊎ (marks_piece y (get_or es i none) ≡ true) → (marks_piece x (get_or es i none) || marks_piece y (get_or es i none)) ≡ true
      pick (inl e) = left_or _ e
      pick (inr e) = right_or (marks_piece x (get_or es i none)) e

  -- x PART y, by a mark of x
  pub empty-grounded : (x y i : ℕ) → x < n → y < n → i < 65536 → marks_piece x (get_or es i none) ≡ true → Grounded n es (saying 11 1 x y i)
  empty-grounded x y i lx ly li m =
      record {
        holds = λ j p q. justify n es j (saying 11 1 x y i) p q lx ly (sym (by-e es j (saying 11 1 x y i) p q 11 refl) ∙ both-and (as_said 11 1 x y i) m);
        left = omega arith;
        right = omega arith;
        first = li;
        second = omega arith;
      }

-- ---- from a base about x and y to a fact about a and b

carried-by : {kd : ℕ} → Carriable kd → (base : Step) (x y a b : ℕ) → showing base kd x y ≡ true → Carried base (route_to kd a b x y)
unfolding fact_of route_to
carried-by apart base x y a b e =
    record {
      low = APART x y;
      high = APART a y;
      middle = APART y a;
      last = APART b a;
      begins = e;
      once = lift-b;
      between = (as_said 2 2 a y 0, turned-said 2 2 a y 0 refl);
      twice = lift-b;
      ends = (turned-said 2 2 a b 0 refl, as_said 2 2 a b 0);
    }
carried-by meets base x y a b e =
    record {
      low = MEETS y x;
      high = MEETS y a;
      middle = MEETS a y;
      last = MEETS a b;
      begins = shows-turned base 3 x y refl e;
      once = lift-c';
      between = (turned-said 7 3 a y 0 refl, as_said 7 3 a y 0);
      twice = lift-c';
      ends = (as_said 7 3 a b 0, as_said 7 3 a b 0);
    }
carried-by notpart base x y a b e =
    record {
      low = NOTPART x y;
      high = NOTPART a y;
      middle = NOTPART a y;
      last = NOTPART a b;
      begins = e;
      once = lift-a';
      between = (as_said 5 4 a y 0, as_said 5 4 a y 0);
      twice = lift-b';
      ends = (as_said 6 4 a b 0, as_said 6 4 a b 0);
    }

pub route-carried : {n : ℕ} {claim : Record} {book : List ℕ} {base : Step} {kd a b x y : ℕ} {r : Route} → r ≡ route_to kd a b x y → Routed n claim book kd a b x y → showing base kd x y ≡ true → Carried base r
route-carried {base = base} {a = a} {b = b} {x = x} {y = y} q R e = rw q (carried-by R.carriable base x y a b e)

-- both lifts lead along containments
module _ {n : ℕ} {claim : Record} {book : List ℕ} {a b x y : ℕ} (lx : x < n) (ly : y < n) (la : a < n) (lb : b < n) where
  leads-by :
      {kd : ℕ} → Carriable kd → Inside n claim book (route_to kd a b x y).once.g (route_to kd a b x y).once.k
      → Inside n claim book (route_to kd a b x y).twice.g (route_to kd a b x y).twice.k → Leads n claim book (route_to kd a b x y).once × Leads n claim book (route_to kd a b x y).twice
  unfolding route_to
  leads-by apart p q = (record { low = la; high = lx; inside = p; left = la; right = ly }, record { low = lb; high = ly; inside = q; left = la; right = lb })
  leads-by meets p q = (record { low = lx; high = la; inside = p; left = la; right = ly }, record { low = ly; high = lb; inside = q; left = la; right = lb })
  leads-by notpart p q = (record { low = lx; high = la; inside = p; left = la; right = ly }, record { low = lb; high = ly; inside = q; left = la; right = lb })

pub route-leads : {n : ℕ} {claim : Record} {book : List ℕ} {kd a b x y : ℕ} {r : Route} → r ≡ route_to kd a b x y → Routed n claim book kd a b x y → Leads n claim book r.once × Leads n claim book r.twice
route-leads q R = rw q (leads-by R.from-left R.from-right R.to-left R.to-right R.carriable R.once R.twice)

abbrev both : Lift → Lift → Route
both once twice = record { once = once; twice = twice }

-- the route as it is computed
module _ {kd a b x y : ℕ} {r : Route} where
  pub computed-apart : kd ≡ 2 → r.once ≡ lift_to a x 2 true kd a y → r.twice ≡ lift_to b y 2 true kd a b → r ≡ route_to kd a b x y
  unfolding route_to
  computed-apart e p q = rw (eq-eqb kd 2 e, route_to) (ap₂ both p q)

  pub computed-meets : (kd ≡ 2 → ⊥) → kd ≡ 3 → r.once ≡ lift_to x a 7 true kd a y → r.twice ≡ lift_to y b 7 true kd a b → r ≡ route_to kd a b x y
  unfolding route_to
  computed-meets o e p q = rw (ne_eqb kd 2 o, eq-eqb kd 3 e, route_to) (ap₂ both p q)

  pub computed-notpart : (kd ≡ 2 → ⊥) → (kd ≡ 3 → ⊥) → r.once ≡ lift_to x a 5 true kd a y → r.twice ≡ lift_to b y 6 false kd a b → r ≡ route_to kd a b x y
  unfolding route_to
  computed-notpart o o' p q = rw (ne_eqb kd 2 o, ne_eqb kd 3 o', route_to) (ap₂ both p q)

-- ---- the facts on the way differ

module _ (kd x y a b : ℕ) (base : Step) where
  abbrev middle : ℕ → Step
  middle r = saying r kd a y 0

  abbrev last : ℕ → Step
  last r = saying r kd a b 0

  pub once-unlike : showing base kd x y ≡ true → (x ≡ a → ⊥) → (r : ℕ) → alike base (middle r) ≡ false
  once-unlike e o r = not-true _ (λ f. pick (showing-ends base kd x y e) (showing-ends base kd a y f))
    where
      pick : Ends base kd x y → Ends base kd a y → ⊥
      pick (straight p q) (straight u v) = o (sym p ∙ u)
      pick (straight p q) (swapped t u v) = o (sym p ∙ u ∙ sym q ∙ v)
      pick (swapped t p q) (straight u v) = o (sym q ∙ v ∙ sym p ∙ u)
      pick (swapped t p q) (swapped t' u v) = o (sym q ∙ v)

  pub twice-unlike : (y ≡ b → ⊥) → (r r' : ℕ) → alike (middle r) (last r') ≡ false
  twice-unlike o r r' = not-true _ (λ f. pick (showing-ends (middle r) kd a b f))
    where
      pick : Ends (middle r) kd a b → ⊥
      pick (straight u v) = o v
      pick (swapped t u v) = o (v ∙ u)

route-unlike : {kd : ℕ} → Carriable kd → (base : Step) (x y a b : ℕ) → showing base kd x y ≡ true → Unlike base (route_to kd a b x y)
unfolding route_to
route-unlike apart base x y a b e =
    let z = showing-kind base 2 x y e in
    record {
      other = λ f. omega arith;
      s-kind = sym z;
      t-kind = sym z;
      once = λ u. once-unlike 2 x y a b base e (λ q. u (sym q)) 2;
      twice = λ u. twice-unlike 2 x y a b base (λ q. u (sym q)) 2 2;
    }
route-unlike meets base x y a b e =
    let z = showing-kind base 3 x y e in
    record {
      other = λ f. omega arith;
      s-kind = sym z;
      t-kind = sym z;
      once = λ u. once-unlike 3 x y a b base e u 7;
      twice = λ u. twice-unlike 3 x y a b base u 7 7;
    }
route-unlike notpart base x y a b e =
    let z = showing-kind base 4 x y e in
    record {
      other = λ f. omega arith;
      s-kind = sym z;
      t-kind = sym z;
      once = λ u. once-unlike 4 x y a b base e u 5;
      twice = λ u. twice-unlike 4 x y a b base (λ q. u (sym q)) 5 6;
    }

route-told : {kd : ℕ} → Carriable kd → (a b x y : ℕ) → told (route_to kd a b x y).twice.step ≡ fact_of kd a b
unfolding route_to
route-told apart a b x y = refl
route-told meets a b x y = refl
route-told notpart a b x y = refl

-- so do the steps
pub route-spans :
    {n : ℕ} {claim : Record} {book : List ℕ} {base : Step} {kd a b x y : ℕ} {r : Route} {c c' : List ℕ} {m m' : ℕ} → r ≡ route_to kd a b x y → Carriable kd → showing base kd x y ≡ true
    → Lifts n claim book base r c m c' m' → Spans n claim book kd a b x y c m c' m'
route-spans {n} {claim} {book} {base} {kd} {a} {b} {x} {y} {r} {c} {c'} {m} {m'} q C e L =
    let M = subst (λ z. Lifts n claim book base z c m c' m') q L in
    record {
      writes = subst (λ f. Writes n (citing claim book) f 8189 c m c' m') (route-told C a b x y) M.writes;
      steps = λ d. subst (λ k. Distinct (Routing n claim book k (route_to kd a b x y)) c' m m') (showing-kind base kd x y e) (M.steps (route-unlike C base x y a b e) d);
    }

-- ---- a NOTPART b, by b in u, u APART v and a MEETS v

outside-based : {n : ℕ} {es : List Cited} {base : Step} {u v : ℕ} {c c₀ : List ℕ} {m : ℕ} → Grounded n es base → shows base (APART u v) ≡ true → Put c c₀ m base → Writes n es (APART u v) 1 c m c₀ (m + 1)
outside-based {u = u} {v = v} G e p = writes_one p (G.holds _ _ _) (APART u v) e

module _ {n : ℕ} {claim : Record} {book : List ℕ} {base : Step} {u v b : ℕ} {c c₀ c₁ : List ℕ} {m i : ℕ} (G : Grounded n (citing claim book) base) (e : shows base (APART u v) ≡ true) (p : Put c c₀ m base) (L : Lifted n claim book (lift_to b u 2 true 2 b v) c₀ (m + 1) c₁ i) where
  outside-adds : Adds n (citing claim book) (APART b v) 4094 c₀ (m + 1) c₁ i
  outside-adds = L.writes (APART u v) (APART b v) (APART b v) lift-b (outside-based G e p).shown (as_said 2 2 b v 0) (as_said 2 2 b v 0)

  pub outside-apart : Writes n (citing claim book) (APART b v) 4095 c m c₁ i
  outside-apart = writes-adds (outside-based G e p) outside-adds

  -- the APARTs, and the way from b to u
  outside-first : Distinct (λ z. OnWay n claim book b u z ⊎ (z.kind ≡ 2)) c₁ m i
  outside-first =
      let h = outside-adds.more in
      distinct-weaken all
      (distinct-join (omega arith) (omega arith) (base-lift (lift_to b u 2 true 2 b v) (λ z. omega (arith, kd)) (λ o. once-unlike 2 u v b b base e (λ z. o (sym z)) 2)) (distinct-kept outside-adds.edited (omega arith) (distinct-one p))
      (L.steps (λ z. omega arith)))
    where
      kd : base.kind ≡ 2
      kd = showing-kind base 2 u v e

      all : (z : Step) → (z ≡ base) ⊎ Lifting n claim book (lift_to b u 2 true 2 b v) z → OnWay n claim book b u z ⊎ (z.kind ≡ 2)
      all z (inl q) = inr (ap (λ (x : Step). x.kind) q ∙ kd)
      all z (inr (inl a)) = inl a
      all z (inr (inr a)) = inr a.1.kinds

  module _ {a x y : ℕ} {c₂ c₃ : List ℕ} {j : ℕ} (la : a < n) (lb : b < n) (w : Joined n claim book x y a v c₁ i c₂ j) (t : Put c₂ c₃ j (record { rule = 8; kind = 4; a = a; b = b; first = j - 1; second = i - 1 })) where
    abbrev final : Step
    final = record { rule = 8; kind = 4; a = a; b = b; first = j - 1; second = i - 1 }

    outside-writes : Writes n (citing claim book) (NOTPART a b) 12285 c m c₃ (j + 1)
    outside-writes =
        let o = outside-apart in
        let h = o.more in
        let k = w.writes.more in
        let d = ends-show final 4 a b refl (straight refl refl) in
        writes-put (writes-after o w.writes) t
        (justified-d' n (citing claim book) j final (step_at c₂ (j - 1)) (step_at c₂ (i - 1)) la lb (omega arith) (omega arith) a v b refl w.writes.shown
        (still-shown w.writes.edited (i - 1) (omega arith) (APART b v) o.shown) d)
        (NOTPART a b) d

    outside-differ :
        ((z s : ℕ) → z < n → s < n → Inside n claim book x z → Inside n claim book y s → Disjoint n claim book b u z a × Disjoint n claim book b u s v)
        → ((x ≡ y → ⊥) → Disjoint n claim book x a y v) → Differ c₃ m (j + 1)
    outside-differ f d =
        let h = outside-apart.more in
        let k = w.writes.more in
        (distinct-join (omega arith) (omega arith) last
        (distinct-kept t.edited (omega arith) (distinct-join (omega arith) (omega arith) second (distinct-kept w.writes.edited (omega arith) outside-first) (w.steps d)))
        (distinct-one t)).differ
      where
        both : Disjoint n claim book b u w.left a × Disjoint n claim book b u w.right v
        both = f w.left w.right w.left_in w.right-in w.over-x w.over-y

        second : (z s : Step) → OnWay n claim book b u z ⊎ (z.kind ≡ 2) → Spanning n claim book 3 w.left a w.right v s → alike z s ≡ false
        second z s (inl q) (inl (inl r)) = ways-apart both.0 z s q r
        second z s (inl q) (inl (inr r)) = ways-apart both.1 z s q r
        second z s (inl q) (inr r) = unlike-kind z s (λ e. omega (arith, q.0))
        second z s (inr q) (inl (inl r)) = unlike-kind z s (λ e. omega (arith, r.0))
        second z s (inr q) (inl (inr r)) = unlike-kind z s (λ e. omega (arith, r.0))
        second z s (inr q) (inr r) = unlike-kind z s (λ e. omega arith)

        four : (z : Step) → (OnWay n claim book b u z ⊎ (z.kind ≡ 2)) ⊎ Spanning n claim book 3 w.left a w.right v z → z.kind ≡ 4 → ⊥
        four z (inl (inl q)) e = omega (arith, q.0)
        four z (inl (inr q)) e = omega arith
        four z (inr (inl (inl q))) e = omega (arith, q.0)
        four z (inr (inl (inr q))) e = omega (arith, q.0)
        four z (inr (inr q)) e = omega arith

        last : (z s : Step) → (OnWay n claim book b u z ⊎ (z.kind ≡ 2)) ⊎ Spanning n claim book 3 w.left a w.right v z → s ≡ final → alike z s ≡ false
        last z s q r = unlike-kind z s (λ e. four z q (e ∙ ap (λ (x : Step). x.kind) r))

    pub outside-outlies : Outlies n claim book a b u v x y c m c₃ (j + 1)
    outside-outlies = record { writes = outside-writes; differ = outside-differ }
