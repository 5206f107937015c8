-- Every fact that a step of a justified chain shows has a derivation from the facts that its steps cite. Assumes nothing.
use Prim.Native.Nat.{ℕ, zero, suc, ◌<◌}
use mathlib.Core.Path.{◌≡◌, refl, subst, sym, ap, ◌∙◌}
use mathlib.Core.Bool.{Bool, true, false, not, ◌&&◌, false≢true}
use mathlib.Core.List.{List, [], ◌∷◌, ◌++◌, Memᴰ}
use native.Mathlib.Omega.{arith}
use native.Mathlib.Decide.{ℕ_discrete}
use lib.Dec.{eqb, ltb}
use lib.ListN.{get_or}
use borrow.Author.Tests.{ltb-true, eq-eqb}
use Rattle.lists.proofs.Bools.{and_both, not-is-true}
use Rattle.rules.specs.Fact.{Fact}
use Rattle.rules.specs.Derives as rules
use Rattle.rules.specs.Derives.{Derives}
use Rattle.chain_format.specs.declared.steps.Step.{Step}
use Rattle.chain_format.specs.Step.{step_at, shows}
use Rattle.chain_format.specs.Citing.{Cited, fact, mark, none, marks_piece, marks_some}
use Rattle.chain_format.specs.Rule.{Form, unknown, stored, freely, unmarked, marked, from}
use Rattle.chain_format.specs.Justified.{cites, premised, keeps, named, justified, step_ok}
use Rattle.chain_format.specs.Chain.{all_ok, fact_in, cited_by}
use Rattle.chain_format.proofs.Somes.{some-find}
use Rattle.chain_format.proofs.Showing.{shown-within, shown-same}
use Rattle.chain_format.proofs.Tables.{Sound, rule-sound}
use Rattle.chain_format.proofs.Stepping.{Search, by-record}

-- marks and facts that go with what may be cited
pub record Given (void : ℕ → Bool) (es : List Cited) : Type 0 where
  pub marks : (i g : ℕ) → marks_piece g (get_or es i none) ≡ true → void g ≡ true
  pub bare : (g : ℕ) → marks_some es g ≡ false → void g ≡ false

module _ (void : ℕ → Bool) (n : ℕ) (es : List Cited) (fs : List Fact) (G : Given void es) where
  -- every fact that a step shows has a derivation
  abbrev pub Told : Step → Type 0
  Told s = (f : Fact) → shows s f ≡ true → Derives void n fs f

  -- one fact that it shows has
  abbrev Some : Step → Type 0
  Some s = (f : Fact) × (shows s f ≡ true) × Derives void n fs f

  -- the fact of the record that a stored step cites is among the facts
  abbrev pub Listed : Step → Type 0
  Listed s = s.rule ≡ 0 → (f : Fact) → get_or es s.first none ≡ fact f → Memᴰ f fs

  module _ (i : ℕ) (s p q : Step) (listed : Listed s) (first : s.first < i → Told p) (second : s.second < i → Told q) where
    cited : (e : Cited) → get_or es s.first none ≡ e → s.rule ≡ 0 → cites e s ≡ true → Some s
    unfolding cites
    cited (fact f) q r x = (f, x, rules.stored (listed r f q))
    cited (mark g) q r x = absurd (false≢true x)
    cited none q r x = absurd (false≢true x)

    kept : s.a < n → s.b < n → (x : Form) → Sound void n fs x → keeps es i s p q x ≡ true → Some s
    unfolding keeps premised
    kept la lb unknown t e = absurd (false≢true e)
    kept la lb stored t e = absurd t
    kept la lb (freely f) t e = let x = (and_both (eqb s.first 0 && eqb s.second 0) _ e).1 in (f, x, t (shown-within s f la lb x))
    kept la lb (unmarked g f) t e =
        let x = and_both (not (marks_some es g)) _ (and_both (eqb s.first 0 && eqb s.second 0) _ e).1 in
        (f, x.1, t (G.bare g (not-is-true _ x.0)) (shown-within s f la lb x.1))
    kept la lb (marked g f) t e =
        let x = and_both (marks_piece g (get_or es s.first none)) _ (and_both (eqb s.second 0) _ e).1 in
        (f, x.1, t (G.marks s.first g x.0) (shown-within s f la lb x.1))
    kept la lb (from x y f) t e =
        let b = and_both (ltb s.first i && ltb s.second i) _ e in
        let l = and_both (ltb s.first i) _ b.0 in
        let c = and_both (shows s f) _ b.1 in
        let d = and_both (shows p x) _ c.1 in
        (f, c.0, t (first (ltb-true _ _ l.0) x d.0) (second (ltb-true _ _ l.1) y d.1))

    by_number : (r : ℕ) → s.rule ≡ r → s.a < n → s.b < n → Search es i s p q r ≡ true → Some s
    by_number zero r la lb e = cited (get_or es s.first none) refl r (and_both (eqb s.second 0) _ (by-record es i s p q 0 refl ∙ e)).1
    by_number (suc k) r la lb e = let t = some-find (named s p q) _ e in kept la lb _ (rule-sound void n fs k t.0 t.1 t.2) t.6

    pub justified-told : justified n es i s p q ≡ true → Told s
    unfolding justified
    justified-told e f x =
        let b = and_both (ltb s.a n && ltb s.b n) _ e in
        let w = and_both (ltb s.a n) _ b.0 in
        let r = by_number s.rule refl (ltb-true _ _ w.0) (ltb-true _ _ w.1) b.1 in
        shown-same s r.0 f r.1 x r.2

  -- in a run of justified steps every fact shown has a derivation
  pub shown-derives : (c : List ℕ) (m : ℕ) → ((i : ℕ) → i < m → Listed (step_at c i)) → all_ok n es c m ≡ true → (i : ℕ) → i < m → Told (step_at c i)
  unfolding all_ok step_ok
  shown-derives c zero a e i l = absurd (omega arith)
  shown-derives c (suc m) a e i l =
      let b = and_both (step_ok n es c m) _ e in
      let s = step_at c m in
      let earlier : (i : ℕ) → i < m → Told (step_at c i) = shown-derives c m (λ i l. a i (omega arith)) b.1 in
      elim (ℕ_discrete i m) [
        | yes x ↦ subst (λ j. Told (step_at c j)) (sym x)
            (justified-told m s (step_at c s.first) (step_at c s.second) (a m (omega arith)) (λ l. earlier _ l) (λ l. earlier _ l) b.0)
        | no x ↦ earlier i (omega arith)
      ]

-- ---- the facts that the steps cite

module _ (es : List Cited) (c : List ℕ) where
  before : {f : Fact} (xs ys : List Fact) → Memᴰ f ys → Memᴰ f (xs ++ ys)
  before [] ys m = m
  before (x ∷ xs) ys m = Memᴰ.tail (before xs ys m)

  fact-in : (f : Fact) (e : Cited) (ys : List Fact) → e ≡ fact f → Memᴰ f (fact_in e ++ ys)
  unfolding fact_in
  fact-in f (fact g) ys q = Memᴰ.head (let p : f ≡ g = cc in p)
  fact-in f (mark g) ys q = absurd (let z : ◌≡◌ {A = ℕ} 0 1 = cc in omega arith)
  fact-in f none ys q = absurd (let z : ◌≡◌ {A = ℕ} 0 1 = cc in omega arith)

  pub cited-listed : (m i : ℕ) → i < m → (step_at c i).rule ≡ 0 → (f : Fact) → get_or es (step_at c i).first none ≡ fact f → Memᴰ f (cited_by es c m)
  unfolding cited_by
  cited-listed zero i l r f e = absurd (omega arith)
  cited-listed (suc m) i l r f e =
      elim (ℕ_discrete i m) [
        | yes x ↦
            let r' : (step_at c m).rule ≡ 0 = ap (λ (j : ℕ). (step_at c j).rule) (sym x) ∙ r in
            let e' : get_or es (step_at c m).first none ≡ fact f = ap (λ (j : ℕ). get_or es (step_at c j).first none) (sym x) ∙ e in
            rw (eq-eqb (step_at c m).rule 0 r', cited_by) (fact-in f _ (cited_by es c m) e')
        | no x ↦
            before (elim (eqb (step_at c m).rule 0) [ true ↦ fact_in (get_or es (step_at c m).first none) | false ↦ [] ]) (cited_by es c m) (cited-listed m i (omega arith) r f e)
      ]
