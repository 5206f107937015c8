-- Steps that are justified: one hop, and two ways joined. Assumes nothing.
use Prim.Native.Nat.{ℕ, ◌<◌}
use mathlib.Core.Path.{◌≡◌, refl, sym, ap, subst, ◌∙◌}
use mathlib.Core.Bool.{Bool, true, false}
use mathlib.Core.List.{List}
use lib.Dec.{eqb}
use native.Mathlib.Omega.{arith}
use borrow.Author.Tests.{eq-eqb, ne_eqb, eqb-false, lt-ltb}
use Rattle.lists.proofs.Bools.{both-and}
use Rattle.rules.specs.Fact.{PART}
use Rattle.chain_format.specs.Citing.{Cited}
use Rattle.chain_format.specs.declared.steps.Step.{Step}
use Rattle.chain_format.specs.Step.{showing, shows}
use Rattle.chain_format.specs.Justified.{cites, justified}
use Rattle.derivations.specs.Hops.{Hop, recorded, crowned, hop_by, hop_step}
use Rattle.chain_format.proofs.Showing.{straight, ends-show}
use Rattle.chain_format.proofs.Stepping.{Search, by-record, by-c, by-f, by_two}
use Rattle.chain_format.proofs.Asked.{asked-a}
use Rattle.chain_format.proofs.Solved.{exact, solved-a}

pub justify : (n : ℕ) (es : List Cited) (i : ℕ) (s p q : Step) → s.a < n → s.b < n → Search es i s p q s.rule ≡ true → justified n es i s p q ≡ true
unfolding justified
justify n es i s p q l m e = both-and (both-and (lt-ltb s.a n l) (lt-ltb s.b n m)) e

-- a step that shows a fact as it stands
abbrev pub stating : ℕ → ℕ → ℕ → ℕ → ℕ → Step
stating r a b first second = record { rule = r; kind = 1; a = a; b = b; first = first; second = second }

pub as-stated : (r a b first second : ℕ) → showing (stating r a b first second) 1 a b ≡ true
as-stated r a b first second = ends-show (stating r a b first second) 1 a b refl (straight refl refl)

pub hop-shows : (x y source : ℕ) → shows (hop_step x y source) (PART x y) ≡ true
unfolding hop_step
hop-shows x y source = pick (eqb source 65535)
  where
    pick : (b : Bool) → shows (hop_by b x y source) (PART x y) ≡ true
    pick true = as-stated 4 x y 0 0
    pick false = as-stated 0 x y source 0

module _ (n : ℕ) (es : List Cited) (i : ℕ) (p q : Step) where
  pub hop-justified : (x y source : ℕ) → x < n → y < n → Hop es x y source → justified n es i (hop_step x y source) p q ≡ true
  unfolding hop_step cites
  hop-justified x y source l m (recorded o e) =
      rw (ne_eqb source 65535 o)
      (justify n es i (stating 0 x y source 0) p q l m (sym (by-record es i (stating 0 x y source 0) p q 0 refl) ∙ rw e (as-stated 0 x y source 0)))
  hop-justified x y source l m (crowned o e) =
      rw (eq-eqb source 65535 o, e)
      (justify n es i (stating 4 x 0 0 0) p q l (rw e at m) (sym (by-f es i (stating 4 x 0 0 0) p q 4 refl) ∙ as-stated 4 x 0 0 0))

  -- g PART g by (c)
  pub itself-justified : (g : ℕ) → g < n → justified n es i (stating 3 g g 0 0) p q ≡ true
  itself-justified g l = justify n es i (stating 3 g g 0 0) p q l l (sym (by-c es i (stating 3 g g 0 0) p q 3 refl) ∙ as-stated 3 g g 0 0)

  -- g PART y by (a), from g PART x and x PART y
  pub joined-justified :
      (g x y first second : ℕ) → g < n → y < n → first < i → second < i → shows p (PART g x) ≡ true → shows q (PART x y) ≡ true → justified n es i (stating 1 g y first second) p q ≡ true
  joined-justified g x y first second l m f t a b =
      let s = stating 1 g y first second in
      let e = (exact p 1 g x refl a).1 in
      let u : showing p 1 g p.b ≡ true = ap (showing p 1 g) e ∙ a in
      let v : showing q 1 p.b y ≡ true = ap (λ (z : ℕ). showing q 1 z y) e ∙ b in
      justify n es i s p q l m
      (sym (by_two es i s p q 1 (eqb-false 1 0 refl) (eqb-false 1 3 refl) (eqb-false 1 4 refl) (eqb-false 1 9 refl) (eqb-false 1 10 refl) (eqb-false 1 11 refl) f t)
      ∙ sym (asked-a s p q 1 g p.b y refl ∙ solved-a s p q 1 refl) ∙ both-and (as-stated 1 g y first second) (both-and u v))

-- the numbers of a step fit
abbrev pub Fitting : Step → Type 0
Fitting s = (s.a < 65536) × (s.b < 65536) × (s.first < 65536) × (s.second < 65536)

pub fits-at : {s t : Step} → s ≡ t → Fitting s → Fitting t
fits-at e f = subst Fitting e f

pub hop-fits : (x y source : ℕ) → x < 65536 → y < 65536 → source < 65536 → Fitting (hop_step x y source)
unfolding hop_step
hop-fits x y source l m k = pick (eqb source 65535)
  where
    pick : (b : Bool) → Fitting (hop_by b x y source)
    pick true = (l, m, omega arith, omega arith)
    pick false = (l, m, k, omega arith)
