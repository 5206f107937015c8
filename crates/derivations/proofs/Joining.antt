-- Steps by rules of two premises, and a stored step. Assumes nothing.
use Prim.Native.Nat.{ℕ, ◌<◌}
use mathlib.Core.Path.{◌≡◌, refl, sym, ap, ◌∙◌}
use mathlib.Core.Bool.{true}
use mathlib.Core.List.Memᴰ
use mathlib.Core.List.{List, Memᴰ}
use borrow.Author.Tests.{lt-ltb}
use Rattle.lists.proofs.Bools.{both-and}
use Rattle.rules.specs.Fact.{Fact, PART, APART, MEETS, NOTPART, kind, left, right}
use Rattle.chain_format.specs.Citing.{Cited}
use Rattle.chain_format.specs.declared.steps.Step.{Step}
use Rattle.chain_format.specs.Step.{shows}
use Rattle.chain_format.specs.Rule.{from, table, rule}
use Rattle.chain_format.specs.Justified.{named, premised, keeps, justified}
use Rattle.chain_format.proofs.Somes.{some-hit}
use Rattle.chain_format.proofs.Showing.{Ends, straight, swapped, showing-ends}
use Rattle.derivations.proofs.Hopping.{justify}

-- the pieces of a premise are among the named ones
module _ (s p q : Step) where
  abbrev Named : ℕ → Type 0
  Named x = Memᴰ x (named s p q)

  first-a : Named p.a
  unfolding named
  first-a = Memᴰ.tail (Memᴰ.tail (Memᴰ.head refl))

  first-b : Named p.b
  unfolding named
  first-b = Memᴰ.tail (Memᴰ.tail (Memᴰ.tail (Memᴰ.head refl)))

  second-a : Named q.a
  unfolding named
  second-a = Memᴰ.tail (Memᴰ.tail (Memᴰ.tail (Memᴰ.tail (Memᴰ.head refl))))

  second-b : Named q.b
  unfolding named
  second-b = Memᴰ.tail (Memᴰ.tail (Memᴰ.tail (Memᴰ.tail (Memᴰ.tail (Memᴰ.head refl)))))

  either : (t : Step) → Named t.a → Named t.b → (f : Fact) → shows t f ≡ true → Named (left f) × Named (right f)
  either t a b f e = pick (showing-ends t _ _ _ e)
    where
      pick : Ends t (kind f) (left f) (right f) → Named (left f) × Named (right f)
      pick (straight x y) = (Memᴰ.cast (sym x) a, Memᴰ.cast (sym y) b)
      pick (swapped u x y) = (Memᴰ.cast (sym y) b, Memᴰ.cast (sym x) a)

  first-named : (f : Fact) → shows p f ≡ true → Named (left f) × Named (right f)
  first-named = either p first-a first-b

  second-named : (f : Fact) → shows q f ≡ true → Named (left f) × Named (right f)
  second-named = either q second-a second-b

-- a step s, number i, by a rule of two premises
module _ (n : ℕ) (es : List Cited) (i : ℕ) (s p q : Step) (la : s.a < n) (lb : s.b < n) (lf : s.first < i) (ls : s.second < i) where
  two-justified :
      (g h k : ℕ) (x y f : Fact) → rule s.rule g h k ≡ from x y f → Named s p q g → Named s p q h → Named s p q k → shows s f ≡ true → shows p x ≡ true → shows q y ≡ true
      → justified n es i s p q ≡ true
  unfolding keeps premised
  two-justified g h k x y f r mg mh mk a b c =
      justify n es i s p q la lb
      (some-hit (named s p q) (λ g h k. keeps es i s p q (rule s.rule g h k)) mg mh mk
      (ap (keeps es i s p q) r ∙ both-and (both-and (lt-ltb s.first i lf) (lt-ltb s.second i ls)) (both-and a (both-and b c))))

  module _ (g h k : ℕ) where
    pub justified-b : s.rule ≡ 2 → shows p (PART g h) ≡ true → shows q (APART h k) ≡ true → shows s (APART g k) ≡ true → justified n es i s p q ≡ true
    unfolding rule table
    justified-b r a b c =
        let x = first-named s p q (PART g h) a in
        let y = second-named s p q (APART h k) b in
        two-justified g h k (PART g h) (APART h k) (APART g k) (ap (λ (z : ℕ). rule z g h k) r) x.0 x.1 y.1 c a b

    pub justified-a' : s.rule ≡ 5 → shows p (PART g h) ≡ true → shows q (NOTPART g k) ≡ true → shows s (NOTPART h k) ≡ true → justified n es i s p q ≡ true
    unfolding rule table
    justified-a' r a b c =
        let x = first-named s p q (PART g h) a in
        let y = second-named s p q (NOTPART g k) b in
        two-justified g h k (PART g h) (NOTPART g k) (NOTPART h k) (ap (λ (z : ℕ). rule z g h k) r) x.0 x.1 y.1 c a b

    pub justified-b' : s.rule ≡ 6 → shows p (NOTPART g k) ≡ true → shows q (PART h k) ≡ true → shows s (NOTPART g h) ≡ true → justified n es i s p q ≡ true
    unfolding rule table
    justified-b' r a b c =
        let x = first-named s p q (NOTPART g k) a in
        let y = second-named s p q (PART h k) b in
        two-justified g h k (NOTPART g k) (PART h k) (NOTPART g h) (ap (λ (z : ℕ). rule z g h k) r) x.0 y.0 x.1 c a b

    pub justified-c' : s.rule ≡ 7 → shows p (PART h k) ≡ true → shows q (MEETS g h) ≡ true → shows s (MEETS g k) ≡ true → justified n es i s p q ≡ true
    unfolding rule table
    justified-c' r a b c =
        let x = first-named s p q (PART h k) a in
        let y = second-named s p q (MEETS g h) b in
        two-justified g h k (PART h k) (MEETS g h) (MEETS g k) (ap (λ (z : ℕ). rule z g h k) r) y.0 x.0 x.1 c a b

    pub justified-d' : s.rule ≡ 8 → shows p (MEETS g h) ≡ true → shows q (APART k h) ≡ true → shows s (NOTPART g k) ≡ true → justified n es i s p q ≡ true
    unfolding rule table
    justified-d' r a b c =
        let x = first-named s p q (MEETS g h) a in
        let y = second-named s p q (APART k h) b in
        two-justified g h k (MEETS g h) (APART k h) (NOTPART g k) (ap (λ (z : ℕ). rule z g h k) r) x.0 x.1 y.0 c a b
