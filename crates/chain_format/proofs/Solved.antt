-- Each rule of two premises holds of no three pieces but those that the steps fix. Assumes nothing.
use Prim.Native.Nat.{ℕ}
use mathlib.Core.Path.{◌≡◌, refl, sym, ap, ◌∙◌}
use mathlib.Core.Logic.{◌⊎◌, inl, inr}
use mathlib.Core.Bool.{Bool, true, false, false≢true}
use mathlib.Core.List.{Memᴰ}
use lib.Dec.{eqb}
use borrow.Author.Tests.{eqb-true, eqb-false}
use Rattle.lists.proofs.Bools.{and_both, Known, is_true, is_false, known}
use Rattle.rules.specs.Fact.{Fact, PART, APART, MEETS, NOTPART}
use Rattle.chain_format.specs.declared.steps.Step.{Step}
use Rattle.chain_format.specs.Step.{unordered, showing, shows}
use Rattle.chain_format.specs.Rule.{from, table, rule}
use Rattle.chain_format.specs.Other.{other}
use Rattle.chain_format.specs.Justified.{some, named, premised}
use Rattle.chain_format.proofs.Somes.{solved}
use Rattle.chain_format.proofs.Showing.{Ends, straight, swapped, showing-ends}
use Rattle.chain_format.proofs.Computed.{other-second, other-first}

-- an ordered kind has its pieces in this order
pub exact : (s : Step) (k a b : ℕ) → unordered k ≡ false → showing s k a b ≡ true → (s.a ≡ a) × (s.b ≡ b)
exact s k a b o e = pick (showing-ends s k a b e)
  where
    pick : Ends s k a b → (s.a ≡ a) × (s.b ≡ b)
    pick (straight p q) = (p, q)
    pick (swapped u p q) = absurd (false≢true (sym o ∙ u))

-- of two pieces of which one is z, the other
other-is : (x y z m : ℕ) → ((x ≡ z) × (y ≡ m)) ⊎ ((x ≡ m) × (y ≡ z)) → other x y z ≡ m
other-is x y z m (inl h) = sym (other-second x y z h.0) ∙ h.1
other-is x y z m (inr h) = pick (known (eqb x z))
  where
    pick : Known (eqb x z) → other x y z ≡ m
    pick (is_true t) = let e = eqb-true x z t in sym (other-second x y z e) ∙ h.1 ∙ sym e ∙ h.0
    pick (is_false t) = sym (other-first x y z (eqb-false x z t)) ∙ h.0

other_last : (s : Step) (k a b : ℕ) → showing s k a b ≡ true → other s.a s.b a ≡ b
other_last s k a b e = pick (showing-ends s k a b e)
  where
    pick : Ends s k a b → other s.a s.b a ≡ b
    pick (straight p q) = other-is _ _ _ _ (inl (p, q))
    pick (swapped u p q) = other-is _ _ _ _ (inr (p, q))

other-start : (s : Step) (k a b : ℕ) → showing s k a b ≡ true → other s.a s.b b ≡ a
other-start s k a b e = pick (showing-ends s k a b e)
  where
    pick : Ends s k a b → other s.a s.b b ≡ a
    pick (straight p q) = other-is _ _ _ _ (inr (p, q))
    pick (swapped u p q) = other-is _ _ _ _ (inl (p, q))

other-either : (P : ℕ → Type 0) (x y z : ℕ) → P x → P y → P (other x y z)
other-either P x y z p q = pick (known (eqb x z))
  where
    pick : Known (eqb x z) → P (other x y z)
    pick (is_true t) = rw (← other-second x y z (eqb-true x z t)) q
    pick (is_false t) = rw (← other-first x y z (eqb-false x z t)) p

module _ (s p q : Step) where
  abbrev Named : ℕ → Type 0
  Named x = Memᴰ x (named s p q)

  s-a : Named s.a
  unfolding named
  s-a = Memᴰ.head refl

  s-b : Named s.b
  unfolding named
  s-b = Memᴰ.tail (Memᴰ.head refl)

  p-a : Named p.a
  unfolding named
  p-a = Memᴰ.tail (Memᴰ.tail (Memᴰ.head refl))

  p-b : Named p.b
  unfolding named
  p-b = Memᴰ.tail (Memᴰ.tail (Memᴰ.tail (Memᴰ.head refl)))

  other-p : (z : ℕ) → Named (other p.a p.b z)
  other-p z = other-either Named p.a p.b z p-a p-b

  other-q : (z : ℕ) → Named (other q.a q.b z)
  unfolding named
  other-q z =
      other-either Named q.a q.b z (Memᴰ.tail (Memᴰ.tail (Memᴰ.tail (Memᴰ.tail (Memᴰ.head refl)))))
      (Memᴰ.tail (Memᴰ.tail (Memᴰ.tail (Memᴰ.tail (Memᴰ.tail (Memᴰ.head refl))))))

  abbrev tried : ℕ → ℕ → ℕ → ℕ → Bool
  tried r g h k = premised s p q (rule r g h k)

  three : (x y f : Fact) → premised s p q (from x y f) ≡ true → (shows s f ≡ true) × (shows p x ≡ true) × (shows q y ≡ true)
  unfolding premised
  three x y f e = let a = and_both (shows s f) _ e in let b = and_both (shows p x) _ a.1 in (a.0, b.0, b.1)

  module _ (r : ℕ) where
    abbrev Search : Bool
    Search = some (named s p q) (λ g h k. premised s p q (rule r g h k))

    pub solved-a : r ≡ 1 → tried r s.a p.b s.b ≡ Search
    unfolding rule table premised
    solved-a e =
        rw e
        (solved (named s p q) (tried 1) s.a p.b s.b s-a p-b s-b
        (λ g h k t. let w = three (PART g h) (PART h k) (PART g k) t in let u = exact s 1 g k refl w.0 in (u.0, (exact p 1 g h refl w.1).1, u.1)))

    pub solved-a' : r ≡ 5 → tried r p.a s.a s.b ≡ Search
    unfolding rule table premised
    solved-a' e =
        rw e
        (solved (named s p q) (tried 5) p.a s.a s.b p-a s-a s-b
        (λ g h k t. let w = three (PART g h) (NOTPART g k) (NOTPART h k) t in let u = exact s 4 h k refl w.0 in ((exact p 1 g h refl w.1).0, u.0, u.1)))

    pub solved-b' : r ≡ 6 → tried r s.a s.b p.b ≡ Search
    unfolding rule table premised
    solved-b' e =
        rw e
        (solved (named s p q) (tried 6) s.a s.b p.b s-a s-b p-b
        (λ g h k t. let w = three (NOTPART g k) (PART h k) (NOTPART g h) t in let u = exact s 4 g h refl w.0 in (u.0, u.1, (exact p 4 g k refl w.1).1)))

    -- where a premise is unordered, one piece is the other one of it
    module _ (m : ℕ) where
      pub solved-b : r ≡ 2 → m ≡ other q.a q.b p.b → tried r p.a p.b m ≡ Search
      unfolding rule table premised
      solved-b e o =
          rw (e, o)
          (solved (named s p q) (tried 2) p.a p.b (other q.a q.b p.b) p-a p-b (other-q p.b)
          (λ g h k t. let w = three (PART g h) (APART h k) (APART g k) t in let u = exact p 1 g h refl w.1 in (u.0, u.1, ap (other q.a q.b) u.1 ∙ other_last q 2 h k w.2)))

      pub solved-c' : r ≡ 7 → m ≡ other q.a q.b p.a → tried r m p.a p.b ≡ Search
      unfolding rule table premised
      solved-c' e o =
          rw (e, o)
          (solved (named s p q) (tried 7) (other q.a q.b p.a) p.a p.b (other-q p.a) p-a p-b
          (λ g h k t. let w = three (PART h k) (MEETS g h) (MEETS g k) t in let u = exact p 1 h k refl w.1 in (ap (other q.a q.b) u.0 ∙ other-start q 3 g h w.2, u.0, u.1)))

      pub solved-d' : r ≡ 8 → m ≡ other p.a p.b s.a → tried r s.a m s.b ≡ Search
      unfolding rule table premised
      solved-d' e o =
          rw (e, o)
          (solved (named s p q) (tried 8) s.a (other p.a p.b s.a) s.b s-a (other-p s.a) s-b
          (λ g h k t. let w = three (MEETS g h) (APART k h) (NOTPART g k) t in let u = exact s 4 g k refl w.0 in (u.0, ap (other p.a p.b) u.0 ∙ other_last p 3 g h w.1, u.1)))
