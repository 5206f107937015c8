-- Which rule numbers ask for premises and for which, and what the others come to. Assumes nothing.
use Prim.Native.Nat.{ℕ, zero, suc}
use mathlib.Core.Path.{◌≡◌, refl}
use mathlib.Core.Bool.{Bool, true, false, ◌&&◌}
use mathlib.Core.List.{List}
use lib.Dec.{ltb}
use Rattle.chain_format.specs.Citing.{Cited}
use Rattle.chain_format.specs.declared.steps.Step.{Step}
use Rattle.chain_format.specs.Step.{showing}
use Rattle.chain_format.specs.Rule.{table, rule}
use Rattle.chain_format.specs.Justified.{premised, keeps}

module _ (s p q : Step) where
  module _ (r g h k : ℕ) where
    abbrev Follows : Bool
    Follows = premised s p q (rule r g h k)

    pub asked-a : r ≡ 1 → (showing s 1 g k && (showing p 1 g h && showing q 1 h k)) ≡ Follows
    unfolding premised rule table
    asked-a e = rw e refl

    pub asked-b : r ≡ 2 → (showing s 2 g k && (showing p 1 g h && showing q 2 h k)) ≡ Follows
    unfolding premised rule table
    asked-b e = rw e refl

    pub asked-a' : r ≡ 5 → (showing s 4 h k && (showing p 1 g h && showing q 4 g k)) ≡ Follows
    unfolding premised rule table
    asked-a' e = rw e refl

    pub asked-b' : r ≡ 6 → (showing s 4 g h && (showing p 4 g k && showing q 1 h k)) ≡ Follows
    unfolding premised rule table
    asked-b' e = rw e refl

    pub asked-c' : r ≡ 7 → (showing s 3 g k && (showing p 1 h k && showing q 3 g h)) ≡ Follows
    unfolding premised rule table
    asked-c' e = rw e refl

    pub asked-d' : r ≡ 8 → (showing s 4 g k && (showing p 3 g h && showing q 2 k h)) ≡ Follows
    unfolding premised rule table
    asked-d' e = rw e refl

  pub unpremised :
      (r : ℕ) → (r ≡ 1 → ⊥) → (r ≡ 2 → ⊥) → (r ≡ 5 → ⊥) → (r ≡ 6 → ⊥) → (r ≡ 7 → ⊥) → (r ≡ 8 → ⊥) → (g h k : ℕ) → premised s p q (rule r g h k) ≡ false
  unfolding premised rule table
  unpremised zero a b a' b' c' d' g h k = refl
  unpremised (suc zero) a b a' b' c' d' g h k = absurd (a refl)
  unpremised (suc (suc zero)) a b a' b' c' d' g h k = absurd (b refl)
  unpremised (suc (suc (suc zero))) a b a' b' c' d' g h k = refl
  unpremised (suc (suc (suc (suc zero)))) a b a' b' c' d' g h k = refl
  unpremised (suc (suc (suc (suc (suc zero))))) a b a' b' c' d' g h k = absurd (a' refl)
  unpremised (suc (suc (suc (suc (suc (suc zero)))))) a b a' b' c' d' g h k = absurd (b' refl)
  unpremised (suc (suc (suc (suc (suc (suc (suc zero))))))) a b a' b' c' d' g h k = absurd (c' refl)
  unpremised (suc (suc (suc (suc (suc (suc (suc (suc zero)))))))) a b a' b' c' d' g h k = absurd (d' refl)
  unpremised (suc (suc (suc (suc (suc (suc (suc (suc (suc zero))))))))) a b a' b' c' d' g h k = refl
  unpremised (suc (suc (suc (suc (suc (suc (suc (suc (suc (suc zero)))))))))) a b a' b' c' d' g h k = refl
  unpremised (suc (suc (suc (suc (suc (suc (suc (suc (suc (suc (suc zero))))))))))) a b a' b' c' d' g h k = refl
  unpremised (suc (suc (suc (suc (suc (suc (suc (suc (suc (suc (suc (suc r)))))))))))) a b a' b' c' d' g h k = refl

  off : (b : Bool) → false ≡ (b && false)
  off true = refl
  off false = refl

  pub premises-first :
      (es : List Cited) (i r : ℕ) → (r ≡ 0 → ⊥) → (r ≡ 3 → ⊥) → (r ≡ 4 → ⊥) → (r ≡ 9 → ⊥) → (r ≡ 10 → ⊥) → (r ≡ 11 → ⊥) → (g h k : ℕ)
      → keeps es i s p q (rule r g h k) ≡ ((ltb s.first i && ltb s.second i) && premised s p q (rule r g h k))
  unfolding premised keeps rule table
  premises-first es i zero o c f e' d e g h k = absurd (o refl)
  premises-first es i (suc zero) o c f e' d e g h k = refl
  premises-first es i (suc (suc zero)) o c f e' d e g h k = refl
  premises-first es i (suc (suc (suc zero))) o c f e' d e g h k = absurd (c refl)
  premises-first es i (suc (suc (suc (suc zero)))) o c f e' d e g h k = absurd (f refl)
  premises-first es i (suc (suc (suc (suc (suc zero))))) o c f e' d e g h k = refl
  premises-first es i (suc (suc (suc (suc (suc (suc zero)))))) o c f e' d e g h k = refl
  premises-first es i (suc (suc (suc (suc (suc (suc (suc zero))))))) o c f e' d e g h k = refl
  premises-first es i (suc (suc (suc (suc (suc (suc (suc (suc zero)))))))) o c f e' d e g h k = refl
  premises-first es i (suc (suc (suc (suc (suc (suc (suc (suc (suc zero))))))))) o c f e' d e g h k = absurd (e' refl)
  premises-first es i (suc (suc (suc (suc (suc (suc (suc (suc (suc (suc zero)))))))))) o c f e' d e g h k = absurd (d refl)
  premises-first es i (suc (suc (suc (suc (suc (suc (suc (suc (suc (suc (suc zero))))))))))) o c f e' d e g h k = absurd (e refl)
  premises-first es i (suc (suc (suc (suc (suc (suc (suc (suc (suc (suc (suc (suc r)))))))))))) o c f e' d e g h k = off (ltb s.first i && ltb s.second i)
