-- Every rule of the table is one of the rules by which facts are derived. Assumes nothing.
use Prim.Native.Nat.{ℕ, zero, suc}
use mathlib.Core.Path.{◌≡◌}
use mathlib.Core.Bool.{Bool, true, false}
use mathlib.Core.List.{List, [], ◌∷◌}
use lib.ListN.{get_or, drop}
use Rattle.rules.specs.Fact.{Fact, Within}
use Rattle.rules.specs.Derives.{Derives, rule-a, rule-b, rule-c, rule-d, rule-e, rule-f, rule-a', rule-b', rule-c', rule-d', rule-e'}
use Rattle.chain_format.specs.Rule.{Form, unknown, stored, freely, unmarked, marked, from, table, rule}

module _ (void : ℕ → Bool) (n : ℕ) (fs : List Fact) where
  abbrev pub Sound : Form → Type 0
  Sound unknown = Unit {0}
  Sound stored = ⊥
  Sound (freely f) = Within n f → Derives void n fs f
  Sound (unmarked g f) = void g ≡ false → Within n f → Derives void n fs f
  Sound (marked g f) = void g ≡ true → Within n f → Derives void n fs f
  Sound (from p q f) = Derives void n fs p → Derives void n fs q → Derives void n fs f

  abbrev AllSound : List (ℕ → ℕ → ℕ → Form) → Type 0
  AllSound [] = Unit {0}
  AllSound (x ∷ xs) = ((g h k : ℕ) → Sound (x g h k)) × AllSound xs

  at : (xs : List (ℕ → ℕ → ℕ → Form)) → AllSound xs → (r g h k : ℕ) → Sound (get_or xs r (λ g h k. unknown) g h k)
  at [] t r g h k = tt
  at (x ∷ xs) t zero g h k = t.0 g h k
  at (x ∷ xs) t (suc r) g h k = at xs t.1 r g h k

  numbered : AllSound (drop 1 table)
  unfolding table
  numbered = (
    λ g h k d e. rule-a d e,
    (
      λ g h k d e. rule-b d e,
      (
        λ g h k w. rule-c w.0,
        (
          λ g h k w. rule-f w.0,
          (
            λ g h k d e. rule-a' d e,
            (
              λ g h k d e. rule-b' d e,
              (
                λ g h k d e. rule-c' d e,
                (
                  λ g h k d e. rule-d' d e,
                  (λ g h k v w. rule-e' v w.0, (λ g h k v w. rule-d v w.0 w.1, (λ g h k v w. rule-e v w.0 w.1, tt))),
                ),
              ),
            ),
          ),
        ),
      ),
    ),
  )

  -- every number but 0, which stands for a record
  pub rule-sound : (r g h k : ℕ) → Sound (rule (suc r) g h k)
  unfolding rule table
  rule-sound r g h k = at (drop 1 table) numbered r g h k
