-- A scan goes on past what is fit, stops at the first refusal, and accepts where all is fit. Assumes nothing.
use Rattle.std.specs.Prelude.{Err, Ok}
use Rattle.records.specs.Refused.{Finding}
use Prim.Native.Nat.{ℕ, zero, suc, ◌+◌, ◌-◌, ◌≤◌, ◌<◌}
use mathlib.Core.Path.{◌≡◌, refl, ap, ◌∙◌}
use native.Mathlib.Numerals.{add-one}
use native.Mathlib.Decide.{ℕ_discrete}
use native.Mathlib.Omega.{arith}
use Rattle.records.specs.declared.Refusal.{Refusal}
use Rattle.records.specs.Refusal.{judge, scan}

pub judged : {A : Type 0} (refused : Refusal → A) (rest : A) (f : Finding) {a : A} → ((r : Refusal) → refused r ≡ a → ⊥) → judge refused rest f ≡ a → (f ≡ Ok tt) × (rest ≡ a)
judged refused rest (Ok _) never e = (refl, e)
judged refused rest (Err r) never e = absurd (never r e)

module _ {A : Type 0} (refused : Refusal → ℕ → A) (accepted : A) (find : ℕ → Finding) where
  step : (i e : ℕ) → i < e → scan refused accepted find i (e - i) ≡ judge (λ r. refused r i) (scan refused accepted find (i + 1) (e - (i + 1))) (find i)
  unfolding scan
  step i e h = let n : e - i ≡ suc (e - (i + 1)) = omega arith in rw (n, add-one i)

  pub scan-end : (i e : ℕ) → e ≤ i → scan refused accepted find i (e - i) ≡ accepted
  unfolding scan
  scan-end i e h = let n : e - i ≡ 0 = omega arith in rw n

  pub scan-pass : (i e : ℕ) → i < e → find i ≡ Ok tt → scan refused accepted find i (e - i) ≡ scan refused accepted find (i + 1) (e - (i + 1))
  scan-pass i e h f = step i e h ∙ rw f

  pub scan-stop : (i e : ℕ) (r : Refusal) → i < e → find i ≡ Err r → scan refused accepted find i (e - i) ≡ refused r i
  scan-stop i e r h f = step i e h ∙ rw f

  pub all_pass : (i n : ℕ) → ((k : ℕ) → k < i + n → find k ≡ Ok tt) → scan refused accepted find i n ≡ accepted
  unfolding scan
  all_pass i zero h = refl
  all_pass i (suc n) h = rw (h i (omega arith)) (all_pass (suc i) n (λ k l. h k (omega arith)))

  -- an outcome that is no refusal is the acceptance, and all is fit
  module _ {a : A} (never : (r : Refusal) (i : ℕ) → refused r i ≡ a → ⊥) where
    fits : (i n : ℕ) → scan refused accepted find i n ≡ a → (k : ℕ) → i ≤ k → k < i + n → find k ≡ Ok tt
    unfolding scan
    fits i zero e k l h = absurd (omega arith)
    fits i (suc n) e k l h =
        let p = judged (λ r. refused r i) (scan refused accepted find (suc i) n) (find i) (λ r. never r i) e in
        elim (ℕ_discrete k i) [
          | yes q ↦ ap find q ∙ p.0
          | no q ↦ fits (suc i) n p.1 k (omega arith) (omega arith)
        ]

    ends : (i n : ℕ) → scan refused accepted find i n ≡ a → accepted ≡ a
    unfolding scan
    ends i zero e = e
    ends i (suc n) e = ends (suc i) n (judged (λ r. refused r i) (scan refused accepted find (suc i) n) (find i) (λ r. never r i) e).1

    pub all_fit : (n : ℕ) → scan refused accepted find 0 n ≡ a → (accepted ≡ a) × ((k : ℕ) → k < n → find k ≡ Ok tt)
    all_fit n e = (ends 0 n e, λ k h. fits 0 n e k (omega arith) (omega arith))
