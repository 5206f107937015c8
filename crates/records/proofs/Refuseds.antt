-- Two refusals that are the same have one reason and one place. Assumes nothing.
use Prim.Native.Nat.{ℕ}
use mathlib.Core.Path.{◌≡◌, ap}
use Rattle.std.specs.Prelude.{Result, Ok, Err}
use Rattle.records.specs.declared.Refusal.{Refusal}
use Rattle.records.specs.declared.Refused.{Refused}
use Rattle.records.specs.Refused.{refused_at}

module _ {A : Type 0} where
  reason_or : Refusal → Result A Refused → Refusal
  reason_or d (Ok _) = d
  reason_or d (Err r) = r.refusal

  place_or : ℕ → Result A Refused → ℕ
  place_or d (Ok _) = d
  place_or d (Err r) = r.place

  pub same-reason : {r q : Refusal} {i j : ℕ} → refused_at {A = A} r i ≡ refused_at q j → r ≡ q
  unfolding reason_or
  same-reason {r} e = ap (reason_or r) e

  pub same-place : {r q : Refusal} {i j : ℕ} → refused_at {A = A} r i ≡ refused_at q j → i ≡ j
  unfolding place_or
  same-place {i = i} e = ap (place_or i) e
