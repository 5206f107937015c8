-- The fresh call on a run that is extended or shortened, and the answer byte that the call leaves. Assumes nothing.
use Rattle.std.specs.Prelude.{Err, Ok}
use Rattle.records.specs.Refused.{refused_at}
use Rattle.outcomes.specs.Accepted.{Outcome}
use mathlib.Core.Path.{◌≡◌, refl, ap, ◌∙◌}
use mathlib.Core.Bool.{Bool, true, false}
use mathlib.Core.List.{List, [], ◌∷◌}
use Prim.Native.Nat.{ℕ, ◌+◌, ◌*◌, ◌-◌, ◌/◌, ◌≤◌, ◌<◌}
use native.Mathlib.Omega.{arith}
use lib.Dec.{eqb}
use lib.ListN.{length, get_or, take, drop, length-append, length-drop, get_or-append}
use lib.Seq.{length-take-le}
use Rattle.lists.proofs.Tabs.{tab-length}
use Rattle.records.specs.Record.{records}
use Rattle.records.specs.Refusal.{refusal_number}
use Rattle.records.specs.Check.{check_by}
use Rattle.records.specs.declared.Refusal.TheVariants.{TooManyRecords}
use Rattle.outcomes.specs.Lent.{Lent}
use Rattle.lists.specs.Front.{front}
use Rattle.records.specs.Claimed.{answers_to}
use Rattle.outcomes.specs.Call.{by_book, indexed, cleared, left}
use Rattle.outcomes.specs.Fresh.{fresh_call}
use Rattle.working.specs.Standing.{standing, extended, without}
use Rattle.working.specs.Rows.{answer_of}

-- the answer byte that the call leaves
module _ (s c : List ℕ) (l : Lent) (six : length c ≡ 6) (clear : l.answers ≡ 0 ∷ []) where
  refused-answer : (b : Bool) → get_or (elim b as (λ _. Lent) [ true ↦ cleared l | false ↦ l ]).answers 0 0 ≡ 0
  unfolding cleared
  refused-answer true = rw clear refl
  refused-answer false = rw clear refl

  one_answer : (n : ℕ) → length (answers_to s n c) ≡ 1
  unfolding answers_to
  one_answer n = tab-length _ 0 (records c) ∙ ap (λ (m : ℕ). m / 6) six

  pub answer-left : (r : Outcome) → get_or (left s c l r).answers 0 0 ≡ answer_of s c r
  unfolding left indexed answer_of front
  answer-left (Ok n) = get_or-append (answers_to s n.pieces c) _ 0 0 (omega (arith, one_answer n.pieces))
  answer-left (Err x) = refused-answer (eqb (refusal_number x.refusal) 14)

-- 8,193 records are too many
pub over-full : (s : List ℕ) → length s ≡ 49158 → fresh_call s [] ≡ refused_at TooManyRecords 0
unfolding fresh_call by_book check_by
over-full s e = rw e refl

pub extended-length : (area a : List ℕ) (k : ℕ) → 6 * k ≤ length area → length a ≡ 6 → length (extended area k a) ≡ 6 * k + 6
unfolding extended standing
extended-length area a k l e = omega (arith, length-append (take (6 * k) area) a, length-take-le (6 * k) area l)

pub without-length : (area : List ℕ) (k i : ℕ) → 6 * k ≤ length area → i < k → length (without area k i) ≡ 6 * k - 6
unfolding without standing
without-length area k i l m =
    let e : length (take (6 * k) area) ≡ 6 * k = length-take-le (6 * k) area l in
    omega (arith, e, length-append (take (6 * i) (take (6 * k) area)) (drop (6 * i + 6) (take (6 * k) area)), length-take-le (6 * i) (take (6 * k) area) (omega arith), length-drop (6 * i + 6) (take (6 * k) area))
