-- What is written where. Assumes nothing.
use Prim.Native.Nat.{ℕ, ◌+◌, ◌-◌, ◌*◌, ◌/◌, ◌%◌, ◌≤◌, ◌<◌}
use mathlib.Core.Path.{◌≡◌, sym, ap, ◌∙◌}
use mathlib.Core.List.{List}
use native.Mathlib.Nat.{add-zero}
use native.Mathlib.Omega.{arith}
use lib.ListN.{length, get_or}
use Rattle.lists.specs.Front.{placed}
use Rattle.lists.proofs.Fronts.{placed-length, placed-before, placed-among, placed-behind}
use Rattle.records.specs.Record.{pair}
use Rattle.chain_format.specs.declared.steps.Step.{Step}
use Rattle.chain_format.specs.Step.{step_at, step_bytes}
use Rattle.derivations.specs.Written.{Edited, Put}

pub edited-join : {c c' c'' : List ℕ} {low high low' high' : ℕ} (l h : ℕ) → Edited c c' low high → Edited c' c'' low' high' → l ≤ low → l ≤ low' → high ≤ h → high' ≤ h → Edited c c'' l h
edited-join l h x y a b p q =
    record {
      sized = y.sized ∙ x.sized;
      below = λ j k. y.below j (omega arith) ∙ x.below j (omega arith);
      behind = λ j k. y.behind j (omega arith) ∙ x.behind j (omega arith);
    }

-- the low two bytes of a number below 65,536 are all of it
both_bytes : (x : ℕ) → x < 65536 → pair (x % 256) (x / 256 % 256) ≡ x
both_bytes x h = omega arith

-- a step that `chain_format::put_step` wrote reads back where its numbers have sixteen bits
module _ (c c' : List ℕ) (i : ℕ) (s : Step) (room : 10 * i + 10 ≤ length c) (is : c' ≡ placed (10 * i) (step_bytes s) c) where
  step-edited : Edited c c' (10 * i) (10 * i + 10)
  unfolding step_bytes
  step-edited =
      rw is
      (record {
        sized = placed-length (step_bytes s) c (10 * i) room;
        below = placed-before 0 (step_bytes s) c (10 * i) room;
        behind = λ j h. let e : 10 * i + 10 + (j - (10 * i + 10)) ≡ j = omega arith in rw (← e) (placed-behind 0 (step_bytes s) c (10 * i) room (j - (10 * i + 10)));
      })

  among : (k : ℕ) → k < 10 → get_or c' (10 * i + k) 0 ≡ get_or (step_bytes s) k 0
  unfolding step_bytes
  among k h = rw is (placed-among 0 (step_bytes s) c (10 * i) room k h)

  pub step-put : s.a < 65536 → s.b < 65536 → s.first < 65536 → s.second < 65536 → Put c c' i s
  unfolding step_at step_bytes
  step-put a b first second =
      let rule : get_or c' (10 * i) 0 ≡ s.rule = ap (λ (n : ℕ). get_or c' n 0) (sym (add-zero (10 * i))) ∙ among 0 (omega arith) in
      record {
        edited = step-edited;
        step =
            rw (
              rule,
              among 1 (omega arith),
              among 2 (omega arith),
              among 3 (omega arith),
              among 4 (omega arith),
              among 5 (omega arith),
              among 6 (omega arith),
              among 7 (omega arith),
              among 8 (omega arith),
              among 9 (omega arith),
              both_bytes s.a a,
              both_bytes s.b b,
              both_bytes s.first first,
              both_bytes s.second second,
            );
      }
