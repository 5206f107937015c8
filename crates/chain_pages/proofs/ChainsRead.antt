-- The lines of all steps are read back. Assumes nothing.
use Prim.Native.Nat.{ℕ, zero, suc, ◌+◌, ◌*◌, ◌/◌, ◌%◌, ◌≤◌, ◌<◌}
use mathlib.Core.Path.{◌≡◌, refl, sym, ap, ap₂, ◌∙◌}
use mathlib.Core.Bool.{true}
use mathlib.Core.List.{List, [], ◌∷◌, ◌++◌, append_assoc, append-nil}
use native.Mathlib.Nat.{add-zero, add-suc, suc-add}
use native.Mathlib.Omega.{arith}
use lib.ListN.{length, get_or, drop, drop_of_length-le}
use Rattle.pages.specs.Decimal.{decimal}
use Rattle.records.specs.Record.{pair}
use Rattle.text.specs.Number.{is_digit}
use Rattle.lists.proofs.Parts.{here}
use Rattle.pages.specs.Lines.{lines}
use Rattle.chain_format.specs.Step.{step_at, step_bytes, steps}
use Rattle.chain_pages.specs.StepLine.{step_line}
use Rattle.chain_pages.specs.StepLine.{step_lines}
use Rattle.chain_pages.specs.ChainText.{Bytes}
use Rattle.chain_pages.specs.Read.{after, found, step_in, left_in, steps_in}
use Rattle.chain_pages.proofs.Gaps.{gaps, after_is, found-is, found_none}
use Rattle.chain_pages.proofs.Steps.{steps-none, steps-more}
use Rattle.chain_pages.proofs.StepsRead.{Plain, Small, behind_number, line-is, rest, step-read, left-read, left-plain}

-- ---- lines from the first on

unfoldable from_line : (ℕ → List ℕ) → ℕ → ℕ → List ℕ
from_line f i zero = []
from_line f i (suc k) = f i ++ from_line f (suc i) k

split : (f : ℕ → List ℕ) (k i : ℕ) → lines f (i + k) ≡ lines f i ++ from_line f i k
unfolding lines from_line
split f zero i = ap (lines f) (add-zero i) ∙ sym (append-nil (lines f i))
split f (suc k) i = ap (lines f) (add-suc i k ∙ sym (suc-add i k)) ∙ split f k (suc i) ∙ append_assoc (lines f i) (f i) (from_line f (suc i) k)

from_first : (f : ℕ → List ℕ) (n : ℕ) → lines f n ≡ from_line f 0 n
unfolding lines
from_first f n = let e : n ≡ 0 + n = omega arith in ap (lines f) e ∙ split f n 0

-- ---- the bytes of a step

pub byte_at : (c : List ℕ) (p q : ℕ) → p + 1 ≡ q → q ≤ length c → drop p c ≡ get_or c p 0 ∷ drop q c
byte_at c p q e h = here c p 0 (omega arith) ∙ ap (λ (n : ℕ). get_or c p 0 ∷ drop n c) e

pub low : (l h : ℕ) → l < 256 → pair l h % 256 ≡ l
low l h p = omega arith

pub high : (l h : ℕ) → l < 256 → h < 256 → pair l h / 256 % 256 ≡ h
high l h p q = omega arith

module _ (c : List ℕ) (bytes : Bytes c) (i : ℕ) where
  pub small : Small (step_at c i)
  unfolding step_at
  small =
      record {
        a = omega (arith, bytes (10 * i + 2), bytes (10 * i + 3));
        b = omega (arith, bytes (10 * i + 4), bytes (10 * i + 5));
        first = omega (arith, bytes (10 * i + 6), bytes (10 * i + 7));
        second = omega (arith, bytes (10 * i + 8), bytes (10 * i + 9));
      }

  bytes_back : 10 * i + 10 ≤ length c → step_bytes (step_at c i) ++ drop (10 * suc i) c ≡ drop (10 * i) c
  unfolding step_bytes step_at
  bytes_back h =
      let p = 10 * i in
      let n : 10 * suc i ≡ p + 10 = omega arith in
      rw (
        low (get_or c (p + 2) 0) (get_or c (p + 3) 0) (bytes (p + 2)),
        high (get_or c (p + 2) 0) (get_or c (p + 3) 0) (bytes (p + 2)) (bytes (p + 3)),
        low (get_or c (p + 4) 0) (get_or c (p + 5) 0) (bytes (p + 4)),
        high (get_or c (p + 4) 0) (get_or c (p + 5) 0) (bytes (p + 4)) (bytes (p + 5)),
        low (get_or c (p + 6) 0) (get_or c (p + 7) 0) (bytes (p + 6)),
        high (get_or c (p + 6) 0) (get_or c (p + 7) 0) (bytes (p + 6)) (bytes (p + 7)),
        low (get_or c (p + 8) 0) (get_or c (p + 9) 0) (bytes (p + 8)),
        high (get_or c (p + 8) 0) (get_or c (p + 9) 0) (bytes (p + 8)) (bytes (p + 9)),
        n,
        byte_at c p (p + 1) refl (omega arith),
        byte_at c (p + 1) (p + 2) (omega arith) (omega arith),
        byte_at c (p + 2) (p + 3) (omega arith) (omega arith),
        byte_at c (p + 3) (p + 4) (omega arith) (omega arith),
        byte_at c (p + 4) (p + 5) (omega arith) (omega arith),
        byte_at c (p + 5) (p + 6) (omega arith) (omega arith),
        byte_at c (p + 6) (p + 7) (omega arith) (omega arith),
        byte_at c (p + 7) (p + 8) (omega arith) (omega arith),
        byte_at c (p + 8) (p + 9) (omega arith) (omega arith),
        byte_at c (p + 9) (p + 10) (omega arith) (omega arith),
      )

-- ---- all steps

module _ (c : List ℕ) (bytes : Bytes c) (whole : length c ≡ 10 * steps c) (plain : (i : ℕ) → i < steps c → Plain (step_at c i)) where
  abbrev f : ℕ → List ℕ
  f i = step_line i (step_at c i)

  read-from : (k i fuel : ℕ) (g : List ℕ) → gaps g ≡ true → i + k ≡ steps c → k ≤ fuel → steps_in fuel (g ++ from_line f i k) ≡ drop (10 * i) c
  unfolding from_line is_digit
  read-from zero i fuel g gap e h =
      ap (steps_in fuel) (append-nil g) ∙ steps-none fuel g (found_none g gap) ∙ sym (drop_of_length-le c {i = 10 * i} (omega arith))
  read-from (suc k) i zero g gap e h = absurd (omega arith)
  read-from (suc k) i (suc fuel) g gap e h =
      let s = step_at c i in
      let r = from_line f (suc i) k in
      let p : Plain s = plain i (omega arith) in
      let m : Small s = small c bytes i in
      let form : g ++ (f i ++ r) ≡ g ++ (decimal i ++ behind_number s r) = ap (λ (x : List ℕ). g ++ x) (line-is s r i) in
      let there : found (g ++ (f i ++ r)) ≡ true = ap found form ∙ found-is 32 _ refl g i gap in
      let behind : after (g ++ (f i ++ r)) ≡ behind_number s r = ap after form ∙ after_is 32 _ refl g i gap in
      let again : steps_in fuel ((rest s r p m).between ++ r) ≡ drop (10 * suc i) c =
      read-from k (suc i) fuel (rest s r p m).between (left-plain s r p m) (omega arith) (omega arith) in
      steps-more (suc fuel) fuel (g ++ (f i ++ r)) refl there
      ∙ ap₂ ◌++◌ (ap step_bytes (ap step_in behind ∙ step-read s r p m)) (ap (steps_in fuel) (ap left_in behind ∙ left-read s r p m) ∙ again)
      ∙ bytes_back c bytes i (omega arith)

  -- behind what has no digits
  pub steps-read : (g : List ℕ) → gaps g ≡ true → steps c ≤ 16400 → steps_in 16400 (g ++ step_lines c (steps c)) ≡ c
  unfolding step_lines
  steps-read g gap h =
      ap (λ (x : List ℕ). steps_in 16400 (g ++ x)) (from_first f (steps c)) ∙ read-from (steps c) 0 16400 g gap (omega arith) h
