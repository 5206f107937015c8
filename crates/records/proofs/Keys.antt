-- Two records are the same byte for byte just where their keys are equal. Assumes nothing.
use Prim.Native.Nat.{ℕ, zero, suc, ◌+◌, ◌*◌, ◌<◌}
use mathlib.Core.Path.{◌≡◌, refl, sym, ap, ◌∙◌}
use mathlib.Core.Bool.{true, false}
use mathlib.Core.List.{List}
use native.Mathlib.Nat.{add-zero}
use native.Mathlib.Omega.{arith}
use borrow.Author.Tests.{eqb-true, eq-eqb}
use borrow.Author.Count.{below_more}
use lib.Dec.{eqb}
use lib.ListN.{length, get_or, set}
use lib.Seq.{get_or-set_same, get_or-set_other}
use Rattle.lists.proofs.Bools.{and_both, both-and, not-true}
use Rattle.lists.proofs.Anys.{below-find, below-hit}
use Rattle.records.specs.declared.Record.{Record}
use Rattle.records.specs.Record.{record_at}
use Rattle.records.specs.Rows.{same_bytes, repeat_row}
use Rattle.records.specs.Key.{key_at}

pub same-all : (s : List ℕ) (p q n : ℕ) → same_bytes s p q n ≡ true → (k : ℕ) → k < n → get_or s (p + k) 0 ≡ get_or s (q + k) 0
unfolding same_bytes
same-all s p q zero e k h = absurd (omega arith)
same-all s p q (suc n) e k h =
    let b = and_both (eqb (get_or s (p + n) 0) (get_or s (q + n) 0)) (same_bytes s p q n) e in
    below_more (λ k. get_or s (p + k) 0 ≡ get_or s (q + k) 0) n (same-all s p q n b.1) (eqb-true _ _ b.0) k (omega arith)

pub all_same : (s : List ℕ) (p q n : ℕ) → ((k : ℕ) → k < n → get_or s (p + k) 0 ≡ get_or s (q + k) 0) → same_bytes s p q n ≡ true
unfolding same_bytes
all_same s p q zero h = refl
all_same s p q (suc n) h = both-and (eq-eqb _ _ (h n (omega arith))) (all_same s p q n (λ k l. h k (omega arith)))

at-start : (s : List ℕ) (p : ℕ) → get_or s (p + 0) 0 ≡ get_or s p 0
at-start s p = ap (λ (i : ℕ). get_or s i 0) (add-zero p)

same_key : (s : List ℕ) (p q : ℕ) → same_bytes s p q 6 ≡ true → key_at s p ≡ key_at s q
same_key s p q e =
    let h = same-all s p q 6 e in
    omega (arith, at-start s p, at-start s q, h 0 (omega arith), h 1 (omega arith), h 2 (omega arith), h 3 (omega arith), h 4 (omega arith), h 5 (omega arith))

digits : (x y a b : ℕ) → a < 256 → b < 256 → x * 256 + a ≡ y * 256 + b → (x ≡ y) × (a ≡ b)
digits x y a b p q e = omega arith

key-same : (s : List ℕ) (p q : ℕ) → ((k : ℕ) → get_or s k 0 < 256) → key_at s p ≡ key_at s q → same_bytes s p q 6 ≡ true
unfolding same_bytes
key-same s p q h e =
    let d0 = digits _ _ _ _ (h p) (h q) e in
    let d1 = digits _ _ _ _ (h (p + 1)) (h (q + 1)) d0.0 in
    let d2 = digits _ _ _ _ (h (p + 2)) (h (q + 2)) d1.0 in
    let d3 = digits _ _ _ _ (h (p + 3)) (h (q + 3)) d2.0 in
    let d4 = digits _ _ _ _ (h (p + 4)) (h (q + 4)) d3.0 in
    both-and (eq-eqb _ _ d4.0) (both-and (eq-eqb _ _ d4.1) (both-and (eq-eqb _ _ d3.1) (both-and (eq-eqb _ _ d2.1) (both-and (eq-eqb _ _ d1.1) (both-and (eq-eqb _ _ (at-start s p ∙ d0.1 ∙ sym (at-start s q))) refl)))))

module _ (s : List ℕ) (i : ℕ) where
  pub repeated : ((k : ℕ) → get_or s k 0 < 256) → (j : ℕ) → j < i → key_at s (6 * i) ≡ key_at s (6 * j) → repeat_row s i ≡ true
  repeated h j l e = below-hit _ i j l (key-same s (6 * i) (6 * j) h e)

  pub new : ((j : ℕ) → j < i → key_at s (6 * j) ≡ key_at s (6 * i) → ⊥) → repeat_row s i ≡ false
  new n = not-true _ (λ e. let f = below-find (λ j. same_bytes s (6 * i) (6 * j) 6) i e in n f.0 f.1 (sym (same_key s (6 * i) (6 * f.0) f.2)))

-- one more key is put down
pub keyed-more :
    (s K : List ℕ) (i r : ℕ) → i < length K → r ≡ key_at s (6 * i) → ((p : ℕ) → p < i → get_or K p 0 ≡ key_at s (6 * p))
    → (p : ℕ) → p < i + 1 → get_or (set K i r) p 0 ≡ key_at s (6 * p)
keyed-more s K i r h e before =
    below_more (λ p. get_or (set K i r) p 0 ≡ key_at s (6 * p)) i (λ p l. get_or-set_other K i p r 0 (λ q. omega arith) ∙ before p l) (get_or-set_same K i r 0 h ∙ e)

-- Equal records have equal bytes.
low-high : (x y u v : ℕ) → x < 256 → u < 256 → x + 256 * y ≡ u + 256 * v → (x ≡ u) × (y ≡ v)
low-high x y u v p q e = omega arith

pub equal-bytes : (s : List ℕ) (i j : ℕ) → ((k : ℕ) → get_or s k 0 < 256) → record_at s i ≡ record_at s j → same_bytes s (6 * i) (6 * j) 6 ≡ true
unfolding record_at
equal-bytes s i j h e =
    let k : get_or s (6 * i) 0 ≡ get_or s (6 * j) 0 = ap (λ (r : Record). r.kind) e in
    let t : get_or s (6 * i + 1) 0 ≡ get_or s (6 * j + 1) 0 = ap (λ (r : Record). r.origin) e in
    let a = low-high _ _ _ _ (h (6 * i + 2)) (h (6 * j + 2)) (ap (λ (r : Record). r.a) e) in
    let b = low-high _ _ _ _ (h (6 * i + 4)) (h (6 * j + 4)) (ap (λ (r : Record). r.b) e) in
    key-same s (6 * i) (6 * j) h (omega (arith, k, t, a, b))
