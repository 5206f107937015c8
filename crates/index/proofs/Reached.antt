-- The breadth-first walk meets every piece, so that each piece but 0 has a parent, which is a container of it. Assumes nothing.
use mathlib.Core.Path.{◌≡◌, refl, ap}
use mathlib.Core.Logic.{◌⊎◌, inl, inr}
use mathlib.Core.Bool.{Bool, true, false, not}
use mathlib.Core.List.Memᴰ
use mathlib.Core.List.Memᴰ.{head as here}
use mathlib.Core.List.Memᴰ.{tail as there}
use mathlib.Core.List.{List, [], ◌∷◌, ◌++◌}
use Prim.Native.Nat.{ℕ, zero, suc, ◌+◌, ◌-◌, ◌≤◌, ◌<◌}
use native.Mathlib.Omega.{arith}
use lib.ListN.{length, length-append}
use Rattle.index.specs.Pairs.{Book}
use Rattle.lists.specs.Numbers.{range, keep}
use Rattle.index.specs.Breadth.{breadth, order, parent}
use Rattle.lists.proofs.Numbers.{◌∈◌, which, mem-keep, keep-lengths, mem-range, range_length, find-mem}

module _ (n : ℕ) (edge : ℕ → ℕ → Bool) where
  -- what is queued is met
  queued : (k : ℕ) (queue unmet : List ℕ) → length queue + length unmet ≤ k → {x : ℕ} → x ∈ queue → x ∈ breadth n edge k queue unmet
  unfolding breadth
  queued zero [] unmet h m = absurd (Memᴰ.not-nil m)
  queued (suc k) [] unmet h m = absurd (Memᴰ.not-nil m)
  queued zero (c ∷ queue) unmet h m = absurd (omega arith)
  queued (suc k) (c ∷ queue) unmet h {x} m = go (Memᴰ.cases_cons m) (λ (t : x ∈ queue). queued k next rest fits (Memᴰ.append_left _ t))
    where
      next : List ℕ
      next = queue ++ keep (λ p. edge p c) unmet

      rest : List ℕ
      rest = keep (λ p. not (edge p c)) unmet

      fits : length next + length rest ≤ k
      fits = omega (arith, length-append queue (keep (λ p. edge p c) unmet), keep-lengths (λ p. edge p c) unmet)

      go : (x ≡ c) ⊎ (x ∈ queue) → (x ∈ queue → x ∈ breadth n edge k next rest) → x ∈ c ∷ breadth n edge k next rest
      go (inl e) r = here e
      go (inr t) r = there (r t)

  -- an unmet part of what is met gets met
  closed : (k : ℕ) (queue unmet : List ℕ) → length queue + length unmet ≤ k → {x p : ℕ}
      → x ∈ breadth n edge k queue unmet → edge p x ≡ true → p ∈ unmet → p ∈ breadth n edge k queue unmet
  unfolding breadth
  closed zero queue unmet h m e u = absurd (Memᴰ.not-nil m)
  closed (suc k) [] unmet h m e u = absurd (Memᴰ.not-nil m)
  closed (suc k) (c ∷ queue) unmet h {x} {p} m e u =
      go (which (edge p c)) (Memᴰ.cases_cons m) (λ (t : x ∈ breadth n edge k next rest) (v : p ∈ rest). closed k next rest fits t e v)
    where
      next : List ℕ
      next = queue ++ keep (λ p. edge p c) unmet

      rest : List ℕ
      rest = keep (λ p. not (edge p c)) unmet

      fits : length next + length rest ≤ k
      fits = omega (arith, length-append queue (keep (λ p. edge p c) unmet), keep-lengths (λ p. edge p c) unmet)

      go : (edge p c ≡ true) ⊎ (edge p c ≡ false) → (x ≡ c) ⊎ (x ∈ breadth n edge k next rest)
          → (x ∈ breadth n edge k next rest → p ∈ rest → p ∈ breadth n edge k next rest) → p ∈ c ∷ breadth n edge k next rest
      go (inl t) w r = there (queued k next rest fits (Memᴰ.append_right queue (mem-keep (λ p. edge p c) unmet u t)))
      go (inr t) (inl q) r = let z : true ≡ false = cc (ap (edge p) q) in absurd (mathlib.Core.Bool.true≢false z)
      go (inr t) (inr w) r = there (r w (mem-keep (λ p. not (edge p c)) unmet u (ap not t)))

  module _ (B : Book n edge) where
    fits : 1 + length (range 1 (n - 1)) ≤ n
    fits = omega (arith, range_length 1 (n - 1), B.some)

    -- by induction on a bound of the piece: its container is lower
    met-below : (k p : ℕ) → B.level p < k → p < n → p ∈ order n edge
    unfolding order
    met-below zero p h l = absurd (omega arith)
    met-below (suc k) zero h l = queued n (0 ∷ []) (range 1 (n - 1)) fits (here refl)
    met-below (suc k) (suc p) h l =
        let c = B.held (suc p) (omega arith) l in
        let lt = B.lower (suc p) c.0 c.1 in
        closed n (0 ∷ []) (range 1 (n - 1)) fits (met-below k c.0 (omega arith) (B.whole (suc p) c.0 c.1)) c.1 (mem-range 1 (n - 1) (suc p) (omega arith) (omega arith))

    met : (p : ℕ) → p < n → p ∈ order n edge
    met p l = met-below (suc (B.level p)) p (omega arith) l

    pub parent-edge : (p : ℕ) → 0 < p → p < n → edge p (parent n edge p) ≡ true
    unfolding parent
    parent-edge p pos l =
        let c = B.held p pos l in
        (find-mem (λ c. edge p c) (order n edge) (met c.0 (B.whole p c.0 c.1)) c.1).1
