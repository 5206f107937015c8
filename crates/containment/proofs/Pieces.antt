-- The table of the leader at each place: the place list turned round, and then the shadows. Assumes nothing.
use mathlib.Core.Path.{◌≡◌, refl, sym, ap, ◌∙◌}
use mathlib.Core.Bool.{Bool, true, false}
use mathlib.Core.List.{List}
use Prim.Native.Nat.{ℕ, ◌+◌, ◌≤◌, ◌<◌}
use native.Mathlib.Decide.{dec_lt}
use native.Mathlib.Omega.{arith}
use borrow.Author.Count.{below_more}
use lib.ListN.{length, get_or, set}
use lib.Seq.{get_or-set_same, get_or-set_other}
use Rattle.lists.specs.Tally.{num}
use Rattle.parentheses.specs.Rank.{rank}
use Rattle.parentheses.proofs.Ranks.{rank-suc, rank-zero}
use Rattle.containment.specs.Contents.{leads, StandsFor}

-- ---- nodes
-- the leaders of the pieces below g stand at the pieces' places
abbrev pub Turned : List ℕ → List ℕ → List ℕ → ℕ → Type 0
Turned places lead turned g = (k : ℕ) → k < g → get_or turned (get_or places k 0) 0 ≡ get_or lead k 0

-- ---- shadows
pub leads-node : (marks : List Bool) (shadows : List ℕ) (s : ℕ) → get_or marks s false ≡ false → leads marks shadows s ≡ s
unfolding leads
leads-node marks shadows s e = rw (e, leads)

pub leads-shadow : (marks : List Bool) (shadows : List ℕ) (s : ℕ) → get_or marks s false ≡ true → leads marks shadows s ≡ get_or shadows (rank marks s) 0
unfolding leads
leads-shadow marks shadows s e = rw (e, leads)

-- the places below q have been looked at, with j shadows among them
pub record Shadowed (marks : List Bool) (shadows pieces pieces' : List ℕ) (q j : ℕ) : Type 0 where
  pub count : j ≡ rank marks q
  pub before : (s : ℕ) → s < q → get_or pieces' s 0 ≡ get_or pieces (leads marks shadows s) 0
  pub after : (s : ℕ) → q ≤ s → get_or pieces' s 0 ≡ get_or pieces s 0

module _ (nodes : ℕ) (marks : List Bool) (shadows pieces : List ℕ) where
  pub shadows-none : Shadowed marks shadows pieces pieces 0 0
  shadows-none = record { count = sym (rank-zero marks); before = λ s h. absurd (omega arith); after = λ s h. refl }

  module _ {pieces' : List ℕ} {q j : ℕ} (S : Shadowed marks shadows pieces pieces' q j) where
    -- a place that is no shadow is as it was
    stays : (s : ℕ) → get_or marks s false ≡ false → get_or pieces' s 0 ≡ get_or pieces s 0
    stays s e = elim (dec_lt s q) [ yes h ↦ S.before s h ∙ ap (λ (v : ℕ). get_or pieces v 0) (leads-node marks shadows s e) | no h ↦ S.after s (omega arith) ]

    pub shadows-node : get_or marks q false ≡ false → Shadowed marks shadows pieces pieces' (q + 1) j
    shadows-node e =
        record {
          count = omega (arith, S.count, rank-suc marks q, ap num e);
          before = below_more (λ s. get_or pieces' s 0 ≡ get_or pieces (leads marks shadows s) 0) q S.before (S.after q (omega arith) ∙ ap (λ (v : ℕ). get_or pieces v 0) (sym (leads-node marks shadows q e)));
          after = λ s h. S.after s (omega arith);
        }

    pub shadows-more : (t : ℕ) → StandsFor nodes marks shadows → q < nodes → q < length pieces' → get_or marks q false ≡ true → t ≡ get_or shadows j 0
        → Shadowed marks shadows pieces (set pieces' q (get_or pieces' t 0)) (q + 1) (j + 1)
    shadows-more t F l h e is =
        record {
          count = omega (arith, S.count, rank-suc marks q, ap num e);
          before =
              below_more (λ s. get_or (set pieces' q (get_or pieces' t 0)) s 0 ≡ get_or pieces (leads marks shadows s) 0) q
              (λ s k. get_or-set_other pieces' q s _ 0 (λ z. omega arith) ∙ S.before s k)
              (get_or-set_same pieces' q _ 0 h ∙ stays t (rw tt-is (F.target q l e).1) ∙ ap (λ (v : ℕ). get_or pieces v 0) (tt-is ∙ sym (leads-shadow marks shadows q e)));
          after = λ s k. get_or-set_other pieces' q s _ 0 (λ z. omega arith) ∙ S.after s (omega arith);
        }
      where
        tt-is : t ≡ get_or shadows (rank marks q) 0
        tt-is = is ∙ ap (λ (v : ℕ). get_or shadows v 0) S.count
