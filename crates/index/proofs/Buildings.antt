-- From what the builder is given to what its steps ask, once the matrix has the joins. Assumes nothing.
use mathlib.Core.Path.{◌≡◌, sym, subst, ◌∙◌}
use mathlib.Core.Bool.{Bool}
use mathlib.Core.List.{List}
use Prim.Native.Nat.{ℕ, ◌≤◌}
use lib.ListN.{length}
use Rattle.index.specs.Pairs.{joined, Book}
use Rattle.index.specs.Index.{visits_of, Room, Indexed}
use Rattle.index.specs.Matrix.{pair_of, Buildable, Completed}
use Rattle.index.specs.Steps.{Parented, Walkable}
use Rattle.index.proofs.Joins.{completed}

module _ {n : ℕ} {m m' : List ℕ} {lb lm ls lp : ℕ} (R : Buildable n m lb lm ls lp) (C : Completed n m m') (e : length m' ≡ length m) where
  same : joined n (pair_of n m) ≡ pair_of n m'
  same = sym (completed n m m' C)

  pub walkable : {par : List ℕ} → Parented n (pair_of n m') par → Walkable n m' par lb lm ls lp
  walkable P =
      record {
        book = subst (λ (edge : ℕ → ℕ → Bool). Book n edge) same R.book;
        small = R.small;
        matrix = e ∙ R.matrix;
        parents = P.parents;
        room = subst (λ (edge : ℕ → ℕ → Bool). Room n edge lb lm ls lp) same R.room;
        few = subst (λ (edge : ℕ → ℕ → Bool). length (visits_of n edge) ≤ 65536) same R.few;
      }

  pub indexed : {parens marks shadows places : List ℕ} {nodes shadowed : ℕ} → Indexed n (pair_of n m') parens marks shadows places nodes shadowed
      → Indexed n (joined n (pair_of n m)) parens marks shadows places nodes shadowed
  indexed {parens} {marks} {shadows} {places} {nodes} {shadowed} I =
      subst (λ (edge : ℕ → ℕ → Bool). Indexed n edge parens marks shadows places nodes shadowed) (completed n m m' C) I
