-- The stored facts of one kind put into a matrix, record by record. Assumes nothing.
use Prim.Native.Nat.{ℕ, ◌+◌, ◌<◌, ◌≤◌}
use mathlib.Core.Path.{◌≡◌, sym, ap, ◌∙◌}
use mathlib.Core.Bool.{Bool, ◌&&◌, ◌||◌, or_comm}
use mathlib.Core.List.{List}
use native.Mathlib.Numerals.{add-one}
use native.Mathlib.Omega.{arith}
use lib.Dec.{eqb}
use lib.ListN.{length}
use Rattle.lists.specs.Any.{any_below}
use Rattle.matrices.specs.Matrix.{bit_of, Blank}
use Rattle.rules.specs.Fact.{AllWithin}
use Rattle.rules.specs.Follows.{storing}
use Rattle.records.specs.Record.{record_at, records}
use Rattle.records.specs.declared.Record.{Record}
use Rattle.records.specs.Facts.{facts}
use Rattle.closure.specs.Closed.{Grown, Holds}
use Rattle.closure.proofs.Runs.{hits, storing-records, record-within}

-- whether a fact of the pieces a and b sets bit y of row x
abbrev pub sets : Bool → Bool → ℕ → ℕ → ℕ → ℕ → Bool
sets straight swapped x y a b = (straight && (eqb a x && eqb b y)) || (swapped && (eqb a y && eqb b x))

-- m has the bits that the first i records set, in its rows below n
pub record Storing (n : ℕ) (s : List ℕ) (k : ℕ) (test : ℕ → ℕ → ℕ → ℕ → Bool) (m : List ℕ) (i : ℕ) : Type 0 where
  pub bits : (x y : ℕ) → x < n → y < 2048 → bit_of m x y ≡ any_below (hits s k (test x y)) i

-- a record of the kind names pieces
pub storing-asks :
    (s : List ℕ) (k n : ℕ) → AllWithin n (facts s) → 1 ≤ k → k ≤ 4 → (i : ℕ) (r : Record) → r ≡ record_at s i → i < records s → r.kind ≡ k → (r.a < n) × (r.b < n)
storing-asks s k n w l h i r e li q =
    let q' : (record_at s i).kind ≡ k = sym (ap (λ (r : Record). r.kind) e) ∙ q in
    let b = record-within s n w i li (omega arith) (omega arith) in
    rw e b

module _ (n : ℕ) (s : List ℕ) (k : ℕ) (test : ℕ → ℕ → ℕ → ℕ → Bool) where
  pub storing-none : (m : List ℕ) → Blank n m → Storing n s k test m 0
  unfolding any_below
  storing-none m C = record { bits = C.bits }

  pub storing-more :
      (m m' : List ℕ) (i : ℕ) (r : Record) → n ≤ 2048 → r ≡ record_at s i → Storing n s k test m i
      → Grown m m' (λ x y. eqb r.kind k && test x y r.a r.b) → Storing n s k test m' (i + 1)
  unfolding any_below hits
  storing-more m m' i r few e S G =
      record {
        bits = λ x y l h.
            G.bits x y (omega arith) h ∙ ap (λ (r : Record). bit_of m x y || (eqb r.kind k && test x y r.a r.b)) e
            ∙ ap (λ (t : Bool). t || hits s k (test x y) i) (S.bits x y l h)
            ∙ or_comm (any_below (hits s k (test x y)) i) (hits s k (test x y) i)
            ∙ sym (ap (any_below (hits s k (test x y))) (add-one i));
      }

  pub storing-all : (m : List ℕ) (i : ℕ) → 1 ≤ k → k ≤ 4 → length m ≡ 65536 → i ≡ records s → Storing n s k test m i → Holds n m (λ x y. storing (facts s) k (test x y))
  storing-all m i l h z e S =
      record {
        sized = z;
        bits = λ x y lx ly. S.bits x y lx ly ∙ ap (any_below (hits s k (test x y))) e ∙ sym (storing-records s k (test x y) l h);
      }
