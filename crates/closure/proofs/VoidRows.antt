-- The bits of the pieces that records mark, record by record. Assumes nothing.
use Prim.Native.Nat.{ℕ, ◌+◌, ◌*◌, ◌/◌, ◌≤◌, ◌<◌}
use mathlib.Core.Path.{◌≡◌, sym, ap, ◌∙◌, fun_ext}
use mathlib.Core.Bool.{Bool, false, false≢true, ◌||◌}
use mathlib.Core.List.{List}
use native.Mathlib.Omega.{arith}
use native.Mathlib.Decide.{ℕ_discrete, dec_lt}
use lib.ListN.{length, replicate, length-replicate, get_or-eq_default}
use Rattle.lists.proofs.Bools.{not-true}
use Rattle.matrices.specs.Matrix.{bit_of, Inserted}
use Rattle.matrices.proofs.Laws.{bit-zero}
use Rattle.matrices.proofs.Cleared.{cleared}
use Rattle.records.specs.declared.Record.{Record}
use Rattle.records.specs.declared.Edition.{Edition}
use Rattle.records.specs.Record.{record_at, records}
use Rattle.records.specs.Marked.{marks, marked_up_to, marked}
use Rattle.records.proofs.Accepted.{AcceptedBook, accepted-pieces}
use Rattle.records.proofs.Marks.{marks-from, marks-here, marks-not, marked-none, marked_more, marked-here, accepted-whole-unmarked, accepted-marks-within}
use Rattle.closure.specs.Void.{void_of, Voids, Markable}

-- an accepted book's marks fit a row
pub accepted-markable : {e : Edition} {s : List ℕ} {p : ℕ} → AcceptedBook e s p → Markable s
accepted-markable b =
    record { whole = accepted-whole-unmarked b; small = λ g h. accepted-marks-within b g (omega (arith, accepted-pieces b)) }

-- a cleared row marks nothing
pub cleared-voids : (k g : ℕ) → void_of (replicate k 0) g ≡ false
unfolding void_of
cleared-voids k g = cleared k 0 g

pub no-voids : Voids (replicate 32 0)
no-voids = record { sized = length-replicate {A = ℕ} 32 0; whole = cleared-voids 32 0 }

-- ---- one record

module _ (r : Record) (m : List ℕ) where
  pub put_other : (r.kind ≡ 6 → ⊥) → (g : ℕ) → void_of m g ≡ (marks g r || void_of m g)
  put_other n g = rw (marks-not r g n)

  pub put-mark : (m' : List ℕ) → r.kind ≡ 6 → Inserted m m' 0 r.a → (g : ℕ) → g < 2048 → void_of m' g ≡ (marks g r || void_of m g)
  unfolding void_of
  put-mark m' k I g h = pick (ℕ_discrete r.a g)
    where
      pick : Dec (r.a ≡ g) → bit_of m' 0 g ≡ (marks g r || bit_of m 0 g)
      pick (yes e) = rw (marks-here r g k e) (ap (bit_of m' 0) (sym e) ∙ I.hit)
      pick (no e) = rw (not-true (marks g r) (λ t. e (marks-from r g t).1)) (I.other 0 g h (λ z q. e (sym q)))

-- ---- the first i records

abbrev pub Marking : List ℕ → List ℕ → ℕ → Type 0
Marking s m i = (g : ℕ) → g < 2048 → void_of m g ≡ marked_up_to s i g

module _ (s : List ℕ) where
  pub marking-none : (m : List ℕ) (l : ℕ) → m ≡ replicate l 0 → Marking s m 0
  marking-none m l e g h = rw e (cleared-voids l g) ∙ sym (marked-none s g)

  pub marking-more :
      (m m' : List ℕ) (i : ℕ) (r : Record) → r ≡ record_at s i → Marking s m i → ((g : ℕ) → g < 2048 → void_of m' g ≡ (marks g r || void_of m g)) → Marking s m' (i + 1)
  marking-more m m' i r e M G g h =
      G g h ∙ ap (λ (t : Bool). marks g r || t) (M g h) ∙ ap (λ (x : Record). marks g x || marked_up_to s i g) e ∙ sym (marked_more s g i)

  -- a mark names a piece
  pub marking-asks : Markable s → (i : ℕ) (r : Record) → r ≡ record_at s i → i < records s → r.kind ≡ 6 → r.a < 2048
  marking-asks K i r e h k = pick (dec_lt r.a 2048)
    where
      pick : Dec (r.a < 2048) → r.a < 2048
      pick (yes l) = l
      pick (no l) =
          absurd
          (false≢true
          (sym (K.small r.a (omega arith))
          ∙ marked-here s r.a i h (ap (λ (x : Record). x.kind) (sym e) ∙ k) (ap (λ (x : Record). x.a) (sym e))))

  -- all of them: beyond the row nothing is marked either
  module _ (m : List ℕ) (K : Markable s) (z : length m ≡ 32) (i : ℕ) (e : i ≡ records s) (M : Marking s m i) where
    beyond : (g : ℕ) → 2048 ≤ g → void_of m g ≡ false
    unfolding void_of bit_of
    beyond g h = rw (get_or-eq_default m 0 {n = 0 * 32 + g / 64} (omega arith)) (bit-zero _)

    pub marking-all : void_of m ≡ marked s
    unfolding marked
    marking-all = fun_ext (λ g. pick g (dec_lt g 2048))
      where
        pick : (g : ℕ) → Dec (g < 2048) → void_of m g ≡ marked s g
        pick g (yes h) = M g h ∙ ap (λ (n : ℕ). marked_up_to s n g) e
        pick g (no h) = beyond g (omega arith) ∙ sym (K.small g (omega arith))

    pub marking-fits : Voids m
    marking-fits = record { sized = z; whole = ap (λ (f : ℕ → Bool). f 0) marking-all ∙ K.whole }
