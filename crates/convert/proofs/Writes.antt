-- What the converter writes, what row 14 says, and the outcome. Assumes nothing.
use Rattle.std.specs.Prelude.{Ok}
use Rattle.records.specs.Refused.{refused_at}
use Prim.Native.Nat.{ℕ, ◌+◌, ◌-◌, ◌≤◌, ◌<◌, ◌%◌, ◌/◌}
use mathlib.Core.Path.{◌≡◌, refl, sym, ap, ◌∙◌, fun_ext}
use mathlib.Core.Bool.{true, false}
use mathlib.Core.List.{List, [], ◌∷◌, append-nil}
use native.Mathlib.Omega.{arith}
use borrow.Author.Tests.{lt-ltb, le-ltb, lt-leb, le-leb}
use lib.Dec.{ltb}
use lib.ListN.{length, get_or, take, replicate, length-append}
use Rattle.lists.specs.Front.{front, placed}
use Rattle.lists.proofs.Fronts.{front-taken, placed-front}
use Rattle.rules.specs.Fact.{unmarked}
use Rattle.rules.specs.Follows.{clash}
use Rattle.rules.specs.Entries.{shortest_clash}
use Rattle.records.specs.declared.Edition.TheVariants.{Former}
use Rattle.records.specs.declared.Refusal.{Refusal}
use Rattle.records.specs.declared.Refusal.TheVariants.{ShortBuffer, Contradiction}
use Rattle.records.specs.Record.{records}
use Rattle.records.specs.Pieces.{piece_count}
use Rattle.records.specs.Facts.{entries, facts}
use Rattle.records.specs.Kept.{bytes_at, bytes_where}
use Rattle.records.specs.Check.{former_check}
use Rattle.records.proofs.Rows.{refused-positive}
use Rattle.records.proofs.Keeps.{Written, written_all, kept-fewer, kept_whole, kept-shorter}
use Rattle.records.proofs.Accepted.{accepted-by, accepted-within, accepted-positive, accepted-pieces}
use Rattle.closure.specs.Void.{void_of}
use Rattle.closure.specs.Bounded.{Bounded}
use Rattle.contradiction.specs.Settled.{Clashed}
use Rattle.closure.proofs.VoidRows.{cleared-voids}
use Rattle.contradiction.proofs.SettlingLaws.{free-beyond, clashed-within}
use Rattle.convert.specs.Converted.{no_tray, no_trays, in_whole, converted}
use Rattle.convert.specs.Writing.{FormerBook}
use Rattle.convert.specs.Conversion.{number, by_runs, by_book, conversion, left, Determined, Conversion}
use Rattle.convert.specs.Same.{InForce, SameAnswers}
use Rattle.convert.proofs.Theorems.{in-force, same-answers}

pub written-trays :
    (s l out : List ℕ) (i at : ℕ) → i ≤ records s → records s ≤ i → Written no_tray s l i out at → (at ≡ length (no_trays s)) × (out ≡ front (no_trays s) l)
unfolding no_trays
written-trays s l out i at h k w = written_all no_tray s l out i at h k w

-- a row of zeroes marks nothing
pub no-marks : void_of (replicate 32 0) ≡ unmarked
no-marks = fun_ext (cleared-voids 32)

-- every book of the former edition can be settled
pub former-bounded : (s : List ℕ) (n : ℕ) → FormerBook s n → Bounded n (facts s)
former-bounded s n e =
    let A = accepted-by Former s n e in
    record { some = accepted-positive A; fits = accepted-pieces A; within = accepted-within A }

-- ---- the bytes written

pub shorter : (s : List ℕ) → length (no_trays s) ≤ length s
unfolding no_trays
shorter s = omega (arith, kept_whole no_tray s, kept-fewer no_tray s)

module _ (s : List ℕ) (n : ℕ) (former : FormerBook s n) where
  counted : n ≡ piece_count s
  counted = (accepted-by Former s n former).count

  pub small : n ≤ 2048
  small = accepted-pieces (accepted-by Former s n former)

  -- what was written so far, read again
  pub counted-again : (l out : List ℕ) (at p : ℕ) → at ≡ length (no_trays s) → out ≡ front (no_trays s) l → p ≡ piece_count (take at out) → p ≡ piece_count (no_trays s)
  counted-again l out at p e f g = g ∙ ap piece_count (rw (e, f) (front-taken (no_trays s) l))

  pub all_named :
      (l out : List ℕ) (at p : ℕ) → at ≡ length (no_trays s) → out ≡ front (no_trays s) l → p ≡ piece_count (no_trays s) → n ≤ p
      → (at ≡ length (converted s)) × (out ≡ front (converted s) l)
  unfolding converted in_whole
  all_named l out at p e f g h =
      let c = counted in
      let q : ltb (piece_count (no_trays s)) (piece_count s) ≡ false = le-ltb (piece_count (no_trays s)) (piece_count s) (omega arith) in
      rw (q, in_whole, append-nil) (e, f)

  pub room-for-one : (p : ℕ) → p ≡ piece_count (no_trays s) → p < n → length (no_trays s) + 6 ≤ length s
  unfolding no_trays
  room-for-one p g h = let c = counted in omega (arith, kept_whole no_tray s, kept-shorter no_tray s (omega arith))

  pub one-named :
      (l out out' : List ℕ) (at at' p : ℕ) → at ≡ length (no_trays s) → out ≡ front (no_trays s) l → p ≡ piece_count (no_trays s) → p < n
      → out' ≡ placed at (bytes_where true (1 ∷ 0 ∷ (n - 1) % 256 ∷ (n - 1) / 256 ∷ 0 ∷ 0 ∷ []) 0) out
      → at' ≡ at + length (bytes_where true (1 ∷ 0 ∷ (n - 1) % 256 ∷ (n - 1) / 256 ∷ 0 ∷ 0 ∷ []) 0)
      → (at' ≡ length (converted s)) × (out' ≡ front (converted s) l)
  unfolding converted in_whole bytes_where bytes_at
  one-named l out out' at at' p e f g h x y =
      let c = counted in
      let q : ltb (piece_count (no_trays s)) (piece_count s) ≡ true = lt-ltb (piece_count (no_trays s)) (piece_count s) (omega arith) in
      rw (q, in_whole, ← c) (y ∙ rw e (sym (length-append (no_trays s) _)), x ∙ rw (e, f) (placed-front (no_trays s) _ l))

-- ---- the outcome

abbrev pub Promised : List ℕ → List ℕ → Conversion → List ℕ → Type 0
Promised s out r out' = Determined s out r out' × ((number r ≡ 0 → InForce s (converted s)) × (number r ≡ 0 → SameAnswers s (converted s)))

module _ (s out : List ℕ) where
  refused : (r : Refusal) (i : ℕ) → refused_at r i ≡ conversion s (length out) → Promised s out (refused_at r i) out
  unfolding left
  refused r i e = ((e, refl), (λ z. absurd (refused-positive r z), λ z. absurd (refused-positive r z)))

  pub by-short : length out < length s → Promised s out (refused_at ShortBuffer 0) out
  unfolding conversion
  by-short h = refused ShortBuffer 0 (rw (lt-ltb (length out) (length s) h, conversion))

  module _ (h : length s ≤ length out) where
    pub by_rows : (r : Refusal) (i : ℕ) → former_check s ≡ refused_at r i → Promised s out (refused_at r i) out
    unfolding conversion by_book
    by_rows r i e = refused r i (rw (le-ltb (length out) (length s) h, conversion, e, by_book))

    module _ (n : ℕ) (former : FormerBook s n) where
      judged : by_runs s n ≡ conversion s (length out)
      unfolding conversion by_book
      judged = rw (le-ltb (length out) (length s) h, conversion, former, by_book)

      pub by-clash : (place : ℕ) → Clashed unmarked n s place → Promised s out (refused_at Contradiction place) out
      unfolding by_runs
      by-clash place C =
          let q = C.last in
          let k : place ≡ shortest_clash unmarked n (entries s) - 1 = omega arith in
          refused Contradiction place
          (rw (le-leb (shortest_clash unmarked n (entries s)) (records s) (clashed-within s (former-bounded s n former) unmarked refl C), by_runs) (ap (refused_at Contradiction) k) ∙ judged)

      pub by-free :
          ((k : ℕ) → get_or s k 0 < 256) → false ≡ clash unmarked n (facts s) → (k : ℕ) (out' : List ℕ) → k ≡ length (converted s) → out' ≡ front (converted s) out
          → Promised s out (Ok k) out'
      unfolding by_runs left
      by-free bytes c k out' e f = (
        ((rw (lt-leb (shortest_clash unmarked n (entries s)) (records s) (free-beyond s (former-bounded s n former) unmarked refl c), by_runs) (ap Ok e)) ∙ judged, f),
        (λ z. in-force s n former bytes c, λ z. same-answers s n former bytes c),
      )
