-- The records of a converted book: those of the former one that are no TRAY records, in their order, and at most one more. Assumes nothing.
use Prim.Native.Nat.{ℕ, ◌+◌, ◌-◌, ◌*◌, ◌≤◌, ◌<◌}
use mathlib.Core.Path.{◌≡◌, refl, sym, ap, ◌∙◌}
use mathlib.Core.Logic.{◌⊎◌, inl, inr}
use mathlib.Core.Bool.{Bool, true, false, false≢true, not, ◌||◌}
use mathlib.Core.List.{List, ◌++◌, append-nil}
use native.Mathlib.Omega.{arith}
use native.Mathlib.Decide.{ℕ_discrete}
use borrow.Author.Tests.{ltb-true, ltb-false, leb-true, ne_eqb}
use lib.Dec.{eqb, ltb, leb}
use lib.ListN.{length, get_or, length-append}
use Rattle.lists.proofs.Bools.{Known, is_true, is_false, known, and_both}
use Rattle.records.specs.declared.Record.{Record}
use Rattle.records.specs.declared.Edition.TheVariants.{Former}
use Rattle.records.specs.Record.{record_at, records}
use Rattle.records.specs.Pieces.{stated, largest, piece_count}
use Rattle.records.specs.Rows.{admitted}
use Rattle.records.specs.Kept.{bytes_at, kept}
use Rattle.records.proofs.Rows.{both-largest}
use Rattle.records.proofs.Runs.{pieces-positive, pieces-cover, pieces-least}
use Rattle.records.proofs.Keeps.{bytes-length, record-before, record-behind, record-there, records-from, kept-records, kept-fewer, kept_whole, kept_from, kept-shorter}
use Rattle.records.proofs.Accepted.{AcceptedBook, accepted-once}
use Rattle.convert.specs.Converted.{no_tray, no_trays, in_whole, converted}

-- a record that states a fact is no TRAY record
pub spoken : (r : Record) → stated r ≡ true → no_tray r ≡ true
unfolding stated
spoken r t = let b = and_both (leb 1 r.kind) (leb r.kind 4) t in rw (ne_eqb r.kind 5 (λ e. omega (arith, leb-true r.kind 4 b.1)))

-- and one of the former edition that is no TRAY record states a fact
pub speaks : (r : Record) → admitted Former r ≡ true → no_tray r ≡ true → stated r ≡ true
unfolding admitted
speaks r t n = pick (stated r) (eqb r.kind 5) t n
  where
    pick : (a b : Bool) → (a || b) ≡ true → not b ≡ true → a ≡ true
    pick true b t n = refl
    pick false true t n = absurd (false≢true n)
    pick false false t n = absurd (false≢true t)

-- ---- the record that is added

abbrev last : ℕ → List ℕ
last m = in_whole true m

last-long : (m : ℕ) → 6 * 0 + 6 ≤ length (last m)
unfolding in_whole
last-long m = omega arith

pub record Last (m : ℕ) (r : Record) : Type 0 where
  pub kind : r.kind ≡ 1
  pub origin : r.origin ≡ 0
  pub a : r.a ≡ m
  pub b : r.b ≡ 0

last-is : (m : ℕ) → Last m (record_at (last m) 0)
unfolding in_whole record_at
last-is m = record { kind = refl; origin = refl; a = omega arith; b = refl }

pub last-stated : {m : ℕ} (r : Record) → Last m r → stated r ≡ true
unfolding stated
last-stated r L = rw L.kind

pub last-largest : (m : ℕ) (r : Record) → Last m r → largest r ≡ m
last-largest m r L = let x = L.a in let y = L.b in omega (arith, both-largest r (last-stated r L))

-- ---- the new book's records, where t is the new book

abbrev pub From : List ℕ → List ℕ → ℕ → Type 0
From s t j =
    ((i : ℕ) × (i < records s) × (no_tray (record_at s i) ≡ true) × (record_at t j ≡ record_at s i))
    ⊎ ((piece_count (no_trays s) < piece_count s) × Last (piece_count s - 1) (record_at t j))

abbrev pub There : List ℕ → List ℕ → ℕ → Type 0
There s t i = (j : ℕ) × (j < records t) × (record_at t j ≡ record_at s i)

pub record Made (s t : List ℕ) : Type 0 where
  pub whole : length t ≡ 6 * records t
  pub few : records t ≤ records s
  pub from : (j : ℕ) → j < records t → From s t j
  pub there : (i : ℕ) → i < records s → stated (record_at s i) ≡ true → There s t i
  pub once : (i j : ℕ) → i < records t → j < i → record_at t i ≡ record_at t j → ⊥
  pub count : piece_count t ≡ piece_count s

module _ (s : List ℕ) {n : ℕ} (A : AcceptedBook Former s n) (bytes : (k : ℕ) → get_or s k 0 < 256) where
  abbrev t₀ : List ℕ
  t₀ = kept no_tray s

  there-kept : (i : ℕ) → i < records s → stated (record_at s i) ≡ true → There s t₀ i
  there-kept i l d =
      let b = record-there no_tray s (records s) (omega arith) i l (spoken (record_at s i) d) in
      (b.0, omega (arith, b.1, kept-records no_tray s), b.2)

  once-kept : (i j : ℕ) → i < records t₀ → j < i → record_at t₀ i ≡ record_at t₀ j → ⊥
  once-kept i j l k e =
      let r = records-from no_tray s (records s) (omega arith) j i k (omega (arith, kept-records no_tray s)) in
      let q = accepted-once A bytes r.1 r.0 r.3 (omega (arith, r.2, r.3)) (sym r.5 ∙ e ∙ r.4) in
      omega (arith, r.2)

  from-least : (t : List ℕ) → ((j : ℕ) → j < records t → From s t j) → piece_count t ≤ piece_count s
  from-least t from = pieces-least t (records t) (piece_count s) (pieces-positive s (records s)) (λ j l. pick j (from j l))
    where
      pick : (j : ℕ) → From s t j → largest (record_at t j) < piece_count s
      pick j (inl (i, l, p, e)) = omega (arith, ap largest e, pieces-cover s (records s) i l)
      pick j (inr (h, L)) = omega (arith, last-largest _ _ L)

  -- where no piece is lost
  made_kept : piece_count s ≤ piece_count t₀ → Made s t₀
  made_kept h =
      let from : (j : ℕ) → j < records t₀ → From s t₀ j = λ j l. inl (kept_from no_tray s j l) in
      record {
        whole = kept_whole no_tray s;
        few = kept-fewer no_tray s;
        from = from;
        there = there-kept;
        once = once-kept;
        count = omega (arith, from-least t₀ from);
      }

  -- where one record is added
  module _ (h : piece_count t₀ < piece_count s) where
    abbrev m : ℕ
    m = piece_count s - 1

    abbrev t₁ : List ℕ
    t₁ = t₀ ++ bytes_at (last m) 0

    long : length t₁ ≡ 6 * records t₀ + 6
    long = length-append t₀ (bytes_at (last m) 0) ∙ omega (arith, bytes-length (last m) 0 (last-long m), kept_whole no_tray s)

    before : (j : ℕ) → j < records t₀ → record_at t₁ j ≡ record_at t₀ j
    before j l = record-before t₀ (last m) (records t₀) 0 (kept_whole no_tray s) (last-long m) j l

    behind : record_at t₁ (records t₀) ≡ record_at (last m) 0
    behind = record-behind t₀ (last m) (records t₀) 0 (kept_whole no_tray s) (last-long m)

    ends : Last m (record_at t₁ (records t₀))
    ends = rw behind (last-is m)

    from_more : (j : ℕ) → j < records t₁ → From s t₁ j
    unfolding no_trays
    from_more j l = pick (ℕ_discrete j (records t₀))
      where
        pick : Dec (j ≡ records t₀) → From s t₁ j
        pick (yes q) = inr (h, rw q ends)
        pick (no q) = let d : j < records t₀ = omega (arith, long) in let r = kept_from no_tray s j d in inl (r.0, r.1, r.2, before j d ∙ r.3)

    once_more : (i j : ℕ) → i < records t₁ → j < i → record_at t₁ i ≡ record_at t₁ j → ⊥
    once_more i j l k e = pick (ℕ_discrete i (records t₀))
      where
        pick : Dec (i ≡ records t₀) → ⊥
        pick (yes q) =
            let f : record_at t₁ (records t₀) ≡ record_at t₀ j = ap (record_at t₁) (sym q) ∙ e ∙ before j (omega arith) in
            omega (arith, ap largest f, last-largest m _ ends, pieces-cover t₀ (records t₀) j (omega arith))
        pick (no q) =
            let d : i < records t₀ = omega (arith, long) in
            once-kept i j d k (sym (before i d) ∙ e ∙ before j (omega arith))

    made_more : Made s t₁
    made_more =
        record {
          whole = omega (arith, long);
          few = omega (arith, long, kept-shorter no_tray s h);
          from = from_more;
          there = λ i l d. let r = there-kept i l d in (r.0, omega (arith, r.1, long), before r.0 r.1 ∙ r.2);
          once = once_more;
          count = omega (arith, from-least t₁ from_more, last-largest m _ ends, pieces-cover t₁ (records t₁) (records t₀) (omega (arith, long)));
        }

  pub made : Made s (converted s)
  unfolding converted no_trays in_whole bytes_at
  made = pick (known (ltb (piece_count t₀) (piece_count s)))
    where
      pick : Known (ltb (piece_count t₀) (piece_count s)) → Made s (converted s)
      pick (is_true e) = rw (e, in_whole) (made_more (ltb-true _ _ e))
      pick (is_false e) = rw (e, in_whole, append-nil) (made_kept (ltb-false _ _ e))
