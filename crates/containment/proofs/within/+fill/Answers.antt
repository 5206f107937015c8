-- `within::fill` meets its contract: by how many rows are not filled. Assumes nothing.
use native.Mathlib.Omega.{arith}
use mathlib.Core.List.{List, ◌∷◌}
use mathlib.Core.Path.{◌≡◌, sym, ◌∙◌}
use Prim.Native.Nat.{ℕ, ◌<◌}
use lib.ListN.{length}
use Rattle.containment.specs.Filling.{Setting, From}
use Rattle.containment.proofs.Rows.{Started, started, Walking, Part, place-small-at, begin, uncover, small, leading, from-it, more, done, fewer}
use Rattle.containment.proofs.within.+fill.Goals as goal

pub bounds-ends-place : goal.bounds-ends-place
bounds-ends-place t c =
    let setting : Setting c.args.places.now c.args.ends.now c.args.turned.now = c.requires.1.setting in
    let in-ends : c.place_of-place.result.0 < length c.args.ends.now = place-small-at setting c.args.h.0 c.requires.1.below c.place_of-place.result.0 c.place_of-place.ensures in
    in-ends

pub loop-q-init : goal.loop-q-init
loop-q-init t c = (c.insert.auto.m ∙ c.requires.0, λ s l S. begin s _ l _ _ _ c.place_of-place.ensures c.from.ensures S)

pub bounds-turned-q : goal.bounds-turned-q
bounds-turned-q t c =
    let setting : Setting c.args.places.now c.args.ends.now c.args.turned.now = c.requires.1.setting in
    let begun : (s : Setting c.args.places.now c.args.ends.now c.args.turned.now) (l : c.args.h.0 < s.n)
    → From s c.args.rows.now c.args.h.0 → s.leader (s.number c.args.h.0) ≡ c.args.h.0 → Started s c.args.h.0 l c.insert.new.m = λ s. λ l. λ F. λ d. started s c.args.h.0 l c.args.rows.now c.insert.new.m F d c.insert.ensures in
    let walk : Walking setting c.args.h.0 c.requires.1.below c.insert.new.m c.loop-q.rows c.from.result c.loop-q.q.0 = c.loop-q.invariant.1 setting c.requires.1.below (begun _ _ c.requires.1.from c.requires.1.leads) in
    let part_at : (x : ℕ) × (xs : List ℕ) × (walk.todo ≡ x ∷ xs) × Part setting c.args.h.0 c.requires.1.below c.loop-q.q.0 x xs walk.deep = uncover _ _ _ walk c.loop-q-test.true in
    part_at.3.in-turned

pub fill-requires : goal.fill-requires
fill-requires t c =
    let setting : Setting c.args.places.now c.args.ends.now c.args.turned.now = c.requires.1.setting in
    let begun : (s : Setting c.args.places.now c.args.ends.now c.args.turned.now) (l : c.args.h.0 < s.n)
    → From s c.args.rows.now c.args.h.0 → s.leader (s.number c.args.h.0) ≡ c.args.h.0 → Started s c.args.h.0 l c.insert.new.m = λ s. λ l. λ F. λ d. started s c.args.h.0 l c.args.rows.now c.insert.new.m F d c.insert.ensures in
    let walk : Walking setting c.args.h.0 c.requires.1.below c.insert.new.m c.loop-q.rows c.from.result c.loop-q.q.0 = c.loop-q.invariant.1 setting c.requires.1.below (begun _ _ c.requires.1.from c.requires.1.leads) in
    let w = walk in
    let b = c.loop-q-test.true in
    let is = c.from-in-loop-q.ensures in (
      omega (arith, fewer _ _ _ w c.args.rows.now (sym c.test.ensures ∙ c.if-test.false) c.insert.ensures, c.decreases),
      (c.loop-q.invariant.0, record { setting = setting; below = small _ _ _ w b is; leads = leading _ _ _ w b is; from = from-it _ _ _ w b is }),
    )

pub union_within-requires : goal.union_within-requires
union_within-requires t c =
    let setting : Setting c.args.places.now c.args.ends.now c.args.turned.now = c.requires.1.setting in
    let in_rows : c.args.h.0 < 2048 = omega (arith, c.requires.1.below, setting.few) in
    let begun : (s : Setting c.args.places.now c.args.ends.now c.args.turned.now) (l : c.args.h.0 < s.n)
    → From s c.args.rows.now c.args.h.0 → s.leader (s.number c.args.h.0) ≡ c.args.h.0 → Started s c.args.h.0 l c.insert.new.m = λ s. λ l. λ F. λ d. started s c.args.h.0 l c.args.rows.now c.insert.new.m F d c.insert.ensures in
    let walk : Walking setting c.args.h.0 c.requires.1.below c.insert.new.m c.loop-q.rows c.from.result c.loop-q.q.0 = c.loop-q.invariant.1 setting c.requires.1.below (begun _ _ c.requires.1.from c.requires.1.leads) in
    (c.fill.auto.rows ∙ c.loop-q.invariant.0, in_rows, omega (arith, small _ _ _ walk c.loop-q-test.true c.from-in-loop-q.ensures, setting.few))

pub bounds-ends-q : goal.bounds-ends-q
bounds-ends-q t c =
    let setting : Setting c.args.places.now c.args.ends.now c.args.turned.now = c.requires.1.setting in
    let begun : (s : Setting c.args.places.now c.args.ends.now c.args.turned.now) (l : c.args.h.0 < s.n)
    → From s c.args.rows.now c.args.h.0 → s.leader (s.number c.args.h.0) ≡ c.args.h.0 → Started s c.args.h.0 l c.insert.new.m = λ s. λ l. λ F. λ d. started s c.args.h.0 l c.args.rows.now c.insert.new.m F d c.insert.ensures in
    let walk : Walking setting c.args.h.0 c.requires.1.below c.insert.new.m c.loop-q.rows c.from.result c.loop-q.q.0 = c.loop-q.invariant.1 setting c.requires.1.below (begun _ _ c.requires.1.from c.requires.1.leads) in
    let part_at : (x : ℕ) × (xs : List ℕ) × (walk.todo ≡ x ∷ xs) × Part setting c.args.h.0 c.requires.1.below c.loop-q.q.0 x xs walk.deep = uncover _ _ _ walk c.loop-q-test.true in
    part_at.3.in-ends

pub loop-q-smaller : goal.loop-q-smaller
loop-q-smaller t c =
    let setting : Setting c.args.places.now c.args.ends.now c.args.turned.now = c.requires.1.setting in
    let begun : (s : Setting c.args.places.now c.args.ends.now c.args.turned.now) (l : c.args.h.0 < s.n)
    → From s c.args.rows.now c.args.h.0 → s.leader (s.number c.args.h.0) ≡ c.args.h.0 → Started s c.args.h.0 l c.insert.new.m = λ s. λ l. λ F. λ d. started s c.args.h.0 l c.args.rows.now c.insert.new.m F d c.insert.ensures in
    let walk : Walking setting c.args.h.0 c.requires.1.below c.insert.new.m c.loop-q.rows c.from.result c.loop-q.q.0 = c.loop-q.invariant.1 setting c.requires.1.below (begun _ _ c.requires.1.from c.requires.1.leads) in
    let part_at : (x : ℕ) × (xs : List ℕ) × (walk.todo ≡ x ∷ xs) × Part setting c.args.h.0 c.requires.1.below c.loop-q.q.0 x xs walk.deep = uncover _ _ _ walk c.loop-q-test.true in
    omega (arith, c.loop-q-test.true, part_at.3.forth, c.from-in-loop-q-2.ensures, part_at.3.end_is)

pub loop-q-preserved : goal.loop-q-preserved
loop-q-preserved t c =
    let b = c.loop-q-test.true in
    let is = c.from-in-loop-q.ensures in (
      c.union_within.auto.m ∙ c.fill.auto.rows ∙ c.loop-q.invariant.0,
      λ s k S.
          let w = c.loop-q.invariant.1 s k S in
          more s _ k w b is (c.fill.ensures s (from-it s _ k w b is) (small s _ k w b is) (leading s _ k w b is)) c.union_within.ensures _ c.from-in-loop-q-2.ensures,
    )

pub returns : goal.returns
returns t c =
    let begun : (s : Setting c.args.places.now c.args.ends.now c.args.turned.now) (l : c.args.h.0 < s.n)
    → From s c.args.rows.now c.args.h.0 → s.leader (s.number c.args.h.0) ≡ c.args.h.0 → Started s c.args.h.0 l c.insert.new.m = λ s. λ l. λ F. λ d. started s c.args.h.0 l c.args.rows.now c.insert.new.m F d c.insert.ensures in
    λ s F k d. done s _ k (c.loop-q.invariant.1 s k (begun s k F d)) _ (omega arith) c.insert.ensures
