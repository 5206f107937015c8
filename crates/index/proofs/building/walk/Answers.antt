-- `building::walk` meets its contract: each turn enters a part of c or leaves c, and writes what that asks.
-- Assumes nothing.
use mathlib.Core.Path.{refl, sym, ◌∙◌}
use native.Mathlib.Omega.{arith}
use Rattle.index.proofs.Fits.{count_small, fits_one, fits-twice}
use Rattle.index.proofs.Walking.{given, resized, stepping, start-room, walk_start, walk-room, walk-less, walk-node, mark-room, shadow-less, walk-shadow, leave_room, leave-less, walk-leave, walk_end}
use Rattle.index.proofs.building.walk.Goals as goal

pub put-requires : goal.put-requires
put-requires c = let s = c.requires in start-room (given s.0) refl refl refl refl s.1 s.2 s.3 s.4

pub loop-from-init : goal.loop-from-init
loop-from-init c =
    let s = c.requires in
    let d = c.put.auto.bytes in
    let W = resized s.0 d refl refl refl in
    (W, walk_start (given W) (sym d) refl refl refl s.1 s.2 s.3 s.4 (record { same = d; bit = c.put.ensures }))

pub put-requires-then-p-n : goal.put-requires-then-p-n
put-requires-then-p-n c =
    let L = c.loop-from in
    let R = given L.invariant.0 in
    let N = stepping L.invariant.0 L.invariant.1 c.next_bit-p.ensures in
    (walk-room R L.invariant.1 N c.if-p-n.true).1

pub overflow_cast-places : goal.overflow_cast-places
overflow_cast-places c =
    let L = c.loop-from in
    let R = given L.invariant.0 in
    let N = stepping L.invariant.0 L.invariant.1 c.next_bit-p.ensures in
    omega (arith, (walk-room R L.invariant.1 N c.if-p-n.true).2)

pub overflow_add-at : goal.overflow_add-at
overflow_add-at c =
    let L = c.loop-from in
    let R = given L.invariant.0 in
    let N = stepping L.invariant.0 L.invariant.1 c.next_bit-p.ensures in
    fits_one _ (walk-room R L.invariant.1 N c.if-p-n.true).0

pub overflow_add-k : goal.overflow_add-k
overflow_add-k c =
    let L = c.loop-from in
    let R = given L.invariant.0 in
    let N = stepping L.invariant.0 L.invariant.1 c.next_bit-p.ensures in
    fits_one _ (count_small _ (walk-room R L.invariant.1 N c.if-p-n.true).2)

pub loop-from-smaller-then-from-c : goal.loop-from-smaller-then-from-c
loop-from-smaller-then-from-c c =
    let L = c.loop-from in
    let R = given L.invariant.0 in
    let N = stepping L.invariant.0 L.invariant.1 c.next_bit-p.ensures in
    walk-less R L.invariant.1 N c.if-p-n.true (sym c.from.ensures ∙ c.if-from-c.true)

pub loop-from-preserved-then-from-c : goal.loop-from-preserved-then-from-c
loop-from-preserved-then-from-c c =
    let L = c.loop-from in
    let R = given L.invariant.0 in
    let N = stepping L.invariant.0 L.invariant.1 c.next_bit-p.ensures in
    (L.invariant.0, (walk-node R L.invariant.1 N c.if-p-n.true (sym c.from.ensures ∙ c.if-from-c.true) (record { same = c.put-then-p-n.auto.bytes; bit = c.put-then-p-n.ensures })))

pub put-requires-else-from-c : goal.put-requires-else-from-c
put-requires-else-from-c c =
    let L = c.loop-from in
    let R = given L.invariant.0 in
    let N = stepping L.invariant.0 L.invariant.1 c.next_bit-p.ensures in
    (mark-room R L.invariant.1 N c.if-p-n.true (λ x. c.if-from-c.false (c.from.ensures ∙ x))).0

pub offset_bounds-shadows-m : goal.offset_bounds-shadows-m
offset_bounds-shadows-m c =
    let L = c.loop-from in
    let R = given L.invariant.0 in
    let N = stepping L.invariant.0 L.invariant.1 c.next_bit-p.ensures in
    fits-twice _ (count_small _ (mark-room R L.invariant.1 N c.if-p-n.true (λ x. c.if-from-c.false (c.from.ensures ∙ x))).2)

pub bounds-shadows-m : goal.bounds-shadows-m
bounds-shadows-m c =
    let L = c.loop-from in
    let R = given L.invariant.0 in
    let N = stepping L.invariant.0 L.invariant.1 c.next_bit-p.ensures in
    (mark-room R L.invariant.1 N c.if-p-n.true (λ x. c.if-from-c.false (c.from.ensures ∙ x))).1

pub overflow_add-at-else-from-c : goal.overflow_add-at-else-from-c
overflow_add-at-else-from-c c =
    let L = c.loop-from in
    let R = given L.invariant.0 in
    let N = stepping L.invariant.0 L.invariant.1 c.next_bit-p.ensures in
    omega (arith, (walk-room R L.invariant.1 N c.if-p-n.true).0)

pub overflow_add-k-else-from-c : goal.overflow_add-k-else-from-c
overflow_add-k-else-from-c c =
    let L = c.loop-from in
    let R = given L.invariant.0 in
    let N = stepping L.invariant.0 L.invariant.1 c.next_bit-p.ensures in
    fits_one _ (count_small _ (walk-room R L.invariant.1 N c.if-p-n.true).2)

pub overflow_add-m : goal.overflow_add-m
overflow_add-m c =
    let L = c.loop-from in
    let R = given L.invariant.0 in
    let N = stepping L.invariant.0 L.invariant.1 c.next_bit-p.ensures in
    fits_one _ (count_small _ (mark-room R L.invariant.1 N c.if-p-n.true (λ x. c.if-from-c.false (c.from.ensures ∙ x))).2)

pub loop-from-smaller-else-from-c : goal.loop-from-smaller-else-from-c
loop-from-smaller-else-from-c c =
    let L = c.loop-from in
    let R = given L.invariant.0 in
    let N = stepping L.invariant.0 L.invariant.1 c.next_bit-p.ensures in
    shadow-less R L.invariant.1 N c.if-p-n.true (λ x. c.if-from-c.false (c.from.ensures ∙ x))

pub loop-from-preserved-else-from-c : goal.loop-from-preserved-else-from-c
loop-from-preserved-else-from-c c =
    let L = c.loop-from in
    let R = given L.invariant.0 in
    let N = stepping L.invariant.0 L.invariant.1 c.next_bit-p.ensures in
    (L.invariant.0, (walk-shadow R L.invariant.1 N c.if-p-n.true (λ x. c.if-from-c.false (c.from.ensures ∙ x)) (record { same = c.put-then-p-n.auto.bytes; bit = c.put-then-p-n.ensures }) (record { same = c.put-else-from-c.auto.bytes; bit = c.put-else-from-c.ensures })))

pub returns-then-c-eq0 : goal.returns-then-c-eq0
returns-then-c-eq0 c =
    let L = c.loop-from in
    let R = given L.invariant.0 in
    let N = stepping L.invariant.0 L.invariant.1 c.next_bit-p.ensures in
    walk_end R L.invariant.1 N c.if-p-n.false c.if-c-eq0.true

pub overflow_add-at-else-p-n : goal.overflow_add-at-else-p-n
overflow_add-at-else-p-n c =
    let L = c.loop-from in
    let R = given L.invariant.0 in
    let N = stepping L.invariant.0 L.invariant.1 c.next_bit-p.ensures in
    fits_one _ (leave_room R L.invariant.1 N c.if-p-n.false c.if-c-eq0.false)

pub loop-from-smaller : goal.loop-from-smaller
loop-from-smaller c =
    let L = c.loop-from in
    let R = given L.invariant.0 in
    let N = stepping L.invariant.0 L.invariant.1 c.next_bit-p.ensures in
    rw c.from-else-p-n.ensures (leave-less R L.invariant.1 N c.if-p-n.false c.if-c-eq0.false)

pub loop-from-preserved : goal.loop-from-preserved
loop-from-preserved c =
    let L = c.loop-from in
    let R = given L.invariant.0 in
    let N = stepping L.invariant.0 L.invariant.1 c.next_bit-p.ensures in
    (L.invariant.0, rw c.from-else-p-n.ensures (walk-leave R L.invariant.1 N c.if-p-n.false c.if-c-eq0.false))
