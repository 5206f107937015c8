-- `components::Path::visit` meets its contract. Assumes nothing.
use mathlib.Core.Path.{◌≡◌, refl, sym, ◌∙◌}
use Prim.Native.Nat.{◌<◌, ◌-◌, ◌+◌}
use native.Mathlib.Omega.{arith}
use lib.ListN.{get_or}
use Rattle.matrices.specs.Matrix.{bit_of}
use Rattle.lists.proofs.Searches.{sought-next}
use Rattle.lists.proofs.Bounds.{nearer}
use Rattle.groups.specs.Search.{state_of}
use Rattle.groups.proofs.Fits.{below, falls_below, positive, pred-is}
use Rattle.groups.proofs.Gray.{with}
use Rattle.groups.proofs.Steps.{entered, push-room, begin, leads-on, skip-more, call-more, cut_on, stay, shut, fits, len_below, top-below, met-small, ended-small}
use Rattle.groups.proofs.components.Path.+visit.Goals as goal
use Rattle.groups.proofs.components.Path.+visit.Goals.{then-self-w-eq-NONE, else-self-w-eq-NONE+then-self-w-eq-NONE-2, else-self-w-eq-NONE+else-self-w-eq-NONE-2}

pub push-requires : goal.push-requires
push-requires t c =
    let C = c.requires in
    (omega (arith, C.piece, C.few), omega (arith, len_below _ C.few _ _ _ C, C.few), omega (arith, top-below _ C.few _ _ _ C, C.few))

pub loop-w-init : goal.loop-w-init
loop-w-init t c =
    let T = sought-next (bit_of c.args.e.now c.args.v) 0 2048 c.next_bit-w.result (omega arith) c.next_bit-w.ensures in
    (push-room _ c.requires.few c.args.e.now _ _ _ c.push.ensures c.requires.room, (T.upto, T.hit), λ small S₀ gray E. begin c.args.n small c.args.e.now S₀ gray c.args.v _ E c.next_bit-w.result c.next_bit-w.ensures)

pub visit-requires : goal.visit-requires
visit-requires t c =
    let C = c.requires in
    let L = c.loop-w in
    let l = c.loop-w-test.true in
    let E = entered _ C.few _ _ _ _ C.gray C c.push.ensures C.good C.leading in
    let W = L.invariant.2 C.few _ C.gray E in (
      falls_below _ _ _ W.fewer c.decreases,
      record {
        few = C.few;
        matrix = C.matrix;
        room = L.invariant.0;
        piece = l;
        new = c.if-self-w-eq-NONE.true;
        gray = with C.gray c.args.v;
        good = W.good;
        leading = leads-on c.args.n C.few c.args.e.now _ C.gray c.args.v _ E (state_of L.self) L.w 0 W l (L.invariant.1.1 (below _ _ l C.few));
      },
    )

pub cut-self-requires : goal.cut-self-requires
cut-self-requires t c =
    let C = c.requires in
    let W = c.loop-w.invariant.2 C.few _ C.gray (entered _ C.few _ _ _ _ C.gray C c.push.ensures C.good C.leading) in
    omega (arith, fits _ C.few _ c.loop-w.self _ W.good)

pub loop-w-smaller : goal.loop-w-smaller
loop-w-smaller t c =
    let l = c.loop-w-test.true in
    let b : c.loop-w.w < 2048 = below _ _ l c.requires.few in
    nearer _ _ _ b (sought-next (bit_of c.args.e.now c.args.v) (c.loop-w.w + 1) 2048 c.next_bit-w-in-loop-w.result (omega arith) c.next_bit-w-in-loop-w.ensures).from

pub loop-w-preserved : goal.loop-w-preserved
loop-w-preserved t c =
    let L = c.loop-w in
    let J = c.if-self-w-eq-NONE in
    let N = c.next_bit-w-in-loop-w in
    let l = c.loop-w-test.true in
    let b : L.w < 2048 = below _ _ l c.requires.few in
    let g = L.invariant.1.1 b in
    let T = sought-next (bit_of c.args.e.now c.args.v) (L.w + 1) 2048 N.result (omega arith) N.ensures in (
      elim J.branch [
        | then-self-w-eq-NONE w ↦ rw w.self-is w.visit.ensures.0
        | else-self-w-eq-NONE+then-self-w-eq-NONE-2 w ↦ rw w.self-is (record { pos-is = L.invariant.0.pos-is; done-is = L.invariant.0.done-is; pieces-are = L.invariant.0.pieces-are; bounds-are = L.invariant.0.bounds-are })
        | else-self-w-eq-NONE+else-self-w-eq-NONE-2 w ↦ rw w.self-is L.invariant.0
      ],
      (T.upto, T.hit),
      λ small S₀ gray E.
          let W = L.invariant.2 small S₀ gray E in
          let met : (get_or L.self.pos L.w 0 ≡ 2048 → ⊥) → get_or L.self.pos L.w 0 < 2048 = met-small c.args.n small c.args.e.now (state_of L.self) _ W.good L.w l in
          elim J.branch [
            | then-self-w-eq-NONE w ↦ rw w.self-is
                (call-more c.args.n small c.args.e.now S₀ gray c.args.v _ E (state_of L.self) L.w N.result W l g _ N.ensures w.if-self-w-eq-NONE.true
                (w.visit.ensures.1 _ W.good (leads-on c.args.n small c.args.e.now S₀ gray c.args.v _ E (state_of L.self) L.w 0 W l g)))
            | else-self-w-eq-NONE+then-self-w-eq-NONE-2 w ↦ rw w.self-is
                (cut_on c.args.n small c.args.e.now S₀ gray c.args.v _ E L.self.pos L.self.done L.self.pieces L.self.bounds L.self.len L.self.top L.self.count L.w N.result w.cut-self.result W l g N.ensures
                (met w.if-self-w-eq-NONE.false) w.if-self-w-eq-NONE-2.true (rw w.from.ensures at w.cut-self.ensures))
            | else-self-w-eq-NONE+else-self-w-eq-NONE-2 w ↦ rw w.self-is
                (skip-more c.args.n small c.args.e.now S₀ gray c.args.v _ E (state_of L.self) L.w N.result W l g N.ensures
                (met w.if-self-w-eq-NONE.false) (ended-small c.args.n small c.args.e.now (state_of L.self) _ W.good L.w l w.if-self-w-eq-NONE-2.false))
          ],
    )

pub overflow_sub-self : goal.overflow_sub-self
overflow_sub-self t c =
    let C = c.requires in
    let W = c.loop-w.invariant.2 C.few _ C.gray (entered _ C.few _ _ _ _ C.gray C c.push.ensures C.good C.leading) in
    (W.good.base (positive _ _ W.longer)).0

pub offset_bounds-self-self : goal.offset_bounds-self-self
offset_bounds-self-self t c =
    let C = c.requires in
    let W = c.loop-w.invariant.2 C.few _ C.gray (entered _ C.few _ _ _ _ C.gray C c.push.ensures C.good C.leading) in
    omega (arith, fits _ C.few _ c.loop-w.self _ W.good)

pub bounds-self-self : goal.bounds-self-self
bounds-self-self t c =
    let C = c.requires in
    let W = c.loop-w.invariant.2 C.few _ C.gray (entered _ C.few _ _ _ _ C.gray C c.push.ensures C.good C.leading) in
    omega (arith, fits _ C.few _ c.loop-w.self _ W.good, (W.good.base (positive _ _ W.longer)).0)

pub close-requires : goal.close-requires
close-requires t c =
    let C = c.requires in
    let W = c.loop-w.invariant.2 C.few _ C.gray (entered _ C.few _ _ _ _ C.gray C c.push.ensures C.good C.leading) in
    let F = fits _ C.few _ c.loop-w.self _ W.good in
    (omega (arith, F), omega (arith, W.longer), omega (arith, F), c.loop-w.invariant.0.done-is, record { pieces = λ i a b. below _ _ (W.good.seat i b).0 C.few })

pub overflow_sub-self-then-from-at : goal.overflow_sub-self-then-from-at
overflow_sub-self-then-from-at t c =
    let C = c.requires in
    let W = c.loop-w.invariant.2 C.few _ C.gray (entered _ C.few _ _ _ _ C.gray C c.push.ensures C.good C.leading) in
    (W.good.base (positive _ _ W.longer)).0

pub overflow_add-self : goal.overflow_add-self
overflow_add-self t c =
    let C = c.requires in
    let W = c.loop-w.invariant.2 C.few _ C.gray (entered _ C.few _ _ _ _ C.gray C c.push.ensures C.good C.leading) in
    omega (arith, fits _ C.few _ c.loop-w.self _ W.good)

pub returns-then-from-at : goal.returns-then-from-at
returns-then-from-at t c =
    let C = c.requires in
    let L = c.loop-w in
    let R = L.invariant.0 in (
      record { pos-is = R.pos-is; done-is = c.close.ensures.sized ∙ R.done-is; pieces-are = R.pieces-are; bounds-are = R.bounds-are },
      λ gray G D.
          let E = entered _ C.few _ _ _ _ gray C c.push.ensures G D in
          let W = L.invariant.2 C.few _ gray E in
          shut c.args.n C.few c.args.e.now _ gray c.args.v _ E L.self.pos L.self.done L.self.pieces L.self.bounds _ L.self.len L.self.top L.self.count L.w c.args.self.now.len W c.loop-w-test.false (W.good.base (positive _ _ W.longer)).0 refl
          (sym c.from-2.ensures ∙ c.if-from-at.true) c.close.ensures,
    )

pub returns-else-from-at : goal.returns-else-from-at
returns-else-from-at t c =
    let C = c.requires in
    let L = c.loop-w in (
      L.invariant.0,
      λ gray G D.
          let E = entered _ C.few _ _ _ _ gray C c.push.ensures G D in
          let W = L.invariant.2 C.few _ gray E in
          stay c.args.n C.few c.args.e.now _ gray c.args.v _ E (state_of L.self) L.w W c.loop-w-test.false (L.self.top - 1) (pred-is _ (W.good.base (positive _ _ W.longer)).0) (λ q. c.if-from-at.false (c.from-2.ensures ∙ q)),
    )
