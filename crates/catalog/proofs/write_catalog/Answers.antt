-- `catalog::write_catalog` meets its contract. Assumes nothing.
use Rattle.std.proofs.lemmas.Result.{err_from_is_err_and}
use mathlib.Core.Path.{◌≡◌, sym, ◌∙◌}
use mathlib.Core.Bool.{Bool, ◌||◌}
use mathlib.Core.List.{[]}
use lib.Dec.{ltb}
use lib.ListN.{length}
use lib.Seq.{length-take-le, length_front}
use Rattle.outcomes.specs.Lent.{short_lent}
use Rattle.outcomes.specs.Lent as lending
use Rattle.answers.proofs.Calls.{long}
use Rattle.catalog.specs.Lent.{Lent, lent, short_catalog}
use Rattle.catalog.proofs.Calls.{passed-asked, short-refused, catalog-refused, rows-refused, ready, determined}
use Rattle.catalog.proofs.write_catalog.Goals as goal

-- what the two tests of lengths say of the buffers as a whole
index-told :
    (i : lending.Lent) {b v : Bool} → b ≡ (ltb (length i.parens) 2560 || (ltb (length i.marks) 1280 || (ltb (length i.shadows) 8192 || (ltb (length i.places) 2048 || ltb (length i.answers) 0))))
    → b ≡ v → short_lent [] i ≡ v
unfolding short_lent
index-told i e t = sym e ∙ t

catalog-told :
    (l : Lent) {b v : Bool} → b ≡ (ltb (length l.list) 2048 || (ltb (length l.meets) 16384 || (ltb (length l.apart) 16384 || ltb (length l.notpart) 16384)))
    → b ≡ v → short_catalog l ≡ v
unfolding short_catalog
catalog-told l e t = sym e ∙ t

pub returns-then-short : goal.returns-then-short
returns-then-short c =
    let A = c.args in
    let l = lent A.parens.now A.marks.now A.shadows.now A.places.now A.list.now A.meets.now A.apart.now A.notpart.now in
    rw c.at.ensures (short-refused _ _ _ l (index-told l.index c.short.ensures c.if-short.true))

pub returns-then-short-2 : goal.returns-then-short-2
returns-then-short-2 c =
    let A = c.args in
    let l = lent A.parens.now A.marks.now A.shadows.now A.places.now A.list.now A.meets.now A.apart.now A.notpart.now in
    rw c.at-then-short-2.ensures (catalog-refused _ _ _ l (index-told l.index c.short.ensures c.if-short.false) (catalog-told l c.short-2.ensures c.if-short-2.true))

pub slice_bounds-judge-end-2 : goal.slice_bounds-judge-end-2
slice_bounds-judge-end-2 c =
    let A = c.args in
    let i = lending.lent A.parens.now A.marks.now A.shadows.now A.places.now [] in
    sym (length-take-le 2560 A.parens.now (long [] i (index-told i c.short.ensures c.if-short.false)).parens)

pub slice_bounds-judge-end-4 : goal.slice_bounds-judge-end-4
slice_bounds-judge-end-4 c =
    let A = c.args in
    let i = lending.lent A.parens.now A.marks.now A.shadows.now A.places.now [] in
    sym (length-take-le 1280 A.marks.now (long [] i (index-told i c.short.ensures c.if-short.false)).marks)

pub slice_bounds-judge-end-6 : goal.slice_bounds-judge-end-6
slice_bounds-judge-end-6 c =
    let A = c.args in
    let i = lending.lent A.parens.now A.marks.now A.shadows.now A.places.now [] in
    sym (length-take-le 8192 A.shadows.now (long [] i (index-told i c.short.ensures c.if-short.false)).shadows)

pub slice_bounds-judge-end-8 : goal.slice_bounds-judge-end-8
slice_bounds-judge-end-8 c =
    let A = c.args in
    let i = lending.lent A.parens.now A.marks.now A.shadows.now A.places.now [] in
    sym (length-take-le 2048 A.places.now (long [] i (index-told i c.short.ensures c.if-short.false)).places)

pub judge-requires : goal.judge-requires
judge-requires c =
    let A = c.args in
    let l = lent A.parens.now A.marks.now A.shadows.now A.places.now A.list.now A.meets.now A.apart.now A.notpart.now in
    let w = passed-asked _ _ _ (sym c.in_ok-n.ensures) in
    (w.1, ready _ A.kind A.g l (index-told l.index c.short.ensures c.if-short.false) (catalog-told l c.short-2.ensures c.if-short-2.false) w.0)

pub returns-in_err-n : goal.returns-in_err-n
returns-in_err-n c =
    let A = c.args in
    let l = lent A.parens.now A.marks.now A.shadows.now A.places.now A.list.now A.meets.now A.apart.now A.notpart.now in
    let e = err_from_is_err_and c.from_residual.result c.from_residual.ensures.1 in
    rw (e.1, e.2) (rows-refused _ _ _ l (index-told l.index c.short.ensures c.if-short.false) (catalog-told l c.short-2.ensures c.if-short-2.false) (sym c.in_err-n.ensures))

pub returns : goal.returns
returns c =
    let A = c.args in
    let l = lent A.parens.now A.marks.now A.shadows.now A.places.now A.list.now A.meets.now A.apart.now A.notpart.now in
    let w = passed-asked _ _ _ (sym c.in_ok-n.ensures) in
    determined _ _ _ l (index-told l.index c.short.ensures c.if-short.false) (catalog-told l c.short-2.ensures c.if-short-2.false) w.0 _ _ w.1 c.judge.ensures
