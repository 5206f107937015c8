-- `catalog::fill` meets its contract. Assumes nothing.
use native.Mathlib.Omega.{arith}
use borrow.Author.Rules.{rules}
use Rattle.catalog.proofs.Books.{book-bounded, book-few, places-fit, filled-all}
use Rattle.catalog.proofs.fill.Goals as goal

pub list_pieces-listed-requires : goal.list_pieces-listed-requires
list_pieces-listed-requires c =
    let P = c.requires in
    let B = book-bounded _ _ P.1.sound in
    let h = B.fits in
    let r = P.2.list-long in
    (B, P.0.least, P.0.most, P.0.piece, omega arith, P.1.parts, P.1.toward, search rules, P.1.void.0, P.1.free)

pub fill_area-in_meets-requires : goal.fill_area-in_meets-requires
fill_area-in_meets-requires c =
    let P = c.requires in
    let B = book-bounded _ _ P.1.sound in
    let W = places-fit _ _ P.1.sound _ P.1.placed in
    (B.within, book-few _ _ P.1.sound, B.fits, W.0, W.1, search rules, search rules, search rules, search rules)

pub fill_area-in_apart-requires : goal.fill_area-in_apart-requires
fill_area-in_apart-requires c =
    let P = c.requires in
    let B = book-bounded _ _ P.1.sound in
    let W = places-fit _ _ P.1.sound _ P.1.placed in
    (B.within, book-few _ _ P.1.sound, B.fits, W.0, W.1, search rules, search rules, search rules, search rules)

pub fill_area-in_notpart-requires : goal.fill_area-in_notpart-requires
fill_area-in_notpart-requires c =
    let P = c.requires in
    let B = book-bounded _ _ P.1.sound in
    let W = places-fit _ _ P.1.sound _ P.1.placed in
    (B.within, book-few _ _ P.1.sound, B.fits, W.0, W.1, search rules, search rules, search rules, search rules)

pub shape_of-list : goal.shape_of-list
shape_of-list c = c.list_pieces-listed.auto.list

pub shape_of-meets : goal.shape_of-meets
shape_of-meets c = c.fill_area-in_meets.auto.area

pub shape_of-apart : goal.shape_of-apart
shape_of-apart c = c.fill_area-in_apart.auto.area

pub shape_of-notpart : goal.shape_of-notpart
shape_of-notpart c = c.fill_area-in_notpart.auto.area

pub returns : goal.returns
returns c =
    let P = c.requires in
    filled-all _ _ _ _ _ P.1.placed _ P.1.void.1 _ _ _ _ _ _ _ _ _ _ _ _ c.list_pieces-listed.ensures c.fill_area-in_meets.ensures c.fill_area-in_apart.ensures c.fill_area-in_notpart.ensures
