-- Words that are compared with names. Assumes nothing.
use Prim.Native.Nat.{ℕ, ◌≤◌}
use mathlib.Core.Path.{◌≡◌, refl, sym, ap₂, ◌∙◌}
use mathlib.Core.Bool.{Bool, true, false, false≢true}
use mathlib.Core.List.{List, [], ◌∷◌, map}
use native.Mathlib.Omega.{arith}
use native.Mathlib.Decide.{dec_lt}
use lib.Dec.{eqb}
use borrow.Author.Tests.{eq-eqb, eqb-true, le-leb, lt-leb, lt-ltb, le-ltb}
use Rattle.std.specs.Prelude.{IsTrue, ◌↔◌}
use Rattle.std.specs.Char.{to_ascii_lowercase}
use Rattle.lists.proofs.Bools.{Known, is_true, is_false, known, and_both, both-and}
use Rattle.text.specs.Names.{lower, same}

-- ## letter by letter

lower-is : (x : ℕ) → to_ascii_lowercase x ≡ lower x
unfolding lower
lower-is x =
    elim (dec_lt x 65) [
      | yes l ↦ rw (lt-ltb x 65 l, lt-leb 65 x l)
      | no l ↦
          (let h : 65 ≤ x = omega arith in
          elim (dec_lt x 91) [
            | yes m ↦ rw (le-ltb x 65 h, lt-ltb x 91 m, le-leb 65 x h, le-leb x 90 (omega arith))
            | no m ↦ rw (le-ltb x 65 h, le-ltb x 91 (omega arith), le-leb 65 x h, lt-leb x 90 (omega arith))
          ])
    ]

same-maps : (a b : List ℕ) → same a b ≡ true → map to_ascii_lowercase a ≡ map to_ascii_lowercase b
unfolding same
same-maps [] [] h = refl
same-maps [] (y ∷ b) h = cc
same-maps (x ∷ a) [] h = cc
same-maps (x ∷ a) (y ∷ b) h =
    let e = and_both (eqb (lower x) (lower y)) (same a b) h in
    ap₂ ◌∷◌ (lower-is x ∙ eqb-true (lower x) (lower y) e.0 ∙ sym (lower-is y)) (same-maps a b e.1)

maps-same : (a b : List ℕ) → map to_ascii_lowercase a ≡ map to_ascii_lowercase b → same a b ≡ true
unfolding same
maps-same [] [] h = refl
maps-same [] (y ∷ b) h = cc
maps-same (x ∷ a) [] h = cc
maps-same (x ∷ a) (y ∷ b) h =
    let first : to_ascii_lowercase x ≡ to_ascii_lowercase y = cc in
    let later : map to_ascii_lowercase a ≡ map to_ascii_lowercase b = cc in
    both-and (eq-eqb (lower x) (lower y) (sym (lower-is x) ∙ first ∙ lower-is y)) (maps-same a b later)

-- a test whether two words are equal in small letters is `same`
pub same-is : (a b : List ℕ) (r : Bool) → IsTrue r ↔ (map to_ascii_lowercase a ≡ map to_ascii_lowercase b) → r ≡ same a b
same-is a b true h = sym (maps-same a b (h.0 refl))
same-is a b false h = pick (known (same a b))
  where
    pick : Known (same a b) → false ≡ same a b
    pick (is_true e) = absurd (false≢true (h.1 (same-maps a b e)))
    pick (is_false e) = sym e
