-- What the index in lent parts says: the zeros after its parts change nothing. Assumes nothing.
use mathlib.Core.Path.{◌≡◌, sym, ap, ◌∙◌}
use mathlib.Core.Logic.{◌↔◌}
use mathlib.Core.Bool.{Bool, false}
use mathlib.Core.List.{List}
use Prim.Native.Nat.{ℕ, ◌*◌, ◌-◌, ◌≤◌, ◌<◌}
use lib.ListN.{length, take, get_or, replicate, length-map}
use Rattle.parentheses.specs.Bits.{bits}
use Rattle.parentheses.specs.Padded.{padded}
use Rattle.index.specs.Pairs.{Book, Within}
use Rattle.index.specs.Tree.{whole, visits}
use Rattle.index.specs.Parts as on
use Rattle.index.specs.Parts.{place, shadow_list}
use Rattle.index.specs.Index.{parentheses_of, visits_of, Room}
use Rattle.containment.specs.Inside.{Inside}
use Rattle.containment.specs.Contents.{Stored}
use Rattle.index.proofs.Packing.{packed-is, packed-cut}
use Rattle.containment.proofs.Contains.{contains}

module _
    (n : ℕ) (edge : ℕ → ℕ → Bool) (B : Book n edge) (parens marks shadows : List ℕ) (wide : ℕ) (R : Room n edge (length parens) (length marks) (length shadows) wide) where
  -- the bits of the parts: those of the definition, and zeros; and of the bytes that hold them
  module _ (are : parens ≡ on.packed (length parens) (parentheses_of n edge)) where
    pub parens-bits : bits parens ≡ padded false (8 * length parens) (on.parens (whole n edge))
    unfolding parentheses_of
    parens-bits = ap bits are ∙ packed-is (length parens) (on.parens (whole n edge)) R.parens

    pub cut-bits : (k : ℕ) → k ≤ length parens → length (on.parens (whole n edge)) ≤ 8 * k → bits (take k parens) ≡ padded false (8 * k) (on.parens (whole n edge))
    unfolding parentheses_of
    cut-bits k l r =
        ap (λ (x : List ℕ). bits (take k x)) are ∙ ap bits (packed-cut (length parens) (on.parens (whole n edge)) k l) ∙ packed-is k (on.parens (whole n edge)) r

  pub marks-bits : marks ≡ on.packed (length marks) (on.marks (visits_of n edge)) → bits marks ≡ padded false (8 * length marks) (on.marks (visits (whole n edge)))
  unfolding visits_of on.marks
  marks-bits are = ap bits are ∙ packed-is (length marks) (on.marks (visits (whole n edge))) (rw (length-map (visits (whole n edge)) on.is_shadow) R.marks)

  -- THE THEOREM: the lent parts say of two groups what the pairs say
  pub contains-lent :
      parens ≡ on.packed (length parens) (parentheses_of n edge) → marks ≡ on.packed (length marks) (on.marks (visits_of n edge))
      → shadows ≡ padded 0 (length shadows) (shadow_list (visits_of n edge)) → (h g : ℕ) → h < n → g < n
      → Inside (bits parens) (bits marks) shadows (place (visits (whole n edge)) h) (place (visits (whole n edge)) g) ↔ Within edge g h
  unfolding padded visits_of
  contains-lent pa ma sa h g lh lg =
      rw (parens-bits pa, marks-bits ma)
      (rw (sym sa) at (contains n edge B (replicate (8 * length parens - length (on.parens (whole n edge))) false)
      (replicate (8 * length marks - length (on.marks (visits (whole n edge)))) false)
      (replicate (length shadows - length (shadow_list (visits (whole n edge)))) 0) h g lh lg))

-- THE THEOREM for pieces: the lent parts say of two what the pairs say of their groups
module _ {n nodes : ℕ} {parens marks shadows places lead : List ℕ} (S : Stored n nodes parens marks shadows places lead) where
  pub placed : (g : ℕ) → g < n → get_or places g 0 ≡ place (visits (whole S.groups S.edge)) (S.number g)
  unfolding visits_of
  placed = S.places-are

  pub inside-within : (h g : ℕ) → h < n → g < n → Inside (bits parens) (bits marks) shadows (get_or places h 0) (get_or places g 0) ↔ Within S.edge (S.number g) (S.number h)
  inside-within h g lh lg =
      rw (placed h lh, placed g lg)
      (contains-lent S.groups S.edge S.book parens marks shadows (length places) S.room S.parens-are S.marks-are S.shadows-are
      (S.number h) (S.number g) (S.below h lh) (S.below g lg))
