-- Searches place by place. Assumes nothing.
use Prim.Native.Nat.{ℕ}
use mathlib.Core.Path.{◌≡◌, sym, ◌∙◌}
use mathlib.Core.Bool.{Bool, true, false, not, ◌&&◌}
use mathlib.Core.List.{List}
use Rattle.matrices.specs.Matrix.{bit_of}
use Rattle.closure.specs.Void.{void_of}

-- a piece in two others that is not marked
module _ (voids d : List ℕ) (a b x : ℕ) (v : Bool) (e : v ≡ bit_of voids 0 x) where
  pub common-void : v ≡ true → (not (void_of voids x) && (bit_of d a x && bit_of d b x)) ≡ false
  unfolding void_of
  common-void q = simp (sym e ∙ q)

  pub common-both : v ≡ false → (w : Bool) → w ≡ (bit_of d a x && bit_of d b x) → (not (void_of voids x) && (bit_of d a x && bit_of d b x)) ≡ w
  unfolding void_of
  common-both q w f = (simp (sym e ∙ q)) ∙ sym f
