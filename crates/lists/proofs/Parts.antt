-- Parts of a list: what is left at a place, its first member, one between two others. Assumes nothing.
use Prim.Native.Nat.{ℕ, ◌+◌, ◌<◌}
use mathlib.Core.Path.{◌≡◌, refl, sym, ap, ap₂, ◌∙◌}
use mathlib.Core.List.{List, [], ◌∷◌, ◌++◌, append_assoc}
use native.Mathlib.Numerals.{add-one}
use native.Mathlib.Omega.{arith}
use lib.ListN.{length, take, drop, get_or}
use lib.Seq.{drop-cons, take-append_seam, drop-append_seam}

module _ {A : Type 0} where
  -- what is left at a place: its member, and what is left behind it
  pub here : (l : List A) (i : ℕ) (d : A) → i < length l → drop i l ≡ get_or l i d ∷ drop (i + 1) l
  here l i d h = rw (add-one i) (drop-cons l i d h)

  pub empty : (l : List A) → length l ≡ 0 → l ≡ []
  empty [] h = refl
  empty (x ∷ l) h = absurd (omega arith)

  pub first-kept : (a b : List A) (d : A) → 0 < length a → get_or (a ++ b) 0 d ≡ get_or a 0 d
  first-kept [] b d h = absurd (omega arith)
  first-kept (x ∷ a) b d h = refl

  pub between : (a b c : List A) (n : ℕ) → length a ≡ n → take (length b) (drop n ((a ++ b) ++ c)) ≡ b
  between a b c n e =
      ap₂ (λ (x : List A) (k : ℕ). take (length b) (drop k x)) (append_assoc a b c) (sym e)
      ∙ ap (take (length b)) (drop-append_seam a (b ++ c))
      ∙ take-append_seam b c
