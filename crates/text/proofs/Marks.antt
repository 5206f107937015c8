-- The byte order mark, and which form bytes have, test by test. Assumes nothing.
use Prim.Native.Nat.{ℕ, ◌<◌}
use mathlib.Core.Path.{◌≡◌, refl}
use mathlib.Core.Bool.{false}
use mathlib.Core.List.{List, [], ◌∷◌}
use native.Mathlib.Omega.{arith}
use lib.Dec.{eqb}
use lib.ListN.{length, get_or}
use borrow.Author.Tests.{ne_eqb}
use Rattle.lists.proofs.Bools.{and-false}
use Rattle.text.specs.Text.{marked, mark_length}
use Rattle.text.specs.Either.{is_text}

unmarked : (text : List ℕ) → marked text ≡ false → 0 ≡ mark_length text
unfolding mark_length
unmarked text e = rw e

pub mark-short : (text : List ℕ) → length text < 3 → 0 ≡ mark_length text
unfolding marked
mark-short [] h = unmarked [] refl
mark-short (x ∷ []) h = unmarked (x ∷ []) (and-false (eqb x 239))
mark-short (x ∷ y ∷ []) h = unmarked (x ∷ y ∷ []) (rw (and-false (eqb y 187)) (and-false (eqb x 239)))
mark-short (x ∷ y ∷ z ∷ text) h = absurd (omega arith)

module _ (text : List ℕ) where
  pub mark-first : (get_or text 0 0 ≡ 239 → ⊥) → 0 ≡ mark_length text
  unfolding marked
  mark-first h = unmarked text (rw (ne_eqb (get_or text 0 0) 239 h))

pub no_bytes : (s : List ℕ) → length s ≡ 0 → false ≡ is_text s
unfolding is_text
no_bytes [] h = refl
no_bytes (x ∷ s) h = absurd (omega arith)
