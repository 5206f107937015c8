-- The last step: the pieces in the shadow list give way to places. Then the four parts are those of the definition. Assumes nothing.
use mathlib.Core.Path.{◌≡◌, refl, sym, ap, ◌∙◌}
use mathlib.Core.Bool.{Bool}
use mathlib.Core.List.Memᴰ.{head as here}
use mathlib.Core.List.Memᴰ.{tail as there}
use mathlib.Core.List.{List, [], ◌∷◌, map}
use Prim.Native.Nat.{ℕ, zero, suc, ◌≤◌, ◌<◌}
use native.Mathlib.Omega.{arith}
use native.Mathlib.Decide.{dec_lt}
use lib.ListN.{length, get_or, length-map, get_or-eq_default}
use Rattle.lists.proofs.Tabs.{tab-at, tab-length}
use Rattle.index.specs.Pairs.{Book}
use Rattle.index.specs.Tree.{Visit, node, shadow, whole, visits}
use Rattle.index.specs.Parts.{place, marks, is_shadow, shadows, shadow_list, place_list}
use Rattle.index.specs.Index.{parentheses_of, visits_of, Room, Indexed}
use Rattle.index.specs.Steps.{Walked, Resolvable, Resolved}
use Rattle.lists.proofs.Numbers.{◌∈◌}
use Rattle.index.proofs.Below.{piece}
use Rattle.index.proofs.Sizes.{pieces}
use Rattle.index.proofs.Packing.{by-places, by_bits}

-- ## The loop

-- ## The index

get_d-map-in : (f : ℕ → ℕ) (xs : List ℕ) (j : ℕ) → j < length xs → get_or (map f xs) j 0 ≡ f (get_or xs j 0)
get_d-map-in f [] j l = absurd (omega arith)
get_d-map-in f (x ∷ xs) zero l = refl
get_d-map-in f (x ∷ xs) (suc j) l = get_d-map-in f xs j (omega arith)

-- a shadow's piece is a piece of the list of visits
shadows-mem : (vs : List Visit) (j : ℕ) → j < length (shadows vs) → shadow (get_or (shadows vs) j 0) ∈ vs
unfolding shadows
shadows-mem [] j l = absurd (omega arith)
shadows-mem (node p ∷ vs) j l = there (shadows-mem vs j l)
shadows-mem (shadow p ∷ vs) zero l = here refl
shadows-mem (shadow p ∷ vs) (suc j) l = there (shadows-mem vs j (omega arith))

module _ (n : ℕ) (edge : ℕ → ℕ → Bool) (B : Book n edge) (ps mks sh pl : List ℕ) (k m : ℕ) (D : Walked n edge ps mks sh pl k m) where
  U : List Visit
  U = visits_of n edge

  piece-small : (j : ℕ) → j < length (shadows U) → get_or (shadows U) j 0 < n
  unfolding U visits_of piece
  piece-small j l = pieces n edge B (shadow (get_or (shadows (visits (whole n edge))) j 0)) (shadows-mem (visits (whole n edge)) j l)

  pub resolvable : length (shadows (visits_of n edge)) ≤ length sh → n ≤ length pl → Resolvable sh pl m
  unfolding U
  resolvable a b = record {
    fits = omega (arith, D.shadowed-are);
    known = λ j l. let c = D.shadowed-are in rw (D.pieces_are j (omega arith)) (omega (arith, piece-small j (omega arith)));
  }

  module _ (R : Room n edge (length ps) (length mks) (length sh) (length pl)) where
    pub index_is : (sh' : List ℕ) → Resolved sh pl m sh' → ((i : ℕ) → get_or ps i 0 < 256) → ((i : ℕ) → get_or mks i 0 < 256) → Indexed n edge ps mks sh' pl k m
    unfolding U
    index_is sh' Q small₁ small₂ = record {
      parens-are = by_bits ps (parentheses_of n edge) R.parens small₁ D.parens-are;
      marks-are = by_bits mks (marks U) (unfold marks in rw (length-map U is_shadow) R.marks) small₂ D.marks-are;
      shadows-are = unfold shadow_list in by-places 0 sh' (map (place U) (shadows U)) (rw (length-map (shadows U) (place U), Q.same) R.shadows) (λ j l. shadow-case j (omega (arith, Q.same)) (dec_lt j m));
      places-are = by-places 0 pl (place_list n U) (unfold place_list in rw (tab-length (place U) 0 n) R.places) (λ q l. place-case q (dec_lt q n));
      nodes-are = D.nodes-are;
      shadowed-are = D.shadowed-are;
    }
      where
        place-case : (q : ℕ) → Dec (q < n) → get_or pl q 0 ≡ get_or (place_list n U) q 0
        place-case q (yes l) = D.places-are q l ∙ (unfold place_list in sym (tab-at (place U) n q 0 l))
        place-case q (no x) = D.spare q (omega arith) ∙ (unfold place_list in sym (get_or-eq_default (place_list n U) 0 {n = q} (omega (arith, tab-length (place U) 0 n))))

        shadow-case : (j : ℕ) → j < length sh → Dec (j < m) → get_or sh' j 0 ≡ get_or (map (place U) (shadows U)) j 0
        shadow-case j b (yes l) =
            let c = D.shadowed-are in
            Q.changed j l ∙ ap (λ (q : ℕ). get_or pl q 0) (D.pieces_are j b) ∙ D.places-are (get_or (shadows U) j 0) (piece-small j (omega arith))
            ∙ sym (get_d-map-in (place U) (shadows U) j (omega arith))
        shadow-case j b (no x) =
            let c = D.shadowed-are in
            Q.kept j (omega arith) ∙ D.pieces_are j b ∙ get_or-eq_default (shadows U) 0 {n = j} (omega arith)
            ∙ sym (get_or-eq_default (map (place U) (shadows U)) 0 {n = j} (omega (arith, length-map (shadows U) (place U))))
