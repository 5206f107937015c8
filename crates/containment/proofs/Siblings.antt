-- A row of trees in the whole: where it stands among the bits and the places, and how a walk goes from one tree to the next. Assumes nothing.
use mathlib.Core.Path.{◌≡◌, ap, ◌∙◌}
use mathlib.Core.Bool.{Bool, true, false}
use mathlib.Core.List.{List, [], ◌∷◌, ◌++◌, append_assoc}
use Prim.Native.Nat.{ℕ, suc, ◌+◌, ◌<◌}
use native.Mathlib.Omega.{arith}
use lib.ListN.{length, get_or, length-append}
use lib.Seq.{get_or_at}
use Rattle.parentheses.specs.Forest.{enc}
use Rattle.parentheses.specs.Subtree.{after}
use Rattle.parentheses.proofs.Ranks.{rank-zero}
use Rattle.parentheses.proofs.Trees.{rank-cons, ones, ones-append}
use Rattle.index.specs.Pairs.{Book}
use Rattle.index.specs.Tree.{Visit, node, Forest, tree, under, whole, visits}
use Rattle.index.specs.Parts.{shape, parens, place}
use Rattle.index.proofs.Ranges.{ones-parens, after-at}
use Rattle.index.proofs.Places.{Stand, stand-place}

-- from place q on stand the trees f, and then a parenthesis closes
pub record Stands (bs : List Bool) (vs : List Visit) (q : ℕ) (f : Forest) : Type 0 where
  pub front : List Bool
  pub back : List Bool
  pub earlier : List Visit
  pub later : List Visit
  pub bits_are : bs ≡ front ++ (parens f ++ (false ∷ back))
  pub visits-are : vs ≡ earlier ++ (visits f ++ later)
  pub level : ones front ≡ q
  pub at_place : length earlier ≡ q

module _ {bs : List Bool} {vs : List Visit} {q : ℕ} where
  module _ {v : Visit} {f g : Forest} (S : Stands bs vs q (tree v f g)) where
    split : bs ≡ S.front ++ (true ∷ (parens f ++ (false ∷ (parens g ++ (false ∷ S.back)))))
    unfolding parens shape enc
    split = S.bits_are ∙ ap (λ (l : List Bool). S.front ++ (true ∷ l)) (append_assoc (parens f) (false ∷ parens g) (false ∷ S.back))

    seen : vs ≡ S.earlier ++ (v ∷ (visits f ++ (visits g ++ S.later)))
    unfolding visits
    seen = S.visits-are ∙ ap (λ (l : List Visit). S.earlier ++ (v ∷ l)) (append_assoc (visits f) (visits g) S.later)

    pub visit-at : get_or vs q (node 0) ≡ v
    visit-at = rw seen (get_or_at S.earlier v _ (node 0) q S.at_place)

    pub in-visits : q < length vs
    in-visits = omega (arith, ap length seen, length-append S.earlier (v ∷ (visits f ++ (visits g ++ S.later))), S.at_place)

    -- its places
    pub ends_at : after bs q ≡ q + suc (length (visits f))
    ends_at = rw (split, ← S.level) (after-at S.front (parens g ++ (false ∷ S.back)) f)

    -- the trees after it
    pub next : Stands bs vs (q + suc (length (visits f))) g
    next =
        record {
          front = S.front ++ (true ∷ (parens f ++ (false ∷ [])));
          back = S.back;
          earlier = S.earlier ++ (v ∷ visits f);
          later = S.later;
          bits_are = split ∙ simp append_assoc;
          visits-are = seen ∙ simp append_assoc;
          level =
              omega (
                arith,
                S.level,
                ones-append S.front (true ∷ (parens f ++ (false ∷ []))),
                rank-cons true (parens f ++ (false ∷ [])) (length (parens f ++ (false ∷ []))),
                ones-append (parens f) (false ∷ []),
                rank-cons false [] 0,
                rank-zero [],
                ones-parens f,
              );
          at_place = omega (arith, length-append S.earlier (v ∷ visits f), S.at_place);
        }

-- the trees that hang from a piece
pub hangs : (n : ℕ) (edge : ℕ → ℕ → Bool) (B : Book n edge) (h : ℕ) (l : h < n) (S : Stand n edge B.level h) (Z : List Bool)
    → Stands (parens (whole n edge) ++ Z) (visits (whole n edge)) (place (visits (whole n edge)) h + 1) (under n edge S.deep h)
hangs n edge B h l S Z =
    record {
      front = S.opened ++ (true ∷ []);
      back = S.rest ++ Z;
      earlier = S.before ++ (node h ∷ []);
      later = S.beyond;
      bits_are = ap (λ (l : List Bool). l ++ Z) S.bits ∙ simp append_assoc;
      visits-are = S.visited ∙ simp append_assoc;
      level =
          omega (
            arith,
            S.level,
            ones-append S.opened (true ∷ []),
            rank-cons true [] 0,
            rank-zero [],
            stand-place n edge B h l S,
          );
      at_place = omega (arith, length-append S.before (node h ∷ []), stand-place n edge B h l S);
    }
