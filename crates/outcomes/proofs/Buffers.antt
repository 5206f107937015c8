-- Lent buffers and their fronts. Assumes nothing.
use Rattle.std.specs.Prelude.{Err, Ok}
use Rattle.outcomes.specs.Accepted.{Outcome}
use Prim.Native.Nat.{ℕ, ◌≤◌}
use mathlib.Core.Path.{◌≡◌, sym, ap, ◌∙◌}
use mathlib.Core.Bool.{Bool, true, false}
use mathlib.Core.List.{List, ◌++◌, append-nil}
use lib.Dec.{eqb}
use lib.ListN.{length, take, drop, length-replicate, take-append-drop}
use lib.Seq.{length-take-le, drop-length}
use Rattle.lists.specs.Front.{front}
use Rattle.lists.proofs.Tabs.{tab-length}
use Rattle.records.specs.Record.{records}
use Rattle.records.specs.Refusal.{refusal_number}
use Rattle.index.specs.Parts as on
use Rattle.parentheses.proofs.Paddeds.{padded-length}
use Rattle.outcomes.specs.Lent.{Lent, lent}
use Rattle.outcomes.specs.Fitting.{Fits}
use Rattle.records.specs.Claimed.{answers_to}
use Rattle.outcomes.specs.Call.{indexed, cleared, left}

-- a buffer that is all front
pub front-whole : (xs l : List ℕ) → length xs ≡ length l → front xs l ≡ xs
unfolding front
front-whole xs l e = ap (λ (r : List ℕ). xs ++ r) (ap (λ (k : ℕ). drop k l) e ∙ drop-length l) ∙ append-nil xs

unfolded : (k : ℕ) (xs l : List ℕ) → length xs ≡ k → xs ++ drop k l ≡ front xs l
unfolding front
unfolded k xs l e = ap (λ (j : ℕ). xs ++ drop j l) (sym e)

-- a front written into the part that it fills
pub front-part : (k : ℕ) (xs l : List ℕ) → k ≤ length l → length xs ≡ k → front xs (take k l) ++ drop k l ≡ front xs l
front-part k xs l h e =
    ap (λ (r : List ℕ). r ++ drop k l) (front-whole xs (take k l) (e ∙ sym (length-take-le k l h)))
    ∙ unfolded k xs l e

pub part-kept : (k : ℕ) (l : List ℕ) → take k l ++ drop k l ≡ l
part-kept k l = take-append-drop k l

-- the lengths of what is written
pub packed-long : (k : ℕ) (bs : List Bool) → length (on.packed k bs) ≡ k
unfolding on.packed
packed-long k bs = tab-length _ 0 k

pub answers-long : (s : List ℕ) (n : ℕ) (cs : List ℕ) → length (answers_to s n cs) ≡ records cs
unfolding answers_to
answers-long s n cs = tab-length _ 0 (records cs)

-- the parts of the buffers that a call writes, and the buffers with such parts put back
abbrev pub cut : ℕ → Lent → Lent
cut k l = lent (take 2560 l.parens) (take 1280 l.marks) (take 8192 l.shadows) (take 2048 l.places) (take k l.answers)

abbrev pub put_back : ℕ → Lent → Lent → Lent
put_back k l x =
    lent (x.parens ++ drop 2560 l.parens) (x.marks ++ drop 1280 l.marks) (x.shadows ++ drop 8192 l.shadows) (x.places ++ drop 2048 l.places) (x.answers ++ drop k l.answers)

pub record Long (cs : List ℕ) (l : Lent) : Type 0 where
  pub parens : 2560 ≤ length l.parens
  pub marks : 1280 ≤ length l.marks
  pub shadows : 8192 ≤ length l.shadows
  pub places : 2048 ≤ length l.places
  pub answers : records cs ≤ length l.answers

-- two lendings with the same parts
pub same-lent : {a a' b b' c c' d d' e e' : List ℕ} → a ≡ a' → b ≡ b' → c ≡ c' → d ≡ d' → e ≡ e' → lent a b c d e ≡ lent a' b' c' d' e'
same-lent p q r s t = rw (p, q, r, s, t)

-- what acceptance writes fits
abbrev pub Fitted : List ℕ → Outcome → Type 0
Fitted s (Ok n) = Fits n.pieces s n.nodes
Fitted s (Err r) = Unit {0}

-- what is left in the parts, put back, is what is left in the buffers
pub left_back : (s cs : List ℕ) (l : Lent) (r : Outcome) → Long cs l → Fitted s r → put_back (records cs) l (left s cs (cut (records cs) l) r) ≡ left s cs l r
unfolding left indexed cleared
left_back s cs l (Ok n) L F =
    same-lent
    (front-part 2560 _ l.parens L.parens (packed-long 2560 _))
    (front-part 1280 _ l.marks L.marks (packed-long 1280 _))
    (front-part 8192 _ l.shadows L.shadows (padded-length 0 8192 _ F.shadows-fit))
    (front-part 2048 _ l.places L.places (padded-length 0 2048 _ F.places-fit))
    (front-part (records cs) _ l.answers L.answers (answers-long s n.pieces cs))
left_back s cs l (Err x) L F = pick (eqb (refusal_number x.refusal) 14)
  where
    pick :
        (b : Bool) → put_back (records cs) l (elim b [ true ↦ cleared (cut (records cs) l) | false ↦ cut (records cs) l ]) ≡ elim b [ true ↦ cleared l | false ↦ l ]
    pick true =
        same-lent
        (front-part 2560 _ l.parens L.parens (length-replicate {A = ℕ} 2560 0))
        (front-part 1280 _ l.marks L.marks (length-replicate {A = ℕ} 1280 0))
        (front-part 8192 _ l.shadows L.shadows (length-replicate {A = ℕ} 8192 0))
        (front-part 2048 _ l.places L.places (length-replicate {A = ℕ} 2048 0))
        (part-kept (records cs) l.answers)
    pick false =
        same-lent (part-kept 2560 l.parens) (part-kept 1280 l.marks) (part-kept 8192 l.shadows) (part-kept 2048 l.places) (part-kept (records cs) l.answers)
