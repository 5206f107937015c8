-- Buffers of which the front is written, piece by piece. Assumes nothing.
use Prim.Native.Nat.{ℕ, suc, ◌+◌, ◌-◌, ◌≤◌, ◌<◌}
use mathlib.Core.Path.{◌≡◌, refl, sym, ap, ◌∙◌}
use mathlib.Core.List.{List, [], ◌∷◌, ◌++◌, append-nil, append_assoc}
use native.Mathlib.Nat.{add-zero, zero-add, add-suc, suc-add}
use native.Mathlib.Numerals.{add-one}
use native.Mathlib.Omega.{arith}
use borrow.Rule.Slice.PartMut.{put_mid}
use Rattle.std.proofs.lemmas.Slice.{put_mid-paste}
use Rattle.std.proofs.lemmas.List.Edits.{paste_all}
use lib.ListN.{length, take, drop, get_or, set, length-append, length-drop, take-append-drop, get_or-append}
use lib.Seq.{take-append_seam, take_all, take-suc, length-take-le, drop-append-add, drop-drop, sets, sets-eq, get_or-take, get_or-drop, get_or-append-add}
use Rattle.lists.specs.Front.{front, placed}

module _ {A : Type 0} where
  pub front-none : (l : List A) → front [] l ≡ l
  unfolding front
  front-none l = refl

  pub front-taken : (xs l : List A) → take (length xs) (front xs l) ≡ xs
  unfolding front
  front-taken xs l = take-append_seam xs (drop (length xs) l)

  pub front_length : (xs l : List A) → length xs ≤ length l → length (front xs l) ≡ length l
  unfolding front
  front_length xs l h = simp (length-append, length-drop) (omega arith)

  pub placed-none : (i : ℕ) (l : List A) → placed i [] l ≡ l
  unfolding placed
  placed-none i l = ap (λ (r : List A). r ++ drop (i + 0) l) (append-nil (take i l)) ∙ ap (λ (k : ℕ). take i l ++ drop k l) (add-zero i) ∙ take-append-drop i l

  -- stores one after the other
  pub placed-sets : (xs l : List A) (i : ℕ) → i + length xs ≤ length l → sets l i xs ≡ placed i xs l
  unfolding placed
  placed-sets xs l i h = sets-eq xs l i h

  -- what is placed behind a front makes it longer
  pub placed-front : (a x l : List A) → placed (length a) x (front a l) ≡ front (a ++ x) l
  unfolding front placed
  placed-front a x l =
      ap (λ (r : List A). r ++ x ++ drop (length a + length x) (a ++ drop (length a) l)) (take-append_seam a (drop (length a) l))
      ∙ ap (λ (r : List A). a ++ x ++ r) (drop-append-add a (drop (length a) l) (length x) ∙ drop-drop (length x) (length a) l)
      ∙ ap (λ (k : ℕ). a ++ x ++ drop k l) (sym (length-append a x))

  -- a list stored is its front stored, then the rest behind it
  pub sets-append : (s t l : List A) (i : ℕ) → sets l i (s ++ t) ≡ sets (sets l i s) (i + length s) t
  sets-append [] t l i = rw add-zero
  sets-append (x ∷ s) t l i =
      sets-append s t (set l i x) (suc i)
      ∙ ap (λ n. sets (sets (set l i x) (suc i) s) n t) (suc-add i (length s) ∙ sym (add-suc i (length s)))

  -- a list placed member by member: none, one more, all
  pub placed-start : (s l : List A) (i : ℕ) → placed i (take 0 s) l ≡ l
  placed-start s l i = placed-none i l

  pub placed-more : (s l : List A) (i k : ℕ) (d : A) → k < length s → i + length s ≤ length l
      → set (placed i (take k s) l) (i + k) (get_or s k d) ≡ placed i (take (k + 1) s) l
  placed-more s l i k d h g =
      let n : length (take k s) ≡ k = length-take-le k s (omega arith) in
      let m : length (take (k + 1) s) ≡ k + 1 = length-take-le (k + 1) s (omega arith) in
      ap (λ (x : List A). set x (i + k) (get_or s k d)) (sym (placed-sets (take k s) l i (omega (arith, n))))
      ∙ ap (λ (x : ℕ). set (sets l i (take k s)) (i + x) (get_or s k d)) (sym n)
      ∙ sym (sets-append (take k s) (get_or s k d ∷ []) l i)
      ∙ ap (sets l i) (sym (ap (λ (x : ℕ). take x s) (add-one k) ∙ take-suc s k d h))
      ∙ placed-sets (take (k + 1) s) l i (omega (arith, m))

  pub placed-all : (s l : List A) (i k : ℕ) → length s ≤ k → placed i (take k s) l ≡ placed i s l
  placed-all s l i k h = ap (λ (x : List A). placed i x l) (take_all k s h)

  pub placed-length : (xs l : List A) (i : ℕ) → i + length xs ≤ length l → length (placed i xs l) ≡ length l
  unfolding placed
  placed-length xs l i h =
      let t : length (take i l) ≡ i = length-take-le i l (omega arith) in simp (length-append, length-drop) (omega (arith, t))

  -- after `l[i..e].copy_from_slice(xs)`: k is e - i, and ys is what that part holds
  pub put_mid_placed : (i k : ℕ) (l ys xs : List A) → ys ≡ xs → k ≡ length xs → put_mid i k l ys ≡ placed i xs l
  unfolding placed
  put_mid_placed i k l ys xs e n = put_mid-paste i k l ys xs k e refl n ∙ paste_all l i xs k n ∙ simp (n, append_assoc)

  pub placed_first : (xs l : List A) → placed 0 xs l ≡ front xs l
  unfolding placed front
  placed_first xs l = rw zero-add

-- what stands where in a buffer with a new front
module _ {A : Type 0} (d : A) (xs l : List A) (j : ℕ) where
  pub front-before : j < length xs → get_or (front xs l) j d ≡ get_or xs j d
  unfolding front
  front-before h = get_or-append xs (drop (length xs) l) d j h

  pub front-after : length xs ≤ j → get_or (front xs l) j d ≡ get_or l j d
  unfolding front
  front-after h =
      let e : length xs + (j - length xs) ≡ j = omega arith in
      ap (λ (i : ℕ). get_or (xs ++ drop (length xs) l) i d) (sym e) ∙ get_or-append-add xs (drop (length xs) l) (j - length xs) d ∙ get_or-drop (length xs) l (j - length xs) d
      ∙ ap (λ (i : ℕ). get_or l i d) e

-- and in one with a list placed from i on: before it, among it, behind it
module _ {A : Type 0} (d : A) (xs l : List A) (i : ℕ) (room : i + length xs ≤ length l) where
  taken : length (take i l) ≡ i
  taken = length-take-le i l (omega arith)

  head : length (take i l ++ xs) ≡ i + length xs
  head = length-append (take i l) xs ∙ ap (λ (n : ℕ). n + length xs) taken

  pub placed-before : (j : ℕ) → j < i → get_or (placed i xs l) j d ≡ get_or l j d
  unfolding placed
  placed-before j h =
      get_or-append (take i l ++ xs) (drop (i + length xs) l) d j (omega (arith, head))
      ∙ get_or-append (take i l) xs d j (omega (arith, taken)) ∙ get_or-take i l j d h

  pub placed-among : (k : ℕ) → k < length xs → get_or (placed i xs l) (i + k) d ≡ get_or xs k d
  unfolding placed
  placed-among k h =
      get_or-append (take i l ++ xs) (drop (i + length xs) l) d (i + k) (omega (arith, head))
      ∙ ap (λ (n : ℕ). get_or (take i l ++ xs) (n + k) d) (sym taken) ∙ get_or-append-add (take i l) xs k d

  pub placed-behind : (k : ℕ) → get_or (placed i xs l) (i + length xs + k) d ≡ get_or l (i + length xs + k) d
  unfolding placed
  placed-behind k =
      ap (λ (n : ℕ). get_or (take i l ++ xs ++ drop (i + length xs) l) (n + k) d) (sym head)
      ∙ get_or-append-add (take i l ++ xs) (drop (i + length xs) l) k d ∙ get_or-drop (i + length xs) l k d
