-- Trees as parentheses: the parenthesis that closes a node is the one that leaves it, and the places of its subtree are those of its
-- preorder, wherever the tree's parentheses stand.
-- Assumes nothing.
use mathlib.Core.Path.{◌≡◌, refl, sym, ap, ◌∙◌}
use mathlib.Core.Bool.{Bool, true, false}
use mathlib.Core.List.{List, [], ◌∷◌, ◌++◌, append_assoc}
use Prim.Native.Nat.{ℕ, zero, suc, ◌+◌, ◌-◌, ◌*◌, ◌≤◌, ◌<◌}
use native.Mathlib.Nat.{add-zero, add-suc, add_assoc}
use native.Mathlib.Decide.{dec_le}
use native.Mathlib.Omega.{arith}
use borrow.Author.Tests.{eq-eqb, ne_eqb, ltb-true, ltb-false}
use lib.Dec.{ltb}
use lib.ListN.{get_or, length, length-append, get_or-append}
use lib.Seq.{get_or-append-add, get_or-append_seam}
use Rattle.lists.proofs.Bools.{Known, is_true, is_false, known}
use Rattle.lists.proofs.Firsts.{first-is}
use Rattle.lists.specs.Tally.{num}
use Rattle.parentheses.specs.Rank.{rank, select}
use Rattle.parentheses.specs.Close.{balanced, close}
use Rattle.parentheses.specs.Subtree.{after}
use Rattle.parentheses.specs.Forest.{Forest, none, node, enc, size, children}
use Rattle.parentheses.proofs.Ranks.{rank_same, rank-zero}
use Rattle.parentheses.proofs.Selects.{select-rank}

-- ---- counts in lists put together

pub rank-front : (xs ys : List Bool) (k : ℕ) → k ≤ length xs → rank (xs ++ ys) k ≡ rank xs k
rank-front xs ys k h = rank_same (xs ++ ys) xs k (λ i g. get_or-append xs ys false i (omega arith))

pub rank-append : (xs ys : List Bool) (k : ℕ) → rank (xs ++ ys) (length xs + k) ≡ rank xs (length xs) + rank ys k
unfolding rank
rank-append xs ys zero = rw (add-zero (length xs), add-zero (rank xs (length xs))) (rank-front xs ys (length xs) (omega arith))
rank-append xs ys (suc k) = rw (add-suc (length xs) k, rank-append xs ys k, get_or-append-add xs ys k false) (add_assoc (rank xs (length xs)) (rank ys k) (num (get_or ys k false)))

pub rank-cons : (b : Bool) (xs : List Bool) (k : ℕ) → rank (b ∷ xs) (suc k) ≡ num b + rank xs k
unfolding rank
rank-cons b xs zero = omega arith
rank-cons b xs (suc k) = rw (rank-cons b xs k) (add_assoc (num b) (rank xs k) (num (get_or xs k false)))

-- how many ones there are in all
abbrev pub ones : List Bool → ℕ
ones w = rank w (length w)

pub ones-append : (xs ys : List Bool) → ones (xs ++ ys) ≡ ones xs + ones ys
ones-append xs ys = ap (rank (xs ++ ys)) (length-append xs ys) ∙ rank-append xs ys (length ys)

-- ---- Dyck words: as many ones as zeros, and no part from the start has more zeros

pub record Dyck (w : List Bool) : Type 0 where
  pub even : 2 * ones w ≡ length w
  pub up : (j : ℕ) → j ≤ length w → j ≤ 2 * rank w j

pub dyck-none : Dyck []
dyck-none = record { even = omega (arith, rank-zero []); up = λ j h. omega arith }

-- a node with the words of its children and of what follows it
module _ {k r : List Bool} (K : Dyck k) (R : Dyck r) where
  abbrev ys : List Bool
  ys = false ∷ r

  abbrev n : ℕ
  n = length k

  node-even : 2 * ones (true ∷ (k ++ ys)) ≡ length (true ∷ (k ++ ys))
  node-even =
      rw (length-append k ys)
      (omega (arith, rank-cons true (k ++ ys) (n + suc (length r)), rank-append k ys (suc (length r)), rank-cons false r (length r), K.even, R.even))

  node-up : (j : ℕ) → j ≤ length (true ∷ (k ++ ys)) → j ≤ 2 * rank (true ∷ (k ++ ys)) j
  node-up zero h = omega arith
  node-up (suc j) h =
      let first = rank-cons true (k ++ ys) j in
      elim (dec_le j n) [
        | yes g ↦ omega (arith, first, rank-front k ys j g, K.up j g)
        | no g ↦ let m = j - suc n in
            let e : j ≡ n + suc m = omega arith in
            omega (
              arith,
              first,
              ap (rank (k ++ ys)) e,
              rank-append k ys (suc m),
              rank-cons false r m,
              K.even,
              R.up m (omega (arith, length-append k ys)),
            )
      ]

  pub dyck-node : Dyck (true ∷ (k ++ (false ∷ r)))
  dyck-node = record { even = node-even; up = node-up }

pub dyck-enc : (f : Forest) → Dyck (enc f)
unfolding enc
dyck-enc none = dyck-none
dyck-enc (node k r) = dyck-node (dyck-enc k) (dyck-enc r)

-- ---- a node whose children's word is k, wherever it stands

module _ (pre k post : List Bool) (K : Dyck k) where
  abbrev whole : List Bool
  whole = pre ++ (true ∷ (k ++ (false ∷ post)))

  within : (j : ℕ) → j ≤ length k → rank whole (length pre + suc j) ≡ ones pre + 1 + rank k j
  within j h =
      omega (
        arith,
        rank-append pre (true ∷ (k ++ (false ∷ post))) (suc j),
        rank-cons true (k ++ (false ∷ post)) j,
        rank-front k (false ∷ post) j h,
      )

  left : rank whole (length pre + suc (suc (length k))) ≡ ones pre + 1 + ones k
  left =
      let rest = k ++ (false ∷ post) in
      let one : suc (length k) ≡ length k + 1 = omega arith in
      omega (
        arith,
        rank-append pre (true ∷ rest) (suc (suc (length k))),
        rank-cons true rest (suc (length k)),
        ap (rank rest) one,
        rank-append k (false ∷ post) 1,
        rank-cons false post 0,
        rank-zero post,
      )

  before : rank whole (length pre) ≡ ones pre
  before = rank-front pre (true ∷ (k ++ (false ∷ post))) (length pre) (omega arith)

  inside : (q : ℕ) → length pre < q → q < length pre + 1 + length k → balanced whole (length pre) q ≡ false
  unfolding balanced
  inside q g h =
      let j = q - length pre in
      let n : suc q ≡ length pre + suc j = omega arith in
      ne_eqb (2 * rank whole (suc q) + length pre) (2 * rank whole (length pre) + suc q)
      (omega (arith, before, ap (rank whole) n, within j (omega arith), K.up j (omega arith)))

  at-end : balanced whole (length pre) (length pre + 1 + length k) ≡ true
  unfolding balanced
  at-end =
      let r = length pre + 1 + length k in
      let n : suc r ≡ length pre + suc (suc (length k)) = omega arith in
      eq-eqb (2 * rank whole (suc r) + length pre) (2 * rank whole (length pre) + suc r) (omega (arith, before, ap (rank whole) n, left, K.even))

  long : length whole ≡ length pre + 1 + length k + 1 + length post
  long = omega (arith, length-append pre (true ∷ (k ++ (false ∷ post))), length-append k (false ∷ post))

  -- it is closed where it is left
  pub close-is : close whole (length pre) ≡ length pre + 1 + length k
  unfolding close
  close-is =
      first-is (balanced whole (length pre)) (suc (length pre)) (length whole - suc (length pre)) (length pre + 1 + length k)
      (omega arith) (omega (arith, long)) inside at-end

  -- it is opened where its place says
  pub select-is-open : select whole (ones pre) ≡ length pre
  select-is-open =
      ap (select whole) (sym before) ∙ select-rank whole (length pre) (omega (arith, long)) (get_or-append_seam pre true (k ++ (false ∷ post)) false)

  -- its subtree has its own place and one for each node below it
  pub after_is : after whole (ones pre) ≡ ones pre + suc (ones k)
  unfolding after
  after_is =
      let n : length pre + 1 + length k ≡ length pre + suc (length k) = omega arith in
      rw (select-is-open, close-is, n) (within (length k) (omega arith) ∙ omega arith)

-- ---- a forest: the places of the subtree of its node at place p are p and as many more as there are nodes below it

pub ones-enc : (f : Forest) → ones (enc f) ≡ size f
unfolding enc size
ones-enc none = rank-zero []
ones-enc (node k r) =
    omega (
      arith,
      rank-cons true (enc k ++ (false ∷ enc r)) (length (enc k ++ (false ∷ enc r))),
      ones-append (enc k) (false ∷ enc r),
      rank-cons false (enc r) (length (enc r)),
      ones-enc k,
      ones-enc r,
    )

-- where the node at place p stands
record Stands (f : Forest) (p : ℕ) : Type 0 where
  pub pre : List Bool
  pub post : List Bool
  pub word : enc f ≡ pre ++ (true ∷ (enc (children f p) ++ (false ∷ post)))
  pub level : ones pre ≡ p

regroup : (a b c : List Bool) (d : List Bool) → (a ++ (true ∷ (b ++ (false ∷ c)))) ++ d ≡ a ++ (true ∷ (b ++ (false ∷ (c ++ d))))
regroup a b c d = simp append_assoc

stands : (f : Forest) (p : ℕ) → p < size f → Stands f p
unfolding enc size children
stands none p h = absurd (omega arith)
stands (node k r) zero h = record { pre = []; post = enc r; word = refl; level = rank-zero [] }
stands (node k r) (suc p) h =
    pick (known (ltb p (size k))) (λ l. stands k p l) (λ l. stands r (p - size k) l)
  where
    pick : Known (ltb p (size k)) → (p < size k → Stands k p) → (p - size k < size r → Stands r (p - size k)) → Stands (node k r) (suc p)
    pick (is_true t) left right =
        let S = left (ltb-true p (size k) t) in
        record {
          pre = true ∷ S.pre;
          post = S.post ++ (false ∷ enc r);
          word = rw (t, children) (ap (λ (w : List Bool). true ∷ (w ++ (false ∷ enc r))) S.word ∙ ap (λ (w : List Bool). true ∷ w) (regroup S.pre (enc (children k p)) S.post (false ∷ enc r)));
          level = rank-cons true S.pre (length S.pre) ∙ omega (arith, S.level);
        }
    pick (is_false t) left right =
        let g = ltb-false p (size k) t in
        let S = right (omega arith) in
        record {
          pre = true ∷ (enc k ++ (false ∷ S.pre));
          post = S.post;
          word = rw (t, children) (ap (λ (w : List Bool). true ∷ (enc k ++ (false ∷ w))) S.word ∙ ap (λ (w : List Bool). true ∷ w) (sym (append_assoc (enc k) (false ∷ S.pre) (true ∷ (enc (children r (p - size k)) ++ (false ∷ S.post))))));
          level =
              omega (
                arith,
                rank-cons true (enc k ++ (false ∷ S.pre)) (length (enc k ++ (false ∷ S.pre))),
                ones-append (enc k) (false ∷ S.pre),
                rank-cons false S.pre (length S.pre),
                ones-enc k,
                S.level,
              );
        }

-- whatever follows the forest's word, as the zeros of a buffer
pub after-enc : (f : Forest) (z : List Bool) (p : ℕ) → p < size f → after (enc f ++ z) p ≡ p + suc (size (children f p))
after-enc f z p h =
    let S = stands f p h in
    let k = children f p in
    ap (λ (w : List Bool). after (w ++ z) p) S.word
    ∙ ap (λ (w : List Bool). after w p) (regroup S.pre (enc k) S.post z)
    ∙ ap (after (S.pre ++ (true ∷ (enc k ++ (false ∷ (S.post ++ z)))))) (sym S.level)
    ∙ after_is S.pre (enc k) (S.post ++ z) (dyck-enc k)
    ∙ omega (arith, S.level, ones-enc k)
