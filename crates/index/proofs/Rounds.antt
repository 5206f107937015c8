-- The breadth-first search from piece k, round by round: the state between two rounds, and what stands in the end. Assumes nothing.
use mathlib.Core.Path.{◌≡◌, refl, sym, ap, ◌∙◌}
use mathlib.Core.Logic.{◌⊎◌, inl, inr}
use mathlib.Core.Bool.{Bool, true, false, not, true≢false}
use mathlib.Core.List.Memᴰ
use mathlib.Core.List.Memᴰ.{head as here}
use mathlib.Core.List.Memᴰ.{tail as there}
use mathlib.Core.List.{List, [], ◌∷◌, ◌++◌, append_assoc}
use Prim.Native.Nat.{ℕ, zero, suc, ◌+◌, ◌-◌, ◌≤◌, ◌<◌}
use native.Mathlib.Omega.{arith}
use native.Mathlib.Numerals.{add-one}
use native.Mathlib.Decide.{ℕ_discrete}
use lib.Dec.{eqb}
use lib.ListN.{length, get_or, take, drop, set, length-set}
use borrow.Author.Tests.{eq-eqb, ne_eqb}
use lib.Seq.{take-suc, drop-cons, split_at, get_or-take, take-take, take-append-le, drop-append-le, length-take-le, get_or-set_same, get_or-set_other}
use Rattle.lists.specs.Tab.{tab}
use Rattle.lists.specs.Numbers.{range, keep, find}
use Rattle.lists.proofs.Bools.{not-true}
use Rattle.lists.proofs.Numbers.{◌∈◌, keep-yes, keep-no, keep-lengths, range-mem, mem-range, range_length, keep-mem, mem-keep}
use Rattle.index.specs.Breadth.{breadth, order, parent}
use Rattle.index.specs.Pairs.{Book}
use Rattle.index.specs.Steps.{fresh, unmet, Spread, order_from, Hung, Searched, Parented}
use Rattle.index.proofs.Queue.{keep_same}

-- the first that passes, after some that do not
find_at : (f : ℕ → Bool) (xs : List ℕ) (y : ℕ) (ys : List ℕ) → ((x : ℕ) → x ∈ xs → f x ≡ false) → f y ≡ true → find f (xs ++ (y ∷ ys)) ≡ y
unfolding find
find_at f [] y ys h e = rw (e, find)
find_at f (x ∷ xs) y ys h e = rw (h x (here refl), find) (find_at f xs y ys (λ z m. h z (there m)) e)

keep_all : (f : ℕ → Bool) (xs : List ℕ) → ((x : ℕ) → x ∈ xs → f x ≡ true) → keep f xs ≡ xs
unfolding keep
keep_all f [] h = refl
keep_all f (x ∷ xs) h = keep-yes f x xs (h x (here refl)) ∙ ap (λ (l : List ℕ). x ∷ l) (keep_all f xs (λ y m. h y (there m)))

range-open : (a m : ℕ) → range a (suc m) ≡ a ∷ range (suc a) m
unfolding range tab
range-open a m = refl

some : (xs : List ℕ) {x : ℕ} → x ∈ xs → 0 < length xs
some [] m = absurd (Memᴰ.not-nil m)
some (y ∷ xs) m = omega arith

-- the level of a piece after a round that began at `tail`
unfoldable raised : List ℕ → (ℕ → ℕ) → ℕ → ℕ → ℕ
raised par level tail q = elim (fresh par q) [ true ↦ tail | false ↦ level q ]

raised-new : (par : List ℕ) (level : ℕ → ℕ) (tail q : ℕ) → fresh par q ≡ true → raised par level tail q ≡ tail
unfolding raised
raised-new par level tail q f = rw (f, raised)

raised-old : (par : List ℕ) (level : ℕ → ℕ) (tail q : ℕ) → fresh par q ≡ false → raised par level tail q ≡ level q
unfolding raised
raised-old par level tail q f = rw (f, raised)

module _ (n : ℕ) (edge : ℕ → ℕ → Bool) (k : ℕ) where
  -- the queue has the pieces met; the parts of those before `head` are among them
  pub record Round (par ord : List ℕ) (head tail : ℕ) : Type 0 where
    pub within : head ≤ tail
    pub room : n ≤ length ord
    pub whole : order_from n edge k ≡ take head ord ++ breadth n edge (n - head) (drop head (take tail ord)) (unmet n par)
    pub count : tail + length (unmet n par) ≤ n
    pub start : fresh par k ≡ false
    pub queue : (q : ℕ) → q ∈ take tail ord → (q < n) × (fresh par q ≡ false)
    pub listed : (q : ℕ) → q < n → fresh par q ≡ false → q ∈ take tail ord
    pub unknown : (q : ℕ) → q < n → fresh par q ≡ true → (x : ℕ) → x ∈ take head ord → edge q x ≡ false
    pub level : ℕ → ℕ
    pub fits : (q : ℕ) → q < n → fresh par q ≡ false → level q < tail
    pub hung : (q : ℕ) → q < n → (q ≡ k → ⊥) → fresh par q ≡ false → Hung n edge k level par q

  module _ (par ord : List ℕ) (head tail : ℕ) (R : Round par ord head tail) where
    -- one round
    module _ (l : head < tail) where
      abbrev c : ℕ
      c = get_or ord head 0

      len : length (take tail ord) ≡ tail
      len = length-take-le tail ord (omega (arith, R.count, R.room))

      at_head : get_or (take tail ord) head 0 ≡ c
      at_head = get_or-take tail ord head 0 l

      queue-head : drop head (take tail ord) ≡ c ∷ drop (suc head) (take tail ord)
      queue-head = drop-cons (take tail ord) head 0 (omega (arith, len)) ∙ ap (λ (x : ℕ). x ∷ drop (suc head) (take tail ord)) at_head

      -- what is taken off the queue is a piece that is met
      pub head-met : (c < n) × (fresh par c ≡ false)
      head-met = R.queue c (rw (split_at (take tail ord) head 0 (omega (arith, len)), at_head) (Memᴰ.append_right (take head (take tail ord)) (here refl)))

      module _ (par' ord' : List ℕ) (tail' : ℕ) (S : Spread n edge c par ord tail par' ord' tail') (lk : k < n) where
        abbrev new : List ℕ
        new = keep (λ q. edge q c) (unmet n par)

        abbrev rest : List ℕ
        rest = breadth n edge (n - (head + 1)) (drop (suc head) (take tail ord) ++ new) (keep (λ q. not (edge q c)) (unmet n par))

        front : take (head + 1) ord' ≡ take head ord ++ (c ∷ [])
        front = rw (add-one head)
            (sym (take-take (suc head) tail' ord' (omega (arith, S.count)))
            ∙ ap (take (suc head)) S.queued
            ∙ take-append-le (suc head) (take tail ord) new (omega (arith, len))
            ∙ take-take (suc head) tail ord l
            ∙ take-suc ord head 0 (omega (arith, R.count, R.room)))

        back : drop (head + 1) (take tail' ord') ≡ drop (suc head) (take tail ord) ++ new
        back = rw (add-one head, S.queued) (drop-append-le (suc head) (take tail ord) new (omega (arith, len)))

        opened : order_from n edge k ≡ take head ord ++ (c ∷ rest)
        unfolding breadth
        opened = let d : n - head ≡ suc (n - (head + 1)) = omega (arith, R.count) in rw (d, queue-head) at R.whole

        -- what was met stays so, and the parts of c are met
        still : (q : ℕ) → q < n → fresh par q ≡ false → fresh par' q ≡ false
        still q h f = not-true (fresh par' q) (λ t. true≢false (sym (S.stays q h t).0 ∙ f))

        reached : (q : ℕ) → q < n → edge q c ≡ true → fresh par' q ≡ false
        reached q h g = not-true (fresh par' q) (λ t. true≢false (sym g ∙ (S.stays q h t).1))

        is-new : (q : ℕ) → q < n → fresh par q ≡ true → edge q c ≡ true → q ∈ new
        unfolding unmet
        is-new q h f g = mem-keep (λ q. edge q c) (unmet n par) (mem-keep (fresh par) (range 0 n) (mem-range 0 n q (omega arith) (omega arith)) f) g

        new_is : (q : ℕ) → q ∈ new → (q < n) × (edge q c ≡ true)
        unfolding unmet
        new_is q m =
            let a = keep-mem (λ q. edge q c) (unmet n par) m in
            let b = keep-mem (fresh par) (range 0 n) a.0 in
            (omega (arith, range-mem 0 n b.0), a.1)

        abbrev level' : ℕ → ℕ
        level' = raised par R.level tail

        abbrev Settled : ℕ → Type 0
        Settled q = ((fresh par q ≡ true) × (edge q c ≡ true) × (get_or par' q 0 ≡ c)) ⊎ ((fresh par q ≡ false) × (get_or par' q 0 ≡ get_or par q 0))

        pub round-next : Round par' ord' (head + 1) tail'
        round-next =
            record {
              within = omega (arith, S.count);
              room = omega (arith, S.ord_length, R.room);
              whole = rw (front, back, S.left) (opened ∙ sym (append_assoc (take head ord) (c ∷ []) rest));
              count = omega (arith, R.count, S.count, ap length S.left, keep-lengths (λ q. edge q c) (unmet n par));
              start = still k lk R.start;
              queue = λ q m. stands q (Memᴰ.append_cases (take tail ord) (rw S.queued at m));
              listed = λ q h f. rw S.queued (lists q h (S.settled q h f));
              unknown = λ q h f x m. past q h (S.stays q h f).0 (S.stays q h f).1 x (Memᴰ.append_cases (take head ord) (rw front at m));
              level = level';
              fits = λ q h f. below q h (S.settled q h f);
              hung = λ q h o f. hangs q h o (S.settled q h f);
            }
          where
            stands : (q : ℕ) → (q ∈ take tail ord) ⊎ (q ∈ new) → (q < n) × (fresh par' q ≡ false)
            stands q (inl i) = let r = R.queue q i in (r.0, still q r.0 r.1)
            stands q (inr i) = let r = new_is q i in (r.0, reached q r.0 r.1)

            past : (q : ℕ) → q < n → fresh par q ≡ true → edge q c ≡ false → (x : ℕ) → (x ∈ take head ord) ⊎ (x ∈ c ∷ []) → edge q x ≡ false
            past q h f g x (inl i) = R.unknown q h f x i
            past q h f g x (inr i) = rw (Memᴰ.eq_of_singleton i) g

            lists : (q : ℕ) → q < n → Settled q → q ∈ take tail ord ++ new
            lists q h (inl w) = Memᴰ.append_right (take tail ord) (is-new q h w.0 w.1)
            lists q h (inr w) = Memᴰ.append_left new (R.listed q h w.0)

            below : (q : ℕ) → q < n → Settled q → level' q < tail'
            below q h (inl w) = omega (arith, raised-new par R.level tail q w.0, some new (is-new q h w.0 w.1), S.count)
            below q h (inr w) = omega (arith, raised-old par R.level tail q w.0, R.fits q h w.0, S.count)

            hangs : (q : ℕ) → q < n → (q ≡ k → ⊥) → Settled q → Hung n edge k level' par' q
            hangs q h o (inl w) =
                record {
                  piece = rw w.2 head-met.0;
                  met = rw w.2 (still c head-met.0 head-met.1);
                  part = rw w.2 w.1;
                  lower = rw (w.2, raised-new par R.level tail q w.0, raised-old par R.level tail c head-met.1) (R.fits c head-met.0 head-met.1);
                  first = w.2 ∙ sym (ap (find (λ c. edge q c)) opened ∙ find_at (λ c. edge q c) (take head ord) c rest (λ x m. R.unknown q h w.0 x m) w.1);
                }
            hangs q h o (inr w) =
                let H = R.hung q h o w.0 in
                record {
                  piece = rw w.1 H.piece;
                  met = rw w.1 (still (get_or par q 0) H.piece H.met);
                  part = rw w.1 H.part;
                  lower = rw (w.1, raised-old par R.level tail q w.0, raised-old par R.level tail (get_or par q 0) H.met) H.lower;
                  first = w.1 ∙ H.first;
                }

  -- before the first round
  module _ (par ord : List ℕ) (lk : k < n) (room : n ≤ length par) (room' : n ≤ length ord) (none : (q : ℕ) → q < n → fresh par q ≡ true) (small : n ≤ 2048) where
    fresh_at : (q : ℕ) → q < n → fresh (set par k k) q ≡ not (eqb q k)
    unfolding fresh
    fresh_at q h = go (ℕ_discrete q k)
      where
        go : Dec (q ≡ k) → eqb (get_or (set par k k) q 0) 2048 ≡ not (eqb q k)
        go (yes x) = rw (x, get_or-set_same par k k 0 (omega arith), eq-eqb k k refl) (ne_eqb k 2048 (λ z. omega arith))
        go (no x) = rw (get_or-set_other par k q k 0 x, ne_eqb q k x) (none q h)

    others : unmet n (set par k k) ≡ keep (λ q. not (eqb q k)) (range 0 n)
    unfolding unmet
    others = keep_same (fresh (set par k k)) (λ q. not (eqb q k)) (range 0 n) (λ q m. fresh_at q (omega (arith, range-mem 0 n m)))

    one : take 1 (set ord 0 k) ≡ k ∷ []
    one = take-suc (set ord 0 k) 0 0 (omega (arith, length-set ord 0 k)) ∙ ap (λ (x : ℕ). x ∷ []) (get_or-set_same ord 0 k 0 (omega arith))

    only : (q : ℕ) → q < n → fresh (set par k k) q ≡ false → q ≡ k
    only q h f = elim (ℕ_discrete q k) [ yes x ↦ x | no x ↦ absurd (true≢false (sym (fresh_at q h ∙ ap not (ne_eqb q k x)) ∙ f)) ]

    begun : fresh (set par k k) k ≡ false
    begun = fresh_at k lk ∙ ap not (eq-eqb k k refl)

    pub round-start : Round (set par k k) (set ord 0 k) 0 1
    unfolding unmet
    round-start =
        record {
          within = omega arith;
          room = omega (arith, length-set ord 0 k);
          whole = begin;
          count = omega (arith, keep-lengths (fresh (set par k k)) (range 0 n), range_length 0 n, some (keep (λ q. not (fresh (set par k k) q)) (range 0 n)) (mem-keep (λ q. not (fresh (set par k k) q)) (range 0 n) (mem-range 0 n k (omega arith) (omega arith)) (ap not begun)));
          start = begun;
          queue = λ q m. let x = Memᴰ.eq_of_singleton (rw one at m) in rw x (lk, begun);
          listed = λ q h f. rw one (here (only q h f));
          unknown = λ q h w x m. absurd (Memᴰ.not-nil m);
          level = λ q. 0;
          fits = λ q h f. omega arith;
          hung = λ q h o f. absurd (o (only q h f));
        }
      where
        begin : order_from n edge k ≡ breadth n edge (n - 0) (take 1 (set ord 0 k)) (unmet n (set par k k))
        begin = unfold order_from in let d : n - 0 ≡ n = omega arith in rw (d, one, others)

-- ## From piece 0, in a book

module _ (n : ℕ) (edge : ℕ → ℕ → Bool) (B : Book n edge) (par : List ℕ) (S : Searched n edge 0 par) where
  -- every piece is met: its container is lower
  met-below : (b p : ℕ) → B.level p < b → p < n → fresh par p ≡ false
  met-below zero p h l = absurd (omega arith)
  met-below (suc b) zero h l = S.start
  met-below (suc b) (suc p) h l =
      let c = B.held (suc p) (omega arith) l in
      let lc = B.whole (suc p) c.0 c.1 in
      S.parts (suc p) c.0 l lc c.1 (met-below b c.0 (omega (arith, B.lower (suc p) c.0 c.1)) lc)

  same-order : order_from n edge 0 ≡ order n edge
  unfolding order_from order
  same-order =
      let d : n ≡ suc (n - 1) = omega (arith, B.some) in
      ap
      (λ (us : List ℕ). breadth n edge n (0 ∷ []) us)
      (ap (λ (m : ℕ). keep (λ q. not (eqb q 0)) (range 0 m)) d
      ∙ ap (keep (λ q. not (eqb q 0))) (range-open 0 (n - 1))
      ∙ keep-no (λ q. not (eqb q 0)) 0 (range 1 (n - 1)) refl
      ∙ keep_all (λ q. not (eqb q 0)) (range 1 (n - 1)) (λ q m. ap not (ne_eqb q 0 (λ z. omega (arith, range-mem 1 (n - 1) m)))))

  pub searched-parents : Parented n edge par
  unfolding parent
  searched-parents =
      record {
        parents = λ q pos l.
            (S.hung q l (λ z. omega arith) (met-below (suc (B.level q)) q (omega arith) l)).first ∙ ap (find (λ c. edge q c)) same-order;
      }
