-- One round of the breadth-first search, part by part: parents, with 2048 for a piece that is not met yet, and the queue in a list with a tail. Assumes nothing.
use mathlib.Core.Path.{◌≡◌, refl, sym, ap, ◌∙◌}
use mathlib.Core.Logic.{◌⊎◌, inl, inr}
use mathlib.Core.Bool.{Bool, true, false, not, ◌&&◌, true≢false, and-false}
use mathlib.Core.List.Memᴰ.{head as here}
use mathlib.Core.List.Memᴰ.{tail as there}
use mathlib.Core.List.{List, [], ◌∷◌, ◌++◌, append_assoc, append-nil}
use Prim.Native.Nat.{ℕ, zero, suc, ◌+◌, ◌-◌, ◌≤◌, ◌<◌}
use native.Mathlib.Omega.{arith}
use native.Mathlib.Numerals.{add-one}
use native.Mathlib.Decide.{ℕ_discrete, dec_lt}
use lib.Dec.{eqb, ltb}
use Rattle.lists.specs.Tab.{tab}
use lib.ListN.{length, get_or, take, set, length-set}
use lib.Seq.{take-suc-set, get_or-set_same, get_or-set_other}
use borrow.Author.Tests.{eq-eqb, ne_eqb, lt-ltb, le-ltb}
use Rattle.lists.specs.Numbers.{range, keep}
use Rattle.lists.proofs.Numbers.{same_test, ◌∈◌, which, keep-yes, keep-no, keep-lengths, range-mem}
use Rattle.index.specs.Steps.{fresh, unmet, Spread}
use Rattle.index.proofs.Nexts.{Next}

-- ## Lists

pub keep_same : (f g : ℕ → Bool) (xs : List ℕ) → ((x : ℕ) → x ∈ xs → f x ≡ g x) → keep f xs ≡ keep g xs
unfolding keep
keep_same f g [] h = refl
keep_same f g (x ∷ xs) h = go (which (g x)) (h x (here refl)) (keep_same f g xs (λ y m. h y (there m)))
  where
    go : (g x ≡ true) ⊎ (g x ≡ false) → f x ≡ g x → keep f xs ≡ keep g xs → keep f (x ∷ xs) ≡ keep g (x ∷ xs)
    go (inl t) e r = rw (keep-yes f x xs (e ∙ t), keep-yes g x xs t, r)
    go (inr t) e r = rw (keep-no f x xs (e ∙ t), keep-no g x xs t, r)

pub keep-keep : (f g : ℕ → Bool) (xs : List ℕ) → keep g (keep f xs) ≡ keep (λ x. f x && g x) xs
unfolding keep
keep-keep f g [] = refl
keep-keep f g (x ∷ xs) = go (which (f x)) (which (g x)) (keep-keep f g xs)
  where
    h : ℕ → Bool
    h x = f x && g x

    go : (f x ≡ true) ⊎ (f x ≡ false) → (g x ≡ true) ⊎ (g x ≡ false) → keep g (keep f xs) ≡ keep h xs → keep g (keep f (x ∷ xs)) ≡ keep h (x ∷ xs)
    go (inl t) (inl u) r = rw (keep-yes f x xs t, keep-yes g x (keep f xs) u, keep-yes h x xs (rw t u), r)
    go (inl t) (inr u) r = rw (keep-yes f x xs t, keep-no g x (keep f xs) u, keep-no h x xs (rw t u), r)
    go (inr t) u r = rw (keep-no f x xs t, keep-no h x xs (rw t), r)

-- one number more
wrote : (b : List ℕ) (at v : ℕ) (es xs : List ℕ) → at < length b → take at b ++ (v ∷ es) ≡ xs → take (at + 1) (set b at v) ++ es ≡ xs
wrote b at v es xs l h = rw (add-one at, take-suc-set b at v l, append_assoc (take at b) (v ∷ []) es) h

-- ## Met or not

module _ (par : List ℕ) (q : ℕ) where
  pub fresh-is : get_or par q 0 ≡ 2048 → fresh par q ≡ true
  unfolding fresh
  fresh-is e = eq-eqb (get_or par q 0) 2048 e

  pub met-is : (get_or par q 0 ≡ 2048 → ⊥) → fresh par q ≡ false
  unfolding fresh
  met-is o = ne_eqb (get_or par q 0) 2048 o

  pub is-met : fresh par q ≡ false → get_or par q 0 ≡ 2048 → ⊥
  is-met f e = true≢false (sym (fresh-is e) ∙ f)

-- ## One round: the parts of c that are not met yet

-- the parents when the pieces below p have been looked at
unfoldable pub after : (ℕ → ℕ → Bool) → List ℕ → ℕ → ℕ → ℕ → ℕ
after edge par c p q = elim (ltb q p && (fresh par q && edge q c)) [ true ↦ c | false ↦ get_or par q 0 ]

-- what is still to be queued
unfoldable pub coming : ℕ → (ℕ → ℕ → Bool) → List ℕ → ℕ → ℕ → List ℕ
coming n edge par c p = keep (λ q. edge q c) (keep (fresh par) (range p (n - p)))

pub record Spreading (n : ℕ) (edge : ℕ → ℕ → Bool) (c : ℕ) (par₀ : List ℕ) (ord₀ : List ℕ) (tail₀ : ℕ) (par ord : List ℕ) (tail p : ℕ) : Type 0 where
  pub par_length : length par ≡ length par₀
  pub ord_length : length ord ≡ length ord₀
  pub parents : (q : ℕ) → get_or par q 0 ≡ after edge par₀ c p q
  pub queued : take tail ord ++ coming n edge par₀ c p ≡ take tail₀ ord₀ ++ coming n edge par₀ c 0
  pub count : tail + length (coming n edge par₀ c p) ≡ tail₀ + length (coming n edge par₀ c 0)

module _ (edge : ℕ → ℕ → Bool) (par : List ℕ) (c : ℕ) where
  after-hit : (p q : ℕ) → q < p → fresh par q ≡ true → edge q c ≡ true → after edge par c p q ≡ c
  unfolding after
  after-hit p q l f g = rw (lt-ltb q p l, f, g, after)

  after-miss : (p q : ℕ) → (ltb q p && (fresh par q && edge q c)) ≡ false → after edge par c p q ≡ get_or par q 0
  unfolding after
  after-miss p q f = rw (f, after)

  after-from : (p q : ℕ) → p ≤ q → after edge par c p q ≡ get_or par q 0
  after-from p q l = after-miss p q (rw (le-ltb q p l))

  after-other : (p q : ℕ) → (q ≡ p → ⊥) → after edge par c (p + 1) q ≡ after edge par c p q
  unfolding after
  after-other p q x = ap (λ (b : Bool). pick b) (same_test p q x)
    where
      pick : Bool → ℕ
      pick b = elim (b && (fresh par q && edge q c)) [ true ↦ c | false ↦ get_or par q 0 ]

module _ (n : ℕ) (edge : ℕ → ℕ → Bool) (c : ℕ) (par₀ ord₀ : List ℕ) (tail₀ : ℕ) where
  pub spread-start : Spreading n edge c par₀ ord₀ tail₀ par₀ ord₀ tail₀ 0
  spread-start = record { par_length = refl; ord_length = refl; parents = λ q. sym (after-from edge par₀ c 0 q (omega arith)); queued = refl; count = refl }

  all-coming : coming n edge par₀ c 0 ≡ keep (λ q. edge q c) (unmet n par₀)
  unfolding coming unmet
  all-coming = let d : n - 0 ≡ n = omega arith in rw d

  none-coming : (p : ℕ) → n ≤ p → coming n edge par₀ c p ≡ []
  unfolding coming range tab keep
  none-coming p l = let d : n - p ≡ 0 = omega arith in rw d

  open-range : (p : ℕ) → p < n → range p (n - p) ≡ p ∷ range (p + 1) (n - (p + 1))
  unfolding range tab
  open-range p l = let d : n - p ≡ suc (n - (p + 1)) = omega arith in rw (d, add-one p)

  module _ (par ord : List ℕ) (tail p : ℕ) (S : Spreading n edge c par₀ ord₀ tail₀ par ord tail p) where
    -- at p nothing has changed yet
    same_at : get_or par p 0 ≡ get_or par₀ p 0
    same_at = S.parents p ∙ after-from edge par₀ c p p (omega arith)

    same-fresh : fresh par p ≡ fresh par₀ p
    unfolding fresh
    same-fresh = ap (λ (x : ℕ). eqb x 2048) same_at

    come-yes : p < n → fresh par p ≡ true → edge p c ≡ true → coming n edge par₀ c p ≡ p ∷ coming n edge par₀ c (p + 1)
    unfolding coming
    come-yes l f g = rw (
      open-range p l,
      keep-yes (fresh par₀) p (range (p + 1) (n - (p + 1))) (sym same-fresh ∙ f),
      keep-yes (λ q. edge q c) p (keep (fresh par₀) (range (p + 1) (n - (p + 1)))) g,
    )

    come-no : (fresh par p && edge p c) ≡ false → coming n edge par₀ c p ≡ coming n edge par₀ c (p + 1)
    unfolding coming
    come-no h = elim (dec_lt p n) [ yes l ↦ go l (which (fresh par₀ p)) | no l ↦ none-coming p (omega arith) ∙ sym (none-coming (p + 1) (omega arith)) ]
      where
        tl : List ℕ
        tl = range (p + 1) (n - (p + 1))

        go : p < n → (fresh par₀ p ≡ true) ⊎ (fresh par₀ p ≡ false) → keep (λ q. edge q c) (keep (fresh par₀) (range p (n - p))) ≡ keep (λ q. edge q c) (keep (fresh par₀) tl)
        go l (inl t) = rw (open-range p l, keep-yes (fresh par₀) p tl t, keep-no (λ q. edge q c) p (keep (fresh par₀) tl) (rw (same-fresh, t) at h))
        go l (inr t) = rw (open-range p l, keep-no (fresh par₀) p tl t)

    -- p is queued, and there is room for it
    module _ (l : p < n) (w : get_or par p 0 ≡ 2048) (g : edge p c ≡ true) (small : n ≤ 2048) (long : length par₀ ≡ 2048) (long' : length ord₀ ≡ 2048) (room : tail₀ + length (unmet n par₀) ≤ 2048) where
      come : coming n edge par₀ c p ≡ p ∷ coming n edge par₀ c (p + 1)
      come = come-yes l (fresh-is par p w) g

      pub spread-room : tail < 2048
      spread-room = omega (arith, ap length come, S.count, ap length all-coming, keep-lengths (λ q. edge q c) (unmet n par₀))

      pub spread-take : Spreading n edge c par₀ ord₀ tail₀ (set par p c) (set ord tail p) (tail + 1) (p + 1)
      spread-take =
          record {
            par_length = length-set par p c ∙ S.par_length;
            ord_length = length-set ord tail p ∙ S.ord_length;
            parents = λ q. at q (ℕ_discrete q p);
            queued = wrote ord tail p (coming n edge par₀ c (p + 1)) (take tail₀ ord₀ ++ coming n edge par₀ c 0) (omega (arith, spread-room, S.ord_length)) (rw come at S.queued);
            count = omega (arith, ap length come, S.count);
          }
        where
          at : (q : ℕ) → Dec (q ≡ p) → get_or (set par p c) q 0 ≡ after edge par₀ c (p + 1) q
          at q (yes x) = rw x (get_or-set_same par p c 0 (omega (arith, S.par_length)) ∙ sym (after-hit edge par₀ c (p + 1) p (omega arith) (sym same-fresh ∙ fresh-is par p w) g))
          at q (no x) = get_or-set_other par p q c 0 x ∙ S.parents q ∙ sym (after-other edge par₀ c p q x)

    -- or passed over
    pub spread-pass : ((fresh par p && edge p c) ≡ false) → Spreading n edge c par₀ ord₀ tail₀ par ord tail (p + 1)
    spread-pass f =
        record {
          par_length = S.par_length;
          ord_length = S.ord_length;
          parents = λ q. at q (ℕ_discrete q p);
          queued = rw (come-no f) at S.queued;
          count = rw (come-no f) at S.count;
        }
      where
        at : (q : ℕ) → Dec (q ≡ p) → get_or par q 0 ≡ after edge par₀ c (p + 1) q
        at q (yes x) = rw x (same_at ∙ sym (after-miss edge par₀ c (p + 1) p (rw (lt-ltb p (p + 1) (omega arith), ← same-fresh) f)))
        at q (no x) = S.parents q ∙ sym (after-other edge par₀ c p q x)

  -- up to the next part
  spread-over : (k p : ℕ) (par ord : List ℕ) (tail : ℕ) → Spreading n edge c par₀ ord₀ tail₀ par ord tail p → ((q : ℕ) → p ≤ q → q < p + k → edge q c ≡ false)
      → Spreading n edge c par₀ ord₀ tail₀ par ord tail (p + k)
  spread-over zero p par ord tail S h = let e : p ≡ p + 0 = omega arith in rw e at S
  spread-over (suc k) p par ord tail S h =
      let e : p + 1 + k ≡ p + suc k = omega arith in
      rw e at (spread-over k (p + 1) par ord tail (spread-pass par ord tail p S (rw (h p (omega arith) (omega arith)) (and-false (fresh par p)))) (λ q a b. h q (omega arith) (omega arith)))

  pub spread-next : (p r : ℕ) (par ord : List ℕ) (tail : ℕ) → Spreading n edge c par₀ ord₀ tail₀ par ord tail p → Next n edge c p r
      → Spreading n edge c par₀ ord₀ tail₀ par ord tail r
  spread-next p r par ord tail S N =
      let e : p + (r - p) ≡ r = omega (arith, N.from) in
      rw e at (spread-over (r - p) p par ord tail S (λ q a b. N.before q a (omega arith)))

  -- a part that was met before
  pub spread-met : (p : ℕ) (par ord : List ℕ) (tail : ℕ) → Spreading n edge c par₀ ord₀ tail₀ par ord tail p → (get_or par p 0 ≡ 2048 → ⊥)
      → Spreading n edge c par₀ ord₀ tail₀ par ord tail (p + 1)
  spread-met p par ord tail S f = spread-pass par ord tail p S (rw (met-is par p f))

  -- ## The round is over

  module _ (par ord : List ℕ) (tail p : ℕ) (S : Spreading n edge c par₀ ord₀ tail₀ par ord tail p) (l : n ≤ p) (small : c < 2048) where
    -- a piece at the end: met now, met before, or still not met
    data Case (q : ℕ) : Type 0 where
      now : fresh par₀ q ≡ true → edge q c ≡ true → get_or par q 0 ≡ c → fresh par q ≡ false → Case q
      old : fresh par₀ q ≡ false → get_or par q 0 ≡ get_or par₀ q 0 → fresh par q ≡ false → Case q
      not_yet : fresh par₀ q ≡ true → edge q c ≡ false → fresh par q ≡ true → Case q

    cases : (q : ℕ) → q < n → Case q
    cases q h = go (which (fresh par₀ q)) (which (edge q c))
      where
        turn : (x : ℕ) → get_or par q 0 ≡ x → fresh par q ≡ eqb x 2048
        turn x w = unfold fresh in ap (λ (y : ℕ). eqb y 2048) w

        stay : (fresh par₀ q && edge q c) ≡ false → get_or par q 0 ≡ get_or par₀ q 0
        stay f = S.parents q ∙ after-miss edge par₀ c p q (rw (lt-ltb q p (omega arith)) f)

        go : (fresh par₀ q ≡ true) ⊎ (fresh par₀ q ≡ false) → (edge q c ≡ true) ⊎ (edge q c ≡ false) → Case q
        go (inl f) (inl g) = let w = S.parents q ∙ after-hit edge par₀ c p q (omega arith) f g in now f g w (turn c w ∙ ne_eqb c 2048 (λ x. omega arith))
        go (inl f) (inr g) = let w = stay (rw (f, g)) in not_yet f g (turn (get_or par₀ q 0) w ∙ (unfold fresh in f))
        go (inr f) g = let w = stay (rw f) in old f w (turn (get_or par₀ q 0) w ∙ (unfold fresh in f))

    pub spread-done : Spread n edge c par₀ ord₀ tail₀ par ord tail
    unfolding unmet
    spread-done =
        record {
          par_length = S.par_length;
          ord_length = S.ord_length;
          queued = sym (append-nil (take tail ord)) ∙ rw (none-coming p l, all-coming) at S.queued;
          count = omega (arith, ap length (none-coming p l), ap length all-coming, S.count);
          left = keep_same (fresh par) (λ q. fresh par₀ q && not (edge q c)) (range 0 n) (λ q m. agree q (cases q (omega (arith, range-mem 0 n m))))
              ∙ sym (keep-keep (fresh par₀) (λ q. not (edge q c)) (range 0 n));
          stays = λ q h f. stay q f (cases q h);
          settled = λ q h f. settle q f (cases q h);
        }
      where
        agree : (q : ℕ) → Case q → fresh par q ≡ (fresh par₀ q && not (edge q c))
        agree q (now f g w x) = rw (f, g) x
        agree q (old f w x) = rw f x
        agree q (not_yet f g x) = rw (f, g) x

        stay : (q : ℕ) → fresh par q ≡ true → Case q → (fresh par₀ q ≡ true) × (edge q c ≡ false)
        stay q h (now f g w x) = absurd (true≢false (sym h ∙ x))
        stay q h (old f w x) = absurd (true≢false (sym h ∙ x))
        stay q h (not_yet f g x) = (f, g)

        settle : (q : ℕ) → fresh par q ≡ false → Case q
            → ((fresh par₀ q ≡ true) × (edge q c ≡ true) × (get_or par q 0 ≡ c)) ⊎ ((fresh par₀ q ≡ false) × (get_or par q 0 ≡ get_or par₀ q 0))
        settle q h (now f g w x) = inl (f, g, w)
        settle q h (old f w x) = inr (f, w)
        settle q h (not_yet f g x) = absurd (true≢false (sym x ∙ h))
