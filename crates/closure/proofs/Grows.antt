-- Matrices that grow by the bits of a function. Assumes nothing.
use Prim.Native.Nat.{ℕ, ◌+◌, ◌<◌}
use mathlib.Core.Path.{◌≡◌, refl, sym, ap, ◌∙◌}
use mathlib.Core.Bool.{Bool, true, false, not, ◌&&◌, ◌||◌, or-false, or-true, or_assoc, and-false, and-true, and_comm}
use mathlib.Core.List.{List}
use native.Mathlib.Decide.{ℕ_discrete, dec_lt}
use native.Mathlib.Omega.{arith}
use borrow.Author.Tests.{eq-eqb, ne_eqb, lt-ltb, le-ltb}
use lib.Dec.{eqb, ltb}
use lib.ListN.{get_or}
use Rattle.matrices.specs.Matrix.{bit_of, Inserted}
use Rattle.closure.specs.Stored.{stepping}
use Rattle.closure.specs.Closed.{Grown}

pub grown-none : (m : List ℕ) (f : ℕ → ℕ → Bool) → ((x y : ℕ) → f x y ≡ false) → Grown m m f
grown-none m f h = record { bits = λ x y l k. sym (ap (λ (t : Bool). bit_of m x y || t) (h x y) ∙ or-false (bit_of m x y)) }

pub grown-same : {m m' : List ℕ} {f g : ℕ → ℕ → Bool} → ((x y : ℕ) → f x y ≡ g x y) → Grown m m' f → Grown m m' g
grown-same {m} h G = record { bits = λ x y l k. G.bits x y l k ∙ ap (λ (t : Bool). bit_of m x y || t) (h x y) }

pub grown-two : {m m' m'' : List ℕ} {f g : ℕ → ℕ → Bool} → Grown m m' f → Grown m' m'' g → Grown m m'' (λ x y. f x y || g x y)
grown-two {m} {f = f} {g = g} F G =
    record { bits = λ x y l k. G.bits x y l k ∙ ap (λ (t : Bool). t || g x y) (F.bits x y l k) ∙ or_assoc (bit_of m x y) (f x y) (g x y) }

pub grown-insert : (m m' : List ℕ) (r i : ℕ) → Inserted m m' r i → Grown m m' (λ x y. eqb r x && eqb i y)
grown-insert m m' r i I = record { bits = λ x y l k. one x y k (ℕ_discrete r x) (ℕ_discrete i y) }
  where
    one : (x y : ℕ) → y < 2048 → Dec (r ≡ x) → Dec (i ≡ y) → bit_of m' x y ≡ (bit_of m x y || (eqb r x && eqb i y))
    one x y k (yes e) (yes e') = rw (← e, ← e') (I.hit ∙ sym (rw (eq-eqb r r refl, eq-eqb i i refl) (or-true (bit_of m r i))))
    one x y k (yes e) (no e') =
        I.other x y k (λ _ q. e' (sym q)) ∙ sym (ap (λ (t : Bool). bit_of m x y || (eqb r x && t)) (ne_eqb i y e') ∙ ap (λ (t : Bool). bit_of m x y || t) (and-false (eqb r x)) ∙ or-false (bit_of m x y))
    one x y k (no e) d =
        I.other x y k (λ q _. e (sym q)) ∙ sym (ap (λ (t : Bool). bit_of m x y || (t && eqb i y)) (ne_eqb r x e) ∙ or-false (bit_of m x y))

-- the diagonal by one bit more, where a test holds
pub diagonal-more :
    (test : ℕ → Bool) (k x y : ℕ)
    → ((eqb x y && (ltb x k && test x)) || (test k && (eqb k x && eqb k y))) ≡ (eqb x y && (ltb x (k + 1) && test x))
diagonal-more test k x y = pick (ℕ_discrete x y) (ℕ_discrete k x) (dec_lt x k)
  where
    pick : Dec (x ≡ y) → Dec (k ≡ x) → Dec (x < k) → ((eqb x y && (ltb x k && test x)) || (test k && (eqb k x && eqb k y))) ≡ (eqb x y && (ltb x (k + 1) && test x))
    pick (no e) (yes e') d = simp (ne_eqb x y e, ne_eqb k y (λ q. e (sym e' ∙ q)), and-false)
    pick (no e) (no e') d = simp (ne_eqb x y e, ne_eqb k x e', and-false)
    pick (yes e) (yes e') d =
        simp (eq-eqb x y e, eq-eqb k x e', eq-eqb k y (e' ∙ e), le-ltb x k (omega arith), lt-ltb x (k + 1) (omega arith), and-true) (ap test e')
    pick (yes e) (no e') (yes h) = simp (eq-eqb x y e, ne_eqb k x e', lt-ltb x k h, lt-ltb x (k + 1) (omega arith), and-false, or-false)
    pick (yes e) (no e') (no h) = simp (eq-eqb x y e, ne_eqb k x e', le-ltb x k (omega arith), le-ltb x (k + 1) (omega arith), and-false)

pub grown-on : {m m' : List ℕ} (f : ℕ → ℕ → Bool) (on : Bool) → on ≡ true → Grown m m' f → Grown m m' (λ x y. on && f x y)
grown-on f on e G = grown-same (λ x y. sym (ap (λ (t : Bool). t && f x y) e)) G

-- the bits of a record in one order and in the other
pub grown-record :
    (m m' m'' : List ℕ) (on straight swapped : Bool) (a b : ℕ) → on ≡ true → Grown m m' (λ x y. straight && (eqb a x && eqb b y))
    → Grown m' m'' (λ x y. swapped && (eqb b x && eqb a y)) → Grown m m'' (λ x y. on && ((straight && (eqb a x && eqb b y)) || (swapped && (eqb a y && eqb b x))))
grown-record m m' m'' on straight swapped a b e F G =
    grown-on (λ x y. (straight && (eqb a x && eqb b y)) || (swapped && (eqb a y && eqb b x))) on e
    (grown-same (λ x y. ap (λ (t : Bool). (straight && (eqb a x && eqb b y)) || (swapped && t)) (and_comm (eqb b x) (eqb a y))) (grown-two F G))

-- the step of a record between leaders
pub grown-step :
    (m m' lead : List ℕ) (on : Bool) (a b p c : ℕ) → on ≡ true → p ≡ get_or lead a 0 → c ≡ get_or lead b 0 → Grown m m' (λ x y. not (eqb p c) && (eqb c x && eqb p y))
    → Grown m m' (λ x y. on && stepping lead x y a b)
unfolding stepping
grown-step m m' lead on a b p c e q r G = grown-on (λ x y. stepping lead x y a b) on e (rw (q, r) at G)
