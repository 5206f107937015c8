-- What tests and meetings of the closure's rows say of a claim, and of a run of records. Assumes nothing.
use Prim.Native.Nat.{ℕ, zero, suc, ◌+◌, ◌-◌, ◌<◌, ◌≤◌}
use mathlib.Core.Path.{◌≡◌, refl, sym, ap, ap₂, ◌∙◌}
use mathlib.Core.Bool.{Bool, true, false, not, ◌&&◌, ◌||◌, or_assoc, or_comm, false≢true}
use mathlib.Core.List.{List}
use native.Mathlib.Decide.{ℕ_discrete}
use native.Mathlib.Numerals.{add-one}
use native.Mathlib.Omega.{arith}
use borrow.Author.Tests.{eq-eqb, ne_eqb}
use lib.Dec.{eqb}
use Rattle.lists.specs.Any.{any_below}
use Rattle.lists.proofs.Bools.{left_or, or-neither}
use Rattle.lists.proofs.Anys.{below-hit}
use Rattle.matrices.specs.Matrix.{bit_of, common}
use Rattle.rules.specs.Fact.{Fact, PART, APART, MEETS, NOTPART, fact_of, left, right, opposite, Within, AllWithin}
use Rattle.rules.specs.Follows.{storing, turned, meets, follows, clash}
use Rattle.rules.specs.Verdict.{judge, verdict}
use Rattle.rules.proofs.Facts.{opposite-within}
use Rattle.rules.proofs.Marks.{stray}
use Rattle.rules.proofs.Decides.{follows-iff}
use Rattle.rules.proofs.Models.{clash-iff}
use Rattle.rules.proofs.Verdicts.{verdict-denied}
use Rattle.rules.proofs.Plain.{inside, plain, plain_clash, clash-plain, follows-plain}
use Rattle.records.specs.Record.{record_at, records}
use Rattle.records.specs.declared.Record.{Record}
use Rattle.records.specs.Facts.{facts}
use Rattle.records.proofs.Accepted.{says-left, says-right}
use Rattle.closure.specs.Bounded.{Bounded}
use Rattle.closure.specs.Closed.{part_bit, whole_bit, toward_bit, away_bit, out_bit, Holds, Closed}
use Rattle.verdicts.specs.ByMarks.{by_marks}
use Rattle.verdicts.specs.Opposed.{opposed}
use Rattle.verdicts.specs.Tells.{Derived, Answered, Clashing}
use Rattle.closure.proofs.Products.{part-inside, meets-is, apart-is, notpart-is}
use Rattle.closure.proofs.Holding.{any_same, common-holds}
use Rattle.closure.proofs.Runs.{hits, storing-records, record-within}

-- ---- the fact of a kind

part_of : (k a b : ℕ) → k ≡ 1 → fact_of k a b ≡ PART a b
unfolding fact_of
part_of k a b e = rw (eq-eqb k 1 e, fact_of)

apart_of : (k a b : ℕ) → k ≡ 2 → fact_of k a b ≡ APART a b
unfolding fact_of
apart_of k a b e = ap (λ (v : ℕ). fact_of v a b) e

meets-of : (k a b : ℕ) → k ≡ 3 → fact_of k a b ≡ MEETS a b
unfolding fact_of
meets-of k a b e = ap (λ (v : ℕ). fact_of v a b) e

notpart-of : (k a b : ℕ) → (k ≡ 1 → ⊥) → (k ≡ 2 → ⊥) → (k ≡ 3 → ⊥) → fact_of k a b ≡ NOTPART a b
unfolding fact_of
notpart-of k a b x y z = rw (ne_eqb k 1 x, ne_eqb k 2 y, ne_eqb k 3 z, fact_of)

-- opposite kinds add up to 5
opposite-of : (k a b : ℕ) → 1 ≤ k → k ≤ 4 → opposite (fact_of k a b) ≡ fact_of (5 - k) a b
unfolding fact_of
opposite-of zero a b l h = absurd (omega arith)
opposite-of (suc zero) a b l h = refl
opposite-of (suc (suc zero)) a b l h = refl
opposite-of (suc (suc (suc zero))) a b l h = refl
opposite-of (suc (suc (suc (suc zero)))) a b l h = refl
opposite-of (suc (suc (suc (suc (suc k))))) a b l h = absurd (omega arith)

-- ---- one test after another

module _ (x a b : Bool) (e : x ≡ a) where
  pub first_found : x ≡ true → true ≡ (a || b)
  first_found t = sym (left_or b (sym e ∙ t))

  pub first-passed : (y : Bool) → x ≡ false → y ≡ b → y ≡ (a || b)
  first-passed y t f = f ∙ sym (ap (λ (v : Bool). v || b) (sym e ∙ t))

-- ---- what the marks tell

-- of two pieces not marked the marks tell nothing; of others, a fact or its opposite
marks-silent : (void : ℕ → Bool) (f : Fact) → (void (left f) || void (right f)) ≡ false → by_marks void f ≡ false
unfolding by_marks
marks-silent void (PART a b) e = (or-neither (void a) (void b) e).0
marks-silent void (APART a b) e = e
marks-silent void (MEETS a b) e = refl
marks-silent void (NOTPART a b) e = let h = or-neither (void a) (void b) e in rw (h.0, h.1)

marks-decide : (void : ℕ → Bool) (f : Fact) → (void (left f) || void (right f)) ≡ true → by_marks void f ≡ false → by_marks void (opposite f) ≡ true
unfolding by_marks
marks-decide void (PART a b) e m = rw m (sym (ap (λ (v : Bool). v || void b) m) ∙ e)
marks-decide void (APART a b) e m = absurd (false≢true (sym m ∙ e))
marks-decide void (MEETS a b) e m = e
marks-decide void (NOTPART a b) e m = inner (void a) (void b) e m
  where
    inner : (x y : Bool) → (x || y) ≡ true → (not x && y) ≡ false → x ≡ true
    inner true y e m = refl
    inner false y e m = absurd (false≢true (sym m ∙ e))

-- what the stored facts tell, where the marks do not
module _ (void : ℕ → Bool) (n : ℕ) (fs : List Fact) where
  unfoldable pub by_stored : Fact → Bool
  by_stored (PART g k) = inside n fs g k
  by_stored (APART g k) = storing fs 2 (turned (λ x y. inside n fs g x && inside n fs k y))
  by_stored (MEETS g k) = meets (inside n fs) void n fs g k
  by_stored (NOTPART g k) =
      storing fs 4 (λ x y. inside n fs x g && inside n fs k y) || storing fs 2 (turned (λ x y. inside n fs k x && meets (inside n fs) void n fs g y))

  pub marks-first : (f : Fact) → plain void n fs f ≡ (by_marks void f || by_stored f)
  unfolding plain by_marks by_stored
  marks-first (PART g k) = refl
  marks-first (APART g k) = sym (or_assoc (void g) (void k) _)
  marks-first (MEETS g k) = refl
  marks-first (NOTPART g k) = refl

-- ---- the tests

module _ {n : ℕ} {fs : List Fact} (B : Bounded n fs) {a b : ℕ} (la : a < n) (lb : b < n) where
  pub part-told : {d : List ℕ} → Holds n d (part_bit n fs) → bit_of d b a ≡ inside n fs a b
  part-told D = let h = B.fits in D.bits b a lb (omega arith) ∙ part-inside n fs B.within B.some B.fits a b la lb

  apart-told : {u p : List ℕ} → Holds n u (whole_bit n fs) → Holds n p (away_bit n fs) → common p a u b ≡ storing fs 2 (turned (λ x y. inside n fs a x && inside n fs b y))
  apart-told U P = common-holds P U a b la lb ∙ apart-is n fs B.within B.some B.fits a b la lb

  module _ (void : ℕ → Bool) where
    pub meets-told : {d t : List ℕ} → Holds n d (part_bit n fs) → Holds n t (toward_bit void n fs) → common t a d b ≡ meets (inside n fs) void n fs a b
    meets-told D T = common-holds T D a b la lb ∙ meets-is n fs B.within B.some B.fits void a b la lb

    notpart-told : {u q : List ℕ} → Holds n u (whole_bit n fs) → Holds n q (out_bit void n fs) → common q a u b ≡ by_stored void n fs (NOTPART a b)
    unfolding by_stored
    notpart-told U Q = common-holds Q U a b la lb ∙ notpart-is n fs B.within B.some B.fits void a b la lb

-- the pieces of the fact of a kind
either-of : (void : ℕ → Bool) (k a b : ℕ) → (void (left (fact_of k a b)) || void (right (fact_of k a b))) ≡ (void a || void b)
either-of void k a b =
    let r : Record = record { kind = k; origin = 0; a = a; b = b } in
    ap₂ ◌||◌ (ap void (says-left r)) (ap void (says-right r))

module _ (void : ℕ → Bool) (d u p t q : List ℕ) (k a b : ℕ) where
  fact-within : {n : ℕ} → a < n → b < n → Within n (fact_of k a b)
  fact-within la lb =
      let r : Record = record { kind = k; origin = 0; a = a; b = b } in
      (rw (says-left r) la, rw (says-right r) lb)

  module _ (n : ℕ) (fs : List Fact) (B : Bounded n fs) (C : Closed void n fs d u p t q) (la : a < n) (lb : b < n) where
    follows-told : follows void n fs (fact_of k a b) ≡ (by_marks void (fact_of k a b) || by_stored void n fs (fact_of k a b))
    follows-told =
        follows-plain void n fs B.within B.some C.whole (sym C.free) (fact_of k a b) (fact-within la lb) ∙ marks-first void n fs (fact_of k a b)

    stored-told : by_marks void (fact_of k a b) ≡ false → (f : Fact) → fact_of k a b ≡ f → by_stored void n fs f ≡ follows void n fs (fact_of k a b)
    stored-told off f e = sym (follows-told ∙ ap₂ ◌||◌ off (ap (by_stored void n fs) e))

  -- one of the two pieces is marked: the marks tell the claim or its opposite, and the book derives not both
  module _ (m : Bool) (tells : m ≡ by_marks void (fact_of k a b)) where
    pub marked-follows : m ≡ true → Answered void d u p t q k a b 1
    unfolding verdict judge
    marked-follows e = record { is = λ n fs B C la lb. rw (follows-told n fs B C la lb ∙ left_or _ (sym tells ∙ e), judge) }

    pub marked-denied : (void a || void b) ≡ true → m ≡ false → Answered void d u p t q k a b 2
    marked-denied on e = record { is = λ n fs B C la lb. sym (denied n fs B C la lb) }
      where
        denied : (n : ℕ) (fs : List Fact) → Bounded n fs → Closed void n fs d u p t q → a < n → b < n → verdict void n fs (fact_of k a b) ≡ 2
        denied n fs B C la lb =
            let w : Within n (fact_of k a b) = fact-within la lb in
            (verdict-denied void n fs B.within B.some C.whole (λ x. false≢true (C.free ∙ (clash-iff void n fs B.within B.some C.whole).1 x)) (fact_of k a b) w).1
            ((follows-iff void n fs B.within B.some (opposite (fact_of k a b)) (opposite-within n (fact_of k a b) w)).0
            (follows-plain void n fs B.within B.some C.whole (sym C.free) (opposite (fact_of k a b)) (opposite-within n (fact_of k a b) w) ∙ marks-first void n fs (opposite (fact_of k a b)) ∙ left_or _ (marks-decide void (fact_of k a b) (either-of void k a b ∙ on) (sym tells ∙ e))))

-- neither is marked: the stored facts tell
module _ (d u p t q : List ℕ) (k a b : ℕ) (r : Bool) where
  silent : (void : ℕ → Bool) → (void a || void b) ≡ false → by_marks void (fact_of k a b) ≡ false
  silent void off = marks-silent void (fact_of k a b) (either-of void k a b ∙ off)

  module _ (e : k ≡ 1) (is : r ≡ bit_of d b a) where
    pub derived-part : Derived d u p t q k a b r
    unfolding by_stored
    derived-part = record { is = λ void n fs B C la lb off. is ∙ part-told B la lb C.parts ∙ stored-told void d u p t q k a b n fs B C la lb (silent void off) (PART a b) (part_of k a b e) }

  pub derived-apart : k ≡ 2 → r ≡ common p a u b → Derived d u p t q k a b r
  unfolding by_stored
  derived-apart e is = record { is = λ void n fs B C la lb off. is ∙ apart-told B la lb C.wholes C.away ∙ stored-told void d u p t q k a b n fs B C la lb (silent void off) (APART a b) (apart_of k a b e) }

  pub derived-meets : k ≡ 3 → r ≡ common t a d b → Derived d u p t q k a b r
  unfolding by_stored
  derived-meets e is =
      record { is = λ void n fs B C la lb off. is ∙ meets-told B la lb void C.parts C.toward ∙ stored-told void d u p t q k a b n fs B C la lb (silent void off) (MEETS a b) (meets-of k a b e) }

  pub derived-notpart : (k ≡ 1 → ⊥) → (k ≡ 2 → ⊥) → (k ≡ 3 → ⊥) → r ≡ common q a u b → Derived d u p t q k a b r
  derived-notpart x y z is =
      record { is = λ void n fs B C la lb off. is ∙ notpart-told B la lb void C.wholes C.outside ∙ stored-told void d u p t q k a b n fs B C la lb (silent void off) (NOTPART a b) (notpart-of k a b x y z) }

-- ---- the answer about pieces not marked, by whether the claim follows and whether its opposite does

module _ (void : ℕ → Bool) (d u p t q : List ℕ) (k a b : ℕ) (v : Bool) (off : v ≡ false) (either : v ≡ (void a || void b)) where
  unmarked : (void a || void b) ≡ false
  unmarked = sym either ∙ off

  pub answered-follows : (r : Bool) → r ≡ true → Derived d u p t q k a b r → Answered void d u p t q k a b 1
  unfolding verdict judge
  answered-follows r e D = record { is = λ n fs B C la lb. rw (sym (D.is void n fs B C la lb unmarked) ∙ e, judge) }

  module _ (l : 1 ≤ k) (h : k ≤ 4) (r s : Bool) (e : r ≡ false) (D : Derived d u p t q k a b r) (O : Derived d u p t q (5 - k) a b s) where
    told : (n : ℕ) (fs : List Fact) → Bounded n fs → Closed void n fs d u p t q → a < n → b < n → verdict void n fs (fact_of k a b) ≡ judge false s
    unfolding verdict
    told n fs B C la lb =
        ap₂ judge (sym (D.is void n fs B C la lb unmarked) ∙ e) (ap (follows void n fs) (opposite-of k a b l h) ∙ sym (O.is void n fs B C la lb unmarked))

    pub answered-denied : s ≡ true → Answered void d u p t q k a b 2
    unfolding judge
    answered-denied g = record { is = λ n fs B C la lb. sym (told n fs B C la lb ∙ ap (judge false) g) }

    pub answered-open : s ≡ false → Answered void d u p t q k a b 3
    unfolding judge
    answered-open g = record { is = λ n fs B C la lb. sym (told n fs B C la lb ∙ ap (judge false) g) }

-- ---- contradiction, record by record

any-or : (p q : ℕ → Bool) (n : ℕ) → (any_below p n || any_below q n) ≡ any_below (λ x. p x || q x) n
unfolding any_below
any-or p q zero = refl
any-or p q (suc n) =
    or_assoc (p n) (any_below p n) (q n || any_below q n)
    ∙ ap (λ (t : Bool). p n || t) (sym (or_assoc (any_below p n) (q n) (any_below q n)) ∙ ap (λ (t : Bool). t || any_below q n) (or_comm (any_below p n) (q n)) ∙ or_assoc (q n) (any_below p n) (any_below q n))
    ∙ sym (or_assoc (p n) (q n) (any_below p n || any_below q n)) ∙ ap (λ (t : Bool). (p n || q n) || t) (any-or p q n)

-- a test asked only where the kind is k
when : (k c : ℕ) (x y : Bool) → (k ≡ c → x ≡ y) → (eqb k c && x) ≡ (eqb k c && y)
when k c x y h = pick (ℕ_discrete k c)
  where
    pick : Dec (k ≡ c) → (eqb k c && x) ≡ (eqb k c && y)
    pick (yes e) = ap (λ (t : Bool). eqb k c && t) (h e)
    pick (no e) = rw (ne_eqb k c e)

module _ (void : ℕ → Bool) (s d t : List ℕ) where
  -- the four kinds, each by the marks and the matrices
  module _ (n : ℕ) where
    abbrev outlives : ℕ → ℕ → Bool
    outlives x y = not (void x) && void y

    abbrev either : ℕ → ℕ → Bool
    either x y = void x || void y

    abbrev meet : ℕ → ℕ → Bool
    meet = meets (inside n (facts s)) void n (facts s)

    abbrev in-or-void : ℕ → ℕ → Bool
    in-or-void x y = void x || inside n (facts s) x y

    clash-records : Bounded n (facts s) → void 0 ≡ false → Holds n d (part_bit n (facts s)) → Holds n t (toward_bit void n (facts s)) → any_below (λ j. opposed void d t (record_at s j)) (records s) ≡ clash void n (facts s)
    unfolding opposed hits plain_clash stray
    clash-records B z D T =
        any_same _ _ (records s)
        (λ j l.
        ap (λ (v : Bool). ((eqb (record_at s j).kind 1 && outlives (record_at s j).a (record_at s j).b) || (eqb (record_at s j).kind 3 && either (record_at s j).a (record_at s j).b)) || v)
        (ap₂ ◌||◌
        (when (record_at s j).kind 2 _ (meet (record_at s j).a (record_at s j).b)
        (λ e. let w = record-within s n B.within j l (omega arith) (omega arith) in meets-told B w.0 w.1 void D T))
        (when (record_at s j).kind 4 _ (in-or-void (record_at s j).a (record_at s j).b)
        (λ e. let w = record-within s n B.within j l (omega arith) (omega arith) in ap (λ (v : Bool). void (record_at s j).a || v) (part-told B w.0 w.1 D)))))
        ∙ sym (any-or (λ j. hits s 1 outlives j || hits s 3 either j) (λ j. hits s 2 meet j || hits s 4 in-or-void j) (records s))
        ∙ ap₂ ◌||◌ (sym (any-or (hits s 1 outlives) (hits s 3 either) (records s))) (sym (any-or (hits s 2 meet) (hits s 4 in-or-void) (records s)))
        ∙ sym
        (clash-plain void n (facts s) B.within B.some z
        ∙ ap₂ ◌||◌
        (ap₂ ◌||◌ (storing-records s 1 outlives (omega arith) (omega arith)) (storing-records s 3 either (omega arith) (omega arith)))
        (ap₂ ◌||◌ (storing-records s 2 meet (omega arith) (omega arith)) (storing-records s 4 in-or-void (omega arith) (omega arith))))

  pub clashing : (b : Bool) → b ≡ any_below (λ j. opposed void d t (record_at s j)) (records s) → Clashing void (facts s) d t b
  clashing b e = record { is = λ n B z D T. e ∙ clash-records n B z D T }

  -- the search for such a record
  pub clashing-none : any_below (λ j. opposed void d t (record_at s j)) 0 ≡ false
  unfolding any_below
  clashing-none = refl

  module _ (i : ℕ) (r : Record) (v : Bool) (e : r ≡ record_at s i) (is : v ≡ opposed void d t r) where
    pub clashing-more : v ≡ false → any_below (λ j. opposed void d t (record_at s j)) i ≡ false → any_below (λ j. opposed void d t (record_at s j)) (i + 1) ≡ false
    unfolding any_below
    clashing-more q h = ap (any_below (λ j. opposed void d t (record_at s j))) (add-one i) ∙ ap₂ ◌||◌ (sym (ap (opposed void d t) e) ∙ sym is ∙ q) h

    pub clashing-found : v ≡ true → i < records s → true ≡ any_below (λ j. opposed void d t (record_at s j)) (records s)
    clashing-found q l = sym (below-hit (λ j. opposed void d t (record_at s j)) (records s) i l (sym (ap (opposed void d t) e) ∙ sym is ∙ q))

-- a record that states a fact names pieces
pub clashing-asks :
    (s : List ℕ) → AllWithin 2048 (facts s) → (i : ℕ) (r : Record) → r ≡ record_at s i → i < records s → 1 ≤ r.kind → r.kind ≤ 4 → (r.a < 2048) × (r.b < 2048)
clashing-asks s w i r e l h k =
    let q : (record_at s i).kind ≡ r.kind = sym (ap (λ (r : Record). r.kind) e) in
    rw e (record-within s 2048 w i l (omega arith) (omega arith))
