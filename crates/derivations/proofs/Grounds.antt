-- What the matrices of a book give its chains, and which facts do not follow where no record leads to them. Assumes nothing.
use Prim.Native.Nat.{ℕ, ◌-◌, ◌≤◌, ◌<◌}
use mathlib.Core.Path.{◌≡◌, refl, sym, ap, ap₂, subst, ◌∙◌}
use mathlib.Core.Logic.{◌⊎◌, inl, inr}
use mathlib.Core.Bool.{Bool, true, false, not, ◌&&◌, ◌||◌, false≢true}
use mathlib.Core.List.{List, Memᴰ}
use native.Mathlib.Omega.{arith}
use lib.Dec.{eqb, ltb}
use lib.ListN.{get_or}
use borrow.Author.Tests.{eqb-true, eq-eqb, lt-ltb, le-leb}
use Rattle.lists.specs.Any.{any_below}
use Rattle.lists.proofs.Bools.{and_both, both-and, or-either, left_or, right_or, not-true, not-is-true}
use Rattle.lists.proofs.Anys.{below-find}
use Rattle.matrices.specs.Matrix.{bit_of, common}
use Rattle.rules.specs.Fact.{Fact, PART, APART, MEETS, NOTPART, kind, left, right, fact_of, unmarked, Within, AllWithin}
use Rattle.rules.specs.Follows.{storing, turned, meets, follows}
use Rattle.rules.proofs.Facts.{storing-find}
use Rattle.rules.proofs.Decides.{follows-iff}
use Rattle.rules.proofs.Plain.{inside, plain, follows-plain}
use Rattle.records.specs.declared.Record.{Record}
use Rattle.records.specs.Record.{record_at, records}
use Rattle.records.specs.Pieces.{stated}
use Rattle.records.specs.Facts.{facts}
use Rattle.records.specs.Kept.{picked}
use Rattle.records.specs.Marked.{marks, marked}
use Rattle.records.proofs.Keeps.{picked-among}
use Rattle.records.proofs.Marks.{marks-from, marks-here, marked_from}
use Rattle.records.proofs.Accepted.{says-kind, says-left, says-right}
use Rattle.closure.specs.Void.{void_of}
use Rattle.closure.specs.Bounded.{Bounded}
use Rattle.closure.specs.Stored.{stored_bit, edge_bit}
use Rattle.closure.specs.Closed.{part_bit}
use Rattle.verdicts.specs.ByMarks.{by_marks}
use Rattle.closure.proofs.StoredBits.{swapped-hit}
use Rattle.verdicts.proofs.Answering.{part-told, meets-told}
use Rattle.chain_format.specs.Step.{step_at, unordered}
use Rattle.chain_format.specs.Citing.{fact, none, citing, marks_piece}
use Rattle.chain_format.proofs.Passing.{all_none}
use Rattle.chain_format.proofs.Citings.{citing-says, cited-picked, picked-cited, marked-cited}
use Rattle.chain_format.proofs.Sound.{shown-derives}
use Rattle.chain_format.proofs.Givens.{given}
use Rattle.derivations.specs.declared.search.Aim.{Aim}
use Rattle.derivations.specs.declared.search.Aim.TheVariants.{Apart, Meets, NotPart, Outside}
use Rattle.derivations.specs.Aim.{kind_for, joining, serving}
use Rattle.derivations.specs.Sources.{Stepped}
use Rattle.derivations.specs.Lifts.{Setting, Telling, Inside}
use Rattle.derivations.specs.Shown.{Writes}
use Rattle.std.specs.Prelude.{Option, Some, None, IsSome}
use borrow.Author.Rules.{rules}
use Rattle.derivations.specs.Found.{Ground, Citable, Found}

-- a search for a mark that is there finds it
pub mark-there : (s : List ℕ) (g : ℕ) (r : Option ℕ) → marked s g ≡ true → Found (λ i. marks g (record_at s i)) (records s) r → IsSome r
mark-there s g (Some i) m F = search rules
mark-there s g None m F =
    let f = marked_from s g m in
    absurd (false≢true (sym (F f.0 f.1) ∙ marks-here (record_at s f.0) g f.2 f.3))

-- what is found, of a search that finds something
pub found-there : (test : ℕ → Bool) {m : ℕ} {r : Option ℕ} (i : ℕ) → Found test m r → r ≡ Some i → (i < m) × (test i ≡ true)
found-there test {m} i F e = subst (Found test m) e F

-- what is written follows
pub written-follows :
    {n : ℕ} (claim : Record) (s : List ℕ) → AllWithin n (facts (picked s claim)) → 0 < n → (f : Fact) → Within n f → {most r : ℕ} {c c' : List ℕ} → Writes n (citing claim s) f most c 0 c' r
    → follows (marked s) n (facts (picked s claim)) f ≡ true
written-follows {n} claim s i p f w {most} {r} {c} {c'} W =
    let l = W.more in
    let fs = facts (picked s claim) in
    (follows-iff (marked s) n fs i p f w).1
    (shown-derives (marked s) n (citing claim s) fs (given claim s) c' r (λ i h z g q. (cited-picked claim s (step_at c' i).first g q).1) (W.ok (all_none n (citing claim s) c)) (r - 1) (omega arith) f W.shown)

stated-kind : (k x y : ℕ) → 1 ≤ k → k ≤ 4 → stated (record { kind = k; origin = 0; a = x; b = y }) ≡ true
unfolding stated
stated-kind k x y l h = both-and (le-leb 1 k l) (le-leb k 4 h)

module _ {n : ℕ} {claim : Record} {s voids e d t : List ℕ} (G : Ground n claim s voids e d t) where
  abbrev fs : List Fact
  fs = facts (picked s claim)

  pub positive : 0 < n
  positive = G.bounded.some

  pub small : n ≤ 2048
  small = G.bounded.fits

  pub citable : Citable n s d t
  citable = record { few = G.few; bounded = G.bounded; parts = G.parts.sized; toward = G.toward.sized }

  pub all-within : AllWithin 2048 (facts s)
  all-within f m = let b = G.bounded.within f m in let l = small in (omega (arith, b.0), omega (arith, b.1))

  pub within : AllWithin n fs
  within f m = G.bounded.within f (picked-among s claim f m)

  bounded : Bounded n fs
  bounded = record { some = positive; fits = small; within = within }

  pub bare : marked s 0 ≡ false
  bare = ap (λ (f : ℕ → Bool). f 0) (sym G.void.1) ∙ G.void.0.whole

  -- ---- the steps of containment

  edge-sound : (x y : ℕ) → edge_bit n fs y x ≡ true → Memᴰ (PART x y) fs ⊎ (y ≡ 0)
  unfolding edge_bit stored_bit fact_of
  edge-sound x y b = pick (or-either _ _ b)
    where
      pick : (stored_bit fs 1 false true y x ≡ true) ⊎ ((eqb y 0 && (ltb 0 x && ltb x n)) ≡ true) → Memᴰ (PART x y) fs ⊎ (y ≡ 0)
      pick (inl h) =
          let r = storing-find fs 1 _ h in
          let q = and_both _ _ r.3 in
          inl (subst (λ (f : Fact). Memᴰ f fs) (ap₂ PART (eqb-true _ x q.0) (eqb-true _ y q.1)) r.2)
      pick (inr h) = inr (eqb-true y 0 (and_both _ _ h).0)

  stepped : Stepped n fs e
  unfolding edge_bit fact_of
  stepped =
      let l = small in
      record {
        sound = λ x y lx ly b. edge-sound x y (sym (G.steps.bits y x (omega arith) (omega arith)) ∙ b);
        stored = λ x y m.
            let w = within _ m in
            G.steps.bits y x (omega (arith, w.1)) (omega (arith, w.0)) ∙ left_or _ (edge-stored x y m);
        crown = λ x p lx.
            let z = positive in
            G.steps.bits 0 x (omega arith) (omega arith) ∙ right_or (stored_bit fs 1 false true 0 x) (both-and (lt-ltb 0 x p) (lt-ltb x n lx));
      }
    where
      edge-stored : (x y : ℕ) → Memᴰ (PART x y) fs → stored_bit fs 1 false true y x ≡ true
      edge-stored x y m = swapped-hit fs 1 y x false refl m

  pub setting : Setting n claim s e
  setting = record { matrix = G.steps.sized; small = small; few = G.few; within = within; stepped = stepped }

  pub telling : Telling n claim s d
  unfolding part_bit
  telling = let l = small in record { sized = G.parts.sized; tells = λ g k lg lk. G.parts.bits k g lk (omega arith) ∙ rw (lt-ltb g n lg, lt-ltb k n lk) }

  -- ---- bits of D and meetings of T and D

  module _ {x y : ℕ} (lx : x < n) (ly : y < n) where
    pub bit-inside : bit_of d y x ≡ true → Inside n claim s x y
    unfolding part_bit
    bit-inside b = let l = small in (and_both (ltb x n && ltb y n) (follows unmarked n fs (PART x y)) (sym (G.parts.bits y x (omega arith) (omega arith)) ∙ b)).1

    bit_is : bit_of d y x ≡ inside n fs x y
    bit_is = part-told bounded lx ly G.parts

    meets-is : common t x d y ≡ meets (inside n fs) (marked s) n fs x y
    meets-is = meets-told bounded lx ly (marked s) G.parts G.toward

    follows-meets : follows (marked s) n fs (MEETS x y) ≡ meets (inside n fs) (marked s) n fs x y
    unfolding plain
    follows-meets = follows-plain (marked s) n fs within positive bare (sym G.free) (MEETS x y) (lx, ly)

    -- so T tells what meets
    pub common-meets : common t x d y ≡ follows (marked s) n fs (MEETS x y)
    common-meets = meets-is ∙ sym follows-meets

  -- ---- what is written follows

  pub writes-follows : (f : Fact) → Within n f → {most r : ℕ} {c c' : List ℕ} → Writes n (citing claim s) f most c 0 c' r → follows (marked s) n fs f ≡ true
  writes-follows f w W = written-follows claim s within positive f w W

  -- ---- marks

  pub marks-cited : (g i : ℕ) → i < records s → marks g (record_at s i) ≡ true → marks_piece g (get_or (citing claim s) i none) ≡ true
  marks-cited g i h m = let k = marks-from (record_at s i) g m in marked-cited claim s i g h k.0 k.1

  pub found-mark : (g i : ℕ) (r : Option ℕ) → Found (λ i. marks g (record_at s i)) (records s) r → r ≡ Some i → (i < records s) × (marks_piece g (get_or (citing claim s) i none) ≡ true)
  found-mark g i r F e = let G = found-there _ i F e in (G.0, marks-cited g i G.0 G.1)

  -- ---- no record serves

  module _ (aim : Aim) (a b : ℕ) (off : (j : ℕ) → j < records s → serving aim claim d t a b (record_at s j) ≡ false) where
    -- a stored fact of the kind, and the record that says it
    unserved : (x y : ℕ) → 1 ≤ kind_for aim → kind_for aim ≤ 4 → Memᴰ (fact_of (kind_for aim) x y) fs → (joining aim d t a b x y || (unordered (kind_for aim) && joining aim d t a b y x)) ≡ true → ⊥
    unfolding serving
    unserved x y k k' m j =
        let p = picked-cited claim s (fact_of (kind_for aim) x y) m in
        let w = (citing-says claim s p.0 (fact (fact_of (kind_for aim) x y)) p.2 (λ q. let z : ◌≡◌ {A = ℕ} 0 1 = cc in omega arith)).1 in
        let r = record_at s p.0 in
        let v : Record = record { kind = kind_for aim; origin = 0; a = x; b = y } in
        let tk : stated v ≡ true = stated-kind (kind_for aim) x y k k' in
        let rk : r.kind ≡ kind_for aim = sym (says-kind r w.0) ∙ ap kind w.2 ∙ says-kind v tk in
        let ra : r.a ≡ x = sym (says-left r) ∙ ap left w.2 ∙ says-left v in
        let rb : r.b ≡ y = sym (says-right r) ∙ ap right w.2 ∙ says-right v in
        false≢true (sym (off p.0 p.1) ∙ both-and (eq-eqb _ _ rk) (both-and w.1 (ap₂ (λ (u z : ℕ). joining aim d t a b u z || (unordered (kind_for aim) && joining aim d t a b z u)) ra rb ∙ j)))

  -- ---- so the fact does not follow

  pub void-read : (g : ℕ) (b : Bool) → b ≡ bit_of voids 0 g → marked s g ≡ b
  unfolding void_of
  void-read g b q = ap (λ (f : ℕ → Bool). f g) (sym G.void.1) ∙ sym q

  both-off : (x y : Bool) → x ≡ false → y ≡ false → (x || y) ≡ false
  both-off x y p q = rw (p, q)

  module _ {a b : ℕ} (la : a < n) (lb : b < n) where
    by-plain : (f : Fact) → Within n f → plain (marked s) n fs f ≡ false → follows (marked s) n fs f ≡ false
    by-plain f w e = follows-plain (marked s) n fs within positive bare (sym G.free) f w ∙ e

    pub part_none : marked s a ≡ false → bit_of d b a ≡ false → follows (marked s) n fs (PART a b) ≡ false
    unfolding plain
    part_none m q = by-plain (PART a b) (la, lb) (both-off (marked s a) (inside n fs a b) m (sym (bit_is la lb) ∙ q))

    pub apart_none :
        marked s a ≡ false → marked s b ≡ false → ((j : ℕ) → j < records s → serving Apart claim d t a b (record_at s j) ≡ false) → follows (marked s) n fs (APART a b) ≡ false
    unfolding plain turned joining fact_of
    apart_none ma mb off = by-plain (APART a b) (la, lb) (both-off (marked s a) _ ma (both-off (marked s b) _ mb (not-true _ (λ q. let r = storing-find fs 2 _ q in let w = within _ r.2 in find r.0 r.1 w.0 w.1 r.2 (or-either _ _ r.3)))))
      where
        joined : (x y : ℕ) → x < n → y < n → (inside n fs a x && inside n fs b y) ≡ true → (bit_of d x a && bit_of d y b) ≡ true
        joined x y lx ly e = ap₂ ◌&&◌ (bit_is la lx) (bit_is lb ly) ∙ e

        find : (x y : ℕ) → x < n → y < n → Memᴰ (APART x y) fs → ((inside n fs a x && inside n fs b y) ≡ true) ⊎ ((inside n fs a y && inside n fs b x) ≡ true) → ⊥
        find x y lx ly m (inl e) = unserved Apart a b off x y (omega arith) (omega arith) m (left_or _ (joined x y lx ly e))
        find x y lx ly m (inr e) = unserved Apart a b off x y (omega arith) (omega arith) m (right_or (bit_of d x a && bit_of d y b) (joined y x ly lx e))

    pub meets-none :
        ((x : ℕ) → x < n → (not (void_of voids x) && (bit_of d a x && bit_of d b x)) ≡ false)
        → ((j : ℕ) → j < records s → serving Meets claim d t a b (record_at s j) ≡ false) → follows (marked s) n fs (MEETS a b) ≡ false
    unfolding plain meets turned joining fact_of
    meets-none alone off =
        by-plain (MEETS a b) (la, lb)
        (both-off (any_below (λ x. not (marked s x) && (inside n fs x a && inside n fs x b)) n) (storing fs 3 (turned (λ x y. inside n fs x a && inside n fs y b)))
        (not-true _ (λ q. let r = below-find (λ x. not (marked s x) && (inside n fs x a && inside n fs x b)) n q in shared r.0 r.1 r.2))
        (not-true _ (λ q. let r = storing-find fs 3 (turned (λ x y. inside n fs x a && inside n fs y b)) q in let w = within _ r.2 in find r.0 r.1 w.0 w.1 r.2 (or-either _ _ r.3))))
      where
        shared : (x : ℕ) → x < n → (not (marked s x) && (inside n fs x a && inside n fs x b)) ≡ true → ⊥
        shared x lx e =
            false≢true (sym (alone x lx) ∙ ap₂ ◌&&◌ (ap (λ (f : ℕ → Bool). not (f x)) G.void.1) (ap₂ ◌&&◌ (bit_is lx la) (bit_is lx lb)) ∙ e)

        joined : (x y : ℕ) → x < n → y < n → (inside n fs x a && inside n fs y b) ≡ true → (bit_of d a x && bit_of d b y) ≡ true
        joined x y lx ly e = ap₂ ◌&&◌ (bit_is lx la) (bit_is ly lb) ∙ e

        find : (x y : ℕ) → x < n → y < n → Memᴰ (MEETS x y) fs → ((inside n fs x a && inside n fs y b) ≡ true) ⊎ ((inside n fs y a && inside n fs x b) ≡ true) → ⊥
        find x y lx ly m (inl e) = unserved Meets a b off x y (omega arith) (omega arith) m (left_or _ (joined x y lx ly e))
        find x y lx ly m (inr e) = unserved Meets a b off x y (omega arith) (omega arith) m (right_or (bit_of d a x && bit_of d b y) (joined y x ly lx e))

    pub notpart-none :
        by_marks (marked s) (NOTPART a b) ≡ false → ((j : ℕ) → j < records s → serving NotPart claim d t a b (record_at s j) ≡ false)
        → ((j : ℕ) → j < records s → serving Outside claim d t a b (record_at s j) ≡ false) → follows (marked s) n fs (NOTPART a b) ≡ false
    unfolding plain turned joining fact_of by_marks
    notpart-none m off out =
        by-plain (NOTPART a b) (la, lb)
        (both-off (not (marked s a) && marked s b)
        (storing fs 4 (λ x y. inside n fs x a && inside n fs b y) || storing fs 2 (turned (λ x y. inside n fs b x && meets (inside n fs) (marked s) n fs a y)))
        m
        (both-off (storing fs 4 (λ x y. inside n fs x a && inside n fs b y)) (storing fs 2 (turned (λ x y. inside n fs b x && meets (inside n fs) (marked s) n fs a y)))
        (not-true _ (λ q. let r = storing-find fs 4 (λ x y. inside n fs x a && inside n fs b y) q in let w = within _ r.2 in find r.0 r.1 w.0 w.1 r.2 r.3))
        (not-true _ (λ q. let r = storing-find fs 2 (turned (λ x y. inside n fs b x && meets (inside n fs) (marked s) n fs a y)) q in let w = within _ r.2 in find-out r.0 r.1 w.0 w.1 r.2 (or-either _ _ r.3)))))
      where
        find : (x y : ℕ) → x < n → y < n → Memᴰ (NOTPART x y) fs → (inside n fs x a && inside n fs b y) ≡ true → ⊥
        find x y lx ly m e = unserved NotPart a b off x y (omega arith) (omega arith) m (left_or _ (ap₂ ◌&&◌ (bit_is lx la) (bit_is lb ly) ∙ e))

        joined : (x y : ℕ) → x < n → y < n → (inside n fs b x && meets (inside n fs) (marked s) n fs a y) ≡ true → (bit_of d x b && common t a d y) ≡ true
        joined x y lx ly e = ap₂ ◌&&◌ (bit_is lb lx) (meets-is la ly) ∙ e

        find-out :
            (x y : ℕ) → x < n → y < n → Memᴰ (APART x y) fs
            → ((inside n fs b x && meets (inside n fs) (marked s) n fs a y) ≡ true) ⊎ ((inside n fs b y && meets (inside n fs) (marked s) n fs a x) ≡ true) → ⊥
        find-out x y lx ly m (inl e) = unserved Outside a b out x y (omega arith) (omega arith) m (left_or _ (joined x y lx ly e))
        find-out x y lx ly m (inr e) = unserved Outside a b out x y (omega arith) (omega arith) m (right_or (bit_of d x b && common t a d y) (joined y x ly lx e))

  -- ---- what the marks tell of NOTPART

  module _ (a b : ℕ) (r : Bool) (q : r ≡ by_marks (void_of voids) (fact_of 4 a b)) where
    by-marks : r ≡ (not (marked s a) && marked s b)
    unfolding by_marks fact_of
    by-marks = rw G.void.1 at q

    pub marks-out : r ≡ true → (marked s a ≡ false) × (marked s b ≡ true)
    marks-out e = let p = and_both (not (marked s a)) (marked s b) (sym by-marks ∙ e) in (not-is-true _ p.0, p.1)

    pub marks-silent : r ≡ false → by_marks (marked s) (NOTPART a b) ≡ false
    unfolding by_marks
    marks-silent e = sym by-marks ∙ e
