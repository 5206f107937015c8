-- Chains put together: what is found, carried to the fact, or nothing. Assumes nothing.
use Prim.Native.Nat.{ℕ, ◌≤◌, ◌<◌}
use mathlib.Core.Path.{◌≡◌, refl, sym, ap, subst, ◌∙◌}
use mathlib.Core.Logic.{◌⊎◌, inl, inr}
use mathlib.Core.Bool.{Bool, true, false, not, ◌&&◌}
use mathlib.Core.List.{List}
use native.Mathlib.Omega.{arith}
use lib.ListN.{get_or}
use Rattle.lists.proofs.Bools.{and_both, not-is-true}
use Rattle.matrices.specs.Matrix.{bit_of}
use borrow.Author.Tests.{ne_eqb}
use Rattle.rules.specs.Fact.{Fact, PART, APART, MEETS, NOTPART, fact_of, Within}
use Rattle.rules.specs.Derives.{rule-e'}
use Rattle.rules.specs.Follows.{follows}
use Rattle.records.specs.declared.Record.{Record}
use Rattle.records.specs.Record.{record_at, records}
use Rattle.records.specs.Facts.{facts}
use Rattle.records.specs.Kept.{picked}
use Rattle.records.specs.Marked.{marks, marked}
use Rattle.closure.specs.Void.{void_of}
use Rattle.chain_format.specs.declared.steps.Step.{Step}
use Rattle.chain_format.specs.Step.{step_at}
use Rattle.chain_format.specs.Citing.{citing, none, marks_piece}
use Rattle.chain_format.specs.Twice.{alike, Differ}
use Rattle.derivations.proofs.Distincts.{unlike-kind, distinct-one, distinct-kept, distinct-join}
use Rattle.chain_format.proofs.Showing.{straight, ends-show}
use Rattle.chain_format.proofs.Citings.{marks-same}
use Rattle.derivations.specs.declared.search.Aim.TheVariants.{Apart, Meets, NotPart, Outside}
use Rattle.derivations.specs.declared.search.Witness.{Witness}
use Rattle.derivations.specs.Aim.{joining}
use Rattle.derivations.specs.Written.{Put}
use Rattle.derivations.specs.Shown.{Writes}
use Rattle.derivations.specs.Lifts.{Inside, apart, notpart, Routed, Spans, Outlies}
use Rattle.derivations.specs.Routes.{route_to}
use Rattle.derivations.specs.Commons.{Joined}
use Rattle.derivations.specs.Found as of
use Rattle.derivations.specs.Found.{Found, Ground, Witnessed, Sought, Met, Voided, Chained}
use Rattle.derivations.proofs.Carries.{saying, as_said, itself-grounded, void-grounded, empty-grounded}
use Rattle.derivations.proofs.Joining.{justified-d'}
use Rattle.derivations.proofs.Composed.{still-shown, writes_one, writes-put}
use Rattle.derivations.proofs.Ways.{cited-derives, apart-disjoint, notpart-disjoint, meets-disjoint, meets-unmarked, outside-disjoint}
use Rattle.std.specs.Prelude.{Option, Some, None}
use Rattle.derivations.proofs.Grounds.{small, bit-inside, common-meets, writes-follows, marks-cited, found-mark, meets-none}

module _ {n : ℕ} {claim : Record} {s voids e d t : List ℕ} (G : Ground n claim s voids e d t) where
  pub chained-none : {f : Fact} {c : List ℕ} → follows (marked s) n (facts (picked s claim)) f ≡ false → Chained n claim s f c c 0
  chained-none q = record { none = λ z. (refl, q); some = λ l. absurd (omega arith) }

  pub chained-some : (f : Fact) → Within n f → {most r : ℕ} {c c' : List ℕ} → Writes n (citing claim s) f most c 0 c' r → Differ c' 0 r → most ≤ 12285 → Chained n claim s f c c' r
  chained-some f w W o l =
      record {
        none = λ z. absurd (omega (arith, W.more));
        some = λ p. (record { more = W.more; few = omega (arith, W.few); edited = W.edited; shown = W.shown; ok = W.ok }, writes-follows G f w W, o);
      }

  alone : (c : List ℕ) → Differ c 0 1
  alone c i j l h k = absurd (omega arith)

  module _ {a b : ℕ} (la : a < n) (lb : b < n) where
    -- a mark of a
    pub part-marked :
        {c c' : List ℕ} (i : ℕ) {r : Option ℕ} → Found (λ i. marks a (record_at s i)) (records s) r → r ≡ Some i → Put c c' 0 (saying 11 1 a b i) → Chained n claim s (PART a b) c c' 1
    part-marked i F e p =
        let k = found-mark G a i _ F e in
        let f = G.few in
        let E = empty-grounded n (citing claim s) (small G) a b i la lb (omega (arith, k.0)) k.1 in
        chained-some (PART a b) (la, lb) (writes_one p (E.holds _ _ _) (PART a b) (as_said 11 1 a b i)) (alone _) (omega arith)

    -- a mark of a or b
    pub apart-marked : {c c' : List ℕ} {r : ℕ} (g : ℕ) → (g ≡ a) ⊎ (g ≡ b) → Voided s g a b c c' r → Chained n claim s (APART a b) c c' r
    apart-marked {c} {c'} {r} g w M =
        let f = G.few in
        let l = M.there in
        let E = void-grounded n (citing claim s) (small G) a b M.mark la lb (omega arith) (pick w) in
        rw M.one (chained-some (APART a b) (la, lb) (writes_one M.put (E.holds _ _ _) (APART a b) (as_said 10 2 a b M.mark)) (alone _) (omega arith))
      where
        here : marks_piece g (get_or (citing claim s) M.mark none) ≡ true
        here = marks-cited G g M.mark M.there M.marks-it

        pick : (g ≡ a) ⊎ (g ≡ b) → (marks_piece a (get_or (citing claim s) M.mark none) ≡ true) ⊎ (marks_piece b (get_or (citing claim s) M.mark none) ≡ true)
        pick (inl q) = inl (ap (λ (x : ℕ). marks_piece x (get_or (citing claim s) M.mark none)) (sym q) ∙ here)
        pick (inr q) = inr (ap (λ (x : ℕ). marks_piece x (get_or (citing claim s) M.mark none)) (sym q) ∙ here)

    -- three steps of three kinds
    three : {c c₁ c₂ c₃ : List ℕ} {x y z : Step} → Put c c₁ 0 x → Put c₁ c₂ 1 y → Put c₂ c₃ 2 z → (x.kind ≡ y.kind → ⊥) → (x.kind ≡ z.kind → ⊥) → (y.kind ≡ z.kind → ⊥) → Differ c₃ 0 3
    three {x = x} {y = y} {z = z} p q t f g h =
        (distinct-join (omega arith) (omega arith) last
        (distinct-kept t.edited (omega arith)
        (distinct-join (omega arith) (omega arith) (λ v w i j. unlike-kind v w (λ e. f (ap (λ (u : Step). u.kind) (sym i) ∙ e ∙ ap (λ (u : Step). u.kind) j))) (distinct-kept q.edited (omega arith) (distinct-one p)) (distinct-one q)))
        (distinct-one t)).differ
      where
        last : (v w : Step) → (v ≡ x) ⊎ (v ≡ y) → w ≡ z → alike v w ≡ false
        last v w (inl i) j = unlike-kind v w (λ e. g (ap (λ (u : Step). u.kind) (sym i) ∙ e ∙ ap (λ (u : Step). u.kind) j))
        last v w (inr i) j = unlike-kind v w (λ e. h (ap (λ (u : Step). u.kind) (sym i) ∙ e ∙ ap (λ (u : Step). u.kind) j))

    -- a is not marked, and b is
    pub outside-marked :
        {c c₁ c₂ c₃ : List ℕ} (i : ℕ) {r : Option ℕ} → marked s a ≡ false → Found (λ i. marks b (record_at s i)) (records s) r → r ≡ Some i → Put c c₁ 0 (saying 9 3 a a 0)
        → Put c₁ c₂ 1 (saying 10 2 b a i) → Put c₂ c₃ 2 (record { rule = 8; kind = 4; a = a; b = b; first = 0; second = 1 }) → Chained n claim s (NOTPART a b) c c₃ 3
    outside-marked {c} {c₁} {c₂} {c₃} i ma F e p q t =
        let k = found-mark G b i _ F e in
        let f = G.few in
        let E = itself-grounded n (citing claim s) (small G) a la (marks-same claim s a ∙ ma) in
        let M = void-grounded n (citing claim s) (small G) b a i lb la (omega (arith, k.0)) (inl k.1) in
        let x = writes_one p (E.holds _ _ _) (MEETS a a) (as_said 9 3 a a 0) in
        let y = writes-put x q (M.holds _ _ _) (APART b a) (as_said 10 2 b a i) in
        let z : Step = record { rule = 8; kind = 4; a = a; b = b; first = 0; second = 1 } in
        let w = ends-show z 4 a b refl (straight refl refl) in
        chained-some (NOTPART a b) (la, lb)
        (writes-put y t
        (justified-d' n (citing claim s) 2 z (step_at c₂ 0) (step_at c₂ 1) la lb (omega arith) (omega arith) a a b refl (still-shown q.edited 0 (omega arith) (MEETS a a) x.shown) y.shown w)
        (NOTPART a b) w)
        (three p q t (λ e. omega arith) (λ e. omega arith) (λ e. omega arith)) (omega arith)

    -- ---- the pieces of a record that is found

    module _ {w : Witness} where
      pub apart_parts : Witnessed n (citing claim s) Apart d t a b w → Inside n claim s a w.x × Inside n claim s b w.y
      unfolding joining
      apart_parts W = let j = and_both _ _ W.joined in (bit-inside G la W.left j.0, bit-inside G lb W.right j.1)

      pub meets-parts : Witnessed n (citing claim s) Meets d t a b w → Inside n claim s w.x a × Inside n claim s w.y b
      unfolding joining
      meets-parts W = let j = and_both _ _ W.joined in (bit-inside G W.left la j.0, bit-inside G W.right lb j.1)

      pub notpart-parts : Witnessed n (citing claim s) NotPart d t a b w → Inside n claim s w.x a × Inside n claim s b w.y
      unfolding joining
      notpart-parts W = let j = and_both _ _ W.joined in (bit-inside G W.left la j.0, bit-inside G lb W.right j.1)

      pub outside-parts : Witnessed n (citing claim s) Outside d t a b w → Inside n claim s b w.x × (follows (marked s) n (facts (picked s claim)) (MEETS a w.y) ≡ true)
      unfolding joining
      outside-parts W = let j = and_both _ _ W.joined in (bit-inside G lb W.left j.0, sym (common-meets G la W.right) ∙ j.1)

    -- ---- what is written from there

    -- ---- the route from there

    module _ {w : Witness} where
      pub apart-routed : Witnessed n (citing claim s) Apart d t a b w → Routed n claim s 2 a b w.x w.y
      unfolding route_to
      apart-routed W = let p = apart_parts W in record { carriable = apart; from-left = W.left; from-right = W.right; to-left = la; to-right = lb; once = p.0; twice = p.1 }

      pub notpart-routed : Witnessed n (citing claim s) NotPart d t a b w → Routed n claim s 4 a b w.x w.y
      unfolding route_to
      notpart-routed W = let p = notpart-parts W in record { carriable = notpart; from-left = W.left; from-right = W.right; to-left = la; to-right = lb; once = p.0; twice = p.1 }

    -- ---- what is written along it

    pub apart-chained : marked s a ≡ false → {w : Witness} → Witnessed n (citing claim s) Apart d t a b w → {c c' : List ℕ} {r : ℕ} → Spans n claim s 2 a b w.x w.y c 0 c' r → Chained n claim s (APART a b) c c' r
    unfolding fact_of route_to
    apart-chained m {w} W S =
        chained-some (APART a b) (la, lb) S.writes
        (S.steps (apart-disjoint G W.left W.right la lb m (cited-derives G w.step W.cited (APART w.x w.y) W.shown))).differ
        (omega arith)

    pub meets-chained : {w : Witness} → of.Meets n claim s a b w → {c c' : List ℕ} {r : ℕ} → Joined n claim s w.x w.y a b c 0 c' r → Chained n claim s (MEETS a b) c c' r
    meets-chained W S = chained-some (MEETS a b) (la, lb) S.writes (S.steps W.disjoint).differ (omega arith)

    pub notpart-chained : {w : Witness} → Witnessed n (citing claim s) NotPart d t a b w → {c c' : List ℕ} {r : ℕ} → Spans n claim s 4 a b w.x w.y c 0 c' r → Chained n claim s (NOTPART a b) c c' r
    unfolding fact_of route_to
    notpart-chained {w} W S =
        chained-some (NOTPART a b) (la, lb) S.writes
        (S.steps (notpart-disjoint G W.left W.right la lb (cited-derives G w.step W.cited (NOTPART w.x w.y) W.shown))).differ
        (omega arith)

    pub outside-chained :
        {u : Witness} → Witnessed n (citing claim s) Outside d t a b u → {w : Witness} → of.Meets n claim s a u.y w → {c c' : List ℕ} {r : ℕ}
        → Outlies n claim s a b u.x u.y w.x w.y c 0 c' r → Chained n claim s (NOTPART a b) c c' r
    outside-chained {u} U W S =
        let q = cited-derives G u.step U.cited (APART u.x u.y) U.shown in
        chained-some (NOTPART a b) (la, lb) S.writes
        (S.differ (outside-disjoint G la lb U.left U.right W.left W.right q W.meets W.second) W.disjoint)
        (omega arith)

    -- ---- meetings

    pub met-common : (x : ℕ) → x < n → (not (void_of voids x) && (bit_of d a x && bit_of d b x)) ≡ true → of.Meets n claim s a b (record { step = saying 9 3 x x 0; x = x; y = x })
    met-common x lx e =
        let j = and_both _ _ e in
        let k = and_both _ _ j.1 in
        let m : marked s x ≡ false = ap (λ (f : ℕ → Bool). f x) (sym G.void.1) ∙ not-is-true _ j.0 in
        record {
          grounded = itself-grounded n (citing claim s) (small G) x lx (marks-same claim s x ∙ m);
          shown = as_said 9 3 x x 0;
          left = lx;
          right = lx;
          first = bit-inside G lx la k.0;
          second = bit-inside G lx lb k.1;
          meets = rule-e' m lx;
          unmarked = λ o. meets-unmarked G lx o (rule-e' m lx);
          disjoint = λ o. absurd (o refl);
        }

    met-stored :
        Found (λ x. not (void_of voids x) && (bit_of d a x && bit_of d b x)) n None → (w : Witness) → Witnessed n (citing claim s) Meets d t a b w → of.Meets n claim s a b w
    met-stored F w W =
        let p = meets-parts W in
        let m = cited-derives G w.step W.cited (MEETS w.x w.y) W.shown in
        record {
          grounded = W.grounded;
          shown = W.shown;
          left = W.left;
          right = W.right;
          first = p.0;
          second = p.1;
          meets = m;
          unmarked = λ e. meets-unmarked G W.left e m;
          disjoint = λ z. meets-disjoint G W.left W.right la lb m F;
        }

    -- where no common piece is found
    pub met-sought :
        (r : Option Witness) → Found (λ x. not (void_of voids x) && (bit_of d a x && bit_of d b x)) n None → Sought n claim s Meets d t a b r → Met n claim s a b r
    met-sought None X F = meets-none G la lb X F
    met-sought (Some w) X W = met-stored X w W

-- ---- by the number of a kind

module _ {n : ℕ} {claim : Record} {s c c' : List ℕ} {r : ℕ} (k a b : ℕ) where
  pub of_part : k ≡ 1 → Chained n claim s (PART a b) c c' r → Chained n claim s (fact_of k a b) c c' r
  unfolding fact_of
  of_part e C = subst (λ (f : Fact). Chained n claim s f c c' r) (ap (λ (v : ℕ). fact_of v a b) (sym e)) C

  pub of-apart : k ≡ 2 → Chained n claim s (APART a b) c c' r → Chained n claim s (fact_of k a b) c c' r
  unfolding fact_of
  of-apart e C = subst (λ (f : Fact). Chained n claim s f c c' r) (ap (λ (v : ℕ). fact_of v a b) (sym e)) C

  pub of_meets : k ≡ 3 → Chained n claim s (MEETS a b) c c' r → Chained n claim s (fact_of k a b) c c' r
  unfolding fact_of
  of_meets e C = subst (λ (f : Fact). Chained n claim s f c c' r) (ap (λ (v : ℕ). fact_of v a b) (sym e)) C

  pub of-notpart : (k ≡ 1 → ⊥) → (k ≡ 2 → ⊥) → (k ≡ 3 → ⊥) → Chained n claim s (NOTPART a b) c c' r → Chained n claim s (fact_of k a b) c c' r
  unfolding fact_of
  of-notpart x y z C = rw (ne_eqb k 1 x, ne_eqb k 2 y, ne_eqb k 3 z, fact_of) C
