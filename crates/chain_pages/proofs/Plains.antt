-- What every step of a chain that passes is like, and its claim. Assumes nothing.
use Prim.Native.Nat.{ℕ, zero, suc, ◌*◌, ◌≤◌, ◌<◌}
use mathlib.Core.Path.{◌≡◌, refl, sym, ◌∙◌}
use mathlib.Core.Bool.{true, not, ◌&&◌, false≢true}
use mathlib.Core.List.{List}
use native.Mathlib.Omega.{arith}
use lib.Dec.{eqb, ltb}
use lib.ListN.{length, get_or}
use borrow.Author.Tests.{eqb-true}
use Rattle.lists.proofs.Bools.{Known, is_true, is_false, known, and_both}
use Rattle.rules.specs.Fact.{Fact, PART, APART, MEETS, NOTPART}
use Rattle.records.specs.Record.{record_at}
use Rattle.records.specs.Facts.{saying}
use Rattle.records.specs.Pieces.{stated}
use Rattle.records.proofs.Accepted.{accepted-claims}
use Rattle.chain_format.specs.declared.steps.Step.{Step}
use Rattle.chain_format.specs.Step.{step_at, steps, showing, shows}
use Rattle.chain_format.specs.Citing.{Cited, fact, mark, none, citing, marks_piece, marks_some}
use Rattle.chain_format.specs.Rule.{Form, unknown, stored, freely, unmarked, marked, from, table, rule}
use Rattle.chain_format.specs.Justified.{cites, premised, keeps, named, justified, step_ok}
use Rattle.chain_format.specs.Chain.{all_ok, chain_ok}
use Rattle.chain_format.proofs.Somes.{some-find}
use Rattle.chain_format.proofs.Passing.{all-stop}
use Rattle.chain_check.specs.Call.{passing, passes}
use Rattle.chain_check.proofs.Asking.{asked-passed}
use Rattle.chain_check.proofs.Meaning.{chain-ok, chain-derives}
use Rattle.chain_pages.specs.StepLine.{count}
use Rattle.chain_pages.proofs.StepsRead.{Plain}

-- how many numbers a form asks for
abbrev asks : Form → ℕ
asks unknown = 0
asks stored = 1
asks (freely f) = 0
asks (unmarked g f) = 0
asks (marked g f) = 1
asks (from x y f) = 2

module _ (es : List Cited) (i : ℕ) (s p q : Step) where
  shown-kind : (f : Fact) → shows s f ≡ true → (1 ≤ s.kind) × (s.kind ≤ 4)
  unfolding showing
  shown-kind (PART a b) e = let k = eqb-true s.kind 1 (and_both (eqb s.kind 1) _ e).0 in (omega arith, omega arith)
  shown-kind (APART a b) e = let k = eqb-true s.kind 2 (and_both (eqb s.kind 2) _ e).0 in (omega arith, omega arith)
  shown-kind (MEETS a b) e = let k = eqb-true s.kind 3 (and_both (eqb s.kind 3) _ e).0 in (omega arith, omega arith)
  shown-kind (NOTPART a b) e = let k = eqb-true s.kind 4 (and_both (eqb s.kind 4) _ e).0 in (omega arith, omega arith)

  cited-kind : (x : Cited) → cites x s ≡ true → (1 ≤ s.kind) × (s.kind ≤ 4)
  unfolding cites
  cited-kind (fact f) e = shown-kind f e
  cited-kind (mark g) e = absurd (false≢true e)
  cited-kind none e = absurd (false≢true e)

  record Kept (f : Form) : Type 0 where
    kinds : (1 ≤ s.kind) × (s.kind ≤ 4)
    no-first : asks f ≡ 0 → s.first ≡ 0
    no_second : asks f ≤ 1 → s.second ≡ 0

  kept : (f : Form) → keeps es i s p q f ≡ true → Kept f
  unfolding keeps premised
  kept unknown e = absurd (false≢true e)
  kept stored e =
      let b = and_both (eqb s.second 0) _ e in
      record { kinds = cited-kind _ b.1; no-first = λ h. absurd (omega arith); no_second = λ h. eqb-true s.second 0 b.0 }
  kept (freely f) e =
      let b = and_both (eqb s.first 0 && eqb s.second 0) _ e in
      let z = and_both (eqb s.first 0) _ b.0 in
      record { kinds = shown-kind f b.1; no-first = λ h. eqb-true s.first 0 z.0; no_second = λ h. eqb-true s.second 0 z.1 }
  kept (unmarked g f) e =
      let b = and_both (eqb s.first 0 && eqb s.second 0) _ e in
      let z = and_both (eqb s.first 0) _ b.0 in
      record {
        kinds = shown-kind f (and_both (not (marks_some es g)) _ b.1).1;
        no-first = λ h. eqb-true s.first 0 z.0;
        no_second = λ h. eqb-true s.second 0 z.1;
      }
  kept (marked g f) e =
      let b = and_both (eqb s.second 0) _ e in
      record {
        kinds = shown-kind f (and_both (marks_piece g (get_or es s.first none)) _ b.1).1;
        no-first = λ h. absurd (omega arith);
        no_second = λ h. eqb-true s.second 0 b.0;
      }
  kept (from x y f) e =
      let b = and_both (ltb s.first i && ltb s.second i) _ e in
      record { kinds = shown-kind f (and_both (shows s f) _ b.1).0; no-first = λ h. absurd (omega arith); no_second = λ h. absurd (omega arith) }

  -- there are twelve rules, and a step's line has as many numbers as its rule asks for
  numbered : (r g h k : ℕ) → keeps es i s p q (rule r g h k) ≡ true → (r < 12) × (asks (rule r g h k) ≡ count r)
  unfolding rule table keeps count
  numbered zero g h k e = (omega arith, refl)
  numbered (suc zero) g h k e = (omega arith, refl)
  numbered (suc (suc zero)) g h k e = (omega arith, refl)
  numbered (suc (suc (suc zero))) g h k e = (omega arith, refl)
  numbered (suc (suc (suc (suc zero)))) g h k e = (omega arith, refl)
  numbered (suc (suc (suc (suc (suc zero))))) g h k e = (omega arith, refl)
  numbered (suc (suc (suc (suc (suc (suc zero)))))) g h k e = (omega arith, refl)
  numbered (suc (suc (suc (suc (suc (suc (suc zero))))))) g h k e = (omega arith, refl)
  numbered (suc (suc (suc (suc (suc (suc (suc (suc zero)))))))) g h k e = (omega arith, refl)
  numbered (suc (suc (suc (suc (suc (suc (suc (suc (suc zero))))))))) g h k e = (omega arith, refl)
  numbered (suc (suc (suc (suc (suc (suc (suc (suc (suc (suc zero)))))))))) g h k e = (omega arith, refl)
  numbered (suc (suc (suc (suc (suc (suc (suc (suc (suc (suc (suc zero))))))))))) g h k e = (omega arith, refl)
  numbered (suc (suc (suc (suc (suc (suc (suc (suc (suc (suc (suc (suc r)))))))))))) g h k e = absurd (false≢true e)

  justified-plain : (n : ℕ) → justified n es i s p q ≡ true → Plain s
  unfolding justified
  justified-plain n e =
      let t = some-find (named s p q) _ (and_both (ltb s.a n && ltb s.b n) _ e).1 in
      let x = numbered s.rule t.0 t.1 t.2 t.6 in
      let y = kept _ t.6 in
      record {
        kind-low = y.kinds.0;
        kind-high = y.kinds.1;
        known = x.0;
        no-first = λ h. y.no-first (x.1 ∙ h);
        no_second = λ h. y.no_second (omega (arith, x.1));
      }

step-plain : (n : ℕ) (es : List Cited) (c : List ℕ) (m i : ℕ) → all_ok n es c m ≡ true → i < m → Plain (step_at c i)
unfolding step_ok
step-plain n es c m i e h = justified-plain es i (step_at c i) (step_at c (step_at c i).first) (step_at c (step_at c i).second) n (go (known (step_ok n es c i)))
  where
    go : Known (step_ok n es c i) → step_ok n es c i ≡ true
    go (is_true t) = t
    go (is_false t) = absurd (false≢true (sym (all-stop n es c i m h t) ∙ e))

-- what the check tells of a claim and steps that pass
pub record Passing (book claim chain : List ℕ) : Type 0 where
  pub six : length claim ≡ 6
  pub kinds : stated (record_at claim 0) ≡ true
  pub choices : (record_at claim 0).origin ≤ 1
  pub whole : length chain ≡ 10 * steps chain
  pub some : 1 ≤ steps chain
  pub few : steps chain ≤ 16400
  pub plain : (i : ℕ) → i < steps chain → Plain (step_at chain i)

pub passing-is : (book claim chain : List ℕ) → passes book claim chain ≡ true → Passing book claim chain
unfolding passes passing
passing-is book claim chain e =
    let d = chain-derives book claim chain e in
    let a = asked-passed book claim d.n d.nodes d.shadows d.accepted in
    let t : chain_ok d.n (citing (record_at claim 0) book) (saying (record_at claim 0)) chain ≡ true = rw d.accepted at e in
    let k = chain-ok _ _ _ _ t in
    let six : length claim ≡ 6 = a.six in
    let j = accepted-claims d.n claim a.fit in
    record {
      six = six;
      kinds = j.kinds 0 (omega arith);
      choices = j.origins 0 (omega arith);
      whole = omega (arith, k.whole);
      some = k.some;
      few = k.few;
      plain = λ i h. step-plain d.n (citing (record_at claim 0) book) chain (steps chain) i k.each h;
    }

pub ready : (book claim chain : List ℕ) → passes book claim chain ≡ true → (length claim ≡ 6) × (10 ≤ length chain) × (stated (record_at claim 0) ≡ true)
ready book claim chain e = let p = passing-is book claim chain e in (p.six, omega (arith, p.some, p.whole), p.kinds)
