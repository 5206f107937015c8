-- The page held against the text, and what the last step tells. Assumes nothing.
use Prim.Native.Nat.{ℕ, ◌-◌, ◌≤◌}
use mathlib.Core.Path.{◌≡◌, refl, sym, ◌∙◌}
use mathlib.Core.Bool.{Bool, true, false, false≢true}
use mathlib.Core.List.{List}
use native.Mathlib.Omega.{arith}
use Rattle.rules.specs.Fact.{Fact, PART, APART, MEETS, NOTPART, kind, left, right, opposite}
use Rattle.records.specs.declared.Record.{Record}
use Rattle.records.specs.Record.{record_at}
use Rattle.records.specs.Facts.{saying}
use Rattle.records.specs.Pieces.{stated}
use Rattle.records.proofs.Accepted.{says-left, says-right, says-kind, kind-of}
use Rattle.verdicts.specs.declared.Answer.{Answer}
use Rattle.verdicts.specs.declared.Answer.TheVariants.{Follows, Denied, Open}
use Rattle.chain_format.specs.declared.steps.Step.{Step}
use Rattle.chain_format.specs.Step.{step_at, steps, showing}
use Rattle.chain_check.specs.Call.{passes}
use Rattle.chain_pages.specs.ChainText.{chain_text, Bytes}
use Rattle.chain_pages.specs.Begins.{Same}
use Rattle.chain_pages.specs.Verified.{tells, Judged}

-- ---- what the last step tells

opposite-kind : (f : Fact) → kind (opposite f) ≡ 5 - kind f
opposite-kind (PART a b) = refl
opposite-kind (APART a b) = refl
opposite-kind (MEETS a b) = refl
opposite-kind (NOTPART a b) = refl

opposite-left : (f : Fact) → left (opposite f) ≡ left f
opposite-left (PART a b) = refl
opposite-left (APART a b) = refl
opposite-left (MEETS a b) = refl
opposite-left (NOTPART a b) = refl

opposite-right : (f : Fact) → right (opposite f) ≡ right f
opposite-right (PART a b) = refl
opposite-right (APART a b) = refl
opposite-right (MEETS a b) = refl
opposite-right (NOTPART a b) = refl

pub opposite-room : (q r : Record) → q ≡ r → stated r ≡ true → q.kind ≤ 5
opposite-room q r same known = rw same (omega (arith, (kind-of r known).1))

module _ (answer : Answer) (r q : Record) (c : List ℕ) (s : Step) (x : Bool) (same : q ≡ r) (last : s ≡ step_at c (steps c - 1)) (known : stated r ≡ true) where
  pub tells-follows : answer ≡ Follows → x ≡ showing s q.kind q.a q.b → x ≡ tells answer (saying r) c
  unfolding tells
  tells-follows e h = h ∙ rw (e, same, last, says-left r, says-right r, says-kind r known)

  pub tells-denied : answer ≡ Denied → x ≡ showing s (5 - q.kind) q.a q.b → x ≡ tells answer (saying r) c
  unfolding tells
  tells-denied e h =
      h ∙ rw (e, same, last, opposite-kind (saying r), opposite-left (saying r), opposite-right (saying r), says-left r, says-right r, says-kind r known)

pub tells-open : (answer : Answer) (f : Fact) (c : List ℕ) → answer ≡ Open → false ≡ tells answer f c
unfolding tells
tells-open answer f c e = rw e

-- ---- the page held against the text

module _ (book page claim : List ℕ) (answer : Answer) (c : List ℕ) (claim-bytes : Bytes claim) (chain-bytes : Bytes c) (x : Bool)
    (same : Same page (chain_text (record_at claim 0) answer c) x) where
  pub judged-other : x ≡ false → Judged book page claim answer c false
  judged-other h =
      record {
        claim-bytes = claim-bytes;
        chain-bytes = chain-bytes;
        sound = λ z. absurd (false≢true z);
        complete = λ p. absurd (false≢true (sym h ∙ same.complete p.page-is));
      }

  module _ (h : x ≡ true) (y : Bool) (passes-is : y ≡ passes book claim c) where
    pub judged-fails : y ≡ false → Judged book page claim answer c false
    judged-fails g =
        record {
          claim-bytes = claim-bytes;
          chain-bytes = chain-bytes;
          sound = λ z. absurd (false≢true z);
          complete = λ p. absurd (false≢true (sym g ∙ passes-is ∙ p.passing));
        }

    pub judged-last : y ≡ true → (z : Bool) → z ≡ tells answer (saying (record_at claim 0)) c → Judged book page claim answer c z
    judged-last g z e =
        record {
          claim-bytes = claim-bytes;
          chain-bytes = chain-bytes;
          sound = λ t. record { page-is = same.sound h; passing = sym passes-is ∙ g; telling = sym e ∙ t };
          complete = λ p. e ∙ p.telling;
        }
