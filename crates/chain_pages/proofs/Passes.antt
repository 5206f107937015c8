-- A page held against texts, one behind the other. Assumes nothing.
use Prim.Native.Nat.{ℕ, ◌+◌, ◌*◌, ◌-◌, ◌≤◌, ◌<◌}
use mathlib.Core.Path.{◌≡◌, refl, sym, ap, ap₂, subst, ◌∙◌}
use mathlib.Core.List.{List, [], ◌++◌, append_assoc, append-nil}
use native.Mathlib.Numerals.{add-one}
use native.Mathlib.Decide.{dec_lt}
use native.Mathlib.Omega.{arith}
use lib.Dec.{eqb}
use lib.ListN.{length, take, drop, length-append}
use lib.Seq.{take_all, take-add}
use borrow.Author.Tests.{eq-eqb, eqb-true}
use Rattle.lists.proofs.Parts.{between}
use Rattle.records.specs.declared.Record.{Record}
use Rattle.records.specs.Record.{record_at}
use Rattle.verdicts.specs.declared.Answer.{Answer}
use Rattle.verdicts.specs.Answers.{answer_byte}
use Rattle.chain_format.specs.declared.steps.Step.{Step}
use Rattle.chain_format.specs.Step.{step_at, steps}
use Rattle.pages.specs.Lines.{lines}
use Rattle.pages.specs.Put.{Put}
use Rattle.pages.proofs.Writing.{with-room}
use Rattle.chain_pages.specs.StepLine.{step_line, step_lines}
use Rattle.chain_pages.specs.AnswerLine.{answer_line}
use Rattle.chain_pages.specs.ChainText.{Bytes}
use Rattle.chain_pages.specs.Begins.{Begins, Passed, Same, Narrow}
use Rattle.chain_pages.proofs.Rooms.{step-width, answer-line-width}

pub begins-none : (page : List ℕ) → Begins page [] 0
begins-none page = record { there = λ h. (refl, refl); other = λ h. absurd (omega arith) }

-- ---- one text

module _ (page : List ℕ) (at : ℕ) (text : List ℕ) where
  pub behind-page : length page < at → Passed page at text (length page + 1)
  behind-page h before b =
      record { there = λ k. absurd (omega arith); other = λ k rest e. b.other h (text ++ rest) (e ∙ append_assoc before text rest) }

  pub too_short : at ≤ length page → length page - at < length text → Passed page at text (length page + 1)
  too_short h g before b =
      record {
        there = λ k. absurd (omega arith);
        other = λ k rest e. absurd (omega (arith, (b.there h).0, ap length e, length-append (before ++ text) rest, length-append before text));
      }

  module _ (end : ℕ) (is : end ≡ at + length text) (fits : end ≤ length page) where
    pub stands : take (end - at) (drop at page) ≡ text → Passed page at text end
    stands same before b =
        let t = b.there (omega arith) in
        let n : end ≡ at + (end - at) = omega arith in
        record {
          there = λ k. (
            omega (arith, t.0, length-append before text),
            ap (λ (m : ℕ). take m page) n ∙ take-add at (end - at) page ∙ ap₂ ◌++◌ t.1 same,
          );
          other = λ k. absurd (omega arith);
        }

    pub stands-not : (take (end - at) (drop at page) ≡ text → ⊥) → Passed page at text (length page + 1)
    stands-not d before b =
        record {
          there = λ k. absurd (omega arith);
          other = λ k rest e.
              let n : end - at ≡ length text = omega arith in
              absurd (d (rw (n, e) (between before text rest at (b.there (omega arith)).0)));
        }

-- ---- one behind the other

pub passed_none : (page : List ℕ) (at : ℕ) → Passed page at [] at
passed_none page at before b = rw append-nil b

pub passed-more : (page : List ℕ) (at : ℕ) (s : List ℕ) (e : ℕ) (t : List ℕ) (f : ℕ) → Passed page at s e → Passed page e t f → Passed page at (s ++ t) f
passed-more page at s e t f p q before b = subst (λ (x : List ℕ). Begins page x f) (append_assoc before s t) (q (before ++ s) (p before b))

pub passed-line : (page : List ℕ) (at : ℕ) (f : ℕ → List ℕ) (i e g : ℕ) (t : List ℕ) → t ≡ f i → Passed page at (lines f i) e → Passed page e t g
    → Passed page at (lines f (i + 1)) g
unfolding lines
passed-line page at f i e g t is p q = rw (add-one i, ← is) (passed-more page at (lines f i) e t g p q)

pub passed-all : (page : List ℕ) (at : ℕ) (c : List ℕ) (n end : ℕ) → n ≡ steps c → Passed page at (step_lines c n) end → Passed page at (step_lines c (steps c)) end
passed-all page at c n end is p = rw (← is) p

-- ---- the whole page

pub whole-page : (page text : List ℕ) (end : ℕ) → Passed page 0 text end → Same page text (eqb end (length page))
whole-page page text end p =
    let b : Begins page text end = p [] (begins-none page) in
    record {
      sound = λ t. let n = eqb-true end (length page) t in sym (take_all end page (omega arith)) ∙ (b.there (omega arith)).1;
      complete = λ e.
          eq-eqb end (length page)
          (elim (dec_lt (length page) end) [
            | yes h ↦ absurd (b.other h [] (e ∙ sym (append-nil text)))
            | no h ↦ omega (arith, (b.there (omega arith)).0, ap length e)
          ]);
    }

-- ---- a line that was put on a page of its own

module _ {p text q : List ℕ} {n : ℕ} (put : Put p 0 text q n) (short : length text ≤ length p) where
  pub put-inside : n ≤ length q
  put-inside = (with-room put short).counts.0

  pub put-passed : (page : List ℕ) (at end : ℕ) → Passed page at (take n q) end → Passed page at text end
  put-passed page at end h = subst (λ (x : List ℕ). Passed page at x end) (with-room put short).first h

pub narrow : (c : List ℕ) → Bytes c → (i : ℕ) (s : Step) → s ≡ step_at c i → i < 16400 → Narrow i s
unfolding step_at
narrow c bytes i s is h =
    rw is (
      omega arith,
      omega (arith, bytes (10 * i + 2), bytes (10 * i + 3)),
      omega (arith, bytes (10 * i + 4), bytes (10 * i + 5)),
      omega (arith, bytes (10 * i + 6), bytes (10 * i + 7)),
      omega (arith, bytes (10 * i + 8), bytes (10 * i + 9)),
    )

pub narrow-line : (i : ℕ) (s : Step) → Narrow i s → length (step_line i s) ≤ 52
narrow-line i s h = step-width i s h.0 h.1 h.2 h.3 h.4

pub answered-as : (claim : List ℕ) (r : Record) (answer : Answer) (b : ℕ) → r ≡ record_at claim 0 → b ≡ answer_byte answer
    → answer_line r b ≡ answer_line (record_at claim 0) (answer_byte answer)
answered-as claim r answer b same byte = rw (same, byte)

pub answer-fits : (claim : List ℕ) (answer : Answer) → Bytes claim → length (answer_line (record_at claim 0) (answer_byte answer)) ≤ 52
answer-fits claim answer bytes = omega (arith, answer-line-width claim bytes (answer_byte answer))
