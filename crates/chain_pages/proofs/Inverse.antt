-- Reading inverts printing: of a page that verifies, the reader finds the claim, the answer and the steps. Assumes nothing.
use Prim.Native.Nat.{ℕ, ◌≤◌}
use mathlib.Core.Path.{◌≡◌, refl, sym, ap, ◌∙◌}
use mathlib.Core.Bool.{Bool, true, false, false≢true}
use mathlib.Core.List.{List, [], ◌∷◌, ◌++◌}
use native.Mathlib.Omega.{arith}
use lib.Dec.{leb}
use lib.ListN.{length, get_or, drop, drop_of_length-le}
use borrow.Author.Tests.{leb-true}
use Rattle.lists.proofs.Bools.{Known, is_true, is_false, known, and_both}
use Rattle.rules.specs.Fact.{Fact}
use Rattle.records.specs.declared.Record.{Record}
use Rattle.records.specs.Record.{record_at}
use Rattle.records.specs.Facts.{saying}
use Rattle.records.specs.Pieces.{stated}
use Rattle.text.specs.Entry.{six_bytes}
use Rattle.verdicts.specs.declared.Answer.{Answer}
use Rattle.verdicts.specs.declared.Answer.TheVariants.{Open}
use Rattle.verdicts.specs.Answers.{answer_byte}
use Rattle.chain_format.specs.Step.{steps}
use Rattle.chain_pages.specs.AnswerLine.{answer_line}
use Rattle.chain_pages.specs.StepLine.{step_lines}
use Rattle.chain_pages.specs.ChainText.{chain_text, Bytes}
use Rattle.chain_pages.specs.Read.{after, claim_in, answer_in, steps_in}
use Rattle.chain_pages.specs.Found.{HeadOf}
use Rattle.chain_pages.specs.Verified.{tells, PageOf, Verified, Judged, Verifies}
use Rattle.chain_pages.proofs.Plains.{Passing, passing-is}
use Rattle.chain_pages.proofs.HeadsRead.{told, head-left, claim-read, answer-read, head_plain}
use Rattle.chain_pages.proofs.ChainsRead.{byte_at, low, high, steps-read}

never-open : (answer : Answer) (f : Fact) (c : List ℕ) → tells answer f c ≡ true → answer ≡ Open → ⊥
unfolding tells
never-open answer f c t e = false≢true (rw e at t)

claim-back : (l : List ℕ) → length l ≡ 6 → Bytes l → six_bytes (record_at l 0) ≡ l
unfolding record_at
claim-back l six bytes =
    let whole : l ≡ get_or l 0 0 ∷ get_or l 1 0 ∷ get_or l 2 0 ∷ get_or l 3 0 ∷ get_or l 4 0 ∷ get_or l 5 0 ∷ [] =
    byte_at l 0 1 refl (omega arith)
    ∙ rw (
      byte_at l 1 2 refl (omega arith),
      byte_at l 2 3 refl (omega arith),
      byte_at l 3 4 refl (omega arith),
      byte_at l 4 5 refl (omega arith),
      byte_at l 5 6 refl (omega arith),
      drop_of_length-le l {i = 6} (omega arith),
    ) in
    rw (
      low (get_or l 2 0) (get_or l 3 0) (bytes 2),
      high (get_or l 2 0) (get_or l 3 0) (bytes 2) (bytes 3),
      low (get_or l 4 0) (get_or l 5 0) (bytes 4),
      high (get_or l 4 0) (get_or l 5 0) (bytes 4) (bytes 5),
    )
    (sym whole)

module _ (book page : List ℕ) (v : Verified book page) where
  abbrev claim : Record
  claim = record_at v.claim 0

  p : Passing book v.claim v.chain
  p = passing-is book v.claim v.chain v.page-of.passing

  kinds : (1 ≤ claim.kind) × (claim.kind ≤ 4)
  unfolding stated
  kinds = let b = and_both (leb 1 claim.kind) _ p.kinds in (leb-true _ _ b.0, leb-true _ _ b.1)

  small : (claim.a ≤ 65535) × (claim.b ≤ 65535)
  unfolding record_at
  small = (omega (arith, v.claim-bytes 2, v.claim-bytes 3), omega (arith, v.claim-bytes 4, v.claim-bytes 5))

  answered : v.answer ≡ Open → ⊥
  answered = never-open v.answer (saying claim) v.chain v.page-of.telling

  abbrev lined : List ℕ
  lined = step_lines v.chain (steps v.chain)

  printed : page ≡ answer_line claim (answer_byte v.answer) ++ lined
  unfolding chain_text
  printed = v.page-of.page-is

  pub claim-found : six_bytes (claim_in page) ≡ v.claim
  claim-found =
      ap (λ (l : List ℕ). six_bytes (claim_in l)) printed
      ∙ ap six_bytes (claim-read claim v.answer lined kinds.0 kinds.1 p.choices small.0 small.1 answered)
      ∙ claim-back v.claim p.six v.claim-bytes

  pub answer-found : answer_in page ≡ v.answer
  answer-found = ap answer_in printed ∙ answer-read claim v.answer lined kinds.0 kinds.1 p.choices small.0 small.1 answered

  pub chain-found : steps_in 16400 (after (after page)) ≡ v.chain
  chain-found =
      ap (λ (l : List ℕ). steps_in 16400 (after (after l))) printed
      ∙ ap (steps_in 16400) (head-left claim v.answer lined kinds.0 kinds.1 p.choices small.0 small.1 answered)
      ∙ steps-read v.chain v.chain-bytes p.whole p.plain (told claim.origin v.answer)
      (head_plain claim v.answer lined kinds.0 kinds.1 p.choices small.0 small.1 answered) p.few

-- ---- what was read verifies or nothing does

module _ (book page claim chain : List ℕ) (head : Record) (answer : Answer) (next : ℕ) (r : Bool) (h : HeadOf page head answer next) (bytes : claim ≡ six_bytes head)
    (read : chain ≡ steps_in 16400 (drop next page)) (j : Judged book page claim answer chain r) where
  page-verified : r ≡ true → Verified book page
  page-verified t =
      record { claim = claim; answer = answer; chain = chain; claim-bytes = j.claim-bytes; chain-bytes = j.chain-bytes; page-of = j.sound t }

  page-fails : r ≡ false → Verified book page → ⊥
  page-fails f v =
      let a : v.claim ≡ claim = sym (bytes ∙ ap six_bytes h.claim-is ∙ claim-found book page v) in
      let b : v.answer ≡ answer = sym (h.answer-is ∙ answer-found book page v) in
      let c : v.chain ≡ chain = sym (read ∙ ap (steps_in 16400) h.left ∙ chain-found book page v) in
      let found : PageOf book page claim answer chain = rw (← a, ← b, ← c) v.page-of in
      false≢true (sym f ∙ j.complete found)

  pub page-judged : Verifies book page r
  page-judged = go (known r)
    where
      go : Known r → Verifies book page r
      go (is_true e) = rw e (page-verified e)
      go (is_false e) = rw e (page-fails e)
