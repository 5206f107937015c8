-- What `why` prints for FOLLOWS and DENIED verifies. Assumes nothing.
use Rattle.std.specs.Prelude.{Err, Ok}
use Rattle.chain_writing.specs.Reply.{Reply}
use Prim.Native.Nat.{ℕ, zero, suc}
use mathlib.Core.Path.{◌≡◌, refl, sym, ap, subst, ◌∙◌}
use mathlib.Core.Bool.{true, false≢true}
use mathlib.Core.List.{List}
use native.Mathlib.Omega.{arith}
use lib.ListN.{take}
use Rattle.records.specs.declared.Record.{Record}
use Rattle.records.specs.Record.{record_at}
use Rattle.chain_writing.specs.Call.{shown}
use Rattle.verdicts.specs.declared.Answer.{Answer}
use Rattle.chain_check.specs.Call.{passes}
use Rattle.pages.specs.Written.{Page}
use Rattle.std.specs.Prelude.{Option}
use Rattle.std.specs.Prelude.{Some}
use Rattle.text.specs.declared.Form.TheVariants.{Records, Claims}
use Rattle.text.specs.Entry.{six_bytes}
use Rattle.sentences.proofs.Readings.{of-read}
use Rattle.sentences.proofs.Arguments.{of_entry}
use Rattle.chain_pages.specs.ChainText.{chain_text, Bytes}
use Rattle.chain_pages.specs.Verified.{said, Verified}
use Rattle.chain_pages.proofs.Plains.{passing-is}
use Rattle.chain_pages.proofs.Verifying.{answer-verifies}
use Rattle.records.proofs.Accepted.{kind-of}
use Rattle.chain_pages.specs.WhyText.{why_text, why_page}
use Rattle.chain_pages.specs.Why.{Asks, text_of, WhyVerifies}

-- a claim with steps that pass has a known kind and a choice, so its six bytes are bytes
claim-bytes : (book chain : List ℕ) (r : Record) → passes book (six_bytes r) chain ≡ true → Bytes (six_bytes r)
unfolding record_at
claim-bytes book chain r e zero = omega (arith, (kind-of _ (passing-is book (six_bytes r) chain e).kinds).1)
claim-bytes book chain r e (suc zero) = omega (arith, (passing-is book (six_bytes r) chain e).choices)
claim-bytes book chain r e (suc (suc zero)) = omega arith
claim-bytes book chain r e (suc (suc (suc zero))) = omega arith
claim-bytes book chain r e (suc (suc (suc (suc zero)))) = omega arith
claim-bytes book chain r e (suc (suc (suc (suc (suc zero))))) = omega arith
claim-bytes book chain r e (suc (suc (suc (suc (suc (suc j)))))) = omega arith

answer-of : (x : Reply) → shown x ≡ true → (a : Answer) × (x ≡ Ok a)
answer-of (Ok a) h = (a, refl)
answer-of (Err r) h = absurd (false≢true h)

printed-text : (page text page' : List ℕ) (r : Option ℕ) (end : ℕ) → r ≡ Some end → Page page text page' r → take end page' ≡ text
printed-text page text page' r end is p = (subst (Page page text page') is p).first

module _ (source words book : List ℕ) (r : Record) (c : List ℕ) where
  -- the page of words and a source that were read
  page-text : (claim : List ℕ) (a : Asks source words book claim) → why_text source claim (said book claim) c ≡ why_page source words c
  unfolding why_page
  page-text claim a =
      ap (λ (x : List ℕ). why_text source x (said book x) c) a.claim-is
      ∙ of-read 0 Records source (λ (b : List ℕ). why_text source (six_bytes a.entry) (said b (six_bytes a.entry)) c) book a.read
      ∙ of_entry Claims words (λ (s : Record). text_of source s c) _ refl a.entry a.worded

pub why-verifies : WhyVerifies
unfolding why_text
why-verifies source words book claim page page' r end w a h is =
    let c = w.chain in
    let e : passes book claim c ≡ true = (w.behind book claim a).passing h in
    let b : Bytes claim = subst Bytes (sym a.claim-is) (claim-bytes book c a.entry (subst (λ (x : List ℕ). passes book x c ≡ true) a.claim-is e)) in
    let s = answer-of (said book claim) h in
    let text : take end page' ≡ chain_text (record_at claim 0) s.0 c =
    printed-text page _ page' r end is w.page-is ∙ sym (page-text source words book a.entry c claim a) ∙ ap (λ (x : Reply). why_text source claim x c) s.1 in
    subst (Verified book) (sym text) (answer-verifies book claim c s.0 b w.bytes s.1 e)
