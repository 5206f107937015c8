-- What verifies is so, and the text of an answer and of steps that pass verifies. Assumes nothing.
use Rattle.std.specs.Prelude.{Ok}
use Prim.Native.Nat.{ℕ}
use mathlib.Core.Path.{◌≡◌, refl, sym, ap, ◌∙◌}
use mathlib.Core.Logic.{◌⊎◌, inl, inr}
use mathlib.Core.Bool.{true, false≢true}
use mathlib.Core.List.{List}
use native.Mathlib.Omega.{arith}
use Rattle.rules.specs.Fact.{Fact, opposite}
use Rattle.rules.specs.Verdict.{verdict}
use Rattle.records.specs.Marked.{marked}
use Rattle.records.specs.Record.{record_at}
use Rattle.records.specs.Facts.{saying}
use Rattle.verdicts.specs.declared.Answer.{Answer}
use Rattle.verdicts.specs.declared.Answer.TheVariants.{Follows, Denied, Open}
use Rattle.verdicts.specs.Answers.{answer_byte}
use Rattle.chain_check.specs.Call.{passes}
use Rattle.chain_check.specs.Derived.{Concludes, claim_in, facts_for}
use Rattle.chain_check.proofs.Meaning.{chain-derives}
use Rattle.chain_writing.specs.Call.{answer_to, reply_of}
use Rattle.chain_writing.proofs.Replies.{answered_byte}
use Rattle.chain_pages.specs.Verified.{tells, said, SaysSo, AnswerVerifies}

tells-one : (a : Answer) (f : Fact) (c : List ℕ) → answer_byte a ≡ 1 → Concludes c f → tells a f c ≡ true
unfolding tells
tells-one Follows f c e t = t
tells-one Denied f c e t = absurd (omega arith)
tells-one Open f c e t = absurd (omega arith)

tells-two : (a : Answer) (f : Fact) (c : List ℕ) → answer_byte a ≡ 2 → Concludes c (opposite f) → tells a f c ≡ true
unfolding tells
tells-two Follows f c e t = absurd (omega arith)
tells-two Denied f c e t = t
tells-two Open f c e t = absurd (omega arith)

module _ (book claim c : List ℕ) (e : passes book claim c ≡ true) where
  abbrev answer : Answer
  answer = answer_to (chain-derives book claim c e).n (record_at claim 0) book

  -- the reply of `why`, and what steps that pass show is as it says
  answer-said : said book claim ≡ Ok answer
  unfolding said reply_of
  answer-said = rw (chain-derives book claim c e).accepted

  answer-told : tells answer (saying (record_at claim 0)) c ≡ true
  answer-told = go (chain-derives book claim c e).last
    where
      byte : answer_byte answer ≡ verdict (marked book) (chain-derives book claim c e).n (facts_for book claim) (claim_in claim)
      byte = answered_byte (chain-derives book claim c e).n (record_at claim 0) book

      go : Concludes c (claim_in claim) ⊎ Concludes c (opposite (claim_in claim)) → tells answer (saying (record_at claim 0)) c ≡ true
      go (inl t) = tells-one answer (claim_in claim) c (byte ∙ (chain-derives book claim c e).follows t) t
      go (inr t) = tells-two answer (claim_in claim) c (byte ∙ (chain-derives book claim c e).denied t) t

-- an answer that the last step tells is that one
same_byte : (a b : Answer) → answer_byte a ≡ answer_byte b → a ≡ b
same_byte Follows Follows e = refl
same_byte Follows Denied e = absurd (omega arith)
same_byte Follows Open e = absurd (omega arith)
same_byte Denied Follows e = absurd (omega arith)
same_byte Denied Denied e = refl
same_byte Denied Open e = absurd (omega arith)
same_byte Open Follows e = absurd (omega arith)
same_byte Open Denied e = absurd (omega arith)
same_byte Open Open e = refl

told-byte : (book claim c : List ℕ) (e : passes book claim c ≡ true) (a : Answer) → tells a (claim_in claim) c ≡ true
    → verdict (marked book) (chain-derives book claim c e).n (facts_for book claim) (claim_in claim) ≡ answer_byte a
unfolding tells
told-byte book claim c e Follows t = (chain-derives book claim c e).follows t
told-byte book claim c e Denied t = (chain-derives book claim c e).denied t
told-byte book claim c e Open t = absurd (false≢true t)

pub says_so : SaysSo
says_so book page v =
    let c = v.chain in
    let e = v.page-of.passing in
    let n = (chain-derives book v.claim c e).n in
    answer-said book v.claim c e
    ∙ ap Ok (same_byte _ _ (answered_byte n (record_at v.claim 0) book ∙ told-byte book v.claim c e v.answer v.page-of.telling))

pub answer-verifies : AnswerVerifies
answer-verifies book claim chain a bytes bytes' is e =
    let same : answer book claim chain e ≡ a = cc (sym (answer-said book claim chain e) ∙ is) in
    record {
      claim = claim;
      answer = a;
      chain = chain;
      claim-bytes = bytes;
      chain-bytes = bytes';
      page-of = record { page-is = refl; passing = e; telling = rw same at (answer-told book claim chain e) };
    }
