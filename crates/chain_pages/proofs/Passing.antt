-- What `why` prints passes, and what is longer than every page of it fails. Assumes nothing.
use Rattle.std.specs.Prelude.{Ok}
use Prim.Native.Nat.{ℕ, ◌≤◌}
use mathlib.Core.Path.{◌≡◌, refl, ap, ◌∙◌}
use mathlib.Core.Bool.{Bool, true, false}
use mathlib.Core.List.{List}
use native.Mathlib.Omega.{arith}
use lib.ListN.{length}
use Rattle.records.specs.Record.{record_at}
use Rattle.chain_pages.specs.Verified.{Verified, Verifies}
use Rattle.chain_pages.proofs.Plains.{passing-is}
use Rattle.chain_pages.specs.WhyText.{why_text}
use Rattle.chain_pages.specs.Verdict.{WhyPasses, LongFails}
use Rattle.chain_pages.proofs.Replies.{answered, answered-short}
use Rattle.chain_pages.proofs.WhyVerifies.{why-verifies}

said-yes : (book chain : List ℕ) (v : Bool) → Verifies book chain v → Verified book chain → v ≡ true
said-yes book chain true h w = refl
said-yes book chain false h w = absurd (h w)

said-not : (book chain : List ℕ) (v : Bool) → Verifies book chain v → (Verified book chain → ⊥) → v ≡ false
said-not book chain true h w = absurd (w h)
said-not book chain false h w = refl

pub why-passes : WhyPasses
why-passes source words book claim page page' out out' r r' end w a h is v =
    said-yes book _ v.passes (v.verifies book a.read) (why-verifies source words book claim page page' r end w a h is)

-- the text of a chain is that of an answer
verified-short : (book chain : List ℕ) → Verified book chain → length chain ≤ 852835
verified-short book chain v =
    let p = passing-is book v.claim v.chain v.page-of.passing in
    let text : chain ≡ why_text chain v.claim (Ok v.answer) v.chain =
    v.page-of.page-is ∙ answered chain v.claim (Ok v.answer) v.chain v.answer (record_at v.claim 0) refl refl in
    omega (
      arith,
      ap length text,
      answered-short chain v.claim (Ok v.answer) v.chain v.answer refl v.claim-bytes v.chain-bytes (omega (arith, p.whole, p.few)),
    )

pub long-fails : LongFails
long-fails source book chain out out' r e h v = said-not book chain v.passes (v.verifies book e) (λ w. omega (arith, verified-short book chain w))
