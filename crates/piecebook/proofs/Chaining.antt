-- The result of a chain that C gets, from what it comes to. Assumes nothing.
use Rattle.std.specs.Prelude.{Ok}
use Rattle.records.specs.Refused.{refused_at}
use Rattle.chain_writing.specs.Reply.{Reply}
use Prim.Native.Nat.{ℕ, ◌*◌}
use mathlib.Core.Path.{◌≡◌, refl, sym, ap, subst, ◌∙◌}
use mathlib.Core.List.{List}
use lib.ListN.{take}
use Rattle.lists.specs.Front.{front}
use Rattle.records.specs.Refusal.{refusal_number}
use Rattle.records.specs.declared.Refusal.{Refusal}
use Rattle.verdicts.specs.Answers.{answer_byte}
use Rattle.verdicts.specs.declared.Answer.{Answer}
use Rattle.chain_writing.specs.Call.{shown, Steps, Written}
use Rattle.chain_writing.specs.declared.Chain.{Chain}
use Rattle.chain_writing.specs.ReplyNumbers.{number, place, answer}
use Rattle.piecebook.specs.Chains.{Replied, Chained}
use Rattle.piecebook.specs.declared.chain_calls.PiecebookChainResult.{PiecebookChainResult}

pub replied-answer : (o : Reply) (a : Answer) (steps b : ℕ) → o ≡ Ok a → b ≡ answer_byte a → Replied o steps (record { number = 0; place = 0; answer = b; steps = steps })
replied-answer o a steps b e f = rw e (record { number_is = refl; place_is = refl; answer-is = f; steps-are = refl })

pub replied-refused : (o : Reply) (x : Refusal) (i steps n : ℕ) → o ≡ refused_at x i → n ≡ refusal_number x → Replied o steps (record { number = n; place = i; answer = 0; steps = steps })
replied-refused o x i steps n e f = rw e (record { number_is = f; place_is = refl; answer-is = refl; steps-are = refl })

pub chained-all : (s cs c : List ℕ) (w : Chain) (c' : List ℕ) (r : PiecebookChainResult) → Written s cs c w c' → Replied w.reply w.steps r → Chained s cs c r c'
chained-all s cs c w c' r W R =
    record {
      number_is = R.number_is ∙ ap number W.reply-is;
      place_is = R.place_is ∙ ap place W.reply-is;
      answer-is = R.answer-is ∙ ap answer W.reply-is;
      passing = λ z. subst (Steps s cs c') (sym R.steps-are) (W.steps-are (ap shown W.reply-is ∙ z));
      none = λ z. R.steps-are ∙ W.none (ap shown W.reply-is ∙ z);
      behind = W.behind ∙ ap (λ (m : ℕ). front (take (10 * m) c') c) (sym R.steps-are);
    }
