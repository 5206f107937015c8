-- The result of the chain behind a contradiction that C gets, from what it comes to. Assumes nothing.
use Rattle.std.specs.Prelude.{Ok}
use Rattle.records.specs.Refused.{refused_at}
use Rattle.clash.specs.Reply.{Reply}
use Prim.Native.Nat.{ℕ, ◌*◌}
use mathlib.Core.Path.{◌≡◌, refl, sym, ap, subst, ◌∙◌}
use mathlib.Core.List.{List}
use lib.ListN.{take}
use Rattle.lists.specs.Front.{front}
use Rattle.records.specs.Refusal.{refusal_number}
use Rattle.records.specs.declared.Refusal.{Refusal}
use Rattle.clash.specs.Clash.{shown, Steps, Written}
use Rattle.clash.specs.declared.Clash.{Clash}
use Rattle.piecebook.specs.Clashes.{number, place, Replied, Clashed}
use Rattle.piecebook.specs.declared.chain_calls.PiecebookClashResult.{PiecebookClashResult}

pub replied-free : (o : Reply) (steps : ℕ) → o ≡ Ok tt → Replied o steps (record { number = 0; place = 0; steps = steps })
replied-free o steps e = rw e (record { number_is = refl; place_is = refl; steps-are = refl })

pub replied-refused : (o : Reply) (x : Refusal) (i steps n : ℕ) → o ≡ refused_at x i → n ≡ refusal_number x → Replied o steps (record { number = n; place = i; steps = steps })
replied-refused o x i steps n e f = rw e (record { number_is = f; place_is = refl; steps-are = refl })

pub clashed-all : (s c : List ℕ) (w : Clash) (c' : List ℕ) (r : PiecebookClashResult) → Written s c w c' → Replied w.reply w.steps r → Clashed s c r c'
clashed-all s c w c' r W R =
    record {
      number_is = R.number_is ∙ ap number W.reply-is;
      place_is = R.place_is ∙ ap place W.reply-is;
      passing = λ z. subst (Steps s c') (sym R.steps-are) (W.steps-are (ap shown W.reply-is ∙ z));
      none = λ z. R.steps-are ∙ W.none (ap shown W.reply-is ∙ z);
      behind = W.behind ∙ ap (λ (m : ℕ). front (take (10 * m) c') c) (sym R.steps-are);
    }
