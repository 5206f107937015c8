-- The calls of `working` as C gets them. Assumes nothing.
use Rattle.records.specs.Refused.{refused_at}
use Rattle.outcomes.specs.Accepted.{Outcome}
use mathlib.Core.Path.{◌≡◌, refl, sym, subst}
use mathlib.Core.List.{List}
use Prim.Native.Nat.{ℕ}
use Rattle.records.specs.Refusal.{refusal_number}
use Rattle.records.specs.declared.Refusal.{Refusal}
use Rattle.working.specs.declared.keeping.Working.{Working}
use Rattle.working.specs.declared.keeping.Asked.{Asked}
use Rattle.working.specs.Kept as on
use Rattle.piecebook.specs.declared.PiecebookWorking.{PiecebookWorking}
use Rattle.piecebook.specs.declared.PiecebookWorkingResult.{PiecebookWorkingResult}
use Rattle.piecebook.specs.OpenBook.{state_of, begun_counts, Replied, Started, Added, Withdrawn, Answered}

pub replied-refused : (o : Outcome) (x : Refusal) (i n a : ℕ) → o ≡ refused_at x i → n ≡ refusal_number x → Replied o a (record { number = n; place = i; answer = a })
replied-refused o x i n a e f = rw e (record { number_is = f; place_is = refl; answer-is = refl })

module _ (w w' : PiecebookWorking) (was s : Working) (o : Outcome) (r : PiecebookWorkingResult) (before : was ≡ state_of w) (behind : state_of w' ≡ s) (told : Replied o 0 r) (area area' : List ℕ) where
  pub added : (a : List ℕ) → on.Added was area a o s area' → Added w area a r w' area'
  added a D =
      record {
        outcome = o;
        called = subst (λ (x : Working). on.Added (state_of w) area a o x area') (sym behind) (subst (λ (x : Working). on.Added x area a o s area') before D);
        told = told;
      }

  pub withdrawn : (i : ℕ) → on.Withdrawn was area i o s area' → Withdrawn w area i r w' area'
  withdrawn i D =
      record {
        outcome = o;
        called = subst (λ (x : Working). on.Withdrawn (state_of w) area i o x area') (sym behind) (subst (λ (x : Working). on.Withdrawn x area i o s area') before D);
        told = told;
      }

pub answered : (w : PiecebookWorking) (was : Working) (asked : Asked) (n : ℕ) (r : PiecebookWorkingResult) (area c : List ℕ) → was ≡ state_of w → n ≡ asked.answer → Replied asked.outcome n r → on.Answered was area c asked → Answered w area c r
answered w was asked n r area c before wide told D =
    record {
      asked = asked;
      called = subst (λ (x : Working). on.Answered x area c asked) before D;
      told = subst (λ (x : ℕ). Replied asked.outcome x r) wide told;
    }

pub began : (state area state' area' : List ℕ) (r : PiecebookWorkingResult) (o o' : Outcome) (begun : Working) → o ≡ o' → on.Started area o begun area' → Replied o 0 r → state' ≡ begun_counts state begun o' → Started state area r state' area'
began state area state' area' r o o' begun is D told counts =
    record { outcome = o'; begun = begun; called = subst (λ (x : Outcome). on.Started area x begun area') is D; told = subst (λ (x : Outcome). Replied x 0 r) is told; counts = counts }
