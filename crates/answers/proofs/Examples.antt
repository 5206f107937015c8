-- Document 01's examples hold over bytes, by computation. Assumes nothing.
use Rattle.std.specs.Prelude.{Err, Ok}
use Rattle.outcomes.specs.Accepted.{Outcome, accepted_with}
use Prim.Native.Nat.{ℕ}
use mathlib.Core.Path.{◌≡◌, refl, ap, ◌∙◌}
use mathlib.Core.Bool.{Bool, true, false}
use mathlib.Core.List.{List, [], ◌∷◌, map}
use lib.Dec.{eqb}
use Rattle.lists.specs.Front.{front}
use Rattle.lists.specs.Tab.{tab}
use Rattle.lists.specs.Any.{any, any_below}
use Rattle.lists.specs.First.{first}
use Rattle.lists.specs.Numbers.{range, keep, find}
use Rattle.lists.specs.Tally.{tally}
use Rattle.rules.specs.Fact.{fact_of}
use Rattle.rules.specs.Follows.{storing, turned, parting, table, entry, step, rounds, containment, apart, meets, notpart, derived, follows, clash}
use Rattle.rules.specs.Verdict.{judge, verdict}
use Rattle.rules.specs.Entries.{facts_of, shortest_clash}
use Rattle.records.specs.Record.{record_at}
use Rattle.records.specs.Refusal.{refusal_number, scan}
use Rattle.records.specs.Pieces.{stated, largest, pieces_up_to}
use Rattle.records.specs.Rows.{admitted, order_row, same_bytes}
use Rattle.records.specs.Check.{form_finding, record_finding, check_by, claim_at, claims_check}
use Rattle.records.specs.Facts.{entry_of, entries}
use Rattle.records.specs.Kept.{picked}
use Rattle.records.specs.Marked.{marks, marked}
use Rattle.index.specs.Pairs.{joined, parts}
use Rattle.index.specs.Breadth.{breadth, order, parent}
use Rattle.index.specs.Tree.{hang, under, whole, visits}
use Rattle.index.specs.Parts.{is_shadow, shadows}
use Rattle.index.specs.Index.{visits_of}
use Rattle.groups.specs.Groups as groups
use Rattle.groups.specs.Index.{edges, book_visits}
use Rattle.records.specs.PartIn.{part_in}
use Rattle.records.specs.Claimed.{claimed, answers_to}
use Rattle.outcomes.specs.Lent.{Lent}
use Rattle.outcomes.specs.Call.{by_runs, by_claims, by_book, indexed, cleared, left}
use Rattle.outcomes.specs.Fresh.{fresh_call}
use Rattle.answers.specs.Examples.{Example, call, examples, AllHold, ExamplesHold}
use Rattle.answers.proofs.Fresh.{fresh-is}

-- the answers that are written
written : List ℕ → List ℕ → Outcome → List ℕ
written s cs (Ok n) = answers_to s n.pieces cs
written s cs (Err r) = []

refused : (l : Lent) (b : Bool) → (elim b as (λ _. Lent) [ true ↦ cleared l | false ↦ l ]).answers ≡ front [] l.answers
unfolding cleared front
refused l true = refl
refused l false = refl

left-written : (s cs : List ℕ) (l : Lent) (o : Outcome) → (left s cs l o).answers ≡ front (written s cs o) l.answers
unfolding left indexed written
left-written s cs l (Ok n) = refl
left-written s cs l (Err r) = refused l (eqb (refusal_number r.refusal) 14)

-- an example as the rows behind the buffers have it
came : Example → Example
came (call s cs o answers) = call s cs (fresh_call s cs) (written s cs (fresh_call s cs))

abbrev due : List Example → Outcome
due [] = accepted_with 0 0 0
due (call s cs o answers ∷ es) = o

abbrev answers_due : List Example → List ℕ
answers_due [] = []
answers_due (call s cs o answers ∷ es) = answers

abbrev others : List Example → List Example
others [] = []
others (e ∷ es) = es

-- is as it stands in the list
all : (es : List Example) → map came es ≡ es → AllHold es
unfolding came
all [] e = tt
all (call s cs o answers ∷ es) e = (
  λ l long.
      let q = fresh-is s cs l long in
      (q ∙ ap due e, ap (λ (x : Outcome). (left s cs l x).answers) q ∙ left-written s cs l (fresh_call s cs) ∙ ap (λ (v : List ℕ). front v l.answers) (ap answers_due e)),
  all es (ap others e),
)

pub examples-hold : ExamplesHold
unfolding examples came written fresh_call by_book by_claims by_runs check_by scan record_finding form_finding admitted order_row record_at stated largest pieces_up_to same_bytes claims_check claim_at entries entry_of fact_of facts_of shortest_clash first clash any any_below tab table entry storing turned parting marks marked step rounds containment apart meets notpart derived follows verdict judge answers_to claimed picked book_visits edges joined groups.groups groups.pair groups.number groups.lowest groups.first_of groups.same groups.lies tally part_in visits_of whole under hang parts keep range parent order breadth find visits shadows is_shadow
examples-hold = all examples refl
