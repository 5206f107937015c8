-- Records that are added alter no FOLLOWS and no DENIED, but for marks; an order that moves the place of 14; and a mark that turns answers. Assumes
-- nothing.
use Rattle.std.specs.Prelude.{Err, Ok}
use Rattle.records.specs.Refused.{refused_at}
use Rattle.outcomes.specs.Accepted.{Outcome, accepted_with}
use Prim.Native.Nat.{ℕ, zero, suc, ◌-◌, ◌*◌, ◌<◌}
use mathlib.Core.Path.{◌≡◌, refl, ap, ◌∙◌, fun_ext}
use mathlib.Core.List.{List, [], ◌∷◌, ◌++◌}
use native.Mathlib.Omega.{arith}
use lib.ListN.{length}
use Rattle.lists.specs.Tab.{tab}
use Rattle.lists.specs.Any.{any, any_below}
use Rattle.lists.specs.First.{first}
use Rattle.lists.specs.Front.{front}
use Rattle.lists.specs.Numbers.{range, keep, find}
use Rattle.index.specs.Pairs.{joined, parts}
use Rattle.index.specs.Breadth.{breadth, order, parent}
use Rattle.index.specs.Tree.{hang, under, whole, visits}
use Rattle.index.specs.Parts.{is_shadow, shadows}
use Rattle.index.specs.Index.{visits_of}
use Rattle.groups.specs.Groups as groups
use Rattle.groups.specs.Index.{edges, book_visits}
use Rattle.lists.specs.Tally.{tally}
use Rattle.records.specs.PartIn.{part_in}
use Rattle.rules.specs.Fact.{fact_of}
use Rattle.rules.specs.Follows.{storing, turned, parting, table, entry, step, rounds, containment, apart, meets, notpart, derived, follows, clash}
use Rattle.rules.specs.Verdict.{judge, verdict}
use Rattle.rules.specs.Entries.{facts_of, shortest_clash}
use Rattle.rules.proofs.More.{weaken}
use Rattle.records.specs.Record.{record_at, records}
use Rattle.records.specs.Marked.{marks, marked}
use Rattle.records.specs.Reordered.{Reordered}
use Rattle.records.specs.Refusal.{scan}
use Rattle.records.specs.Pieces.{pieces_up_to, stated, largest}
use Rattle.records.specs.Rows.{order_row, admitted, same_bytes}
use Rattle.records.specs.Check.{form_finding, record_finding, check_by, book_check, claim_at, claims_check}
use Rattle.records.specs.Facts.{entry_of, entries}
use Rattle.records.specs.Kept.{bytes_at, picked}
use Rattle.records.specs.declared.Refusal.TheVariants.{Contradiction}
use Rattle.records.proofs.Rows.{refused-positive}
use Rattle.records.proofs.Accepted.{accepted}
use Rattle.records.proofs.Examples.{bytes}
use Rattle.records.proofs.Marks.{marked-moved, marked-added}
use Rattle.records.proofs.Orders.{Found, picked-found, count-found, found_before, found-through, found-moved}
use Rattle.outcomes.specs.Lent.{Lent}
use Rattle.outcomes.specs.Outcome.{number}
use Rattle.records.specs.Claimed.{claimed, answers_to}
use Rattle.outcomes.specs.Call.{by_runs, outcome, indexed, left}
use Rattle.outcomes.specs.Order.{PlaceDiffers, Steady, MarksTurn}
use Rattle.outcomes.proofs.Outcomes.{Told, told, passed-outcome}
use Rattle.outcomes.proofs.Kept.{kept2}

-- an accepted book ends with a whole record
ended : (s cs : List ℕ) (l : Lent) → number (outcome s cs l) ≡ 0 → length s ≡ 6 * records s
ended s cs l = pick (outcome s cs l) (told s cs l)
  where
    pick : (r : Outcome) → Told s cs l r → number r ≡ 0 → length s ≡ 6 * records s
    pick (Ok n) t q = (accepted s n.pieces t.0.sound).whole
    pick (Err r) t q = absurd (refused-positive r.refusal q)

-- what has a derivation has one from more facts, of more pieces
pub steady : Steady
steady s r t cs l R none a b i h =
    let there : Found s t = found-through s (s ++ r) t (found_before s r (ended s cs l a)) (found-moved (s ++ r) t R) in
    let same : marked t ≡ marked s = marked-moved (s ++ r) t R ∙ fun_ext (λ g. marked-added s r (ended s cs l a) g (none g)) in
    let x = kept2 s cs l (refl, refl) a i h in
    let y = rw same at (kept2 t cs l (refl, refl) b i h) in (
      λ q. y.follows.1 (weaken (count-found s t there) (picked-found s t there (record_at cs i)) (x.follows.0 q)),
      λ q. y.denied.1 (weaken (count-found s t there) (picked-found s t there (record_at cs i)) (x.denied.0 q)),
    )

-- ---- APART 1 1 before PART 2 0, and behind it

abbrev early : List ℕ
early = bytes 2 0 1 1 ++ bytes 1 0 2 0

abbrev late : List ℕ
late = bytes 1 0 2 0 ++ bytes 2 0 1 1

swapped : (i : ℕ) → i < 2 → bytes_at late (1 - i) ≡ bytes_at early i
unfolding bytes_at
swapped zero h = refl
swapped (suc zero) h = refl
swapped (suc (suc i)) h = absurd (omega arith)

two-orders : Reordered early late
two-orders = record {
  long = refl;
  to = λ i. 1 - i;
  from = λ i. 1 - i;
  to_in = λ i h. omega arith;
  from_in = λ i h. omega arith;
  from-to = λ i h. omega arith;
  to-from = λ i h. omega arith;
  same = swapped;
}

checks : (book_check early ≡ Ok 3) × (book_check late ≡ Ok 3)
unfolding check_by scan record_finding form_finding admitted order_row record_at stated largest pieces_up_to same_bytes any_below
checks = (refl, refl)

no-claims : claims_check 3 [] ≡ Ok tt
unfolding claims_check scan
no-claims = refl

places : (by_runs early 3 ≡ refused_at Contradiction 0) × (by_runs late 3 ≡ refused_at Contradiction 1)
unfolding by_runs entries entry_of stated record_at fact_of facts_of shortest_clash first clash any any_below tab table entry storing turned parting marks marked step rounds containment meets
places = (refl, refl)

pub place-differs : PlaceDiffers
place-differs = (
  early,
  late,
  two-orders,
  λ l long. (
    passed-outcome early [] l 3 (record { lent = long; sound = checks.0; fit = no-claims }) ∙ places.0,
    passed-outcome late [] l 3 (record { lent = long; sound = checks.1; fit = no-claims }) ∙ places.1,
  ),
)

-- ---- PART 3 1 and PART 3 2, and a mark of piece 3: what had its ice in 3 alone is undone

abbrev overlap : List ℕ
overlap = bytes 1 0 3 1 ++ bytes 1 0 3 2

abbrev mark : List ℕ
mark = bytes 6 0 3 0

-- MEETS 1 2, MEETS 3 1, APART 1 2, APART 3 1, NOTPART 1 3, PART 1 3
abbrev six : List ℕ
six = bytes 3 0 1 2 ++ bytes 3 0 3 1 ++ bytes 2 0 1 2 ++ bytes 2 0 3 1 ++ bytes 4 0 1 3 ++ bytes 1 0 1 3

six-fit : claims_check 4 six ≡ Ok tt
unfolding claims_check scan claim_at record_at stated largest
six-fit = refl

overlaps : (book_check overlap ≡ Ok 4) × (book_check (overlap ++ mark) ≡ Ok 4)
unfolding check_by scan record_finding form_finding admitted order_row record_at stated largest pieces_up_to same_bytes any_below
overlaps = (refl, refl)

overlap-runs : (by_runs overlap 4 ≡ accepted_with 4 5 1) × (by_runs (overlap ++ mark) 4 ≡ accepted_with 4 5 1)
unfolding by_runs entries entry_of stated record_at fact_of facts_of shortest_clash first clash any any_below tab table entry storing turned parting marks marked step rounds containment meets book_visits edges joined groups.groups groups.pair groups.number groups.lowest groups.first_of groups.same groups.lies tally part_in visits_of whole under hang parts keep range parent order breadth find visits shadows is_shadow
overlap-runs = (refl, refl)

overlap-answers : (answers_to overlap 4 six ≡ 1 ∷ 1 ∷ 2 ∷ 2 ∷ 3 ∷ 3 ∷ []) × (answers_to (overlap ++ mark) 4 six ≡ 3 ∷ 2 ∷ 3 ∷ 1 ∷ 1 ∷ 2 ∷ [])
unfolding answers_to claimed picked entries entry_of stated record_at fact_of facts_of verdict judge follows any any_below tab table entry storing turned parting marks marked step rounds containment apart meets notpart derived
overlap-answers = (refl, refl)

pub marks-turn : MarksTurn
unfolding left indexed record_at
marks-turn = (
  overlap,
  mark,
  six,
  λ l long.
      let a = passed-outcome overlap six l 4 (record { lent = long; sound = overlaps.0; fit = six-fit }) ∙ overlap-runs.0 in
      let b = passed-outcome (overlap ++ mark) six l 4 (record { lent = long; sound = overlaps.1; fit = six-fit }) ∙ overlap-runs.1 in
      record {
        one = refl;
        mark = refl;
        accepted = (ap number a, ap number b);
        before = rw a (ap (λ (v : List ℕ). front v l.answers) overlap-answers.0);
        after = rw b (ap (λ (v : List ℕ). front v l.answers) overlap-answers.1);
      },
)
