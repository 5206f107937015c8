-- What the searches find. Assumes nothing.
use Rattle.std.specs.Prelude.{ℕ, ◌≤◌, ◌<◌, ◌≡◌, Bool, true, false, List, get_or, Option, MatchOption}
use Rattle.rules.specs.Fact.{Fact, MEETS}
use Rattle.rules.specs.Derives.{Derives}
use Rattle.rules.specs.Follows.{follows, clash}
use Rattle.records.specs.declared.Record.{Record}
use Rattle.records.specs.Facts.{facts}
use Rattle.records.specs.Kept.{picked}
use Rattle.records.specs.Record.{record_at, records}
use Rattle.records.specs.Marked.{marks, marked}
use Rattle.matrices.specs.Matrix.{IsMatrix}
use Rattle.closure.specs.Bounded.{Bounded}
use Rattle.closure.specs.Stored.{edge_bit}
use Rattle.closure.specs.Closed.{Holds, part_bit, toward_bit}
use Rattle.closure.specs.Counted.{MarksOf}
use Rattle.chain_format.specs.declared.steps.Step.{Step}
use Rattle.chain_format.specs.Step.{showing}
use Rattle.chain_format.specs.Citing.{Cited, none, citing}
use Rattle.chain_format.specs.Justified.{cites}
use Rattle.chain_format.specs.Twice.{Differ}
use Rattle.derivations.specs.declared.search.Aim.{Aim}
use Rattle.derivations.specs.declared.search.Witness.{Witness}
use Rattle.derivations.specs.Aim.{kind_for, joining, serving}
use Rattle.derivations.specs.Lifts.{Unmarked, Inside, Disjoint, Grounded}
use Rattle.derivations.specs.Written.{Put}
use Rattle.derivations.specs.Shown.{Writes}

-- a place below m that passes, or none where none does
abbrev pub Found : (ℕ → Bool) → ℕ → Option ℕ → Type 0
Found test m r = MatchOption r ((j : ℕ) → j < m → test j ≡ false) (λ i. (i < m) × (test i ≡ true))

-- a step that is justified by itself and shows the fact of kind k about a and b; that none is found says nothing
pub record Singly (n : ℕ) (es : List Cited) (k a b : ℕ) (s : Step) : Type 0 where
  pub grounded : Grounded n es s
  pub shown : showing s k a b ≡ true

-- a run of at most 8,192 records about n pieces without a contradiction among the facts that the claim picks, its marks, and the steps, D and T of these facts
pub record Ground (n : ℕ) (claim : Record) (s voids e d t : List ℕ) : Type 0 where
  pub few : records s ≤ 8192
  pub bounded : Bounded n (facts s)
  pub void : MarksOf s voids
  pub free : false ≡ clash (marked s) n (facts (picked s claim))
  pub steps : Holds n e (edge_bit n (facts (picked s claim)))
  pub parts : Holds n d (part_bit n (facts (picked s claim)))
  pub toward : Holds n t (toward_bit (marked s) n (facts (picked s claim)))

-- a run of which records are cited, and matrices by which they are chosen
pub record Citable (n : ℕ) (s d t : List ℕ) : Type 0 where
  pub few : records s ≤ 8192
  pub bounded : Bounded n (facts s)
  pub parts : IsMatrix d
  pub toward : IsMatrix t

-- a step that cites a record, and its pieces in the order in which they lead to the fact
pub record Witnessed (n : ℕ) (es : List Cited) (aim : Aim) (d t : List ℕ) (a b : ℕ) (w : Witness) : Type 0 where
  pub grounded : Grounded n es w.step
  pub cited : cites (get_or es w.step.first none) w.step ≡ true
  pub shown : showing w.step (kind_for aim) w.x w.y ≡ true
  pub left : w.x < n
  pub right : w.y < n
  pub joined : joining aim d t a b w.x w.y ≡ true

-- such a step where a record of the run leads to the fact
abbrev pub Sought : ℕ → Record → List ℕ → Aim → List ℕ → List ℕ → ℕ → ℕ → Option Witness → Type 0
Sought n claim s aim d t a b r =
    MatchOption r ((j : ℕ) → j < records s → serving aim claim d t a b (record_at s j) ≡ false) (Witnessed n (citing claim s) aim d t a b)

-- x MEETS y, x in a and y in b, where a and b meet; of two pieces x and y, none lies both between x and a and between y and b
pub record Meets (n : ℕ) (claim : Record) (s : List ℕ) (a b : ℕ) (w : Witness) : Type 0 where
  pub grounded : Grounded n (citing claim s) w.step
  pub shown : showing w.step 3 w.x w.y ≡ true
  pub left : w.x < n
  pub right : w.y < n
  pub first : Inside n claim s w.x a
  pub second : Inside n claim s w.y b
  pub meets : Derives (marked s) n (facts (picked s claim)) (MEETS w.x w.y)
  pub unmarked : w.x ≡ w.y → Unmarked n claim s w.x
  pub disjoint : (w.x ≡ w.y → ⊥) → Disjoint n claim s w.x a w.y b

-- such a step, or none where a MEETS b does not follow
abbrev pub Met : ℕ → Record → List ℕ → ℕ → ℕ → Option Witness → Type 0
Met n claim s a b r = MatchOption r (follows (marked s) n (facts (picked s claim)) (MEETS a b) ≡ false) (Meets n claim s a b)

-- r steps from step 0 on, no two of which show the same, show f, or r is 0, nothing is written and f does not follow
pub record Chained (n : ℕ) (claim : Record) (s : List ℕ) (f : Fact) (c c' : List ℕ) (r : ℕ) : Type 0 where
  pub none : r ≡ 0 → (c' ≡ c) × (follows (marked s) n (facts (picked s claim)) f ≡ false)
  pub some : 0 < r → Writes n (citing claim s) f 12285 c 0 c' r × (follows (marked s) n (facts (picked s claim)) f ≡ true) × Differ c' 0 r

-- one step, a APART b by a record that marks g
pub record Voided (s : List ℕ) (g a b : ℕ) (c c' : List ℕ) (r : ℕ) : Type 0 where
  pub one : r ≡ 1
  pub mark : ℕ
  pub there : mark < records s
  pub marks-it : marks g (record_at s mark) ≡ true
  pub put : Put c c' 0 (record { rule = 10; kind = 2; a = a; b = b; first = mark; second = 0 })
