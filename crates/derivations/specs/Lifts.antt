-- A fact carried along g PART k by a rule of two premises, the PART first or second. Assumes nothing.
use Rattle.std.specs.Prelude.{ℕ, ◌<◌, ◌-◌, ◌≤◌, ◌≡◌, ◌⊎◌, Bool, true, false, List, length}
use Rattle.rules.specs.Fact.{Fact, PART, APART, MEETS, NOTPART, fact_of, unmarked, AllWithin}
use Rattle.rules.specs.Follows.{follows}
use Rattle.matrices.specs.Matrix.{bit_of}
use Rattle.chain_format.specs.Citing.{Cited, citing, marks_some}
use Rattle.records.specs.declared.Record.{Record}
use Rattle.records.specs.Record.{records}
use Rattle.records.specs.Facts.{facts}
use Rattle.records.specs.Kept.{picked}
use Rattle.chain_format.specs.declared.steps.Step.{Step}
use Rattle.chain_format.specs.Step.{step_at, shows}
use Rattle.chain_format.specs.Justified.{justified}
use Rattle.derivations.specs.declared.showing.Lift.{Lift}
use Rattle.derivations.specs.declared.showing.Route.{Route}
use Rattle.derivations.specs.Routes.{route_to}
use Rattle.derivations.specs.Sources.{Stepped}
use Rattle.chain_format.specs.Twice.{alike, Differ}
use Rattle.derivations.specs.Distinct.{Distinct}
use Rattle.derivations.specs.Shown.{Writes, Adds}

-- by rule r, along PART g k, the first fact shows the second
pub data Along : ℕ → Bool → ℕ → ℕ → Fact → Fact → Type 0 where
  lift-b : {g h k : ℕ} → Along 2 true g h (APART h k) (APART g k)
  lift-a' : {g h k : ℕ} → Along 5 true g h (NOTPART g k) (NOTPART h k)
  lift-b' : {g h k : ℕ} → Along 6 false h k (NOTPART g k) (NOTPART g h)
  lift-c' : {g h k : ℕ} → Along 7 true h k (MEETS g h) (MEETS g k)

-- a book of n pieces and the matrix of the steps of containment among the facts that the claim picks
pub record Setting (n : ℕ) (claim : Record) (book e : List ℕ) : Type 0 where
  pub matrix : length e ≡ 65536
  pub small : n ≤ 2048
  pub few : records book ≤ 8192
  pub within : AllWithin n (facts (picked book claim))
  pub stepped : Stepped n (facts (picked book claim)) e

-- g is part of k by these facts, whatever the marks
abbrev pub Inside : ℕ → Record → List ℕ → ℕ → ℕ → Type 0
Inside n claim book g k = follows unmarked n (facts (picked book claim)) (PART g k) ≡ true

-- the matrix d has these: bit g of row k for "g is part of k"
pub record Telling (n : ℕ) (claim : Record) (book d : List ℕ) : Type 0 where
  pub sized : length d ≡ 65536
  pub tells : (g k : ℕ) → g < n → k < n → bit_of d k g ≡ follows unmarked n (facts (picked book claim)) (PART g k)

-- no piece in which x lies is marked
abbrev pub Unmarked : ℕ → Record → List ℕ → ℕ → Type 0
Unmarked n claim book x = (w : ℕ) → w < n → Inside n claim book x w → marks_some (citing claim book) w ≡ false

-- w lies between g and k by these facts
pub record Between (n : ℕ) (claim : Record) (book : List ℕ) (g k w : ℕ) : Type 0 where
  pub over : Inside n claim book g w
  pub under : Inside n claim book w k
  pub present : w < n

-- no piece lies between g and k and between h and l
abbrev pub Disjoint : ℕ → Record → List ℕ → ℕ → ℕ → ℕ → ℕ → Type 0
Disjoint n claim book g k h l = (w : ℕ) → Between n claim book g k w → Between n claim book h l w → ⊥

-- a step on the way from g to k shows a PART in a piece between them
abbrev pub OnWay : ℕ → Record → List ℕ → ℕ → ℕ → Step → Type 0
OnWay n claim book g k z = (z.kind ≡ 1) × Between n claim book g k z.b

-- a step on the one way or the other, or one of kind kd
abbrev pub Spanning : ℕ → Record → List ℕ → ℕ → ℕ → ℕ → ℕ → ℕ → Step → Type 0
Spanning n claim book kd g k h l z = (OnWay n claim book g k z ⊎ OnWay n claim book h l z) ⊎ (z.kind ≡ kd)

-- steps m up to m' end in g PART k
pub record Reached (n : ℕ) (claim : Record) (book : List ℕ) (g k : ℕ) (c : List ℕ) (m : ℕ) (c' : List ℕ) (m' : ℕ) : Type 0 where
  pub writes : Writes n (citing claim book) (PART g k) 4093 c m c' m'
  pub differ : Differ c' m m'
  pub steps : (g ≡ k → ⊥) → Distinct (OnWay n claim book g k) c' m m'

-- z shows what s shows
pub record Same (z s : Step) : Type 0 where
  pub kinds : z.kind ≡ s.kind
  pub lefts : z.a ≡ s.a
  pub rights : z.b ≡ s.b

-- a lift along a containment by these facts, to a fact about two of their pieces
pub record Leads (n : ℕ) (claim : Record) (book : List ℕ) (l : Lift) : Type 0 where
  pub low : l.g < n
  pub high : l.k < n
  pub inside : Inside n claim book l.g l.k
  pub left : l.step.a < n
  pub right : l.step.b < n

-- a step of a lift
abbrev pub Lifting : ℕ → Record → List ℕ → Lift → Step → Type 0
Lifting n claim book l z = OnWay n claim book l.g l.k z ⊎ ((l.g ≡ l.k → ⊥) × Same z l.step)

-- steps m up to m' carry what step m - 1 shows to what the lift's step shows, either way round; there are none where g is k
pub record Lifted (n : ℕ) (claim : Record) (book : List ℕ) (l : Lift) (c : List ℕ) (m : ℕ) (c' : List ℕ) (m' : ℕ) : Type 0 where
  pub writes :
      (f f' d : Fact) → Along l.step.rule l.first l.g l.k f f' → shows (step_at c (m - 1)) f ≡ true → shows l.step f' ≡ true → shows l.step d ≡ true
      → Adds n (citing claim book) d 4094 c m c' m'
  pub steps : (l.step.kind ≡ 1 → ⊥) → Distinct (Lifting n claim book l) c' m m'

-- a step that needs no premise, or whose record may be cited: justified wherever it stands
pub record Grounded (n : ℕ) (es : List Cited) (s : Step) : Type 0 where
  pub holds : (i : ℕ) (p q : Step) → justified n es i s p q ≡ true
  pub left : s.a < 65536
  pub right : s.b < 65536
  pub first : s.first < 65536
  pub second : s.second < 65536

-- what s shows, as it stands
abbrev pub told : Step → Fact
told s = fact_of s.kind s.a s.b

-- what `base` shows is carried along a route
pub record Carried (base : Step) (r : Route) : Type 0 where
  pub low : Fact
  pub high : Fact
  pub middle : Fact
  pub last : Fact
  pub begins : shows base low ≡ true
  pub once : Along r.once.step.rule r.once.first r.once.g r.once.k low high
  pub between : (shows r.once.step high ≡ true) × (shows r.once.step middle ≡ true)
  pub twice : Along r.twice.step.rule r.twice.first r.twice.g r.twice.k middle last
  pub ends : (shows r.twice.step last ≡ true) × (shows r.twice.step (told r.twice.step) ≡ true)

-- the facts of a route are of base's kind, which is not PART, and a lift that is not idle comes to another fact than the one before
pub record Unlike (base : Step) (r : Route) : Type 0 where
  pub other : base.kind ≡ 1 → ⊥
  pub s-kind : r.once.step.kind ≡ base.kind
  pub t-kind : r.twice.step.kind ≡ base.kind
  pub once : (r.once.g ≡ r.once.k → ⊥) → alike base r.once.step ≡ false
  pub twice : (r.twice.g ≡ r.twice.k → ⊥) → alike r.once.step r.twice.step ≡ false

-- no piece lies on both lifts of a route
abbrev pub Forked : ℕ → Record → List ℕ → Route → Type 0
Forked n claim book r = Disjoint n claim book r.once.g r.once.k r.twice.g r.twice.k

-- a step of kind kd, or on one of the two
abbrev pub Routing : ℕ → Record → List ℕ → ℕ → Route → Step → Type 0
Routing n claim book kd r = Spanning n claim book kd r.once.g r.once.k r.twice.g r.twice.k

-- steps m up to m': base, and two lifts, to what is at the end of the route
pub record Lifts (n : ℕ) (claim : Record) (book : List ℕ) (base : Step) (r : Route) (c : List ℕ) (m : ℕ) (c' : List ℕ) (m' : ℕ) : Type 0 where
  pub writes : Writes n (citing claim book) (told r.twice.step) 8189 c m c' m'
  pub steps : Unlike base r → Forked n claim book r → Distinct (Routing n claim book base.kind r) c' m m'

-- APART, MEETS and NOTPART have routes
pub data Carriable : ℕ → Type 0 where
  apart : Carriable 2
  meets : Carriable 3
  notpart : Carriable 4

-- the route from the fact of kind kd about x and y to the one about a and b leads along containments
pub record Routed (n : ℕ) (claim : Record) (book : List ℕ) (kd a b x y : ℕ) : Type 0 where
  pub carriable : Carriable kd
  pub from-left : x < n
  pub from-right : y < n
  pub to-left : a < n
  pub to-right : b < n
  pub once : Inside n claim book (route_to kd a b x y).once.g (route_to kd a b x y).once.k
  pub twice : Inside n claim book (route_to kd a b x y).twice.g (route_to kd a b x y).twice.k

-- steps m up to m' show the fact of kind kd about a and b, along that route
pub record Spans (n : ℕ) (claim : Record) (book : List ℕ) (kd a b x y : ℕ) (c : List ℕ) (m : ℕ) (c' : List ℕ) (m' : ℕ) : Type 0 where
  pub writes : Writes n (citing claim book) (fact_of kd a b) 8189 c m c' m'
  pub steps : Forked n claim book (route_to kd a b x y) → Distinct (Routing n claim book kd (route_to kd a b x y)) c' m m'

-- steps m up to m' show a NOTPART b, from u APART v and x MEETS y, by way of b PART u and of pieces in which x and y lie, in a and in v
pub record Outlies (n : ℕ) (claim : Record) (book : List ℕ) (a b u v x y : ℕ) (c : List ℕ) (m : ℕ) (c' : List ℕ) (m' : ℕ) : Type 0 where
  pub writes : Writes n (citing claim book) (NOTPART a b) 12285 c m c' m'
  pub differ :
      ((z w : ℕ) → z < n → w < n → Inside n claim book x z → Inside n claim book y w → Disjoint n claim book b u z a × Disjoint n claim book b u w v)
      → ((x ≡ y → ⊥) → Disjoint n claim book x a y v) → Differ c' m m'
