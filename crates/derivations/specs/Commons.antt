-- What is written for two pieces that meet. Assumes nothing.
use Rattle.std.specs.Prelude.{ℕ, ◌<◌, ◌-◌, ◌≡◌, ◌⊎◌, true, false, List}
use Rattle.matrices.specs.Matrix.{bit_of}
use Rattle.rules.specs.Fact.{MEETS}
use Rattle.records.specs.declared.Record.{Record}
use Rattle.chain_format.specs.Step.{step_at, shows}
use Rattle.chain_format.specs.Citing.{citing, Cited}
use Rattle.derivations.specs.Hops.{Reaches, Sourced}
use Rattle.derivations.specs.Distinct.{Distinct, Upward}
use Rattle.derivations.specs.Shown.{Writes, Adds}
use Rattle.derivations.specs.Lifts.{Inside, Disjoint, Spanning, Same}

-- r is x or further up on the way from x to a; it is in b, and nothing above it on the way is
pub record Last (hop d : List ℕ) (a b x r : ℕ) : Type 0 where
  pub met : (r ≡ x) ⊎ Upward hop a x r
  pub inside : bit_of d b r ≡ true
  pub reaches : Reaches hop a r 2047
  pub outside : (w : ℕ) → Upward hop a r w → bit_of d b w ≡ false

-- steps m up to m' carry g MEETS g, which step m - 1 shows, to k MEETS g along the hops; there are none where g is k
pub record Risen (n : ℕ) (hop source : List ℕ) (g k : ℕ) (c : List ℕ) (m : ℕ) (c' : List ℕ) (m' : ℕ) : Type 0 where
  pub writes : (es : List Cited) → Sourced n es hop source k → shows (step_at c (m - 1)) (MEETS g g) ≡ true → Adds n es (MEETS k g) 4094 c m c' m'
  pub steps : Distinct (λ z. ((z.kind ≡ 1) × Upward hop k g z.b) ⊎ ((g ≡ k → ⊥) × Same z (record { rule = 7; kind = 3; a = k; b = g; first = 0; second = 0 }))) c' m m'

-- steps m up to m' show a MEETS b by way of `left` PART a and `right` PART b, in which x and y lie
pub record Joined (n : ℕ) (claim : Record) (book : List ℕ) (x y a b : ℕ) (c : List ℕ) (m : ℕ) (c' : List ℕ) (m' : ℕ) : Type 0 where
  pub writes : Writes n (citing claim book) (MEETS a b) 8189 c m c' m'
  pub left : ℕ
  pub right : ℕ
  pub left_in : left < n
  pub right-in : right < n
  pub over-x : Inside n claim book x left
  pub over-y : Inside n claim book y right
  pub steps : ((x ≡ y → ⊥) → Disjoint n claim book x a y b) → Distinct (Spanning n claim book 3 left a right b) c' m m'
