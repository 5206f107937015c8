-- Grids before the first round: the rules without a premise, and the stored facts. Assumes nothing.
use Rattle.std.specs.Prelude.{ℕ, ◌*◌, ◌<◌, ◌≤◌, ◌≡◌, Bool, false, not, ◌&&◌, ◌||◌, List, eqb, ltb, length}
use Rattle.lists.specs.Any.{any}
use Rattle.rules.specs.Fact.{Fact, PART, APART, MEETS, NOTPART, kind, left, right, Within, AllWithin}
use Rattle.records.specs.Record.{records}
use Rattle.records.specs.Facts.{facts}
use Rattle.grids.specs.declared.rounds.Grids.{Grids}
use Rattle.grids.specs.Closed.{holds}

-- both pieces are below n
unfoldable pub among : ℕ → ℕ → ℕ → Bool
among n a b = ltb a n && ltb b n

-- what the rules without a premise give: (c), (f) and (e) for PART, (d) for APART, (e') for MEETS
unfoldable pub basic : (ℕ → Bool) → ℕ → Fact → Bool
basic void n (PART a b) = among n a b && (eqb a b || (eqb b 0 || void a))
basic void n (APART a b) = among n a b && void a
basic void n (MEETS a b) = among n a b && (eqb a b && not (void a))
basic void n (NOTPART a b) = false

-- the same kind and the same pieces
unfoldable pub same_fact : Fact → Fact → Bool
same_fact e f = eqb (kind e) (kind f) && (eqb (left e) (left f) && eqb (right e) (right f))

-- r is g with the bit of e set
pub record Put (g r : Grids) (e : Fact) : Type 0 where
  pub bits : (f : Fact) → Within 64 f → holds r f ≡ (holds g f || same_fact e f)

-- g has the facts of the rules without a premise, and the stored facts fs, and no others
pub record Loaded (void : ℕ → Bool) (n : ℕ) (fs : List Fact) (g : Grids) : Type 0 where
  pub bits : (f : Fact) → Within 64 f → holds g f ≡ (basic void n f || any (λ e. same_fact e f) fs)

-- whole records whose facts are about at most 64 pieces
pub record Loadable (n : ℕ) (s : List ℕ) : Type 0 where
  pub some : 0 < n
  pub few : n ≤ 64
  pub whole : length s ≡ 6 * records s
  pub within : AllWithin n (facts s)
