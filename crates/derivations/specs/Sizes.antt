-- How many steps the parts of a derivation take at most. Assumes nothing: these are definitions.
use Rattle.std.specs.Prelude.{ℕ}

-- hops of a way that meets no piece twice
abbrev pub HOPS : ℕ
HOPS = 2047

-- a record and a join a hop
abbrev pub WAY-STEPS : ℕ
WAY-STEPS = 4094

-- a fact carried along one way
abbrev pub LIFT-STEPS : ℕ
LIFT-STEPS = 4095

-- and along two
abbrev pub LIFTS-STEPS : ℕ
LIFTS-STEPS = 8190
