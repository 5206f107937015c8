-- What the functions of the reader promise each other: what is read stands behind a place, and where it ends. Assumes nothing.
use Rattle.std.specs.Prelude.{ℕ, ◌-◌, ◌≤◌, ◌≡◌, ◌==◌, not, List, length, take, drop}
use Rattle.records.specs.declared.Record.{Record}
use Rattle.chain_format.specs.declared.steps.Step.{Step}
use Rattle.verdicts.specs.declared.Answer.{Answer}
use Rattle.chain_pages.specs.Read.{digits_in, after, found, num, num_if, after_if, step_in, left_in, claim_in, answer_in}

pub record DigitsAt (s : List ℕ) (at from to : ℕ) : Type 0 where
  pub some : (from == to) ≡ not (found (drop at s))
  pub is : take (to - from) (drop from s) ≡ digits_in (drop at s)
  pub left : drop to s ≡ after (drop at s)
  pub ordered : from ≤ to
  pub inside : to ≤ length s

pub record FoundAt (s : List ℕ) (at value next : ℕ) : Type 0 where
  pub value-is : value ≡ num (drop at s)
  pub left : drop next s ≡ after (drop at s)
  pub inside : next ≤ length s

pub record FoundIf (n : ℕ) (s : List ℕ) (at value next : ℕ) : Type 0 where
  pub value-is : value ≡ num_if n (drop at s)
  pub left : drop next s ≡ after_if n (drop at s)
  pub inside : next ≤ length s

pub record StepAt (s : List ℕ) (at : ℕ) (step : Step) (next : ℕ) : Type 0 where
  pub step_is : step ≡ step_in (drop at s)
  pub left : drop next s ≡ left_in (drop at s)
  pub inside : next ≤ length s

pub record HeadOf (s : List ℕ) (claim : Record) (answer : Answer) (next : ℕ) : Type 0 where
  pub claim-is : claim ≡ claim_in s
  pub answer-is : answer ≡ answer_in s
  pub left : drop next s ≡ after (after s)
  pub inside : next ≤ length s
