-- What a test that is passed as a closure tells. Assumes nothing.
use Rattle.std.specs.Prelude.{ℕ, ◌<◌, ◌≡◌, Bool}

-- of each number below n the closure, whose results are `post`, gives what the test says
pub record Tells (n : ℕ) (post : ℕ → Bool → Type 0) (test : ℕ → Bool) : Type 0 where
  pub at : (i : ℕ) (b : Bool) → i < n → post i b → b ≡ test i
