-- What the lent matrices tell, whatever list of facts they are the closure of. Assumes nothing.
use Rattle.std.specs.Prelude.{ℕ, ◌<◌, ◌≡◌, Bool, false, ◌||◌, List}
use Rattle.rules.specs.Fact.{Fact, fact_of}
use Rattle.rules.specs.Follows.{follows, clash}
use Rattle.rules.specs.Verdict.{verdict}
use Rattle.closure.specs.Bounded.{Bounded}
use Rattle.closure.specs.Closed.{Holds, part_bit, toward_bit, Closed}

-- whether the fact of kind k about a and b follows, where neither is marked
pub record Derived (d u p t q : List ℕ) (k a b : ℕ) (answer : Bool) : Type 0 where
  pub is :
      (void : ℕ → Bool) (n : ℕ) (fs : List Fact) → Bounded n fs → Closed void n fs d u p t q → a < n → b < n → (void a || void b) ≡ false → answer ≡ follows void n fs (fact_of k a b)

-- the byte of the answer to the claim of kind k about a and b
pub record Answered (void : ℕ → Bool) (d u p t q : List ℕ) (k a b : ℕ) (byte : ℕ) : Type 0 where
  pub is : (n : ℕ) (fs : List Fact) → Bounded n fs → Closed void n fs d u p t q → a < n → b < n → byte ≡ verdict void n fs (fact_of k a b)

-- whether the facts are contradictory, by the marks, D and T
pub record Clashing (void : ℕ → Bool) (fs : List Fact) (d t : List ℕ) (answer : Bool) : Type 0 where
  pub is : (n : ℕ) → Bounded n fs → void 0 ≡ false → Holds n d (part_bit n fs) → Holds n t (toward_bit void n fs) → answer ≡ clash void n fs
