-- Classes of pieces, `done` having a number for each: their lowest members, their numbers in the order of these, and an order of the pieces. Assumes nothing.
use Rattle.std.specs.Prelude.{◌≡◌, Bool, not, List, ℕ, ◌+◌, ◌-◌, ◌<◌, ◌≤◌, eqb, length, get_or}
use Rattle.lists.specs.First.{first}
use Rattle.lists.specs.Tally.{tally}

module _ (n : ℕ) (done : ℕ → ℕ) where
  -- the lowest piece of the class of g, whether g is it, and how many classes have a lower one
  unfoldable pub lowest_by : ℕ → ℕ
  lowest_by g = first (λ h. eqb (done g) (done h)) 0 n

  unfoldable pub first_by : ℕ → Bool
  first_by g = eqb (lowest_by g) g

  unfoldable pub number_by : ℕ → ℕ
  number_by g = tally first_by (lowest_by g)

  pub record Ranked (number lead : List ℕ) (count : ℕ) : Type 0 where
    pub counted : count ≡ tally first_by n
    pub numbers : (g : ℕ) → g < n → get_or number g 0 ≡ number_by g
    pub leads : (g : ℕ) → g < n → get_or lead g 0 ≡ lowest_by g

pub record Numerable (n : ℕ) (done : List ℕ) (a b c : ℕ) : Type 0 where
  pub few : n ≤ 2048
  pub numbers : a ≡ 2048
  pub leads : b ≡ 2048
  pub heads : c ≡ 2048
  pub small : (g : ℕ) → g < n → get_or done g 0 < n

-- whether g has another leader
unfoldable pub follower : List ℕ → ℕ → Bool
follower lead g = not (eqb (get_or lead g 0) g)

-- m leaders, whose numbers in `done` are below m and differ
pub record Arrangeable (n m : ℕ) (done lead : List ℕ) (room : ℕ) : Type 0 where
  pub few : n ≤ 2048
  pub lead-room : n ≤ length lead
  pub sized : room ≡ 2048
  pub counted : tally (follower lead) n + m ≡ n
  pub small : (g : ℕ) → g < n → get_or lead g 0 ≡ g → get_or done g 0 < m
  pub one : (g h : ℕ) → g < n → h < n → get_or lead g 0 ≡ g → get_or lead h 0 ≡ h → get_or done g 0 ≡ get_or done h 0 → g ≡ h

-- the followers in rising order, and then the leaders in the order of their numbers
pub record Arranged (n m : ℕ) (done lead order : List ℕ) : Type 0 where
  pub followers : (g : ℕ) → g < n → (get_or lead g 0 ≡ g → ⊥) → get_or order (tally (follower lead) g) 0 ≡ g
  pub leaders : (g : ℕ) → g < n → get_or lead g 0 ≡ g → get_or order (n - m + get_or done g 0) 0 ≡ g
