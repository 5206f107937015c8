-- A log sent in parts, none refused, with one book and the window handed from call to call. Assumes nothing.
use Rattle.outcomes.specs.Accepted.{accepted_with}
use Rattle.std.specs.Prelude.{ℕ, ◌*◌, ◌≤◌, ◌≡◌, List, [], ◌∷◌, ◌++◌}
use Rattle.replicates.specs.declared.Window.{Window}
use Rattle.replicates.specs.Log.{entry_count, sequence, window_of}
use Rattle.replicates.specs.Call.{outcome, bytes_in}

-- the whole log
unfoldable pub whole : List (List ℕ) → List ℕ
whole [] = []
whole (part ∷ rest) = part ++ whole rest

-- each part is accepted, in an output of some length, with the window that the part before it handed back
abbrev pub Sent : List ℕ → Window → ℕ → ℕ → ℕ → List (List ℕ) → Type 0
Sent s w n nodes shadows [] = Unit {0}
Sent s w n nodes shadows (part ∷ rest) = ((room : ℕ) × (outcome s w part room ≡ accepted_with n nodes shadows)) × Sent s (window_of (sequence w part)) n nodes shadows rest

-- the bytes of one part after the other, and the last window
unfoldable pub bytes_sent : List ℕ → ℕ → Window → List (List ℕ) → List ℕ
bytes_sent s n w [] = []
bytes_sent s n w (part ∷ rest) = bytes_in s n w part ++ bytes_sent s n (window_of (sequence w part)) rest

unfoldable pub window_sent : Window → List (List ℕ) → Window
window_sent w [] = w
window_sent w (part ∷ rest) = window_sent (window_of (sequence w part)) rest

-- are those of the whole log in one part, which is accepted too if it has at most 32,768 entries
pub record Joined (s : List ℕ) (w : Window) (n nodes shadows : ℕ) (parts : List (List ℕ)) : Type 0 where
  pub bytes-are : bytes_sent s n w parts ≡ bytes_in s n w (whole parts)
  pub window-is : window_sent w parts ≡ window_of (sequence w (whole parts))
  pub accepted : (room : ℕ) → 2 * entry_count (whole parts) ≤ room → entry_count (whole parts) ≤ 32768 → outcome s w (whole parts) room ≡ accepted_with n nodes shadows

abbrev pub PartsJoin : Type 0
PartsJoin = (s : List ℕ) (w : Window) (n nodes shadows : ℕ) (first : List ℕ) (rest : List (List ℕ)) → Sent s w n nodes shadows (first ∷ rest) → Joined s w n nodes shadows (first ∷ rest)
