-- Ways up from piece to piece: each piece's next hop towards piece k, and the record that says it. Assumes nothing.
use Rattle.std.specs.Prelude.{ℕ, suc, ◌≤◌, ◌<◌, ◌≡◌, Bool, true, false, List, eqb, length, get_or}
use Rattle.rules.specs.Fact.{PART}
use Rattle.matrices.specs.Matrix.{bit_of}
use Rattle.chain_format.specs.Citing.{Cited, fact, none}
use Rattle.chain_format.specs.declared.steps.Step.{Step}

-- x is part of y by a record's number; 65535 stands for rule (f), by which every piece is part of 0
pub data Hop (es : List Cited) (x y source : ℕ) : Type 0 where
  recorded : (source ≡ 65535 → ⊥) → get_or es source none ≡ fact (PART x y) → Hop es x y source
  crowned : source ≡ 65535 → y ≡ 0 → Hop es x y source

-- so many hops lead from x to k
pub data Way (hop : List ℕ) (k : ℕ) : ℕ → ℕ → Type 0 where
  arrived : {x : ℕ} → x ≡ k → Way hop k x 0
  onward : {x l : ℕ} → x < 2048 → Way hop k (get_or hop x 0) l → Way hop k x (suc l)

-- at most so many do
abbrev pub Reaches : List ℕ → ℕ → ℕ → ℕ → Type 0
Reaches hop k x most = (l : ℕ) × (l ≤ most) × Way hop k x l

-- 2048 stands for the hop of a piece that is not met
abbrev pub Met : List ℕ → ℕ → Type 0
Met hop x = get_or hop x 0 ≡ 2048 → ⊥

-- every piece from which steps of e lead up to k is met, and hops lead from it to k
pub record Hopped (n : ℕ) (e : List ℕ) (k : ℕ) (hop : List ℕ) : Type 0 where
  pub sized : length hop ≡ 2048
  pub start : Met hop k
  pub parts : (x y : ℕ) → y < n → Met hop y → x < n → bit_of e y x ≡ true → Met hop x
  pub ways : (x : ℕ) → x < n → Met hop x → Reaches hop k x 2047
  pub steps : (x : ℕ) → x < n → Met hop x → (x ≡ k → ⊥) → (get_or hop x 0 < n) × (bit_of e (get_or hop x 0) x ≡ true)

-- each hop of a way to k is one that the entries es say, about the pieces below n
pub record Sourced (n : ℕ) (es : List Cited) (hop source : List ℕ) (k : ℕ) : Type 0 where
  pub each : (x l : ℕ) → x < n → (x ≡ k → ⊥) → Way hop k x (suc l) → (get_or hop x 0 < n) × Hop es x (get_or hop x 0) (get_or source x 0)

-- the step that shows one hop
abbrev pub hop_by : Bool → ℕ → ℕ → ℕ → Step
hop_by true x y source = record { rule = 4; kind = 1; a = x; b = y; first = 0; second = 0 }
hop_by false x y source = record { rule = 0; kind = 1; a = x; b = y; first = source; second = 0 }

unfoldable pub hop_step : ℕ → ℕ → ℕ → Step
hop_step x y source = hop_by (eqb source 65535) x y source
