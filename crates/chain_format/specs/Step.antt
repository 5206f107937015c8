-- Step i of a chain in bytes: ten bytes, no header. Rule, kind, then a, b and two further 16-bit numbers, low byte first. Assumes nothing.
use Rattle.std.specs.Prelude.{ℕ, ◌+◌, ◌*◌, ◌/◌, ◌%◌, Bool, ◌&&◌, ◌||◌, List, [], ◌∷◌, eqb, length, get_or}
use Rattle.rules.specs.Fact.{Fact, kind, left, right}
use Rattle.records.specs.Record.{pair}
use Rattle.chain_format.specs.declared.steps.Step.{Step}

unfoldable pub step_at : List ℕ → ℕ → Step
step_at c i =
    record {
      rule = get_or c (10 * i) 0;
      kind = get_or c (10 * i + 1) 0;
      a = pair (get_or c (10 * i + 2) 0) (get_or c (10 * i + 3) 0);
      b = pair (get_or c (10 * i + 4) 0) (get_or c (10 * i + 5) 0);
      first = pair (get_or c (10 * i + 6) 0) (get_or c (10 * i + 7) 0);
      second = pair (get_or c (10 * i + 8) 0) (get_or c (10 * i + 9) 0);
    }

-- as it is written: of each number the low two bytes
unfoldable pub step_bytes : Step → List ℕ
step_bytes s =
    s.rule ∷ s.kind ∷ s.a % 256 ∷ s.a / 256 % 256 ∷ s.b % 256 ∷ s.b / 256 % 256
    ∷ s.first % 256 ∷ s.first / 256 % 256 ∷ s.second % 256 ∷ s.second / 256 % 256 ∷ []

-- how many whole steps
abbrev pub steps : List ℕ → ℕ
steps c = length c / 10

-- APART and MEETS
abbrev pub unordered : ℕ → Bool
unordered k = eqb k 2 || eqb k 3

-- the step shows the fact of kind k about a and b; an unordered one either way round
unfoldable pub showing : Step → ℕ → ℕ → ℕ → Bool
showing s k a b =
    eqb s.kind k && ((eqb s.a a && eqb s.b b) || (unordered k && (eqb s.a b && eqb s.b a)))

abbrev pub shows : Step → Fact → Bool
shows s f = showing s (kind f) (left f) (right f)
