-- How a page of `why` is read back. This only guesses, from a few bytes: what is guessed is printed again, and must be the page. Assumes nothing.
use Rattle.std.specs.Prelude.{ℕ, zero, suc, ◌+◌, ◌*◌, ◌/◌, ◌%◌, Bool, true, false, List, [], ◌∷◌, ◌++◌, eqb, ltb, length, get_or}
use Rattle.pages.specs.Text.{ascii}
use Rattle.records.specs.declared.Record.{Record}
use Rattle.chain_format.specs.declared.steps.Step.{Step}
use Rattle.chain_format.specs.Step.{step_bytes}
use Rattle.verdicts.specs.declared.Answer.{Answer}
use Rattle.verdicts.specs.declared.Answer.TheVariants.{Follows, Denied}
use Rattle.text.specs.declared.words.Sort.TheVariants.{Digit, Gap}
use Rattle.text.specs.Runs.{of_sort, run, behind}
use Rattle.std.specs.Option.{unwrap_or}
use Rattle.text.specs.Number.{number}
use Rattle.chain_pages.specs.StepLine.{count}

-- ---- numbers: what is no digit is passed over

unfoldable pub digits_in : List ℕ → List ℕ
digits_in l = run (of_sort Digit) (behind (of_sort Gap) l)

unfoldable pub after : List ℕ → List ℕ
after l = behind (of_sort Digit) (behind (of_sort Gap) l)

unfoldable pub found : List ℕ → Bool
found l = ltb 0 (length (digits_in l))

-- 0 where there is none
unfoldable pub num : List ℕ → ℕ
num l = unwrap_or (number (digits_in l)) 0

-- where one is wanted
abbrev pub num_if : ℕ → List ℕ → ℕ
num_if zero l = 0
num_if (suc n) l = num l

abbrev pub after_if : ℕ → List ℕ → List ℕ
after_if zero l = l
after_if (suc n) l = after l

-- ---- words: by their letters

-- the place of a byte in a table, counted from k on
unfoldable pub place_in : ℕ → List ℕ → ℕ → ℕ
place_in k [] x = k
place_in k (y ∷ ys) x = elim (eqb y x) [ true ↦ k | false ↦ place_in (suc k) ys x ]

-- a kind by its first letter
unfoldable pub kind_by : ℕ → ℕ
kind_by x = place_in 0 (ascii ".PAMN") x % 256

-- a rule by its letter and the byte behind it, which may be a prime; D is the last letter of RECORD
unfoldable pub rule_by : ℕ → ℕ → ℕ
rule_by x y = elim (eqb y 39) [ true ↦ place_in 0 (ascii ".....abcde") x % 256 | false ↦ place_in 0 (ascii "Dabcf.....de") x % 256 ]

unfoldable pub origin_by : ℕ → ℕ
origin_by x = elim (eqb x 115) [ true ↦ 1 | false ↦ 0 ]

unfoldable pub answer_by : ℕ → Answer
answer_by x = elim (eqb x 70) [ true ↦ Follows | false ↦ Denied ]

-- ---- a step, from behind its number on

abbrev pub grounded : (kind a b rule : ℕ) → List ℕ → Step
grounded kind a b rule l =
    record { rule = rule; kind = kind; a = a; b = b; first = num_if (count rule) l; second = num_if (count rule / 2) (after_if (count rule) l) }

unfoldable pub rule_in : List ℕ → ℕ
rule_in l = rule_by (get_or l 6 0) (get_or l 7 0)

unfoldable pub step_in : List ℕ → Step
step_in l = grounded (kind_by (get_or l 1 0)) (num l) (num (after l)) (rule_in (after (after l))) (after (after l))

abbrev pub left_by : ℕ → List ℕ → List ℕ
left_by rule l = after_if (count rule / 2) (after_if (count rule) l)

unfoldable pub left_in : List ℕ → List ℕ
left_in l = left_by (rule_in (after (after l))) (after (after l))

abbrev pub more_if : Bool → List ℕ → List ℕ
more_if true x = x
more_if false x = []

-- at most n steps
unfoldable pub steps_in : ℕ → List ℕ → List ℕ
steps_in zero l = []
steps_in (suc n) l = more_if (found l) (step_bytes (step_in (after l)) ++ steps_in n (left_in (after l)))

-- ---- the first line, from its start on

unfoldable pub claim_in : List ℕ → Record
claim_in l = record { kind = kind_by (get_or l 0 0); origin = origin_by (get_or (after (after l)) 1 0); a = num l; b = num (after l) }

unfoldable pub answer_in : List ℕ → Answer
answer_in l = answer_by (get_or (after (after l)) (1 + 7 * (claim_in l).origin) 0)
