-- How long the lines of a chain are. Assumes nothing.
use Prim.Native.Nat.{ℕ, zero, suc, ◌+◌, ◌*◌, ◌≤◌, ◌<◌}
use mathlib.Core.List.{List, [], ◌∷◌, ◌++◌}
use native.Mathlib.Omega.{arith}
use lib.ListN.{length, get_or, length-append}
use Rattle.pages.specs.Text.{line}
use Rattle.pages.proofs.Decimals.{decimal-length}
use Rattle.records.specs.Record.{record_at}
use Rattle.chain_format.specs.declared.steps.Step.{Step}
use Rattle.chain_format.specs.Step.{step_at}
use Rattle.pages.specs.Entry.{entry}
use Rattle.pages.proofs.Entries.{widest, entry-width}
use Rattle.pages.proofs.Lined.{lines-length}
use Rattle.sentences.specs.Words.{kind_name, answer_name}
use Rattle.pages.specs.Decimal.{decimal}
use Rattle.sentences.proofs.Rooms.{kind-width, answer-width}
use Rattle.chain_pages.specs.StepLine.{grounds, count, numbers, step_line, step_lines}
use Rattle.chain_pages.specs.AnswerLine.{choice, answer_line}

ground-width : (r : ℕ) → length (entry r grounds) ≤ 13
unfolding widest
ground-width r = entry-width r grounds

-- words and at most two numbers
resting : (k : ℕ) (s : Step) → s.first < 65536 → s.second < 65536 → length (line (entry s.rule grounds ∷ numbers k s)) ≤ 26
resting zero s f g = simp length-append (omega (arith, ground-width s.rule))
resting (suc zero) s f g = simp length-append (omega (arith, ground-width s.rule, decimal-length 4 s.first (omega arith)))
resting (suc (suc k)) s f g =
    simp length-append (omega (arith, ground-width s.rule, decimal-length 4 s.first (omega arith), decimal-length 4 s.second (omega arith)))

pub step-width : (i : ℕ) (s : Step) → i < 100000 → s.a < 65536 → s.b < 65536 → s.first < 65536 → s.second < 65536 → length (step_line i s) ≤ 52
unfolding step_line
step-width i s hi ha hb hf hs =
    simp length-append
    (omega (
      arith,
      decimal-length 4 i (omega arith),
      kind-width s.kind,
      decimal-length 4 s.a (omega arith),
      decimal-length 4 s.b (omega arith),
      resting (count s.rule) s hf hs,
    ))

pub steps-width : (c : List ℕ) → ((j : ℕ) → get_or c j 0 < 256) → (n : ℕ) → n ≤ 16400 → length (step_lines c n) ≤ 52 * n
unfolding step_lines step_at
steps-width c bytes n few =
    lines-length (λ i. step_line i (step_at c i)) 52 n
    (λ i l.
    step-width i (step_at c i) (omega arith)
    (omega (arith, bytes (10 * i + 2), bytes (10 * i + 3)))
    (omega (arith, bytes (10 * i + 4), bytes (10 * i + 5)))
    (omega (arith, bytes (10 * i + 6), bytes (10 * i + 7)))
    (omega (arith, bytes (10 * i + 8), bytes (10 * i + 9))))

choice-fits : (k a b o v : ℕ) → a < 100000 → b < 100000
    → length (line (kind_name k ∷ decimal a ∷ decimal b ∷ (choice o ++ (answer_name v ∷ [])))) ≤ 35
choice-fits k a b zero v ha hb = simp length-append (omega (arith, kind-width k, decimal-length 4 a (omega arith), decimal-length 4 b (omega arith), answer-width v))
choice-fits k a b (suc o) v ha hb = simp length-append (omega (arith, kind-width k, decimal-length 4 a (omega arith), decimal-length 4 b (omega arith), answer-width v))

pub answer-line-width : (claims : List ℕ) → ((j : ℕ) → get_or claims j 0 < 256) → (v : ℕ) → length (answer_line (record_at claims 0) v) ≤ 35
unfolding answer_line record_at
answer-line-width claims bytes v =
    let r = record_at claims 0 in
    choice-fits r.kind r.a r.b r.origin v (omega (arith, bytes 2, bytes 3)) (omega (arith, bytes 4, bytes 5))
