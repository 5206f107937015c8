-- `text::showing::put_records` meets its contract. Assumes nothing.
use Prim.Native.Nat.{ℕ}
use mathlib.Core.List.{List}
use Rattle.records.specs.Record.{record_at}
use Rattle.pages.specs.Lines.{lines}
use Rattle.pages.specs.Put.{Put}
use Rattle.text.specs.Shown.{show_record}
use Rattle.text.proofs.showing.put_records.Given as goal

-- the line of record i
abbrev pub line : List ℕ → List ℕ → ℕ → List ℕ
line choice s i = show_record choice (record_at s i)

abbrev pub invariant-loop-i : goal.invariant-loop-i
invariant-loop-i l = Put l.initial.page 0 (lines (line l.choice l.s) l.i) l.page l.end
