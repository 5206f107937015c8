-- `pbook::arguments::words`: the words stand in the line, whose length stays.
use Rattle.std.proofs.Common.{◌≡◌, ◌≤◌, length}
use Rattle.pbook.proofs.arguments.words.Given as goal

abbrev pub invariant-loop-i : goal.invariant-loop-i
invariant-loop-i l = (l.at ≤ length l.line) × (length l.line ≡ length l.initial.line)
