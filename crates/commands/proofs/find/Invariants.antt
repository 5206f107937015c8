-- `commands::find`: what the rows to come say is what all say.
use Rattle.std.proofs.Common.{◌≡◌, map, drop}
use Rattle.commands.specs.Named.{row, found}
use Rattle.commands.proofs.find.Given as goal

abbrev pub invariant-loop-name : goal.invariant-loop-name
invariant-loop-name l =
    found (map (λ r. row r.0.now r.1) l.rows) l.word ≡ found (map (λ r. row r.0.now r.1) (drop l.name-index l.rows)) l.word
