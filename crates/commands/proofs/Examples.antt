-- Which command some arguments name, by computation. Assumes nothing.
use mathlib.Core.Path.{refl}
use Rattle.commands.specs.Named.{named, rows_for, command_of}
use Rattle.commands.specs.Examples.{Commands}

pub commands : Commands
unfolding named rows_for command_of
commands =
    record {
      why-book = refl;
      why-claim = refl;
      ask-input = refl;
      ask-word = refl;
      chain = refl;
      added = refl;
      no-chain = refl;
      no-book = refl;
      capital = refl;
      too_many = refl;
      no_word = refl;
    }
