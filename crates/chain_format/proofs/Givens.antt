-- What a claim may cite of a book goes with the marks of the book. Assumes nothing.
use mathlib.Core.Path.{sym, ◌∙◌}
use Prim.Native.Nat.{ℕ}
use mathlib.Core.List.{List}
use Rattle.records.specs.declared.Record.{Record}
use Rattle.records.specs.Marked.{marked}
use Rattle.chain_format.specs.Citing.{citing}
use Rattle.chain_format.proofs.Sound.{Given}
use Rattle.chain_format.proofs.Citings.{cited-marked, marks-same}

pub given : (claim : Record) (s : List ℕ) → Given (marked s) (citing claim s)
given claim s = record { marks = λ i g t. (cited-marked claim s i g t).1; bare = λ g e. sym (marks-same claim s g) ∙ e }
