-- `joint::join` meets its contract. Assumes nothing.
use borrow.Author.Rules.{rules}
use native.Mathlib.Omega.{arith}
use Rattle.compare.proofs.Pasting.{runs-join}
use Rattle.compare.proofs.joint.join.Goals as goal
use Rattle.compare.proofs.joint.join.Goals.{then-first-gt-BOOK_BYTES-via-then-first-gt-BOOK_BYTES, then-first-gt-BOOK_BYTES-via-else-first-gt-BOOK_BYTES+then-second-gt-BOOK_BYTES}

pub returns-then-first-gt-BOOK_BYTES : goal.returns-then-first-gt-BOOK_BYTES
returns-then-first-gt-BOOK_BYTES c =
    elim c.then-first-gt-BOOK_BYTES.branch [
      | then-first-gt-BOOK_BYTES-via-then-first-gt-BOOK_BYTES w ↦ record { fits = omega arith; front = record { are = λ l m. absurd (omega arith) } }
      | then-first-gt-BOOK_BYTES-via-else-first-gt-BOOK_BYTES+then-second-gt-BOOK_BYTES w ↦ record { fits = omega arith; front = record { are = λ l m. absurd (omega arith) } }
    ]

pub returns : goal.returns
returns c =
    record { fits = search rules; front = record { are = λ l m. runs-join c.args.first.now c.args.second.now c.args.run.now _ _ c.copy_to.ensures c.copy_to-2.ensures } }
