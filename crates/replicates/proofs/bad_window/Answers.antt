-- `replicates::bad_window` meets its contract: the pieces passed are the book's. Assumes nothing.
use native.Mathlib.Omega.{arith}
use Rattle.replicates.proofs.Rows.{sound_none, sound_more, window-beyond}
use Rattle.replicates.proofs.bad_window.Goals as goal

pub loop-j-init : goal.loop-j-init
loop-j-init c = sound_none c.args.n c.args.window.pieces

pub returns-then-n-from : goal.returns-then-n-from
returns-then-n-from c = window-beyond c.args.n c.args.window c.loop-j.j (omega arith) (omega arith)

pub loop-j-preserved : goal.loop-j-preserved
loop-j-preserved c = sound_more c.args.n c.args.window.pieces c.loop-j.j c.loop-j.invariant (omega arith)
