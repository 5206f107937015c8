-- `text::read_text` meets its contract. Assumes nothing.
use native.Mathlib.Omega.{arith}
use Rattle.text.proofs.Lents.{lent-short, lent-long, lent-read}
use Rattle.text.proofs.reading.read_text.Goals as goal

pub returns-then-out-bytes_most : goal.returns-then-out-bytes_most
returns-then-out-bytes_most c = lent-short c.args.form _ c.args.out.now (omega (arith, c.bytes_most.ensures))

pub returns-then-text-gt-TEXT_BYTES : goal.returns-then-text-gt-TEXT_BYTES
returns-then-text-gt-TEXT_BYTES c =
    lent-long c.args.form c.args.text.now c.args.out.now (omega (arith, c.bytes_most.ensures)) c.if-text-gt-TEXT_BYTES.true

pub returns : goal.returns
returns c =
    lent-read c.args.form c.args.text.now c.args.out.now (omega (arith, c.bytes_most.ensures)) c.if-text-gt-TEXT_BYTES.false _ c.mark_length.ensures _ _ c.read_lines.ensures.0 c.read_lines.ensures.1
