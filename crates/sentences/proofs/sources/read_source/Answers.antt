-- `sentences::read_source` meets its contract. Assumes nothing.
use mathlib.Core.Path.{ap, ◌∙◌}
use Rattle.std.specs.Prelude.{Err}
use Rattle.sentences.proofs.Readings.{never-short, whole, unread}
use Rattle.sentences.proofs.sources.read_source.Goals as goal

pub returns-in-Ok : goal.returns-in-Ok
returns-in-Ok c = whole c.args.form _ c.args.out.now _ c.requires _ c.read_either.ensures.0 c.read_either.ensures.1 _ c.in-Ok.is

pub returns-in-Err-BadLine : goal.returns-in-Err-BadLine
returns-in-Err-BadLine c =
    let b = c.in-Err-BadLine in
    unread c.args.form _ c.args.out.now _ c.requires _ c.read_either.ensures.0 c.read_either.ensures.1 _ _ (b.is ∙ ap Err b.field-0-is)

pub returns-in-Err-ShortBuffer : goal.returns-in-Err-ShortBuffer
returns-in-Err-ShortBuffer c =
    let b = c.in-Err-ShortBuffer in
    absurd (never-short c.args.form _ c.args.out.now _ c.requires _ c.read_either.ensures.0 c.read_either.ensures.1 (b.is ∙ ap Err b.field-0-is))
