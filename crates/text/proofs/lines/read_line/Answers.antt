-- `text::lines::read_line` meets its contract. Assumes nothing.
use mathlib.Core.Path.{sym, ap, ◌∙◌}
use Rattle.std.specs.Prelude.{Err}
use Rattle.text.specs.Line.{some_entry}
use Rattle.std.proofs.lemmas.Result.{err_from_is_err_and}
use Rattle.text.proofs.Said.{line-none, line-log, line-kind, line-bad, there, nothing-there}
use Rattle.text.proofs.lines.read_line.Goals as goal

pub returns-then-from-to : goal.returns-then-from-to
returns-then-from-to c = line-none _ _ _ _ c.next_word-from.ensures c.if-from-to.true

pub returns-in_err-read_entry : goal.returns-in_err-read_entry
returns-in_err-read_entry c =
    let p = err_from_is_err_and c.from_residual.result c.from_residual.ensures.1 in
    rw (p.1, p.2) (ap some_entry c.in_err-read_entry.ensures ∙ line-log _ _ _ _ c.next_word-from.ensures c.if-from-to.false c.in-Log.is)

pub returns-in-Log : goal.returns-in-Log
returns-in-Log c = ap some_entry c.in_ok-read_entry.ensures ∙ line-log _ _ _ _ c.next_word-from.ensures c.if-from-to.false c.in-Log.is

pub returns-in_err-kind : goal.returns-in_err-kind
returns-in_err-kind c =
    let r = c.from_residual-in_err-kind in
    let p = err_from_is_err_and r.result r.ensures.1 in
    let q = nothing-there _ c.in_err-kind.ensures.value in
    rw (p.1, p.2)
    (ap Err q.1 ∙ line-bad _ _ _ _ c.next_word-from.ensures c.if-from-to.false c.in_default.not-Log (sym c.kind_of.ensures ∙ q.0))

pub returns-in_err-entry : goal.returns-in_err-entry
returns-in_err-entry c =
    let r = c.from_residual-in_err-entry in
    let p = err_from_is_err_and r.result r.ensures.1 in
    rw (p.1, p.2)
    (ap some_entry c.in_err-entry.ensures
    ∙ line-kind _ _ _ _ c.next_word-from.ensures c.if-from-to.false c.in_default.not-Log _ (sym c.kind_of.ensures ∙ there _ c.in_ok-kind.ensures.value))

pub returns : goal.returns
returns c =
    ap some_entry c.in_ok-entry.ensures
    ∙ line-kind _ _ _ _ c.next_word-from.ensures c.if-from-to.false c.in_default.not-Log _ (sym c.kind_of.ensures ∙ there _ c.in_ok-kind.ensures.value)
