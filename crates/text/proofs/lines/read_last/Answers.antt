-- `text::lines::read_last` meets its contract. Assumes nothing.
use mathlib.Core.Path.{sym, ap, ◌∙◌}
use Rattle.std.specs.Prelude.{Err}
use Rattle.std.proofs.lemmas.Result.{err_from_is_err_and}
use Rattle.text.proofs.Said.{last_none, last-bad, last_more, last-choice, there, nothing-there}
use Rattle.text.proofs.lines.read_last.Goals as goal

pub returns-then-from-to : goal.returns-then-from-to
returns-then-from-to c = last_none _ _ _ _ _ _ _ _ c.next_word-from.ensures c.if-from-to.true

pub returns-in_err-origin : goal.returns-in_err-origin
returns-in_err-origin c =
    let p = err_from_is_err_and c.from_residual.result c.from_residual.ensures.1 in
    let q = nothing-there _ c.in_err-origin.ensures.value in
    rw (p.1, p.2)
    (ap Err (q.1 ∙ c.bad_choice.ensures) ∙ last-bad _ _ _ _ _ _ _ _ c.next_word-from.ensures c.if-from-to.false (sym c.choice_of.ensures ∙ q.0))

pub returns-then-v : goal.returns-then-v
returns-then-v c =
    last_more _ _ _ _ _ _ _ _ c.next_word-from.ensures c.if-from-to.false _ (sym c.choice_of.ensures ∙ there _ c.in_ok-origin.ensures.value) _ _ c.next_word-v.ensures c.if-v.true

pub returns : goal.returns
returns c =
    last-choice _ _ _ _ _ _ _ _ c.next_word-from.ensures c.if-from-to.false _ (sym c.choice_of.ensures ∙ there _ c.in_ok-origin.ensures.value) _ _ c.next_word-v.ensures c.if-v.false
