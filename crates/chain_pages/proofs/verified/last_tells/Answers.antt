-- `verified::last_tells` meets its contract. Assumes nothing.
use Rattle.chain_pages.proofs.Judges.{opposite-room, tells-follows, tells-denied, tells-open}
use Rattle.chain_pages.proofs.verified.last_tells.Goals as goal

pub overflow_sub-f : goal.overflow_sub-f
overflow_sub-f c = opposite-room _ _ c.record_at-f.ensures c.requires.2

pub returns-in-Follows : goal.returns-in-Follows
returns-in-Follows c =
    tells-follows _ _ _ _ _ _ c.record_at-f.ensures c.step_at-s.ensures c.requires.2 c.in-Follows.is c.shows.ensures

pub returns-in-Denied : goal.returns-in-Denied
returns-in-Denied c =
    tells-denied _ _ _ _ _ _ c.record_at-f.ensures c.step_at-s.ensures c.requires.2 c.in-Denied.is c.shows-in-Denied.ensures

pub returns-in-Open : goal.returns-in-Open
returns-in-Open c = tells-open _ _ _ c.in-Open.is
