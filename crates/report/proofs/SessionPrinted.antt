-- Document 01's printed session, as it is stated. Assumes nothing.
use Rattle.report.specs.SessionPrinted.{SessionPrinted}
use Rattle.report.proofs.SessionPage as page

pub session-printed : SessionPrinted
session-printed = page.session-printed
