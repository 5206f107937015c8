-- `listing::put_numbers` meets its contract: the loop keeps that the first i numbers are put. Assumes nothing.
use native.Mathlib.Omega.{arith}
use mathlib.Core.Path.{ap}
use Rattle.pages.specs.Text.{field}
use Rattle.pages.specs.Decimal.{decimal}
use Rattle.pages.proofs.Puts.{put_as}
use Rattle.pages.proofs.Lined.{no_line, next-line}
use Rattle.book_pages.specs.ListText.{number_lines}
use Rattle.book_pages.proofs.listing.put_numbers.Goals as goal

pub loop-x-init : goal.loop-x-init
unfolding number_lines
loop-x-init c = no_line _

pub loop-x-preserved : goal.loop-x-preserved
unfolding number_lines
loop-x-preserved c = next-line _ c.loop-x.x-index c.loop-x.invariant (put_as (ap (λ n. field (decimal n) 10) c.from.ensures) c.put_number-end.ensures)

pub returns : goal.returns
returns c = put_as (ap (number_lines _) (omega arith)) c.loop-x.invariant
