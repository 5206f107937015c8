-- `pages::put_number` meets its contract: the digits are those of `io::decimal`, which `decimal` defines. Assumes nothing.
use mathlib.Core.Path.{sym}
use Rattle.pages.proofs.Decimals.{spelled_out}
use Rattle.pages.proofs.Puts.{chain, put_as}
use Rattle.pages.proofs.put_number.Goals as goal

pub returns : goal.returns
returns c =
    chain (put_as (sym (spelled_out _ _ _ c.decimal-k.ensures.len c.decimal-k.ensures.digits)) c.put-end.ensures) c.put_byte.ensures
