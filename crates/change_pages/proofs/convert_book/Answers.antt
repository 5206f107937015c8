-- `change_pages::convert_book` meets its contract. Assumes nothing.
use mathlib.Core.Path.{refl}
use native.Mathlib.Omega.{arith}
use Rattle.change_pages.proofs.Mades.{made_as, made_none}
use Rattle.change_pages.proofs.Books.{convert-refused, written-fits, convert-written}
use Rattle.change_pages.proofs.convert_book.Goals as goal

pub accept-requires : goal.accept-requires
accept-requires c = written-fits c.args.source.now _ c.args.out.now _ (omega arith) _ c.in-Ok.ensures _ refl

pub returns-in-Err : goal.returns-in-Err
returns-in-Err c =
    made_none _ _ _ _ _ (made_as (convert-refused _ _ c.args.out.now _ (omega arith) _ c.in-Err.ensures _ _ refl) c.refuse.ensures)

pub returns-in-Ok : goal.returns-in-Ok
returns-in-Ok c =
    made_as (convert-written _ _ c.args.out.now _ (omega arith) _ c.in-Ok.ensures _ refl) c.accept.ensures
