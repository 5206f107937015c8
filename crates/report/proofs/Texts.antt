-- Where a page is laid out, its text is at most as long as the page. Assumes nothing.
use mathlib.Core.Path.{◌≡◌, subst}
use mathlib.Core.List.{List}
use Prim.Native.Nat.{ℕ}
use Rattle.io.specs.Counts.{IsPrefixLen}
use Rattle.report.specs.Asked.{Asked}
use Rattle.std.specs.Prelude.{Option}
use Rattle.std.specs.Prelude.{Some}

pub text-counts : (book claims page page' : List ℕ) (r : Option ℕ) (end : ℕ) → r ≡ Some end → Asked book claims page page' r → IsPrefixLen end page'
text-counts book claims page page' r end is a = (subst (Asked book claims page page') is a).1.counts
