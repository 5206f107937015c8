-- `beside_pages::write_comparison` meets its contract. Assumes nothing.
use borrow.Author.Rules.{rules}
use native.Mathlib.Omega.{arith}
use Prim.Native.Nat.{ℕ}
use lib.ListN.{length-replicate}
use lib.Dec.{lit≤}
use mathlib.Core.Path.{sym}
use lib.Seq.{length-take-le}
use Rattle.sentences.proofs.Tellings.{told, took-bytes, page-took, page-untook}
use Rattle.beside_pages.specs.ComparisonText.{comparison_text}
use Rattle.beside_pages.proofs.comparison.write_comparison.Goals as goal

pub slice_bounds-read_source-end : goal.slice_bounds-read_source-end
slice_bounds-read_source-end c = sym (length-replicate {A = ℕ} 49158 0)

pub read_source-read-requires : goal.read_source-read-requires
read_source-read-requires c = omega (arith, length-replicate {A = ℕ} 49158 0)

pub slice_bounds-first-end : goal.slice_bounds-first-end
slice_bounds-first-end c = (took-bytes _ _ c.in-Ok.is c.read_source-read.ensures).0

pub slice_bounds-write_second-end : goal.slice_bounds-write_second-end
slice_bounds-write_second-end c = sym (length-take-le _ _ (took-bytes _ _ c.in-Ok.is c.read_source-read.ensures).0)

pub returns-in-Err : goal.returns-in-Err
unfolding comparison_text
returns-in-Err c =
    told (λ a b. record { page = a; claims_len_bound = b })
    (page-untook _ _ _ _ _ _ _ _ _ (lit≤ tt) c.in-Err.is c.read_source-read.ensures (search rules))

pub shape_of-page-in-Ok : goal.shape_of-page-in-Ok
shape_of-page-in-Ok c = c.write_second.auto.page

pub returns-in-Ok : goal.returns-in-Ok
unfolding comparison_text
returns-in-Ok c =
    told (λ a b. record { page = a; claims_len_bound = b })
    (page-took _ _ _ c.write_second.result _ _ _ _ _ c.in-Ok.is c.read_source-read.ensures (c.write_second.ensures.page, c.write_second.ensures.claims_len_bound))
