-- `chain_writing::write_restricted` meets its contract. Assumes nothing.
use borrow.Author.Rules.{rules}
use mathlib.Core.Path.{sym, ◌∙◌}
use Prim.Native.Nat.{ℕ}
use lib.ListN.{length-replicate}
use lib.Seq.{length-take-le}
use Rattle.records.proofs.Keeps.{picked-sheets, sheets-shorter}
use Rattle.claims.proofs.Counts.{own-count}
use Rattle.claims.proofs.Sheets.{book-short, sheets-taken, sheets-bounded, sheets-opened}
use Rattle.chain_writing.proofs.Replies.{ground-of, free-by}
use native.Mathlib.Omega.{arith}
use Rattle.chain_writing.proofs.write_restricted.Goals as goal

pub slice_bounds-keep_sheets-end : goal.slice_bounds-keep_sheets-end
slice_bounds-keep_sheets-end c = sym (length-replicate {A = ℕ} 49152 0)

pub keep_sheets-length-requires : goal.keep_sheets-length-requires
keep_sheets-length-requires c = omega (arith, book-short _ (own-count c.requires.0))

pub slice_bounds-kept-end : goal.slice_bounds-kept-end
slice_bounds-kept-end c =
    let K = c.keep_sheets-length in omega (arith, K.ensures.0, K.auto.out, sheets-shorter c.args.book.now, book-short _ (own-count c.requires.0))

pub slice_bounds-run-end : goal.slice_bounds-run-end
slice_bounds-run-end c =
    let K = c.keep_sheets-length in
    sym (length-take-le _ _ (omega (arith, K.ensures.0, K.auto.out, sheets-shorter c.args.book.now, book-short _ (own-count c.requires.0))))

pub settle_run-requires : goal.settle_run-requires
settle_run-requires c =
    let K = c.keep_sheets-length in let run = sheets-taken _ _ _ K.ensures.0 K.ensures.1 in (sheets-bounded _ (own-count c.requires.0) run, c.requires.1.0)

pub edges-requires : goal.edges-requires
edges-requires c =
    let K = c.keep_sheets-length in let run = sheets-taken _ _ _ K.ensures.0 K.ensures.1 in (sheets-bounded _ (own-count c.requires.0) run, search rules)

pub write_found-requires : goal.write_found-requires
write_found-requires c =
    let K = c.keep_sheets-length in let T = c.settle_run in let run = sheets-taken _ _ _ K.ensures.0 K.ensures.1 in let O = sheets-opened _ (own-count c.requires.0) run _ c.requires.1.0.whole (free-by _ _ _ c.requires.1 c.requires.2) T.result T.ensures in (ground-of _ _ _ _ _ c.requires.0 c.requires.1 (run ∙ sym (picked-sheets _ _ c.requires.3)) O c.edges.ensures, c.requires.4, c.requires.5, c.requires.6)

pub returns : goal.returns
returns c = c.write_found.ensures
