-- `change_pages::write_line` meets its contract. Assumes nothing.
use native.Mathlib.Omega.{arith}
use Rattle.pages.proofs.Puts.{chain, put_as}
use Rattle.sentences.proofs.Tellings.{put-page}
use Rattle.change_pages.proofs.News.{new-line, new-width}
use Rattle.change_pages.proofs.write_line.Goals as goal

pub returns : goal.returns
returns c =
    let w = put-page {most = 142} (put_as (new-line _ _ c.piece_count.ensures) (chain c.put-at.ensures (chain c.put_number-at.ensures (chain c.put-at-2.ensures c.put_number-at-2.ensures))), new-width _ _ c.piece_count.ensures (omega arith) (omega (arith, c.piece_count.type_inv))) c.finish.ensures in
    record { page = w.0; run_len_bound = w.1 }
