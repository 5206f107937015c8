-- `grid::put_grid` meets its contract, by what the grid call comes to. Assumes nothing.
use Rattle.pages.proofs.Puts.{put_as}
use Rattle.book_pages.proofs.GridTexts.{refused, refused-short, small, accepted, accepted-short}
use Rattle.book_pages.proofs.grid.put_grid.Goals as goal

pub put_lines-requires : goal.put_lines-requires
put_lines-requires c = small _ c.args.source.now _ _ c.grid_of-made.ensures _ _ _ c.in-Ok.is

pub returns-in-Err : goal.returns-in-Err
returns-in-Err c =
    record { put = put_as (refused _ _ _ _ c.grid_of-made.ensures _ _ c.in-Err.is) c.put_refused_book.ensures.put; source_len_bound = refused-short _ _ _ _ c.grid_of-made.ensures _ _ c.in-Err.is c.put_refused_book.ensures.book_len_bound }

pub returns-in-Ok : goal.returns-in-Ok
returns-in-Ok c =
    record { put = put_as (accepted _ _ _ _ c.grid_of-made.ensures _ _ _ c.in-Ok.is) c.put_lines.ensures; source_len_bound = accepted-short _ _ _ _ c.grid_of-made.ensures _ _ _ c.in-Ok.is }
