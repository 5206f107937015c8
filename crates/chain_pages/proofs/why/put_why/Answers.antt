-- `why::put_why` meets its contract, by the two kinds of reply. Assumes nothing.
use native.Mathlib.Omega.{arith}
use Rattle.pages.proofs.Puts.{put_as}
use Rattle.chain_pages.proofs.Replies.{refused, answered, refused-short, answered-short}
use Rattle.chain_pages.proofs.why.put_why.Goals as goal

pub record_at-r-requires : goal.record_at-r-requires
record_at-r-requires c = omega (arith, c.requires.0 _ c.in-Ok.is)

pub returns-in-Err : goal.returns-in-Err
returns-in-Err c =
    record {
      put = put_as (refused _ _ _ _ _ _ c.in-Err.is) c.put_refused_book.ensures.put;
      c_len_bound = refused-short _ _ _ _ _ _ c.in-Err.is c.put_refused_book.ensures.book_len_bound;
      bytes = λ j. (c.shared_slice_known-3-1.given j).fits;
    }

pub returns-in-Ok : goal.returns-in-Ok
returns-in-Ok c =
    record {
      put = put_as (answered _ _ _ _ _ _ c.in-Ok.is c.record_at-r.ensures) c.put_chain.ensures;
      c_len_bound = answered-short _ _ _ _ _ c.in-Ok.is (λ j. (c.shared_slice_known-2-1.given j).fits) (λ j. (c.shared_slice_known-3-1.given j).fits) c.requires.1;
      bytes = λ j. (c.shared_slice_known-3-1.given j).fits;
    }
