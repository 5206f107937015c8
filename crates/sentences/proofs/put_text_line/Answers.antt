-- `sentences::put_text_line` meets its contract. Assumes nothing.
use native.Mathlib.Omega.{arith}
use Rattle.pages.proofs.Puts.{chain}
use Rattle.pages.proofs.Decimals.{decimal-length}
use Rattle.sentences.proofs.put_text_line.Goals as goal

pub returns : goal.returns
returns c = record { put = chain c.put-at.ensures c.put_number.ensures; l_len_bound = decimal-length 19 _ (omega arith) }
