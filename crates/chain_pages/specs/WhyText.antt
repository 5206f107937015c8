-- The text of `why` with a claim: the claim with its answer, then a line a step; or the line of the refusal. Assumes nothing.
use Rattle.chain_writing.specs.Reply.{Reply}
use Rattle.std.specs.Prelude.{ℕ, List, [], Err, Ok}
use Rattle.records.specs.Record.{record_at}
use Rattle.text.specs.declared.Form.TheVariants.{Claims}
use Rattle.text.specs.Entry.{six_bytes}
use Rattle.sentences.specs.Refusals.{refused}
use Rattle.sentences.specs.Sources.{of_book}
use Rattle.sentences.specs.Arguments.{of_words}
use Rattle.chain_pages.specs.ChainText.{chain_text}
use Rattle.chain_pages.specs.Verified.{said}

-- of a reply to a claim, with the steps c, where the book was read from a source
unfoldable pub why_text : (source claim : List ℕ) → Reply → (c : List ℕ) → List ℕ
why_text source claim (Ok a) c = chain_text (record_at claim 0) a c
why_text source claim (Err r) c = refused r.refusal r.place source []

-- of the claim that the words say, about the book of a source
unfoldable pub why_page : (source words c : List ℕ) → List ℕ
why_page source words c = of_words Claims words (λ r. of_book source (λ book. why_text source (six_bytes r) (said book (six_bytes r)) c))
