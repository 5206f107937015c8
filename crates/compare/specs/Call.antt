-- What the call comes to, from its input alone: the outcome and every byte of the output. Assumes nothing.
use Rattle.records.specs.Refused.{ClaimsCheck}
use Rattle.outcomes.specs.Accepted.{Outcome}
use Rattle.compare.specs.Refused.{Comparison, refused_of}
use Rattle.std.specs.Prelude.{ℕ, ◌*◌, ◌≡◌, Bool, true, false, List, [], ltb, length, Err, Ok}
use Rattle.lists.specs.Front.{front}
use Rattle.records.specs.Record.{records}
use Rattle.records.specs.Check.{claims_check}
use Rattle.records.specs.declared.Refusal.TheVariants.{ShortBuffer}
use Rattle.compare.specs.Joint.{pieces, consistent}
use Rattle.outcomes.specs.Fresh.{fresh_call}
use Rattle.compare.specs.Answers.{bytes_of}

-- ---- the outcome: 1, the first book's rows and 14, the second's, then the claims'

-- the refusal of book k, or what comes after it
unfoldable pub by_book : ℕ → Outcome → Comparison → Comparison
by_book k (Err r) rest = refused_of k r.refusal r.place
by_book k (Ok n) rest = rest

-- rows 10 to 13 refuse, or both books are compared
unfoldable pub by_claims : Bool → ClaimsCheck → Comparison
by_claims b (Err r) = refused_of 0 r.refusal r.place
by_claims b (Ok _) = Ok b

unfoldable pub by_rows : List ℕ → List ℕ → List ℕ → Comparison
by_rows s t cs = by_book 1 (fresh_call s []) (by_book 2 (fresh_call t []) (by_claims (consistent s t) (claims_check (pieces s t) cs)))

-- of two books, claims and so many bytes of output
unfoldable pub outcome : List ℕ → List ℕ → List ℕ → ℕ → Comparison
outcome s t cs room = elim (ltb room (3 * records cs)) [ true ↦ refused_of 0 ShortBuffer 0 | false ↦ by_rows s t cs ]

-- ---- the output

unfoldable pub left : List ℕ → List ℕ → List ℕ → List ℕ → Comparison → List ℕ
left s t cs out (Err k) = out
left s t cs out (Ok b) = front (bytes_of s t cs) out

abbrev pub Determined : List ℕ → List ℕ → List ℕ → List ℕ → Comparison → List ℕ → Type 0
Determined s t cs out r out' = (r ≡ outcome s t cs (length out)) × (out' ≡ left s t cs out r)
