-- What an outcome tells of the rows. Assumes nothing.
use Rattle.std.specs.Prelude.{Err, None, Ok, Some}
use Rattle.records.specs.Refused.{BookCheck, Claim, ClaimsCheck, Finding, refused_at}
use Rattle.outcomes.specs.Accepted.{Outcome}
use Prim.Native.Nat.{ℕ, zero, suc, ◌-◌}
use mathlib.Core.Path.{◌≡◌, refl}
use mathlib.Core.Bool.{Bool, true, false}
use mathlib.Core.List.{List}
use native.Mathlib.Omega.{arith}
use lib.Dec.{leb}
use lib.ListN.{length}
use Rattle.lists.proofs.Bools.{Known, is_true, is_false, known}
use Rattle.rules.specs.Entries.{shortest_clash}
use Rattle.records.specs.Marked.{marked}
use Rattle.records.specs.Record.{record_at, records}
use Rattle.records.specs.Refusal.{refusal_number, row, judge, scan}
use Rattle.records.specs.Rows.{ragged, more_than, kind_row, origin_row, piece_row, void_row, order_row, repeat_row, beyond_row}
use Rattle.records.specs.Check.{form_finding, record_finding, check_by, book_check, claims_check, claim_at, claim_finding}
use Rattle.records.specs.Facts.{entries}
use Rattle.groups.specs.Index.{book_visits}
use Rattle.records.specs.declared.Record.{Record}
use Rattle.records.specs.declared.Refusal.{Refusal}
use Rattle.records.specs.declared.Refusal.TheVariants.{BookLength, TooManyRecords, Kind, Origin, PieceNumber, VoidForm, Order, Repeat, ClaimsLength, TooManyClaims, ClaimFormat, ClaimPiece}
use Rattle.records.specs.declared.Edition.{Edition}
use Rattle.records.specs.declared.Edition.TheVariants.{Current}
use Rattle.outcomes.specs.Lent.{Lent, short_lent}
use Rattle.outcomes.specs.Call.{pairs_of, by_runs, by_claims, by_book, outcome, Passed}

-- ---- no row but the last gives number 14

abbrev pub Other : Refusal → Type 0
Other r = refusal_number r ≡ 14 → ⊥

abbrev Others : Finding → Type 0
Others f = (r : Refusal) → f ≡ Err r → Other r

fit-other : Others (Ok tt)
fit-other r e = let z : ◌≡◌ {A = ℕ} 0 1 = cc in absurd (omega arith)

row_other : (b : Bool) (x : Refusal) (f : Finding) → Other x → Others f → Others (row b x f)
row_other true x f o h r e = let q : x ≡ r = cc in rw q at o
row_other false x f o h r e = h r e

judge-other : (f g : Finding) → Others f → Others g → Others (judge Err g f)
judge-other (Ok _) g h k = k
judge-other (Err x) g h k = h

form-other : (e : Edition) (r : Record) → Others (form_finding e r)
unfolding form_finding
form-other e r = row_other (kind_row e r) Kind _ (omega arith) (row_other (origin_row r) Origin _ (omega arith) (row_other (piece_row r) PieceNumber _ (omega arith) (row_other (void_row r) VoidForm _ (omega arith) (row_other (order_row e r) Order _ (omega arith) fit-other))))

record-other : (e : Edition) (s : List ℕ) (i : ℕ) → Others (record_finding e s i)
unfolding record_finding
record-other e s i = judge-other (form_finding e (record_at s i)) _ (form-other e (record_at s i)) (row_other (repeat_row s i) Repeat _ (omega arith) fit-other)

claim-other : (n : ℕ) (c : Claim) → Others (claim_finding n c)
claim-other n None = row_other true ClaimFormat (Ok tt) (omega arith) fit-other
claim-other n (Some r) = row_other (beyond_row n r) ClaimPiece _ (omega arith) fit-other

-- so nothing that a scan gives has it
module _ {A : Type 0} (Q : A → Type 0) (refused : Refusal → ℕ → A) (q : (r : Refusal) (i : ℕ) → Other r → Q (refused r i)) where
  judged : (i : ℕ) (rest : A) → Q rest → (f : Finding) → Others f → Q (judge (λ r. refused r i) rest f)
  judged i rest p (Ok _) h = p
  judged i rest p (Err r) h = q r i (h r refl)

  scanned : (accepted : A) → Q accepted → (find : ℕ → Finding) → ((i : ℕ) → Others (find i)) → (i n : ℕ) → Q (scan refused accepted find i n)
  unfolding scan
  scanned accepted p find h i zero = p
  scanned accepted p find h i (suc n) = judged i _ (scanned accepted p find h (suc i) n) (find i) (h i)

abbrev pub BookOther : BookCheck → Type 0
BookOther (Ok n) = Unit {0}
BookOther (Err r) = Other r.refusal

pub book-other : (s : List ℕ) → BookOther (book_check s)
unfolding check_by
book-other s =
    judged BookOther refused_at (λ r i o. o) 0 _ (scanned BookOther refused_at (λ r i o. o) _ tt (record_finding Current s) (record-other Current s) 0 (records s)) _
    (row_other (ragged s) BookLength _ (omega arith) (row_other (more_than 8192 s) TooManyRecords _ (omega arith) fit-other))

abbrev pub ClaimsOther : ClaimsCheck → Type 0
ClaimsOther (Ok _) = Unit {0}
ClaimsOther (Err r) = Other r.refusal

pub claims-other : (n : ℕ) (cs : List ℕ) → ClaimsOther (claims_check n cs)
unfolding claims_check
claims-other n cs =
    judged ClaimsOther refused_at (λ r i o. o) 0 _ (scanned ClaimsOther refused_at (λ r i o. o) _ tt _ (λ i. claim-other n (claim_at cs i)) 0 (records cs)) _
    (row_other (ragged cs) ClaimsLength _ (omega arith) (row_other (more_than 4096 cs) TooManyClaims _ (omega arith) fit-other))

-- ---- from an outcome to the rows

module _ (s cs : List ℕ) (l : Lent) where
  -- what the outcome says of the rows
  abbrev pub Told : Outcome → Type 0
  Told (Ok n) = Passed s cs l n.pieces × (leb (shortest_clash (marked s) n.pieces (entries s)) (records s) ≡ false) × (n.nodes ≡ length (book_visits n.pieces (pairs_of s)))
  Told (Err r) =
      refusal_number r.refusal ≡ 14 → (n : ℕ) × Passed s cs l n × (leb (shortest_clash (marked s) n (entries s)) (records s) ≡ true) × (r.place ≡ shortest_clash (marked s) n (entries s) - 1)

  pub runs-told : (n : ℕ) → Passed s cs l n → Told (by_runs s n)
  unfolding by_runs
  runs-told n p = pick (known (leb (shortest_clash (marked s) n (entries s)) (records s)))
    where
      pick : Known (leb (shortest_clash (marked s) n (entries s)) (records s)) → Told (by_runs s n)
      pick (is_true e) = rw (e, by_runs) (λ q. (n, p, e, refl))
      pick (is_false e) = rw (e, by_runs) (p, e, refl)

  claims-told : (n : ℕ) → short_lent cs l ≡ false → book_check s ≡ Ok n → (c : ClaimsCheck) → claims_check n cs ≡ c → Told (by_claims s n c)
  unfolding by_claims
  claims-told n a b (Ok _) e = runs-told n (record { lent = a; sound = b; fit = e })
  claims-told n a b (Err r) e = λ q. absurd ((rw e at (claims-other n cs)) q)

  book-told : short_lent cs l ≡ false → (b : BookCheck) → book_check s ≡ b → Told (by_book s cs b)
  unfolding by_book
  book-told a (Ok n) e = claims-told n a e (claims_check n cs) refl
  book-told a (Err r) e = λ q. absurd ((rw e at (book-other s)) q)

  pub told : Told (outcome s cs l)
  unfolding outcome
  told = pick (known (short_lent cs l))
    where
      pick : Known (short_lent cs l) → Told (outcome s cs l)
      pick (is_true e) = rw (e, outcome) (λ q. absurd (omega arith))
      pick (is_false e) = rw (e, outcome) (book-told e (book_check s) refl)

  -- and from the rows to the outcome
  pub passed-outcome : (n : ℕ) → Passed s cs l n → outcome s cs l ≡ by_runs s n
  unfolding outcome by_book by_claims
  passed-outcome n p = rw (p.lent, outcome, p.sound, by_book, p.fit, by_claims)
