-- The first rows of a call, and what it leaves behind a refusal and behind a fresh call. Assumes nothing.
use Rattle.std.specs.Prelude.{Err, Ok}
use Rattle.records.specs.Refused.{BookCheck, refused_at}
use Rattle.outcomes.specs.Accepted.{Outcome, accepted_with}
use mathlib.Core.Path.{◌≡◌, refl, sym, ap, ap₂, subst, ◌∙◌}
use mathlib.Core.Bool.{Bool, true, false, not}
use mathlib.Core.List.{List, [], ◌++◌, append-nil}
use Prim.Native.Nat.{ℕ, ◌+◌, ◌≤◌, ◌<◌}
use native.Mathlib.Omega.{arith}
use borrow.Author.Tests.{lt-ltb, le-ltb, le-leb, lt-leb, eq-eqb, ne_eqb}
use lib.Dec.{ltb, leb, eqb}
use lib.ListN.{length, take, drop, length-append, length-drop}
use lib.Seq.{length-take-le}
use Rattle.lists.specs.Front.{front}
use Rattle.records.specs.Record.{records}
use Rattle.records.specs.Check.{book_check}
use Rattle.outcomes.specs.Call.{by_book}
use Rattle.records.specs.declared.Refusal.{Refusal}
use Rattle.records.specs.declared.Refusal.TheVariants.{ShortBuffer, BookLength, TooManyRecords, ClaimsLength, NotStanding}
use Rattle.parentheses.specs.Padded.{padded}
use Rattle.working.specs.declared.keeping.Working.{Working}
use Rattle.working.specs.declared.keeping.Settled.{Settled}
use Rattle.outcomes.specs.Fresh.{fresh_call}
use Rattle.working.specs.Standing.{standing, extended, without, Stands}
use Rattle.outcomes.specs.One.{refuse_if, by_one}
use Rattle.working.specs.Rows.{by_area, ask_outcome, answer_of, start_outcome, add_outcome, withdraw_outcome}
use Rattle.working.specs.Kept.{kept_state, kept_area, image, Determined, Extended}
use Rattle.parentheses.proofs.Paddeds.{padded-length}
use Rattle.working.proofs.Fresh.{over-full, extended-length}

-- ---- one row
pub on : (b : Bool) (x : Refusal) (below : Outcome) → b ≡ true → refuse_if b x below ≡ refused_at x 0
unfolding refuse_if
on b x below e = ap (λ (t : Bool). refuse_if t x below) e

pub off : (b : Bool) (x : Refusal) (below : Outcome) → b ≡ false → refuse_if b x below ≡ below
unfolding refuse_if
off b x below e = ap (λ (t : Bool). refuse_if t x below) e

-- ---- rows 1 and 4
pub short-area : (area : List ℕ) (k : ℕ) (rest : Outcome) → length area < 49152 → by_area area k rest ≡ refused_at ShortBuffer 0
unfolding by_area
short-area area k rest l = on (ltb (length area) 49152) ShortBuffer _ (lt-ltb (length area) 49152 l)

pub many-stated : (area : List ℕ) (k : ℕ) (rest : Outcome) → 49152 ≤ length area → 8192 < k → by_area area k rest ≡ refused_at TooManyRecords 0
unfolding by_area
many-stated area k rest l m = off (ltb (length area) 49152) ShortBuffer _ (le-ltb (length area) 49152 l) ∙ on (ltb 8192 k) TooManyRecords rest (lt-ltb 8192 k m)

pub past-area : (area : List ℕ) (k : ℕ) (rest : Outcome) → 49152 ≤ length area → k ≤ 8192 → by_area area k rest ≡ rest
unfolding by_area
past-area area k rest l m = off (ltb (length area) 49152) ShortBuffer _ (le-ltb (length area) 49152 l) ∙ off (ltb 8192 k) TooManyRecords rest (le-ltb 8192 k m)

-- ---- what is kept

-- the run and nothing behind it fit the front of the area
pub run_room : (run area : List ℕ) → length run ≤ 49152 → 49152 ≤ length area → length run + length {A = ℕ} [] ≤ length (take 49152 area)
run_room run area l m = omega (arith, length-take-le 49152 area m)

pub front_length : (last area : List ℕ) → length last ≡ length (take 49152 area) → 49152 ≤ length area → length (last ++ drop 49152 area) ≡ length area
front_length last area e m = omega (arith, length-append last (drop 49152 area), length-take-le 49152 area m, length-drop 49152 area)

module _ (w : Working) (area : List ℕ) where
  pub settled-refused : (run : List ℕ) (k : ℕ) (o : Outcome) {x : Refusal} {i : ℕ} → o ≡ refused_at x i → (o ≡ o) × ((w ≡ kept_state w k o) × (area ≡ kept_area area (image run) o))
  unfolding kept_state kept_area
  settled-refused run k o e = (refl, rw e (refl, refl))

  pub settled-accepted : (run : List ℕ) (k : ℕ) (o : Outcome) {n v h : ℕ} → o ≡ accepted_with n v h → (last : List ℕ) → length run ≤ 49152 → 49152 ≤ length area → last ≡ padded 0 (length (take 49152 area)) (run ++ [])
      → (accepted_with n v h ≡ o) × ((record { records = k; pieces = n } ≡ kept_state w k o) × (last ++ drop 49152 area ≡ kept_area area (image run) o))
  unfolding kept_state kept_area front image
  settled-accepted run k o e last l m f =
      let g : last ≡ padded 0 49152 run = f ∙ ap₂ (padded 0) (length-take-le 49152 area m) (append-nil run) in
      (sym e, rw e (refl, (ap (λ (s : List ℕ). s ++ drop 49152 area) g ∙ ap (λ (n : ℕ). padded 0 49152 run ++ drop n area) (sym (padded-length 0 49152 run l)))))

-- ---- a refusal, and a fresh call behind the first rows
module _ (w : Working) (area run : List ℕ) where
  pub refused : (due : Outcome) (x : Refusal) (i : ℕ) → due ≡ refused_at x i → (r : Outcome) (w' : Working) → r ≡ refused_at x i → w' ≡ w → Determined w area run due r w' area
  unfolding kept_state kept_area
  refused due x i e r w' f g = (f ∙ sym e, rw e (g, refl))

  pub passed : (due : Outcome) → due ≡ fresh_call run [] → (r : Settled) (area' : List ℕ) → Extended w area run r area' → Determined w area run due r.outcome r.working area'
  passed due e r area' D = subst (λ (x : Outcome). Determined w area run x r.outcome r.working area') (sym e) D

  -- the run was judged and is kept
  pub judged : (o : Outcome) → o ≡ fresh_call run [] → (r : Settled) (area' : List ℕ) → (r.outcome ≡ o) × ((r.working ≡ kept_state w (records run) o) × (area' ≡ kept_area area (image run) o)) → Extended w area run r area'
  judged o q r area' (a, (b, c)) = (a ∙ q, (b ∙ ap (kept_state w (records run)) q, c ∙ ap (kept_area area (image run)) q))

  -- from where it was written
  pub kept-as : {held : List ℕ} {end : ℕ} → Stands run held end → (r : Settled) (area' : List ℕ) → Extended w area (take end held) r area' → Extended w area run r area'
  kept-as S r area' D = subst (λ (x : List ℕ). Extended w area x r area') S.is D

-- ---- the rows of an addition and of a withdrawal
pub add-short : (area a : List ℕ) (k : ℕ) → length area < 49152 → add_outcome area k a ≡ refused_at ShortBuffer 0
unfolding add_outcome
add-short area a k l = short-area area k _ l

pub add-many : (area a : List ℕ) (k : ℕ) → 49152 ≤ length area → 8192 < k → add_outcome area k a ≡ refused_at TooManyRecords 0
unfolding add_outcome
add-many area a k l m = many-stated area k _ l m

pub withdraw-short : (area : List ℕ) (k i : ℕ) → length area < 49152 → withdraw_outcome area k i ≡ refused_at ShortBuffer 0
unfolding withdraw_outcome
withdraw-short area k i l = short-area area k _ l

pub withdraw-many : (area : List ℕ) (k i : ℕ) → 49152 ≤ length area → 8192 < k → withdraw_outcome area k i ≡ refused_at TooManyRecords 0
unfolding withdraw_outcome
withdraw-many area k i l m = many-stated area k _ l m

pub start-short : (area : List ℕ) → length area < 49152 → start_outcome area ≡ refused_at ShortBuffer 0
unfolding start_outcome
start-short area l = short-area area 0 _ l

pub start-passes : (area : List ℕ) → 49152 ≤ length area → start_outcome area ≡ fresh_call [] []
unfolding start_outcome
start-passes area l = past-area area 0 _ l (omega arith)

module _ (area : List ℕ) (k : ℕ) (long : 49152 ≤ length area) where
  pub add-length : (a : List ℕ) → k ≤ 8192 → (length a ≡ 6 → ⊥) → add_outcome area k a ≡ refused_at BookLength 0
  unfolding add_outcome
  add-length a m n = past-area area k _ long m ∙ on (not (eqb (length a) 6)) BookLength _ (ap not (ne_eqb (length a) 6 n))

  pub add-passes : (a : List ℕ) → k ≤ 8192 → length a ≡ 6 → add_outcome area k a ≡ fresh_call (extended area k a) []
  unfolding add_outcome
  add-passes a m e = past-area area k _ long m ∙ off (not (eqb (length a) 6)) BookLength _ (ap not (eq-eqb (length a) 6 e))

  pub add-full : (a : List ℕ) → k ≡ 8192 → length a ≡ 6 → add_outcome area k a ≡ refused_at TooManyRecords 0
  add-full a f e = add-passes a (omega arith) e ∙ over-full (extended area k a) (omega (arith, extended-length area a k (omega arith) e))

  pub withdraw-absent : (i : ℕ) → k ≤ 8192 → k ≤ i → withdraw_outcome area k i ≡ refused_at NotStanding 0
  unfolding withdraw_outcome
  withdraw-absent i m n = past-area area k _ long m ∙ on (leb k i) NotStanding _ (le-leb k i n)

  pub withdraw-passes : (i : ℕ) → k ≤ 8192 → i < k → withdraw_outcome area k i ≡ fresh_call (without area k i) []
  unfolding withdraw_outcome
  withdraw-passes i m n = past-area area k _ long m ∙ off (leb k i) NotStanding _ (lt-leb k i n)

-- ---- the rows of a claim
pub one-misfit : (s c : List ℕ) (k : BookCheck) → (length c ≡ 6 → ⊥) → {n : ℕ} → k ≡ Ok n → refused_at ClaimsLength 0 ≡ by_one s c k
unfolding by_one
one-misfit s c k x {n} e = sym (ap (by_one s c) e ∙ on (not (eqb (length c) 6)) ClaimsLength _ (ap not (ne_eqb (length c) 6 x)))

pub one-refused : (s c : List ℕ) (k : BookCheck) {x : Refusal} {i : ℕ} → k ≡ refused_at x i → refused_at x i ≡ by_one s c k
unfolding by_one
one-refused s c k e = sym (ap (by_one s c) e)

pub one-fits : (s c : List ℕ) (k : BookCheck) → length c ≡ 6 → by_book s c k ≡ by_one s c k
unfolding by_book by_one
one-fits s c (Err x) e = refl
one-fits s c (Ok n) e = sym (off (not (eqb (length c) 6)) ClaimsLength _ (ap not (eq-eqb (length c) 6 e)))

-- a claim of other than 6 bytes is never accepted
pub misfit-answer : (s c : List ℕ) (k : BookCheck) → (length c ≡ 6 → ⊥) → 0 ≡ answer_of s c (by_one s c k)
unfolding by_one answer_of
misfit-answer s c (Err y) x = refl
misfit-answer s c (Ok n) x = sym (ap (answer_of s c) (on (not (eqb (length c) 6)) ClaimsLength _ (ap not (ne_eqb (length c) 6 x))))

pub ask-short : (area c : List ℕ) (k : ℕ) → length area < 49152 → ask_outcome area k c ≡ refused_at ShortBuffer 0
unfolding ask_outcome
ask-short area c k l = short-area area k _ l

pub ask-many : (area c : List ℕ) (k : ℕ) → 49152 ≤ length area → 8192 < k → ask_outcome area k c ≡ refused_at TooManyRecords 0
unfolding ask_outcome
ask-many area c k l m = many-stated area k _ l m

pub ask-passes : (area c : List ℕ) (k : ℕ) → 49152 ≤ length area → k ≤ 8192 → ask_outcome area k c ≡ by_one (standing area k) c (book_check (standing area k))
unfolding ask_outcome
ask-passes area c k l m = past-area area k _ l m

-- a refused claim has answer 0
pub no_answer : (s c : List ℕ) (x : Refusal) → 0 ≡ answer_of s c (refused_at x 0)
unfolding answer_of
no_answer s c x = refl
