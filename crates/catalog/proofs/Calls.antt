-- What a catalog comes to and leaves, row by row. Assumes nothing.
use Rattle.records.proofs.Refuseds.{same-reason, same-place}
use Rattle.std.specs.Prelude.{Err, Ok}
use Rattle.records.specs.Refused.{BookCheck, refused_at}
use Rattle.outcomes.specs.Accepted.{Outcome, accepted_with}
use Rattle.catalog.specs.Listing.{Listing}
use Prim.Native.Nat.{ℕ, ◌≤◌, ◌<◌}
use mathlib.Core.Path.{◌≡◌, refl, sym, ap, ap₂, subst, ◌∙◌}
use mathlib.Core.Bool.{Bool, true, false, not, ◌&&◌, and-false}
use mathlib.Core.List.{List, []}
use native.Mathlib.Omega.{arith}
use borrow.Author.Tests.{ltb-false, ne_eqb, le-leb, lt-leb, leb-true, leb-false}
use lib.Dec.{ltb, leb}
use lib.ListN.{length}
use Rattle.lists.proofs.Bools.{and_both, or-neither}
use Rattle.records.specs.Refusal.{refusal_number, scan}
use Rattle.records.specs.Check.{book_check, claims_check}
use Rattle.records.specs.declared.Refusal.{Refusal}
use Rattle.records.specs.declared.Refusal.TheVariants.{ShortBuffer, ShortCatalog, ClaimFormat, ClaimPiece, Contradiction}
use Rattle.outcomes.specs.Lent.{short_lent}
use Rattle.outcomes.specs.Lent as lending
use Rattle.outcomes.specs.Call.{by_runs}
use Rattle.outcomes.specs.Call as call
use Rattle.answers.specs.Judging as judging
use Rattle.outcomes.proofs.Outcomes.{Other, book-other, runs-told}
use Rattle.outcomes.proofs.Buffers.{cut, put_back, left_back, Fitted}
use Rattle.outcomes.proofs.Kept.{fitted}
use Rattle.answers.proofs.Calls.{long}
use Rattle.answers.proofs.Calls as calls
use Rattle.catalog.specs.Lent.{Lent, short_catalog}
use Rattle.catalog.specs.Call.{counts_of, refuse_if, by_index, by_asked, by_book, outcome, left, Determined}
use Rattle.catalog.specs.Filling.{refused_if, asked, Roomy, Asked, Filled, Ready, Judged}
use Rattle.catalog.specs.declared.Counts.{Counts}
use Rattle.catalog.specs.declared.Lengths.{Lengths}

-- two lendings with the same parts
same : {i i' : lending.Lent} {a a' b b' c c' d d' : List ℕ} → i ≡ i' → a ≡ a' → b ≡ b' → c ≡ c' → d ≡ d'
    → ◌≡◌ {A = Lent} (record { index = i; list = a; meets = b; apart = c; notpart = d }) (record { index = i'; list = a'; meets = b'; apart = c'; notpart = d' })
same p q r s t = rw (p, q, r, s, t)

-- no claims pass their rows
no-claims : (n : ℕ) → claims_check n [] ≡ Ok tt
unfolding claims_check scan
no-claims n = refl

-- ---- row 14

abbrev pub counted : ℕ → ℕ → ℕ → Lengths → Counts
counted n nodes shadows c = record { pieces = n; nodes = nodes; shadows = shadows; listed = c.listed; meets = c.meets; apart = c.apart; notpart = c.notpart }

module _ (s : List ℕ) (k g n : ℕ) (l : Lent) where
  -- a contradictory book
  pub judged-refused :
      {place : ℕ} {i : lending.Lent} → judging.Judged s n [] l.index (refused_at Contradiction place) i
      → Judged s k g n l (refused_at Contradiction place) (record { index = i; list = l.list; meets = l.meets; apart = l.apart; notpart = l.notpart })
  unfolding by_index left
  judged-refused J = record { outcome-is = ap (by_index s k g) J.outcome-is; left_is = same J.left_is refl refl refl refl }

  -- any other
  counts-are : {nodes shadows : ℕ} {list list' meets meets' apart apart' notpart notpart' : List ℕ} {c : Lengths} → Filled s k g n list meets apart notpart c list' meets' apart' notpart' → counted n nodes shadows c ≡ counts_of s k g n nodes shadows
  unfolding counts_of
  counts-are F = rw (F.listed-are, F.in-meets, F.in-apart, F.in-notpart)

  pub judged-written :
      {nodes shadows : ℕ} {i : lending.Lent} {list meets apart notpart : List ℕ} {c : Lengths} → judging.Judged s n [] l.index (accepted_with n nodes shadows) i
      → Filled s k g n l.list l.meets l.apart l.notpart c list meets apart notpart
      → Judged s k g n l (Ok (counted n nodes shadows c)) (record { index = i; list = list; meets = meets; apart = apart; notpart = notpart })
  unfolding by_index left counts_of
  judged-written {nodes} {shadows} {i} {list} {meets} {apart} {notpart} {c} J F =
      let e : counted n nodes shadows c ≡ counts_of s k g n nodes shadows = counts-are F in
      record {
        outcome-is = ap Ok e ∙ ap (by_index s k g) J.outcome-is;
        left_is =
            subst (λ z. ◌≡◌ {A = Lent} (record { index = i; list = list; meets = meets; apart = apart; notpart = notpart }) (left s k g l (Ok z))) (sym e)
            (same J.left_is F.list-is F.meets-are F.apart-are F.notpart-are);
      }

  -- ---- rows that leave everything

  untouched : (r : Refusal) (i : ℕ) → Other r → l ≡ left s k g l (refused_at r i)
  unfolding left call.left
  untouched r i o = rw (ne_eqb (refusal_number r) 14 o, call.left)

-- ---- rows 12 and 13

-- kinds 1 to 3
pub low-kind : (k : ℕ) → k < 1 → (leb 1 k && leb k 3) ≡ false
low-kind k h = rw (lt-leb 1 k h)

pub high-kind : (k : ℕ) → 3 < k → (leb 1 k && leb k 3) ≡ false
high-kind k h = rw (lt-leb k 3 h) (and-false (leb 1 k))

pub fit-kind : (k : ℕ) → 1 ≤ k → k ≤ 3 → (leb 1 k && leb k 3) ≡ true
fit-kind k h h' = rw (le-leb 1 k h, le-leb k 3 h')

pub asked_by : (k g n : ℕ) → (leb 1 k && leb k 3) ≡ true → leb n g ≡ false → Asked n k g
asked_by k g n e f = let w = and_both (leb 1 k) (leb k 3) e in record { least = leb-true _ _ w.0; most = leb-true _ _ w.1; piece = leb-false _ _ f }

module _ (k g n : ℕ) where
  pub kind-refused : (leb 1 k && leb k 3) ≡ false → refused_at ClaimFormat 0 ≡ asked k g (Ok n)
  unfolding asked refused_if
  kind-refused e = rw (e, refused_if)

  pub piece-refused : (leb 1 k && leb k 3) ≡ true → n ≤ g → refused_at ClaimPiece 0 ≡ asked k g (Ok n)
  unfolding asked refused_if
  piece-refused e h = rw (e, refused_if, le-leb n g h, refused_if)

  pub asked-accepted : (leb 1 k && leb k 3) ≡ true → g < n → Ok n ≡ asked k g (Ok n)
  unfolding asked refused_if
  asked-accepted e h = rw (e, refused_if, lt-leb n g h, refused_if)

-- a book whose rows are passed with a kind and a piece
pub passed-asked : (s : List ℕ) (k g : ℕ) {n : ℕ} → asked k g (book_check s) ≡ Ok n → (book_check s ≡ Ok n) × Asked n k g
unfolding asked refused_if
passed-asked s k g {n} = pick (book_check s) refl
  where
    rows : (m : ℕ) (a b : Bool) → (leb 1 k && leb k 3) ≡ a → leb m g ≡ b → refused_if (not a) ClaimFormat (refused_if b ClaimPiece (Ok m)) ≡ Ok n → (m ≡ n) × Asked m k g
    rows m false b p q e = let z : ◌≡◌ {A = ℕ} 0 1 = cc in absurd (omega arith)
    rows m true true p q e = let z : ◌≡◌ {A = ℕ} 0 1 = cc in absurd (omega arith)
    rows m true false p q e = let x : m ≡ n = cc in (x, asked_by k g m p q)

    pick : (b : BookCheck) → book_check s ≡ b → asked k g b ≡ Ok n → (book_check s ≡ Ok n) × Asked n k g
    pick (Err r) e q = let z : ◌≡◌ {A = ℕ} 0 1 = cc in absurd (omega arith)
    pick (Ok m) e q =
        let w = rows m (leb 1 k && leb k 3) (leb m g) refl refl q in
        (e ∙ ap Ok w.0, subst (λ (x : ℕ). Asked x k g) w.0 w.1)

-- ---- the whole call

abbrev index_outcome : Listing → Outcome
index_outcome (Ok c) = accepted_with c.pieces c.nodes c.shadows
index_outcome (Err r) = Err r

module _ (s : List ℕ) (k g : ℕ) (l : Lent) where
  pub short-refused : short_lent [] l.index ≡ true → Determined s k g l (refused_at ShortBuffer 0) l
  unfolding outcome refuse_if
  short-refused e = (rw (e, refuse_if), untouched s k g 0 l ShortBuffer 0 (omega arith))

  module _ (ok : short_lent [] l.index ≡ false) where
    pub catalog-refused : short_catalog l ≡ true → Determined s k g l (refused_at ShortCatalog 0) l
    unfolding outcome refuse_if
    catalog-refused e = (rw (ok, refuse_if, e, refuse_if), untouched s k g 0 l ShortCatalog 0 (omega arith))

    module _ (fit : short_catalog l ≡ false) where
      -- the book's rows, 12 or 13 refuse
      pub rows-refused : {r : Refusal} {i : ℕ} → asked k g (book_check s) ≡ refused_at r i → Determined s k g l (refused_at r i) l
      unfolding outcome refuse_if refused_if asked by_book by_asked
      rows-refused {r} {i} q = let w = pick (book_check s) refl q in (rw (ok, refuse_if, fit, refuse_if) w.0, untouched s k g 0 l r i w.1)
        where
          rows :
              (m : ℕ) (a b : Bool) → refused_if a ClaimFormat (refused_if b ClaimPiece (Ok m)) ≡ refused_at r i
              → (refused_at r i ≡ refuse_if a ClaimFormat (refuse_if b ClaimPiece (by_index s k g (by_runs s m)))) × Other r
          rows m true b e = let x : ClaimFormat ≡ r = same-reason e in let y : 0 ≡ i = same-place e in (sym (ap₂ refused_at x y), subst Other x (omega arith))
          rows m false true e = let x : ClaimPiece ≡ r = same-reason e in let y : 0 ≡ i = same-place e in (sym (ap₂ refused_at x y), subst Other x (omega arith))
          rows m false false e = let z : ◌≡◌ {A = ℕ} 0 1 = cc in absurd (omega arith)

          pick : (b : BookCheck) → book_check s ≡ b → asked k g b ≡ refused_at r i → (refused_at r i ≡ by_book s k g b) × Other r
          pick (Err x) e q = let a : x.refusal ≡ r = same-reason {r = x.refusal} {i = x.place} q in let b : x.place ≡ i = same-place {r = x.refusal} {i = x.place} q in (sym (ap₂ refused_at a b), subst Other a (rw e at (book-other s)))
          pick (Ok m) e q = rows m (not (leb 1 k && leb k 3)) (leb m g) q

      pub roomy : Roomy (length l.list) (length l.meets) (length l.apart) (length l.notpart)
      unfolding short_catalog
      roomy =
          let a = or-neither (ltb (length l.list) 2048) _ fit in
          let b = or-neither (ltb (length l.meets) 16384) _ a.1 in
          let c = or-neither (ltb (length l.apart) 16384) _ b.1 in
          record { list-long = ltb-false _ _ a.0; meets-long = ltb-false _ _ b.0; apart-long = ltb-false _ _ c.0; notpart-long = ltb-false _ _ c.1 }

      module _ {n : ℕ} (sound : book_check s ≡ Ok n) where
        -- the parts that are written
        abbrev parts : Lent
        parts = record { index = cut 0 l.index; list = l.list; meets = l.meets; apart = l.apart; notpart = l.notpart }

        abbrev back : Lent → Lent
        back x = record { index = put_back 0 l.index x.index; list = x.list; meets = x.meets; apart = x.apart; notpart = x.notpart }

        pub ready : Ready s n parts
        ready = record { sound = sound; exact = calls.exact s [] l.index ok sound (no-claims n); roomy = roomy }

        -- what is written of the index fits
        same-fit : (o : Outcome) → Fitted s o → Fitted s (index_outcome (by_index s k g o))
        unfolding by_index counts_of
        same-fit (Ok m) F = F
        same-fit (Err r) F = F

        runs_fit : Fitted s (index_outcome (by_index s k g (by_runs s n)))
        runs_fit = same-fit (by_runs s n) (fitted s [] l.index (by_runs s n) (runs-told s [] l.index n (record { lent = ok; sound = sound; fit = no-claims n })))

        left_is : (r : Listing) → Fitted s (index_outcome r) → back (left s k g parts r) ≡ left s k g l r
        unfolding left
        left_is (Err r) F = same (left_back s [] l.index (Err r) (long [] l.index ok) F) refl refl refl refl
        left_is (Ok c) F = same (left_back s [] l.index (accepted_with c.pieces c.nodes c.shadows) (long [] l.index ok) F) refl refl refl refl

        pub determined : (r : Listing) (x : Lent) → Asked n k g → Judged s k g n parts r x → Determined s k g l r (back x)
        unfolding outcome refuse_if by_book by_asked
        determined r x A J =
            let f : Fitted s (index_outcome r) = rw J.outcome-is runs_fit in
            (J.outcome-is ∙ rw (ok, refuse_if, fit, refuse_if, sound, by_book, by_asked, fit-kind k A.least A.most, refuse_if, lt-leb n g A.piece, refuse_if), ap back J.left_is ∙ left_is r f)
