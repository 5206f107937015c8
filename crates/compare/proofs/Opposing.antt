-- Books that can be laid together and mark the same pieces never oppose each other; with other marks they can. Assumes nothing.
use Rattle.std.specs.Prelude.{Ok}
use Prim.Native.Nat.{ℕ, ◌*◌, ◌<◌}
use mathlib.Core.Path.{◌≡◌, refl, sym, subst, ◌∙◌, fun_ext}
use mathlib.Core.Bool.{Bool, true, false, ◌||◌}
use mathlib.Core.List.{List, [], ◌++◌}
use native.Mathlib.Omega.{arith}
use lib.ListN.{length}
use Rattle.lists.specs.Tab.{tab}
use Rattle.lists.specs.Any.{any, any_below}
use Rattle.lists.specs.First.{first}
use Rattle.rules.specs.Fact.{Fact, fact_of, opposite, Within}
use Rattle.rules.specs.Derives.{Derives}
use Rattle.rules.specs.Follows.{storing, turned, parting, table, entry, step, rounds, containment, apart, meets, notpart, derived, follows, clash}
use Rattle.rules.specs.Verdict.{judge, verdict}
use Rattle.rules.specs.Entries.{facts_of, shortest_clash}
use Rattle.rules.proofs.Facts.{opposite-within, opposite-twice}
use Rattle.rules.proofs.More.{Among, weaken}
use Rattle.records.specs.Record.{record_at, records}
use Rattle.records.specs.Refusal.{scan}
use Rattle.records.specs.Pieces.{pieces_up_to, stated, largest}
use Rattle.records.specs.Rows.{order_row, admitted, same_bytes}
use Rattle.records.specs.Check.{form_finding, record_finding, check_by, claim_at, claims_check}
use Rattle.records.specs.Facts.{entry_of, entries, facts}
use Rattle.records.specs.Kept.{bytes_at, bytes_where, kept_up_to, picked}
use Rattle.records.specs.Marked.{marks, marked}
use Rattle.records.proofs.Examples.{bytes}
use Rattle.records.proofs.Keeps.{picked-among}
use Rattle.records.proofs.Accepted.{accepted}
use Rattle.records.proofs.Orders.{Found, found_before, found-behind, facts-found}
use Rattle.records.proofs.Marks.{marked_append}
use Rattle.compare.specs.Joint.{pieces, same, has, joint_run, consistent}
use Rattle.compare.specs.Agreement.{agreement, threes}
use Rattle.compare.proofs.JointJoining.{joint-pieces}
use Rattle.compare.proofs.Threes.{threes-at}
use Rattle.outcomes.specs.Call as calls
use Rattle.records.specs.Claimed.{claimed, picked_facts}
use Rattle.outcomes.specs.Call.{by_runs}
use Rattle.outcomes.specs.Fresh.{fresh_call}
use Rattle.outcomes.proofs.Counting.{claim-within}
use Rattle.compare.specs.Answers.{answer_of, bytes_of}
use Rattle.compare.specs.Call.{by_book, by_claims, by_rows, outcome}
use Rattle.compare.specs.Opposed.{NeverOpposed, MarksOppose}
use Rattle.compare.proofs.Joining.{joint-consistent}
use Rattle.compare.proofs.Rows.{first_counted}
use Rattle.compare.proofs.Demands.{Passed, Told, told, first-right, second-right}

-- ---- answers that are opposed

-- each is 1, 2 or 3
data Answer (x : ℕ) : Type 0 where
  follows_is : x ≡ 1 → Answer x
  denied-is : x ≡ 2 → Answer x
  open_is : x ≡ 3 → Answer x

answer : (s : List ℕ) (n : ℕ) (cs : List ℕ) (i : ℕ) → Answer (answer_of s n cs i)
unfolding answer_of verdict judge
answer s n cs i = pick (follows (marked s) n (picked_facts s cs i) (claimed cs i)) (follows (marked s) n (picked_facts s cs i) (opposite (claimed cs i)))
  where
    pick : (a b : Bool) → Answer (judge a b)
    pick true b = follows_is refl
    pick false true = denied-is refl
    pick false false = open_is refl

-- of which 1 with 2 and 2 with 1 alone are opposed
data Opposed (x y : ℕ) : Type 0 where
  for-against : x ≡ 1 → y ≡ 2 → Opposed x y
  against-for : x ≡ 2 → y ≡ 1 → Opposed x y

opposed : (x y : ℕ) → Answer x → Answer y → agreement x y ≡ 3 → Opposed x y
unfolding agreement
opposed x y (follows_is e) (follows_is f) q = absurd (let z = rw (e, f) at q in omega arith)
opposed x y (follows_is e) (denied-is f) q = for-against e f
opposed x y (follows_is e) (open_is f) q = absurd (let z = rw (e, f) at q in omega arith)
opposed x y (denied-is e) (follows_is f) q = against-for e f
opposed x y (denied-is e) (denied-is f) q = absurd (let z = rw (e, f) at q in omega arith)
opposed x y (denied-is e) (open_is f) q = absurd (let z = rw (e, f) at q in omega arith)
opposed x y (open_is e) (follows_is f) q = absurd (let z = rw (e, f) at q in omega arith)
opposed x y (open_is e) (denied-is f) q = absurd (let z = rw (e, f) at q in omega arith)
opposed x y (open_is e) (open_is f) q = absurd (let z = rw (e, f) at q in omega arith)

-- ---- a claim and its opposite, both derived from the records of both books

module _ (s t cs : List ℕ) (P : Passed s t cs) (marks-same : (g : ℕ) → marked s g ≡ marked t g) (can : consistent s t ≡ true) (i : ℕ) (h : i < records cs) where
  whole : length s ≡ 6 * records s
  whole = (accepted s P.a P.first).whole

  first_marks : marked s ≡ marked (s ++ t)
  first_marks = sym (fun_ext (λ g. marked_append s t whole g ∙ twice (marked s g) (marked t g) (marks-same g)))
    where
      twice : (a b : Bool) → a ≡ b → (a || b) ≡ a
      twice true b e = refl
      twice false b e = sym e

  second-marks : marked t ≡ marked (s ++ t)
  second-marks = sym (fun_ext marks-same) ∙ first_marks

  both : (f : Fact) → Within (pieces s t) f → Derives (marked s) (pieces s t) (picked_facts s cs i) f → Derives (marked t) (pieces s t) (picked_facts t cs i) (opposite f) → ⊥
  both f c x y =
      joint-consistent s t P.a P.b P.first P.second can (
        f,
        c,
        weaken (omega arith) (through s (found_before s t whole)) (subst (λ (v : ℕ → Bool). Derives v (pieces s t) (picked_facts s cs i) f) first_marks x),
        weaken (omega arith) (through t (found-behind s t whole)) (subst (λ (v : ℕ → Bool). Derives v (pieces s t) (picked_facts t cs i) (opposite f)) second-marks y),
      )
    where
      through : (r : List ℕ) → Found r (s ++ t) → Among (picked_facts r cs i) (facts (s ++ t))
      through r found f m = facts-found r (s ++ t) found f (picked-among r (record_at cs i) f m)

  within : Within (pieces s t) (claimed cs i)
  within = subst (λ (n : ℕ). Within n (claimed cs i)) (joint-pieces s t P.a P.b P.first P.second) (claim-within s (first_counted s t cs [] P.first P.second P.fit) cs P.fit i h)

  never : Opposed (answer_of s (pieces s t) cs i) (answer_of t (pieces s t) cs i) → ⊥
  never (for-against e f) = both (claimed cs i) within ((first-right s t cs P i h).derived.follows.0 e) ((second-right s t cs P i h).derived.denied.0 f)
  never (against-for e f) =
      both (opposite (claimed cs i)) (opposite-within (pieces s t) (claimed cs i) within) ((first-right s t cs P i h).derived.denied.0 e)
      (rw opposite-twice ((second-right s t cs P i h).derived.follows.0 f))

pub never-opposed : NeverOpposed
unfolding bytes_of
never-opposed s t cs room e same i h q =
    let T : Told s t cs (Ok true) = subst (Told s t cs) e (told s t cs room) in
    let x = threes-at (answer_of s (pieces s t) cs) (answer_of t (pieces s t) cs) (records cs) i 2 h (omega arith) in
    never s t cs T.0 same (sym T.1) i h (opposed _ _ (answer s (pieces s t) cs i) (answer t (pieces s t) cs i) (sym x ∙ q))

-- ---- a mark of piece 1, and PART 1 0: MEETS 1 1 is denied in the one book and follows in the other

abbrev marking : List ℕ
marking = bytes 6 0 1 0

abbrev stating : List ℕ
stating = bytes 1 0 1 0

abbrev meeting : List ℕ
meeting = bytes 3 0 1 1

pub marks-oppose : MarksOppose
unfolding outcome by_rows by_book by_claims fresh_call calls.by_book calls.by_claims by_runs check_by scan record_finding form_finding admitted order_row record_at stated largest pieces_up_to same_bytes any_below claims_check claim_at entries entry_of fact_of facts_of shortest_clash first clash any tab table entry storing turned parting marks marked step rounds containment apart meets notpart derived follows verdict judge consistent joint_run has same kept_up_to bytes_where bytes_at bytes_of threes answer_of agreement claimed picked
marks-oppose = (marking, stating, meeting, refl, refl)
