-- A determined call keeps demands 2 and 3, names the place of a contradiction, and fits. Assumes nothing.
use Rattle.std.specs.Prelude.{Err, Ok}
use Rattle.outcomes.specs.Accepted.{Outcome}
use Prim.Native.Nat.{ℕ, ◌-◌, ◌<◌}
use mathlib.Core.Path.{◌≡◌, subst, ◌∙◌}
use mathlib.Core.Bool.{true, false}
use mathlib.Core.List.{List}
use native.Mathlib.Omega.{arith}
use lib.Dec.{leb}
use lib.ListN.{length, get_or, length-map, get_or-append}
use Rattle.lists.specs.Front.{front}
use Rattle.lists.proofs.Tabs.{tab-at, tab-length}
use Rattle.rules.specs.Fact.{Fact, Within}
use Rattle.rules.specs.Derives.{Contradictory}
use Rattle.rules.specs.Model.{Model, keeps_all}
use Rattle.rules.specs.Follows.{clash}
use Rattle.rules.specs.Verdict.{verdict}
use Rattle.rules.specs.Entries.{shortest_clash}
use Rattle.records.specs.Record.{records}
use Rattle.records.specs.Facts.{entries, facts}
use Rattle.records.specs.Pieces.{piece_count}
use Rattle.records.specs.Kept.{sheets}
use Rattle.records.specs.Marked.{marked}
use Rattle.records.proofs.Rows.{refused-positive}
use Rattle.records.proofs.Keeps.{sheets-among}
use Rattle.records.proofs.Accepted.{accepted}
use Rattle.groups.specs.Groups.{number}
use Rattle.groups.specs.Index.{book_parens, book_visits, book_places}
use Rattle.index.specs.Parts as on
use Rattle.records.specs.Contradiction.{Contradiction}
use Rattle.contradiction.specs.Settleable.{Settleable}
use Rattle.contradiction.proofs.SettlingLaws.{settled-room, free-consistent, free-model, clashed-first}
use Rattle.outcomes.specs.Lent.{Lent}
use Rattle.outcomes.specs.Outcome as of
use Rattle.records.specs.Claimed.{claimed, picked_facts, answers_to}
use Rattle.outcomes.specs.Call.{pairs_of, outcome, Passed, indexed, left, Determined}
use Rattle.outcomes.specs.Demands.{Entailed, Demand2, Demand3, Contradicted}
use Rattle.outcomes.specs.Agree.{Agree, SheetsAgree}
use Rattle.outcomes.specs.Fitting.{Fits, Fitting}
use Rattle.outcomes.proofs.Outcomes.{Told, told, passed-outcome}
use Rattle.outcomes.proofs.Buffers.{Fitted}
use Rattle.claims.proofs.Fewer.{fewer-follows, fewer-denied}
use Rattle.claims.proofs.Counts.{own-count, counted-settleable, counted-unmarked, counted-free, counted-clashed}
use Rattle.outcomes.proofs.Counting.{runs-refused, claim-within, derived, entailed}

module _ (s cs : List ℕ) (l : Lent) (n : ℕ) (p : Passed s cs l n) where
  settles : Settleable n s 2560 1280 8192 2048
  settles = counted-settleable s (own-count p.sound)

  unmarked : marked s 0 ≡ false
  unmarked = counted-unmarked s (own-count p.sound)

  counted : n ≡ piece_count s
  counted = (accepted s n p.sound).count

  pub claim-in : (i : ℕ) → i < records cs → Within n (claimed cs i)
  claim-in i h = claim-within s (own-count p.sound) cs p.fit i h

  free : leb (shortest_clash (marked s) n (entries s)) (records s) ≡ false → false ≡ clash (marked s) n (facts s)
  free e = counted-free s (own-count p.sound) e

  -- the answer byte of claim i
  pub answer_at : (i : ℕ) → i < records cs → get_or (indexed s cs n l).answers i 0 ≡ verdict (marked s) n (picked_facts s cs i) (claimed cs i)
  unfolding indexed front answers_to
  answer_at i h =
      get_or-append (answers_to s n cs) _ 0 i (omega (arith, tab-length (λ j. verdict (marked s) n (picked_facts s cs j) (claimed cs j)) 0 (records cs)))
      ∙ tab-at (λ j. verdict (marked s) n (picked_facts s cs j) (claimed cs j)) (records cs) i 0 h

  agree : (Contradictory (marked s) n (facts s) → ⊥) → (f : Fact) → Within n f → Agree n s f
  agree ok f c =
      let B = settles.bounded in
      record {
        follows = fewer-follows (marked s) n (facts (sheets s)) (facts s) B.within B.some unmarked ok (sheets-among s) f c;
        denied = fewer-denied (marked s) n (facts (sheets s)) (facts s) B.within B.some unmarked ok (sheets-among s) f c;
      }

  -- the index fits
  fits : (nodes : ℕ) → nodes ≡ length (book_visits n (pairs_of s)) → Fits n s nodes
  unfolding book_parens book_visits book_places on.shadow_list
  fits nodes e =
      let R = settled-room settles in
      record {
        nodes-fit = omega (arith, R.marks);
        parens-fit = R.parens;
        shadows-fit = rw (length-map (on.shadows (book_visits n (pairs_of s))) (on.place (book_visits n (pairs_of s)))) R.shadows;
        places-fit = rw (tab-length (λ g. on.place (book_visits n (pairs_of s)) (number n (pairs_of s) g)) 0 n) settles.bounded.fits;
      }

module _ (s cs : List ℕ) (l : Lent) where
  pub fitted : (r : Outcome) → Told s cs l r → Fitted s r
  fitted (Ok n) t = fits s cs l n.pieces t.0 n.nodes t.2
  fitted (Err r) t = tt

  -- ---- by the outcome

  two : (r : Outcome) → Told s cs l r → Demand2 s cs (left s cs l r).answers (of.number r)
  unfolding left
  two (Ok n) t q i h =
      let ok = free-consistent s (settles s cs l n.pieces t.0).bounded (marked s) (unmarked s cs l n.pieces t.0) (free s cs l n.pieces t.0 t.1) in
      rw (← counted s cs l n.pieces t.0, answer_at s cs l n.pieces t.0 i h) (derived s (own-count t.0.sound) cs t.0.fit i h ok)
  two (Err r) t q j h = absurd (refused-positive r.refusal q)

  three : (r : Outcome) → Told s cs l r → of.number r ≡ 0 → (i : ℕ) → i < records cs → Entailed (marked s) (piece_count s) (picked_facts s cs i) (claimed cs i) (get_or (left s cs l r).answers i 0)
  unfolding left
  three (Ok n) t q i h =
      let ok = free-consistent s (settles s cs l n.pieces t.0).bounded (marked s) (unmarked s cs l n.pieces t.0) (free s cs l n.pieces t.0 t.1) in
      rw (← counted s cs l n.pieces t.0, answer_at s cs l n.pieces t.0 i h) (entailed s (own-count t.0.sound) cs t.0.fit i h ok)
  three (Err r) t q j h = absurd (refused-positive r.refusal q)

  modelled : (r : Outcome) → Told s cs l r → of.number r ≡ 0 → (M : Model (marked s) (piece_count s)) × keeps_all M (facts s)
  modelled (Ok n) t q =
      subst (λ (m : ℕ). (M : Model (marked s) m) × keeps_all M (facts s)) (counted s cs l n.pieces t.0) (free-model s (settles s cs l n.pieces t.0).bounded (marked s) (unmarked s cs l n.pieces t.0) (free s cs l n.pieces t.0 t.1))
  modelled (Err r) t q = absurd (refused-positive r.refusal q)

  placed : (r : Outcome) → Told s cs l r → Contradicted s (of.number r) (of.place r)
  placed (Ok n) t q = absurd (omega arith)
  placed (Err r) t q = pick (t q)
    where
      pick :
          (n : ℕ) × Passed s cs l n × (leb (shortest_clash (marked s) n (entries s)) (records s) ≡ true) × (r.place ≡ shortest_clash (marked s) n (entries s) - 1)
          → Contradiction (marked s) (piece_count s) s r.place
      pick (n, p, e, k) = rw (← counted s cs l n p, k) (clashed-first s (settles s cs l n p).bounded (marked s) (unmarked s cs l n p) (counted-clashed s (own-count p.sound) e))

  sized : (r : Outcome) → Told s cs l r → Fitting s (of.number r) (of.node_count r)
  sized (Ok n) t q = rw (← counted s cs l n.pieces t.0) (fits s cs l n.pieces t.0 n.nodes t.2)
  sized (Err r) t q = absurd (refused-positive r.refusal q)

  -- all of it follows from the equations for the outcome and the answers
  module _ {r : Outcome} {l' : Lent} (d : Determined s cs l r l') where
    telling : Told s cs l r
    telling = rw d.0 (told s cs l)

    pub kept2 : Demand2 s cs l'.answers (of.number r)
    kept2 = rw d.1 (two r telling)

    pub kept3 : Demand3 s cs l l'.answers (of.number r)
    kept3 =
        record {
          answered = rw d.1 (three r telling);
          refused = λ n p. rw (d.0 ∙ passed-outcome s cs l n p) (runs-refused s (own-count p.sound));
          modelled = modelled r telling;
        }

    pub kept-place : Contradicted s (of.number r) (of.place r)
    kept-place = placed r telling

    pub kept-size : Fitting s (of.number r) (of.node_count r)
    kept-size = sized r telling

-- an answer FOLLOWS or DENIED from the sheets is the same from all facts
pub sheets-agree : SheetsAgree
sheets-agree s cs l q f c = pick (outcome s cs l) (told s cs l) q
  where
    pick : (r : Outcome) → Told s cs l r → of.number r ≡ 0 → Agree (piece_count s) s f
    pick (Ok n) t z =
        let e = counted s cs l n.pieces t.0 in
        rw (← e) (agree s cs l n.pieces t.0 (free-consistent s (settles s cs l n.pieces t.0).bounded (marked s) (unmarked s cs l n.pieces t.0) (free s cs l n.pieces t.0 t.1)) f (rw (← e) at c))
    pick (Err r) t z = absurd (refused-positive r.refusal z)
