-- The index of a list of facts as it is written and as it is read: D, and the steps between leaders. Assumes nothing.
use Prim.Native.Nat.{ℕ, ◌<◌, ◌≤◌}
use mathlib.Core.Path.{◌≡◌, sym, ap, ◌∙◌}
use mathlib.Core.Logic.{◌↔◌}
use mathlib.Core.Bool.{true}
use mathlib.Core.List.{List}
use native.Mathlib.Decide.{dec_lt}
use native.Mathlib.Omega.{arith}
use lib.ListN.{length, get_or}
use Rattle.lists.specs.Tab.{tab}
use Rattle.lists.proofs.Bools.{same_truth}
use Rattle.lists.proofs.Tabs.{tab-at, tab-length, tab-same}
use Rattle.parentheses.specs.Bits.{bits}
use Rattle.parentheses.specs.Padded.{padded}
use Rattle.parentheses.proofs.Paddeds.{padded-length}
use Rattle.matrices.specs.Matrix.{bit_of}
use Rattle.matrices.specs.Led.{Led}
use Rattle.rules.specs.Fact.{Fact}
use Rattle.rules.specs.Follows.{storing}
use Rattle.index.specs.Pairs.{joined}
use Rattle.index.specs.Parts as on
use Rattle.index.specs.Index.{visits_of, Indexed}
use Rattle.index.specs.Matrix.{pair_of}
use Rattle.index.proofs.Packing.{padded-at}
use Rattle.groups.specs.Groups.{lies, lowest, number, groups}
use Rattle.groups.specs.Index.{edges, book_parens, book_visits, book_places, BookIndex}
use Rattle.groups.specs.Grouped.{Grouped}
use Rattle.groups.proofs.Lying.{Pairs}
use Rattle.groups.proofs.Grouping.{lowest-below, lowest-at-most, lowest-own, lowest-up, lowest-down}
use Rattle.groups.proofs.Numbered.{number-below, number-onto, number_same}
use Rattle.groups.proofs.Quotient.{groups-iff}
use Rattle.containment.specs.Inside.{Inside}
use Rattle.containment.specs.Contents.{Stored, Contents}
use Rattle.containment.proofs.Lent.{inside-within}
use Rattle.closure.specs.Bounded.{Bounded}
use Rattle.contradiction.specs.Roomy.{Roomy}
use Rattle.closure.specs.Closed.{Holds, part_bit}
use Rattle.closure.specs.Stored.{stepping, step_bit}
use Rattle.closure.specs.Stepped.{Stepped}
use Rattle.closure.proofs.Leading.{stepped}
use Rattle.records.specs.PartIn.{part_in}
use Rattle.contradiction.specs.Numbered.{Numbered}
use Rattle.contradiction.proofs.GroupIndex as of

module _ (n : ℕ) (fs : List Fact) (B : Bounded n fs) where
  -- ---- the index of the groups, and each piece at the place of its group

  module _ (list : List ℕ) (count : ℕ) (N : Numbered n fs list count) (m : List ℕ) (M : Holds n m (λ x y. storing fs 1 (stepping list x y)))
      (parens marks shadows own places : List ℕ) (nodes shadowed : ℕ) (I : Indexed count (joined count (pair_of count m)) parens marks shadows own nodes shadowed)
      (long : length own ≡ 2048) (room : ℕ) (fits : n ≤ room) (placed : places ≡ padded 0 room (tab (λ g. get_or own (get_or list g 0) 0) 0 n)) where
    index : Indexed (groups n (part_in fs)) (edges n (part_in fs)) parens marks shadows own nodes shadowed
    index = rw (of.edges-same n fs B list count N m M, N.counted) at I

    place_of : (g : ℕ) → g < n → get_or own (get_or list g 0) 0 ≡ on.place (book_visits n (part_in fs)) (number n (part_in fs) g)
    unfolding book_visits on.place_list
    place_of g l =
        let k = number-below n (part_in fs) (of.pairs-within n fs B) g l in
        let few = of.few-groups n fs B in
        ap (λ (q : ℕ). get_or own q 0) (N.numbers g l) ∙ ap (λ (xs : List ℕ). get_or xs (number n (part_in fs) g) 0) index.places-are
        ∙ padded-at 0 (length own) (on.place_list (groups n (part_in fs)) (visits_of (groups n (part_in fs)) (edges n (part_in fs)))) (number n (part_in fs) g) (omega (arith, B.fits))
        ∙ tab-at (on.place (visits_of (groups n (part_in fs)) (edges n (part_in fs)))) (groups n (part_in fs)) (number n (part_in fs) g) 0 k

    same-list : tab (λ g. get_or own (get_or list g 0) 0) 0 n ≡ book_places n (part_in fs)
    unfolding book_places
    same-list = tab-same (λ g. get_or own (get_or list g 0) 0) (λ g. on.place (book_visits n (part_in fs)) (number n (part_in fs) g)) 0 n (λ g _ l. place_of g (omega arith))

    long-places : length places ≡ room
    long-places = ap length placed ∙ padded-length 0 room (tab (λ g. get_or own (get_or list g 0) 0) 0 n) (omega (arith, tab-length (λ g. get_or own (get_or list g 0) 0) 0 n))

    pub index-written : BookIndex n (part_in fs) parens marks shadows places nodes shadowed
    unfolding book_parens book_visits
    index-written =
        record {
          parens-are = index.parens-are;
          marks-are = index.marks-are;
          shadows-are = index.shadows-are;
          places-are = placed ∙ ap (λ (xs : List ℕ). padded 0 room xs) same-list ∙ ap (λ (k : ℕ). padded 0 k (book_places n (part_in fs))) (sym long-places);
          nodes-are = index.nodes-are;
          shadowed-are = index.shadowed-are;
        }

  -- ---- the index as the reader of rows asks for it

  module _ (list lead order : List ℕ) (count : ℕ) (G : Grouped n (part_in fs) list lead order count) (listed : length lead ≡ 2048) where
    pub led : Led n lead
    led =
        record {
          room = omega (arith, B.fits);
          below = λ g l. rw (G.leads g l) (lowest-below n (part_in fs) (of.pairs-within n fs B) g l);
          own = λ g l.
              let k = lowest-below n (part_in fs) (of.pairs-within n fs B) g l in
              rw (G.leads g l, G.leads (lowest n (part_in fs) g) k) (lowest-own n (part_in fs) (of.pairs-within n fs B) g l);
        }

    -- and the steps between leaders are what rows are joined along
    pub steps-hold : (e : List ℕ) → Holds n e (step_bit n fs lead) → Stepped n fs e order lead
    steps-hold e E = stepped n fs B e lead E led whole raised lowered order G.at G.room G.row G.placed before
      where
        P : Pairs n (part_in fs)
        P = of.pairs-within n fs B

        whole : get_or lead 0 0 ≡ 0
        whole = let z = lowest-at-most n (part_in fs) P 0 B.some in G.leads 0 B.some ∙ omega arith

        raised : (g : ℕ) → g < n → part_bit n fs (get_or lead g 0) g ≡ true
        raised g l = rw (G.leads g l) (of.part_lies n fs g (lowest n (part_in fs) g) l (lowest-below n (part_in fs) P g l) ∙ lowest-up n (part_in fs) P g l)

        lowered : (g : ℕ) → g < n → part_bit n fs g (get_or lead g 0) ≡ true
        lowered g l = rw (G.leads g l) (of.part_lies n fs (lowest n (part_in fs) g) g (lowest-below n (part_in fs) P g l) l ∙ lowest-down n (part_in fs) P g l)

        before : (h p : ℕ) → h < n → p < n → get_or lead h 0 ≡ h → get_or lead p 0 ≡ p → (p ≡ h → ⊥) → part_bit n fs h p ≡ true → G.at p < G.at h
        before h p l k a b ne q = G.earlier h p l k (sym (G.leads h l) ∙ a) (sym (G.leads p k) ∙ b) ne (sym (of.part_lies n fs p h k l) ∙ q)

    module _ (parens marks shadows places : List ℕ) (nodes shadowed : ℕ) (R : Roomy n (length fs) (length parens) (length marks) (length shadows) (length places))
        (I : BookIndex n (part_in fs) parens marks shadows places nodes shadowed) where
      pub few-nodes : nodes ≤ 10240
      few-nodes = omega (arith, I.nodes-are, of.nodes n fs B, R.few, B.fits)

      pub place_at : (g : ℕ) → g < n → get_or places g 0 ≡ on.place (book_visits n (part_in fs)) (number n (part_in fs) g)
      unfolding book_places
      place_at g l =
          ap (λ (xs : List ℕ). get_or xs g 0) I.places-are ∙ padded-at 0 (length places) (book_places n (part_in fs)) g (omega (arith, R.places))
          ∙ tab-at (λ k. on.place (book_visits n (part_in fs)) (number n (part_in fs) k)) n g 0 l

      unfoldable pub index-stored : Stored n nodes parens marks shadows places lead
      unfolding book_parens book_visits
      index-stored =
          let P = of.pairs-within n fs B in
          record {
            groups = groups n (part_in fs);
            edge = edges n (part_in fs);
            number = number n (part_in fs);
            book = of.book n fs B;
            below = number-below n (part_in fs) P;
            onto = λ k l. let o = number-onto n (part_in fs) P k l in (o.0, o.1, o.3);
            room = of.room n fs B (length parens) (length marks) (length shadows) (length places) R;
            listed = R.places;
            parens-are = I.parens-are;
            marks-are = I.marks-are;
            shadows-are = I.shadows-are;
            nodes-are = I.nodes-are;
            places-are = place_at;
            led = led;
            leads = λ g h l k e. rw (G.leads g l, G.leads h k) ((number_same n (part_in fs) P g h l k).0 e);
            same = λ g l.
                let k = lowest-below n (part_in fs) P g l in
                rw (G.leads g l) ((number_same n (part_in fs) P (lowest n (part_in fs) g) g k l).1 (lowest-own n (part_in fs) P g l));
          }

      -- what is inside each piece is D
      inside-lies : (h g : ℕ) → h < n → g < n → Inside (bits parens) (bits marks) shadows (get_or places h 0) (get_or places g 0) ↔ (lies n (part_in fs) g h ≡ true)
      unfolding index-stored
      inside-lies h g k l =
          let w = inside-within index-stored h g k l in
          let s = groups-iff n (part_in fs) (of.pairs-within n fs B) g h l k in
          (λ i. s.0 (w.0 i), λ e. w.1 (s.1 e))

      pub parts-hold : (d : List ℕ) → length d ≡ 65536 → Contents n parens marks shadows places d → Holds n d (part_bit n fs)
      parts-hold d z C = record { sized = z; bits = λ h g k lg. one h g k lg (dec_lt g n) }
        where
          one : (h g : ℕ) → h < n → g < 2048 → Dec (g < n) → bit_of d h g ≡ part_bit n fs h g
          one h g k lg (yes l) =
              let w = inside-lies h g k l in
              let c = C.inside h g k l in
              same_truth _ _ (λ e. w.0 (c.0 e)) (λ e. c.1 (w.1 e)) ∙ sym (of.part_lies n fs g h l k)
          one h g k lg (no l) = C.no-column h g k (omega arith) lg ∙ sym (of.part-beyond n fs h g (omega arith))
