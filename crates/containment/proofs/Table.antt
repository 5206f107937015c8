-- The table of leaders is right for the index that the lent parts hold, so the rows say what the index says. Assumes nothing.
use mathlib.Core.Path.{◌≡◌, refl, sym, ap, subst, ◌∙◌}
use mathlib.Core.Logic.{◌⊎◌, inl, inr}
use mathlib.Core.Bool.{Bool, true, false, true≢false}
use mathlib.Core.List.Memᴰ
use mathlib.Core.List.{List, [], ◌∷◌, ◌++◌, map}
use Prim.Native.Nat.{ℕ, zero, suc, ◌+◌, ◌*◌, ◌/◌, ◌-◌, ◌≤◌, ◌<◌}
use native.Mathlib.Omega.{arith}
use lib.ListN.{length, get_or, take, replicate, length-map, get_or-map, get_or-append}
use lib.Seq.{length-take-le}
use Rattle.lists.proofs.Bools.{or-either, right_or, not-true}
use Rattle.lists.proofs.Members.{at-member}
use Rattle.parentheses.specs.Bits.{bits}
use Rattle.parentheses.specs.Padded.{padded}
use Rattle.parentheses.specs.Rank.{rank}
use Rattle.parentheses.specs.Subtree.{after}
use Rattle.parentheses.proofs.Ranks.{rank-zero, rank_mono}
use Rattle.parentheses.proofs.Trees.{rank-cons, rank-front}
use Rattle.matrices.specs.Matrix.{bit_of}
use Rattle.matrices.specs.Led.{Shared}
use Rattle.index.specs.Pairs.{Within}
use Rattle.index.specs.Tree.{Visit, node, shadow, under, whole, visits}
use Rattle.index.specs.Parts as on
use Rattle.index.specs.Parts.{place, is_shadow, shadow_list}
use Rattle.index.specs.Index.{parentheses_of, visits_of}
use Rattle.containment.specs.Contents.{Stored, Contents, leads, Turnable, StandsFor}
use Rattle.containment.specs.Filling.{visited, Setting, Leads, FilledTo}
use Rattle.lists.proofs.Numbers.{◌∈◌}
use Rattle.index.proofs.Nodes.{once}
use Rattle.index.proofs.Below.{piece, under-mem}
use Rattle.index.proofs.Standing.{node_at, place-small, place-only}
use Rattle.containment.proofs.Contains.{shadow-at}
use Rattle.containment.proofs.Lent.{cut-bits, marks-bits, placed, inside-within}
use Rattle.index.proofs.Ranges.{parens-length, ones-parens}
use Rattle.containment.proofs.Pieces.{leads-node, leads-shadow}

-- a shadow has its number in the list of shadows
rank-shadow : (vs : List Visit) (Y : List Bool) (s h : ℕ) → get_or vs s (node 0) ≡ shadow h → rank (on.marks vs ++ Y) s < length (on.shadows vs)
unfolding on.shadows on.marks is_shadow
rank-shadow [] Y s h e = let z : true ≡ false = cc in absurd (true≢false z)
rank-shadow (node p ∷ vs) Y zero h e = let z : true ≡ false = cc in absurd (true≢false z)
rank-shadow (shadow p ∷ vs) Y zero h e = omega (arith, rank-zero (true ∷ (on.marks vs ++ Y)))
rank-shadow (node p ∷ vs) Y (suc s) h e = omega (arith, rank-cons false (on.marks vs ++ Y) s, rank-shadow vs Y s h e)
rank-shadow (shadow p ∷ vs) Y (suc s) h e = omega (arith, rank-cons true (on.marks vs ++ Y) s, rank-shadow vs Y s h e)

-- a visit is of a node or of a shadow
data Kind (v : Visit) : Type 0 where
  of_node : (k : ℕ) → v ≡ node k → Kind v
  of-shadow : (k : ℕ) → v ≡ shadow k → Kind v

kind : (v : Visit) → Kind v
kind (node k) = of_node k refl
kind (shadow k) = of-shadow k refl

-- the table of leaders is right, and rows that are filled by it and shared are those of the index
pub record Table (n : ℕ) (parens marks shadows places lead ends turned : List ℕ) : Type 0 where
  pub setting : Setting places ends turned
  pub count : n ≡ setting.n
  pub leads : Leads setting lead
  pub hold : (rows rows' : List ℕ) → FilledTo setting rows n → Shared n lead rows rows' → Contents n parens marks shadows places rows'

module _ (n nodes : ℕ) (parens marks shadows places lead : List ℕ) (S : Stored n nodes parens marks shadows places lead) where
  abbrev W : List Visit
  W = visits (whole S.groups S.edge)

  abbrev at : ℕ → Visit
  at s = get_or W s (node 0)

  many : nodes ≡ length W
  unfolding visits_of
  many = S.nodes-are

  -- the laws of `Lent` for these parts
  marks-are : bits marks ≡ on.marks W ++ replicate (8 * length marks - length (on.marks W)) false
  unfolding padded
  marks-are = marks-bits S.groups S.edge S.book parens marks shadows (length places) S.room S.marks-are

  -- the bytes that hold the parentheses
  long : length (on.parens (whole S.groups S.edge)) ≡ 2 * nodes
  long = omega (arith, parens-length (whole S.groups S.edge), many)

  pub cut-room : (nodes + 3) / 4 ≤ length parens
  unfolding parentheses_of
  cut-room = omega (arith, S.room.parens, long)

  cut-are : bits (take ((nodes + 3) / 4) parens)
      ≡ on.parens (whole S.groups S.edge) ++ replicate (8 * ((nodes + 3) / 4) - length (on.parens (whole S.groups S.edge))) false
  unfolding padded
  cut-are = cut-bits S.groups S.edge S.book parens marks shadows (length places) S.room S.parens-are ((nodes + 3) / 4) cut-room (omega (arith, long))

  -- as many open there as there are nodes
  pub all-open : nodes ≤ rank (bits (take ((nodes + 3) / 4) parens)) (8 * length (take ((nodes + 3) / 4) parens))
  all-open =
      let w = on.parens (whole S.groups S.edge) in
      rw (length-take-le ((nodes + 3) / 4) parens cut-room, cut-are)
      (omega (
        arith,
        many,
        ones-parens (whole S.groups S.edge),
        rank-front w (replicate (8 * ((nodes + 3) / 4) - length w) false) (length w) (omega arith),
        rank_mono (w ++ replicate (8 * ((nodes + 3) / 4) - length w) false) (length w) (8 * ((nodes + 3) / 4)) (omega (arith, long)),
      ))

  -- what is visited is a group
  visit-small : (s : ℕ) → s < length W → piece (at s) < S.groups
  unfolding whole visits
  visit-small s l = go (Memᴰ.cases_cons (at-member W (node 0) s l))
    where
      go : (at s ≡ node 0) ⊎ (at s ∈ visits (under S.groups S.edge S.groups 0) ++ []) → piece (at s) < S.groups
      go (inl e) = rw e (unfold piece in S.book.some)
      go (inr m) = pick (Memᴰ.append_cases (visits (under S.groups S.edge S.groups 0)) m)
        where
          pick : (at s ∈ visits (under S.groups S.edge S.groups 0)) ⊎ (at s ∈ []) → piece (at s) < S.groups
          pick (inl i) = let f = under-mem S.groups S.edge S.book S.groups 0 i in S.book.piece (piece (at s)) f.0 f.1
          pick (inr i) = absurd (Memᴰ.not-nil i)

  -- the marks
  mark-at : (s : ℕ) → s < length W → get_or (bits marks) s false ≡ is_shadow (at s)
  unfolding on.marks is_shadow
  mark-at s l = rw marks-are (get_or-append (map is_shadow W) _ false s (rw (length-map W is_shadow) l) ∙ get_or-map is_shadow W s (node 0))

  mark-node : (s k : ℕ) → s < length W → at s ≡ node k → get_or (bits marks) s false ≡ false
  unfolding is_shadow
  mark-node s k l e = mark-at s l ∙ ap is_shadow e

  mark-shadow : (s k : ℕ) → s < length W → at s ≡ shadow k → get_or (bits marks) s false ≡ true
  unfolding is_shadow
  mark-shadow s k l e = mark-at s l ∙ ap is_shadow e

  -- the place for which a shadow stands
  target_at : (s k : ℕ) → at s ≡ shadow k → get_or shadows (rank (bits marks) s) 0 ≡ place W k
  unfolding padded visits_of
  target_at s k e =
      ap (λ (l : List ℕ). get_or l (rank (bits marks) s) 0) S.shadows-are
      ∙ ap (λ (b : List Bool). get_or (shadow_list W ++ replicate (length shadows - length (shadow_list W)) 0) (rank b s) 0) marks-are
      ∙ (unfold shadow_list in shadow-at (place W) W (replicate (8 * length marks - length (on.marks W)) false) (replicate (length shadows - length (shadow_list W)) 0) s k e)

  pub places-turn : (wide : ℕ) → nodes ≤ wide → Turnable n places lead wide
  places-turn wide room =
      record {
        listed = S.listed;
        led = S.led;
        small = λ g l. omega (arith, placed S g l, place-small S.groups S.edge S.book (S.number g) (S.below g l), many);
        alike = λ g h a b e.
            let same : place W (S.number g) ≡ place W (S.number h) = sym (placed S g a) ∙ e ∙ placed S h b in
            let one = node_at S.groups S.edge S.book (S.number g) (S.below g a) in
            let two = node_at S.groups S.edge S.book (S.number h) (S.below h b) in
            S.leads g h a b cc;
      }

  pub marked-room : nodes ≤ 8 * length marks
  unfolding visits_of
  marked-room = omega (arith, S.room.marks, many)

  few-shadows : length (on.shadows W) ≤ length shadows
  unfolding visits_of
  few-shadows = S.room.shadows

  pub shadows-stand : StandsFor nodes (bits marks) shadows
  unfolding piece
  shadows-stand = record { listed = λ s l m. count s (rw many at l) m (kind (at s)); target = λ s l m. aim s (rw many at l) m (kind (at s)) }
    where
      count : (s : ℕ) → s < length W → get_or (bits marks) s false ≡ true → Kind (at s) → rank (bits marks) s < length shadows
      count s l m (of_node k e) = absurd (true≢false (sym m ∙ mark-node s k l e))
      count s l m (of-shadow k e) =
          omega (
            arith,
            few-shadows,
            rank-shadow W (replicate (8 * length marks - length (on.marks W)) false) s k e,
            ap (λ (b : List Bool). rank b s) marks-are,
          )

      aim : (s : ℕ) → s < length W → get_or (bits marks) s false ≡ true → Kind (at s)
          → (get_or shadows (rank (bits marks) s) 0 < nodes) × (get_or (bits marks) (get_or shadows (rank (bits marks) s) 0) false ≡ false)
      aim s l m (of_node k e) = absurd (true≢false (sym m ∙ mark-node s k l e))
      aim s l m (of-shadow k e) =
          let small : k < S.groups = subst (λ (v : Visit). piece v < S.groups) e (visit-small s l) in
          let in_tree = place-small S.groups S.edge S.book k small in
          (omega (arith, target_at s k e, many), rw (target_at s k e) (mark-node (place W k) k in_tree (node_at S.groups S.edge S.book k small)))

  -- what the walk reads
  module _
      (few : n ≤ 2048) (ends turned₁ turned₂ : List ℕ) (ends-room : nodes ≤ length ends) (room : nodes ≤ length turned₂)
      (ended : (q : ℕ) → q < nodes → get_or ends q 0 ≡ after (bits (take ((nodes + 3) / 4) parens)) q) (turned : (g : ℕ) → g < n → get_or turned₁ (get_or places g 0) 0 ≡ get_or lead g 0)
      (led : (s : ℕ) → s < nodes → get_or turned₂ s 0 ≡ get_or turned₁ (leads (bits marks) shadows s) 0) where
    -- the leader of a group stands at its place
    leader : ℕ → ℕ
    leader k = get_or turned₁ (place W k) 0

    lead_is : (g : ℕ) → g < n → get_or lead g 0 ≡ leader (S.number g)
    unfolding leader
    lead_is g l = sym (turned g l) ∙ ap (λ (q : ℕ). get_or turned₁ q 0) (placed S g l)

    leading : (k : ℕ) → k < S.groups → (leader k < n) × (S.number (leader k) ≡ k)
    leading k l =
        let o = S.onto k l in
        let e : leader k ≡ get_or lead o.0 0 = ap leader (sym o.2) ∙ sym (lead_is o.0 o.1) in
        (rw e (S.led.below o.0 o.1), ap S.number e ∙ S.same o.0 o.1 ∙ o.2)

    right : (s : ℕ) → s < length W → Kind (at s) → get_or turned₂ s 0 ≡ leader (visited (at s))
    unfolding piece visited leader
    right s l (of_node k e) =
        let small : k < S.groups = subst (λ (v : Visit). piece v < S.groups) e (visit-small s l) in
        led s (omega (arith, many)) ∙ ap (λ (v : ℕ). get_or turned₁ v 0) (leads-node (bits marks) shadows s (mark-node s k l e)
        ∙ sym (place-only k W s (once S.groups S.edge S.book k small) l e)) ∙ sym (ap (λ (v : Visit). leader (visited v)) e)
    right s l (of-shadow k e) =
        led s (omega (arith, many)) ∙ ap (λ (v : ℕ). get_or turned₁ v 0) (leads-shadow (bits marks) shadows s (mark-shadow s k l e)
        ∙ target_at s k e) ∙ sym (ap (λ (v : Visit). leader (visited v)) e)

    setting : Setting places ends turned₂
    setting =
        record {
          n = n;
          groups = S.groups;
          edge = S.edge;
          book = S.book;
          few = few;
          number = S.number;
          leader = leader;
          below = S.below;
          leads = leading;
          zeros = replicate (8 * ((nodes + 3) / 4) - length (on.parens (whole S.groups S.edge))) false;
          room = S.listed;
          places-are = placed S;
          ends-room = omega (arith, many);
          ends-are = λ q l. ended q (omega (arith, many)) ∙ ap (λ (b : List Bool). after b q) cut-are;
          turned-room = omega (arith, many);
          turned-are = λ q l. right q l (kind (at q));
        }

    -- the rows say what the index says
    module _ (rows rows' : List ℕ) (F : FilledTo setting rows n) (H : Shared n lead rows rows') where
      sound : (h g : ℕ) → h < n → g < 2048 → bit_of rows' h g ≡ true → (g < n) × Within S.edge (S.number g) (S.number h)
      unfolding setting
      sound h g a b t = go (or-either (bit_of rows h g) (bit_of rows (get_or lead h 0) g) (sym (H.row h g a b) ∙ t))
        where
          go : (bit_of rows h g ≡ true) ⊎ (bit_of rows (get_or lead h 0) g ≡ true) → (g < n) × Within S.edge (S.number g) (S.number h)
          go (inl i) = (F.from h a).sound g b i
          go (inr i) = let f = (F.from (get_or lead h 0) (S.led.below h a)).sound g b i in (f.0, rw (S.same h a) at f.1)

      complete : (h g : ℕ) → h < n → g < n → Within S.edge (S.number g) (S.number h) → bit_of rows' h g ≡ true
      unfolding setting
      complete h g a b w =
          H.row h g a (omega arith) ∙ right_or (bit_of rows h g) ((F.from (get_or lead h 0) (S.led.below h a)).filled (rw (lead_is h a) (F.own h a)) g b (rw (S.same h a) w))

      rows-hold : Contents n parens marks shadows places rows'
      unfolding setting
      rows-hold =
          record {
            inside = λ h g a b. let i = inside-within S h g a b in (λ t. i.1 (sound h g a (omega arith) t).1, λ t. complete h g a b (i.0 t));
            no-column = λ h g a b d. not-true (bit_of rows' h g) (λ t. let l = (sound h g a d t).0 in omega arith);
          }

    pub table : Table n parens marks shadows places lead ends turned₂
    unfolding setting
    table = record { setting = setting; count = refl; leads = (S.led.room, lead_is); hold = rows-hold }
