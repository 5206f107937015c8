-- The four parts while they are being written, event by event. P and U are the parentheses and the visits that are to be written. Assumes nothing.
use mathlib.Core.Path.{◌≡◌, refl, sym, ap, ◌∙◌}
use mathlib.Core.Logic.{◌≢◌}
use mathlib.Core.Bool.{Bool, true, false, true≢false}
use mathlib.Core.List.{List, [], ◌∷◌, ◌++◌, append-nil}
use Prim.Native.Nat.{ℕ, zero, suc, ◌+◌, ◌*◌, ◌/◌, ◌%◌, ◌^◌, ◌≤◌, ◌<◌}
use native.Mathlib.Omega.{arith}
use native.Mathlib.Numerals.{add-one}
use native.Mathlib.Decide.{ℕ_discrete, dec_lt}
use native.Mathlib.Nat.{zero-div}
use lib.ListN.{length, get_or, take, drop, set, length-append, length-set, length-map, get_or-eq_default, take-append-drop, length-drop}
use lib.Seq.{take_all, get_or-set_same, get_or-set_other, get_or-append_seam, length-take-le}
use Rattle.parentheses.specs.Bits.{bits, bit_of, digit}
use Rattle.parentheses.proofs.PackedLaws.{bits-length, bits_at}
use Rattle.index.specs.Tree.{Visit, node, shadow}
use Rattle.index.specs.Parts.{is_shadow, marks, shadows}
use Rattle.index.proofs.Events.{Event, enter, leave, event_bits, event_visits}
use Rattle.index.proofs.Nodes.{times}
use Rattle.index.proofs.Standing.{place-only}

-- ## Lists

record Open {A : Type 0} (d : A) (xs : List A) (k : ℕ) (y : A) (ys : List A) : Type 0 where
  inside : k < length xs
  here-is : get_or xs k d ≡ y
  taken : take (suc k) xs ≡ take k xs ++ (y ∷ [])
  left : drop (suc k) xs ≡ ys

-- the next element of a list of which k have been taken
open_at : {A : Type 0} (d : A) (xs : List A) (k : ℕ) {y : A} {ys : List A} → drop k xs ≡ y ∷ ys → Open d xs k y ys
open_at d [] zero e = let z : true ≡ false = cc in absurd (true≢false z)
open_at d [] (suc k) e = let z : true ≡ false = cc in absurd (true≢false z)
open_at {A} d (x ∷ xs) zero {y} {ys} e =
    let a : x ≡ y = cc in
    let b : xs ≡ ys = cc in
    record { inside = omega arith; here-is = a; taken = ap (λ (w : A). w ∷ []) a; left = b }
open_at {A} d (x ∷ xs) (suc k) e =
    let r = open_at d xs k e in
    record { inside = omega (arith, r.inside); here-is = r.here-is; taken = ap (λ (l : List A). x ∷ l) r.taken; left = r.left }

-- one element more
snoc-other : {A : Type 0} (d : A) (xs : List A) (x : A) (j : ℕ) → (j ≡ length xs → ⊥) → get_or (xs ++ (x ∷ [])) j d ≡ get_or xs j d
snoc-other d [] x zero n = absurd (n refl)
snoc-other d [] x (suc j) n = refl
snoc-other d (y ∷ xs) x zero n = refl
snoc-other d (y ∷ xs) x (suc j) n = snoc-other d xs x j (λ e. n (ap suc e))

-- the default more
snoc-default : {A : Type 0} (d : A) (xs : List A) (j : ℕ) → get_or (xs ++ (d ∷ [])) j d ≡ get_or xs j d
snoc-default d [] zero = refl
snoc-default d [] (suc j) = refl
snoc-default d (y ∷ xs) zero = refl
snoc-default d (y ∷ xs) (suc j) = snoc-default d xs j

-- ## Bits in bytes

-- the bytes hold the bits, and zeros
pub record Holds (buf : List ℕ) (bs : List Bool) : Type 0 where
  pub each : (k : ℕ) → get_or (bits buf) k false ≡ get_or bs k false

-- buf' is buf with bit k set
pub record Put (buf buf' : List ℕ) (k : ℕ) : Type 0 where
  pub same : length buf' ≡ length buf
  pub bit : bits buf' ≡ set (bits buf) k true

-- a 0 more changes nothing, a 1 more is put
holds-zero : (buf : List ℕ) (bs : List Bool) → Holds buf bs → Holds buf (bs ++ (false ∷ []))
holds-zero buf bs H = record { each = λ k. H.each k ∙ sym (snoc-default false bs k) }

holds-one : (buf buf' : List ℕ) (bs : List Bool) (k : ℕ) → Holds buf bs → length bs ≡ k → k < 8 * length buf → Put buf buf' k → Holds buf' (bs ++ (true ∷ []))
holds-one buf buf' bs k H e l p = record { each = λ j. at j (ℕ_discrete j k) }
  where
    at : (j : ℕ) → Dec (j ≡ k) → get_or (bits buf') j false ≡ get_or (bs ++ (true ∷ [])) j false
    at j (yes x) = rw (x, p.bit) (get_or-set_same (bits buf) k true false (rw bits-length l) ∙ sym (rw e at (get_or-append_seam bs true [] false)))
    at j (no x) = rw p.bit (get_or-set_other (bits buf) k j true false x ∙ H.each j ∙ sym (snoc-other false bs true j (λ y. x (y ∙ e))))

no_bits : (buf : List ℕ) → ((i : ℕ) → get_or buf i 0 ≡ 0) → (k : ℕ) → bit_of buf k ≡ false
unfolding bit_of digit
no_bits buf h k = rw (h (k / 8), zero-div (2 ^ (k % 8)))

holds-none : (buf : List ℕ) → ((i : ℕ) → get_or buf i 0 ≡ 0) → Holds buf []
holds-none buf h = record {
  each = λ k. elim (dec_lt k (8 * length buf)) [
    | yes l ↦ bits_at buf k l ∙ no_bits buf h k
    | no l ↦ get_or-eq_default (bits buf) false {n = k} (omega (arith, bits-length buf))
  ];
}

shadows-append : (xs ys : List Visit) → shadows (xs ++ ys) ≡ shadows xs ++ shadows ys
unfolding shadows
shadows-append [] ys = refl
shadows-append (node p ∷ xs) ys = shadows-append xs ys
shadows-append (shadow p ∷ xs) ys = ap (λ (l : List ℕ). p ∷ l) (shadows-append xs ys)

marks-append : (xs ys : List Visit) → marks (xs ++ ys) ≡ marks xs ++ marks ys
unfolding marks
marks-append [] ys = refl
marks-append (x ∷ xs) ys = ap (λ (l : List Bool). is_shadow x ∷ l) (marks-append xs ys)

marks-length : (xs : List Visit) → length (marks xs) ≡ length xs
unfolding marks
marks-length xs = length-map xs is_shadow

-- how many shadows a front of the list has
shadows-front : (xs ys : List Visit) → length (shadows xs) ≤ length (shadows (xs ++ ys))
shadows-front xs ys = omega (arith, ap length (shadows-append xs ys), length-append (shadows xs) (shadows ys))

-- ## The state

module _ (P : List Bool) (U : List Visit) where
  -- after `at` parentheses, k visits and m shadows; es is still to come
  pub record Written (ps mks sh pl : List ℕ) (at k m : ℕ) (es : List Event) : Type 0 where
    pub bits_left : drop at P ≡ event_bits es
    pub visits_left : drop k U ≡ event_visits es
    pub reach : k ≤ length U
    pub bits_room : length P ≤ 8 * length ps
    pub marks_room : length U ≤ 8 * length mks
    pub shadow_room : length (shadows U) ≤ length sh
    pub bits_held : Holds ps (take at P)
    pub marks_held : Holds mks (marks (take k U))
    pub shadows_held : (j : ℕ) → j < length sh → get_or sh j 0 ≡ get_or (shadows (take k U)) j 0
    pub count : m ≡ length (shadows (take k U))
    pub places_held : (q i : ℕ) → i < k → get_or U i (node 0) ≡ node q → get_or pl q 0 ≡ i

  module _ (ps mks sh pl : List ℕ) (at k m : ℕ) (es : List Event) where
    -- a 0: nothing is written
    pub written-leave : Written ps mks sh pl at k m (leave ∷ es) → (at < length P) × Written ps mks sh pl (at + 1) k m es
    unfolding event_bits event_visits
    written-leave S = let o = open_at false P at S.bits_left in (
      o.inside,
      record {
        bits_left = rw (add-one at) o.left;
        visits_left = S.visits_left;
        reach = S.reach;
        bits_room = S.bits_room;
        marks_room = S.marks_room;
        shadow_room = S.shadow_room;
        bits_held = rw (add-one at, o.taken) (holds-zero ps (take at P) S.bits_held);
        marks_held = S.marks_held;
        shadows_held = S.shadows_held;
        count = S.count;
        places_held = S.places_held;
      },
    )

    module _ (v : Visit) (S : Written ps mks sh pl at k m (enter v ∷ es)) where
      opens : Open false P at true (event_bits es)
      opens = unfold event_bits in open_at false P at S.bits_left

      comes : Open (node 0) U k v (event_visits es)
      comes = unfold event_visits in open_at (node 0) U k S.visits_left

      pub bit-room : (at < length P) × (at < 8 * length ps) × (k < length U)
      bit-room = (opens.inside, omega (arith, opens.inside, S.bits_room), comes.inside)

      bit-held : (ps' : List ℕ) → Put ps ps' at → Holds ps' (take (at + 1) P)
      bit-held ps' p = rw (add-one at, opens.taken) (holds-one ps ps' (take at P) at S.bits_held (length-take-le at P (omega (arith, opens.inside))) bit-room.1 p)

      front : length (take k U) ≡ k
      front = length-take-le k U (omega (arith, comes.inside))

    -- a node: its place is kept
    pub written-node : (p : ℕ) (ps' : List ℕ) → Written ps mks sh pl at k m (enter (node p) ∷ es) → Put ps ps' at → times p U ≡ 1 → p < length pl
        → Written ps' mks sh (set pl p k) (at + 1) (k + 1) m es
    written-node p ps' S w t l =
        record {
          bits_left = rw (add-one at) (opens (node p) S).left;
          visits_left = rw (add-one k) (comes (node p) S).left;
          reach = omega (arith, (comes (node p) S).inside);
          bits_room = rw w.same S.bits_room;
          marks_room = S.marks_room;
          shadow_room = S.shadow_room;
          bits_held = bit-held (node p) S ps' w;
          marks_held = rw (add-one k, (comes (node p) S).taken, marks-append (take k U) (node p ∷ [])) (unfold marks is_shadow in holds-zero mks (marks (take k U)) S.marks_held);
          shadows_held = λ j b. S.shadows_held j b ∙ ap (λ (xs : List ℕ). get_or xs j 0) (sym same);
          count = S.count ∙ ap length (sym same);
          places_held = λ q i b e. held q i b e (ℕ_discrete q p);
        }
      where
        same : shadows (take (k + 1) U) ≡ shadows (take k U)
        same = rw (add-one k, (comes (node p) S).taken, shadows-append (take k U) (node p ∷ [])) (unfold shadows in append-nil (shadows (take k U)))

        -- p stands at k and nowhere else
        only : (i : ℕ) → i < length U → get_or U i (node 0) ≡ node p → i ≡ k
        only i b e = sym (place-only p U i t b e) ∙ place-only p U k t (comes (node p) S).inside (comes (node p) S).here-is

        held : (q i : ℕ) → i < k + 1 → get_or U i (node 0) ≡ node q → Dec (q ≡ p) → get_or (set pl p k) q 0 ≡ i
        held q i b e (yes x) = rw x (get_or-set_same pl p k 0 l ∙ sym (only i (omega (arith, (comes (node p) S).inside)) (rw x at e)))
        held q i b e (no x) = get_or-set_other pl p q k 0 x ∙ S.places_held q i (omega (arith, before)) e
          where
            before : i ≢ k
            before y = let v : node q ≡ node p = sym e ∙ ap (λ (z : ℕ). get_or U z (node 0)) y ∙ (comes (node p) S).here-is in x (cc)

    -- a shadow: its mark, and its piece for the time being
    module _ (p : ℕ) (S : Written ps mks sh pl at k m (enter (shadow p) ∷ es)) where
      more : shadows (take (k + 1) U) ≡ shadows (take k U) ++ (p ∷ [])
      more = rw (add-one k, (comes (shadow p) S).taken, shadows-append (take k U) (shadow p ∷ [])) (unfold shadows in refl)

      pub shadow-room : (k < 8 * length mks) × (m < length (shadows U))
      shadow-room = (omega (arith, (comes (shadow p) S).inside, S.marks_room), few)
        where
          few : m < length (shadows U)
          few = omega (
            arith,
            S.count,
            ap length more,
            length-append (shadows (take k U)) (p ∷ []),
            shadows-front (take (k + 1) U) (drop (k + 1) U),
            ap length (ap shadows (take-append-drop (k + 1) U)),
          )

      pub written-shadow : (ps' mks' : List ℕ) → Put ps ps' at → Put mks mks' k → Written ps' mks' (set sh m p) pl (at + 1) (k + 1) (m + 1) es
      written-shadow ps' mks' w w' =
          record {
            bits_left = rw (add-one at) (opens (shadow p) S).left;
            visits_left = rw (add-one k) (comes (shadow p) S).left;
            reach = omega (arith, (comes (shadow p) S).inside);
            bits_room = rw w.same S.bits_room;
            marks_room = rw w'.same S.marks_room;
            shadow_room = rw (length-set sh m p) S.shadow_room;
            bits_held = bit-held (shadow p) S ps' w;
            marks_held = rw (add-one k, (comes (shadow p) S).taken, marks-append (take k U) (shadow p ∷ []))
                (unfold marks is_shadow in holds-one mks mks' (marks (take k U)) k S.marks_held (marks-length (take k U) ∙ front (shadow p) S) shadow-room.0 w');
            shadows_held = λ j b. held j (omega (arith, length-set sh m p)) (ℕ_discrete j m);
            count = omega (arith, S.count, ap length more, length-append (shadows (take k U)) (p ∷ []));
            places_held = λ q i b e. S.places_held q i (omega (arith, before q i e)) e;
          }
        where
          room : m < length sh
          room = omega (arith, shadow-room.1, S.shadow_room)

          held : (j : ℕ) → j < length sh → Dec (j ≡ m) → get_or (set sh m p) j 0 ≡ get_or (shadows (take (k + 1) U)) j 0
          held j b (yes x) = rw (x, more) (get_or-set_same sh m p 0 room ∙ sym (rw S.count (get_or-append_seam (shadows (take k U)) p [] 0)))
          held j b (no x) = get_or-set_other sh m j p 0 x ∙ S.shadows_held j b ∙ rw more (sym (snoc-other 0 (shadows (take k U)) p j (λ y. x (y ∙ sym S.count))))

          before : (q i : ℕ) → get_or U i (node 0) ≡ node q → i ≢ k
          before q i e y = let v : node q ≡ shadow p = sym e ∙ ap (λ (z : ℕ). get_or U z (node 0)) y ∙ (comes (shadow p) S).here-is in
              let z : true ≡ false = cc in true≢false z

  -- ## Before the first event, and after the last

  pub written_start : (ps mks sh pl : List ℕ) (es : List Event) → P ≡ event_bits es → U ≡ event_visits es
      → length P ≤ 8 * length ps → length U ≤ 8 * length mks → length (shadows U) ≤ length sh
      → ((j : ℕ) → get_or ps j 0 ≡ 0) → ((j : ℕ) → get_or mks j 0 ≡ 0) → ((j : ℕ) → get_or sh j 0 ≡ 0) → Written ps mks sh pl 0 0 0 es
  unfolding marks shadows
  written_start ps mks sh pl es a b r₁ r₂ r₃ z₁ z₂ z₃ =
      record {
        bits_left = a;
        visits_left = b;
        reach = omega arith;
        bits_room = r₁;
        marks_room = r₂;
        shadow_room = r₃;
        bits_held = holds-none ps z₁;
        marks_held = holds-none mks z₂;
        shadows_held = λ j l. z₃ j;
        count = refl;
        places_held = λ q i l. absurd (omega arith);
      }

  pub record Done (ps mks sh pl : List ℕ) (k m : ℕ) : Type 0 where
    pub nodes : k ≡ length U
    pub shadowed : m ≡ length (shadows U)
    pub parens-are : Holds ps P
    pub marks-are : Holds mks (marks U)
    pub pieces_are : (j : ℕ) → j < length sh → get_or sh j 0 ≡ get_or (shadows U) j 0
    pub places-are : (q i : ℕ) → i < length U → get_or U i (node 0) ≡ node q → get_or pl q 0 ≡ i

  pub written-end : (ps mks sh pl : List ℕ) (at k m : ℕ) → Written ps mks sh pl at k m [] → Done ps mks sh pl k m
  unfolding event_bits event_visits
  written-end ps mks sh pl at k m S =
      record {
        nodes = omega (arith, S.reach, over);
        shadowed = S.count ∙ ap (λ (vs : List Visit). length (shadows vs)) all;
        parens-are = (rw (take_all at P (omega (arith, length-drop at P, ap length S.bits_left))) at S.bits_held);
        marks-are = rw all at S.marks_held;
        pieces_are = λ j l. S.shadows_held j l ∙ ap (λ (vs : List Visit). get_or (shadows vs) j 0) all;
        places-are = λ q i l e. S.places_held q i (omega (arith, over)) e;
      }
    where
      over : length U ≤ k
      over = omega (arith, length-drop k U, ap length S.visits_left)

      all : take k U ≡ U
      all = take_all k U over
