-- The row of a piece while it is being filled: what the walk along the parts that hang from its node has joined. Assumes nothing.
use mathlib.Core.Path.{◌≡◌, refl, sym, ap, subst, ◌∙◌}
use mathlib.Core.Logic.{◌⊎◌, inl, inr}
use mathlib.Core.Bool.{Bool, true, false, not, true≢false}
use mathlib.Core.List.Memᴰ
use mathlib.Core.List.Memᴰ.{head as here}
use mathlib.Core.List.Memᴰ.{tail as there}
use mathlib.Core.List.{List, [], ◌∷◌, ◌++◌}
use Prim.Native.Nat.{ℕ, zero, suc, ◌+◌, ◌≤◌, ◌<◌}
use native.Mathlib.Decide.{ℕ_discrete, dec_le}
use native.Mathlib.Omega.{arith}
use borrow.Author.Count.{below_more}
use lib.Dec.{eqb}
use lib.ListN.{length, get_or, length-append}
use Rattle.lists.proofs.Bools.{or-either, left_or, right_or}
use Rattle.matrices.specs.Matrix.{bit_of, Inserted, United}
use Rattle.index.specs.Pairs.{parts, Within, self, step}
use Rattle.index.specs.Breadth.{parent}
use Rattle.index.specs.Tree.{Visit, node, shadow, Forest, tree, hang, under, whole, visits}
use Rattle.index.specs.Parts as on
use Rattle.index.specs.Parts.{place}
use Rattle.lists.specs.Tally.{tally}
use Rattle.lists.proofs.Tallies.{tally-more}
use Rattle.containment.specs.Filling.{visited, Setting, Lies, level, Row, From, All, Leads, Filled, FilledTo, Seeded}
use Rattle.lists.proofs.Numbers.{◌∈◌, which}
use Rattle.index.proofs.Nodes.{hang-node, hang-shadow, parts-mem, mem-parts}
use Rattle.index.proofs.Below.{within-trans}
use Rattle.index.proofs.Places.{Stand, stand, stand-after}
use Rattle.index.proofs.Standing.{place-small}
use Rattle.containment.proofs.Siblings.{Stands, visit-at, in-visits, ends_at, next, hangs}

-- ---- paths

-- a path by its last step
within-top : {edge : ℕ → ℕ → Bool} {g h : ℕ} → Within edge g h → (g ≡ h) ⊎ ((x : ℕ) × (edge x h ≡ true) × Within edge g x)
within-top self = inl refl
within-top {edge} {g} {h} (step {c = c} e w) = go (within-top w)
  where
    go : (c ≡ h) ⊎ ((x : ℕ) × (edge x h ≡ true) × Within edge c x) → (g ≡ h) ⊎ ((x : ℕ) × (edge x h ≡ true) × Within edge g x)
    go (inl q) = inr (g, rw q at e, self)
    go (inr (x, f, v)) = inr (x, f, step e v)

-- how many rows are not filled
unfoldable pub unfilled : List ℕ → ℕ
unfilled rows = tally (λ x. not (bit_of rows x x)) 2048

module _ {places ends turned : List ℕ} (s : Setting places ends turned) where
  abbrev W : List Visit
  W = visits (whole s.groups s.edge)

  abbrev P : List Bool
  P = on.parens (whole s.groups s.edge) ++ s.zeros

  -- a row with the same bits
  pub row_same : {rows rows' : List ℕ} {r : ℕ} → r < s.n → ((j : ℕ) → j < 2048 → bit_of rows' r j ≡ bit_of rows r j) → Row s rows r → Row s rows' r
  row_same {rows} {rows'} {r} l e R =
      record {
        sound = λ g b t. R.sound g b (sym (e g b) ∙ t);
        seeded = λ g b d ne. e g (omega (arith, s.few)) ∙ R.seeded g b d ne;
        filled = λ t g b w. e g (omega (arith, s.few)) ∙ R.filled (sym (e r (omega (arith, s.few))) ∙ t) g b w;
      }

  module _ (h : ℕ) (l : h < s.n) where
    -- the row as the walk begins
    pub record Started (rows : List ℕ) : Type 0 where
      pub own : (g : ℕ) → g < s.n → s.number g ≡ s.number h → bit_of rows h g ≡ true
      pub sound : (g : ℕ) → g < 2048 → bit_of rows h g ≡ true → (g < s.n) × Lies s g h
      pub from : (r : ℕ) → level s h ≤ level s r → (r ≡ h → ⊥) → r < s.n → Row s rows r

    pub started : (rows rows' : List ℕ) → From s rows h → s.leader (s.number h) ≡ h → Inserted rows rows' h h → Started rows'
    started rows rows' F d I =
        record {
          own = λ g b e. has g b e (ℕ_discrete g h);
          sound = λ g b t. fit g b t (ℕ_discrete g h);
          from = λ r a ne b. row_same b (λ j d. I.other r j d (λ e f. ne e)) (F r a b);
        }
      where
        R : Row s rows h
        R = F h (omega arith) l

        has : (g : ℕ) → g < s.n → s.number g ≡ s.number h → Dec (g ≡ h) → bit_of rows' h g ≡ true
        has g b e (yes z) = rw z I.hit
        has g b e (no z) = I.other h g (omega (arith, s.few)) (λ q f. z f) ∙ R.seeded g b (ap s.leader e ∙ d) z

        fit : (g : ℕ) → g < 2048 → bit_of rows' h g ≡ true → Dec (g ≡ h) → (g < s.n) × Lies s g h
        fit g b t (yes z) = rw z (l, self)
        fit g b t (no z) = R.sound g b (sym (I.other h g b (λ q f. z f)) ∙ t)

    -- the trees from place q on, up to `last`, that the walk has still to pass, and what it has joined
    pub record Walking (rows₀ rows : List ℕ) (last q : ℕ) : Type 0 where
      pub deep : ℕ
      pub todo : List ℕ
      pub ahead : Stands P W q (hang s.groups s.edge (under s.groups s.edge deep) (s.number h) todo)
      pub upto : last ≡ q + length (visits (hang s.groups s.edge (under s.groups s.edge deep) (s.number h) todo))
      pub hung : (x : ℕ) → x ∈ todo → s.edge x (s.number h) ≡ true
      pub joined : (x : ℕ) → s.edge x (s.number h) ≡ true → (x ∈ todo) ⊎ ((g : ℕ) → g < s.n → Within s.edge (s.number g) x → bit_of rows h g ≡ true)
      pub own : (g : ℕ) → g < s.n → s.number g ≡ s.number h → bit_of rows h g ≡ true
      pub sound : (g : ℕ) → g < 2048 → bit_of rows h g ≡ true → (g < s.n) × Lies s g h
      pub from : (r : ℕ) → level s h ≤ level s r → (r ≡ h → ⊥) → r < s.n → Row s rows r
      pub kept : (r j : ℕ) → level s r < level s h → j < 2048 → bit_of rows r j ≡ bit_of rows₀ r j
      pub grown : (r : ℕ) → r < 2048 → bit_of rows₀ r r ≡ true → bit_of rows r r ≡ true

    -- the place of h
    pub place-small-at : (o : ℕ) → o ≡ get_or places h 0 → o < length ends
    place-small-at o e = omega (arith, e, s.places-are h l, place-small s.groups s.edge s.book (s.number h) (s.below h l), s.ends-room)

    pub begin : (rows : List ℕ) (o last : ℕ) → o ≡ get_or places h 0 → last ≡ get_or ends o 0 → Started rows → Walking rows rows last (o + 1)
    begin rows o last e f S = go (stand s.groups s.edge s.book (s.number h) (s.below h l)) _ refl
      where
        at : o ≡ place W (s.number h)
        at = e ∙ s.places-are h l

        go : (T : Stand s.groups s.edge s.book.level (s.number h)) (d : ℕ) → T.deep ≡ d → Walking rows rows last (o + 1)
        go T zero d = absurd (omega (arith, T.enough, s.book.fits (s.number h) (s.below h l)))
        go T (suc k) d =
            record {
              deep = k;
              todo = parts s.groups s.edge (s.number h);
              ahead = rw at (unfold under in rw d at (hangs s.groups s.edge s.book (s.number h) (s.below h l) T s.zeros));
              upto =
                  let size = ap (λ (x : ℕ). length (visits (under s.groups s.edge x (s.number h)))) d in
                  omega (
                    arith,
                    f,
                    ap (λ (x : ℕ). get_or ends x 0) at,
                    s.ends-are (place W (s.number h)) (place-small s.groups s.edge s.book (s.number h) (s.below h l)),
                    stand-after s.groups s.edge s.book (s.number h) (s.below h l) T s.zeros,
                    at,
                    under-is k size,
                  );
              hung = λ x m. parts-mem s.groups s.edge s.book (s.number h) m;
              joined = λ x t. inl (mem-parts s.groups s.edge s.book x (s.number h) t);
              own = S.own;
              sound = S.sound;
              from = S.from;
              kept = λ r j a b. refl;
              grown = λ r d i. i;
            }
          where
            under-is : (k : ℕ) → length (visits (under s.groups s.edge T.deep (s.number h))) ≡ length (visits (under s.groups s.edge (suc k) (s.number h)))
                → length (visits (under s.groups s.edge T.deep (s.number h))) ≡ length (visits (hang s.groups s.edge (under s.groups s.edge k) (s.number h) (parts s.groups s.edge (s.number h))))
            under-is k e = unfold under in e

    none_left : (deep q last : ℕ) → q < last → last ≡ q + length (visits (hang s.groups s.edge (under s.groups s.edge deep) (s.number h) [])) → ⊥
    unfolding hang visits
    none_left deep q last b u = omega arith

    count-on : (deep q : ℕ) (ts : List ℕ) (x : ℕ) (xs : List ℕ) → ts ≡ x ∷ xs
        → q + length (visits (hang s.groups s.edge (under s.groups s.edge deep) (s.number h) ts)) ≡ q + length (visits (hang s.groups s.edge (under s.groups s.edge deep) (s.number h) (x ∷ xs)))
    count-on deep q ts x xs e = rw e

    -- the tree at place q is that of the part x of h's group
    pub record Part (q x : ℕ) (xs : List ℕ) (deep : ℕ) : Type 0 where
      pub piece : get_or turned q 0 ≡ s.leader x
      pub in-turned : q < length turned
      pub in-ends : q < length ends
      pub beyond : ℕ
      pub end_is : get_or ends q 0 ≡ beyond
      pub forth : q < beyond
      pub rest : Stands P W beyond (hang s.groups s.edge (under s.groups s.edge deep) (s.number h) xs)
      pub count :
          q + length (visits (hang s.groups s.edge (under s.groups s.edge deep) (s.number h) (x ∷ xs)))
          ≡ beyond + length (visits (hang s.groups s.edge (under s.groups s.edge deep) (s.number h) xs))

    part : (deep q x : ℕ) (xs : List ℕ) → Stands P W q (hang s.groups s.edge (under s.groups s.edge deep) (s.number h) (x ∷ xs)) → Part q x xs deep
    part deep q x xs T = pick (which (eqb (parent s.groups s.edge x) (s.number h)))
      where
        rest : Forest
        rest = hang s.groups s.edge (under s.groups s.edge deep) (s.number h) xs

        of_tree : (v : Visit) (f : Forest) → visited v ≡ x → hang s.groups s.edge (under s.groups s.edge deep) (s.number h) (x ∷ xs) ≡ tree v f rest → Stands P W q (tree v f rest) → Part q x xs deep
        of_tree v f e is T =
            record {
              piece = s.turned-are q (in-visits T) ∙ ap (λ (v : Visit). s.leader (visited v)) (visit-at T) ∙ ap s.leader e;
              in-turned = omega (arith, in-visits T, s.turned-room);
              in-ends = omega (arith, in-visits T, s.ends-room);
              beyond = q + suc (length (visits f));
              end_is = s.ends-are q (in-visits T) ∙ ends_at T;
              forth = omega arith;
              rest = next T;
              count = rw is (unfold visits in omega (arith, length-append (visits f) (visits rest)));
            }

        pick : (eqb (parent s.groups s.edge x) (s.number h) ≡ true) ⊎ (eqb (parent s.groups s.edge x) (s.number h) ≡ false) → Part q x xs deep
        pick (inl e) = let is = hang-node s.groups s.edge (under s.groups s.edge deep) (s.number h) x xs e in of_tree (node x) _ (unfold visited in refl) is (rw is at T)
        pick (inr e) = let is = hang-shadow s.groups s.edge (under s.groups s.edge deep) (s.number h) x xs e in of_tree (shadow x) _ (unfold visited in refl) is (rw is at T)

    module _ {rows₀ rows : List ℕ} {last q : ℕ} (w : Walking rows₀ rows last q) where
      -- before the end there is one more part
      pub uncover : q < last → (x : ℕ) × (xs : List ℕ) × (w.todo ≡ x ∷ xs) × Part q x xs w.deep
      uncover b = go w.todo refl w.ahead w.upto
        where
          go : (ts : List ℕ) → w.todo ≡ ts → Stands P W q (hang s.groups s.edge (under s.groups s.edge w.deep) (s.number h) ts)
              → last ≡ q + length (visits (hang s.groups s.edge (under s.groups s.edge w.deep) (s.number h) ts))
              → (x : ℕ) × (xs : List ℕ) × (w.todo ≡ x ∷ xs) × Part q x xs w.deep
          go [] e T u = absurd (none_left w.deep q last b u)
          go (x ∷ xs) e T u = (x, xs, e, part w.deep q x xs T)

      -- what is known of it
      pub child : (b : q < last) → s.edge (uncover b).0 (s.number h) ≡ true
      child b = w.hung (uncover b).0 (subst (λ (ts : List ℕ). (uncover b).0 ∈ ts) (sym (uncover b).2) (here refl))

      -- the piece that the table has there
      module _ {t : ℕ} (b : q < last) (is : t ≡ get_or turned q 0) where
        tx : t ≡ s.leader (uncover b).0
        tx = is ∙ (uncover b).3.piece

        led : (s.leader (uncover b).0 < s.n) × (s.number (s.leader (uncover b).0) ≡ (uncover b).0)
        led = s.leads (uncover b).0 (s.book.piece (uncover b).0 (s.number h) (child b))

        group : s.number t ≡ (uncover b).0
        group = ap s.number tx ∙ led.1

        edge : s.edge (s.number t) (s.number h) ≡ true
        edge = rw group (child b)

        pub above : level s h < level s t
        above = s.book.lower (s.number t) (s.number h) edge

        pub small : t < s.n
        small = rw tx led.0

        pub leading : s.leader (s.number t) ≡ t
        leading = ap s.leader group ∙ sym tx

        pub from-it : From s rows t
        from-it r a d = w.from r (omega (arith, above)) (λ z. omega (arith, above, ap (level s) z)) d

      -- its row is filled, and joined
      module _ {rows₁ rows₂ : List ℕ} {t : ℕ} (b : q < last) (is : t ≡ get_or turned q 0) (F : Filled s rows rows₁ t) (U : United rows₁ rows₂ h rows₁ t) where
        row : Row s rows₁ t
        row = F.from t (omega arith) (small b is)

        old : (r : ℕ) → level s h ≤ level s r → (r ≡ h → ⊥) → r < s.n → Dec (level s t ≤ level s r) → Row s rows₁ r
        old r a ne d (yes y) = F.from r y d
        old r a ne d (no y) = row_same d (λ j e. F.kept r j (omega arith) e) (w.from r a ne d)

        pub more : (c : ℕ) → c ≡ get_or ends q 0 → Walking rows₀ rows₂ last c
        more c ec =
            record {
              deep = w.deep;
              todo = (uncover b).1;
              ahead = rw (ec ∙ (uncover b).3.end_is) (uncover b).3.rest;
              upto = w.upto ∙ count-on w.deep q w.todo (uncover b).0 (uncover b).1 (uncover b).2 ∙ (uncover b).3.count ∙ ap (λ (k : ℕ). k + length (visits (hang s.groups s.edge (under s.groups s.edge w.deep) (s.number h) (uncover b).1))) (sym (ec ∙ (uncover b).3.end_is));
              hung = λ x m. w.hung x (subst (λ (ts : List ℕ). x ∈ ts) (sym (uncover b).2) (there m));
              joined = λ x e. pick x (w.joined x e);
              own = λ g a e. U.row g (omega (arith, s.few)) ∙ left_or _ (F.kept h g (above b is) (omega (arith, s.few)) ∙ w.own g a e);
              sound = λ g d i. sort g d (or-either (bit_of rows₁ h g) (bit_of rows₁ t g) (sym (U.row g d) ∙ i));
              from = λ r a ne d. row_same d (λ j e. U.other r j e ne) (old r a ne d (dec_le (level s t) (level s r)));
              kept = λ r j a d. U.other r j d (λ z. omega (arith, ap (level s) z)) ∙ F.kept r j (omega (arith, above b is)) d ∙ w.kept r j a d;
              grown = λ r d i. widen r d (ℕ_discrete r h) (F.grown r d (w.grown r d i));
            }
          where
            widen : (r : ℕ) → r < 2048 → Dec (r ≡ h) → bit_of rows₁ r r ≡ true → bit_of rows₂ r r ≡ true
            widen r d (yes z) i = rw z (U.row h (omega (arith, l, s.few)) ∙ left_or _ (rw z at i))
            widen r d (no z) i = U.other r r d z ∙ i

            Done : ℕ → Type 0
            Done x = (g : ℕ) → g < s.n → Within s.edge (s.number g) x → bit_of rows₂ h g ≡ true

            pick : (x : ℕ) → (x ∈ w.todo) ⊎ ((g : ℕ) → g < s.n → Within s.edge (s.number g) x → bit_of rows h g ≡ true) → (x ∈ (uncover b).1) ⊎ Done x
            pick x (inr f) = inr (λ g d i. U.row g (omega (arith, s.few)) ∙ left_or _ (F.kept h g (above b is) (omega (arith, s.few)) ∙ f g d i))
            pick x (inl m) = now (Memᴰ.cases_cons (subst (λ (ts : List ℕ). x ∈ ts) (uncover b).2 m))
              where
                now : (x ≡ (uncover b).0) ⊎ (x ∈ (uncover b).1) → (x ∈ (uncover b).1) ⊎ Done x
                now (inr m) = inl m
                now (inl e) = inr (λ g d i. U.row g (omega (arith, s.few)) ∙ right_or (bit_of rows₁ h g) (row.filled F.own g d (rw (e ∙ sym (group b is)) at i)))

            sort : (g : ℕ) → g < 2048 → (bit_of rows₁ h g ≡ true) ⊎ (bit_of rows₁ t g ≡ true) → (g < s.n) × Lies s g h
            sort g d (inl i) = w.sound g d (sym (F.kept h g (above b is) d) ∙ i)
            sort g d (inr i) = let f = row.sound g d i in (f.0, within-trans f.1 (step (edge b is) self))

      -- fewer rows are left than where the call began: the measure
      pub fewer : (old : List ℕ) → bit_of old h h ≡ false → Inserted old rows₀ h h → unfilled rows < unfilled old
      unfolding unfilled
      fewer old z I =
          tally-more (λ x. not (bit_of rows x x)) (λ x. not (bit_of old x x)) 2048 h (λ x d t. pick x d t (which (bit_of old x x)) (ℕ_discrete x h)) (omega (arith, l, s.few)) (ap not (w.own h l refl)) (ap not z)
        where
          pick : (x : ℕ) → x < 2048 → not (bit_of rows x x) ≡ true → (bit_of old x x ≡ true) ⊎ (bit_of old x x ≡ false) → Dec (x ≡ h) → not (bit_of old x x) ≡ true
          pick x d t (inr q) e = ap not q
          pick x d t (inl q) (yes e) = let z : bit_of rows x x ≡ true = rw e (w.own h l refl) in absurd (true≢false (sym t ∙ ap not z))
          pick x d t (inl q) (no e) = absurd (true≢false (sym t ∙ ap not (w.grown x d (I.other x x d (λ a b. e a) ∙ q))))

      -- at the end the row is whole
      pub done : (old : List ℕ) → last ≤ q → Inserted old rows₀ h h → Filled s old rows h
      done old b I = go w.todo refl w.ahead w.upto
        where
          put : (r : ℕ) → r < 2048 → Dec (r ≡ h) → bit_of old r r ≡ true → bit_of rows₀ r r ≡ true
          put r d (yes z) i = rw z I.hit
          put r d (no z) i = I.other r r d (λ e f. z e) ∙ i

          reach : w.todo ≡ [] → (g : ℕ) → g < s.n → (s.number g ≡ s.number h) ⊎ ((x : ℕ) × (s.edge x (s.number h) ≡ true) × Within s.edge (s.number g) x) → bit_of rows h g ≡ true
          reach e g d (inl z) = w.own g d z
          reach e g d (inr (x, t, v)) = pick (w.joined x t)
            where
              pick : (x ∈ w.todo) ⊎ ((g : ℕ) → g < s.n → Within s.edge (s.number g) x → bit_of rows h g ≡ true) → bit_of rows h g ≡ true
              pick (inl m) = absurd (Memᴰ.not-nil (subst (λ (ts : List ℕ). x ∈ ts) e m))
              pick (inr f) = f g d v

          row : w.todo ≡ [] → (r : ℕ) → level s h ≤ level s r → r < s.n → Dec (r ≡ h) → Row s rows r
          row e r a d (no y) = w.from r a y d
          row e r a d (yes z) =
              rw z (record { sound = w.sound; seeded = λ g b c ne. w.own g b (sym (s.leads (s.number g) (s.below g b)).1 ∙ ap s.number c); filled = λ t g k v. reach e g k (within-top v) })

          go : (ts : List ℕ) → w.todo ≡ ts → Stands P W q (hang s.groups s.edge (under s.groups s.edge w.deep) (s.number h) ts)
              → last ≡ q + length (visits (hang s.groups s.edge (under s.groups s.edge w.deep) (s.number h) ts)) → Filled s old rows h
          go (x ∷ xs) e T u = let p = part w.deep q x xs T in absurd (omega (arith, p.count, p.forth))
          go [] e T u =
              record {
                own = w.own h l refl;
                from = λ r a d. row e r a d (ℕ_discrete r h);
                kept = λ r j a d. w.kept r j a d ∙ I.other r j d (λ z v. omega (arith, ap (level s) z));
                grown = λ r d i. w.grown r d (put r d (ℕ_discrete r h) i);
              }

  -- ---- row after row
  pub leader-leads : (g h : ℕ) → g < s.n → h ≡ s.leader (s.number g) → (h < s.n) × (s.leader (s.number h) ≡ h)
  leader-leads g h l is =
      let k = s.leads (s.number g) (s.below g l) in
      (rw is k.0, ap (λ (x : ℕ). s.leader (s.number x)) is ∙ ap s.leader k.1 ∙ sym is)

  pub filled_more : (rows rows' : List ℕ) (g h : ℕ) → h ≡ s.leader (s.number g) → g < s.n → FilledTo s rows g → Filled s rows rows' h → FilledTo s rows' (g + 1)
  filled_more rows rows' g h is l T F =
      record {
        own = below_more (λ k. bit_of rows' (s.leader (s.number k)) (s.leader (s.number k)) ≡ true) g (λ k a. F.grown (s.leader (s.number k)) (omega (arith, s.few, s.leads (s.number k) (s.below k (omega arith)))) (T.own k a)) (rw is at F.own);
        from = λ r b. elim (dec_le (level s h) (level s r)) [ yes y ↦ F.from r y b | no y ↦ row_same b (λ j d. F.kept r j (omega arith) d) (T.from r b) ];
      }

  -- the rows that the walks begin with
  pub seeded-rows : (n : ℕ) (lead rows : List ℕ) → n ≡ s.n → Leads s lead → Seeded n n lead rows → All s rows
  seeded-rows n lead rows same L S h b =
      record {
        sound = λ g d t. fit g ((S.bits h g (omega arith) d).0 t);
        seeded = λ g d e ne. (S.bits h g (omega arith) (omega (arith, s.few))).1 (omega arith, L.1 g d ∙ e, ne);
        filled = λ t. absurd (((S.bits h h (omega arith) (omega (arith, s.few))).0 t).2 refl);
      }
    where
      fit : (g : ℕ) → (g < n) × (get_or lead g 0 ≡ h) × (g ≡ h → ⊥) → (g < s.n) × Lies s g h
      fit g (c, e, ne) =
          let d : g < s.n = omega arith in
          let is : s.leader (s.number g) ≡ h = sym (L.1 g d) ∙ e in
          let k = s.leads (s.number g) (s.below g d) in
          (d, rw (sym (sym k.1 ∙ ap s.number is)) self)
