-- The decision by the containment of the stored facts alone and the marks, as later layers compute it. Assumes nothing.
use Prim.Native.Nat.{ℕ, ◌<◌}
use mathlib.Core.Path.{◌≡◌, refl, sym, ap, ap₂, ◌∙◌}
use mathlib.Core.Logic.{◌⊎◌, inl, inr, ◌↔◌}
use mathlib.Core.Bool.{Bool, true, false, not, ◌&&◌, ◌||◌, false≢true}
use mathlib.Core.List.{List, Memᴰ}
use Rattle.lists.specs.Any.{any_below}
use Rattle.lists.proofs.Bools.{and_both, both-and, or-either, left_or, right_or, Known, is_true, is_false, known, same_truth, not-true, not-is-true}
use Rattle.lists.proofs.Anys.{below-find}
use Rattle.rules.specs.Fact.{Fact, PART, APART, MEETS, NOTPART, fact_of, unmarked, Within, AllWithin}
use Rattle.rules.specs.Derives.{stored, apart-turn, rule-b, rule-c', rule-d, rule-e, rule-e', Contradictory}
use Rattle.rules.specs.Follows.{storing, turned, parting, entry, containment, meets, derived, follows, clash}
use Rattle.rules.proofs.Facts.{storing-find, storing-hit, storing-same, below-same}
use Rattle.rules.proofs.Paths as on
use Rattle.rules.proofs.Paths.{Path, here, top, leap, told, marked, marked-turned, Apart, Meet, common, Out, out, parted}
use Rattle.rules.proofs.Reach.{path-shows, shows-path}
use Rattle.rules.proofs.Decides.{either-in, turned-find, apart-hit, follows-shape}
use Rattle.rules.proofs.Models.{clash-iff}
use Rattle.rules.proofs.Marks.{stray, Tidy, tidy, with-marks, without-marks, meet-live}

-- containment of the stored facts
abbrev pub inside : ℕ → List Fact → ℕ → ℕ → Bool
inside n fs = entry (containment unmarked n fs)

-- what follows, by marks first
unfoldable pub plain : (ℕ → Bool) → ℕ → List Fact → Fact → Bool
plain void n fs (PART g k) = void g || inside n fs g k
plain void n fs (APART g k) = void g || (void k || storing fs 2 (turned (λ x y. inside n fs g x && inside n fs k y)))
plain void n fs (MEETS g k) = meets (inside n fs) void n fs g k
plain void n fs (NOTPART g k) =
    (not (void g) && void k)
    || (storing fs 4 (λ x y. inside n fs x g && inside n fs k y) || storing fs 2 (turned (λ x y. inside n fs k x && meets (inside n fs) void n fs g y)))

-- contradiction, one look at each stored fact
unfoldable pub plain_clash : (ℕ → Bool) → ℕ → List Fact → Bool
plain_clash void n fs = stray void fs || (storing fs 2 (meets (inside n fs) void n fs) || storing fs 4 (λ x y. void x || inside n fs x y))

module _ (void : ℕ → Bool) (n : ℕ) (fs : List Fact) (i : AllWithin n fs) (p : 0 < n) (z : void 0 ≡ false) where
  abbrev r : ℕ → ℕ → Bool
  r = entry (containment void n fs)

  path : (x y : ℕ) → x < n → y < n → inside n fs x y ≡ true → Path void n fs x y
  path x y l m e = with-marks (shows-path unmarked n fs i p x y l m e)

  module _ (t : Tidy void fs) where
    shows : {x y : ℕ} → void x ≡ false → Path void n fs x y → inside n fs x y ≡ true
    shows c w = path-shows unmarked n fs i p (without-marks z t c w).0

    pub part-live : (x y : ℕ) → x < n → y < n → void x ≡ false → r x y ≡ inside n fs x y
    part-live x y l m c = same_truth _ _ (λ e. shows c (shows-path void n fs i p x y l m e)) (λ e. path-shows void n fs i p (path x y l m e))

    pub part-plain : (x y : ℕ) → x < n → y < n → r x y ≡ (void x || inside n fs x y)
    part-plain x y l m = pick (known (void x))
      where
        pick : Known (void x) → r x y ≡ (void x || inside n fs x y)
        pick (is_true e) = path-shows void n fs i p (leap e l m (here m)) ∙ sym (left_or _ e)
        pick (is_false e) = part-live x y l m e ∙ rw e

    pub meets-plain : (g k : ℕ) → g < n → k < n → meets r void n fs g k ≡ meets (inside n fs) void n fs g k
    unfolding meets turned fact_of
    meets-plain g k l m = ap₂ ◌||◌ (below-same _ _ n (λ x b. pick x b (known (void x)))) (storing-same fs 3 _ _ (λ x y h. both x y (i _ h) (t.meetings x y h)))
      where
        pick : (x : ℕ) → x < n → Known (void x) → (not (void x) && (r x g && r x k)) ≡ (not (void x) && (inside n fs x g && inside n fs x k))
        pick x b (is_true e) = rw e
        pick x b (is_false e) = ap₂ (λ (u v : Bool). not (void x) && (u && v)) (part-live x g b l e) (part-live x k b m e)

        both : (x y : ℕ) → (x < n) × (y < n) → (void x ≡ false) × (void y ≡ false) → ((r x g && r y k) || (r y g && r x k)) ≡ ((inside n fs x g && inside n fs y k) || (inside n fs y g && inside n fs x k))
        both x y b c = rw (part-live x g b.0 l c.0, part-live y k b.1 m c.1, part-live y g b.1 l c.1, part-live x k b.0 m c.0)

    -- a marked piece meets none, so only the stored APARTs count
    no-meeting : (w : ℕ) → w < n → void w ≡ true → meets r void n fs w 0 ≡ true → ⊥
    unfolding follows derived
    no-meeting w l c e = false≢true (sym (meet-live z t ((follows-shape void n fs i p (MEETS w 0) (l, p)).0 e)).0 ∙ c)

    parting-plain : parting void n fs (meets r void n fs) ≡ storing fs 2 (meets (inside n fs) void n fs)
    unfolding parting fact_of
    parting-plain = same_truth _ _ (λ e. pick (or-either _ _ e)) (λ e. left_or _ (same ∙ e))
      where
        same : storing fs 2 (meets r void n fs) ≡ storing fs 2 (meets (inside n fs) void n fs)
        same = storing-same fs 2 _ _ (λ x y h. meets-plain x y (i _ h).0 (i _ h).1)

        pick : (storing fs 2 (meets r void n fs) ≡ true) ⊎ (any_below (λ w. void w && meets r void n fs w 0) n ≡ true) → storing fs 2 (meets (inside n fs) void n fs) ≡ true
        pick (inl e) = sym same ∙ e
        pick (inr e) = let s = below-find _ n e in let b = and_both _ _ s.2 in absurd (no-meeting s.0 s.1 b.0 b.1)

    pub tidy-clash : clash void n fs ≡ (storing fs 2 (meets (inside n fs) void n fs) || storing fs 4 (λ x y. void x || inside n fs x y))
    unfolding clash fact_of
    tidy-clash = ap₂ ◌||◌ parting-plain (storing-same fs 4 _ _ (λ x y h. part-plain x y (i _ h).0 (i _ h).1))

  -- what goes against the marks is a contradiction
  pub stray-contradicts : stray void fs ≡ true → Contradictory void n fs
  unfolding stray fact_of
  stray-contradicts e = pick (or-either _ _ e)
    where
      crossed : (x y : ℕ) → Memᴰ (PART x y) fs → (void x ≡ false) × (void y ≡ true) → Contradictory void n fs
      crossed x y m c =
          let l = i _ m in
          (APART x y, l, rule-b (stored m) (rule-d c.1 l.1 l.1), rule-c' (stored m) (rule-e' c.0 l.0))

      met : (x y : ℕ) → Memᴰ (MEETS x y) fs → (void x ≡ true) ⊎ (void y ≡ true) → Contradictory void n fs
      met x y m (inl c) = let l = i _ m in (MEETS x y, l, stored m, rule-d c l.0 l.1)
      met x y m (inr c) = let l = i _ m in (MEETS x y, l, stored m, apart-turn (rule-d c l.1 l.0))

      pick : (storing fs 1 (λ x y. not (void x) && void y) ≡ true) ⊎ (storing fs 3 (λ x y. void x || void y) ≡ true) → Contradictory void n fs
      pick (inl q) = let s = storing-find fs 1 _ q in let b = and_both _ _ s.3 in crossed s.0 s.1 s.2 (not-is-true _ b.0, b.1)
      pick (inr q) = let s = storing-find fs 3 _ q in met s.0 s.1 s.2 (or-either _ _ s.3)

  -- contradiction, by one look at each stored fact
  pub clash-plain : clash void n fs ≡ plain_clash void n fs
  unfolding plain_clash
  clash-plain = pick (known (stray void fs))
    where
      pick : Known (stray void fs) → clash void n fs ≡ (stray void fs || (storing fs 2 (meets (inside n fs) void n fs) || storing fs 4 (λ x y. void x || inside n fs x y)))
      pick (is_true e) = (clash-iff void n fs i p z).1 (stray-contradicts e) ∙ sym (left_or _ e)
      pick (is_false e) = tidy-clash (tidy void fs e) ∙ rw e

  -- and where there is none, each kind of claim
  module _ (ok : clash void n fs ≡ false) where
    pub neat : Tidy void fs
    neat = tidy void fs (not-true _ (λ e. false≢true (sym ok ∙ (clash-iff void n fs i p z).1 (stray-contradicts e))))

    not-marked : {x : ℕ} → void x ≡ false → void x ≡ true → ⊥
    not-marked c d = false≢true (sym c ∙ d)

    -- a stored NOTPART says that its first piece is not marked
    pub notpart-live : (x y : ℕ) → Memᴰ (NOTPART x y) fs → void x ≡ false
    notpart-live x y m = let l = i _ m in not-true _ (λ e. false≢true (sym ok ∙ (clash-iff void n fs i p z).1 (PART x y, l, rule-e e l.0 l.1, stored m)))

    module _ (g k : ℕ) (lg : g < n) (lk : k < n) where
      abbrev aparts : Bool
      aparts = storing fs 2 (turned (λ x y. inside n fs g x && inside n fs k y))

      apart_in : void g ≡ false → void k ≡ false → Apart void n fs g k → aparts ≡ true
      apart_in c d (on.apart x y (told e) a b) = apart-hit fs _ e (both-and (shows neat c a) (shows neat d b))
      apart_in c d (on.apart x y (marked e l) a b) = absurd (not-marked (without-marks z neat c a).1 e)
      apart_in c d (on.apart x y (marked-turned e l) a b) = absurd (not-marked (without-marks z neat d b).1 e)

      apart_out : aparts ≡ true → Apart void n fs g k
      unfolding fact_of
      apart_out e =
          let s = turned-find fs _ 2 e in
          let l = either-in void n fs i p 2 (λ a b m. i _ m) s.2 in
          let b = and_both _ _ s.3 in
          on.apart s.0 s.1 (told s.2) (path g s.0 lg l.0 b.0) (path k s.1 lk l.1 b.1)

      apart-plain : follows void n fs (APART g k) ≡ (void g || (void k || aparts))
      apart-plain = pick (known (void g)) (known (void k))
        where
          exact : Apart void n fs g k → follows void n fs (APART g k) ≡ true
          exact = (follows-shape void n fs i p (APART g k) (lg, lk)).1

          pick : Known (void g) → Known (void k) → follows void n fs (APART g k) ≡ (void g || (void k || aparts))
          pick (is_true c) d = exact (on.apart g 0 (marked c lg) (here lg) (top lk (here p))) ∙ sym (left_or _ c)
          pick (is_false c) (is_true d) = exact (on.apart 0 k (marked-turned d lk) (top lg (here p)) (here lk)) ∙ sym (right_or (void g) (left_or _ d))
          pick (is_false c) (is_false d) = same_truth _ _ (λ e. apart_in c d ((follows-shape void n fs i p (APART g k) (lg, lk)).0 e)) (λ e. exact (apart_out e)) ∙ rw (c, d)

      abbrev outs : Bool
      outs = storing fs 4 (λ x y. inside n fs x g && inside n fs k y) || storing fs 2 (turned (λ x y. inside n fs k x && meets (inside n fs) void n fs g y))

      -- meetings by the stored facts alone
      meet-same : (y : ℕ) → y < n → Meet void n fs g y ↔ (meets (inside n fs) void n fs g y ≡ true)
      unfolding follows derived
      meet-same y l =
          let s = follows-shape void n fs i p (MEETS g y) (lg, l) in
          let q = meets-plain neat g y lg l in
          (λ w. sym q ∙ s.1 w, λ e. s.0 (q ∙ e))

      out-live : Out void n fs g k → void g ≡ false
      out-live (out x y m a b) = (without-marks z neat (notpart-live x y m) a).1
      out-live (parted u v e a b) = (meet-live z neat b).0

      out-in : void k ≡ false → Out void n fs g k → outs ≡ true
      unfolding fact_of
      out-in d (out x y m a b) = left_or _ (storing-hit fs 4 (λ x y. inside n fs x g && inside n fs k y) (NOTPART x y) m refl (both-and (shows neat (notpart-live x y m) a) (shows neat d b)))
      out-in d (parted u v (told e) a b) =
          let l = either-in void n fs i p 2 (λ a b m. i _ m) e in
          right_or (storing fs 4 (λ x y. inside n fs x g && inside n fs k y)) (apart-hit fs _ e (both-and (shows neat d a) ((meet-same v l.1).0 b)))
      out-in d (parted u v (marked e l) a b) = absurd (not-marked (without-marks z neat d a).1 e)
      out-in d (parted u v (marked-turned e l) a b) = absurd (not-marked (meet-live z neat b).1 e)

      out-out : outs ≡ true → Out void n fs g k
      unfolding fact_of
      out-out e = pick (or-either _ _ e)
        where
          pick : (storing fs 4 (λ x y. inside n fs x g && inside n fs k y) ≡ true) ⊎ (storing fs 2 (turned (λ x y. inside n fs k x && meets (inside n fs) void n fs g y)) ≡ true) → Out void n fs g k
          pick (inl q) =
              let s = storing-find fs 4 _ q in
              let l = i _ s.2 in
              let b = and_both _ _ s.3 in
              out s.0 s.1 s.2 (path s.0 g l.0 lg b.0) (path k s.1 lk l.1 b.1)
          pick (inr q) =
              let s = turned-find fs _ 2 q in
              let l = either-in void n fs i p 2 (λ a b m. i _ m) s.2 in
              let b = and_both _ _ s.3 in
              parted s.0 s.1 (told s.2) (path k s.0 lk l.0 b.0) ((meet-same s.1 l.1).1 b.1)

      notpart-plain : follows void n fs (NOTPART g k) ≡ ((not (void g) && void k) || outs)
      notpart-plain = same_truth _ _ (λ e. to (s.0 e) (known (void k))) (λ e. s.1 (from (or-either _ _ e)))
        where
          s : (follows void n fs (NOTPART g k) ≡ true) ↔ Out void n fs g k
          s = follows-shape void n fs i p (NOTPART g k) (lg, lk)

          to : Out void n fs g k → Known (void k) → ((not (void g) && void k) || outs) ≡ true
          to w (is_true d) = left_or _ (both-and (ap not (out-live w)) d)
          to w (is_false d) = right_or (not (void g) && void k) (out-in d w)

          from : ((not (void g) && void k) ≡ true) ⊎ (outs ≡ true) → Out void n fs g k
          from (inl q) = let b = and_both _ _ q in parted k 0 (marked b.1 lk) (here lk) (common g (not-is-true _ b.0) (here lg) (top lg (here p)))
          from (inr q) = out-out q

    pub follows-plain : (f : Fact) → Within n f → follows void n fs f ≡ plain void n fs f
    unfolding follows derived plain
    follows-plain (PART g k) c = part-plain neat g k c.0 c.1
    follows-plain (APART g k) c = apart-plain g k c.0 c.1
    follows-plain (MEETS g k) c = meets-plain neat g k c.0 c.1
    follows-plain (NOTPART g k) c = notpart-plain g k c.0 c.1
