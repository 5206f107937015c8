-- What each way out of the check of one step comes to. Assumes nothing.
use Prim.Native.Nat.{ℕ, ◌≤◌, ◌<◌}
use mathlib.Core.Path.{◌≡◌, refl, sym, ap, subst, ◌∙◌}
use mathlib.Core.Logic.{◌⊎◌, inl, inr}
use mathlib.Core.Bool.{Bool, true, false, not, ◌&&◌, ◌||◌, false≢true}
use mathlib.Core.List.{List, Memᴰ}
use lib.Dec.{eqb}
use lib.ListN.{get_or}
use borrow.Author.Tests.{eq-eqb, ne_eqb, lt-ltb, le-ltb}
use Rattle.lists.proofs.Bools.{and_both, both-and, or-either, left_or, right_or, same_truth}
use Rattle.chain_format.specs.Citing.{Cited, none, marks_piece, marks_some}
use Rattle.chain_format.specs.declared.steps.Step.{Step}
use Rattle.chain_format.specs.Step.{step_at, showing}
use Rattle.chain_format.specs.Rule.{table, rule}
use Rattle.chain_format.specs.Justified.{cites, some, named, premised, keeps, justified, step_ok}
use Rattle.chain_format.proofs.Somes.{some-find, some-hit, some-none, some_same, some-const, only}
use Rattle.chain_format.proofs.Showing.{Ends, straight, swapped, showing-kind, showing-ends, ends-show}
use Rattle.chain_format.proofs.Asked.{premises-first}

-- by its number, what a search for a rule's pieces comes to
module _ (es : List Cited) (i : ℕ) (s p q : Step) where
  abbrev pub Search : ℕ → Bool
  Search r = some (named s p q) (λ g h k. keeps es i s p q (rule r g h k))

  s-a : Memᴰ s.a (named s p q)
  unfolding named
  s-a = Memᴰ.head refl

  pub by-record : (r : ℕ) → r ≡ 0 → (eqb s.second 0 && cites (get_or es s.first none) s) ≡ Search r
  unfolding keeps rule table
  by-record r e = rw e (sym (some-const (named s p q) (eqb s.second 0 && cites (get_or es s.first none) s) s-a))

  abbrev pub zeros : Bool
  zeros = eqb s.first 0 && eqb s.second 0

  -- a rule that asks nothing holds of no piece but the step's first
  free :
      (k : ℕ) (b : ℕ → ℕ) → ((g : ℕ) → showing s k g (b g) ≡ true → s.a ≡ g)
      → (zeros && showing s k s.a (b s.a)) ≡ some (named s p q) (λ g h m. zeros && showing s k g (b g))
  free k b first =
      only (named s p q) (λ g h m. zeros && showing s k g (b g)) s.a s.a s.a s-a s-a s-a
      (λ g h m t. let u = and_both zeros _ t in both-and u.0 (subst (λ x. showing s k x (b x) ≡ true) (sym (first g u.1)) u.1))

  ordered-first : (g b : ℕ) → showing s 1 g b ≡ true → s.a ≡ g
  ordered-first g b e = pick (showing-ends s 1 g b e)
    where
      pick : Ends s 1 g b → s.a ≡ g
      pick (straight x y) = x
      pick (swapped u x y) = absurd (false≢true u)

  itself-first : (g : ℕ) → showing s 3 g g ≡ true → s.a ≡ g
  itself-first g e = pick (showing-ends s 3 g g e)
    where
      pick : Ends s 3 g g → s.a ≡ g
      pick (straight x y) = x
      pick (swapped u x y) = x

  pub by-c : (r : ℕ) → r ≡ 3 → (zeros && showing s 1 s.a s.a) ≡ Search r
  unfolding keeps rule table
  by-c r e = rw e (free 1 (λ g. g) (λ g t. ordered-first g g t))

  pub by-f : (r : ℕ) → r ≡ 4 → (zeros && showing s 1 s.a 0) ≡ Search r
  unfolding keeps rule table
  by-f r e = rw e (free 1 (λ g. 0) (λ g t. ordered-first g 0 t))

  -- (e') holds of no piece but the step's first, and asks that it is not marked
  pub by-e' : (r : ℕ) → r ≡ 9 → (zeros && (not (marks_some es s.a) && showing s 3 s.a s.a)) ≡ Search r
  unfolding keeps rule table
  by-e' r e =
      rw e
      (only (named s p q) (λ g h m. zeros && (not (marks_some es g) && showing s 3 g g)) s.a s.a s.a s-a s-a s-a
      (λ g h m t.
      let u = and_both zeros _ t in
      let v = and_both (not (marks_some es g)) _ u.1 in
      both-and u.0 (subst (λ x. (not (marks_some es x) && showing s 3 x x) ≡ true) (sym (itself-first g v.1)) u.1)))

  -- what the step cites
  abbrev pub source : Cited
  source = get_or es s.first none

  s-b : Memᴰ s.b (named s p q)
  unfolding named
  s-b = Memᴰ.tail (Memᴰ.head refl)

  -- (d): one of the step's pieces is the marked one
  pub by-d : (r : ℕ) → r ≡ 10 → (eqb s.second 0 && (showing s 2 s.a s.b && (marks_piece s.a source || marks_piece s.b source))) ≡ Search r
  unfolding keeps rule table
  by-d r e = rw e (same_truth _ _ into out)
    where
      test : ℕ → ℕ → ℕ → Bool
      test g h k = eqb s.second 0 && (marks_piece g source && showing s 2 g k)

      into : (eqb s.second 0 && (showing s 2 s.a s.b && (marks_piece s.a source || marks_piece s.b source))) ≡ true → some (named s p q) test ≡ true
      into t = let u = and_both (eqb s.second 0) _ t in let v = and_both (showing s 2 s.a s.b) _ u.1 in pick u.0 v.0 (or-either _ _ v.1)
        where
          pick : eqb s.second 0 ≡ true → showing s 2 s.a s.b ≡ true → (marks_piece s.a source ≡ true) ⊎ (marks_piece s.b source ≡ true) → some (named s p q) test ≡ true
          pick z x (inl m) = some-hit (named s p q) test s-a s-a s-b (both-and z (both-and m x))
          pick z x (inr m) =
              some-hit (named s p q) test s-b s-a s-a (both-and z (both-and m (ends-show s 2 s.b s.a (showing-kind s 2 _ _ x) (swapped refl refl refl))))

      out : some (named s p q) test ≡ true → (eqb s.second 0 && (showing s 2 s.a s.b && (marks_piece s.a source || marks_piece s.b source))) ≡ true
      out t =
          let w = some-find (named s p q) test t in
          let u = and_both (eqb s.second 0) _ w.6 in
          let v = and_both (marks_piece w.0 source) _ u.1 in
          both-and u.0
          (both-and (ends-show s 2 s.a s.b (showing-kind s 2 _ _ v.1) (straight refl refl)) (pick w.0 w.2 v.0 (showing-ends s 2 _ _ v.1)))
        where
          pick : (g k : ℕ) → marks_piece g source ≡ true → Ends s 2 g k → (marks_piece s.a source || marks_piece s.b source) ≡ true
          pick g k m (straight x y) = left_or _ (ap (λ (z : ℕ). marks_piece z source) x ∙ m)
          pick g k m (swapped o x y) = right_or (marks_piece s.a source) (ap (λ (z : ℕ). marks_piece z source) y ∙ m)

  -- (e): the first is
  pub by-e : (r : ℕ) → r ≡ 11 → (eqb s.second 0 && (showing s 1 s.a s.b && marks_piece s.a source)) ≡ Search r
  unfolding keeps rule table
  by-e r e = rw e (same_truth _ _ into out)
    where
      test : ℕ → ℕ → ℕ → Bool
      test g h k = eqb s.second 0 && (marks_piece g source && showing s 1 g k)

      into : (eqb s.second 0 && (showing s 1 s.a s.b && marks_piece s.a source)) ≡ true → some (named s p q) test ≡ true
      into t =
          let u = and_both (eqb s.second 0) _ t in
          let v = and_both (showing s 1 s.a s.b) _ u.1 in
          some-hit (named s p q) test s-a s-a s-b (both-and u.0 (both-and v.1 v.0))

      out : some (named s p q) test ≡ true → (eqb s.second 0 && (showing s 1 s.a s.b && marks_piece s.a source)) ≡ true
      out t =
          let w = some-find (named s p q) test t in
          let u = and_both (eqb s.second 0) _ w.6 in
          let v = and_both (marks_piece w.0 source) _ u.1 in
          both-and u.0
          (both-and (ends-show s 1 s.a s.b (showing-kind s 1 _ _ v.1) (straight refl refl))
          (ap (λ (z : ℕ). marks_piece z source) (ordered-first w.0 w.2 v.1) ∙ v.0))

  module _ (r : ℕ) (o : r ≡ 0 → ⊥) (c : r ≡ 3 → ⊥) (f : r ≡ 4 → ⊥) (e' : r ≡ 9 → ⊥) (d : r ≡ 10 → ⊥) (e : r ≡ 11 → ⊥) where
    pub late-first : i ≤ s.first → false ≡ Search r
    late-first l = sym (some-none (named s p q) _ (λ g h k. premises-first s p q es i r o c f e' d e g h k ∙ simp (le-ltb s.first i l)))

    module _ (m : s.first < i) where
      pub late-second : i ≤ s.second → false ≡ Search r
      late-second l = sym (some-none (named s p q) _ (λ g h k. premises-first s p q es i r o c f e' d e g h k ∙ simp (lt-ltb s.first i m, le-ltb s.second i l)))

      pub by_two : s.second < i → some (named s p q) (λ g h k. premised s p q (rule r g h k)) ≡ Search r
      by_two l = some_same (named s p q) _ _ (λ g h k. sym (premises-first s p q es i r o c f e' d e g h k ∙ simp (lt-ltb s.first i m, lt-ltb s.second i l)))

-- a step s that was read from the chain c
module _ (n : ℕ) (es : List Cited) (c : List ℕ) (i : ℕ) (s : Step) (e : s ≡ step_at c i) where
  abbrev Ok : Bool
  Ok = step_ok n es c i

  whole : justified n es i s (step_at c s.first) (step_at c s.second) ≡ Ok
  unfolding step_ok
  whole = ap (λ (s : Step). justified n es i s (step_at c s.first) (step_at c s.second)) e

  pub outside-a : n ≤ s.a → false ≡ Ok
  unfolding justified
  outside-a l = (simp (le-ltb s.a n l)) ∙ whole

  module _ (la : s.a < n) where
    pub outside_b : n ≤ s.b → false ≡ Ok
    unfolding justified
    outside_b l = (simp (lt-ltb s.a n la, le-ltb s.b n l)) ∙ whole

    module _ (lb : s.b < n) where
      searched : Search es i s (step_at c s.first) (step_at c s.second) s.rule ≡ Ok
      unfolding justified
      searched = (simp (lt-ltb s.a n la, lt-ltb s.b n lb)) ∙ whole

      module _ (r : s.rule ≡ 0) where
        pub stored-second : (s.second ≡ 0 → ⊥) → false ≡ Ok
        stored-second z = (simp (ne_eqb s.second 0 z)) ∙ by-record es i s _ _ s.rule r ∙ searched

        pub stored-cites : s.second ≡ 0 → cites (get_or es s.first none) s ≡ Ok
        stored-cites z = (simp (eq-eqb s.second 0 z)) ∙ by-record es i s _ _ s.rule r ∙ searched

      pub free-c : s.rule ≡ 3 → (zeros es i s s s && showing s 1 s.a s.a) ≡ Ok
      free-c r = by-c es i s _ _ s.rule r ∙ searched

      pub free-f : s.rule ≡ 4 → (zeros es i s s s && showing s 1 s.a 0) ≡ Ok
      free-f r = by-f es i s _ _ s.rule r ∙ searched

      module _ (r : s.rule ≡ 9) where
        pub marked-e' : marks_some es s.a ≡ true → false ≡ Ok
        marked-e' m = off (zeros es i s s s) ∙ (simp m) ∙ by-e' es i s _ _ s.rule r ∙ searched
          where
            off : (b : Bool) → false ≡ (b && false)
            off true = refl
            off false = refl

        pub free-e' : marks_some es s.a ≡ false → (zeros es i s s s && showing s 3 s.a s.a) ≡ Ok
        free-e' m = (simp m) ∙ by-e' es i s _ _ s.rule r ∙ searched

      -- a mark that the step cites
      abbrev Cites : ℕ → Bool
      Cites g = marks_piece g (get_or es s.first none)

      pub void-d : s.rule ≡ 10 → (eqb s.second 0 && (showing s 2 s.a s.b && (Cites s.a || Cites s.b))) ≡ Ok
      void-d r = by-d es i s _ _ s.rule r ∙ searched

      pub void-e : s.rule ≡ 11 → (eqb s.second 0 && (showing s 1 s.a s.b && Cites s.a)) ≡ Ok
      void-e r = by-e es i s _ _ s.rule r ∙ searched

      module _ (x : s.rule ≡ 0 → ⊥) (y : s.rule ≡ 3 → ⊥) (z : s.rule ≡ 4 → ⊥) (w : s.rule ≡ 9 → ⊥) (u : s.rule ≡ 10 → ⊥) (v : s.rule ≡ 11 → ⊥) where
        pub first-late : i ≤ s.first → false ≡ Ok
        first-late l = late-first es i s _ _ s.rule x y z w u v l ∙ searched

        module _ (d : s.first < i) where
          pub second-late : i ≤ s.second → false ≡ Ok
          second-late l = late-second es i s _ _ s.rule x y z w u v d l ∙ searched

          pub two-premises :
              s.second < i → (p q : Step) → p ≡ step_at c s.first → q ≡ step_at c s.second
              → some (named s p q) (λ g h k. premised s p q (rule s.rule g h k)) ≡ Ok
          two-premises l p q a b = rw (a, b) (by_two es i s _ _ s.rule x y z w u v d l ∙ searched)
