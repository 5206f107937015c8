-- The records that say the hops, one record after another. Assumes nothing.
use Prim.Native.Nat.{ℕ, ◌+◌, ◌≤◌, ◌<◌}
use mathlib.Core.Path.{◌≡◌, sym, ap, subst, ◌∙◌}
use mathlib.Core.Logic.{◌⊎◌, inl, inr}
use mathlib.Core.Bool.{true}
use mathlib.Core.List.{List}
use native.Mathlib.Omega.{arith}
use native.Mathlib.Nat.{le_antisymm}
use native.Mathlib.Decide.{ℕ_discrete}
use lib.ListN.{length, get_or, set, length-set}
use lib.Seq.{get_or-set_same, get_or-set_other}
use borrow.Author.Tests.{le-leb}
use Rattle.lists.proofs.Bools.{both-and}
use Rattle.rules.specs.Fact.{PART, kind, fact_of, AllWithin}
use Rattle.chain_format.specs.Citing.{fact, lets, cited_of}
use Rattle.chain_format.proofs.Citings.{cited-stated, citing-at, citing-says, cited-picked}
use Rattle.records.specs.declared.Record.{Record}
use Rattle.records.specs.Record.{record_at, records}
use Rattle.records.specs.Pieces.{stated}
use Rattle.records.specs.Facts.{saying, facts}
use Rattle.records.specs.Kept.{picked}
use Rattle.records.proofs.Accepted.{says-kind}
use Rattle.derivations.specs.Sources.{Says, Sources}

-- record i of the book, and what it says
module _ (claim : Record) (book : List ℕ) (i : ℕ) (h : i < records book) (r : Record) (e : r ≡ record_at book i) where
  is-stated : r.kind ≡ 1 → stated r ≡ true
  unfolding stated
  is-stated k = both-and (le-leb 1 r.kind (omega arith)) (le-leb r.kind 4 (omega arith))

  pub part-said : r.kind ≡ 1 → lets claim r ≡ true → Says claim book i r.a r.b
  unfolding fact_of
  part-said k l =
      citing-at claim book i h ∙ ap (cited_of claim) (sym e) ∙ cited-stated claim r (is-stated k) l ∙ ap (λ (z : ℕ). fact (fact_of z r.a r.b)) k

  pub says-part : (x y : ℕ) → Says claim book i x y → (r.kind ≡ 1) × (lets claim r ≡ true)
  says-part x y s =
      let z = (citing-says claim book i (fact (PART x y)) s (λ q. let w : ◌≡◌ {A = ℕ} 0 1 = cc in omega arith)).1 in
      let t : stated r ≡ true = ap stated e ∙ z.0 in
      (sym (says-kind r t) ∙ ap (λ (u : Record). kind (saying u)) e ∙ ap kind z.2, ap (lets claim) e ∙ z.1)

  pub said-ends : (x y : ℕ) → Says claim book i x y → (r.a ≡ x) × (r.b ≡ y)
  said-ends x y s = let t = says-part x y s in let q = sym (part-said t.0 t.1) ∙ s in (cc, cc)

  pub part_small : AllWithin 2048 (facts (picked book claim)) → r.kind ≡ 1 → lets claim r ≡ true → r.a < 2048
  part_small w k l = (w _ (cited-picked claim book i (PART r.a r.b) (part-said k l)).1).0

-- the sources among the first records
module _ (claim : Record) (book hop : List ℕ) where
  pub sources-none : (source : List ℕ) → length source ≡ 2048 → ((x : ℕ) → x < 2048 → get_or source x 0 ≡ 65535) → Sources claim book hop 0 source
  sources-none source l f = record { sized = l; each = λ x h. inr (f x h, λ j k. absurd (omega arith)) }

  pub sources-all : (i m : ℕ) (source : List ℕ) → i ≤ m → m ≤ i → Sources claim book hop i source → Sources claim book hop m source
  sources-all i m source l h S = subst (λ u. Sources claim book hop u source) (le_antisymm l h) S

  module _ (i : ℕ) (source : List ℕ) (S : Sources claim book hop i source) where
    abbrev Each : List ℕ → ℕ → Type 0
    Each s x = ((get_or s x 0 < i + 1) × Says claim book (get_or s x 0) x (get_or hop x 0)) ⊎ ((get_or s x 0 ≡ 65535) × ((j : ℕ) → j < i + 1 → Says claim book j x (get_or hop x 0) → ⊥))

    one_more : (x : ℕ) → x < 2048 → (Says claim book i x (get_or hop x 0) → ⊥) → Each source x
    one_more x h o = pick (S.each x h)
      where
        pick :
            ((get_or source x 0 < i) × Says claim book (get_or source x 0) x (get_or hop x 0)) ⊎ ((get_or source x 0 ≡ 65535) × ((j : ℕ) → j < i → Says claim book j x (get_or hop x 0) → ⊥))
            → Each source x
        pick (inl p) = inl (omega (arith, p.0), p.1)
        pick (inr p) =
            inr (
              p.0,
              λ j l s.
                  elim (ℕ_discrete j i) [
                    | yes q ↦ o (subst (λ u. Says claim book u x (get_or hop x 0)) q s)
                    | no q ↦ p.1 j (omega arith) s
                  ],
            )

    pub sources-skip : ((x : ℕ) → Says claim book i x (get_or hop x 0) → ⊥) → Sources claim book hop (i + 1) source
    sources-skip o = record { sized = S.sized; each = λ x h. one_more x h (o x) }

    pub sources-store : (a v : ℕ) → v ≡ i → a < 2048 → Says claim book i a (get_or hop a 0) → Sources claim book hop (i + 1) (set source a v)
    sources-store a v f l s =
        let here : get_or (set source a v) a 0 ≡ i = get_or-set_same source a v 0 (omega (arith, S.sized)) ∙ f in
        record {
          sized = length-set source a v ∙ S.sized;
          each = λ x h.
              elim (ℕ_discrete x a) [
                | yes q ↦
                    let z : get_or (set source a v) x 0 ≡ i = ap (λ (u : ℕ). get_or (set source a v) u 0) q ∙ here in
                    inl (omega (arith, z), subst (λ u. Says claim book u x (get_or hop x 0)) (sym z) (subst (λ u. Says claim book i u (get_or hop u 0)) (sym q) s))
                | no q ↦
                    subst (λ u. ((u < i + 1) × Says claim book u x (get_or hop x 0)) ⊎ ((u ≡ 65535) × ((j : ℕ) → j < i + 1 → Says claim book j x (get_or hop x 0) → ⊥)))
                    (sym (get_or-set_other source a x v 0 q))
                    (one_more x h (λ t. q (let z = sym t ∙ s in cc)))
              ];
        }
