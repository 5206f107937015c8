-- No piece lies on two ways of a chain: the facts have a model, in which it would have to be empty, or have a place outside. Assumes nothing.
use Prim.Native.Nat.{ℕ, ◌<◌}
use mathlib.Core.Path.{◌≡◌, refl, sym, ap, ◌∙◌}
use mathlib.Core.Bool.{Bool, true, false, not, ◌&&◌, false≢true}
use mathlib.Core.List.{List}
use lib.ListN.{get_or}
use Rattle.lists.proofs.Bools.{Known, is_true, is_false, known, both-and}
use Rattle.matrices.specs.Matrix.{bit_of}
use Rattle.rules.specs.Fact.{Fact, PART, APART, MEETS, NOTPART, unmarked}
use Rattle.rules.specs.Model.{Model, keeps, keeps_all}
use Rattle.rules.specs.Derives.{Derives, stored}
use Rattle.rules.proofs.Paths.{Path, here, top, up, leap}
use Rattle.rules.proofs.Decides.{follows-shape}
use Rattle.rules.proofs.Models.{consistent-model}
use Rattle.rules.proofs.Sound.{sound}
use Rattle.records.specs.declared.Record.{Record}
use Rattle.records.specs.Facts.{facts}
use Rattle.records.specs.Kept.{picked}
use Rattle.records.specs.Marked.{marked}
use Rattle.closure.specs.Void.{void_of}
use Rattle.chain_format.specs.declared.steps.Step.{Step}
use Rattle.chain_format.specs.Step.{shows}
use Rattle.chain_format.specs.Citing.{Cited, fact, mark, none, citing}
use Rattle.chain_format.specs.Justified.{cites}
use Rattle.chain_format.proofs.Citings.{cited-picked, marks-same}
use Rattle.chain_format.proofs.Showing.{shown-same}
use Rattle.derivations.specs.Lifts.{Unmarked, Inside, Between, Disjoint}
use Rattle.derivations.specs.Found.{Ground}
use Rattle.derivations.proofs.Grounds.{positive, within, bare, telling}

module _ {n : ℕ} {claim : Record} {s voids e d t : List ℕ} (G : Ground n claim s voids e d t) where
  abbrev fs : List Fact
  fs = facts (picked s claim)

  -- what a step that cites a record shows has a derivation
  pub cited-derives : (x : Step) → cites (get_or (citing claim s) x.first none) x ≡ true → (f : Fact) → shows x f ≡ true → Derives (marked s) n fs f
  unfolding cites
  cited-derives x c f q = pick (get_or (citing claim s) x.first none) refl c
    where
      pick : (z : Cited) → get_or (citing claim s) x.first none ≡ z → cites z x ≡ true → Derives (marked s) n fs f
      pick (fact g) p o = shown-same x g f o q (stored (cited-picked claim s x.first g p).1)
      pick (mark g) p o = absurd (false≢true o)
      pick none p o = absurd (false≢true o)

  -- ---- the model

  modelled : (M : Model (marked s) n) × keeps_all M fs
  modelled = consistent-model (marked s) n fs (within G) (positive G) (bare G) (sym G.free)

  abbrev M : Model (marked s) n
  M = modelled.0

  keeping : (f : Fact) → Derives (marked s) n fs f → keeps M f
  keeping f q = sound M modelled.1 f q

  path-keeps : {x y : ℕ} → Path unmarked n fs x y → keeps M (PART x y)
  path-keeps (here l) = λ p b h. h
  path-keeps (top l w) = λ p b h. path-keeps w p b (M.whole p b)
  path-keeps (up m w) = λ p b h. path-keeps w p b (modelled.1 _ m p b h)
  path-keeps (leap c l r w) = absurd (false≢true c)

  inside-keeps : {x y : ℕ} → x < n → y < n → Inside n claim s x y → keeps M (PART x y)
  inside-keeps {x} {y} lx ly q = path-keeps ((follows-shape unmarked n fs (within G) (positive G) (PART x y) (lx, ly)).0 q)

  module _ {g k w : ℕ} (lg : g < n) (lk : k < n) (B : Between n claim s g k w) where
    into : keeps M (PART g w)
    into = inside-keeps lg B.present B.over

    out_of : keeps M (PART w k)
    out_of = inside-keeps B.present lk B.under

  -- ---- the ways of each kind

  -- a in x, b in y, where x APART y
  pub apart-disjoint : {x y a b : ℕ} → x < n → y < n → a < n → b < n → marked s a ≡ false → Derives (marked s) n fs (APART x y) → Disjoint n claim s a x b y
  apart-disjoint {x} {y} {a} {b} lx ly la lb m q w B C =
      let p = M.full a la m in
      let i = into la lx B p.0 p.1 p.2 in
      keeping (APART x y) q p.0 p.1 (out_of la lx B p.0 p.1 i) (out_of lb ly C p.0 p.1 i)

  -- x in a, b in y, where x NOTPART y
  pub notpart-disjoint : {x y a b : ℕ} → x < n → y < n → a < n → b < n → Derives (marked s) n fs (NOTPART x y) → Disjoint n claim s x a b y
  notpart-disjoint {x} {y} lx ly la lb q w B C = keeping (NOTPART x y) q (λ p l h. out_of lb ly C p l (into lx la B p l h))

  -- x in a, y in b, where x MEETS y: a piece between is marked where the search for a common piece passed it over
  pub meets-disjoint :
      {x y a b : ℕ} → x < n → y < n → a < n → b < n → Derives (marked s) n fs (MEETS x y)
      → ((w : ℕ) → w < n → (not (void_of voids w) && (bit_of d a w && bit_of d b w)) ≡ false) → Disjoint n claim s x a y b
  meets-disjoint {x} {y} {a} {b} lx ly la lb q off w B C = pick (known (marked s w))
    where
      common : (bit_of d a w && bit_of d b w) ≡ true
      common = both-and ((telling G).tells w a B.present la ∙ B.under) ((telling G).tells w b B.present lb ∙ C.under)

      pick : Known (marked s w) → ⊥
      pick (is_true m) = keeping (MEETS x y) q (λ p l h i. false≢true (sym (M.bare w B.present m p l) ∙ into lx la B p l h))
      pick (is_false m) = false≢true (sym (off w B.present) ∙ both-and (ap not (ap (λ (f : ℕ → Bool). f w) G.void.1 ∙ m)) common)

  -- a piece in which one lies that meets itself is not marked
  pub meets-unmarked : {x y : ℕ} → x < n → x ≡ y → Derives (marked s) n fs (MEETS x y) → Unmarked n claim s x
  meets-unmarked {x} {y} lx e q w lw i = marks-same claim s w ∙ pick (known (marked s w))
    where
      pick : Known (marked s w) → marked s w ≡ false
      pick (is_true m) = absurd (keeping (MEETS x y) q (λ p l h j. false≢true (sym (M.bare w lw m p l) ∙ inside-keeps lx lw i p l h)))
      pick (is_false m) = m

  -- b in u, x in z in a and y in w in v, where u APART v and x MEETS y
  pub outside-disjoint :
      {a b u v x y : ℕ} → a < n → b < n → u < n → v < n → x < n → y < n → Derives (marked s) n fs (APART u v) → Derives (marked s) n fs (MEETS x y) → Inside n claim s y v
      → (z w : ℕ) → z < n → w < n → Inside n claim s x z → Inside n claim s y w → Disjoint n claim s b u z a × Disjoint n claim s b u w v
  outside-disjoint {a} {b} {u} {v} {x} {y} la lb lu lv lx ly q r i z w lz lw iz iw = (
    λ o B C. keeping (MEETS x y) r (λ p l h j. keeping (APART u v) q p l (out_of lb lu B p l (into lz la C p l (inside-keeps lx lz iz p l h))) (inside-keeps ly lv i p l j)),
    λ o B C. keeping (MEETS x y) r (λ p l h j. keeping (APART u v) q p l (out_of lb lu B p l (into lw lv C p l (inside-keeps ly lw iw p l j))) (inside-keeps ly lv i p l j)),
  )
