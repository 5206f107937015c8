-- From the facts to ways: every piece that is part of k is met, and each hop is a record's or (f)'s. Assumes nothing.
use Prim.Native.Nat.{ℕ, suc, ◌≤◌, ◌<◌}
use mathlib.Core.Path.{◌≡◌, sym, subst}
use mathlib.Core.Logic.{◌⊎◌, inl, inr}
use mathlib.Core.Bool.{true, false≢true}
use mathlib.Core.List.{List, Memᴰ}
use native.Mathlib.Omega.{arith}
use native.Mathlib.Decide.{ℕ_discrete}
use lib.ListN.{get_or}
use Rattle.rules.specs.Fact.{Fact, PART, unmarked, AllWithin}
use Rattle.rules.specs.Derives.{Derives, stored, rule-a, rule-c, rule-f}
use Rattle.rules.specs.Follows.{follows}
use Rattle.chain_format.specs.Citing.{citing}
use Rattle.rules.proofs.Paths.{Path, here, top, up, leap}
use Rattle.rules.proofs.Decides.{follows-shape, follows-iff}
use Rattle.records.specs.declared.Record.{Record}
use Rattle.records.specs.Record.{records}
use Rattle.records.specs.Facts.{facts}
use Rattle.records.specs.Kept.{picked}
use Rattle.chain_format.proofs.Citings.{picked-cited}
use Rattle.derivations.specs.Hops.{Hop, recorded, crowned, Way, arrived, onward, Reaches, Met, Hopped, Sourced}
use Rattle.derivations.specs.Sources.{Says, Sources, Stepped}
use Rattle.derivations.specs.Climbs.{Contained}
use Rattle.derivations.specs.Distinct.{Upward, begun, higher}
use Rattle.derivations.proofs.Distincts.{distinct-weaken}
use Rattle.derivations.specs.Lifts.{Setting, Inside, Between, Reached}

pub all-wider : (n : ℕ) (fs : List Fact) → n ≤ 2048 → AllWithin n fs → AllWithin 2048 fs
all-wider n fs l w f m = let b = w f m in (omega (arith, b.0), omega (arith, b.1))

module _ (n : ℕ) (e hop : List ℕ) (small : n ≤ 2048) where
  -- 2048 leads nowhere
  way-met : (k x l : ℕ) → k < n → Way hop k x (suc l) → Met hop x
  way-met k x l lk (onward b w) z = stuck (subst (λ u. Way hop k u l) z w)
    where
      stuck : {l : ℕ} → Way hop k 2048 l → ⊥
      stuck (arrived q) = omega arith
      stuck (onward b w) = omega arith

  module _ (claim : Record) (book source : List ℕ) (few : records book ≤ 8192) (S : Sources claim book hop (records book) source) (T : Stepped n (facts (picked book claim)) e) where
    hop-of : (x : ℕ) → x < n → Memᴰ (PART x (get_or hop x 0)) (facts (picked book claim)) ⊎ (get_or hop x 0 ≡ 0) → Hop (citing claim book) x (get_or hop x 0) (get_or source x 0)
    hop-of x l why = pick (S.each x (omega arith)) why
      where
        pick :
            ((get_or source x 0 < records book) × Says claim book (get_or source x 0) x (get_or hop x 0))
            ⊎ ((get_or source x 0 ≡ 65535) × ((j : ℕ) → j < records book → Says claim book j x (get_or hop x 0) → ⊥))
            → Memᴰ (PART x (get_or hop x 0)) (facts (picked book claim)) ⊎ (get_or hop x 0 ≡ 0) → Hop (citing claim book) x (get_or hop x 0) (get_or source x 0)
        pick (inl p) w = recorded (λ z. omega (arith, p.0)) p.1
        pick (inr p) (inl m) = let r = picked-cited claim book (PART x (get_or hop x 0)) m in absurd (p.1 r.0 r.1 r.2)
        pick (inr p) (inr z) = crowned p.0 z

    pub sourced : (k : ℕ) → k < n → Hopped n e k hop → Sourced n (citing claim book) hop source k
    sourced k lk H =
        record {
          each = λ x l lx o w.
              let s = H.steps x lx (way-met k x l lk w) o in
              (s.0, hop-of x lx (T.sound x (get_or hop x 0) lx s.0 s.1));
        }

  module _ (fs : List Fact) (i : AllWithin n fs) (p : 0 < n) (T : Stepped n fs e) where
    path-met : {x k : ℕ} → Hopped n e k hop → Path unmarked n fs x k → Met hop x
    path-met H (here l) = H.start
    path-met {x} H (top l w) = elim (ℕ_discrete x 0) [ yes q ↦ subst (Met hop) (sym q) (path-met H w) | no q ↦ H.parts x 0 p (path-met H w) l (T.crown x (omega arith) l) ]
    path-met {x} H (up {h = h} m w) = H.parts x h (i _ m).1 (path-met H w) (i _ m).0 (T.stored x h m)
    path-met H (leap c l r w) = absurd (false≢true c)

    pub part-reaches : (g k : ℕ) → g < n → k < n → Hopped n e k hop → follows unmarked n fs (PART g k) ≡ true → Reaches hop k g 2047
    part-reaches g k lg lk H f = H.ways g lg (path-met H ((follows-shape unmarked n fs i p (PART g k) (lg, lk)).0 f))

    -- ---- each hop is a derivation, and so is a way

    module _ (k : ℕ) (lk : k < n) (H : Hopped n e k hop) where
      hop-derives : (x l : ℕ) → x < n → (x ≡ k → ⊥) → Way hop k x (suc l) → (get_or hop x 0 < n) × Derives unmarked n fs (PART x (get_or hop x 0))
      hop-derives x l lx o w = let s = H.steps x lx (way-met k x l lk w) o in (s.0, pick (T.sound x (get_or hop x 0) lx s.0 s.1))
        where
          pick : Memᴰ (PART x (get_or hop x 0)) fs ⊎ (get_or hop x 0 ≡ 0) → Derives unmarked n fs (PART x (get_or hop x 0))
          pick (inl m) = stored m
          pick (inr z) = subst (λ u. Derives unmarked n fs (PART x u)) (sym z) (rule-f lx)

      way-derives : {x l : ℕ} → x < n → Way hop k x l → Derives unmarked n fs (PART x k)
      way-derives {x} lx (arrived q) = subst (λ u. Derives unmarked n fs (PART x u)) q (rule-c lx)
      way-derives {x} lx (onward {l = l} b w) =
          elim (ℕ_discrete x k) [
            | yes q ↦ subst (λ u. Derives unmarked n fs (PART x u)) q (rule-c lx)
            | no q ↦ let d = hop-derives x l lx q (onward b w) in rule-a d.1 (way-derives d.0 w)
          ]

      -- a piece met on the way from g lies between
      abbrev Lies : ℕ → ℕ → Type 0
      Lies g w = (w < n) × Derives unmarked n fs (PART g w) × Derives unmarked n fs (PART w k)

      next : {g x l : ℕ} (w : ℕ) → x < n → Derives unmarked n fs (PART g x) → (x ≡ k → ⊥) → Way hop k x (suc l) → w ≡ get_or hop x 0 → Lies g w
      next {g} {x} {l} w lx d o (onward b v) e =
          let s = hop-derives x l lx o (onward b v) in
          subst (Lies g) (sym e) (s.0, rule-a d s.1, way-derives s.0 v)

      lies : {g w : ℕ} → g < n → Upward hop k g w → Lies g w
      lies {g} {w} lg (begun o v e) = next w lg (rule-c lg) o v e
      lies {g} {w} lg (higher u o v e) = let z = lies lg u in next w z.0 z.1 o v e

      pub lies-between : {g w : ℕ} → g < n → Upward hop k g w → (w < n) × (follows unmarked n fs (PART g w) ≡ true) × (follows unmarked n fs (PART w k) ≡ true)
      lies-between {g} {w} lg u =
          let z = lies lg u in
          (z.0, (follows-iff unmarked n fs i p (PART g w) (lg, z.0)).1 z.1, (follows-iff unmarked n fs i p (PART w k) (z.0, lk)).1 z.2)

pub inside-itself : {n : ℕ} {claim : Record} {book e : List ℕ} → Setting n claim book e → (g : ℕ) → g < n → Inside n claim book g g
inside-itself {n} {claim} {book} S g lg = (follows-iff unmarked n (facts (picked book claim)) S.within (omega arith) (PART g g) (lg, lg)).1 (rule-c lg)

-- the hops to k, in a book
module _ {n : ℕ} {claim : Record} {book e hop : List ℕ} {k : ℕ} (S : Setting n claim book e) (lk : k < n) (H : Hopped n e k hop) where
  pub hops-sourced : {source : List ℕ} → Sources claim book hop (records book) source → Sourced n (citing claim book) hop source k
  hops-sourced {source} O = sourced n e hop S.small claim book source S.few O S.stepped k lk H

  pub upward-between : {g w : ℕ} → g < n → Upward hop k g w → Between n claim book g k w
  upward-between lg u = let l = lies-between n e hop S.small _ S.within (omega arith) S.stepped k lk H lg u in record { over = l.1; under = l.2; present = l.0 }

-- the writer of containment, in a book
module _ {n : ℕ} {claim : Record} {book e hop : List ℕ} {g k : ℕ} (S : Setting n claim book e) (lg : g < n) (lk : k < n) (H : Hopped n e k hop) (w : Inside n claim book g k) where
  abbrev p : 0 < n
  p = omega arith

  pub reaches : Reaches hop k g 2047
  reaches = part-reaches n e hop S.small _ S.within p S.stepped g k lg lk H w

  pub contained-reached : {source c c' : List ℕ} {m m' : ℕ} → Sources claim book hop (records book) source → Contained hop source k g c m c' m' → Reached n claim book g k c m c' m'
  contained-reached {source} {c} {c'} {m} {m'} O C =
      record {
        writes =
            record {
              more = C.more;
              few = omega (arith, C.few 2047 (omega arith) reaches);
              edited = C.edited;
              shown = C.shown;
              ok = C.ok n (citing claim book) (hops-sourced S lk H O) lg;
            };
        differ = elim (ℕ_discrete g k) [ yes q ↦ λ i j a b h. absurd (omega (arith, C.few 1 (omega arith) (0, omega arith, arrived q))) | no q ↦ (C.steps q).differ ];
        steps = λ o. distinct-weaken (λ z r. (r.0, upward-between S lk H lg r.1)) (C.steps o);
      }
