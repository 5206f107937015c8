-- The words of kinds and rules are read back. Assumes nothing.
use Prim.Native.Nat.{ℕ, zero, suc, ◌/◌, ◌≤◌, ◌<◌}
use mathlib.Core.Path.{◌≡◌, refl, sym, ap, ◌∙◌}
use mathlib.Core.Bool.{Bool, true, false, not, ◌&&◌, false≢true}
use mathlib.Core.List.{List, [], ◌∷◌, ◌++◌, append_assoc}
use native.Mathlib.Omega.{arith}
use lib.Dec.{eqb, leb}
use lib.ListN.{length, get_or, length-append, get_or-append}
use borrow.Author.Tests.{eqb-true, leb-true}
use Rattle.lists.specs.Any.{any_below}
use Rattle.lists.proofs.Anys.{below-hit}
use Rattle.lists.proofs.Bools.{Known, is_true, is_false, known, and_both}
use Rattle.pages.specs.Text.{field, line}
use Rattle.pages.specs.Decimal.{decimal}
use Rattle.pages.specs.Entry.{entry}
use Rattle.sentences.specs.Words.{kind_name}
use Rattle.chain_format.specs.declared.steps.Step.{Step}
use Rattle.text.specs.Number.{is_digit}
use Rattle.chain_pages.specs.StepLine.{grounds, count, numbers}
use Rattle.chain_pages.specs.Read.{after, num, num_if, after_if, place_in, kind_by, rule_by, rule_in}
use Rattle.chain_pages.proofs.Gaps.{gaps, gaps-append, after_is, num-is}

-- a test that holds of all below n, by computation
all-below : (f : ℕ → Bool) (n k : ℕ) → any_below (λ i. not (f i)) n ≡ false → k < n → f k ≡ true
all-below f n k none h = go (known (f k))
  where
    go : Known (f k) → f k ≡ true
    go (is_true e) = e
    go (is_false e) = absurd (false≢true (sym none ∙ below-hit (λ i. not (f i)) n k h (ap not e)))

-- ---- kinds 1 to 4

unfoldable good_kind : ℕ → Bool
good_kind k = gaps (kind_name k) && (leb 1 (length (kind_name k)) && eqb (kind_by (get_or (kind_name k) 0 0)) k)

kinds-good : any_below (λ i. not (good_kind (suc i))) 4 ≡ false
unfolding good_kind gaps kind_name entry kind_by place_in any_below is_digit
kinds-good = refl

pub record KindRead (k : ℕ) : Type 0 where
  pub plain : gaps (kind_name k) ≡ true
  pub some : 1 ≤ length (kind_name k)
  pub by : kind_by (get_or (kind_name k) 0 0) ≡ k

pub kind-read : (k : ℕ) → 1 ≤ k → k ≤ 4 → KindRead k
unfolding good_kind
kind-read zero g h = absurd (omega arith)
kind-read (suc k) g h =
    let a = and_both (gaps (kind_name (suc k))) _ (all-below (λ i. good_kind (suc i)) 4 k kinds-good (omega arith)) in
    let b = and_both (leb 1 (length (kind_name (suc k)))) _ a.1 in
    record { plain = a.0; some = leb-true 1 _ b.0; by = eqb-true _ (suc k) b.1 }

-- ---- rules 0 to 11

-- the byte behind the words
abbrev ending : ℕ → ℕ
ending zero = 10
ending (suc n) = 32

unfoldable good_rule : ℕ → Bool
good_rule k =
    gaps (entry k grounds)
    && (leb (count k) 2
    && (leb 6 (length (entry k grounds))
    && eqb (rule_by (get_or (field (entry k grounds) (ending (count k))) 5 0) (get_or (field (entry k grounds) (ending (count k))) 6 0)) k))

rules-good : any_below (λ i. not (good_rule i)) 12 ≡ false
unfolding good_rule gaps entry count rule_by place_in any_below is_digit
rules-good = refl

pub record RuleRead (k : ℕ) : Type 0 where
  pub plain : gaps (entry k grounds) ≡ true
  pub few : count k ≤ 2
  pub some : 6 ≤ length (entry k grounds)
  pub by : rule_by (get_or (field (entry k grounds) (ending (count k))) 5 0) (get_or (field (entry k grounds) (ending (count k))) 6 0) ≡ k

pub rule-read : (k : ℕ) → k < 12 → RuleRead k
unfolding good_rule
rule-read k h =
    let a = and_both (gaps (entry k grounds)) _ (all-below good_rule 12 k rules-good h) in
    let b = and_both (leb (count k) 2) _ a.1 in
    let c = and_both (leb 6 (length (entry k grounds))) _ b.1 in
    record { plain = a.0; few = leb-true _ 2 b.0; some = leb-true 6 _ c.0; by = eqb-true _ k c.1 }

-- ---- what a step rests on, behind a space and before other lines

module _ (w : List ℕ) (s : Step) (r : List ℕ) where
  abbrev pub resting : ℕ → List ℕ
  resting n = 32 ∷ (line (w ∷ numbers n s) ++ r)

  -- the bytes of the words, and the one behind them
  words-first : (n i : ℕ) → i < length (field w (ending n)) → get_or (line (w ∷ numbers n s) ++ r) i 0 ≡ get_or (field w (ending n)) i 0
  words-first zero i h = get_or-append (field w 10) r 0 i h
  words-first (suc zero) i h =
      ap (λ (l : List ℕ). get_or l i 0) (append_assoc (field w 32) (field (decimal s.first) 10) r) ∙ get_or-append (field w 32) _ 0 i h
  words-first (suc (suc n)) i h =
      ap (λ (l : List ℕ). get_or l i 0) (append_assoc (field w 32) (field (decimal s.first) 32 ++ field (decimal s.second) 10) r)
      ∙ get_or-append (field w 32) _ 0 i h

  abbrev gap : List ℕ
  gap = 32 ∷ (w ++ (32 ∷ []))

  one_number : resting 1 ≡ gap ++ (decimal s.first ++ (10 ∷ r))
  one_number = simp append_assoc

  two-numbers : resting 2 ≡ gap ++ (decimal s.first ++ (32 ∷ (decimal s.second ++ (10 ∷ r))))
  two-numbers = simp append_assoc

  -- the numbers, and what is left: no digits before the other lines
  pub record Rested (n : ℕ) : Type 0 where
    pub first : num_if n (resting n) ≡ s.first
    pub second : num_if (n / 2) (after_if n (resting n)) ≡ s.second
    pub between : List ℕ
    pub plain : gaps between ≡ true
    pub left : after_if (n / 2) (after_if n (resting n)) ≡ between ++ r

  module _ (plain : gaps w ≡ true) (hf : s.first ≤ 65535) (hs : s.second ≤ 65535) where
    behind-words : (x : ℕ) → not (is_digit x) ≡ true → gaps (32 ∷ (w ++ (x ∷ []))) ≡ true
    unfolding gaps is_digit
    behind-words x e = gaps-append w (x ∷ []) plain (rw e)

    pub rested : (n : ℕ) → n ≤ 2 → (n ≡ 0 → s.first ≡ 0) → (n ≤ 1 → s.second ≡ 0) → Rested n
    unfolding gaps is_digit
    rested zero few zf zs =
        record { first = sym (zf refl); second = sym (zs (omega arith)); between = 32 ∷ field w 10; plain = behind-words 10 refl; left = refl }
    rested (suc zero) few zf zs =
        record {
          first = ap num one_number ∙ num-is 10 r refl gap s.first (behind-words 32 refl) hf;
          second = sym (zs (omega arith));
          between = 10 ∷ [];
          plain = refl;
          left = ap after one_number ∙ after_is 10 r refl gap s.first (behind-words 32 refl);
        }
    rested (suc (suc zero)) few zf zs =
        let more = decimal s.second ++ (10 ∷ r) in
        let behind : after (resting 2) ≡ 32 ∷ more = ap after two-numbers ∙ after_is 32 more refl gap s.first (behind-words 32 refl) in
        record {
          first = ap num two-numbers ∙ num-is 32 more refl gap s.first (behind-words 32 refl) hf;
          second = ap num behind ∙ num-is 10 r refl (32 ∷ []) s.second refl hs;
          between = 10 ∷ [];
          plain = refl;
          left = ap after behind ∙ after_is 10 r refl (32 ∷ []) s.second refl;
        }
    rested (suc (suc (suc n))) few zf zs = absurd (omega arith)

-- the rule
pub rule-peeked : (s : Step) (r : List ℕ) (k : ℕ) → RuleRead k → rule_in (resting (entry k grounds) s r (count k)) ≡ k
unfolding rule_in
rule-peeked s r k h =
    let w = entry k grounds in
    let long : 6 < length (field w (ending (count k))) = omega (arith, length-append w (ending (count k) ∷ []), h.some) in
    rw (words-first w s r (count k) 5 (omega arith), words-first w s r (count k) 6 long) h.by
