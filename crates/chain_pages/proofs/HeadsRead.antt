-- The first line is read back. Assumes nothing.
use Prim.Native.Nat.{ℕ, zero, suc, ◌+◌, ◌*◌, ◌≤◌}
use mathlib.Core.Path.{◌≡◌, refl, ap, ◌∙◌}
use mathlib.Core.Bool.{true}
use mathlib.Core.List.{List, [], ◌∷◌, ◌++◌, append_assoc}
use native.Mathlib.Omega.{arith}
use lib.ListN.{get_or, get_or-append}
use Rattle.pages.specs.Text.{line}
use Rattle.pages.specs.Decimal.{decimal}
use Rattle.records.specs.declared.Record.{Record}
use Rattle.verdicts.specs.declared.Answer.{Answer}
use Rattle.verdicts.specs.declared.Answer.TheVariants.{Follows, Denied, Open}
use Rattle.verdicts.specs.Answers.{answer_byte}
use Rattle.text.specs.Number.{is_digit}
use Rattle.pages.specs.Entry.{entry}
use Rattle.sentences.specs.Words.{kind_name, answer_name}
use Rattle.chain_pages.specs.AnswerLine.{choice, answer_line}
use Rattle.chain_pages.specs.Read.{after, num, kind_by, origin_by, answer_by, claim_in, answer_in}
use Rattle.chain_pages.proofs.Gaps.{gaps, gaps-append, after_is, num-is}
use Rattle.chain_pages.proofs.Grounds.{KindRead, kind-read}

-- what stands behind the numbers
unfoldable pub told : ℕ → Answer → List ℕ
told o answer = 32 ∷ line (choice o ++ (answer_name (answer_byte answer) ∷ []))

record Told (o : ℕ) (answer : Answer) (t : List ℕ) : Type 0 where
  plain : gaps (told o answer) ≡ true
  origin : origin_by (get_or (told o answer ++ t) 1 0) ≡ o
  answer-is : answer_by (get_or (told o answer ++ t) (1 + 7 * o) 0) ≡ answer

telling : (o : ℕ) (answer : Answer) (t : List ℕ) → o ≤ 1 → (answer ≡ Open → ⊥) → Told o answer t
unfolding told gaps origin_by answer_by answer_name entry is_digit
telling zero Follows t h d = record { plain = refl; origin = refl; answer-is = refl }
telling zero Denied t h d = record { plain = refl; origin = refl; answer-is = refl }
telling zero Open t h d = absurd (d refl)
telling (suc zero) Follows t h d = record { plain = refl; origin = refl; answer-is = refl }
telling (suc zero) Denied t h d = record { plain = refl; origin = refl; answer-is = refl }
telling (suc zero) Open t h d = absurd (d refl)
telling (suc (suc o)) answer t h d = absurd (omega arith)

head-is : (k a b o : ℕ) (answer : Answer) (t : List ℕ)
    → line (kind_name k ∷ decimal a ∷ decimal b ∷ (choice o ++ (answer_name (answer_byte answer) ∷ []))) ++ t
    ≡ (kind_name k ++ (32 ∷ [])) ++ (decimal a ++ (32 ∷ (decimal b ++ (told o answer ++ t))))
unfolding told
head-is k a b zero answer t = simp append_assoc
head-is k a b (suc o) answer t = simp append_assoc

module _ (r : Record) (answer : Answer) (t : List ℕ) (low : 1 ≤ r.kind) (high : r.kind ≤ 4) (choices : r.origin ≤ 1) (ha : r.a ≤ 65535) (hb : r.b ≤ 65535)
    (answered : answer ≡ Open → ⊥) where
  abbrev page : List ℕ
  page = answer_line r (answer_byte answer) ++ t

  abbrev gap : List ℕ
  gap = kind_name r.kind ++ (32 ∷ [])

  kind_ok : KindRead r.kind
  kind_ok = kind-read r.kind low high

  ok : Told r.origin answer t
  ok = telling r.origin answer t choices answered

  form : page ≡ gap ++ (decimal r.a ++ (32 ∷ (decimal r.b ++ (told r.origin answer ++ t))))
  unfolding answer_line
  form = head-is r.kind r.a r.b r.origin answer t

  gap-ok : gaps gap ≡ true
  unfolding gaps is_digit
  gap-ok = gaps-append (kind_name r.kind) (32 ∷ []) kind_ok.plain refl

  after-a : after page ≡ 32 ∷ (decimal r.b ++ (told r.origin answer ++ t))
  unfolding is_digit
  after-a = ap after form ∙ after_is 32 _ refl gap r.a gap-ok

  pub head-left : after (after page) ≡ told r.origin answer ++ t
  unfolding is_digit gaps told
  head-left = ap after after-a ∙ after_is 32 _ refl (32 ∷ []) r.b refl

  num-a : num page ≡ r.a
  unfolding is_digit
  num-a = ap num form ∙ num-is 32 _ refl gap r.a gap-ok ha

  num-b : num (after page) ≡ r.b
  unfolding is_digit gaps told
  num-b = ap num after-a ∙ num-is 32 _ refl (32 ∷ []) r.b refl hb

  kind-is : kind_by (get_or page 0 0) ≡ r.kind
  kind-is =
      ap (λ (l : List ℕ). kind_by (get_or l 0 0)) (form ∙ append_assoc (kind_name r.kind) (32 ∷ []) _)
      ∙ ap kind_by (get_or-append (kind_name r.kind) _ 0 0 kind_ok.some) ∙ kind_ok.by

  pub claim-read : claim_in page ≡ r
  unfolding claim_in
  claim-read = rw (head-left, ok.origin, num-a, num-b, kind-is)

  pub answer-read : answer_in page ≡ answer
  unfolding answer_in
  answer-read = rw (claim-read, head-left) ok.answer-is

  pub head_plain : gaps (told r.origin answer) ≡ true
  head_plain = ok.plain
