-- When one step is justified by what may be cited of the records and by earlier steps. Assumes nothing.
use Rattle.std.specs.Prelude.{ℕ, Bool, false, not, ◌&&◌, List, [], ◌∷◌, eqb, ltb, get_or}
use Rattle.lists.specs.Any.{any}
use Rattle.chain_format.specs.declared.steps.Step.{Step}
use Rattle.chain_format.specs.Step.{step_at, shows}
use Rattle.chain_format.specs.Citing.{Cited, fact, mark, none, marks_piece, marks_some}
use Rattle.chain_format.specs.Rule.{Form, unknown, stored, freely, unmarked, marked, from, rule}

-- some three of the pieces xs pass a test
unfoldable pub some : List ℕ → (ℕ → ℕ → ℕ → Bool) → Bool
some xs test = any (λ g. any (λ h. any (λ k. test g h k) xs) xs) xs

-- the pieces that a step and its premises name
unfoldable pub named : Step → Step → Step → List ℕ
named s p q = s.a ∷ s.b ∷ p.a ∷ p.b ∷ q.a ∷ q.b ∷ []

-- what is cited says what s shows
unfoldable pub cites : Cited → Step → Bool
cites (fact f) s = shows s f
cites (mark g) s = false
cites none s = false

-- the steps p and q show a form's premises, and s shows what follows
unfoldable pub premised : Step → Step → Step → Form → Bool
premised s p q unknown = false
premised s p q stored = false
premised s p q (freely f) = false
premised s p q (unmarked g f) = false
premised s p q (marked g f) = false
premised s p q (from x y f) = shows s f && (shows p x && shows q y)

-- step s, number i, keeps a form, where es has what may be cited of each record. What a form does not need is zero
unfoldable pub keeps : List Cited → ℕ → Step → Step → Step → Form → Bool
keeps es i s p q unknown = false
keeps es i s p q stored = eqb s.second 0 && cites (get_or es s.first none) s
keeps es i s p q (freely f) = (eqb s.first 0 && eqb s.second 0) && shows s f
keeps es i s p q (unmarked g f) = (eqb s.first 0 && eqb s.second 0) && (not (marks_some es g) && shows s f)
keeps es i s p q (marked g f) = eqb s.second 0 && (marks_piece g (get_or es s.first none) && shows s f)
keeps es i s p q (from x y f) = (ltb s.first i && ltb s.second i) && premised s p q (from x y f)

-- s is about pieces of the book, and keeps its rule at some g, h, k
unfoldable pub justified : ℕ → List Cited → ℕ → Step → Step → Step → Bool
justified n es i s p q = (ltb s.a n && ltb s.b n) && some (named s p q) (λ g h k. keeps es i s p q (rule s.rule g h k))

-- step i of the chain c
unfoldable pub step_ok : ℕ → List Cited → List ℕ → ℕ → Bool
step_ok n es c i = justified n es i (step_at c i) (step_at c (step_at c i).first) (step_at c (step_at c i).second)
