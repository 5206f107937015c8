-- The fields of the answer's line, without and with the choice of facts. Assumes nothing.
use Prim.Native.Nat.{ℕ, zero, suc}
use mathlib.Core.Path.{◌≡◌, refl}
use mathlib.Core.List.{◌∷◌, [], ◌++◌}
use Rattle.pages.specs.Text.{ascii, field, line}
use Rattle.pages.specs.Decimal.{decimal}
use Rattle.records.specs.declared.Record.{Record}
use Rattle.sentences.specs.Words.{kind_name, answer_name}
use Rattle.chain_pages.specs.AnswerLine.{choice, answer_line}

chosen : (k a b o v : ℕ) → (o ≡ 0 → ⊥)
    → field (kind_name k) 32 ++ (field (decimal a) 32 ++ (field (decimal b) 32 ++ (ascii "sheets " ++ field (answer_name v) 10)))
    ≡ line (kind_name k ∷ decimal a ∷ decimal b ∷ (choice o ++ (answer_name v ∷ [])))
chosen k a b zero v h = absurd (h refl)
chosen k a b (suc o) v h = refl

module _ (r : Record) (v : ℕ) where
  pub from_all : r.origin ≡ 0 → field (kind_name r.kind) 32 ++ (field (decimal r.a) 32 ++ (field (decimal r.b) 32 ++ field (answer_name v) 10)) ≡ answer_line r v
  unfolding answer_line
  from_all is = rw is

  pub from-sheets : (r.origin ≡ 0 → ⊥)
      → field (kind_name r.kind) 32 ++ (field (decimal r.a) 32 ++ (field (decimal r.b) 32 ++ (ascii "sheets " ++ field (answer_name v) 10))) ≡ answer_line r v
  unfolding answer_line
  from-sheets h = chosen r.kind r.a r.b r.origin v h
