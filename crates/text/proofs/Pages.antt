-- The parts of a record's line. Assumes nothing.
use Prim.Native.Nat.{ℕ, zero, suc, ◌+◌, ◌*◌, ◌≤◌, ◌<◌}
use mathlib.Core.Path.{◌≡◌, refl, ap, ◌∙◌}
use mathlib.Core.List.{List, [], ◌∷◌, ◌++◌}
use native.Mathlib.Omega.{arith}
use native.Mathlib.Decide.{ℕ_discrete}
use lib.ListN.{length, get_or, length-append}
use borrow.Author.Tests.{eq-eqb, ne_eqb}
use Rattle.records.specs.declared.Record.{Record}
use Rattle.records.specs.Record.{record_at, records}
use Rattle.pages.specs.Text.{ascii, field, line}
use Rattle.pages.specs.Decimal.{decimal}
use Rattle.pages.proofs.Decimals.{decimal-length}
use Rattle.pages.proofs.Lined.{lines-length}
use Rattle.pages.proofs.Writing.{fitting}
use Rattle.std.specs.Prelude.{Some}
use Rattle.text.specs.Shown.{kind_word, choice_fields, show_record, show_records, ShownLength, Served, AlwaysServed}

-- ## the word of a kind

pub word_none : (k : ℕ) → (k ≡ 1 → ⊥) → (k ≡ 2 → ⊥) → (k ≡ 3 → ⊥) → (k ≡ 4 → ⊥) → (k ≡ 6 → ⊥) → kind_word k ≡ []
unfolding kind_word
word_none zero a b c d e = refl
word_none (suc zero) a b c d e = absurd (a refl)
word_none (suc (suc zero)) a b c d e = absurd (b refl)
word_none (suc (suc (suc zero))) a b c d e = absurd (c refl)
word_none (suc (suc (suc (suc zero)))) a b c d e = absurd (d refl)
word_none (suc (suc (suc (suc (suc k))))) a b c d e = rw (ne_eqb (suc (suc (suc (suc (suc k))))) 6 e)

-- ## the parts of a line

module _ (n : ℕ) (choice : List ℕ) (x : ℕ) where
  pub last-chosen : x ≡ 1 → field (decimal n) 32 ++ (choice ++ (10 ∷ [])) ≡ line (decimal n ∷ choice_fields choice x)
  last-chosen e = rw (eq-eqb x 1 e)

  pub last-plain : (x ≡ 1 → ⊥) → field (decimal n) 10 ≡ line (decimal n ∷ choice_fields choice x)
  last-plain h = rw (ne_eqb x 1 h)

module _ (choice : List ℕ) (r : Record) where
  pub record-void : r.kind ≡ 6 → field (kind_word r.kind) 32 ++ line (decimal r.a ∷ choice_fields choice r.origin) ≡ show_record choice r
  unfolding show_record
  record-void e = rw (eq-eqb r.kind 6 e)

  pub record-else : (r.kind ≡ 6 → ⊥)
      → field (kind_word r.kind) 32 ++ (field (decimal r.a) 32 ++ line (decimal r.b ∷ choice_fields choice r.origin)) ≡ show_record choice r
  unfolding show_record
  record-else h = rw (ne_eqb r.kind 6 h)

-- ## how long they are

word-length : (k : ℕ) → length (kind_word k) ≤ 7
unfolding kind_word
word-length zero = omega arith
word-length (suc zero) = omega arith
word-length (suc (suc zero)) = omega arith
word-length (suc (suc (suc zero))) = omega arith
word-length (suc (suc (suc (suc zero)))) = omega arith
word-length (suc (suc (suc (suc (suc zero))))) = omega arith
word-length (suc (suc (suc (suc (suc (suc zero)))))) = omega arith
word-length (suc (suc (suc (suc (suc (suc (suc k))))))) = rw (ne_eqb (suc (suc (suc (suc (suc (suc (suc k))))))) 6 (λ z. omega arith)) (omega arith)

field-length : (f : List ℕ) (x : ℕ) → length (field f x) ≡ length f + 1
field-length f x = length-append f (x ∷ [])

last-length : (n : ℕ) (choice : List ℕ) (x : ℕ) → n ≤ 65535 → length choice ≤ 7 → length (line (decimal n ∷ choice_fields choice x)) ≤ 14
last-length n choice x h g =
    let d : length (decimal n) ≤ 5 = decimal-length 4 n (omega arith) in
    elim (ℕ_discrete x 1) [
      | yes e ↦ rw (← last-chosen n choice x e) (simp length-append (omega (arith, d)))
      | no e ↦ rw (← last-plain n choice x e) (simp length-append (omega (arith, d)))
    ]

record-length : (choice : List ℕ) (r : Record) → length choice ≤ 7 → r.a ≤ 65535 → r.b ≤ 65535 → length (show_record choice r) ≤ 28
record-length choice r h ha hb =
    let d : length (decimal r.a) ≤ 5 = decimal-length 4 r.a (omega arith) in
    elim (ℕ_discrete r.kind 6) [
      | yes e ↦
          rw (← record-void choice r e)
          (omega (arith, length-append (field (kind_word r.kind) 32) (line (decimal r.a ∷ choice_fields choice r.origin)), field-length (kind_word r.kind) 32, word-length r.kind, last-length r.a choice r.origin ha h))
      | no e ↦
          rw (← record-else choice r e)
          (omega (
            arith,
            length-append (field (kind_word r.kind) 32) (field (decimal r.a) 32 ++ line (decimal r.b ∷ choice_fields choice r.origin)),
            length-append (field (decimal r.a) 32) (line (decimal r.b ∷ choice_fields choice r.origin)),
            field-length (kind_word r.kind) 32,
            field-length (decimal r.a) 32,
            word-length r.kind,
            d,
            last-length r.b choice r.origin hb h,
          ))
    ]

-- ## records of bytes

pair_small : (x y : ℕ) → x < 256 → y < 256 → x + 256 * y ≤ 65535
pair_small x y h g = omega arith

module _ (s : List ℕ) (byte : (k : ℕ) → get_or s k 0 < 256) (i : ℕ) where
  pub small-a : (record_at s i).a ≤ 65535
  unfolding record_at
  small-a = pair_small (get_or s (6 * i + 2) 0) (get_or s (6 * i + 3) 0) (byte (6 * i + 2)) (byte (6 * i + 3))

  pub small_b : (record_at s i).b ≤ 65535
  unfolding record_at
  small_b = pair_small (get_or s (6 * i + 4) 0) (get_or s (6 * i + 5) 0) (byte (6 * i + 4)) (byte (6 * i + 5))

pub records-length : (choice s : List ℕ) → length choice ≤ 7 → ((k : ℕ) → get_or s k 0 < 256) → length (show_records choice s) ≤ 28 * records s
unfolding show_records
records-length choice s h byte =
    lines-length (λ i. show_record choice (record_at s i)) 28 (records s) (λ i l. record-length choice (record_at s i) h (small-a s byte i) (small_b s byte i))

pub shown-length : ShownLength
shown-length s byte = (records-length (ascii "scanner") s (omega arith) byte, records-length (ascii "sheets") s (omega arith) byte)

served : (s text : List ℕ) → (((k : ℕ) → get_or s k 0 < 256) → length text ≤ 28 * records s) → Served s text
served s text short p q r byte h a =
    let f = fitting r a (omega (arith, short byte)) in
    f.1 ∙ ap Some (f.2.counts.1 ∙ ap length f.2.first)

pub always-served : AlwaysServed
always-served s = (served s _ (λ byte. (shown-length s byte).0), served s _ (λ byte. (shown-length s byte).1))
