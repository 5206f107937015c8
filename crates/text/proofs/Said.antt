-- What a line says, word by word as the code reads it. Assumes nothing.
use Prim.Native.Nat.{ℕ, ◌-◌}
use mathlib.Core.Path.{◌≡◌, refl, sym, ap, ◌∙◌}
use mathlib.Core.List.{List, [], ◌∷◌}
use native.Mathlib.Omega.{arith}
use lib.ListN.{length, take, drop, length-drop}
use lib.Seq.{length-take-le}
use borrow.Author.Tests.{eq-eqb, ne_eqb}
use Rattle.std.specs.Prelude.{Option, Some, None, Ok, Err}
use Rattle.std.specs.Option.{ok_or}
use Rattle.lists.proofs.Parts.{empty}
use Rattle.text.specs.declared.Form.{Form}
use Rattle.text.specs.declared.Form.TheVariants.{Records, Claims, Log}
use Rattle.text.specs.declared.Reason.{Reason}
use Rattle.text.specs.declared.Reason.TheVariants.{NotKind, WordTooMany}
use Rattle.text.specs.Word.{word, rest}
use Rattle.text.specs.Names.{kind_of, choice_of}
use Rattle.text.specs.Line.{Said, entry, if_none, if_there, with_number, bad_choice, lastly, secondly, kinded, logged, said, some_entry, line_of}
use Rattle.text.specs.Reading.{WordAt, NumberAt, NoNumberAt}

-- ## whether there is a word

pub if_some : {A : Type 0} (w : List ℕ) (x y : A) → (length w ≡ 0 → ⊥) → if_none w x y ≡ y
if_some [] x y h = absurd (h refl)
if_some (a ∷ w) x y h = refl

module _ {l : List ℕ} {at from to : ℕ} (w : WordAt l at from to) where
  word-length : length (word (drop at l)) ≡ to - from
  word-length = ap length (sym w.is) ∙ length-take-le (to - from) (drop from l) (omega (arith, length-drop from l))

  pub no_word : from ≡ to → word (drop at l) ≡ []
  no_word e = empty (word (drop at l)) (omega (arith, word-length))

  pub some_word : (from ≡ to → ⊥) → length (word (drop at l)) ≡ 0 → ⊥
  some_word h z = h (omega (arith, word-length))

-- ## behind the numbers

module _ (form : Form) (kind a b : ℕ) (l : List ℕ) (at from to : ℕ) (w : WordAt l at from to) where
  pub last_none : from ≡ to → Ok (entry kind 0 a b) ≡ lastly form kind a b (drop at l)
  unfolding lastly
  last_none e = rw (no_word w e)

  module _ (s : from ≡ to → ⊥) where
    pub last-bad : choice_of form (take (to - from) (drop from l)) ≡ None → Err (bad_choice form) ≡ lastly form kind a b (drop at l)
    unfolding lastly
    last-bad z = rw (if_some (word (drop at l)) _ _ (some_word w s), ← w.is, z)

    module _ (c : ℕ) (e : choice_of form (take (to - from) (drop from l)) ≡ Some c) (f t : ℕ) (v : WordAt l to f t) where
      pub last_more : (f ≡ t → ⊥) → Err WordTooMany ≡ lastly form kind a b (drop at l)
      unfolding lastly
      last_more h =
          rw (if_some (word (drop at l)) _ _ (some_word w s), ← w.left, ← w.is, e)
          (sym (if_some (word (drop to l)) _ _ (some_word v h)))

      pub last-choice : f ≡ t → Ok (entry kind c a b) ≡ lastly form kind a b (drop at l)
      unfolding lastly
      last-choice h = rw (if_some (word (drop at l)) _ _ (some_word w s), ← w.left, ← w.is, e, no_word v h)

-- ## what must stand there, by `ok_or`

pub there : {o : Option ℕ} (e : Reason) {n : ℕ} → Ok n ≡ ok_or o e → o ≡ Some n
there {o = None} e q = cc
there {o = Some m} e q = cc

pub nothing-there : {o : Option ℕ} (e : Reason) {x : Reason} → Err x ≡ ok_or o e → (o ≡ None) × (x ≡ e)
nothing-there {o = None} e q = (refl, cc)
nothing-there {o = Some m} e q = cc

-- ## numbers

module _ {l : List ℕ} {at : ℕ} (more : ℕ → List ℕ → Said) where
  pub number-no : {reason : Reason} → NoNumberAt l at reason → Err reason ≡ with_number (drop at l) more
  unfolding with_number
  number-no h = rw (h.none, h.why)

  pub number-yes : {n next : ℕ} → NumberAt l at n next → more n (drop next l) ≡ with_number (drop at l) more
  unfolding with_number
  number-yes h = rw (h.is, ← h.left)

module _ (form : Form) (kind a : ℕ) (l : List ℕ) where
  pub second-void : kind ≡ 6 → lastly form kind a 0 l ≡ secondly form kind a l
  unfolding secondly
  second-void e = rw (eq-eqb kind 6 e)

  pub second-else : (kind ≡ 6 → ⊥) → with_number l (λ b m. lastly form kind a b m) ≡ secondly form kind a l
  unfolding secondly
  second-else e = rw (ne_eqb kind 6 e)

pub kinded-is : (form : Form) (kind : ℕ) (l : List ℕ) → with_number l (λ a m. secondly form kind a m) ≡ kinded form kind l
unfolding kinded
kinded-is form kind l = refl

pub logged-is : (l : List ℕ) → with_number l (λ a m. lastly Log 0 a 0 m) ≡ logged l
unfolding logged
logged-is l = refl

-- ## the whole line

said-else : (form : Form) (l : List ℕ) → (form ≡ Log → ⊥) → if_there (kind_of form (word l)) NotKind (λ kind. kinded form kind (rest l)) ≡ said form l
said-else Records l h = refl
said-else Claims l h = refl
said-else Log l h = absurd (h refl)

module _ (form : Form) (l : List ℕ) (from to : ℕ) (w : WordAt l 0 from to) where
  pub line-none : from ≡ to → Ok None ≡ line_of form l
  unfolding line_of
  line-none e = rw (no_word w e)

  module _ (s : from ≡ to → ⊥) where
    pub line-log : form ≡ Log → some_entry (logged l) ≡ line_of form l
    unfolding line_of
    line-log e = rw (if_some (word l) _ _ (some_word w s), e)

    module _ (not : form ≡ Log → ⊥) where
      line-else : some_entry (if_there (kind_of form (take (to - from) (drop from l))) NotKind (λ kind. kinded form kind (drop to l))) ≡ line_of form l
      unfolding line_of
      line-else = rw (if_some (word l) _ _ (some_word w s), w.is, w.left) (ap some_entry (said-else form l not))

      pub line-kind : (k : ℕ) → kind_of form (take (to - from) (drop from l)) ≡ Some k → some_entry (kinded form k (drop to l)) ≡ line_of form l
      line-kind k e = ap (λ x. some_entry (if_there x NotKind (λ kind. kinded form kind (drop to l)))) (sym e) ∙ line-else

      pub line-bad : kind_of form (take (to - from) (drop from l)) ≡ None → Err NotKind ≡ line_of form l
      line-bad e = ap (λ x. some_entry (if_there x NotKind (λ kind. kinded form kind (drop to l)))) (sym e) ∙ line-else
