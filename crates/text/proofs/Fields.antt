-- The words of a line of fields are its fields. Assumes nothing.
use Prim.Native.Nat.{ℕ, ◌<◌}
use mathlib.Core.Path.{◌≡◌, refl, sym, ap, ◌∙◌}
use mathlib.Core.Bool.{Bool, true, false, not, ◌&&◌, ◌||◌}
use mathlib.Core.List.{List, [], ◌∷◌, ◌++◌, append_assoc, append-nil}
use native.Mathlib.Omega.{arith}
use lib.Dec.{eqb}
use lib.ListN.{length}
use borrow.Author.Tests.{ne_eqb, not-true}
use Rattle.lists.proofs.Bools.{and_both, both-and, or-neither}
use Rattle.pages.specs.Text.{line}
use Rattle.text.specs.declared.words.Sort.TheVariants.{Blank, Letter}
use Rattle.text.specs.Runs.{blank, of_sort, run, behind}
use Rattle.text.specs.Word.{word, rest}
use Rattle.text.specs.Lines.{longer, lines}
use Rattle.text.specs.Number.{is_digit, digits}
use Rattle.text.proofs.Numbers.{digit-between}
use Rattle.text.proofs.Runs.{run-yes, behind-yes, behind-no}
use Rattle.text.proofs.Cuts.{line-ends, line-longer}

-- ## what a field is

unfoldable pub letters : List ℕ → Bool
letters [] = true
letters (x ∷ xs) = of_sort Letter x && letters xs

pub record Field (f : List ℕ) : Type 0 where
  pub some : 0 < length f
  pub plain : letters f ≡ true

no-blank : (x : ℕ) → of_sort Letter x ≡ true → (of_sort Blank x ≡ false) × (eqb x 10 ≡ false)
unfolding of_sort blank
no-blank x e =
    let a = or-neither (blank x) (eqb x 35) (not-true _ e) in
    let b = or-neither (eqb x 32) (eqb x 9 || (eqb x 13 || eqb x 10)) a.0 in
    let c = or-neither (eqb x 9) (eqb x 13 || eqb x 10) b.1 in
    let d = or-neither (eqb x 13) (eqb x 10) c.1 in
    (a.0, d.1)

digit-letter : (x : ℕ) → is_digit x ≡ true → of_sort Letter x ≡ true
unfolding of_sort blank
digit-letter x e =
    let h = digit-between x e in
    rw (ne_eqb x 9 (λ z. omega arith), ne_eqb x 13 (λ z. omega arith), ne_eqb x 32 (λ z. omega arith), ne_eqb x 10 (λ z. omega arith), ne_eqb x 35 (λ z. omega arith))

pub digits-letters : (l : List ℕ) → digits l ≡ true → letters l ≡ true
unfolding digits letters
digits-letters [] e = refl
digits-letters (x ∷ l) e =
    let h = and_both (is_digit x) (digits l) e in
    both-and (digit-letter x h.0) (digits-letters l h.1)

-- ## fields with a space before each

unfoldable pub spaced : List (List ℕ) → List ℕ
spaced [] = []
spaced (f ∷ fs) = 32 ∷ (f ++ spaced fs)

pub line-spaced : (f : List ℕ) (fs : List (List ℕ)) → line (f ∷ fs) ≡ (f ++ spaced fs) ++ (10 ∷ [])
unfolding spaced
line-spaced f [] = ap (λ (x : List ℕ). x ++ (10 ∷ [])) (sym (append-nil f))
line-spaced f (g ∷ fs) =
    ap (λ (x : List ℕ). (f ++ (32 ∷ [])) ++ x) (line-spaced g fs)
    ∙ append_assoc f (32 ∷ []) ((g ++ spaced fs) ++ (10 ∷ []))
    ∙ sym (append_assoc f (32 ∷ (g ++ spaced fs)) (10 ∷ []))

run-spaced : (fs : List (List ℕ)) → run (of_sort Letter) (spaced fs) ≡ []
unfolding spaced run of_sort blank
run-spaced [] = refl
run-spaced (f ∷ fs) = refl

behind-spaced : (fs : List (List ℕ)) → behind (of_sort Letter) (spaced fs) ≡ spaced fs
unfolding spaced behind of_sort blank
behind-spaced [] = refl
behind-spaced (f ∷ fs) = refl

run-field : (f : List ℕ) (fs : List (List ℕ)) → letters f ≡ true → run (of_sort Letter) (f ++ spaced fs) ≡ f
unfolding letters
run-field [] fs e = run-spaced fs
run-field (x ∷ f) fs e =
    let h = and_both (of_sort Letter x) (letters f) e in
    run-yes (of_sort Letter) x (f ++ spaced fs) h.0 ∙ ap (λ (y : List ℕ). x ∷ y) (run-field f fs h.1)

behind-field : (f : List ℕ) (fs : List (List ℕ)) → letters f ≡ true → behind (of_sort Letter) (f ++ spaced fs) ≡ spaced fs
unfolding letters
behind-field [] fs e = behind-spaced fs
behind-field (x ∷ f) fs e =
    let h = and_both (of_sort Letter x) (letters f) e in
    behind-yes (of_sort Letter) x (f ++ spaced fs) h.0 ∙ behind-field f fs h.1

-- no blank stands before a field
begins : (f : List ℕ) (t : List ℕ) → Field f → behind (of_sort Blank) (f ++ t) ≡ f ++ t
unfolding letters
begins [] t h = absurd (omega (arith, h.some))
begins (x ∷ f) t h = behind-no (of_sort Blank) x (f ++ t) (no-blank x (and_both (of_sort Letter x) (letters f) h.plain).0).0

-- and one before each of the others
skips : (f : List ℕ) (t : List ℕ) → Field f → behind (of_sort Blank) (32 ∷ (f ++ t)) ≡ f ++ t
unfolding of_sort blank
skips f t h = behind-yes (of_sort Blank) 32 (f ++ t) refl ∙ begins f t h

module _ (f : List ℕ) (fs : List (List ℕ)) (h : Field f) where
  pub first_word : word (f ++ spaced fs) ≡ f
  unfolding word
  first_word = ap (run (of_sort Letter)) (begins f (spaced fs) h) ∙ run-field f fs h.plain

  pub first_rest : rest (f ++ spaced fs) ≡ spaced fs
  unfolding rest
  first_rest = ap (behind (of_sort Letter)) (begins f (spaced fs) h) ∙ behind-field f fs h.plain

  pub next_word : word (spaced (f ∷ fs)) ≡ f
  unfolding word spaced
  next_word = ap (run (of_sort Letter)) (skips f (spaced fs) h) ∙ run-field f fs h.plain

  pub next-rest : rest (spaced (f ∷ fs)) ≡ spaced fs
  unfolding rest spaced
  next-rest = ap (behind (of_sort Letter)) (skips f (spaced fs) h) ∙ behind-field f fs h.plain

pub last_word : word (spaced []) ≡ []
unfolding word spaced run behind
last_word = refl

-- ## a line ends at byte 10

unfoldable inners : List ℕ → Bool
inners [] = true
inners (x ∷ xs) = not (eqb x 10) && inners xs

inners-append : (a b : List ℕ) → inners a ≡ true → inners b ≡ true → inners (a ++ b) ≡ true
unfolding inners
inners-append [] b p q = q
inners-append (x ∷ a) b p q = let h = and_both (not (eqb x 10)) (inners a) p in both-and h.0 (inners-append a b h.1 q)

letters-inner : (f : List ℕ) → letters f ≡ true → inners f ≡ true
unfolding letters inners
letters-inner [] e = refl
letters-inner (x ∷ f) e =
    let h = and_both (of_sort Letter x) (letters f) e in
    both-and (ap not (no-blank x h.0).1) (letters-inner f h.1)

pub data Fields : List (List ℕ) → Type 0 where
  none : Fields []
  with : {f : List ℕ} {fs : List (List ℕ)} → Field f → Fields fs → Fields (f ∷ fs)

spaced-inner : {fs : List (List ℕ)} → Fields fs → inners (spaced fs) ≡ true
unfolding inners spaced
spaced-inner none = refl
spaced-inner (with {f = f} {fs = fs} h hs) = inners-append f (spaced fs) (letters-inner f h.plain) (spaced-inner hs)

cut_off : (l t : List ℕ) → inners l ≡ true → lines (l ++ (10 ∷ t)) ≡ l ∷ lines t
unfolding inners
cut_off [] t e = line-ends 10 t refl
cut_off (x ∷ l) t e =
    let h = and_both (not (eqb x 10)) (inners l) e in
    line-longer x (l ++ (10 ∷ t)) (not-true _ h.0) ∙ ap (longer x) (cut_off l t h.1)

-- a line of fields is the first line of a text that begins with it
pub line_first : (f : List ℕ) (fs : List (List ℕ)) (t : List ℕ) → Field f → Fields fs → lines (line (f ∷ fs) ++ t) ≡ (f ++ spaced fs) ∷ lines t
line_first f fs t h hs =
    ap (λ (x : List ℕ). lines (x ++ t)) (line-spaced f fs)
    ∙ ap lines (append_assoc (f ++ spaced fs) (10 ∷ []) t)
    ∙ cut_off (f ++ spaced fs) t (inners-append f (spaced fs) (letters-inner f h.plain) (spaced-inner hs))
