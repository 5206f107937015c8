-- Entries counted line by line. Assumes nothing.
use Prim.Native.Nat.{ℕ, zero, suc, ◌+◌, ◌-◌, ◌≤◌, ◌<◌}
use mathlib.Core.Path.{◌≡◌, refl, sym, ap, ap₂, ◌∙◌}
use mathlib.Core.Bool.{true, false, not}
use mathlib.Core.List.{List, [], ◌∷◌}
use native.Mathlib.Numerals.{add-one}
use native.Mathlib.Omega.{arith}
use mir.Val.{bool_byte}
use lib.Dec.{eqb}
use borrow.Author.Tests.{eqb-true, eqb-false}
use Rattle.lists.proofs.Bools.{Known, is_true, is_false, known}
use lib.ListN.{length, take, drop, get_or, drop_of_length-le}
use Rattle.text.specs.declared.words.Sort.TheVariants.{Inner}
use Rattle.text.specs.Runs.{of_sort, run}
use Rattle.text.specs.Word.{word}
use Rattle.text.specs.Lines.{lines}
use Rattle.text.specs.Text.{mark_length, lines_of}
use Rattle.text.specs.Place.{numbered_if, numbered, one_if, entries_on, place_line, line_in}
use Rattle.text.specs.Either.{is_text}
use Rattle.text.specs.Reading.{WordAt}
use Rattle.text.proofs.Said.{no_word, some_word}
use Rattle.text.proofs.Cuts.{line_at}

some_one : (w : List ℕ) → (length w ≡ 0 → ⊥) → 1 ≡ one_if w
some_one [] h = absurd (h refl)
some_one (x ∷ w) h = refl

module _ (l : List ℕ) (from to : ℕ) (w : WordAt l 0 from to) where
  none-on : from ≡ to → 0 ≡ entries_on l
  unfolding entries_on
  none-on e = sym (ap one_if (no_word w e))

  one_on : (from ≡ to → ⊥) → 1 ≡ entries_on l
  unfolding entries_on
  one_on h = some_one (word l) (some_word w h)

  pub counted-on : bool_byte (not (eqb from to)) ≡ entries_on l
  counted-on = pick (known (eqb from to))
    where
      pick : Known (eqb from to) → bool_byte (not (eqb from to)) ≡ entries_on l
      pick (is_true e) = rw e (none-on (eqb-true from to e))
      pick (is_false e) = rw e (one_on (eqb-false from to e))

here-if : (w : List ℕ) (n k : ℕ) (ns : List ℕ) → k < one_if w → get_or (numbered_if w n ns) k 0 ≡ n
here-if [] n k ns h = absurd (omega arith)
here-if (x ∷ w) n zero ns h = refl
here-if (x ∷ w) n (suc k) ns h = absurd (omega arith)

later-if : (w : List ℕ) (n k : ℕ) (ns : List ℕ) → one_if w ≤ k → get_or (numbered_if w n ns) k 0 ≡ get_or ns (k - one_if w) 0
later-if [] n k ns h = let e : k ≡ k - 0 = omega arith in ap (λ (x : ℕ). get_or ns x 0) e
later-if (x ∷ w) n zero ns h = absurd (omega arith)
later-if (x ∷ w) n (suc k) ns h = let e : k ≡ suc k - 1 = omega arith in ap (λ (x : ℕ). get_or ns x 0) e

-- the entry looked for is entry `left` of the lines that are left
abbrev pub Seeking : (text : List ℕ) (k at line left : ℕ) → Type 0
Seeking text k at line left = place_line text k ≡ get_or (numbered line (lines (drop at text))) left 0

pub seeking-start : (text : List ℕ) (k at : ℕ) → at ≡ mark_length text → Seeking text k at 1 k
unfolding place_line lines_of
seeking-start text k at e = rw e

pub seeking-end : (text : List ℕ) (k at line left : ℕ) → Seeking text k at line left → length text ≤ at → 0 ≡ place_line text k
unfolding numbered lines
seeking-end text k at line left s h = sym (s ∙ ap (λ (l : List ℕ). get_or (numbered line (lines l)) left 0) (drop_of_length-le text h))

module _ (text : List ℕ) (k at line left : ℕ) (s : Seeking text k at line left) (e : ℕ) (h : at < length text)
    (i : e ≡ at + length (run (of_sort Inner) (drop at text))) (c : ℕ) (on : c ≡ entries_on (take (e - at) (drop at text))) where
  next-line : place_line text k ≡ get_or (numbered_if (word (take (e - at) (drop at text))) line (numbered (suc line) (lines (drop (e + 1) text)))) left 0
  unfolding numbered
  next-line = s ∙ ap (λ (ls : List (List ℕ)). get_or (numbered line ls) left 0) (line_at text at e h i)

  pub seeking-found : left < c → line ≡ place_line text k
  unfolding entries_on
  seeking-found g = sym (next-line ∙ here-if (word (take (e - at) (drop at text))) line left (numbered (suc line) (lines (drop (e + 1) text))) (omega (arith, on)))

  pub seeking-on : c ≤ left → Seeking text k (e + 1) (line + 1) (left - c)
  unfolding entries_on
  seeking-on g =
      next-line
      ∙ later-if (word (take (e - at) (drop at text))) line left (numbered (suc line) (lines (drop (e + 1) text))) (omega (arith, on))
      ∙ ap₂ (λ (x y : ℕ). get_or (numbered x (lines (drop (e + 1) text))) (left - y) 0) (sym (add-one line)) (sym on)

-- a source that is text, and one that is not
pub in-text : (s : List ℕ) (k l : ℕ) → is_text s ≡ true → l ≡ place_line s k → l ≡ line_in s k
unfolding line_in
in-text s k l e is = rw e is

pub in-records : (s : List ℕ) (k : ℕ) → is_text s ≡ false → 0 ≡ line_in s k
unfolding line_in
in-records s k e = rw e
