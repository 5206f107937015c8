-- What a reading into lent bytes comes to, case by case. Assumes nothing.
use Prim.Native.Nat.{ℕ, ◌≤◌, ◌<◌, min}
use mathlib.Core.Path.{◌≡◌, sym, ap, ap₂, ◌∙◌}
use mathlib.Core.Bool.{true, false}
use mathlib.Core.List.{List, [], ◌++◌}
use native.Mathlib.Omega.{arith}
use native.Mathlib.Decide.{dec_lt}
use lib.ListN.{length, take, drop}
use lib.Seq.{take_all, length-take-le}
use borrow.Author.Tests.{lt-ltb, le-ltb}
use Rattle.lists.specs.Front.{front}
use Rattle.lists.proofs.Fronts.{front-none}
use Rattle.text.specs.declared.Form.{Form}
use Rattle.text.specs.declared.Reason.TheVariants.{TooLong}
use Rattle.std.specs.Prelude.{Result, Ok, Err}
use Rattle.text.specs.declared.reading.Unread.{Unread}
use Rattle.text.specs.declared.reading.Unread.TheVariants.{BadLine, ShortBuffer}
use Rattle.text.specs.Text.{Reading, Broken, bytes_most, mark_length, lines_of, read_text}
use Rattle.text.specs.Either.{as_text, read_either}
use Rattle.text.specs.Lent.{answer_of, entries_of, into, leaves}
use Rattle.text.specs.Reading.{read_from, lines_into, lines_leave}

-- what a call with such a reading answers and leaves
abbrev Lent : Form → Reading → (out : List ℕ) → Result ℕ Unread → List ℕ → Type 0
Lent form x out r out' = (r ≡ into form (length out) x) × (out' ≡ leaves form x out)

pub lent-short : (form : Form) (x : Reading) (out : List ℕ) → length out < bytes_most form → Lent form x out (Err ShortBuffer) out
unfolding into leaves
lent-short form x out h = (rw (lt-ltb (length out) (bytes_most form) h), rw (lt-ltb (length out) (bytes_most form) h))

pub too_long : (form : Form) (text : List ℕ) → 524288 < length text → read_text form text ≡ Broken 0 TooLong []
unfolding read_text
too_long form text g = rw (lt-ltb 524288 (length text) g)

module _ (form : Form) (s out : List ℕ) (h : bytes_most form ≤ length out) where
  lent_is : (x : Reading) (r : Result ℕ Unread) (out' : List ℕ) → r ≡ answer_of x → out' ≡ front (entries_of x) out → Lent form x out r out'
  unfolding into leaves
  lent_is x r out' p q = (rw (le-ltb (length out) (bytes_most form) h) p, rw (le-ltb (length out) (bytes_most form) h) q)

  pub lent-long : 524288 < length s → Lent form (read_text form s) out (Err (BadLine 0 TooLong)) out
  lent-long g =
      let e = too_long form s g in
      lent_is (read_text form s) (Err (BadLine 0 TooLong)) out (rw e) (rw e (sym (front-none out)))

  whole : length s ≤ 524288 → (from : ℕ) → from ≡ mark_length s → read_text form s ≡ read_from form from s
  unfolding read_text read_from lines_of
  whole g from e = rw (le-ltb 524288 (length s) g, e)

  pub lent-read : length s ≤ 524288 → (from : ℕ) → from ≡ mark_length s → (r : Result ℕ Unread) (out' : List ℕ) → r ≡ lines_into form from s
      → out' ≡ lines_leave form from s out → Lent form (read_text form s) out r out'
  lent-read g from e r out' p q =
      let w = whole g from e in
      lent_is (read_text form s) r out' (rw w p) (rw w q)

  -- records as they are
  pub lent-kept : as_text form s ≡ false → (n : ℕ) (b : List ℕ) → n ≡ min (length s) (bytes_most form) → b ≡ take n s
      → Lent form (read_either form s) out (Ok n) (b ++ drop n out)
  unfolding read_either front
  lent-kept e n b i p =
      let m = bytes_most form in
      let t : take n s ≡ take m s =
      elim (dec_lt (length s) m) [
        | yes l ↦ take_all n s (omega (arith, i)) ∙ sym (take_all m s (omega arith))
        | no l ↦ (let j : n ≡ m = omega (arith, i) in ap (λ (k : ℕ). take k s) j)
      ] in
      let k : length (take n s) ≡ n = length-take-le n s (omega (arith, i)) in
      lent_is (read_either form s) (Ok n) (b ++ drop n out)
      (rw e (ap Ok (sym k ∙ ap length t)))
      (rw e (ap₂ (λ (x : List ℕ) (y : ℕ). x ++ drop y out) (p ∙ t) (sym k ∙ ap length t)))

pub lent-text : (form : Form) (s out : List ℕ) → as_text form s ≡ true → (r : Result ℕ Unread) (out' : List ℕ) → Lent form (read_text form s) out r out'
    → Lent form (read_either form s) out r out'
unfolding read_either
lent-text form s out e r out' l = rw e l
