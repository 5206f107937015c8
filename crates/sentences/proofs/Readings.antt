-- The text of a source that was read, and of one that cannot be. Assumes nothing.
use Prim.Native.Nat.{ℕ, ◌≤◌}
use mathlib.Core.Path.{◌≡◌, refl, ◌∙◌, ap, sym}
use mathlib.Core.List.{List}
use native.Mathlib.Omega.{arith}
use lib.ListN.{length, take, length-append}
use borrow.Author.Tests.{le-ltb}
use Rattle.lists.specs.Front.{front}
use Rattle.lists.proofs.Fronts.{front-taken}
use Rattle.text.specs.declared.Form.{Form}
use Rattle.text.specs.declared.Reason.{Reason}
use Rattle.std.specs.Prelude.{Result, Ok, Err}
use Rattle.text.specs.declared.reading.Unread.{Unread}
use Rattle.text.specs.declared.reading.Unread.TheVariants.{BadLine, ShortBuffer}
use Rattle.text.specs.Reason.{reason_number}
use Rattle.text.specs.Text.{Reading, Entries, Broken, bytes_most}
use Rattle.text.specs.Either.{read_either}
use Rattle.text.specs.Lent.{answer_of, entries_of, into, leaves}
use Rattle.sentences.specs.Unread.{unread_line}
use Rattle.sentences.specs.declared.Cause.TheVariants.{Text}
use Rattle.sentences.specs.Sources.{Breaks, Took, of_source}

-- ---- what a reading into enough lent bytes answers

module _ (form : Form) (x : Reading) (out out' : List ℕ) (enough : bytes_most form ≤ length out) (r : Result ℕ Unread) (is : r ≡ into form (length out) x)
    (left : out' ≡ leaves form x out) where
  answers : r ≡ answer_of x
  unfolding into
  answers = is ∙ rw (le-ltb (length out) (bytes_most form) enough)

  fronted : out' ≡ front (entries_of x) out
  unfolding leaves
  fronted = left ∙ rw (le-ltb (length out) (bytes_most form) enough)

  pub never-short : r ≡ Err ShortBuffer → ⊥
  never-short e = go x (sym answers ∙ e)
    where
      go : (y : Reading) → answer_of y ≡ Err ShortBuffer → ⊥
      go (Entries bytes) h = let z : ◌≡◌ {A = ℕ} 0 1 = cc in omega (arith, z)
      go (Broken l reason bytes) h = let z : ◌≡◌ {A = ℕ} 0 1 = cc in omega (arith, z)

  pub whole : (n : ℕ) → r ≡ Ok n → Took x out' (Ok n)
  unfolding front
  whole n e = go x (sym answers ∙ e) fronted
    where
      go : (y : Reading) → answer_of y ≡ Ok n → out' ≡ front (entries_of y) out → Took y out' (Ok n)
      go (Entries bytes) h f =
          let m : length bytes ≡ n = cc in
          (rw f (simp length-append (omega (arith, m))), ap Entries (sym (ap (λ k. take k out') (sym m) ∙ ap (take (length bytes)) f ∙ front-taken bytes out)))
      go (Broken l reason bytes) h f = let z : ◌≡◌ {A = ℕ} 0 1 = cc in absurd (omega (arith, z))

  pub unread : (l : ℕ) (reason : Reason) → r ≡ Err (BadLine l reason) → Took x out' (Err (record { line = l; cause = Text reason }))
  unread l reason e = go x (sym answers ∙ e)
    where
      go : (y : Reading) → answer_of y ≡ Err (BadLine l reason) → Breaks y l (reason_number reason)
      go (Entries bytes) h = let z : ◌≡◌ {A = ℕ} 0 1 = cc in absurd (omega (arith, z))
      go (Broken l' reason' bytes) h =
          let m : l' ≡ l = cc in
          let s : reason' ≡ reason = cc in
          record { reason = reason; before = bytes; is = rw (m, s); numbered = refl }

-- ---- the text of a source

module _ (whom : ℕ) (form : Form) (s : List ℕ) (text : List ℕ → List ℕ) where
  -- of bytes that were read
  pub of-read : (bytes : List ℕ) → read_either form s ≡ Entries bytes → text bytes ≡ of_source whom form s text
  unfolding of_source
  of-read bytes e = rw e

  pub of-unread : (l number : ℕ) → Breaks (read_either form s) l number → unread_line whom l number ≡ of_source whom form s text
  unfolding of_source
  of-unread l number b = rw (b.numbered, b.is)

  pub unread-short : (n l number : ℕ) → Breaks (read_either form s) l number → length (unread_line whom l number) ≤ n → length (of_source whom form s text) ≤ n
  unread-short n l number b h = rw (sym (of-unread l number b)) h
