-- The page of `verify` by the cases of its source. Assumes nothing.
use Prim.Native.Nat.{ℕ, ◌≤◌}
use mathlib.Core.Path.{◌≡◌, subst}
use mathlib.Core.Bool.{Bool, true, false}
use mathlib.Core.List.{List}
use native.Mathlib.Omega.{arith}
use lib.ListN.{length}
use Rattle.pages.specs.Put.{Put}
use Rattle.pages.specs.Written.{written_at}
use Rattle.std.specs.Prelude.{Option}
use Rattle.text.specs.declared.Form.TheVariants.{Records}
use Rattle.text.specs.Text.{Entries}
use Rattle.text.specs.Either.{read_either}
use Rattle.sentences.specs.Unread.{unread_line}
use Rattle.sentences.specs.Sources.{Breaks}
use Rattle.sentences.proofs.Tellings.{Paged, put-page, page-read, page-unread}
use Rattle.chain_pages.specs.Verified.{Verifies}
use Rattle.chain_pages.specs.Verdict.{verdict_line, verdict_page, Verdict}
use Rattle.chain_pages.proofs.Readings.{not-read, one-book}

line-short : (v : Bool) → length (verdict_line v) ≤ 95
unfolding verdict_line
line-short true = omega arith
line-short false = omega arith

module _ (source chain : List ℕ) {page page' : List ℕ} (x : Option ℕ) where
  pub verdict-unread : (l number : ℕ) → Breaks (read_either Records source) l number → Paged 95 page (unread_line 0 l number) page' x → Verdict source chain page page' x
  verdict-unread l number b t =
      let p : Paged 95 page (verdict_page source false) page' x = page-unread 95 page page' x 0 Records source (λ (book : List ℕ). verdict_line false) (omega arith) b t in
      record { passes = false; verifies = λ book e. absurd (not-read _ l number book b e); page-is = p.0; short = p.1 }

  pub verdict-read : (book : List ℕ) (v : Bool) (end : ℕ) → x ≡ written_at (length page') end → read_either Records source ≡ Entries book → Verifies book chain v
      → Put page 0 (verdict_line v) page' end → Verdict source chain page page' x
  verdict-read book v end finished e h put =
      let told : Paged 95 page (verdict_line v) page' x = put-page (put, line-short v) finished in
      let p : Paged 95 page (verdict_page source v) page' x = page-read 95 page page' x 0 Records source (λ (b : List ℕ). verdict_line v) e told in
      record { passes = v; verifies = λ b f. subst (λ (y : List ℕ). Verifies y chain v) (one-book _ book b e f) h; page-is = p.0; short = p.1 }
