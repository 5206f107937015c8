-- The page of `why` by the cases of its source and of its words. Assumes nothing.
use Prim.Native.Nat.{ℕ}
use mathlib.Core.Path.{◌≡◌, sym, subst, ◌∙◌}
use mathlib.Core.List.{List, []}
use native.Mathlib.Omega.{arith}
use Rattle.records.specs.declared.Record.{Record}
use Rattle.std.specs.Prelude.{Option, Result, Ok, Err}
use Rattle.text.specs.declared.Form.TheVariants.{Records, Claims}
use Rattle.text.specs.Entry.{six_bytes}
use Rattle.text.specs.Text.{Entries}
use Rattle.text.specs.Either.{read_either}
use Rattle.sentences.specs.Unread.{cause_number, unread_line}
use Rattle.sentences.specs.Sources.{Breaks}
use Rattle.sentences.specs.Arguments.{words_of}
use Rattle.sentences.specs.declared.Cause.{Cause}
use Rattle.sentences.proofs.Tellings.{Paged, page-read, page-unread, page-entry, page-wrong}
use Rattle.chain_pages.specs.Verified.{said}
use Rattle.chain_pages.specs.WhyText.{why_text, why_page}
use Rattle.chain_pages.specs.Why.{Behind, Asks, Why, OfBook, OfSource, text_of}
use Rattle.chain_pages.proofs.Readings.{no_bytes, not-read, one-book}

-- ---- a source that was read, and one that cannot be

abbrev of : List ℕ → Record → List ℕ → List ℕ → List ℕ
of source entry c book = why_text source (six_bytes entry) (said book (six_bytes entry)) c

module _ (source : List ℕ) (entry : Record) {page page' : List ℕ} (r : Option ℕ) where
  pub source-unread : (l number : ℕ) → Breaks (read_either Records source) l number → Paged 95 page (unread_line 0 l number) page' r → OfSource source entry page page' r
  source-unread l number b t =
      let whole : Paged 852835 page (text_of source entry []) page' r = page-unread 852835 page page' r 0 Records source (of source entry []) (omega arith) b t in
      record { chain = []; bytes = no_bytes; behind = λ book e. absurd (not-read _ l number book b e); page-is = whole.0; short = whole.1 }

  pub source-read : (book claim : List ℕ) → claim ≡ six_bytes entry → read_either Records source ≡ Entries book → OfBook source book claim page page' r
      → OfSource source entry page page' r
  source-read book claim is e o =
      let told : Paged 852835 page (of source entry o.chain book) page' r =
      subst (λ (x : List ℕ). Paged 852835 page (why_text source x (said book x) o.chain) page' r) is (o.page-is, o.short) in
      let whole : Paged 852835 page (text_of source entry o.chain) page' r = page-read 852835 page page' r 0 Records source (of source entry o.chain) e told in
      record {
        chain = o.chain;
        bytes = o.bytes;
        behind = λ b f. subst (λ (x : List ℕ). Behind x (six_bytes entry) o.chain) (one-book _ book b e f) (subst (λ (x : List ℕ). Behind book x o.chain) is o.behind);
        page-is = whole.0;
        short = whole.1;
      }

-- ---- words that say a claim, and words that do not

module _ (source words : List ℕ) {page page' : List ℕ} (w : Result Record Cause) (is : w ≡ words_of Claims words) (r : Option ℕ) where
  pub words-wrong : (cause : Cause) → w ≡ Err cause → Paged 95 page (unread_line 5 0 (cause_number cause)) page' r → Why source words page page' r
  unfolding why_page
  words-wrong cause e t =
      let p : Paged 852835 page (why_page source words []) page' r = page-wrong 852835 page page' r Claims words (λ s. text_of source s []) is (omega arith) e t in
      record { chain = []; bytes = no_bytes; behind = λ book claim a. absurd (other a.entry (sym e ∙ is ∙ a.worded)); page-is = p.0; short = p.1 }
    where
      other : (s : Record) → Err cause ≡ Ok s → ⊥
      other s f = let z : ◌≡◌ {A = ℕ} 0 1 = cc in omega (arith, z)

  pub words-said : (entry : Record) → w ≡ Ok entry → OfSource source entry page page' r → Why source words page page' r
  unfolding why_page
  words-said entry e o =
      let p : Paged 852835 page (why_page source words o.chain) page' r =
      page-entry 852835 page page' r Claims words (λ s. text_of source s o.chain) is e (o.page-is, o.short) in
      record { chain = o.chain; bytes = o.bytes; behind = λ book claim a. asked book claim a; page-is = p.0; short = p.1 }
    where
      asked : (book claim : List ℕ) → Asks source words book claim → Behind book claim o.chain
      asked book claim a =
          let same : entry ≡ a.entry = cc (sym e ∙ is ∙ a.worded) in
          rw (a.claim-is, ← same) (o.behind book a.read)
