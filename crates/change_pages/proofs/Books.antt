-- The new books, by the cases of what is read, of the words and of the outcome. Assumes nothing.
use Rattle.std.specs.Prelude.{Err, Ok}
use Rattle.records.specs.Refused.{BookCheck, refused_at}
use Prim.Native.Nat.{ℕ, ◌+◌, ◌*◌, ◌-◌, ◌/◌, ◌%◌, ◌≤◌, ◌<◌}
use mathlib.Core.Path.{◌≡◌, ◌∙◌, ap, sym}
use mathlib.Core.Bool.{Bool, true, false}
use mathlib.Core.List.{List, [], ◌++◌}
use native.Mathlib.Omega.{arith}
use lib.Dec.{ltb, leb}
use lib.ListN.{length, take, drop, length-append, length-drop}
use lib.Seq.{take_all, length-take-le}
use borrow.Author.Tests.{eq-eqb, ne_eqb, lt-ltb, le-ltb, le-leb, lt-leb}
use Rattle.records.specs.Record.{records}
use Rattle.records.specs.declared.Refusal.{Refusal}
use Rattle.records.specs.declared.Refusal.TheVariants.{ShortBuffer, BookLength, TooManyRecords, Contradiction, NotStanding}
use Rattle.outcomes.specs.Fresh.{fresh_call, uncounted}
use Rattle.outcomes.specs.One.{refuse_if}
use Rattle.answers.proofs.Fresh.{counts-refused, counts-accepted}
use Rattle.convert.specs.Converted.{converted}
use Rattle.convert.specs.Conversion.{by_runs, by_book, conversion, left, Determined, Conversion}
use Rattle.rules.specs.Fact.{unmarked}
use Rattle.rules.specs.Entries.{shortest_clash}
use Rattle.records.specs.Facts.{entries}
use Rattle.records.specs.Check.{former_check}
use Rattle.lists.specs.Front.{front}
use Rattle.lists.proofs.Fronts.{front-taken}
use Rattle.parentheses.specs.Padded.{padded}
use Rattle.working.proofs.RunsLaws.{padded-front}
use Rattle.text.specs.declared.Form.TheVariants.{Records}
use Rattle.text.specs.Text.{Entries}
use Rattle.text.specs.Either.{read_either}
use Rattle.sentences.specs.Refusals.{refused}
use Rattle.sentences.specs.Unread.{unread_line}
use Rattle.sentences.specs.Sources.{Breaks}
use Rattle.change_pages.specs.Change.{New, Kept}
use Rattle.change_pages.specs.Changes.{judged, packing, by_conversion, converting, without, withdrawn}

-- ---- by the outcome

module _ (source run : List ℕ) (b : BookCheck) (is : b ≡ uncounted (fresh_call run [])) where
  pub judged-refused : (r : Refusal) (i : ℕ) → b ≡ refused_at r i → Kept (refused r i source []) ≡ judged source run (fresh_call run [])
  judged-refused r i so = rw (counts-refused (fresh_call run []) (sym is ∙ so))

  pub judged-accepted : (n : ℕ) → b ≡ Ok n → New run ≡ judged source run (fresh_call run [])
  judged-accepted n so = rw (counts-accepted (fresh_call run []) (sym is ∙ so)).2

-- ---- the size of a conversion

runs-size : (s : List ℕ) (n k : ℕ) → by_runs s n ≡ Ok k → k ≡ length (converted s)
unfolding by_runs
runs-size s n k is = go (leb (shortest_clash unmarked n (entries s)) (records s)) is
  where
    go : (b : Bool) → ◌≡◌ {A = Conversion} (elim b as (λ _. Conversion) [ true ↦ refused_at Contradiction (shortest_clash unmarked n (entries s) - 1) | false ↦ Ok (length (converted s)) ]) (Ok k)
        → k ≡ length (converted s)
    go true h = let z : ◌≡◌ {A = ℕ} 0 1 = cc in absurd (omega (arith, z))
    go false h = let z : length (converted s) ≡ k = cc in sym z

book-size : (s : List ℕ) (b : BookCheck) (k : ℕ) → by_book s b ≡ Ok k → k ≡ length (converted s)
unfolding by_book
book-size s (Err r) k is = let z : ◌≡◌ {A = ℕ} 0 1 = cc in absurd (omega (arith, z))
book-size s (Ok n) k is = runs-size s n k is

size_is : (s : List ℕ) (m k : ℕ) → conversion s m ≡ Ok k → k ≡ length (converted s)
unfolding conversion
size_is s m k is = go (ltb m (length s)) is
  where
    go : (b : Bool) → ◌≡◌ {A = Conversion} (elim b as (λ _. Conversion) [ true ↦ refused_at ShortBuffer 0 | false ↦ by_book s (former_check s) ]) (Ok k) → k ≡ length (converted s)
    go true h = let z : ◌≡◌ {A = ℕ} 0 1 = cc in absurd (omega (arith, z))
    go false h = book-size s (former_check s) k h

-- ---- `pack` and `convert`

module _ (source : List ℕ) where
  pub pack-unread : (l number : ℕ) → Breaks (read_either Records source) l number → Kept (unread_line 0 l number) ≡ packing source
  unfolding packing
  pack-unread l number b = rw (b.numbered, b.is)

  pub packed : (book : List ℕ) → read_either Records source ≡ Entries book → judged source book (fresh_call book []) ≡ packing source
  unfolding packing
  packed book e = rw e

  pub convert-unread : (l number : ℕ) → Breaks (read_either Records source) l number → Kept (unread_line 0 l number) ≡ converting source
  unfolding converting
  convert-unread l number b = rw (b.numbered, b.is)

  module _ (book : List ℕ) where
    pub convert-read : read_either Records source ≡ Entries book → by_conversion source book (conversion book 49164) ≡ converting source
    unfolding converting
    convert-read e = rw e

    module _ (out out' : List ℕ) (room : length out ≡ 49164) (c : Conversion) (d : Determined book out c out') where
      comes : c ≡ conversion book 49164
      comes = d.0 ∙ ap (conversion book) room

      pub convert-refused : (r : Refusal) (i : ℕ) → c ≡ refused_at r i → Kept (refused r i source []) ≡ by_conversion source book (conversion book 49164)
      convert-refused r i so = rw (sym comes ∙ so)

      written : (k : ℕ) → c ≡ Ok k → k ≡ length (converted book)
      written k so = size_is book 49164 k (sym comes ∙ so)

      pub written-fits : (k : ℕ) → c ≡ Ok k → k ≤ length out'
      unfolding left front
      written-fits k so = rw (d.1, so) (simp length-append (omega (arith, written k so)))

      pub convert-written : (k : ℕ) → c ≡ Ok k → New (take k out') ≡ by_conversion source book (conversion book 49164)
      unfolding left
      convert-written k so =
          let whole : take k out' ≡ converted book =
          ap (λ m. take m out') (written k so) ∙ ap (take (length (converted book))) (d.1 ∙ ap (left book out) so) ∙ front-taken (converted book) out in
          ap New whole ∙ rw (sym comes ∙ so)

-- ---- the bytes of `add` and `withdraw`

pub added-run : (book six out : List ℕ) (n : ℕ) → length six ≡ 6 → n ≡ length book + 6 → take n (padded 0 (length out) (book ++ six)) ≡ book ++ six
added-run book six out n s e = padded-front (length out) n (book ++ six) (omega (arith, length-append book six))

module _ (book : List ℕ) (i : ℕ) where
  pub ragged : (length book % 6 ≡ 0 → ⊥) → refused_at BookLength 0 ≡ withdrawn book i
  unfolding withdrawn
  ragged h = rw (ne_eqb (length book % 6) 0 h)

  module _ (whole : length book % 6 ≡ 0) where
    pub many : 8192 < length book / 6 → refused_at TooManyRecords 0 ≡ withdrawn book i
    unfolding withdrawn
    many h = rw (eq-eqb (length book % 6) 0 whole, lt-ltb 8192 (length book / 6) h)

    module _ (few : length book / 6 ≤ 8192) where
      pub absent : length book / 6 ≤ i → refused_at NotStanding 0 ≡ withdrawn book i
      unfolding withdrawn refuse_if
      absent h = rw (eq-eqb (length book % 6) 0 whole, le-ltb 8192 (length book / 6) few, le-leb (length book / 6) i h)

      module _ (there : i < length book / 6) where
        standing : fresh_call (without book i) [] ≡ withdrawn book i
        unfolding withdrawn refuse_if
        standing = rw (eq-eqb (length book % 6) 0 whole, le-ltb 8192 (length book / 6) few, lt-leb (length book / 6) i there)

        pub left-run : (out : List ℕ) → take (length book - 6) (padded 0 (length out) (take (6 * i) (take (length book) book) ++ drop (6 * i + 6) (take (length book) book)))
            ≡ without book i
        unfolding without
        left-run out =
            let all : take (length book) book ≡ book = take_all (length book) book (omega arith) in
            rw all
            (padded-front (length out) (length book - 6) (take (6 * i) book ++ drop (6 * i + 6) book)
            (omega (arith, length-append (take (6 * i) book) (drop (6 * i + 6) book), length-take-le (6 * i) book (omega arith), length-drop (6 * i + 6) book)))

        pub standing-judged : (source : List ℕ) → judged source (without book i) (fresh_call (without book i) []) ≡ judged source (without book i) (withdrawn book i)
        standing-judged source = ap (judged source (without book i)) standing

  -- a refusal before
  pub refused-so : (source : List ℕ) (r : Refusal) → refused_at r 0 ≡ withdrawn book i → Kept (refused r 0 source []) ≡ judged source (without book i) (withdrawn book i)
  refused-so source r e = ap (judged source (without book i)) e
