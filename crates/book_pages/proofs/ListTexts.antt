-- What a catalog comes to, and its page. Assumes nothing.
use Rattle.std.specs.Prelude.{Err, Ok}
use Rattle.records.specs.Refused.{BookCheck, refused_at}
use Rattle.outcomes.specs.Accepted.{Outcome}
use Rattle.catalog.specs.Listing.{Listing}
use Prim.Native.Nat.{ℕ, ◌≤◌, ◌<◌}
use mathlib.Core.Path.{◌≡◌, ◌∙◌, ap, sym}
use mathlib.Core.Bool.{Bool, true, false, not, ◌&&◌}
use mathlib.Core.List.{List, []}
use native.Mathlib.Omega.{arith}
use lib.Dec.{leb}
use lib.ListN.{length, take, get_or, replicate, length-append}
use Rattle.lists.specs.Front.{front}
use Rattle.lists.proofs.Fronts.{front-taken}
use Rattle.records.specs.Check.{book_check}
use Rattle.records.specs.declared.Refusal.{Refusal}
use Rattle.records.specs.declared.Refusal.TheVariants.{ShortBuffer, ShortCatalog, ClaimFormat, ClaimPiece}
use Rattle.outcomes.specs.Lent.{short_lent}
use Rattle.outcomes.specs.Call.{by_runs}
use Rattle.catalog.specs.Lent.{Lent, lent, short_catalog}
use Rattle.catalog.specs.Call.{list_of, counts_of, refuse_if, by_index, by_asked, by_book, outcome, left, Determined}
use Rattle.catalog.specs.declared.Counts.{Counts}
use Rattle.sentences.specs.Refusals as line
use Rattle.pages.specs.Text.{field}
use Rattle.pages.specs.Decimal.{decimal}
use Rattle.pages.proofs.Decimals.{decimal-length}
use Rattle.pages.proofs.Lined.{lines-length}
use Rattle.book_pages.specs.Listed.{Listed}
use Rattle.book_pages.specs.ListText.{number_lines, list_lines, zeros, text_of, catalog_text}

-- a row that did not refuse
past : (b : Bool) (r : Refusal) (l : Listing) (c : Counts) → refuse_if b r l ≡ Ok c → l ≡ Ok c
unfolding refuse_if
past true r l c is = let z : ◌≡◌ {A = ℕ} 0 1 = cc in absurd (omega arith)
past false r l c is = is

module _ (s : List ℕ) (k g : ℕ) (c : Counts) where
  by-index : (o : Outcome) → by_index s k g o ≡ Ok c → c.listed ≡ length (list_of s c.pieces k g)
  unfolding by_index counts_of
  by-index (Err r) is = let z : ◌≡◌ {A = ℕ} 0 1 = cc in absurd (omega arith)
  by-index (Ok n) is =
      let e : counts_of s k g n.pieces n.nodes n.shadows ≡ c = cc in
      ap (λ (x : Counts). x.listed) (sym e) ∙ ap (λ (x : Counts). length (list_of s x.pieces k g)) e

  by-book : (b : BookCheck) → by_book s k g b ≡ Ok c → c.listed ≡ length (list_of s c.pieces k g)
  unfolding by_book by_asked
  by-book (Err r) is = let z : ◌≡◌ {A = ℕ} 0 1 = cc in absurd (omega arith)
  by-book (Ok n) is =
      by-index (by_runs s n)
      (past (leb n g) ClaimPiece (by_index s k g (by_runs s n)) c
      (past (not (leb 1 k && leb k 3)) ClaimFormat (refuse_if (leb n g) ClaimPiece (by_index s k g (by_runs s n))) c is))

  counted : (l : Lent) → outcome s k g l ≡ Ok c → c.listed ≡ length (list_of s c.pieces k g)
  unfolding outcome
  counted l is =
      by-book (book_check s)
      (past (short_catalog l) ShortCatalog (by_book s k g (book_check s)) c
      (past (short_lent [] l.index) ShortBuffer (refuse_if (short_catalog l) ShortCatalog (by_book s k g (book_check s))) c is))

-- a line for the count, and one of at most 6 bytes for each of at most 2,048 numbers below 65,536
pub lines-width : (l : List ℕ) → length l ≤ 2048 → ((i : ℕ) → get_or l i 0 < 65536) → length (list_lines l) ≤ 12300
unfolding list_lines number_lines
lines-width l few small =
    simp length-append
    (omega (
      arith,
      decimal-length 3 (length l) (omega arith),
      lines-length (λ i. field (decimal (get_or l i 0)) 10) 6 (length l)
          (λ i h. simp length-append (omega (arith, decimal-length 4 (get_or l i 0) (omega (arith, small i))))),
    ))

-- the other parts of a catalog are of no use to a page
pub determined : (s : List ℕ) (k g : ℕ) (list : List ℕ) (r : Listing) (l : Lent) → list ≡ replicate 2048 0
    → Determined s k g (lent (replicate 2560 0) (replicate 1280 0) (replicate 8192 0) (replicate 2048 0) list (replicate 16384 0) (replicate 16384 0) (replicate 16384 0)) r l
    → Listed s k g l.list r
unfolding zeros
determined s k g list r l is d =
    let d' : Determined s k g zeros r l = rw is at d in
    record { comes = d'.0; leaves = ap (λ x. x.list) d'.1 }

module _ (s source : List ℕ) (k g : ℕ) (list : List ℕ) (r : Listing) (d : Listed s k g list r) where
  pub refused : (e : Refusal) (i : ℕ) → r ≡ refused_at e i → line.refused e i source [] ≡ catalog_text s source k g
  unfolding catalog_text text_of
  refused e i is = rw (← d.comes, is)

  pub refused-short : (e : Refusal) (i : ℕ) → r ≡ refused_at e i → length (line.refused e i source []) ≤ 142 → length (catalog_text s source k g) ≤ 12300
  refused-short e i is h = rw (sym (refused e i is)) (omega arith)

  module _ (c : Counts) (is : r ≡ Ok c) where
    fronted : list ≡ front (list_of s c.pieces k g) zeros.list
    unfolding left
    fronted = d.leaves ∙ ap (λ x. (left s k g zeros x).list) is

    many : c.listed ≡ length (list_of s c.pieces k g)
    many = counted s k g c zeros (sym d.comes ∙ is)

    pub listed-fits : c.listed ≤ length list
    unfolding front
    listed-fits = rw fronted (simp length-append (omega (arith, many)))

    pub listed : list_lines (take c.listed list) ≡ catalog_text s source k g
    unfolding catalog_text text_of
    listed =
        ap list_lines (ap (λ n. take n list) many ∙ ap (take (length (list_of s c.pieces k g))) fronted ∙ front-taken (list_of s c.pieces k g) zeros.list)
        ∙ rw (← d.comes, is)

    pub listed-short : length (list_lines (take c.listed list)) ≤ 12300 → length (catalog_text s source k g) ≤ 12300
    listed-short h = rw (sym listed) h
