-- The result of a catalog that C gets, from what it comes to. Assumes nothing.
use Rattle.std.specs.Prelude.{Ok}
use Rattle.records.specs.Refused.{refused_at}
use Rattle.catalog.specs.Listing.{Listing}
use Prim.Native.Nat.{ℕ}
use mathlib.Core.Path.{◌≡◌, refl, ap, subst, ◌∙◌}
use mathlib.Core.List.{List}
use Rattle.records.specs.Refusal.{refusal_number}
use Rattle.records.specs.declared.Refusal.{Refusal}
use Rattle.catalog.specs.Lent.{Lent}
use Rattle.catalog.specs.Call.{left, Determined}
use Rattle.catalog.specs.declared.Counts.{Counts}
use Rattle.piecebook.specs.Catalogs.{Counted, Catalogs}
use Rattle.piecebook.specs.declared.catalogs.PiecebookCatalogResult.{PiecebookCatalogResult}

pub counted-written :
    (o : Listing) (c : Counts) → o ≡ Ok c
    → Counted o (record { number = 0; place = 0; pieces = c.pieces; nodes = c.nodes; shadows = c.shadows; listed = c.listed; meets = c.meets; apart = c.apart; notpart = c.notpart })
counted-written o c e =
    rw e
    (record {
      number_is = refl;
      place_is = refl;
      pieces_are = refl;
      nodes-are = refl;
      shadows-are = refl;
      listed-are = refl;
      meets-are = refl;
      apart-are = refl;
      notpart-are = refl;
    })

pub counted-refused :
    (o : Listing) (x : Refusal) (i n : ℕ) → o ≡ refused_at x i → n ≡ refusal_number x
    → Counted o (record { number = n; place = i; pieces = 0; nodes = 0; shadows = 0; listed = 0; meets = 0; apart = 0; notpart = 0 })
counted-refused o x i n e f =
    rw e
    (record {
      number_is = f;
      place_is = refl;
      pieces_are = refl;
      nodes-are = refl;
      shadows-are = refl;
      listed-are = refl;
      meets-are = refl;
      apart-are = refl;
      notpart-are = refl;
    })

pub cataloged :
    (s : List ℕ) (k g : ℕ) (l : Lent) (o : Listing) (l' : Lent) (r : PiecebookCatalogResult) → Determined s k g l o l' → Counted o r → Catalogs s k g l r l'
cataloged s k g l o l' r D C =
    record { counted = subst (λ (x : Listing). Counted x r) D.0 C; left_is = D.1 ∙ ap (left s k g l) D.0 }
