-- The check, computed on document 01's session and on its edges of the format. Assumes nothing.
use Rattle.std.specs.Prelude.{Ok}
use Rattle.records.specs.Refused.{BookCheck, ClaimsCheck, refused_at}
use Prim.Native.Nat.{ℕ, ◌/◌, ◌%◌}
use mathlib.Core.Path.{◌≡◌, refl}
use mathlib.Core.Bool.{true, false}
use mathlib.Core.List.{List, [], ◌∷◌, ◌++◌, map}
use Rattle.lists.specs.Tab.{tab}
use Rattle.lists.specs.Any.{any_below}
use Rattle.rules.specs.Fact.{APART, fact_of}
use Rattle.rules.specs.Entries.{fact, none}
use Rattle.rules.specs.Examples.{session}
use Rattle.records.specs.declared.Refusal.TheVariants.{BookLength, Kind, Origin, PieceNumber, VoidForm, Order, Repeat, ClaimsLength, ClaimFormat, ClaimPiece}
use Rattle.records.specs.Record.{record_at}
use Rattle.records.specs.Refusal.{scan}
use Rattle.records.specs.Pieces.{stated, largest, pieces_up_to}
use Rattle.records.specs.Rows.{order_row, admitted, same_bytes}
use Rattle.records.specs.Check.{form_finding, record_finding, check_by, book_check, former_check, claim_at, claims_check}
use Rattle.records.specs.Facts.{entry_of, entries}
use Rattle.records.specs.Marked.{marks, marked}

abbrev pub bytes : ℕ → ℕ → ℕ → ℕ → List ℕ
bytes k t a b = k ∷ t ∷ a % 256 ∷ a / 256 ∷ b % 256 ∷ b / 256 ∷ []

-- the session's book, whose entries are those that `rules` answers from
abbrev pub book : List ℕ
book =
    bytes 1 0 1 0 ++ bytes 1 0 2 0 ++ bytes 1 0 3 1 ++ bytes 1 0 4 1 ++ bytes 1 0 4 2 ++ bytes 1 0 5 4 ++ bytes 2 0 3 4 ++ bytes 3 0 3 2 ++ bytes 4 0 2 1

pub session-entries : entries book ≡ session
unfolding entries tab entry_of stated fact_of record_at session
session-entries = refl

abbrev outcomes : List BookCheck
outcomes =
    map book_check
    (book ∷ [] ∷ (0 ∷ []) ∷ bytes 1 0 2047 0 ∷ bytes 1 0 2048 0 ∷ bytes 2 0 0 2048 ∷ bytes 5 0 3 4 ∷ bytes 1 0 3 3 ∷ bytes 1 0 0 0 ∷ (bytes 2 0 3 4 ++ bytes 2 0 4 3)
    ∷ (bytes 2 0 3 4 ++ bytes 3 0 3 4 ++ bytes 2 0 3 4) ∷ (bytes 2 0 1 1 ++ bytes 0 1 2048 2048) ∷ (bytes 2 0 1 1 ++ bytes 7 0 0 0) ∷ bytes 1 2 2048 2048
    ∷ bytes 1 1 2048 2048 ∷ (bytes 2 0 3 4 ++ bytes 2 1 3 4) ∷ bytes 6 1 5 0 ∷ bytes 6 0 0 0 ∷ bytes 6 0 5 1 ∷ bytes 6 2 0 0 ∷ bytes 6 0 2048 1
    ∷ (bytes 6 0 5 0 ++ bytes 6 1 5 0) ∷ (bytes 6 0 5 0 ++ bytes 6 0 5 0) ∷ [])

outcomes-are :
    outcomes
    ≡ Ok 6 ∷ Ok 1 ∷ refused_at BookLength 0 ∷ Ok 2048 ∷ refused_at PieceNumber 0 ∷ refused_at PieceNumber 0 ∷ refused_at Kind 0 ∷ Ok 4 ∷ Ok 1
    ∷ Ok 5 ∷ refused_at Repeat 2 ∷ refused_at Kind 1 ∷ refused_at Kind 1 ∷ refused_at Origin 0 ∷ refused_at PieceNumber 0 ∷ Ok 5
    ∷ Ok 6 ∷ refused_at VoidForm 0 ∷ refused_at VoidForm 0 ∷ refused_at Origin 0 ∷ refused_at PieceNumber 0 ∷ Ok 6 ∷ refused_at Repeat 1 ∷ []
unfolding check_by scan record_finding form_finding admitted order_row record_at stated largest pieces_up_to same_bytes any_below
outcomes-are = refl

-- by the former edition
former-outcomes-are :
    map former_check (book ∷ bytes 1 0 3 3 ∷ bytes 1 0 0 0 ∷ bytes 1 0 3 4 ∷ bytes 5 0 3 65535 ∷ bytes 5 0 2048 0 ∷ bytes 6 0 0 0 ∷ (bytes 5 1 7 7 ++ bytes 5 2 0 0) ∷ (bytes 5 0 3 1 ++ bytes 5 0 3 1) ∷ [])
    ≡ Ok 6 ∷ refused_at Order 0 ∷ refused_at Order 0 ∷ refused_at Order 0 ∷ Ok 4 ∷ refused_at PieceNumber 0 ∷ refused_at Kind 0 ∷ refused_at Origin 1 ∷ refused_at Repeat 1 ∷ []
unfolding check_by scan record_finding form_finding admitted order_row record_at stated largest pieces_up_to same_bytes any_below
former-outcomes-are = refl

-- marks stand anywhere in the book, of either origin; they are no facts
marked-are :
    map (marked (bytes 1 0 3 1 ++ bytes 6 1 2 0 ++ bytes 2 0 4 3 ++ bytes 6 0 3 0)) (0 ∷ 1 ∷ 2 ∷ 3 ∷ 4 ∷ []) ≡ false ∷ false ∷ true ∷ true ∷ false ∷ []
unfolding marked marks record_at any_below
marked-are = refl

marks-no-facts : entries (bytes 6 1 2 0 ++ bytes 2 0 4 3) ≡ none ∷ fact (APART 4 3) ∷ []
unfolding entries tab entry_of stated fact_of record_at
marks-no-facts = refl

abbrev claim_outcomes : List ClaimsCheck
claim_outcomes =
    map (claims_check 6)
    ([] ∷ (0 ∷ []) ∷ bytes 1 0 5 2 ∷ (bytes 4 0 0 5 ++ bytes 6 0 1 0) ∷ bytes 2 2 6 6 ∷ (bytes 3 1 5 5 ++ bytes 3 0 5 6) ∷ [])

claim-outcomes-are :
    claim_outcomes
    ≡ Ok tt ∷ refused_at ClaimsLength 0 ∷ (Ok tt) ∷ refused_at ClaimFormat 1 ∷ refused_at ClaimFormat 0 ∷ refused_at ClaimPiece 1 ∷ []
unfolding claims_check scan claim_at record_at stated largest
claim-outcomes-are = refl
