-- The lists and areas of the printed session's book, whose place list is 0 1 5 2 3 4. Assumes nothing.
use Prim.Native.Nat.{ℕ, suc, ◌<◌}
use mathlib.Core.Path.{◌≡◌, refl, ap, ◌∙◌}
use mathlib.Core.Bool.{Bool, true, false}
use mathlib.Core.List.{List, [], ◌∷◌, ◌++◌}
use native.Mathlib.Omega.{arith}
use borrow.Author.Tests.{ne_eqb}
use lib.Dec.{lit<, eqb}
use Rattle.lists.specs.Any.{any, any_below}
use Rattle.lists.specs.Tab.{tab}
use Rattle.rules.specs.Fact.{fact_of, unmarked}
use Rattle.rules.specs.Follows.{follows, derived, apart, meets, notpart, containment, rounds, step, table, entry, storing, turned, parting}
use Rattle.rules.specs.Entries.{facts_of}
use Rattle.rules.specs.Examples.{session}
use Rattle.lists.specs.Passing.{passing}
use Rattle.areas.specs.Area.{row_of, column_of, stored, pairs}
use Rattle.lists.proofs.Passed.{passing-none, passing-hit, passing-skip}

-- one number alone passes
passing-one : (p : ℕ → Bool) (x n : ℕ) → x < n → p x ≡ true → ((q : ℕ) → (x ≡ q → ⊥) → p q ≡ false) → passing p n ≡ x ∷ []
passing-one p x n l e h =
    passing-skip p (suc x) n l (λ q k k'. h q (λ z. omega arith)) ∙ passing-hit p x e
    ∙ ap (λ (t : List ℕ). t ++ (x ∷ [])) (passing-skip p 0 x (omega arith) (λ q k k'. h q (λ z. omega arith)) ∙ passing-none p)

abbrev pub place_list : List ℕ
place_list = 0 ∷ 1 ∷ 5 ∷ 2 ∷ 3 ∷ 4 ∷ []

-- APART 3 4: places 2 and 3
pub session-apart : pairs (facts_of session) 2 place_list ≡ 20483 ∷ []
unfolding stored any session facts_of row_of column_of
session-apart = passing-one (stored (facts_of session) 2 place_list) 20483 104857600 (lit< tt) refl (λ q n. rw (ne_eqb 20483 q n))

-- MEETS 3 2: places 2 and 5, the lower first
pub session-meets : pairs (facts_of session) 3 place_list ≡ 20485 ∷ []
unfolding stored any session facts_of row_of column_of
session-meets = passing-one (stored (facts_of session) 3 place_list) 20485 104857600 (lit< tt) refl (λ q n. rw (ne_eqb 20485 q n))

-- NOTPART 2 1: row 5, column 1
pub session-notpart : pairs (facts_of session) 4 place_list ≡ 51201 ∷ []
unfolding stored any session facts_of row_of column_of
session-notpart = passing-one (stored (facts_of session) 4 place_list) 51201 104857600 (lit< tt) refl (λ q n. rw (ne_eqb 51201 q n))

-- what is PART of 1, what is APART from 3, what MEETS 2
abbrev certain : (ℕ → Bool) → ℕ → ℕ → List ℕ
certain void k g = passing (λ x. follows void 6 (facts_of session) (fact_of k x g)) 6

pub session-inside : certain unmarked 1 1 ≡ 1 ∷ 3 ∷ 4 ∷ 5 ∷ []
unfolding passing follows derived apart meets notpart containment rounds step table entry storing turned parting any any_below tab session facts_of fact_of
session-inside = refl

pub session-away : certain unmarked 2 3 ≡ 4 ∷ 5 ∷ []
unfolding passing follows derived apart meets notpart containment rounds step table entry storing turned parting any any_below tab session facts_of fact_of
session-away = refl

pub session-touching : certain unmarked 3 2 ≡ 0 ∷ 1 ∷ 2 ∷ 3 ∷ 4 ∷ 5 ∷ []
unfolding passing follows derived apart meets notpart containment rounds step table entry storing turned parting any any_below tab session facts_of fact_of
session-touching = refl

-- were piece 5 marked: it would be PART of 3, APART from all pieces, and MEET none
pub void-inside : certain (eqb 5) 1 3 ≡ 3 ∷ 5 ∷ []
unfolding passing follows derived apart meets notpart containment rounds step table entry storing turned parting any any_below tab session facts_of fact_of
void-inside = refl

pub void-away : certain (eqb 5) 2 2 ≡ 5 ∷ []
unfolding passing follows derived apart meets notpart containment rounds step table entry storing turned parting any any_below tab session facts_of fact_of
void-away = refl

pub void-touching : certain (eqb 5) 3 2 ≡ 0 ∷ 1 ∷ 2 ∷ 3 ∷ 4 ∷ []
unfolding passing follows derived apart meets notpart containment rounds step table entry storing turned parting any any_below tab session facts_of fact_of
void-touching = refl
