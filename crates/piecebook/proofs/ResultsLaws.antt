-- The result that C gets, from the outcome. Assumes nothing.
use Rattle.convert.specs.Conversion.{Conversion}
use Rattle.records.specs.Refused.{refused_at}
use Rattle.outcomes.specs.Accepted.{Outcome}
use Prim.Native.Nat.{ℕ}
use mathlib.Core.Path.{◌≡◌, refl, ap, subst, ◌∙◌}
use mathlib.Core.List.{List}
use Rattle.records.specs.Refusal.{refusal_number}
use Rattle.records.specs.declared.Refusal.{Refusal}
use Rattle.outcomes.specs.Lent.{Lent}
use Rattle.outcomes.specs.Call.{left}
use Rattle.outcomes.specs.Demands.{Demand2, Demand3, Contradicted}
use Rattle.outcomes.specs.Fitting.{Fitting}
use Rattle.answers.proofs.Calls.{Promised}
use Rattle.convert.specs.Conversion as of
use Rattle.convert.specs.Converted.{converted}
use Rattle.convert.specs.Same.{InForce, SameAnswers}
use Rattle.convert.proofs.Writes as convert
use Rattle.piecebook.specs.Converts.{Told, Converts}
use Rattle.piecebook.specs.declared.results.PiecebookConverted.{PiecebookConverted}
use Rattle.piecebook.specs.Exported.{Reported, Exported}
use Rattle.piecebook.specs.declared.results.PiecebookResult.{PiecebookResult}

pub reported-refused : (o : Outcome) (x : Refusal) (i n : ℕ) → o ≡ refused_at x i → n ≡ refusal_number x → Reported o (record { number = n; place = i; pieces = 0; nodes = 0; shadows = 0 })
reported-refused o x i n e f = rw e (record { number_is = f; place_is = refl; pieces_are = refl; nodes-are = refl; shadows-are = refl })

-- what a call promises of the outcome, of the result
abbrev Handed : List ℕ → List ℕ → Lent → PiecebookResult → Lent → Type 0
Handed s cs l r l' =
    Exported s cs l r l'
    × (Demand2 s cs l'.answers r.number × (Demand3 s cs l l'.answers r.number × (Contradicted s r.number r.place × Fitting s r.number r.nodes)))

pub handed : (s cs : List ℕ) (l : Lent) (o : Outcome) (l' : Lent) (r : PiecebookResult) → Promised s cs l o l' → Reported o r → Handed s cs l r l'
handed s cs l o l' r (D, (a, (b, (c, f)))) R =
    let n = R.number_is in
    let p = R.place_is in
    let k = R.nodes-are in (
      record { reported = subst (λ (x : Outcome). Reported x r) D.0 R; left_is = D.1 ∙ ap (left s cs l) D.0 },
      (rw n a, (rw n b, (rw (n, p) c, rw (n, k) f))),
    )

-- the same of a conversion
pub told-refused : (c : Conversion) (x : Refusal) (i n : ℕ) → c ≡ refused_at x i → n ≡ refusal_number x → Told c (record { number = n; place = i; length = 0 })
told-refused c x i n e f = rw e (record { number_is = f; place_is = refl; length-is = refl })

abbrev Passed : List ℕ → List ℕ → PiecebookConverted → List ℕ → Type 0
Passed s out r out' = Converts s out r out' × ((r.number ≡ 0 → InForce s (converted s)) × (r.number ≡ 0 → SameAnswers s (converted s)))

pub passed : (s out : List ℕ) (c : Conversion) (out' : List ℕ) (r : PiecebookConverted) → convert.Promised s out c out' → Told c r → Passed s out r out'
passed s out c out' r (D, (a, b)) T =
    let n = T.number_is in
    (record { told = subst (λ (x : Conversion). Told x r) D.0 T; left_is = D.1 ∙ ap (of.left s out) D.0 }, (rw n a, rw n b))
