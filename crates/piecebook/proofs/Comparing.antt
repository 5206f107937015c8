-- What C gets of two books, from what the call promises. Assumes nothing.
use Rattle.compare.specs.Refused.{Comparison, refused_of}
use Prim.Native.Nat.{ℕ}
use mathlib.Core.Path.{◌≡◌, refl, ap, subst, ◌∙◌}
use mathlib.Core.List.{List}
use lib.ListN.{length}
use Rattle.records.specs.Refusal.{refusal_number}
use Rattle.records.specs.declared.Refusal.{Refusal}
use Rattle.compare.specs.Call.{outcome, left, Determined}
use Rattle.compare.specs.Demands.{Demanded}
use Rattle.piecebook.specs.Compares.{Reported, Compares}
use Rattle.piecebook.specs.declared.comparisons.PiecebookComparison.{PiecebookComparison}

module _ (s t cs out : List ℕ) {o : Comparison} {out' : List ℕ} (D : Determined s t cs out o out') where
  pub compared : {r : PiecebookComparison} → Reported o r → Compares s t cs out r out'
  compared {r} R = record { reported = subst (λ (x : Comparison). Reported x r) D.0 R; left_is = D.1 ∙ ap (left s t cs out) D.0 }

  pub still-demanded : Demanded s t cs (length out) out' o → Demanded s t cs (length out) out' (outcome s t cs (length out))
  still-demanded = subst (λ (x : Comparison). Demanded s t cs (length out) out' x) D.0

pub reported-refused :
    (o : Comparison) (k : ℕ) (r : Refusal) (i x : ℕ) → o ≡ refused_of k r i → x ≡ refusal_number r → Reported o (record { number = x; place = i; book = k; together = 0 })
reported-refused o k r i x e q = rw e (record { number_is = q; place_is = refl; book-is = refl; together-is = refl })
