-- A former book marks no piece, and neither does the new one. Assumes nothing.
use Rattle.std.specs.Prelude.{Ok}
use Prim.Native.Nat.{ℕ, ◌<◌}
use mathlib.Core.Path.{◌≡◌, ap, ◌∙◌}
use mathlib.Core.Logic.{inl, inr}
use mathlib.Core.Bool.{true, false}
use mathlib.Core.List.{List}
use lib.ListN.{get_or}
use Rattle.records.specs.declared.Edition.TheVariants.{Former}
use Rattle.records.specs.Record.{record_at, records}
use Rattle.records.specs.Pieces.{stated}
use Rattle.records.specs.Check.{former_check}
use Rattle.records.specs.Marked.{marked}
use Rattle.records.proofs.Accepted.{AcceptedBook, accepted-by}
use Rattle.records.proofs.Marks.{former-unmarked, marks-stated}
use Rattle.convert.specs.Converted.{converted}
use Rattle.convert.proofs.Made.{speaks, last-stated, From, Made, made}

module _ (s : List ℕ) (n : ℕ) (former : former_check s ≡ Ok n) where
  A : AcceptedBook Former s n
  A = accepted-by Former s n former

  pub former-markless : (g : ℕ) → marked s g ≡ false
  former-markless = former-unmarked A

  module _ (bytes : (k : ℕ) → get_or s k 0 < 256) where
    M : Made s (converted s)
    M = made s A bytes

    says : (j : ℕ) → j < records (converted s) → stated (record_at (converted s) j) ≡ true
    says j l = pick (M.from j l)
      where
        pick : From s (converted s) j → stated (record_at (converted s) j) ≡ true
        pick (inl (i, h, p, e)) = ap stated e ∙ speaks (record_at s i) (A.each i h).kind p
        pick (inr (h, L)) = last-stated _ L

    pub converted-markless : (g : ℕ) → marked (converted s) g ≡ false
    converted-markless g = marks-stated (converted s) g says
