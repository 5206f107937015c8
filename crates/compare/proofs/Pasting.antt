-- Two runs copied behind each other. Assumes nothing.
use Prim.Native.Nat.{ℕ, ◌+◌}
use mathlib.Core.Path.{◌≡◌, sym, ap, ◌∙◌}
use mathlib.Core.List.{List, ◌++◌}
use lib.ListN.{length, take, length-append}
use Rattle.lists.specs.Front.{front, placed}
use Rattle.lists.proofs.Fronts.{front-taken, placed-front, placed_first}

pub runs-join : (s t run run' run'' : List ℕ) → run' ≡ placed 0 s run → run'' ≡ placed (length s) t run' → take (length s + length t) run'' ≡ s ++ t
runs-join s t run run' run'' e f =
    ap (take (length s + length t)) (f ∙ ap (placed (length s) t) (e ∙ placed_first s run) ∙ placed-front s t run)
    ∙ ap (λ (k : ℕ). take k (front (s ++ t) run)) (sym (length-append s t))
    ∙ front-taken (s ++ t) run
