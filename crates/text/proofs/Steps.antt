-- What a line adds to the bytes that are done. Assumes nothing.
use Prim.Native.Nat.{ℕ}
use mathlib.Core.Path.{◌≡◌, sym}
use mathlib.Core.List.{List}
use Rattle.std.specs.Prelude.{None, Ok, Err}
use Rattle.lists.proofs.Fronts.{placed-none}
use Rattle.text.specs.declared.Form.{Form}
use Rattle.text.specs.declared.Reason.{Reason}
use Rattle.text.specs.Line.{line_of}
use Rattle.text.specs.Reading.{Stepped}

module _ (form : Form) (l : List ℕ) (done : ℕ) (out : List ℕ) where
  pub step-none : Ok None ≡ line_of form l → Stepped form l done out out (Ok done)
  step-none e = record { goes = rw (← e); puts = rw (← e) (sym (placed-none done out)) }

  pub step-bad : (reason : Reason) → Err reason ≡ line_of form l → Stepped form l done out out (Err reason)
  step-bad reason e = record { goes = rw (← e); puts = rw (← e) (sym (placed-none done out)) }
