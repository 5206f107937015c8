-- What a test picks: the first where it holds, and the second where it does not. Assumes nothing.
use Rattle.std.specs.Prelude.{Bool, true, false}

abbrev pub if_true : {A : Type 0} → Bool → A → A → A
if_true true x y = x
if_true false x y = y
