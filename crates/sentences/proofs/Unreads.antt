-- The fields of the line of what cannot be read. Assumes nothing.
use Prim.Native.Nat.{ℕ}
use mathlib.Core.Path.{◌≡◌}
use mathlib.Core.Bool.{true, false}
use mathlib.Core.List.{◌++◌}
use lib.Dec.{ltb}
use Rattle.pages.specs.Text.{ascii, field}
use Rattle.pages.specs.Decimal.{decimal}
use Rattle.sentences.specs.Unread.{prefix, reason_of, unread_line}

module _ (source l reason : ℕ) where
  pub of_words : ltb source 4 ≡ false → prefix source ++ (ascii "UNREAD " ++ field (reason_of source reason) 10) ≡ unread_line source l reason
  unfolding unread_line
  of_words h = rw h

  pub of-text : ltb source 4 ≡ true
      → prefix source ++ (ascii "UNREAD " ++ (ascii "line " ++ (field (decimal l) 32 ++ field (reason_of source reason) 10))) ≡ unread_line source l reason
  unfolding unread_line
  of-text h = rw h
