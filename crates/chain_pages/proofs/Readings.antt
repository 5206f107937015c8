-- A source is read or it is not, and there is one book in it. Assumes nothing.
use Prim.Native.Nat.{ℕ}
use mathlib.Core.Path.{◌≡◌, sym, ◌∙◌}
use mathlib.Core.List.{List, []}
use native.Mathlib.Omega.{arith}
use Rattle.text.specs.Text.{Reading, Entries}
use Rattle.sentences.specs.Sources.{Breaks}
use Rattle.chain_pages.specs.ChainText.{Bytes}

pub no_bytes : Bytes []
no_bytes j = omega arith

pub not-read : (x : Reading) (l number : ℕ) (book : List ℕ) → Breaks x l number → x ≡ Entries book → ⊥
not-read x l number book b e = let z : ◌≡◌ {A = ℕ} 0 1 = cc (sym b.is ∙ e) in omega (arith, z)

pub one-book : (x : Reading) (book other : List ℕ) → x ≡ Entries book → x ≡ Entries other → book ≡ other
one-book x book other e f = cc (sym e ∙ f)
