-- What a command leaves, by its cases. Assumes nothing.
use Prim.Native.Nat.{ℕ, ◌≤◌}
use mathlib.Core.Path.{◌≡◌, refl, ◌∙◌, ap, sym, subst}
use mathlib.Core.List.{List, []}
use native.Mathlib.Omega.{arith}
use lib.ListN.{length, take}
use Rattle.pages.specs.Written.{Page}
use Rattle.std.specs.Prelude.{Option, Some, None}
use Rattle.change_pages.specs.declared.Changed.{Changed}
use Rattle.change_pages.specs.Change.{Change, New, Kept, new_line}
use Rattle.change_pages.specs.Made.{Book, Made}

pub made_kept : (text p q : List ℕ) (w : Option ℕ) → Page p text q w → length text ≤ 142 → Made (Kept text) [] p q (record { written = w; book = None })
made_kept text p q w a h = record { page-is = a; short = h; book-is = refl }

pub made-new : (out : List ℕ) (n : ℕ) (p q : List ℕ) (w : Option ℕ) → n ≤ length out → Page p (new_line (take n out)) q w → length (new_line (take n out)) ≤ 142
    → Made (New (take n out)) out p q (record { written = w; book = Some n })
made-new out n p q w h a k = record { page-is = a; short = k; book-is = (h, refl) }

pub made_as : {x y : Change} {out p q : List ℕ} {r : Changed} → x ≡ y → Made x out p q r → Made y out p q r
made_as {x} {y} {out} {p} {q} {r} same m = subst (λ z. Made z out p q r) same m

-- where nothing new is written, whatever bytes are lent
book-none : (x : Change) (out : List ℕ) (n : Option ℕ) → Book x [] n → Book x out n
book-none x out (Some n) b =
    let none : n ≡ 0 = omega (arith, b.0) in
    (omega (arith, none), b.1 ∙ ap New (ap (λ k. take k []) none ∙ ap (λ k. take k out) (sym none)))
book-none x out None b = b

pub made_none : (x : Change) (out p q : List ℕ) (r : Changed) → Made x [] p q r → Made x out p q r
made_none x out p q r m = record { page-is = m.page-is; short = m.short; book-is = book-none x out r.book m.book-is }
