-- What was put from the start of a page is written on it, and a page with room has it. Assumes nothing.
use Prim.Native.Nat.{ℕ, ◌≤◌, ◌<◌}
use mathlib.Core.Path.{◌≡◌, refl, ◌∙◌, ap, subst}
use mathlib.Core.List.{List}
use native.Mathlib.Decide.{dec_lt}
use native.Mathlib.Omega.{arith}
use lib.ListN.{length}
use borrow.Author.Tests.{le-leb, lt-leb}
use Rattle.io.specs.Counts.{IsPrefixLen}
use Rattle.pages.specs.Printed.{Printed}
use Rattle.pages.specs.Put.{Put}
use Rattle.pages.specs.Written.{written_at, Page}
use Rattle.std.specs.Prelude.{Option, Some, None}
use Rattle.pages.proofs.Puts.{printed}

pub full : (n e : ℕ) → n < e → written_at n e ≡ None
unfolding written_at
full n e h = rw (lt-leb e n h)

pub roomy : (n e : ℕ) → e ≤ n → written_at n e ≡ Some e
unfolding written_at
roomy n e h = rw (le-leb e n h)

-- where the page's length is read behind the puts
pub write-page : {p s q : List ℕ} {e : ℕ} (r : Option ℕ) → Put p 0 s q e → r ≡ written_at (length q) e → Page p s q r
write-page {p} {s} {q} {e} r a is =
    let at : r ≡ written_at (length p) e = is ∙ ap (λ n. written_at n e) a.kept in
    elim (dec_lt (length p) e) [
      | yes l ↦ rw (at, full (length p) e l) (omega (arith, a.full l))
      | no l ↦ rw (at, roomy (length p) e (omega arith)) (printed a (omega arith))
    ]

-- a page that is long enough has the text
pub fitting : {p s q : List ℕ} (r : Option ℕ) → Page p s q r → length s ≤ length p → (e : ℕ) × (r ≡ Some e) × Printed p s q e
fitting (Some e) a h = (e, refl, a)
fitting None a h = absurd (omega arith)

-- what is written is at most as long as the page
pub page-counts : (p s q : List ℕ) (r : Option ℕ) (e : ℕ) → r ≡ Some e → Page p s q r → IsPrefixLen e q
page-counts p s q r e is a = (subst (Page p s q) is a).counts

-- what was put on a page that is long enough for it
pub with-room : {p s q : List ℕ} {e : ℕ} → Put p 0 s q e → length s ≤ length p → Printed p s q e
with-room {p} {s} {q} {e} a h =
    elim (dec_lt (length p) e) [
      | yes l ↦ absurd (omega (arith, a.full l))
      | no l ↦ printed a (omega arith)
    ]

-- the same text by another name
pub printed-as : {p s t q : List ℕ} {e : ℕ} → s ≡ t → Printed p s q e → Printed p t q e
printed-as {p} {s} {t} {q} {e} same a = subst (λ x. Printed p x q e) same a
