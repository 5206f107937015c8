-- What the marks alone tell of two pieces. Assumes nothing.
use Rattle.std.specs.Prelude.{ℕ, Bool, false, not, ◌&&◌, ◌||◌}
use Rattle.rules.specs.Fact.{Fact, PART, APART, MEETS, NOTPART}

-- PART by rule (e), APART by rule (d), and NOTPART of a piece not marked, which lies outside a marked one
unfoldable pub by_marks : (ℕ → Bool) → Fact → Bool
by_marks void (PART a b) = void a
by_marks void (APART a b) = void a || void b
by_marks void (MEETS a b) = false
by_marks void (NOTPART a b) = not (void a) && void b
