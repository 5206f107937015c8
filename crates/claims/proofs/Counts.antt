-- A book and a count of at least its pieces: it can be settled with that count. Assumes nothing.
use Rattle.std.specs.Prelude.{Ok}
use Prim.Native.Nat.{ℕ, ◌-◌, ◌/◌, ◌≤◌}
use mathlib.Core.Path.{◌≡◌}
use mathlib.Core.Bool.{true, false}
use mathlib.Core.List.{List}
use native.Mathlib.Nat.{lt_of_lt_of_le}
use native.Mathlib.Omega.{arith}
use borrow.Author.Tests.{leb-true, leb-false}
use lib.Dec.{leb}
use lib.ListN.{length}
use Rattle.rules.specs.Follows.{clash}
use Rattle.rules.specs.Entries.{shortest_clash}
use Rattle.records.specs.Record.{records}
use Rattle.records.specs.Facts.{entries, facts}
use Rattle.records.specs.Marked.{marked}
use Rattle.records.specs.Check.{book_check}
use Rattle.records.proofs.Accepted.{accepted, accepted-pieces}
use Rattle.contradiction.specs.Settleable.{Settleable}
use Rattle.contradiction.specs.Settled.{Clashed}
use Rattle.contradiction.proofs.SettlingLaws.{settleable, whole-unmarked, beyond-free, within-clashed}
use Rattle.closure.specs.Counted.{Counted}

-- its own count
pub own-count : {s : List ℕ} {n : ℕ} → book_check s ≡ Ok n → Counted s n
own-count {s} {n} e = record { own = n; sound = e; covered = omega arith; small = accepted-pieces (accepted s n e) }

module _ (s : List ℕ) {n : ℕ} (C : Counted s n) where
  pub counted-settleable : Settleable n s 2560 1280 8192 2048
  counted-settleable =
      let S = settleable s C.own C.sound in
      let few : length s / 6 ≤ 8192 = (accepted s C.own C.sound).few in
      let some = S.bounded.some in
      let l = C.covered in
      let m = C.small in
      record {
        bounded =
            record {
              some = omega arith;
              fits = m;
              within = λ f h. let w = S.bounded.within f h in (lt_of_lt_of_le w.0 l, lt_of_lt_of_le w.1 l);
            };
        markable = S.markable;
        roomy = record { few = omega arith; parens = omega arith; marks = omega arith; shadows = few; places = m };
      }

  pub counted-unmarked : marked s 0 ≡ false
  counted-unmarked = whole-unmarked s C.own C.sound

  -- row 14, by the shortest contradictory run
  pub counted-free : leb (shortest_clash (marked s) n (entries s)) (records s) ≡ false → false ≡ clash (marked s) n (facts s)
  counted-free e = beyond-free s counted-settleable.bounded (marked s) counted-unmarked (leb-false (shortest_clash (marked s) n (entries s)) (records s) e)

  pub counted-clashed : leb (shortest_clash (marked s) n (entries s)) (records s) ≡ true → Clashed (marked s) n s (shortest_clash (marked s) n (entries s) - 1)
  counted-clashed e = within-clashed s counted-settleable.bounded (marked s) counted-unmarked (leb-true (shortest_clash (marked s) n (entries s)) (records s) e)
