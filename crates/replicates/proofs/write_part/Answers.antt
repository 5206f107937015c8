-- `replicates::write_part` meets its contract. Assumes nothing.
use native.Mathlib.Omega.{arith}
use Prim.Native.Nat.{ℕ, ◌+◌, ◌≤◌}
use mathlib.Core.Path.{◌≡◌, ap, ◌∙◌}
use lib.ListN.{length, take, length-replicate}
use Rattle.contradiction.proofs.SettlingLaws.{settleable}
use Rattle.replicates.specs.Log.{entry_count, sequence, window_of}
use Rattle.replicates.proofs.Sequences.{filled}
use Rattle.replicates.proofs.Calls.{asks, writes}
use Rattle.replicates.proofs.write_part.Goals as goal

-- the window and the part have room in the sequence
all_fit : {a b m : ℕ} → a ≤ 31 → b ≤ 32768 → m ≡ 32799 → a + b ≤ m
all_fit p q e = omega arith

all_there : {a m : ℕ} → m ≡ 31 → a ≤ 31 → a ≤ m
all_there e p = omega arith

pub write_bytes-requires : goal.write_bytes-requires
write_bytes-requires c =
    let P = c.requires in
    let A = c.args in
    let xs = c.put_entries.new.xs in
    let long : length xs ≡ 32799 = c.put_entries.auto.xs ∙ c.put_window.auto.xs ∙ length-replicate {A = ℕ} 32799 0 in
    let few : A.window.count ≤ length A.window.pieces = all_there c.put_window.ensures.all P.fits.short in
    asks A.book.now A.n A.window A.log.now few (settleable _ _ P.sound).bounded.fits P.fits
    (take (A.window.count + entry_count A.log.now) xs) _ _
    (filled A.window A.log.now few _ xs (all_fit P.fits.short P.fits.few long) c.put_window.ensures c.put_entries.ensures)
    P.aparts.sized P.wide

pub returns : goal.returns
returns c =
    let P = c.requires in
    let A = c.args in
    let xs = c.put_entries.new.xs in
    let long : length xs ≡ 32799 = c.put_entries.auto.xs ∙ c.put_window.auto.xs ∙ length-replicate {A = ℕ} 32799 0 in
    let few : A.window.count ≤ length A.window.pieces = all_there c.put_window.ensures.all P.fits.short in
    let e : take (A.window.count + entry_count A.log.now) xs ≡ sequence A.window A.log.now
    = filled A.window A.log.now few _ xs (all_fit P.fits.short P.fits.few long) c.put_window.ensures c.put_entries.ensures in (
      c.last_window.ensures ∙ ap window_of e,
      writes A.book.now A.n A.window A.log.now few (settleable _ _ P.sound).bounded.fits P.fits _ _ _ _ e
          P.aparts c.write_bytes.ensures,
    )
