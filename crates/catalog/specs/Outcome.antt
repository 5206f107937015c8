-- The numbers of what a catalog comes to. Assumes nothing.
use Rattle.catalog.specs.Listing.{Listing}
use Rattle.std.specs.Prelude.{ℕ, Err, Ok}
use Rattle.records.specs.Refusal.{refusal_number}
use Rattle.catalog.specs.declared.Counts.{Counts}

-- 0 for acceptance, or the refusal's number; and its place
abbrev pub number : Listing → ℕ
number (Ok c) = 0
number (Err r) = refusal_number r.refusal

abbrev pub place : Listing → ℕ
place (Ok c) = 0
place (Err r) = r.place

-- the counts, all 0 with a refusal
abbrev pub counts : Listing → Counts
counts (Ok c) = c
counts (Err r) = record { pieces = 0; nodes = 0; shadows = 0; listed = 0; meets = 0; apart = 0; notpart = 0 }
