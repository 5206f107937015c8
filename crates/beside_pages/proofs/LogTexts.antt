-- The text of a log by the call's outcome, and how long it is. Assumes nothing.
use Rattle.records.specs.Refused.{refused_at}
use Rattle.outcomes.specs.Accepted.{accepted_with}
use Prim.Native.Nat.{ℕ, ◌+◌, ◌*◌, ◌/◌, ◌≤◌, ◌<◌}
use mathlib.Core.Path.{◌≡◌, ◌∙◌, ap, sym, subst}
use mathlib.Core.List.{List, ◌++◌}
use native.Mathlib.Omega.{arith}
use lib.ListN.{length, get_or, replicate, length-append, length-replicate}
use Rattle.records.specs.declared.Refusal.{Refusal}
use Rattle.replicates.specs.declared.Replicated.{Replicated}
use Rattle.replicates.specs.Log.{entry_count, entry_at}
use Rattle.replicates.specs.Call.{outcome, Determined}
use Rattle.pages.specs.Put.{Put}
use Rattle.pages.specs.Text.{field}
use Rattle.pages.specs.Decimal.{decimal}
use Rattle.pages.specs.Entry.{entry}
use Rattle.pages.proofs.Lined.{no_line, next-line, lines-length}
use Rattle.pages.proofs.Decimals.{decimal-length}
use Rattle.pages.proofs.Entries.{widest, entry-width}
use Rattle.sentences.specs.Refusals as line
use Rattle.beside_pages.specs.LogText.{flags, entry_line, entry_lines, none, text_of, measured_text}

-- ---- no entry's line, and one more

module _ (log bytes : List ℕ) where
  abbrev of : ℕ → List ℕ
  of i = entry_line i (entry_at log i) (get_or bytes (2 * i) 0) (get_or bytes (2 * i + 1) 0)

  pub no-entry : {p : List ℕ} {at : ℕ} → Put p at (entry_lines log bytes 0) p at
  unfolding entry_lines
  no-entry = no_line of

  pub next-entry : {p : List ℕ} {at : ℕ} {q : List ℕ} {e : ℕ} {r : List ℕ} {f : ℕ} (i piece : ℕ) → piece ≡ entry_at log i
      → Put p at (entry_lines log bytes i) q e → Put q e (entry_line i piece (get_or bytes (2 * i) 0) (get_or bytes (2 * i + 1) 0)) r f
      → Put p at (entry_lines log bytes (i + 1)) r f
  unfolding entry_lines
  next-entry i piece is a b = next-line of i a (rw is at b)

-- ---- 20 bytes an entry

flag-width : (k : ℕ) → length (entry k flags) ≤ 3
unfolding widest
flag-width k = entry-width k flags

entry-width-is : (i piece apart flag : ℕ) → i < 100000 → piece < 100000 → apart < 1000 → length (entry_line i piece apart flag) ≤ 20
unfolding entry_line
entry-width-is i piece apart flag hi hp ha =
    simp length-append
    (omega (arith, decimal-length 4 i (omega arith), decimal-length 4 piece (omega arith), decimal-length 2 apart (omega arith), flag-width flag))

pub entries-width : (log bytes : List ℕ) → ((j : ℕ) → get_or log j 0 < 256) → ((j : ℕ) → get_or bytes j 0 < 256) → length log ≤ 65538
    → length (entry_lines log bytes (entry_count log)) ≤ 655380
unfolding entry_lines
entries-width log bytes small less h =
    omega (
      arith,
      lines-length (of log bytes) 20 (entry_count log)
          (λ i l.
          entry-width-is i (entry_at log i) (get_or bytes (2 * i) 0) (get_or bytes (2 * i + 1) 0) (omega arith) (omega (arith, small (2 * i), small (2 * i + 1)))
          (omega (arith, less (2 * i)))),
    )

-- ---- by the outcome

module _ (book log source other out : List ℕ) (r : Replicated) (d : Determined book none log (replicate 65538 0) r out) where
  comes : r.outcome ≡ outcome book none log 65538
  comes = d.outcome-is ∙ ap (outcome book none log) (length-replicate {A = ℕ} 65538 0)

  told : text_of log source other r.outcome out ≡ measured_text book log source other
  unfolding measured_text
  told = rw (d.bytes-are, comes)

  -- a text of the outcome that was put is the log's
  module _ {p q : List ℕ} {end : ℕ} where
    pub refused : (e : Refusal) (i : ℕ) → r.outcome ≡ refused_at e i → Put p 0 (line.refused e i source other) q end × (length (line.refused e i source other) ≤ 142)
        → Put p 0 (measured_text book log source other) q end × (length (measured_text book log source other) ≤ 655380)
    unfolding text_of
    refused e i is a =
        let same : line.refused e i source other ≡ measured_text book log source other = rw (sym told, is) in
        subst (λ s. Put p 0 s q end × (length s ≤ 655380)) same (a.0, omega (arith, a.1))

    pub accepted : (n nodes shadows : ℕ) → r.outcome ≡ accepted_with n nodes shadows
        → Put p 0 (entry_lines log out (entry_count log)) q end × (length (entry_lines log out (entry_count log)) ≤ 655380)
        → Put p 0 (measured_text book log source other) q end × (length (measured_text book log source other) ≤ 655380)
    unfolding text_of
    accepted n nodes shadows is a =
        let same : entry_lines log out (entry_count log) ≡ measured_text book log source other = rw (sym told, is) in
        subst (λ s. Put p 0 s q end × (length s ≤ 655380)) same a

-- two bytes an entry are as many as the log has
pub bytes-serve : (n m : ℕ) → n ≤ 65538 → m ≡ 65538 → (2 * (n / 2) ≤ m) × (n ≤ 65538)
bytes-serve n m h e = (omega arith, h)

pub whole-line : (i piece apart flag a f : ℕ) → a ≡ apart → f ≡ flag
    → field (decimal i) 32 ++ (field (decimal piece) 32 ++ (field (decimal a) 32 ++ field (entry f flags) 10)) ≡ entry_line i piece apart flag
unfolding entry_line
whole-line i piece apart flag a f is js = rw (is, js)
