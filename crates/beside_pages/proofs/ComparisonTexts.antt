-- The text of a comparison by what the call comes to, and how long it is. Assumes nothing.
use Rattle.std.specs.Prelude.{Ok}
use Rattle.compare.specs.Refused.{Comparison, refused_of}
use Prim.Native.Nat.{ℕ, ◌+◌, ◌*◌, ◌/◌, ◌≤◌, ◌<◌}
use mathlib.Core.Path.{◌≡◌, ◌∙◌, ap, sym}
use mathlib.Core.Bool.{Bool, true, false}
use mathlib.Core.List.{List, ◌++◌}
use native.Mathlib.Omega.{arith}
use lib.ListN.{length, get_or, replicate, length-append, length-replicate}
use borrow.Author.Tests.{eq-eqb, ne_eqb}
use Rattle.records.specs.declared.Record.{Record}
use Rattle.records.specs.Record.{record_at, records}
use Rattle.records.specs.declared.Refusal.{Refusal}
use Rattle.compare.specs.Call.{outcome, Determined}
use Rattle.pages.specs.Text.{ascii}
use Rattle.pages.specs.Put.{Put}
use Rattle.pages.proofs.Lined.{no_line, next-line, lines-length}
use Rattle.pages.proofs.Decimals.{decimal-length}
use Rattle.sentences.specs.Unread.{prefix}
use Rattle.sentences.specs.Refusals as line
use Rattle.sentences.proofs.Rooms.{kind-width, answer-width, agreement-width, prefix-width}
use Rattle.beside_pages.specs.ComparisonText.{pair_line, pair_lines, together_line, refused_in, text_of, beside_text}

-- ---- no claim's line, and one more

module _ (claims bytes : List ℕ) where
  abbrev of : ℕ → List ℕ
  of i = pair_line i (record_at claims i) (get_or bytes (3 * i) 0) (get_or bytes (3 * i + 1) 0) (get_or bytes (3 * i + 2) 0)

  pub no-pair : {p : List ℕ} {at : ℕ} → Put p at (pair_lines claims bytes 0) p at
  unfolding pair_lines
  no-pair = no_line of

  pub next-pair : {p : List ℕ} {at : ℕ} {q : List ℕ} {e : ℕ} {r : List ℕ} {f : ℕ} (i : ℕ) (claim : Record) → claim ≡ record_at claims i
      → Put p at (pair_lines claims bytes i) q e
      → Put q e (pair_line i claim (get_or bytes (3 * i) 0) (get_or bytes (3 * i + 1) 0) (get_or bytes (3 * i + 2) 0)) r f → Put p at (pair_lines claims bytes (i + 1)) r f
  unfolding pair_lines
  next-pair i claim is a b = next-line of i a (rw is at b)

-- ---- 51 bytes a claim

pair-width : (i : ℕ) (claim : Record) (ours theirs agreement : ℕ) → i < 100000 → claim.a < 100000 → claim.b < 100000
    → length (pair_line i claim ours theirs agreement) ≤ 51
unfolding pair_line
pair-width i claim ours theirs agreement hi ha hb =
    simp length-append
    (omega (
      arith,
      decimal-length 4 i (omega arith),
      kind-width claim.kind,
      decimal-length 4 claim.a (omega arith),
      decimal-length 4 claim.b (omega arith),
      answer-width ours,
      answer-width theirs,
      agreement-width agreement,
    ))

pairs-width : (claims bytes : List ℕ) → ((j : ℕ) → get_or claims j 0 < 256) → (n : ℕ) → n ≤ 10000 → length (pair_lines claims bytes n) ≤ 51 * n
unfolding pair_lines record_at
pairs-width claims bytes small n few =
    lines-length (of claims bytes) 51 n
    (λ i l.
    pair-width i (record_at claims i) (get_or bytes (3 * i) 0) (get_or bytes (3 * i + 1) 0) (get_or bytes (3 * i + 2) 0) (omega arith)
    (omega (arith, small (6 * i + 2), small (6 * i + 3)))
    (omega (arith, small (6 * i + 4), small (6 * i + 5))))

together-width : (b : Bool) → length (together_line b) ≤ 13
unfolding together_line
together-width true = omega arith
together-width false = omega arith

pub laid : (b : Bool) → b ≡ true → ascii "TOGETHER YES\n" ≡ together_line b
unfolding together_line
laid b is = rw is

pub not-laid : (b : Bool) → b ≡ false → ascii "TOGETHER NO\n" ≡ together_line b
unfolding together_line
not-laid b is = rw is

-- ---- refusals

module _ (k : ℕ) (r : Refusal) (i : ℕ) (source second claims : List ℕ) where
  pub in-second : k ≡ 2 → prefix 1 ++ line.refused r i second claims ≡ refused_in k r i source second claims
  unfolding refused_in
  in-second is = rw (eq-eqb k 2 is)

  pub in-first : (k ≡ 2 → ⊥) → line.refused r i source claims ≡ refused_in k r i source second claims
  unfolding refused_in
  in-first not = rw (ne_eqb k 2 not)

  pub second_short : k ≡ 2 → length (line.refused r i second claims) ≤ 142 → length (refused_in k r i source second claims) ≤ 149
  second_short is h = rw (sym (in-second is)) (omega (arith, length-append (prefix 1) (line.refused r i second claims), prefix-width 1))

  pub first_short : (k ≡ 2 → ⊥) → length (line.refused r i source claims) ≤ 142 → length (refused_in k r i source second claims) ≤ 149
  first_short not h = rw (sym (in-first not)) (omega arith)

-- ---- by the comparison

module _ (first other asked source second claims out : List ℕ) (r : Comparison) (d : Determined first other asked (replicate 12291 0) r out) where
  comes : r ≡ outcome first other asked 12291
  comes = d.0 ∙ ap (outcome first other asked) (length-replicate {A = ℕ} 12291 0)

  told : text_of asked source second claims r out ≡ beside_text first other asked source second claims
  unfolding beside_text
  told = rw (d.1, comes)

  module _ (k : ℕ) (e : Refusal) (i : ℕ) (is : r ≡ refused_of k e i) where
    pub refused : refused_in k e i source second claims ≡ beside_text first other asked source second claims
    unfolding text_of
    refused = rw (sym told, is)

    pub refused-short : length (refused_in k e i source second claims) ≤ 149 → length (beside_text first other asked source second claims) ≤ 208960
    refused-short h = rw (sym refused) (omega arith)

  module _ (b : Bool) (is : r ≡ Ok b) where
    pub compared : together_line b ++ pair_lines asked out (records asked) ≡ beside_text first other asked source second claims
    unfolding text_of
    compared = rw (sym told, is)

    pub compared-short : ((j : ℕ) → get_or asked j 0 < 256) → length asked ≤ 24582 → length (beside_text first other asked source second claims) ≤ 208960
    compared-short small h =
        rw (sym compared)
        (omega (arith, length-append (together_line b) (pair_lines asked out (records asked)), together-width b, pairs-width asked out small (records asked) (omega arith)))

-- three bytes a claim
pub bytes-serve : (n m : ℕ) → n ≤ 24582 → m ≡ 12291 → 3 * (n / 6) ≤ m
bytes-serve n m h e = omega arith
