-- How long words, refusals and what cannot be read are. Assumes nothing.
use Prim.Native.Nat.{ℕ, zero, suc, ◌≤◌, ◌<◌, ◌^◌}
use mathlib.Core.Bool.{true}
use native.Mathlib.Omega.{arith}
use mathlib.Core.Path.{◌≡◌, sym}
use mathlib.Core.List.{List, [], ◌∷◌, ◌++◌}
use lib.Dec.{ltb}
use Rattle.pages.specs.Text.{ascii, line}
use lib.ListN.{length, length-append}
use Rattle.lists.proofs.Bools.{Known, is_true, is_false, known}
use Rattle.pages.specs.Decimal.{decimal}
use Rattle.pages.proofs.Decimals.{decimal-length}
use Rattle.pages.proofs.Entries.{widest, entry-width}
use Rattle.sentences.specs.Words.{kinds, answers, agreements, kind_name, answer_name, agreement_name}
use Rattle.sentences.specs.Refusals.{sentences, sentence, refusal_line, refused}
use Rattle.records.specs.declared.Refusal.{Refusal}
use Rattle.sentences.specs.Unread.{prefixes, prefix, reasons, wording, reason_of, lined, unread_line}

pub kind-width : (k : ℕ) → length (kind_name k) ≤ 7
unfolding kind_name widest
kind-width k = entry-width k kinds

pub answer-width : (v : ℕ) → length (answer_name v) ≤ 7
unfolding answer_name widest
answer-width v = entry-width v answers

pub agreement-width : (s : ℕ) → length (agreement_name s) ≤ 8
unfolding agreement_name widest
agreement-width s = entry-width s agreements

pub prefix-width : (source : ℕ) → length (prefix source) ≤ 7
unfolding prefix widest
prefix-width source = entry-width source prefixes

sentence-width : (n : ℕ) → length (sentence n) ≤ 65
unfolding sentence widest
sentence-width n = entry-width n sentences

reason-width : (source reason : ℕ) → length (reason_of source reason) ≤ 54
unfolding reason_of widest
reason-width source reason = entry-width (wording source reason) reasons

pub refusal-width : (number place l : ℕ) → number < 2 ^ 64 → place < 2 ^ 64 → l < 2 ^ 64 → length (refusal_line number place l) ≤ 142
unfolding refusal_line
refusal-width number place zero hn hp hl =
    simp length-append (omega (arith, decimal-length 19 number (omega arith), decimal-length 19 place (omega arith), sentence-width number))
refusal-width number place (suc l) hn hp hl =
    simp length-append
    (omega (arith, decimal-length 19 number (omega arith), decimal-length 19 place (omega arith), decimal-length 19 (suc l) (omega arith), sentence-width number))

pub refused-width : (r : Refusal) (number place l : ℕ) (book other : List ℕ) → refusal_line number place l ≡ refused r place book other
    → length (refusal_line number place l) ≤ 142 → length (refused r place book other) ≤ 142
refused-width r number place l book other is h = rw (sym is) h

-- words have no line
pub unread-width : (source l reason : ℕ) → (ltb source 4 ≡ true → length (decimal l) ≤ 20) → length (unread_line source l reason) ≤ 95
unfolding unread_line
unread-width source l reason h = go (known (ltb source 4))
  where
    go : Known (ltb source 4) → length (prefix source ++ line (ascii "UNREAD" ∷ (lined (ltb source 4) l ++ (reason_of source reason ∷ [])))) ≤ 95
    go (is_true e) = rw e (simp length-append (omega (arith, prefix-width source, h e, reason-width source reason)))
    go (is_false e) = rw e (simp length-append (omega (arith, prefix-width source, reason-width source reason)))
