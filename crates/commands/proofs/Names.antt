-- A word against the rows of a table. Assumes nothing.
use Prim.Native.Nat.{ℕ, ◌+◌, ◌≤◌, ◌<◌}
use mathlib.Core.Path.{◌≡◌, refl}
use mathlib.Core.Bool.{Bool, true, false}
use mathlib.Core.List.{List, [], ◌∷◌, ◌++◌}
use lib.ListN.{length, get_or, drop}
use borrow.Author.Tests.{ne_eqb, lt-ltb, le-ltb}
use Rattle.std.proofs.Common.{Bor, map, Option, Some, None}
use native.Mathlib.Omega.{arith}
use Rattle.std.specs.Option.{option_or, unwrap_or}
use Rattle.std.specs.Str.{bytes_eq}
use Rattle.std.proofs.lemmas.List.{drop_more, drop_all}
use Rattle.std.specs.Prelude.{if◌then◌else◌}
use Rattle.commands.specs.declared.Command.{Command}
use Rattle.commands.specs.declared.Command.TheVariants.{Task}
use Rattle.commands.specs.declared.Task.TheVariants.{Help}
use Rattle.commands.specs.Named.{same, Row, row, named, found, of_book, of_words, of_files, rows_for, command_of}

-- what a table of the code says of a word
abbrev pub said : List (Bor (List ℕ) × Command) → List ℕ → Option Command
said rows word = found (map (λ r. row r.0.now r.1) rows) word

-- the row at i against the word, by what the test of them returned
module _ (rows : List (Bor (List ℕ) × Command)) (i : ℕ) (d : Bor (List ℕ) × Command) (word : List ℕ) where
  pub here : i < length rows → bytes_eq word (get_or rows i d).0.now ≡ true → said (drop i rows) word ≡ Some (get_or rows i d).1
  unfolding found
  here l e = rw (drop_more rows i d l, e) refl

  pub beyond : i < length rows → bytes_eq word (get_or rows i d).0.now ≡ false → said (drop i rows) word ≡ said (drop (i + 1) rows) word
  unfolding found
  beyond l e = rw (drop_more rows i d l, e) refl

pub past : (rows : List (Bor (List ℕ) × Command)) (i : ℕ) (word : List ℕ) → length rows ≤ i → said (drop i rows) word ≡ None
unfolding found
past rows i word l = rw (drop_all i rows l) refl

if_append : (b : Bool) (command : Command) (r s t : Option Command) → r ≡ option_or s t → (if b then Some command else r) ≡ option_or (if b then Some command else s) t
if_append true command r s t e = refl
if_append false command r s t e = e

found-append : (rows more : List Row) (word : List ℕ) → found (rows ++ more) word ≡ option_or (found rows word) (found more word)
unfolding found
found-append [] more word = refl
found-append (row name command ∷ rows) more word = if_append (same word name) command _ _ _ (found-append rows more word)

if_named : (b : Bool) (command x : Command) (r : Option Command) → x ≡ unwrap_or r (Task Help) → (if b then command else x) ≡ unwrap_or (if b then Some command else r) (Task Help)
if_named true command x r e = refl
if_named false command x r e = e

named-is : (rows : List Row) (word : List ℕ) → named rows word ≡ unwrap_or (found rows word) (Task Help)
unfolding named found
named-is [] word = refl
named-is (row name command ∷ rows) word = if_named (same word name) command _ _ (named-is rows word)

-- the rows, by how many arguments there are
module _ (word : List ℕ) (count : ℕ) where
  pub answered : command_of word count ≡ unwrap_or (found (rows_for count) word) (Task Help)
  unfolding command_of
  answered = named-is (rows_for count) word

  pub few : count < 3 → found (rows_for count) word ≡ None
  unfolding rows_for found
  few l = rw (lt-ltb count 3 l) refl

  pub three : count ≡ 3 → found (rows_for count) word ≡ found of_book word
  unfolding rows_for
  three e = rw e refl

  pub four : count ≡ 4 → found (rows_for count) word ≡ option_or (found of_files word) (found of_words word)
  unfolding rows_for
  four e = rw e (found-append of_files of_words word)

  pub more : 4 < count → found (rows_for count) word ≡ found of_words word
  unfolding rows_for
  more l = rw (le-ltb count 3 (omega arith), ne_eqb count 3 (λ e. omega arith), ne_eqb count 4 (λ e. omega arith)) refl
