-- The sequence that a call looks at: how long it is, what stands where in it, and that its pieces are the book's. Assumes nothing.
use Prim.Native.Nat.{ℕ, ◌+◌, ◌-◌, ◌<◌, ◌≤◌}
use mathlib.Core.Path.{◌≡◌, refl, sym, ap, ap₂, ◌∙◌}
use mathlib.Core.List.{List, ◌++◌}
use native.Mathlib.Decide.{dec_lt}
use native.Mathlib.Numerals.{add-one}
use native.Mathlib.Omega.{arith}
use lib.ListN.{length, get_or, take, drop, set, replicate, length-append, length-take, length-drop, get_or-append}
use lib.Seq.{get_or-take, get_or-append-add, get_or-set_same, get_or-set_other, ext_get_or, take-suc, take_all, get_or-drop}
use Rattle.std.proofs.lemmas.List.{drop-replicate}
use Rattle.lists.specs.Tally.{num}
use mir.Val.{bool_byte}
use mathlib.Core.Bool.{Bool, true, false}
use Rattle.lists.proofs.Tabs.{tab-at, tab-length}
use Rattle.parentheses.specs.Padded.{padded}
use Rattle.parentheses.proofs.Paddeds.{padded-more}
use Rattle.replicates.specs.declared.Window.{Window}
use Rattle.replicates.specs.Log.{entry_count, entry_at, entries, handed, sequence, last_of, window_of}
use Rattle.replicates.specs.Writing.{Fits, Begun, Followed}

pub entries-length : (log : List ℕ) → length (entries log) ≡ entry_count log
unfolding entries
entries-length log = tab-length (entry_at log) 0 (entry_count log)

pub sequence-length : (w : Window) (log : List ℕ) → length (sequence w log) ≡ length (handed w) + entry_count log
unfolding sequence
sequence-length w log = length-append (handed w) (entries log) ∙ ap (λ (k : ℕ). length (handed w) + k) (entries-length log)

module _ (w : Window) (log : List ℕ) (few : w.count ≤ length w.pieces) where
  pub handed-length : length (handed w) ≡ w.count
  unfolding handed
  handed-length = length-take w.count w.pieces ∙ omega arith

  pub sequence-long : length (sequence w log) ≡ w.count + entry_count log
  sequence-long = sequence-length w log ∙ ap (λ (k : ℕ). k + entry_count log) handed-length

  window-at : (j : ℕ) → j < w.count → get_or (sequence w log) j 0 ≡ get_or w.pieces j 0
  unfolding sequence handed
  window-at j l = get_or-append (handed w) (entries log) 0 j (omega (arith, handed-length)) ∙ get_or-take w.count w.pieces j 0 l

  entry-at : (j : ℕ) → j < entry_count log → get_or (sequence w log) (w.count + j) 0 ≡ entry_at log j
  unfolding sequence entries
  entry-at j l =
      ap (λ (k : ℕ). get_or (sequence w log) (k + j) 0) (sym handed-length)
      ∙ get_or-append-add (handed w) (entries log) j 0
      ∙ tab-at (entry_at log) (entry_count log) j 0 l

  -- what the loops leave is the sequence
  pub filled : (xs xs' : List ℕ) → w.count + entry_count log ≤ length xs' → Begun w xs → Followed log w.count xs xs' → take (w.count + entry_count log) xs' ≡ sequence w log
  filled xs xs' room B F =
      let long : length (take (w.count + entry_count log) xs') ≡ w.count + entry_count log = length-take (w.count + entry_count log) xs' ∙ omega arith in
      ext_get_or 0 (take (w.count + entry_count log) xs') (sequence w log) (long ∙ sym sequence-long)
      (λ j l. get_or-take (w.count + entry_count log) xs' j 0 (omega (arith, long)) ∙ at j (omega (arith, long)) (dec_lt j w.count))
    where
      at : (j : ℕ) → j < w.count + entry_count log → Dec (j < w.count) → get_or xs' j 0 ≡ get_or (sequence w log) j 0
      at j l (yes h) = F.before j h ∙ B.at j h ∙ sym (window-at j h)
      at j l (no h) =
          let e : w.count + (j - w.count) ≡ j = omega arith in
          ap (λ (k : ℕ). get_or xs' k 0) (sym e) ∙ F.at (j - w.count) (omega arith) ∙ sym (entry-at (j - w.count) (omega arith)) ∙ ap (λ (k : ℕ). get_or (sequence w log) k 0) e

  pub pieces-below : (n : ℕ) → Fits n w log → (j : ℕ) → j < length (sequence w log) → get_or (sequence w log) j 0 < n
  pieces-below n F j l = at (dec_lt j w.count)
    where
      at : Dec (j < w.count) → get_or (sequence w log) j 0 < n
      at (yes h) = rw (window-at j h) (F.window j h)
      at (no h) =
          let e : w.count + (j - w.count) ≡ j = omega arith in
          let k : j - w.count < entry_count log = omega (arith, sequence-long) in
          rw (← e, entry-at (j - w.count) k) (F.entries (j - w.count) k)

-- ---- the loops

pub begun_more :
    (f : ℕ → ℕ) (xs : List ℕ) (i x : ℕ) → i < length xs → x ≡ f i → ((j : ℕ) → j < i → get_or xs j 0 ≡ f j) → (j : ℕ) → j < i + 1 → get_or (set xs i x) j 0 ≡ f j
begun_more f xs i x l e h j k = at (dec_lt j i)
  where
    at : Dec (j < i) → get_or (set xs i x) j 0 ≡ f j
    at (yes m) = get_or-set_other xs i j x 0 (λ q. omega arith) ∙ h j m
    at (no m) = let q : j ≡ i = omega arith in rw q (get_or-set_same xs i x 0 l ∙ e)

-- one place more of what is copied to place c on
pub copied_more :
    (f : ℕ → ℕ) (xs : List ℕ) (c i x : ℕ) → c + i < length xs → x ≡ f i → ((j : ℕ) → j < i → get_or xs (c + j) 0 ≡ f j)
    → (j : ℕ) → j < i + 1 → get_or (set xs (c + i) x) (c + j) 0 ≡ f j
copied_more f xs c i x l e h j k = at (dec_lt j i)
  where
    at : Dec (j < i) → get_or (set xs (c + i) x) (c + j) 0 ≡ f j
    at (yes m) = get_or-set_other xs (c + i) (c + j) x 0 (λ q. omega arith) ∙ h j m
    at (no m) = let q : j ≡ i = omega arith in rw q (get_or-set_same xs (c + i) x 0 l ∙ e)

-- and what stands before it
pub kept_more :
    (f : ℕ → ℕ) (xs : List ℕ) (c i x : ℕ) → ((j : ℕ) → j < c → get_or xs j 0 ≡ f j) → (j : ℕ) → j < c → get_or (set xs (c + i) x) j 0 ≡ f j
kept_more f xs c i x h j k = get_or-set_other xs (c + i) j x 0 (λ q. omega arith) ∙ h j k

-- ---- the last 31

pub last-length : (xs : List ℕ) → length (last_of xs) ≡ length xs - (length xs - 31)
unfolding last_of
last-length xs = length-drop (length xs - 31) xs

pub last_none : (xs : List ℕ) → replicate 31 0 ≡ padded 0 31 (take 0 (last_of xs))
unfolding padded
last_none xs = refl

pub last_more :
    (xs : List ℕ) (i x : ℕ) → i < length (last_of xs) → i < 31 → x ≡ get_or xs (length xs - 31 + i) 0
    → set (padded 0 31 (take i (last_of xs))) i x ≡ padded 0 31 (take (i + 1) (last_of xs))
unfolding last_of
last_more xs i x l m e =
    let long : length (take i (last_of xs)) ≡ i = length-take i (last_of xs) ∙ omega arith in
    ap₂ (λ (k y : ℕ). set (padded 0 31 (take i (last_of xs))) k y) (sym long) (e ∙ sym (get_or-drop (length xs - 31) xs i 0))
    ∙ padded-more 0 31 (take i (last_of xs)) (get_or (last_of xs) i 0) (omega arith)
    ∙ ap (padded 0 31) (sym (take-suc (last_of xs) i 0 l) ∙ ap (λ (k : ℕ). take k (last_of xs)) (sym (add-one i)))

pub window-is : (xs ps : List ℕ) (k : ℕ) → ps ≡ padded 0 31 (last_of xs) → k ≡ length (last_of xs) → record { pieces = ps; count = k } ≡ window_of xs
unfolding window_of
window-is xs ps k e f = rw (e, f)

pub last-all : (xs : List ℕ) (i : ℕ) → i ≡ length (last_of xs) → take i (last_of xs) ≡ last_of xs
last-all xs i e = rw e (take_all (length (last_of xs)) (last_of xs) (omega arith))

-- the last entries copied to the front of a list of zeros
pub window-copied :
    (xs new : List ℕ) (from : ℕ) → from ≡ length xs - 31 → new ≡ drop from xs
    → record { pieces = new ++ drop (length xs - from) (replicate 31 0); count = length xs - from } ≡ window_of xs
unfolding window_of padded last_of
window-copied xs new from e f =
    let k : length (drop (length xs - 31) xs) ≡ length xs - from = simp length-drop (omega arith) in
    rw (f, drop-replicate, k, ← e)

-- a flag as the language writes it
pub as_num : (b : Bool) → bool_byte b ≡ num b
as_num true = refl
as_num false = refl
