-- Runs of records: what a run from the start has of a longer one, and where the facts of a run come from. Assumes nothing.
use Prim.Native.Nat.{ℕ, zero, suc, ◌+◌, ◌*◌, ◌≤◌, ◌<◌}
use mathlib.Core.Path.{◌≡◌, refl, sym, ap, ap₂, ◌∙◌}
use mathlib.Core.Bool.{true, false}
use mathlib.Core.Logic.{◌⊎◌, inl, inr}
use mathlib.Core.List.Memᴰ
use mathlib.Core.List.{List, [], ◌∷◌, ◌++◌, Memᴰ}
use native.Mathlib.Numerals.{add-one}
use native.Mathlib.Omega.{arith}
use lib.ListN.{length, get_or, take}
use borrow.Author.Tests.{eqb-true, eqb-false}
use lib.Dec.{eqb}
use lib.Seq.{length-take-le, get_or-take, take-suc, ext_get_or}
use Rattle.lists.proofs.Tabs.{tab-at, tab-length}
use Rattle.lists.proofs.Bools.{Known, is_true, is_false, known}
use Rattle.lists.proofs.Members.{at-member, member-at}
use Rattle.rules.specs.Fact.{Fact}
use Rattle.rules.specs.Entries.{Entry, fact, none, facts_of}
use Rattle.records.specs.declared.Record.{Record}
use Rattle.records.specs.Record.{record_at, records}
use Rattle.records.specs.Pieces.{stated, largest, pieces_up_to}
use Rattle.records.specs.Facts.{saying, entry_of, entries, facts}

pub entries-length : (s : List ℕ) → length (entries s) ≡ records s
unfolding entries
entries-length s = tab-length (λ i. entry_of (record_at s i)) 0 (records s)

pub entries_at : (s : List ℕ) (i : ℕ) (d : Entry) → i < records s → get_or (entries s) i d ≡ entry_of (record_at s i)
unfolding entries
entries_at s i d h = tab-at (λ i. entry_of (record_at s i)) (records s) i d h

-- A run of k records from the start.
module _ (s : List ℕ) (k : ℕ) (h : 6 * k ≤ length s) where
  pub run-records : records (take (6 * k) s) ≡ k
  run-records = omega (arith, length-take-le (6 * k) s h)

  byte : (p : ℕ) → p < 6 * k → get_or (take (6 * k) s) p 0 ≡ get_or s p 0
  byte p l = get_or-take (6 * k) s p 0 l

  pub run-record : (i : ℕ) → i < k → record_at (take (6 * k) s) i ≡ record_at s i
  unfolding record_at
  run-record i l =
      simp (byte (6 * i) (omega arith), byte (6 * i + 1) (omega arith), byte (6 * i + 2) (omega arith), byte (6 * i + 3) (omega arith), byte (6 * i + 4) (omega arith), byte (6 * i + 5) (omega arith))

  pub run-entries : entries (take (6 * k) s) ≡ take k (entries s)
  run-entries =
      let e = entries-length (take (6 * k) s) ∙ run-records in
      let l : k ≤ length (entries s) = omega (arith, entries-length s) in
      ext_get_or none (entries (take (6 * k) s)) (take k (entries s)) (e ∙ sym (length-take-le k (entries s) l))
      (λ i g.
      entries_at (take (6 * k) s) i none (omega (arith, entries-length (take (6 * k) s))) ∙ ap entry_of (run-record i (omega (arith, e)))
      ∙ sym (get_or-take k (entries s) i none (omega (arith, e)) ∙ entries_at s i none (omega (arith, e))))

-- one record more
pub entries-more : (s : List ℕ) (k : ℕ) → 6 * k + 6 ≤ length s → entries (take (6 * (k + 1)) s) ≡ entries (take (6 * k) s) ++ (entry_of (record_at s k) ∷ [])
entries-more s k h =
    run-entries s (k + 1) (omega arith) ∙ ap (λ (n : ℕ). take n (entries s)) (add-one k) ∙ take-suc (entries s) k none (omega (arith, entries-length s))
    ∙ ap₂ (λ (x : List Entry) (e : Entry). x ++ (e ∷ [])) (sym (run-entries s k (omega arith))) (entries_at s k none (omega arith))

pub facts_of-append : (es fs : List Entry) → facts_of (es ++ fs) ≡ facts_of es ++ facts_of fs
unfolding facts_of
facts_of-append [] fs = refl
facts_of-append (fact f ∷ es) fs = ap (λ (l : List Fact). f ∷ l) (facts_of-append es fs)
facts_of-append (none ∷ es) fs = facts_of-append es fs

pub facts-more : (s : List ℕ) (k : ℕ) → 6 * k + 6 ≤ length s → facts (take (6 * (k + 1)) s) ≡ facts (take (6 * k) s) ++ facts_of (entry_of (record_at s k) ∷ [])
facts-more s k h = ap facts_of (entries-more s k h) ∙ facts_of-append (entries (take (6 * k) s)) (entry_of (record_at s k) ∷ [])

-- An entry that brings a fact, and the fact.
pub entry-fact : (es : List Entry) (f : Fact) → Memᴰ (fact f) es → Memᴰ f (facts_of es)
unfolding facts_of
entry-fact [] f m = absurd (Memᴰ.not-nil m)
entry-fact (e ∷ es) f m = pick e (λ t. entry-fact es f t) (Memᴰ.cases_cons m)
  where
    pick : (e : Entry) → (Memᴰ (fact f) es → Memᴰ f (facts_of es)) → (fact f ≡ e) ⊎ Memᴰ (fact f) es → Memᴰ f (facts_of (e ∷ es))
    pick (fact g) rest (inl q) = let p : f ≡ g = cc in Memᴰ.head p
    pick none rest (inl q) = absurd (let z : ◌≡◌ {A = ℕ} 0 1 = cc in omega arith)
    pick (fact g) rest (inr t) = Memᴰ.tail (rest t)
    pick none rest (inr t) = rest t

pub fact-entry : (es : List Entry) (f : Fact) → Memᴰ f (facts_of es) → Memᴰ (fact f) es
unfolding facts_of
fact-entry [] f m = absurd (Memᴰ.not-nil m)
fact-entry (fact g ∷ es) f m = pick (λ t. fact-entry es f t) (Memᴰ.cases_cons m)
  where
    pick : (Memᴰ f (facts_of es) → Memᴰ (fact f) es) → (f ≡ g) ⊎ Memᴰ f (facts_of es) → Memᴰ (fact f) (fact g ∷ es)
    pick rest (inl q) = Memᴰ.head (ap fact q)
    pick rest (inr t) = Memᴰ.tail (rest t)
fact-entry (none ∷ es) f m = Memᴰ.tail (fact-entry es f m)

pub entry-stated : (r : Record) → stated r ≡ true → entry_of r ≡ fact (saying r)
unfolding entry_of
entry-stated r e = rw (e, entry_of)

pub entry-none : (r : Record) → stated r ≡ false → entry_of r ≡ none
unfolding entry_of
entry-none r e = rw (e, entry_of)

stated-entry : (r : Record) (f : Fact) → entry_of r ≡ fact f → (stated r ≡ true) × (saying r ≡ f)
stated-entry r f e = pick (known (stated r))
  where
    pick : Known (stated r) → (stated r ≡ true) × (saying r ≡ f)
    pick (is_true t) = let q = sym (entry-stated r t) ∙ e in (t, cc)
    pick (is_false t) = absurd (let q = sym (entry-none r t) ∙ e in let z : ◌≡◌ {A = ℕ} 0 1 = cc in omega arith)

-- The facts of a run are what its records of kinds 1 to 4 say.
module _ (s : List ℕ) where
  pub fact-here : (i : ℕ) → i < records s → stated (record_at s i) ≡ true → Memᴰ (saying (record_at s i)) (facts s)
  fact-here i h t =
      entry-fact (entries s) (saying (record_at s i))
      (Memᴰ.cast (sym (entries_at s i none h ∙ entry-stated (record_at s i) t)) (at-member (entries s) none i (omega (arith, entries-length s))))

  abbrev pub Source : Fact → Type 0
  Source f = (i : ℕ) × (i < records s) × (stated (record_at s i) ≡ true) × (saying (record_at s i) ≡ f)

  pub fact-from : (f : Fact) → Memᴰ f (facts s) → Source f
  fact-from f m =
      let a = member-at none (fact-entry (entries s) f m) in
      let h : a.0 < records s = omega (arith, entries-length s) in
      let t = stated-entry (record_at s a.0) f (sym (entries_at s a.0 none h) ∙ a.2) in
      (a.0, h, t.0, t.1)

-- Piece counts.
pub pieces-positive : (s : List ℕ) (n : ℕ) → 1 ≤ pieces_up_to s n
unfolding pieces_up_to
pieces-positive s zero = omega arith
pieces-positive s (suc n) = omega (arith, pieces-positive s n)

pub pieces-cover : (s : List ℕ) (n i : ℕ) → i < n → largest (record_at s i) < pieces_up_to s n
unfolding pieces_up_to
pieces-cover s zero i h = absurd (omega arith)
pieces-cover s (suc n) i h = pick (known (eqb i n)) (λ l. pieces-cover s n i l)
  where
    pick : Known (eqb i n) → (i < n → largest (record_at s i) < pieces_up_to s n) → largest (record_at s i) < pieces_up_to s (suc n)
    pick (is_true q) rest = omega (arith, ap (λ (j : ℕ). largest (record_at s j)) (eqb-true i n q))
    pick (is_false q) rest = omega (arith, rest (omega (arith, eqb-false i n q)))

pub pieces-least : (s : List ℕ) (n m : ℕ) → 1 ≤ m → ((i : ℕ) → i < n → largest (record_at s i) < m) → pieces_up_to s n ≤ m
unfolding pieces_up_to
pieces-least s zero m p h = p
pieces-least s (suc n) m p h = omega (arith, h n (omega arith), pieces-least s n m p (λ i l. h i (omega arith)))
