-- Lines read one after the other, as the loop reads them. Assumes nothing.
use Prim.Native.Nat.{ℕ, zero, suc, ◌+◌, ◌*◌, ◌-◌, ◌≤◌, ◌<◌}
use mathlib.Core.Path.{◌≡◌, refl, sym, ap, ap₂, ◌∙◌}
use mathlib.Core.List.{List, [], ◌∷◌, ◌++◌, append-nil}
use native.Mathlib.Omega.{arith}
use native.Mathlib.Numerals.{add-one}
use lib.ListN.{length, take, drop, length-append, drop_of_length-le}
use lib.Seq.{length-take-le}
use Rattle.lists.specs.Front.{front, placed}
use Rattle.lists.proofs.Fronts.{front-none, front-taken, placed-none, placed-front}
use Rattle.records.specs.declared.Record.{Record}
use Rattle.text.specs.declared.Form.{Form}
use Rattle.text.specs.declared.Form.TheVariants.{Records, Claims, Log}
use Rattle.text.specs.declared.Reason.{Reason}
use Rattle.std.specs.Prelude.{Some, None, Result, Ok, Err}
use Rattle.text.specs.declared.words.Sort.TheVariants.{Inner}
use Rattle.text.specs.declared.reading.Unread.TheVariants.{BadLine}
use Rattle.text.specs.Runs.{of_sort, run}
use Rattle.text.specs.Line.{Line, line_of}
use Rattle.text.specs.Lines.{lines}
use Rattle.text.specs.Entry.{size, bytes_of}
use Rattle.text.specs.Text.{Entries, Broken, most, bytes_most, read_lines}
use Rattle.text.specs.Reading.{Stepped, adds, step_of, read_from, lines_into, lines_leave}
use Rattle.text.proofs.Cuts.{line_at}

-- ## one line

-- what a line says, with the equation
pub data Which (x : Line) : Type 0 where
  nothing : x ≡ Ok None → Which x
  entry : (e : Record) → x ≡ Ok (Some e) → Which x
  bad : (r : Reason) → x ≡ Err r → Which x

pub which : (x : Line) → Which x
which (Ok None) = nothing refl
which (Ok (Some e)) = entry e refl
which (Err r) = bad r refl

module _ (form : Form) (left n : ℕ) (done l : List ℕ) (ls : List (List ℕ)) where
  pub line-nothing : line_of form l ≡ Ok None → read_lines form (suc left) n done (l ∷ ls) ≡ read_lines form (suc left) (suc n) done ls
  unfolding read_lines
  line-nothing e = rw (e, read_lines)

  pub line-entry : (r : Record) → line_of form l ≡ Ok (Some r) → read_lines form (suc left) n done (l ∷ ls) ≡ read_lines form left (suc n) (done ++ bytes_of form r) ls
  unfolding read_lines
  line-entry r e = rw (e, read_lines)

  pub line-bad : (r : Reason) → line_of form l ≡ Err r → read_lines form (suc left) n done (l ∷ ls) ≡ Broken n r done
  unfolding read_lines
  line-bad r e = rw (e, read_lines)

pub no_lines : (form : Form) (left n : ℕ) (done : List ℕ) → read_lines form left n done (lines []) ≡ Entries done
unfolding read_lines lines
no_lines form left n done = refl

pub none_left : (form : Form) (n : ℕ) (done : List ℕ) (ls : List (List ℕ)) → read_lines form 0 n done ls ≡ Entries done
unfolding read_lines
none_left form n done [] = refl
none_left form n done (l ∷ ls) = refl

-- ## sizes

pub size_is : (form : Form) (e : Record) → length (bytes_of form e) ≡ size form
unfolding bytes_of
size_is Records e = refl
size_is Claims e = refl
size_is Log e = refl

pub size_none : (form : Form) → size form * 0 ≡ 0
size_none Records = refl
size_none Claims = refl
size_none Log = refl

pub size-more : (form : Form) (x y : ℕ) → size form * (x + y) ≡ size form * x + size form * y
size-more Records x y = omega arith
size-more Claims x y = omega arith
size-more Log x y = omega arith

pub size-suc : (form : Form) (k : ℕ) → size form * suc k ≡ size form + size form * k
size-suc Records k = omega arith
size-suc Claims k = omega arith
size-suc Log k = omega arith

size-zero : (form : Form) (k : ℕ) → size form * k ≡ 0 → k ≡ 0
size-zero Records k h = omega arith
size-zero Claims k h = omega arith
size-zero Log k h = omega arith

-- ## the loop

front_long : (xs l : List ℕ) → length xs ≤ length (front xs l)
unfolding front
front_long xs l = omega (arith, length-append xs (drop (length xs) l))

-- `left` entries can be read yet, of the lines from `at` on
pub record Going (form : Form) (text out₀ out : List ℕ) (from at line done left : ℕ) : Type 0 where
  pub long : length out ≡ length out₀
  pub inside : done ≤ length out
  pub count : done + size form * left ≡ bytes_most form
  pub written : out ≡ front (take done out) out₀
  pub reads : read_from form from text ≡ read_lines form left line (take done out) (lines (drop at text))

pub going_start : (form : Form) (text out : List ℕ) (from : ℕ) → Going form text out out from from 1 0 (most form)
unfolding read_from
going_start form text out from = record { long = refl; inside = omega arith; count = omega arith; written = sym (front-none out); reads = refl }

module _ (form : Form) (text out₀ out : List ℕ) (from at line done left : ℕ) (g : Going form text out₀ out from at line done left) where
  taken : length (take done out) ≡ done
  taken = length-take-le done out g.inside

  ending : read_from form from text ≡ Entries (take done out) → (Ok done ≡ lines_into form from text) × (out ≡ lines_leave form from text out₀)
  ending e = (rw e (ap Ok (sym taken)), rw e g.written)

  pub going_end : length text ≤ at → (Ok done ≡ lines_into form from text) × (out ≡ lines_leave form from text out₀)
  going_end h =
      ending
      (g.reads
      ∙ ap (λ (m : List ℕ). read_lines form left line (take done out) (lines m)) (drop_of_length-le text h)
      ∙ no_lines form left line (take done out))

  pub going-full : done ≡ bytes_most form → (Ok done ≡ lines_into form from text) × (out ≡ lines_leave form from text out₀)
  going-full h =
      ending
      (g.reads
      ∙ ap (λ (k : ℕ). read_lines form k line (take done out) (lines (drop at text))) (size-zero form left (omega (arith, g.count)))
      ∙ none_left form line (take done out) (lines (drop at text)))

  -- where not all is read there is an entry left, and its bytes fit
  module _ (more : done ≡ bytes_most form → ⊥) where
    pub some_left : (k : ℕ) × (left ≡ suc k)
    some_left = pick left g.count
      where
        pick : (m : ℕ) → done + size form * m ≡ bytes_most form → (k : ℕ) × (m ≡ suc k)
        pick zero e = absurd (more (omega (arith, size_none form)))
        pick (suc k) e = (k, refl)

    pub fits_one : bytes_most form ≤ length out → done + size form ≤ length out
    fits_one h = let s = some_left in omega (arith, g.count, ap (λ (m : ℕ). size form * m) s.1, size-suc form s.0)

    module _ (e : ℕ) (h : at < length text) (i : e ≡ at + length (run (of_sort Inner) (drop at text))) (out' : List ℕ) (r : Result ℕ Reason)
        (s : Stepped form (take (e - at) (drop at text)) done out out' r) (same : length out' ≡ length out) where
      abbrev said : Line
      said = line_of form (take (e - at) (drop at text))

      abbrev later : List (List ℕ)
      later = lines (drop (e + 1) text)

      next-reads : (k : ℕ) → left ≡ k → read_from form from text ≡ read_lines form k line (take done out) (take (e - at) (drop at text) ∷ later)
      next-reads k q = g.reads ∙ ap₂ (λ (m : ℕ) (x : List (List ℕ)). read_lines form m line (take done out) x) q (line_at text at e h i)

      adding : (n left' : ℕ) (b : List ℕ) → n ≡ done + length b → out' ≡ placed done b out → size form * left ≡ length b + size form * left'
          → read_from form from text ≡ read_lines form left' (suc line) (take done out ++ b) later → Going form text out₀ out' from (e + 1) (line + 1) n left'
      adding n left' b m p z reads =
          let f : out' ≡ front (take done out ++ b) out₀ =
          p ∙ ap₂ (λ (x : ℕ) (y : List ℕ). placed x b y) (sym taken) g.written ∙ placed-front (take done out) b out₀ in
          let j : n ≡ length (take done out ++ b) = omega (arith, length-append (take done out) b, taken) in
          let t : take n out' ≡ take done out ++ b =
          ap₂ take j f ∙ front-taken (take done out ++ b) out₀ in
          record {
            long = same ∙ g.long;
            inside = omega (arith, ap length f, front_long (take done out ++ b) out₀);
            count = omega (arith, g.count);
            written = f ∙ ap (λ (x : List ℕ). front x out₀) (sym t);
            reads = reads ∙ ap₂ (λ (x : ℕ) (y : List ℕ). read_lines form left' x y later) (sym (add-one line)) (sym t);
          }

      pub going_on : (n : ℕ) → r ≡ Ok n → (k : ℕ) × Going form text out₀ out' from (e + 1) (line + 1) n k
      going_on n q = pick (which said) some_left
        where
          pick : Which said → (k : ℕ) × (left ≡ suc k) → (k : ℕ) × Going form text out₀ out' from (e + 1) (line + 1) n k
          pick (nothing w) (k, z) =
              let m : n ≡ done = cc (s.goes, ap (step_of form done) w) in
              let p : out' ≡ placed done [] out = s.puts ∙ ap (λ (x : Line). placed done (adds form x) out) w in (
                suc k,
                adding n (suc k) [] (omega arith) p (omega (arith, ap (λ (x : ℕ). size form * x) z))
                    (next-reads (suc k) z
                    ∙ line-nothing form k line (take done out) (take (e - at) (drop at text)) later w
                    ∙ ap (λ (x : List ℕ). read_lines form (suc k) (suc line) x later) (sym (append-nil (take done out)))),
              )
          pick (entry x w) (k, z) =
              let m : n ≡ done + length (bytes_of form x) = cc (s.goes, ap (step_of form done) w) in
              let p : out' ≡ placed done (bytes_of form x) out = s.puts ∙ ap (λ (y : Line). placed done (adds form y) out) w in (
                k,
                adding n k (bytes_of form x) m p (omega (arith, ap (λ (y : ℕ). size form * y) z, size-suc form k, size_is form x))
                    (next-reads (suc k) z ∙ line-entry form k line (take done out) (take (e - at) (drop at text)) later x w),
              )
          pick (bad x w) z = let o : ◌≡◌ {A = ℕ} 0 1 = cc (s.goes, ap (step_of form done) w) in absurd (omega arith)

      pub going-stop : (x : Reason) → r ≡ Err x → (Err (BadLine line x) ≡ lines_into form from text) × (out' ≡ lines_leave form from text out₀)
      going-stop x q = pick (which said) some_left
        where
          pick : Which said → (k : ℕ) × (left ≡ suc k) → (Err (BadLine line x) ≡ lines_into form from text) × (out' ≡ lines_leave form from text out₀)
          pick (nothing w) z = let o : ◌≡◌ {A = ℕ} 0 1 = cc (s.goes, ap (step_of form done) w) in absurd (omega arith)
          pick (entry y w) z = let o : ◌≡◌ {A = ℕ} 0 1 = cc (s.goes, ap (step_of form done) w) in absurd (omega arith)
          pick (bad y w) (k, z) =
              let m : x ≡ y = cc (s.goes, ap (step_of form done) w) in
              let p : out' ≡ out = s.puts ∙ ap (λ (v : Line). placed done (adds form v) out) w ∙ placed-none done out in
              let b : read_from form from text ≡ Broken line y (take done out) =
              next-reads (suc k) z ∙ line-bad form k line (take done out) (take (e - at) (drop at text)) later y w in
              (rw b (ap (λ (v : Reason). Err (BadLine line v)) m), rw b (p ∙ g.written))
