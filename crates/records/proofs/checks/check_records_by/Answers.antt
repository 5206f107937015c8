-- `checks::check_records_by` meets its contract. Assumes nothing.
use mathlib.Core.Path.{◌≡◌, refl, sym, ap, ap₂, ◌∙◌}
use Prim.Native.Nat.{ℕ, max, ◌<◌, ◌+◌, ◌*◌}
use native.Mathlib.Omega.{arith}
use borrow.Author.Count.{below_none}
use lib.ListN.{get_or, set, length-set}
use Rattle.std.specs.Prelude.{Ok}
use Rattle.records.specs.Pieces.{largest}
use Rattle.records.specs.Check.{form_finding}
use Rattle.records.specs.Record.{record_at}
use Rattle.records.specs.Key.{key_at}
use Rattle.records.proofs.Rows.{formed}
use Rattle.records.proofs.Fits.{fits-named}
use Rattle.records.proofs.Books.{at_first, accepts, refuses, goes_on, form-unfit, form-repeats, form-new, pieces_none, pieces_more}
use Rattle.records.proofs.Keys.{repeated, new, keyed-more}
use Rattle.records.proofs.Filters.{met-more, spared}
use Rattle.records.proofs.checks.check_records_by.Goals as goal

pub loop-i-init : goal.loop-i-init
loop-i-init c = record { same = refl; counted = pieces_none _; keyed = below_none _; met = below_none _; left = at_first _ _ _ }

pub returns-in-Err : goal.returns-in-Err
returns-in-Err c =
    rw c.at.ensures (refuses _ _ _ c.loop-i.i c.loop-i.invariant.left c.loop-i-test.true
    (form-unfit _ _ _ _ (sym (ap (form_finding _) c.record_at-record.ensures) ∙ sym c.check_form.ensures ∙ c.in-Err.is)))

pub loop-j-init : goal.loop-j-init
loop-j-init c =
    let keyed : (p : ℕ) → p < c.loop-i.i + 1
    → get_or (set c.loop-i.keys c.loop-i.i c.key_at-key.result) p 0
    ≡ key_at c.args.book.now (6 * p) = keyed-more c.args.book.now c.loop-i.keys c.loop-i.i _ (omega arith) c.key_at-key.ensures c.loop-i.invariant.keyed in
    (spared _ c.args.book.now (set c.loop-i.keys c.loop-i.i c.key_at-key.result) _ _ _ _ _ _ c.note.ensures c.first_suspect-j.ensures c.loop-i.invariant.met (λ p h. keyed p (omega arith))).1

pub returns-then-keys-j : goal.returns-then-keys-j
returns-then-keys-j c =
    let fit : form_finding c.args.edition (record_at c.args.book.now c.loop-i.i) ≡ Ok tt = sym (ap (form_finding _) c.record_at-record.ensures) ∙ sym c.check_form.ensures ∙ c.in_default.is in
    let keyed : (p : ℕ) → p < c.loop-i.i + 1
    → get_or (set c.loop-i.keys c.loop-i.i c.key_at-key.result) p 0
    ≡ key_at c.args.book.now (6 * p) = keyed-more c.args.book.now c.loop-i.keys c.loop-i.i _ (omega arith) c.key_at-key.ensures c.loop-i.invariant.keyed in
    rw c.at-then-keys-j.ensures
    (refuses _ _ _ c.loop-i.i c.loop-i.invariant.left c.loop-i-test.true
    (form-repeats _ _ _ fit
    (repeated _ _ (λ p. (c.shared_slice_known-1.given p).fits) c.loop-j.j c.loop-j-test.true
    (sym c.key_at-key.ensures ∙ sym c.if-keys-j.true ∙ keyed c.loop-j.j (omega arith)))))

pub overflow_add-largest_named : goal.overflow_add-largest_named
overflow_add-largest_named c =
    let fit : form_finding c.args.edition (record_at c.args.book.now c.loop-i.i) ≡ Ok tt = sym (ap (form_finding _) c.record_at-record.ensures) ∙ sym c.check_form.ensures ∙ c.in_default.is in
    let named : c.largest_named.result
    ≡ largest (record_at c.args.book.now c.loop-i.i) = c.largest_named.ensures ∙ ap largest c.record_at-record.ensures in
    fits-named _ _ named (formed _ _ fit).named

pub loop-i-preserved : goal.loop-i-preserved
loop-i-preserved c =
    let fit : form_finding c.args.edition (record_at c.args.book.now c.loop-i.i) ≡ Ok tt = sym (ap (form_finding _) c.record_at-record.ensures) ∙ sym c.check_form.ensures ∙ c.in_default.is in
    let keyed : (p : ℕ) → p < c.loop-i.i + 1
    → get_or (set c.loop-i.keys c.loop-i.i c.key_at-key.result) p 0
    ≡ key_at c.args.book.now (6 * p) = keyed-more c.args.book.now c.loop-i.keys c.loop-i.i _ (omega arith) c.key_at-key.ensures c.loop-i.invariant.keyed in
    let named : c.largest_named.result
    ≡ largest (record_at c.args.book.now c.loop-i.i) = c.largest_named.ensures ∙ ap largest c.record_at-record.ensures in
    record {
      same = length-set c.loop-i.keys c.loop-i.i c.key_at-key.result ∙ c.loop-i.invariant.same;
      counted = c.max-pieces.ensures ∙ ap₂ (λ (x y : ℕ). max x (y + 1)) c.loop-i.invariant.counted named ∙ sym (pieces_more _ _);
      keyed = keyed;
      met = met-more _ c.args.book.now _ _ _ _ _ c.key_at-key.ensures c.note.ensures c.loop-i.invariant.met;
      left = goes_on _ _ _ _ c.loop-i.invariant.left c.loop-i-test.true
          (form-new _ _ _ fit (new _ _ (λ j g e. c.loop-j.invariant j (omega arith) (keyed j (omega arith) ∙ e ∙ sym c.key_at-key.ensures))));
    }

pub returns-after-loop-i : goal.returns-after-loop-i
returns-after-loop-i c = accepts _ _ _ _ c.loop-i.invariant.left (omega arith) (omega arith) c.loop-i.invariant.counted
