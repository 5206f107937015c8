-- `compare::check_rows` meets its contract. Assumes nothing.
use Prim.Native.Nat.{ℕ}
use mathlib.Core.Path.{sym, ap, ◌∙◌}
use mathlib.Core.List.{[]}
use Rattle.std.proofs.lemmas.Result.{err_from_is_err_and}
use Rattle.records.specs.Check.{claims_check}
use Rattle.compare.proofs.Rows.{rows-first, rows-second, rows-claims, rows-refuse, rows-accept}
use Rattle.compare.proofs.check_rows.Goals as goal

pub returns-in_err-own : goal.returns-in_err-own
returns-in_err-own c =
    let e = err_from_is_err_and c.from_residual.result c.from_residual.ensures.1 in
    rw (e.1, e.2) (rows-refuse _ _ _ (rows-first _ _ _ [] (sym c.in_err-own.ensures)))

pub returns-in_err-other : goal.returns-in_err-other
returns-in_err-other c =
    let e = err_from_is_err_and c.from_residual-in_err-other.result c.from_residual-in_err-other.ensures.1 in
    rw (e.1, e.2) (rows-refuse _ _ _ (rows-second _ _ _ [] (sym c.in_err-other.ensures)))

pub returns-in_err-check_claims : goal.returns-in_err-check_claims
returns-in_err-check_claims c =
    let e = err_from_is_err_and c.from_residual-in_err-check_claims.result c.from_residual-in_err-check_claims.ensures.1 in
    let cs = c.args.claims.now in
    rw (e.1, e.2) (rows-refuse _ _ cs
    (rows-claims _ _ cs [] (sym c.in_ok-own.ensures) (sym c.in_ok-other.ensures)
    (ap (λ (k : ℕ). claims_check k cs) (sym c.max-n.ensures) ∙ sym c.in_err-check_claims.ensures)))

pub returns : goal.returns
returns c =
    let cs = c.args.claims.now in
    rows-accept _ _ cs
    (record {
      own = _;
      other = _;
      first = sym c.in_ok-own.ensures;
      second = sym c.in_ok-other.ensures;
      larger = c.max-n.ensures;
      fit = ap (λ (k : ℕ). claims_check k cs) (sym c.max-n.ensures) ∙ sym c.in_ok-check_claims.ensures;
    })
