-- The rules that carry a fact about x and y to one of its kind about a and b, along two containments. Assumes nothing.
use Rattle.std.specs.Prelude.{ℕ, Bool, true, false, eqb}
use Rattle.derivations.specs.declared.showing.Lift.{Lift}
use Rattle.derivations.specs.declared.showing.Route.{Route}

-- along g PART k to the fact of kind kd about a and b
abbrev pub lift_to : ℕ → ℕ → ℕ → Bool → ℕ → ℕ → ℕ → Lift
lift_to g k rule first kd a b = record { g = g; k = k; step = record { rule = rule; kind = kd; a = a; b = b; first = 0; second = 0 }; first = first }

-- APART, by rule (b), along a PART x and b PART y; MEETS, by (c'), along x PART a and y PART b; NOTPART, by (a') along x PART a and by (b') along b PART y
abbrev pub route_by : Bool → Bool → ℕ → ℕ → ℕ → ℕ → ℕ → Route
route_by true meets kd a b x y = record { once = lift_to a x 2 true kd a y; twice = lift_to b y 2 true kd a b }
route_by false true kd a b x y = record { once = lift_to x a 7 true kd a y; twice = lift_to y b 7 true kd a b }
route_by false false kd a b x y = record { once = lift_to x a 5 true kd a y; twice = lift_to b y 6 false kd a b }

unfoldable pub route_to : ℕ → ℕ → ℕ → ℕ → ℕ → Route
route_to kd a b x y = route_by (eqb kd 2) (eqb kd 3) kd a b x y
