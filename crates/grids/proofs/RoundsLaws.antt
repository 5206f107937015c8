-- What the products of a round make of four grids. Assumes nothing.
use Prim.Native.Nat.{ℕ, ◌<◌}
use mathlib.Core.Path.{◌≡◌}
use mathlib.Core.Bool.{Bool, true}
use mathlib.Core.List.{List}
use Rattle.rules.specs.Fact.{Fact, PART, APART, MEETS, NOTPART}
use Rattle.grids.specs.declared.rounds.Grids.{Grids}
use Rattle.grids.specs.Grid.{bit_at, Multiplied, Swept, Turned, Mirrored}
use Rattle.grids.specs.Closed.{holds, Only, Closed, Same, Rounded}
use Rattle.grids.proofs.Products.{In, product-kept, product-hit, product-in, turned-hit, turned-in, mirrored-kept, mirrored-hit, mirrored-in}

-- four grids within a set of facts, kind by kind
pub all-only :
    (D : Fact → Bool) (g : Grids) → In g.part (λ a b. D (PART a b)) → In g.apart (λ a b. D (APART a b)) → In g.meets (λ a b. D (MEETS a b))
    → In g.notpart (λ a b. D (NOTPART a b)) → Only D g
all-only D g p a m n (PART x y) w e = p x y w.0 w.1 e
all-only D g p a m n (APART x y) w e = a x y w.0 w.1 e
all-only D g p a m n (MEETS x y) w e = m x y w.0 w.1 e
all-only D g p a m n (NOTPART x y) w e = n x y w.0 w.1 e

-- the grids of one round, with those on the way to them
pub record Steps (g r : Grids) : Type 0 where
  pub t : List ℕ
  pub a₀ : List ℕ
  pub m₀ : List ℕ
  pub n₀ : List ℕ
  pub n₁ : List ℕ
  pub part_step : Swept g.part r.part
  pub turned-step : Turned r.part t
  pub apart-step : Multiplied g.apart r.part g.apart a₀
  pub apart-mirrored : Mirrored a₀ r.apart
  pub meets-step : Multiplied g.meets g.meets r.part m₀
  pub meets-mirrored : Mirrored m₀ r.meets
  pub parted-step : Multiplied g.notpart r.meets r.apart n₀
  pub shrunk-step : Multiplied n₀ n₀ t n₁
  pub notpart-step : Multiplied n₁ t n₁ r.notpart

module _ (g r : Grids) (s : Steps g r) where
  apart-kept : In g.apart (bit_at r.apart)
  apart-kept x y b c e = mirrored-kept s.apart-mirrored x y b c (product-kept s.apart-step x y b c e)

  meets-kept : In g.meets (bit_at r.meets)
  meets-kept x y b c e = mirrored-kept s.meets-mirrored x y b c (product-kept s.meets-step x y b c e)

  kept₀ : In g.notpart (bit_at s.n₀)
  kept₀ = product-kept s.parted-step

  kept₁ : In g.notpart (bit_at s.n₁)
  kept₁ x y b c e = product-kept s.shrunk-step x y b c (kept₀ x y b c e)

  kept₂ : In s.n₁ (bit_at r.notpart)
  kept₂ = product-kept s.notpart-step

  round-kept : Only (holds r) g
  round-kept = all-only (holds r) g s.part_step.kept apart-kept meets-kept (λ x y b c e. kept₂ x y b c (kept₁ x y b c e))

  module _ (D : Fact → Bool) (c : Closed D) (i : Only D g) where
    was-part : In g.part (λ x y. D (PART x y))
    was-part x y u v = i (PART x y) (u, v)

    was-apart : In g.apart (λ x y. D (APART x y))
    was-apart x y u v = i (APART x y) (u, v)

    was-meets : In g.meets (λ x y. D (MEETS x y))
    was-meets x y u v = i (MEETS x y) (u, v)

    part_in : In r.part (λ x y. D (PART x y))
    part_in = s.part_step.sound (λ x y. D (PART x y)) c.rule-a was-part

    turned-is : In s.t (λ x y. D (PART y x))
    turned-is = turned-in s.turned-step (λ x y. D (PART x y)) part_in

    apart_in : In r.apart (λ x y. D (APART x y))
    apart_in = mirrored-in s.apart-mirrored _ c.apart-turn (product-in s.apart-step _ (λ x y. D (PART x y)) (λ x y. D (APART x y)) c.rule-b was-apart part_in was-apart)

    meets-in : In r.meets (λ x y. D (MEETS x y))
    meets-in =
        mirrored-in s.meets-mirrored _ c.meets-turn
        (product-in s.meets-step _ (λ x y. D (MEETS x y)) (λ x y. D (PART x y)) (λ x y z u v w e f. c.rule-c' x y z u v w f e) was-meets was-meets part_in)

    in₀ : In s.n₀ (λ x y. D (NOTPART x y))
    in₀ =
        product-in s.parted-step _ (λ x y. D (MEETS x y)) (λ x y. D (APART x y)) (λ x y z u v w e f. c.rule-d' x y z u v w e (c.apart-turn y z v w f)) (λ x y u v. i (NOTPART x y) (u, v)) meets-in
        apart_in

    in₁ : In s.n₁ (λ x y. D (NOTPART x y))
    in₁ = product-in s.shrunk-step _ (λ x y. D (NOTPART x y)) (λ x y. D (PART y x)) (λ x y z u v w e f. c.rule-b' x z y u w v e f) in₀ in₀ turned-is

    in₂ : In r.notpart (λ x y. D (NOTPART x y))
    in₂ = product-in s.notpart-step _ (λ x y. D (PART y x)) (λ x y. D (NOTPART x y)) (λ x y z u v w e f. c.rule-a' y x z v u w e f) in₁ turned-is in₁

    round-sound : Only D r
    round-sound = all-only D r part_in apart_in meets-in in₂

  -- where nothing is added every rule has been applied to all that there is
  module _ (same : Same g r) where
    from-part : In r.part (bit_at g.part)
    from-part x y b c e = rw same.0 e

    from-apart : In r.apart (bit_at g.apart)
    from-apart x y b c e = rw same.1 e

    from-meets : In r.meets (bit_at g.meets)
    from-meets x y b c e = rw same.2 e

    from-notpart : In r.notpart (bit_at g.notpart)
    from-notpart x y b c e = rw same.3 e

    to_part : In g.part (bit_at r.part)
    to_part = s.part_step.kept

    to_turned : (x y : ℕ) → x < 64 → y < 64 → bit_at g.part y x ≡ true → bit_at s.t x y ≡ true
    to_turned x y b c e = turned-hit s.turned-step x y b c (to_part y x c b e)

    turn-apart : (x y : ℕ) → x < 64 → y < 64 → bit_at g.apart x y ≡ true → bit_at g.apart y x ≡ true
    turn-apart x y b c e = from-apart y x c b (mirrored-hit s.apart-mirrored y x c b (product-kept s.apart-step x y b c e))

    closed-round : Closed (holds g)
    closed-round =
        record {
          apart-turn = turn-apart;
          meets-turn = λ x y b c e. from-meets y x c b (mirrored-hit s.meets-mirrored y x c b (product-kept s.meets-step x y b c e));
          rule-a = λ x y z u v w e f. from-part x z u w (s.part_step.hit x y z u v w e f);
          rule-b =
              λ x y z u v w e f.
              from-apart x z u w (mirrored-kept s.apart-mirrored x z u w (product-hit s.apart-step x y z u v w (to_part x y u v e) f));
          rule-a' =
              λ x y z u v w e f. from-notpart y z v w (product-hit s.notpart-step y x z v u w (to_turned y x v u e) (kept₁ x z u w f));
          rule-b' =
              λ x y z u v w e f.
              from-notpart x y u v (kept₂ x y u v (product-hit s.shrunk-step x z y u w v (kept₀ x z u w e) (to_turned z y w v f)));
          rule-c' =
              λ x y z u v w e f.
              from-meets x z u w (mirrored-kept s.meets-mirrored x z u w (product-hit s.meets-step x y z u v w f (to_part y z v w e)));
          rule-d' =
              λ x y z u v w e f.
              from-notpart x z u w
              (kept₂ x z u w
              (product-kept s.shrunk-step x z u w
              (product-hit s.parted-step x y z u v w (meets-kept x y u v e) (apart-kept y z v w (turn-apart z y w v f)))));
        }

  pub rounded : Rounded g r
  rounded = record { grown = record { kept = round-kept; sound = round-sound }; closed = closed-round }
