-- The sign by the bits that the code looks at, in its order. Assumes nothing.
use Prim.Native.Nat.{ℕ}
use mathlib.Core.Path.{◌≡◌}
use mathlib.Core.Bool.{Bool, true, false}
use Rattle.rules.specs.Fact.{Fact, APART}
use Rattle.book_pages.specs.Sign.{sign_of, between, sign}

module _ (p q a m n o : Bool) where
  pub equal : p ≡ true → q ≡ true → 61 ≡ sign_of p q a m n o
  unfolding sign_of
  equal h g = rw (h, g)

  pub within : p ≡ true → q ≡ false → 60 ≡ sign_of p q a m n o
  unfolding sign_of
  within h g = rw (h, g)

  module _ (h : p ≡ false) where
    pub around : q ≡ true → 62 ≡ sign_of p q a m n o
    unfolding sign_of
    around g = rw (h, g)

    module _ (g : q ≡ false) where
      pub apart : a ≡ true → 124 ≡ sign_of p q a m n o
      unfolding sign_of
      apart f = rw (h, g, f)

      module _ (f : a ≡ false) where
        pub neither : m ≡ false → 46 ≡ sign_of p q a m n o
        unfolding sign_of
        neither e = rw (h, g, f, e)

        module _ (e : m ≡ true) where
          pub meets : n ≡ false → 111 ≡ sign_of p q a m n o
          unfolding sign_of
          meets d = rw (h, g, f, e, d)

          pub crossing : n ≡ true → o ≡ true → 120 ≡ sign_of p q a m n o
          unfolding sign_of
          crossing d c = rw (h, g, f, e, d, c)

          pub halfway : n ≡ true → o ≡ false → 111 ≡ sign_of p q a m n o
          unfolding sign_of
          halfway d c = rw (h, g, f, e, d, c)

-- a void piece, or none
module _ (D : Fact → Bool) (a b : ℕ) where
  pub first-void : D (APART a a) ≡ true → 118 ≡ sign D a b
  unfolding sign
  first-void h = rw h

  pub second-void : D (APART a a) ≡ false → D (APART b b) ≡ true → 118 ≡ sign D a b
  unfolding sign
  second-void h g = rw (h, g)

  pub no-void : D (APART a a) ≡ false → D (APART b b) ≡ false → (x : ℕ) → x ≡ between D a b → x ≡ sign D a b
  unfolding sign
  no-void h g x is = rw (h, g, is)
