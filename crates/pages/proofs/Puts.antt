-- The laws of `Put`: nothing, one byte, one text behind another. Assumes nothing.
use Prim.Native.Nat.{ℕ, suc, ◌+◌, ◌≤◌, ◌<◌}
use mathlib.Core.Path.{◌≡◌, refl, ◌∙◌, ap, sym, subst}
use mathlib.Core.List.{List, [], ◌∷◌, ◌++◌, append_assoc}
use native.Mathlib.Nat.{add-zero, add-suc, suc-add}
use native.Mathlib.Numerals.{add-one}
use native.Mathlib.Decide.{dec_lt}
use native.Mathlib.Omega.{arith}
use lib.ListN.{length, take, drop, get_or, set, length-append, length-set}
use lib.Seq.{sets, sets-eq, take-suc, take_all, take_at, drop_at, length-take-le}
use Rattle.pages.specs.Printed.{Printed}
use Rattle.pages.specs.Put.{Put}

sets-append : (s t p : List ℕ) (at : ℕ) → sets p at (s ++ t) ≡ sets (sets p at s) (at + length s) t
sets-append [] t p at = rw add-zero
sets-append (x ∷ s) t p at =
    sets-append s t (set p at x) (suc at)
    ∙ ap (λ n. sets (sets (set p at x) (suc at) s) n t) (suc-add at (length s) ∙ sym (add-suc at (length s)))

-- where there is room, the page is the one that single stores leave
spread : (s p : List ℕ) (at e : ℕ) → e ≡ at + length s → at + length s ≤ length p → sets p at s ≡ take at p ++ (s ++ drop e p)
spread s p at e r h =
    sets-eq s p at h
    ∙ append_assoc (take at p) s (drop (at + length s) p)
    ∙ ap (λ n. take at p ++ (s ++ drop n p)) (sym r)

module _ {p : List ℕ} {at : ℕ} {s q : List ℕ} {e : ℕ} (a : Put p at s q e) where
  by-stores : e ≤ length p → q ≡ sets p at s
  by-stores h =
      let x = a.fits h in
      x.1 ∙ sym (spread s p at e x.0 (omega arith))

stored : {p : List ℕ} {at : ℕ} {s q : List ℕ} {e : ℕ} → length q ≡ length p → (e ≤ length p → (e ≡ at + length s) × (q ≡ sets p at s))
    → (length p < e → length p < at + length s) → Put p at s q e
stored {p} {at} {s} {q} {e} k w f =
    record { kept = k; fits = λ h. (let x = w h in (x.0, x.1 ∙ spread s p at e x.0 (omega arith))); full = f }

pub nothing : {p : List ℕ} {at : ℕ} → Put p at [] p at
nothing = stored refl (λ h. (omega arith, refl)) (λ h. omega arith)

pub one : {p : List ℕ} {at : ℕ} {x : ℕ} → at < length p → Put p at (x ∷ []) (set p at x) (at + 1)
one {p} {at} {x} h = stored (length-set p at x) (λ k. (refl, refl)) (λ k. omega arith)

pub no_room : {p : List ℕ} {at : ℕ} {x : ℕ} → length p ≤ at → Put p at (x ∷ []) p (length p + 1)
no_room h = stored refl (λ k. absurd (omega arith)) (λ k. omega arith)

pub chain : {p : List ℕ} {at : ℕ} {s q : List ℕ} {e : ℕ} {t r : List ℕ} {f : ℕ} → Put p at s q e → Put q e t r f → Put p at (s ++ t) r f
chain {p} {at} {s} {q} {e} {t} {r} {f} a b =
    stored
    (b.kept ∙ a.kept)
    (λ h.
    let y : f ≡ e + length t = (b.fits (omega (arith, a.kept))).0 in
    let i : e ≤ length p = omega arith in
    let x : e ≡ at + length s = (a.fits i).0 in (
      omega (arith, length-append s t),
      by-stores b (omega (arith, a.kept)) ∙ ap (λ z. sets z e t) (by-stores a i) ∙ ap (λ n. sets (sets p at s) n t) x ∙ sym (sets-append s t p at),
    ))
    (λ h.
    elim (dec_lt (length p) e) [
      | yes l ↦ omega (arith, a.full l, length-append s t)
      | no l ↦ omega (arith, b.full (omega (arith, a.kept)), a.kept, (a.fits (omega arith)).0, length-append s t)
    ])

-- the same text by another name
pub put_as : {p : List ℕ} {at : ℕ} {s t q : List ℕ} {e : ℕ} → s ≡ t → Put p at s q e → Put p at t q e
put_as {p} {at} {s} {t} {q} {e} same a = subst (λ x. Put p at x q e) same a

-- one byte more of a text, and the whole of it
pub more : {p : List ℕ} {at : ℕ} {q : List ℕ} {e : ℕ} {r : List ℕ} {f : ℕ} (s : List ℕ) (i : ℕ) → i < length s → Put p at (take i s) q e
    → Put q e (get_or s i 0 ∷ []) r f → Put p at (take (i + 1) s) r f
more s i h a b = rw (add-one i, take-suc s i 0) (chain a b)

pub whole : {p : List ℕ} {at : ℕ} {q : List ℕ} {e : ℕ} (s : List ℕ) (i : ℕ) → length s ≤ i → Put p at (take i s) q e → Put p at s q e
whole s i h a = put_as (take_all i s h) a

-- from the start of the page
pub printed : {p : List ℕ} {s q : List ℕ} {e : ℕ} → Put p 0 s q e → e ≤ length p → Printed p s q e
printed {p} {s} {q} {e} a h =
    let x = a.fits h in
    let ends : length s ≡ e = omega (arith, x.0) in
    let inside : e ≤ length q = omega (arith, a.kept) in
    record {
      first = rw x.1 (take_at s (drop e p) e ends);
      rest = rw x.1 (drop_at s (drop e p) e ends);
      counts = (inside, sym (length-take-le e q inside));
    }
