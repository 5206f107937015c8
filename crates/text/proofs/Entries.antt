-- The bytes of an entry, copied to a place. Assumes nothing.
use Prim.Native.Nat.{ℕ, ◌+◌, ◌/◌, ◌%◌}
use mathlib.Core.Path.{◌≡◌, refl}
use mathlib.Core.List.{List, [], ◌∷◌}
use lib.ListN.{length}
use Rattle.records.specs.declared.Record.{Record}
use Rattle.lists.specs.Front.{placed}
use Rattle.text.specs.declared.Form.{Form}
use Rattle.text.specs.declared.Form.TheVariants.{Records, Claims, Log}
use Rattle.text.specs.Entry.{size, six_bytes, bytes_of}

pub size-log : (form : Form) → form ≡ Log → size form ≡ 2
size-log form e = rw e

pub size-else : (form : Form) → (form ≡ Log → ⊥) → size form ≡ 6
size-else Records h = refl
size-else Claims h = refl
size-else Log h = absurd (h refl)

bytes-else : (form : Form) (e : Record) → (form ≡ Log → ⊥) → bytes_of form e ≡ six_bytes e
unfolding bytes_of
bytes-else Records e h = refl
bytes-else Claims e h = refl
bytes-else Log e h = absurd (h refl)

bytes-log : (form : Form) (e : Record) → form ≡ Log → bytes_of form e ≡ e.a % 256 ∷ e.a / 256 % 256 ∷ []
unfolding bytes_of
bytes-log form e h = rw h

-- what is copied is the entry's bytes
copied : (form : Form) (e : Record) (p : List ℕ) (at : ℕ) (s q : List ℕ) → s ≡ bytes_of form e → q ≡ placed at s p
    → (at + length s ≡ at + length (bytes_of form e)) × (q ≡ placed at (bytes_of form e) p)
copied form e p at s q i h = (rw (← i), rw (← i) h)

module _ (form : Form) (e : Record) (p : List ℕ) (at : ℕ) (q : List ℕ) where
  pub two-copied : form ≡ Log → (x y : ℕ) → x ≡ e.a % 256 → y ≡ e.a / 256 % 256 → q ≡ placed at (x ∷ y ∷ []) p
      → (at + 2 ≡ at + length (bytes_of form e)) × (q ≡ placed at (bytes_of form e) p)
  two-copied h x y i j w =
      let s : x ∷ y ∷ [] ≡ bytes_of form e = cc (bytes-log form e h) in copied form e p at _ q s w

  pub six-copied : (form ≡ Log → ⊥) → (x y z t : ℕ) → x ≡ e.a % 256 → y ≡ e.a / 256 % 256 → z ≡ e.b % 256 → t ≡ e.b / 256 % 256
      → q ≡ placed at (e.kind ∷ e.origin ∷ x ∷ y ∷ z ∷ t ∷ []) p → (at + 6 ≡ at + length (bytes_of form e)) × (q ≡ placed at (bytes_of form e) p)
  six-copied h x y z t i j k l w =
      let s : e.kind ∷ e.origin ∷ x ∷ y ∷ z ∷ t ∷ [] ≡ bytes_of form e = cc (bytes-else form e h) in copied form e p at _ q s w
