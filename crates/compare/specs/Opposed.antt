-- Where the books can be laid together and mark the same pieces, no claim is OPPOSED; with other marks one can be. Assumes nothing.
use Rattle.std.specs.Prelude.{ℕ, ◌+◌, ◌*◌, ◌<◌, ◌≡◌, true, List, get_or, Ok}
use Rattle.records.specs.Record.{records}
use Rattle.records.specs.Marked.{marked}
use Rattle.compare.specs.Answers.{bytes_of}
use Rattle.compare.specs.Call.{outcome}

-- the third byte of claim i
abbrev pub third : List ℕ → List ℕ → List ℕ → ℕ → ℕ
third s t cs i = get_or (bytes_of s t cs) (3 * i + 2) 0

abbrev pub NeverOpposed : Type 0
NeverOpposed =
    (s t cs : List ℕ) (room : ℕ) → outcome s t cs room ≡ Ok true → ((g : ℕ) → marked s g ≡ marked t g)
    → (i : ℕ) → i < records cs → third s t cs i ≡ 3 → ⊥

-- two books that can be laid together and a claim that they answer by FOLLOWS and DENIED: one of them has a mark
abbrev pub MarksOppose : Type 0
MarksOppose = (s t cs : List ℕ) × (outcome s t cs 3 ≡ Ok true) × (third s t cs 0 ≡ 3)
