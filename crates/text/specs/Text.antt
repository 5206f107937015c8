-- A text that is read: the bytes of its entries in order, or its first bad line, the reason, and the bytes of the entries before. Assumes nothing.
use Rattle.std.specs.Prelude.{ℕ, zero, suc, ◌*◌, Bool, ◌&&◌, List, [], ◌∷◌, ◌++◌, Some, None, Ok, Err, eqb, ltb, length, drop, get_or}
use Rattle.text.specs.Tests.{if_true}
use Rattle.text.specs.declared.Form.{Form}
use Rattle.text.specs.declared.Form.TheVariants.{Records, Claims, Log}
use Rattle.text.specs.declared.Reason.{Reason}
use Rattle.text.specs.declared.Reason.TheVariants.{TooLong}
use Rattle.text.specs.Line.{line_of}
use Rattle.text.specs.Lines.{lines}
use Rattle.text.specs.Entry.{size, bytes_of}

pub data Reading : Type 0 where
  Entries : List ℕ → Reading
  Broken : (line : ℕ) → Reason → List ℕ → Reading

-- reading stops behind so many entries: one more than rows 4 and 11 let pass, and 32,769 of a log
abbrev pub most : Form → ℕ
most Records = 8193
most Claims = 4097
most Log = 32769

abbrev pub bytes_most : Form → ℕ
bytes_most form = size form * most form

-- at most `left` entries more, of lines from number n on, behind the bytes that are done
unfoldable pub read_lines : Form → (left n : ℕ) → List ℕ → List (List ℕ) → Reading
read_lines form left n done [] = Entries done
read_lines form zero n done (l ∷ ls) = Entries done
read_lines form (suc left) n done (l ∷ ls) =
    elim (line_of form l) [
      | Ok None ↦ read_lines form (suc left) (suc n) done ls
      | Ok (Some e) ↦ read_lines form left (suc n) (done ++ bytes_of form e) ls
      | Err reason ↦ Broken n reason done
    ]

-- the byte order mark that some editors put at the start
unfoldable pub marked : List ℕ → Bool
marked text = eqb (get_or text 0 0) 239 && (eqb (get_or text 1 0) 187 && eqb (get_or text 2 0) 191)

unfoldable pub mark_length : List ℕ → ℕ
mark_length text = if_true (marked text) 3 0

-- the lines of a text, the mark passed over
unfoldable pub lines_of : List ℕ → List (List ℕ)
lines_of text = lines (drop (mark_length text) text)

unfoldable pub read_text : Form → List ℕ → Reading
read_text form text = if_true (ltb 524288 (length text)) (Broken 0 TooLong []) (read_lines form (most form) 1 [] (lines_of text))
