-- The examples hold by computation. Assumes nothing.
use mathlib.Core.Path.{refl}
use Rattle.records.specs.Record.{record_at}
use Rattle.pages.specs.Decimal.{spell, decimal}
use Rattle.pages.specs.Lines as pages
use Rattle.text.specs.Runs.{blank, of_sort, run, behind}
use Rattle.text.specs.Word.{word, rest}
use Rattle.text.specs.Number.{is_digit, digits, value, number_from, number}
use Rattle.text.specs.Names.{lower, same, place, kind_of, choice_of}
use Rattle.text.specs.Line.{with_number, lastly, secondly, kinded, logged, line_of}
use Rattle.text.specs.Lines.{lines}
use Rattle.text.specs.Entry.{bytes_of}
use Rattle.text.specs.Text.{read_lines, marked, mark_length, lines_of, read_text}
use Rattle.text.specs.Either.{is_text, read_either}
use Rattle.text.specs.Place.{numbered, place_line}
use Rattle.text.specs.Shown.{kind_word, show_record, show_records}
use Rattle.text.specs.Examples.{Reads, Refuses, Others}
use Rattle.text.proofs.Lents.{too_long}

pub reads : Reads
unfolding read_text read_lines lines_of mark_length marked lines line_of logged kinded secondly lastly with_number number number_from digits value is_digit word rest run behind of_sort blank kind_of choice_of place same lower bytes_of
reads =
    record {
      records = refl;
      claims = refl;
      log = refl;
      empty = refl;
      small = refl;
      either-case = refl;
      mark = refl;
      mark-later = refl;
      carriage = refl;
      tabs = refl;
      stops = refl;
    }

pub refuses : Refuses
unfolding read_text read_lines lines_of mark_length marked lines line_of logged kinded secondly lastly with_number number number_from digits value is_digit word rest run behind of_sort blank kind_of choice_of place same lower bytes_of
refuses =
    record {
      no_kind = refl;
      no-claim = refl;
      no_number = refl;
      too_large = refl;
      no_digit = refl;
      no-entry = refl;
      no_origin = refl;
      origin-first = refl;
      no-facts = refl;
      too_many = refl;
      two-numbers = refl;
      too_long = too_long;
      before = refl;
    }

pub others : Others
unfolding read_text read_lines lines_of mark_length marked lines line_of logged kinded secondly lastly with_number number number_from digits value is_digit word rest run behind of_sort blank kind_of choice_of place same lower bytes_of numbered place_line is_text read_either show_record show_records pages.lines record_at kind_word decimal spell
others =
    record {
      joined = refl;
      one_number = refl;
      second-line = refl;
      last_line = refl;
      no_line = refl;
      text = refl;
      bytes = refl;
      neither = refl;
      shown = refl;
      asked = refl;
    }
