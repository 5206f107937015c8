-- Document 01's printed session, from the bytes of its book and claims to its eleven lines. Assumes nothing.
use Rattle.std.specs.Prelude.{◌≡◌, ◌++◌}
use Rattle.pages.specs.Text.{ascii}
use Rattle.answers.specs.Examples.{session_book, session_claims}
use Rattle.report.specs.Page.{printed}

abbrev pub SessionPrinted : Type 0
SessionPrinted =
    printed session_book session_claims
    ≡ ascii "PIECES 6 NODES 7 SHADOWS 1\n"
    ++ ascii "0 PART 5 2 FOLLOWS\n"
    ++ ascii "1 PART 2 1 DENIED\n"
    ++ ascii "2 PART 3 2 OPEN\n"
    ++ ascii "3 APART 3 5 FOLLOWS\n"
    ++ ascii "4 APART 1 2 DENIED\n"
    ++ ascii "5 MEETS 2 3 FOLLOWS\n"
    ++ ascii "6 NOTPART 2 4 FOLLOWS\n"
    ++ ascii "7 NOTPART 1 3 FOLLOWS\n"
    ++ ascii "8 NOTPART 0 1 FOLLOWS\n"
    ++ ascii "9 PART 1 2 OPEN\n"
