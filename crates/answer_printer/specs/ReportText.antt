-- The text of the report on a loaded release: its row counts.
use Rattle.std.specs.Prelude.{ℕ, ◌++◌, List, codes}
use Rattle.held_release.specs.declared.report.Report.{Report}
use Rattle.answer_printer.specs.AnswerText.{number_line}

-- the report, one number a line: the files of a known kind, the rows in force of the five lists, the
-- rows in none of these lists
abbrev pub report_text : Report → List ℕ
report_text report =
    (codes "FILES " ++ number_line report.files)
    ++ (codes "CONCEPTS " ++ number_line report.concepts)
    ++ (codes "ISA " ++ number_line report.isa)
    ++ (codes "ATTRIBUTES " ++ number_line report.attributes)
    ++ (codes "MEMBERS " ++ number_line report.members)
    ++ (codes "NAMES " ++ number_line report.names)
    ++ (codes "PASSED " ++ number_line report.passed)
