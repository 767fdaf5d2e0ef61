-- Document 01, "The report program": laws of the report's text. A term of each type stands in proofs/FitLaws.
use Rattle.std.specs.Prelude.{ℕ, ◌≤◌, ◌≡◌, List, length, take}
use Rattle.report_text.specs.Report.{report_of}

-- the most bytes that the report program reads, and its page
abbrev pub input_bytes : ℕ
input_bytes = 65537

abbrev pub page_bytes : ℕ
page_bytes = 163840

-- the report on any file fits the page
abbrev pub ReportFits : Type 0
ReportFits = (f : List ℕ) → length (report_of f) ≤ page_bytes

-- what is read of a file says its report
abbrev pub ReadEnough : Type 0
ReadEnough = (f : List ℕ) → report_of (take input_bytes f) ≡ report_of f

-- where the first n bytes of the input are those of a file, all of them or as many as there is room for, their report is the one on that file
abbrev pub ReadSays : List ℕ → ℕ → Type 0
ReadSays input n = (f : List ℕ) → take n input ≡ take (length input) f → report_of (take n input) ≡ report_of f
