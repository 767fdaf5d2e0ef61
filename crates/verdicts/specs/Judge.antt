-- Document 01, "The catalogue": a text judged by its kind. On one text: 17, 16, 18.
use Rattle.std.specs.Prelude.{ℕ, ◌*◌, ◌/◌, ◌%◌, List, [], ◌∷◌, Bool, true, false, cond, not, ◌&&◌, ◌||◌, length, get_or, leb, ltb, eqb}
use Rattle.verdicts.specs.declared.Judged.{Judged}
use Rattle.line_bytes.specs.Bytes.{line_feed, space, comma, slash, bytes, is_digit, every, equal, numeral}
use Rattle.line_bytes.specs.Cells.{cell_at, cell_end, separates}
use Rattle.line_bytes.specs.Spaces.{trim}
use Rattle.verdicts.specs.Kinds.{Kind, measured, latitude, longitude, depth, flag, ctd_flag, expocode, stnnbr, castno, date, time, free, kind_of}
use Rattle.verdicts.specs.Verdicts.{Verdict, blank, wrong, out_of_range, good, number_of}
use Rattle.verdicts.specs.Decimals.{decimal_of}
use Rattle.verdicts.specs.Dates.{is_date}

-- a good number is at most so large
abbrev pub at_most : ℕ → Verdict → Verdict
at_most top blank = blank
at_most top wrong = wrong
at_most top out_of_range = out_of_range
at_most top (good m v d) = cond (ltb top v) out_of_range (good m v d)

-- one to so many digits; the text is not empty
unfoldable pub whole_of : ℕ → List ℕ → Verdict
whole_of most t = cond (every is_digit t && leb (length t) most) (good false (numeral 0 t) 0) wrong

-- the flag set: 1 to 9, but 8 isn't used where the parameter's name begins with CTD
abbrev pub in_set : Bool → ℕ → Bool
in_set ctd v = leb 1 v && leb v 9 && not (ctd && eqb v 8)

-- a flag is of its set
abbrev pub in_flags : Bool → Verdict → Verdict
in_flags ctd blank = blank
in_flags ctd wrong = wrong
in_flags ctd out_of_range = out_of_range
in_flags ctd (good m v d) = cond (in_set ctd v) (good m v d) out_of_range

-- key text: no inner space, comma or /
abbrev pub key_byte : ℕ → Bool
key_byte x = not (eqb x comma || eqb x space || eqb x slash)

unfoldable pub key_text_of : List ℕ → Verdict
key_text_of t = cond (every key_byte t) (good false 0 0) wrong

-- eight digits YYYYMMDD that are a day
unfoldable pub date_of : List ℕ → Verdict
date_of t =
    cond (every is_digit t && eqb (length t) 8)
    (cond (is_date (numeral 0 t)) (good false (numeral 0 t) 0) out_of_range)
    wrong

-- four digits HHMM, hour 00 to 23, minute 00 to 59
unfoldable pub clock_of : List ℕ → Verdict
clock_of t =
    cond (every is_digit t && eqb (length t) 4)
    (cond (leb (numeral 0 t / 100) 23 && leb (numeral 0 t % 100) 59) (good false (numeral 0 t) 0) out_of_range)
    wrong

-- a time of day; or -999, which is given back as minus 999
unfoldable pub time_of : List ℕ → Verdict
time_of t = cond (equal t (bytes "-999")) (good true 999 0) (clock_of t)

-- so many degrees, in millionths
abbrev pub degrees : ℕ → ℕ
degrees n = n * 1000000

-- a trimmed text that is not blank
unfoldable pub of_kind : Kind → List ℕ → Verdict
of_kind measured t = decimal_of t
of_kind latitude t = at_most (degrees 90) (decimal_of t)
of_kind longitude t = at_most (degrees 180) (decimal_of t)
of_kind depth t = decimal_of t
of_kind flag t = in_flags false (whole_of 1 t)
of_kind ctd_flag t = in_flags true (whole_of 1 t)
of_kind expocode t = key_text_of t
of_kind stnnbr t = key_text_of t
of_kind castno t = at_most 999 (whole_of 9 t)
of_kind date t = date_of t
of_kind time t = time_of t
of_kind free t = good false 0 0

-- the kind that any text is of
abbrev pub is_free : Kind → Bool
is_free measured = false
is_free latitude = false
is_free longitude = false
is_free depth = false
is_free flag = false
is_free ctd_flag = false
is_free expocode = false
is_free stnnbr = false
is_free castno = false
is_free date = false
is_free time = false
is_free free = true

-- a trimmed text judged by f where it is not blank
abbrev pub unless_blank : (List ℕ → Verdict) → List ℕ → Verdict
unless_blank f [] = blank
unless_blank f (x ∷ xs) = f (x ∷ xs)

-- a cell or a header's value, judged by its kind; free text may be blank
unfoldable pub judge : Kind → List ℕ → Verdict
judge k t = cond (is_free k) (good false 0 0) (unless_blank (of_kind k) (trim t))

-- the code's record of a verdict on a cell that ends at n
abbrev pub judged_of : ℕ → Verdict → Judged
judged_of n blank = record { at = n; number = number_of blank; minus = false; size = 0; decimals = 0 }
judged_of n wrong = record { at = n; number = number_of wrong; minus = false; size = 0; decimals = 0 }
judged_of n out_of_range = record { at = n; number = number_of out_of_range; minus = false; size = 0; decimals = 0 }
judged_of n (good m v d) = record { at = n; number = 0; minus = m; size = v; decimals = d }

-- a cell goes on at i: a line feed stands at e, at i or after it, and c parts cells
unfoldable pub stops_at : ℕ → List ℕ → ℕ → ℕ → Bool
stops_at c s i e = leb i e && ltb e (length s) && (eqb (get_or s e 0) line_feed && separates c)

-- what judging the cell at i gives; where none goes on there, a wrong one that ends at i
unfoldable pub judged_at : ℕ → ℕ → List ℕ → ℕ → ℕ → Judged
judged_at k c s i e = cond (stops_at c s i e) (judged_of (cell_end c s i) (judge (kind_of k) (cell_at c s i))) (judged_of i wrong)

-- what reading a whole number of at most so many digits there gives
unfoldable pub whole_at : ℕ → ℕ → List ℕ → ℕ → ℕ → Judged
whole_at most c s i e =
    cond (leb most 9 && stops_at c s i e)
    (judged_of (cell_end c s i) (unless_blank (whole_of most) (trim (cell_at c s i))))
    (judged_of i wrong)
