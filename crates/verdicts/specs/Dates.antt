-- Document 01, "The catalogue", DATE: eight digits YYYYMMDD, year not 0000, a Gregorian day.
use Rattle.std.specs.Prelude.{ℕ, ◌/◌, ◌%◌, Bool, cond, not, ◌&&◌, ◌||◌, leb, eqb}

-- the Gregorian leap years, the days of a month, and the days of the calendar
unfoldable pub is_leap : ℕ → Bool
is_leap y = eqb (y % 4) 0 && (not (eqb (y % 100) 0) || eqb (y % 400) 0)

unfoldable pub month_days : ℕ → ℕ → ℕ
month_days y m =
    cond (eqb m 2) (cond (is_leap y) 29 28)
    (cond (eqb m 4 || eqb m 6 || eqb m 9 || eqb m 11) 30 31)

unfoldable pub is_day : ℕ → ℕ → ℕ → Bool
is_day y m d = leb 1 y && leb 1 m && leb m 12 && leb 1 d && leb d (month_days y m)

-- of a number YYYYMMDD
unfoldable pub is_date : ℕ → Bool
is_date n = is_day (n / 10000) (n / 100 % 100) (n % 100)
