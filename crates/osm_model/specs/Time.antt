-- Times in seconds since 1970-01-01T00:00:00Z, as the OPL manual has them: `yyyy-mm-ddThh:mm:ssZ`, or nothing.
use Rattle.std.specs.Prelude.{ℕ, zero, suc, ◌+◌, ◌-◌, ◌/◌, ◌%◌, nat_lt, if◌then◌else◌, List, [], ◌∷◌, ◌++◌, Option}
use Rattle.std.specs.Prelude.{None, Some}
use Rattle.osm_model.specs.declared.calendar.Date.{Date}
use Rattle.osm_model.specs.Numeral.{pad_zeros}
use Rattle.osm_model.specs.Decimal.{number_text}
use Rattle.osm_model.specs.Calendar.{days_in_year, days_in_month}

-- the year of the day that comes `days` days after 1 January of `year`, and the days before it in that year; the first
-- argument bounds the number of years walked
unfoldable pub year_walk : ℕ → ℕ → ℕ → ℕ × ℕ
year_walk zero year days = (year, days)
year_walk (suc most) year days =
    if nat_lt days (days_in_year year) then (year, days) else year_walk most (suc year) (days - days_in_year year)

-- the month of the day that comes `days` days after the first of `month`, and the days before it in that month; the
-- first argument bounds the number of months walked
unfoldable pub month_walk : ℕ → ℕ → ℕ → ℕ → ℕ × ℕ
month_walk zero year month days = (month, days)
month_walk (suc most) year month days =
    if nat_lt days (days_in_month year month) then (month, days)
    else month_walk most year (suc month) (days - days_in_month year month)

-- the date that comes `days` days after 1970-01-01
unfoldable pub date_of : ℕ → Date
date_of days =
    let in_year = year_walk days 1970 days in
    let in_month = month_walk 11 in_year.0 1 in_year.1 in
    record { year = in_year.0; month = in_month.0; day = in_month.1 + 1 }

-- a number in decimal with two digits at least
abbrev pub two_digits : ℕ → List ℕ
two_digits n = pad_zeros 2 (number_text n)

-- `yyyy-mm-dd`, with more digits where the year has more
unfoldable pub date_text : Date → List ℕ
date_text date = pad_zeros 4 (number_text date.year) ++ 45 ∷ (two_digits date.month ++ 45 ∷ two_digits date.day)

-- a second of the day, as `hh:mm:ss`
unfoldable pub clock_text : ℕ → List ℕ
clock_text second = two_digits (second / 3600) ++ 58 ∷ (two_digits (second / 60 % 60) ++ 58 ∷ two_digits (second % 60))

-- a time, or nothing if there is none
unfoldable pub time_text : Option ℕ → List ℕ
time_text None = []
time_text (Some seconds) = date_text (date_of (seconds / 86_400)) ++ 84 ∷ (clock_text (seconds % 86_400) ++ 90 ∷ [])
