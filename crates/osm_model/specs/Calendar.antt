-- The Gregorian calendar, also for the years before it was introduced, as ISO 8601 has it. The year 0 comes before the
-- year 1.
use Rattle.std.specs.Prelude.{ℕ, zero, suc, ◌+◌, ◌-◌, ◌%◌, Bool, not, ◌&&◌, ◌||◌, ◌==◌, if◌then◌else◌}
use Rattle.std.specs.Int.{is_in_range}

-- every fourth year; but of the years that 100 divides, only every fourth
abbrev pub is_leap_year : ℕ → Bool
is_leap_year year = (year % 4 == 0) && (not (year % 100 == 0) || (year % 400 == 0))

-- 365 days, and one more in a leap year
abbrev pub days_in_year : ℕ → ℕ
days_in_year year = if is_leap_year year then 366 else 365

-- April, June, September and November have 30 days, and February has 28 or 29; months are counted from 1
abbrev pub days_in_month : ℕ → ℕ → ℕ
days_in_month year month =
    if month == 2 then (if is_leap_year year then 29 else 28)
    else (if (month == 4) || (month == 6) || (month == 9) || (month == 11) then 30 else 31)

-- the calendar has this date
abbrev pub is_date : ℕ → ℕ → ℕ → Bool
is_date year month day = is_in_range 1 12 month && is_in_range 1 (days_in_month year month) day

-- the days of `n` years from the year 0 on
unfoldable pub days_of_years : ℕ → ℕ
days_of_years zero = 0
days_of_years (suc year) = days_of_years year + days_in_year year

-- the days of `n` months from January on
unfoldable pub days_of_months : ℕ → ℕ → ℕ
days_of_months year zero = 0
days_of_months year (suc month) = days_of_months year month + days_in_month year (suc month)

-- the days from 0000-01-01 to a date
abbrev pub day_number : ℕ → ℕ → ℕ → ℕ
day_number year month day = days_of_years year + days_of_months year (month - 1) + (day - 1)
