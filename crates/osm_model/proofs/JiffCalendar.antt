-- The calendar of jiff, which counts days from the year -10000, has the dates of `Calendar.antt`.
use Rattle.std.proofs.Common.{◌≡◌, ℕ, zero, suc, ◌+◌, ◌-◌, ◌≤◌, refl, ap, ◌∙◌, arith, ℤ, pos, negsuc, ◌+ℤ◌}
use Rattle.std.proofs.lemmas.Int.{by_lt_z}
use borrow.Author.Differences.{up, down}
use Rattle.jiff_core.specs.Calendar as jiff
use Rattle.jiff_core.specs.declared.civil.date.Date as civil
use Rattle.jiff_core.specs.Date.{epoch_day}
use Rattle.jiff_core.proofs.CalendarLemmas.{days_from_civil-day_count, day_count-epoch, day_count-lt_year}
use Rattle.jiff_core.proofs.MarchLemmas.{days_of_years-suc, days_of_years-march_days, leap_day-shift, leap_day}
use Rattle.jiff_core.proofs.SignedLemmas.{signed_arith}
use Rattle.osm_model.specs.Calendar.{days_of_years, days_of_months, day_number, days_in_year, days_in_month}
use Rattle.osm_model.specs.Time.{date_of}
use Rattle.osm_model.proofs.CalendarLaws.{IsCivil, date_of-is, same_date, days_of_months-none}

pub leap_years : (y : ℕ) → days_in_year y ≡ 365 + leap_day (pos y)
leap_years y = grind arith

pub years : (y : ℕ) → jiff.days_of_years (y + 10000) ≡ 3_652_425 + days_of_years y
unfolding days_of_years
years zero = omega (arith, days_of_years-march_days 10000)
years (suc y) =
    let e : suc y + 10000 ≡ suc (y + 10000) = omega arith in
    rw e (omega (arith, years y, days_of_years-suc (y + 10000), leap_day-shift (pos y) (y + 10000) refl, leap_years y))

pub months : (y m : ℕ) → jiff.days_of_months (pos y) m ≡ days_of_months y m
unfolding days_of_months jiff.days_of_months
months y zero = refl
months y (suc m) = ap (λ n. n + days_in_month y (suc m)) (months y m)

-- The day count of jiff is the day number and 3,652,425.
pub count : (y m d : ℕ) → 1 ≤ d → jiff.day_count (pos y) m d ≡ 3_652_425 + day_number y m d
unfolding jiff.day_count
count y m d some = omega (arith, years y, months y (m - 1))

natural : (z : ℤ) → down z ≤ up z → (y : ℕ) × (z ≡ pos y)
natural (pos n) h = (n, refl)
natural (negsuc n) h = absurd (omega arith)

-- a date from 1970 on has a year that is not negative
year_is : (date : civil.Date) → down (epoch_day date) ≤ up (epoch_day date) → (y : ℕ) × (date.year ≡ pos y)
year_is date h = by_lt_z date.year (pos 1970)
    (λ lt. absurd (omega (
      arith,
      day_count-lt_year date.year date.month date.day (pos 1970) 1 1 (date.year_in, date.month_in, date.day_in) (omega arith) lt,
      day_count-epoch,
      days_from_civil-day_count date.year date.month date.day,
    )))
    (λ ge. natural date.year (omega (arith, signed_arith)))

number_of : (y m d day : ℕ) → 1 ≤ d → up (jiff.days_from_civil (pos y) m d) ≡ down (jiff.days_from_civil (pos y) m d) + day →
    day_number y m d ≡ days_of_years 1970 + day
number_of y m d day some e =
    omega (
      arith,
      e,
      days_from_civil-day_count (pos y) m d,
      count y m d some,
      day_count-epoch,
      count 1970 1 1 (omega arith),
      days_of_months-none 1970,
    )

-- jiff's date that comes `day` days after 1970-01-01
pub record IsDateOf (day : ℕ) (date : civil.Date) : Type 0 where
  pub same_year : date.year ≡ pos (date_of day).year
  pub same_month : date.month ≡ (date_of day).month
  pub same_day : date.day ≡ (date_of day).day

-- The date of jiff that comes `day` days after 1970-01-01 has the fields of `date_of day`.
pub jiff_date : (day : ℕ) (date : civil.Date) → epoch_day date +ℤ pos 4_371_587 ≡ pos (day + 4_371_587) → IsDateOf day date
jiff_date day date e =
    let up_e = ap up e in
    let down_e = ap down e in
    let y = year_is date (omega (arith, signed_arith, up_e, down_e)) in
    let at : epoch_day date ≡ jiff.days_from_civil (pos y.0) date.month date.day =
    ap (λ z. jiff.days_from_civil z date.month date.day) y.1 in
    let up_at = ap up at in
    let down_at = ap down at in
    let month_in = date.month_in in
    let day_in = date.day_in in
    let number = number_of y.0 date.month date.day day day_in.0 (omega (arith, signed_arith, up_e, down_e, up_at, down_at)) in
    let is = date_of-is day in
    let d = date_of day in
    let civil_is : IsCivil y.0 date.month date.day = record { month_in = month_in; day_in = rw y.1 at day_in } in
    let same = same_date y.0 date.month date.day d.year d.month d.day civil_is is.civil (omega (arith, number, is.number)) in
    record { same_year = y.1 ∙ ap pos same.same_year; same_month = same.same_month; same_day = same.same_day }
