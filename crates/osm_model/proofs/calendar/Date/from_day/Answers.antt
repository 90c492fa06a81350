use Rattle.std.proofs.Common.{◌≡◌, ◌<◌, ◌^◌, arith, rules, ℤ, ℕ, pos, to_z, of_z, w16, unsigned_abs}
use Rattle.std.proofs.lemmas.Int.{to_z_pos}
use Rattle.osm_model.specs.Time.{date_of}
use Rattle.osm_model.proofs.CalendarLaws.{year_below, date_of-is, day_le}
use Rattle.osm_model.proofs.JiffCalendar.{jiff_date}
use Rattle.osm_model.proofs.calendar.Date.from_day.Goals as goal

-- the year as the code casts it
cast_year : (day : ℕ) (year : ℤ) → day < 2 ^ 16 → year ≡ pos (date_of day).year → to_z w16 (of_z w16 year) ≡ pos (date_of day).year
cast_year day year small is = rw is (to_z_pos w16 (date_of day).year (let below = year_below 180 day (omega arith) in omega arith))

pub overflow_cast-result : goal.overflow_cast-result
overflow_cast-result c =
    let is = jiff_date c.args.day c.from_days_since_min-date.result (search rules) in
    let below = year_below 180 c.args.day (omega arith) in
    rw (cast_year c.args.day c.from_days_since_min-date.result.year c.ranges.day.fits is.same_year) (tt, record { fits = omega arith })

pub returns : goal.returns
returns c =
    let is = jiff_date c.args.day c.from_days_since_min-date.result (search rules) in
    let year = cast_year c.args.day c.from_days_since_min-date.result.year c.ranges.day.fits is.same_year in
    let below = year_below 180 c.args.day (omega arith) in
    let date = date_of-is c.args.day in
    let d = date_of c.args.day in
    record {
      value = λ i. record { year = unsigned_abs (year i); month = is.same_month i; day = is.same_day i };
      year = rw year (omega arith);
      month = rw is.same_month date.civil.month_in.1;
      day = rw is.same_day (day_le d.year d.month d.day date.civil);
    }
