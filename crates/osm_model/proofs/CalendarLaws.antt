-- A date determines its day number, and the day number determines the date.
use Rattle.std.proofs.Common.{◌≡◌, ℕ, zero, suc, ◌+◌, ◌-◌, ◌*◌, ◌<◌, ◌≤◌, true, false, cond, ltb, refl, sym, ap, ◌∙◌, arith, ⊎_elim, subst}
use Rattle.std.proofs.lemmas.Bool.{cases_lt, cases_order, ltb-true, ltb-false, leb-true, le-leb, and_parts}
use Rattle.std.specs.Int.{IsInRange}
use Rattle.osm_model.specs.declared.calendar.Date.{Date}
use Rattle.osm_model.specs.Calendar.{is_leap_year, days_in_year, days_in_month, is_date, days_of_years, days_of_months, day_number}
use Rattle.osm_model.specs.Time.{year_walk, month_walk, date_of}

pub year_some : (year : ℕ) → 365 ≤ days_in_year year
year_some year = grind arith

month_length_le : (year month : ℕ) → days_in_month year month ≤ 31
month_length_le year month = grind arith

pub days_of_months-year : (year : ℕ) → days_of_months year 12 ≡ days_in_year year
unfolding days_of_months
days_of_months-year year = elim (is_leap_year year) as
    (λ b. 31 + cond b 29 28 + 31 + 30 + 31 + 30 + 31 + 31 + 30 + 31 + 30 + 31 ≡ cond b 366 365) [ true ↦ refl | false ↦ refl ]

-- No days are before the first month of a year.
pub days_of_months-none : (year : ℕ) → days_of_months year (1 - 1) ≡ 0
unfolding days_of_months
days_of_months-none year = refl

-- the walk over whole years loses no day, and the rest is within the year
year_walk-sum : (most year days : ℕ) → days_of_years (year_walk most year days).0 + (year_walk most year days).1 ≡ days_of_years year + days
unfolding year_walk days_of_years
year_walk-sum zero year days = refl
year_walk-sum (suc most) year days =
    elim (ltb days (days_in_year year)) as (λ b. ltb days (days_in_year year) ≡ b →
    days_of_years (cond b (year, days) (year_walk most (suc year) (days - days_in_year year))).0 +
    (cond b (year, days) (year_walk most (suc year) (days - days_in_year year))).1 ≡ days_of_years year + days) [
      | true ↦ λ e. refl
      | false ↦ λ e. year_walk-sum most (suc year) (days - days_in_year year)
          ∙ (let long = ltb-false days (days_in_year year) e in omega arith)
    ] refl

year_walk-within : (most year days : ℕ) → days ≤ most → (year_walk most year days).1 < days_in_year (year_walk most year days).0
unfolding year_walk
year_walk-within zero year days h = let some = year_some year in omega arith
year_walk-within (suc most) year days h =
    elim (ltb days (days_in_year year)) as (λ b. ltb days (days_in_year year) ≡ b →
    (cond b (year, days) (year_walk most (suc year) (days - days_in_year year))).1 < days_in_year
    (cond b (year, days) (year_walk most (suc year) (days - days_in_year year))).0) [
      | true ↦ λ e. ltb-true days (days_in_year year) e
      | false ↦ λ e. year_walk-within most (suc year) (days - days_in_year year)
          (let some = year_some year in let long = ltb-false days (days_in_year year) e in omega arith)
    ] refl

-- the walk over whole months loses no day
record IsMonthWalk (year month days : ℕ) (found : ℕ × ℕ) : Type 0 where
  some : 1 ≤ found.0
  sum : days_of_months year (found.0 - 1) + found.1 ≡ days_of_months year (month - 1) + days

month_walk-sum : (most year month days : ℕ) → 1 ≤ month → IsMonthWalk year month days (month_walk most year month days)
unfolding month_walk days_of_months
month_walk-sum zero year month days h = record { some = h; sum = refl }
month_walk-sum (suc most) year zero days h = absurd (omega arith)
month_walk-sum (suc most) year (suc before) days h =
    elim (ltb days (days_in_month year (suc before))) as (λ b. ltb days (days_in_month year (suc before)) ≡ b →
    IsMonthWalk year (suc before) days (cond b (suc before, days)
    (month_walk most year (suc (suc before)) (days - days_in_month year (suc before))))) [
      | true ↦ λ e. record { some = h; sum = refl }
      | false ↦ λ e.
          let rest = month_walk-sum most year (suc (suc before)) (days - days_in_month year (suc before)) (omega arith) in
          let one : suc (suc before) - 1 ≡ suc before = omega arith in
          let none : suc before - 1 ≡ before = omega arith in
          let long = ltb-false days (days_in_month year (suc before)) e in
          let s = rw one at rest.sum in
          record { some = rest.some; sum = s ∙ rw none (omega arith) }
    ] refl

-- the walk ends in a month of the year, at one of its days
record IsMonthDay (year : ℕ) (found : ℕ × ℕ) : Type 0 where
  month_in : found.0 ≤ 12
  day_in : found.1 < days_in_month year found.0

month_walk-within : (most year month days : ℕ) → 1 ≤ month → month + most ≡ 12 →
    days_of_months year (month - 1) + days < days_of_months year 12 →
    IsMonthDay year (month_walk most year month days)
unfolding month_walk days_of_months
month_walk-within zero year month days h all short =
    let last : month ≡ 12 = omega arith in
    rw last (record { month_in = omega arith; day_in = (let s = rw last at short in omega arith) })
month_walk-within (suc most) year zero days h all short = absurd (omega arith)
month_walk-within (suc most) year (suc before) days h all short =
    elim (ltb days (days_in_month year (suc before))) as (λ b. ltb days (days_in_month year (suc before)) ≡ b →
    IsMonthDay year (cond b (suc before, days) (month_walk most year (suc (suc before)) (days - days_in_month year (suc before))))) [
      | true ↦ λ e. record { month_in = omega arith; day_in = ltb-true days (days_in_month year (suc before)) e }
      | false ↦ λ e.
          let one : suc (suc before) - 1 ≡ suc before = omega arith in
          let none : suc before - 1 ≡ before = omega arith in
          let s = rw none at short in
          let long = ltb-false days (days_in_month year (suc before)) e in
          month_walk-within most year (suc (suc before)) (days - days_in_month year (suc before)) (omega arith) (omega arith)
          (rw one (omega arith))
    ] refl

-- the month is one of the year, and the day one of the month
pub record IsCivil (year month day : ℕ) : Type 0 where
  pub month_in : IsInRange 1 12 month
  pub day_in : IsInRange 1 (days_in_month year month) day

-- A day of a month is at most 31.
pub day_le : (year month day : ℕ) → IsCivil year month day → day ≤ 31
day_le year month day is = let long = month_length_le year month in omega (arith, is.day_in.1)

-- the walked date is one of the calendar, with that day number
pub record IsDateAfter (days : ℕ) (date : Date) : Type 0 where
  pub number : day_number date.year date.month date.day ≡ days_of_years 1970 + days
  pub civil : IsCivil date.year date.month date.day

-- `date_of` returns the date that is this number of days after 0000-01-01.
pub date_of-is : (days : ℕ) → IsDateAfter days (date_of days)
unfolding date_of
date_of-is days =
    let year_sum = year_walk-sum days 1970 days in
    let in_year = year_walk-within days 1970 days (omega arith) in
    let y = year_walk days 1970 days in
    let whole = days_of_months-year y.0 in
    let month_sum = month_walk-sum 11 y.0 1 y.1 (omega arith) in
    let none = days_of_months-none y.0 in
    let in_month = month_walk-within 11 y.0 1 y.1 (omega arith) (omega arith) (omega (arith, none)) in
    record {
      number = omega (arith, none, month_sum.sum);
      civil = record { month_in = (month_sum.some, in_month.month_in); day_in = (omega arith, omega (arith, in_month.day_in)) };
    }

grown : (f : ℕ → ℕ) → ((n : ℕ) → f n ≤ f (suc n)) → (k n : ℕ) → f n ≤ f (k + n)
grown f grows zero n = let same : zero + n ≡ n = omega arith in rw same (omega arith)
grown f grows (suc k) n =
    let same : suc k + n ≡ suc (k + n) = omega arith in
    let rest = grown f grows k n in
    let next = grows (k + n) in
    rw same (omega arith)

not_below : (f : ℕ → ℕ) → ((n : ℕ) → f n ≤ f (suc n)) → (a b r q : ℕ) → f a + r < f (suc a) → f a + r ≡ f b + q → a < b → ⊥
not_below f grows a b r q ha e less =
    let more = grown f grows (b - suc a) (suc a) in
    let there : b - suc a + suc a ≡ b = omega arith in
    let at : f (b - suc a + suc a) ≡ f b = ap f there in
    absurd (omega arith)

-- if `f` doesn't decrease, a position determines the step that it is in
same_step : (f : ℕ → ℕ) → ((n : ℕ) → f n ≤ f (suc n)) → (a b r q : ℕ) → f a + r < f (suc a) → f b + q < f (suc b) → f a + r ≡ f b + q →
    a ≡ b
same_step f grows a b r q ha hb e =
    ⊎_elim (λ same. same)
    (⊎_elim (λ less. absurd (not_below f grows a b r q ha e less)) (λ more. absurd (not_below f grows b a q r hb (sym e) more)))
    (cases_order a b)

days_of_years-grow : (n : ℕ) → days_of_years n ≤ days_of_years (suc n)
unfolding days_of_years
days_of_years-grow n = omega arith

days_of_months-grow : (year n : ℕ) → days_of_months year n ≤ days_of_months year (suc n)
unfolding days_of_months
days_of_months-grow year n = omega arith

months_grown : (year m n : ℕ) → m ≤ n → days_of_months year m ≤ days_of_months year n
months_grown year m n h =
    let more = grown (days_of_months year) (days_of_months-grow year) (n - m) m in
    let there : n - m + m ≡ n = omega arith in
    rw there at more

month_step : (year month day : ℕ) → IsCivil year month day →
    days_of_months year (month - 1) + (day - 1) < days_of_months year (suc (month - 1))
unfolding days_of_months
month_step year zero day is = absurd (omega (arith, is.month_in.0))
month_step year (suc before) day is = let none : suc before - 1 ≡ before = omega arith in rw none (omega (arith, is.day_in.0, is.day_in.1))

year_step : (year month day : ℕ) → IsCivil year month day →
    days_of_years year + (days_of_months year (month - 1) + (day - 1)) < days_of_years (suc year)
unfolding days_of_years
year_step year month day is =
    omega (
      arith,
      month_step year month day is,
      months_grown year (suc (month - 1)) 12 (omega (arith, is.month_in.0, is.month_in.1)),
      days_of_months-year year,
    )

-- the parts of two dates are the same
pub record SameDate (y m d year month day : ℕ) : Type 0 where
  pub same_year : y ≡ year
  pub same_month : m ≡ month
  pub same_day : d ≡ day

same_in_month : (y m d month day : ℕ) → IsCivil y m d → IsCivil y month day →
    days_of_months y (m - 1) + (d - 1) ≡ days_of_months y (month - 1) + (day - 1) → SameDate y m d y month day
same_in_month y m d month day is other e =
    let step : m - 1 ≡ month - 1 = same_step (days_of_months y) (days_of_months-grow y) (m - 1) (month - 1) (d - 1) (day - 1)
    (month_step y m d is) (month_step y month day other) e in
    let at : days_of_months y (m - 1) ≡ days_of_months y (month - 1) = ap (days_of_months y) step in
    record {
      same_year = refl;
      same_month = omega (arith, is.month_in.0, other.month_in.0);
      same_day = omega (arith, is.day_in.0, other.day_in.0);
    }

same_in_year : (y m d year month day : ℕ) → y ≡ year → IsCivil y m d → IsCivil year month day →
    day_number y m d ≡ day_number year month day → SameDate y m d year month day
same_in_year y m d year month day same is other e =
    let P : ℕ → Type 0 = λ z. IsCivil z month day → day_number y m d ≡ day_number z month day → SameDate y m d z month day in
    subst P same (λ there at. same_in_month y m d month day is there (omega (arith, at))) other e

-- Two dates with one day number are the same date.
pub same_date : (y m d year month day : ℕ) → IsCivil y m d → IsCivil year month day → day_number y m d ≡ day_number year month day →
    SameDate y m d year month day
same_date y m d year month day is other e =
    same_in_year y m d year month day
    (same_step days_of_years days_of_years-grow y year (days_of_months y (m - 1) + (d - 1)) (days_of_months year (month - 1) + (day - 1))
    (year_step y m d is) (year_step year month day other) (omega (arith, e)))
    is other e

-- a date that `is_date` accepts has its parts in range
pub is_date-civil : (y m d : ℕ) → is_date y m d ≡ true → IsCivil y m d
is_date-civil y m d e =
    let both = and_parts _ _ e in
    let months = and_parts _ _ both.0 in
    let days = and_parts _ _ both.1 in
    record {
      month_in = (leb-true 1 m months.0, leb-true m 12 months.1);
      day_in =
          (leb-true 1 d days.0, leb-true d (days_in_month y m) days.1);
    }

-- The test `is_date` accepts each date of the calendar.
pub civil-is_date : (y m d : ℕ) → IsCivil y m d → is_date y m d ≡ true
civil-is_date y m d is =
    rw (le-leb 1 m is.month_in.0, le-leb m 12 is.month_in.1, le-leb 1 d is.day_in.0, le-leb d (days_in_month y m) is.day_in.1) refl

days_of_years-more : (k n : ℕ) → days_of_years n + 365 * k ≤ days_of_years (k + n)
unfolding days_of_years
days_of_years-more zero n = let same : zero + n ≡ n = omega arith in rw same (omega arith)
days_of_years-more (suc k) n =
    let same : suc k + n ≡ suc (k + n) = omega arith in
    let rest = days_of_years-more k n in
    let some = year_some (k + n) in
    rw same (omega arith)

-- if the days are fewer than `k` years of 365 days, the year is below `k` + 1970
pub year_below : (k days : ℕ) → days < 365 * k → (date_of days).year < k + 1970
year_below k days short =
    let is = date_of-is days in
    let y = (date_of days).year in
    ⊎_elim (λ below. below)
    (λ above.
    let more = days_of_years-more k 1970 in
    let there : y - (k + 1970) + (k + 1970) ≡ y = omega arith in
    let at : days_of_years (y - (k + 1970) + (k + 1970)) ≡ days_of_years y = ap days_of_years there in
    absurd (omega (arith, is.number, grown days_of_years days_of_years-grow (y - (k + 1970)) (k + 1970))))
    (cases_lt y (k + 1970))
