-- The text of a time determines the time, has no separator, and spells a date of the calendar.
use Rattle.std.proofs.Common.{◌≡◌, ◌≢◌, ℕ, ◌+◌, ◌*◌, ◌/◌, ◌%◌, ◌^◌, ◌<◌, List, [], ◌∷◌, ◌++◌, Option, Some, None, refl, sym, ap, ◌∙◌, subst}
use Rattle.std.proofs.Common.{arith, inl, inr}
use Rattle.std.proofs.Math.Nat.{ne_of_lt}
use Rattle.osm_model.specs.declared.calendar.Date.{Date}
use Rattle.osm_model.specs.Numeral.{pad_zeros}
use Rattle.osm_model.specs.Decimal.{number_text}
use Rattle.osm_model.specs.Calendar.{days_of_years, day_number}
use Rattle.osm_model.specs.Time.{date_of, two_digits, date_text, clock_text, time_text}
use Rattle.osm_model.specs.TimeLaw.{pair, spelled_time, IsTimeText, TimeLaw}
use Rattle.osm_model.proofs.Separators.{Lacks, NoDigit, IsSeparator, no_digit-separator, mark-separator, split_same, lacks_append}
use Rattle.osm_model.proofs.NumeralLaws.{padded_injective, padded_lacks}
use Rattle.osm_model.proofs.DecimalLaws.{padded_pair, padded_pairs}
use Rattle.osm_model.proofs.CalendarLaws.{date_of-is, SameDate, same_date, year_below, is_date-civil, civil-is_date, days_of_months-none}
use Rattle.osm_model.proofs.CalendarLaws.{day_le}

padded_same : (v w m n : ℕ) → pad_zeros v (number_text m) ≡ pad_zeros w (number_text n) → m ≡ n
unfolding number_text
padded_same v w m n e = padded_injective 10 v w m n (omega arith) (omega arith) e

padded_lack : (c width n : ℕ) → NoDigit c → Lacks c (pad_zeros width (number_text n))
unfolding number_text
padded_lack c width n apart = padded_lacks c 10 width n apart (omega arith) (omega arith)

date_text_lacks : (c : ℕ) (date : Date) → NoDigit c → 45 ≢ c → Lacks c (date_text date)
unfolding date_text
date_text_lacks c date apart dash =
    lacks_append c (pad_zeros 4 (number_text date.year)) (45 ∷ (two_digits date.month ++ 45 ∷ two_digits date.day))
    (padded_lack c 4 date.year apart) (
      dash,
      lacks_append c (two_digits date.month) (45 ∷ two_digits date.day) (padded_lack c 2 date.month apart)
          (dash, padded_lack c 2 date.day apart),
    )

clock_text_lacks : (c second : ℕ) → NoDigit c → 58 ≢ c → Lacks c (clock_text second)
unfolding clock_text
clock_text_lacks c second apart colon =
    lacks_append c (two_digits (second / 3600)) (58 ∷ (two_digits (second / 60 % 60) ++ 58 ∷ two_digits (second % 60)))
    (padded_lack c 2 _ apart) (
      colon,
      lacks_append c (two_digits (second / 60 % 60)) (58 ∷ two_digits (second % 60)) (padded_lack c 2 _ apart)
          (colon, padded_lack c 2 _ apart),
    )

date_text_injective : (d e : Date) → date_text d ≡ date_text e → SameDate d.year d.month d.day e.year e.month e.day
unfolding date_text
date_text_injective d e same =
    let years = split_same 45 (pad_zeros 4 (number_text d.year)) (pad_zeros 4 (number_text e.year)) _ _
    (padded_lack 45 4 d.year (inl (omega arith))) (padded_lack 45 4 e.year (inl (omega arith))) same in
    let months = split_same 45 (two_digits d.month) (two_digits e.month) _ _ (padded_lack 45 2 d.month (inl (omega arith)))
    (padded_lack 45 2 e.month (inl (omega arith))) years.1 in
    record {
      same_year = padded_same 4 4 d.year e.year years.0;
      same_month = padded_same 2 2 d.month e.month months.0;
      same_day = padded_same 2 2 d.day e.day months.1;
    }

clock_text_injective : (s t : ℕ) → clock_text s ≡ clock_text t → s ≡ t
unfolding clock_text
clock_text_injective s t same =
    let hours = split_same 58 (two_digits (s / 3600)) (two_digits (t / 3600)) _ _ (padded_lack 58 2 _ (inr (omega arith, omega arith)))
    (padded_lack 58 2 _ (inr (omega arith, omega arith))) same in
    let minutes = split_same 58 (two_digits (s / 60 % 60)) (two_digits (t / 60 % 60)) _ _
    (padded_lack 58 2 _ (inr (omega arith, omega arith))) (padded_lack 58 2 _ (inr (omega arith, omega arith))) hours.1 in
    let hour : s / 3600 ≡ t / 3600 = padded_same 2 2 (s / 3600) (t / 3600) hours.0 in
    let minute : s / 60 % 60 ≡ t / 60 % 60 = padded_same 2 2 (s / 60 % 60) (t / 60 % 60) minutes.0 in
    let second : s % 60 ≡ t % 60 = padded_same 2 2 (s % 60) (t % 60) minutes.1 in
    omega arith

not_none : (xs ys : List ℕ) (c : ℕ) → xs ++ c ∷ ys ≡ [] → ⊥
not_none [] ys c e = cc
not_none (x ∷ xs) ys c e = cc

some_injective : (s t : ℕ) → time_text (Some s) ≡ time_text (Some t) → s ≡ t
unfolding time_text
some_injective s t same =
    let d = date_of (s / 86_400) in
    let e = date_of (t / 86_400) in
    let dates = split_same 84 (date_text d) (date_text e) _ _
    (date_text_lacks 84 d (inr (omega arith, omega arith)) (ne_of_lt (omega arith)))
    (date_text_lacks 84 e (inr (omega arith, omega arith)) (ne_of_lt (omega arith))) same in
    let clocks = split_same 90 (clock_text (s % 86_400)) (clock_text (t % 86_400)) [] []
    (clock_text_lacks 90 _ (inr (omega arith, omega arith)) (ne_of_lt (omega arith)))
    (clock_text_lacks 90 _ (inr (omega arith, omega arith)) (ne_of_lt (omega arith))) dates.1 in
    let one = date_text_injective d e dates.0 in
    let number : day_number d.year d.month d.day ≡ day_number e.year e.month e.day =
    (λ i. day_number (one.same_year i) (one.same_month i) (one.same_day i)) in
    let days : s / 86_400 ≡ t / 86_400 = omega (arith, number, (date_of-is (s / 86_400)).number, (date_of-is (t / 86_400)).number) in
    let second : s % 86_400 ≡ t % 86_400 = clock_text_injective _ _ clocks.0 in
    omega arith

some_not_none : (s : ℕ) → time_text (Some s) ≡ time_text None → ⊥
unfolding time_text
some_not_none s e = not_none (date_text (date_of (s / 86_400))) _ 84 e

-- Two times with one text are equal.
pub time_injective : (s t : Option ℕ) → time_text s ≡ time_text t → s ≡ t
time_injective None None e = refl
time_injective None (Some t) e = absurd (some_not_none t (sym e))
time_injective (Some s) None e = absurd (some_not_none s e)
time_injective (Some s) (Some t) e = ap (λ n. Some n) (some_injective s t e)

some_lacks : {c : ℕ} (s : ℕ) → IsSeparator c → Lacks c (time_text (Some s))
unfolding time_text
some_lacks s p =
    let no_digit = no_digit-separator p in
    let date = date_text_lacks _ (date_of (s / 86_400)) no_digit (mark-separator 45 (inl (omega arith, omega arith)) p) in
    let clock = clock_text_lacks _ (s % 86_400) no_digit (mark-separator 58 (inl (omega arith, omega arith)) p) in
    let letter = mark-separator 84 (inr (omega arith)) p in
    let zone = mark-separator 90 (inr (omega arith)) p in
    lacks_append _ (date_text (date_of (s / 86_400))) (84 ∷ (clock_text (s % 86_400) ++ 90 ∷ [])) date
    (letter, lacks_append _ (clock_text (s % 86_400)) (90 ∷ []) clock (zone, tt))

-- The text of a time has no separator.
pub time_lacks : {c : ℕ} (time : Option ℕ) → IsSeparator c → Lacks c (time_text time)
unfolding time_text
time_lacks None p = tt
time_lacks (Some s) p = some_lacks s p

-- a date and a second of the day, in two digits each
spelled : (year month day second : ℕ) → year < 10_000 → month < 100 → day < 100 → second < 86_400 →
    date_text (record { year = year; month = month; day = day }) ++ 84 ∷ (clock_text second ++ 90 ∷ [])
    ≡ spelled_time year month day (second / 3600) (second / 60 % 60) (second % 60)
unfolding date_text clock_text
spelled year month day second hy hm hd hs =
    let y : pad_zeros 4 (number_text year) ≡ pair (year / 100) ++ pair (year % 100) = padded_pairs year
    ∙ (λ i. padded_pair (year / 100) (omega arith) i ++ padded_pair (year % 100) (omega arith) i) in
    let m = padded_pair month hm in
    let d = padded_pair day hd in
    let hour = padded_pair (second / 3600) (omega arith) in
    let minute = padded_pair (second / 60 % 60) (omega arith) in
    let sec = padded_pair (second % 60) (omega arith) in
    λ i. (y i ++ 45 ∷ (m i ++ 45 ∷ d i)) ++ 84 ∷ ((hour i ++ 58 ∷ (minute i ++ 58 ∷ sec i)) ++ 90 ∷ [])

-- the date of a time of 32 bits has a year of four digits
time_spelled : (s : ℕ) → s < 2 ^ 32 →
    time_text (Some s) ≡ spelled_time (date_of (s / 86_400)).year (date_of (s / 86_400)).month (date_of (s / 86_400)).day
    (s % 86_400 / 3600) (s % 86_400 / 60 % 60) (s % 86_400 % 60)
unfolding time_text
time_spelled s small =
    let is = date_of-is (s / 86_400) in
    let d = date_of (s / 86_400) in
    let year = year_below 137 (s / 86_400) (omega arith) in
    let day = day_le d.year d.month d.day is.civil in
    spelled d.year d.month d.day (s % 86_400) (omega arith) (omega (arith, is.civil.month_in.1)) (omega arith) (omega arith)

epoch_day : day_number 1970 1 1 ≡ days_of_years 1970
epoch_day = omega (arith, days_of_months-none 1970)

is_time_text : (s : ℕ) → s < 2 ^ 32 → IsTimeText s (time_text (Some s))
is_time_text s small =
    let d = date_of (s / 86_400) in
    let is = date_of-is (s / 86_400) in
    let epoch = epoch_day in
    record {
      year = d.year;
      month = d.month;
      day = d.day;
      hour = s % 86_400 / 3600;
      minute = s % 86_400 / 60 % 60;
      second = s % 86_400 % 60;
      four_digits = omega (arith, year_below 137 (s / 86_400) (omega arith));
      of_calendar = civil-is_date d.year d.month d.day is.civil;
      hour_in = omega arith;
      minute_in = omega arith;
      second_in = omega arith;
      sum = omega (arith, is.number);
      spelled = time_spelled s small;
    }

only_time_text : (s : ℕ) (text : List ℕ) → s < 2 ^ 32 → IsTimeText s text → text ≡ time_text (Some s)
only_time_text s text small h =
    let d = date_of (s / 86_400) in
    let is = date_of-is (s / 86_400) in
    let epoch = epoch_day in
    let hour_in = h.hour_in in
    let minute_in = h.minute_in in
    let second_in = h.second_in in
    let days : s / 86_400 + days_of_years 1970 ≡ day_number h.year h.month h.day = omega (arith, h.sum) in
    let clock : s % 86_400 ≡ 3_600 * h.hour + 60 * h.minute + h.second = omega (arith, h.sum) in
    let date = same_date h.year h.month h.day d.year d.month d.day (is_date-civil h.year h.month h.day h.of_calendar) is.civil
    (omega (arith, is.number)) in
    let hour : h.hour ≡ s % 86_400 / 3600 = omega arith in
    let minute : h.minute ≡ s % 86_400 / 60 % 60 = omega arith in
    let second : h.second ≡ s % 86_400 % 60 = omega arith in
    h.spelled
    ∙ (λ i. spelled_time (date.same_year i) (date.same_month i) (date.same_day i) (hour i) (minute i) (second i))
    ∙ sym (time_spelled s small)

-- The text of a moment spells the moment.
pub time_law : TimeLaw
time_law s text small = (λ e. subst (IsTimeText s) (sym e) (is_time_text s small), only_time_text s text small)
