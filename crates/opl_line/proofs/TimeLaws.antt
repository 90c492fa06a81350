-- Times are read back.
use Rattle.std.proofs.Common.{◌≡◌, ℕ, ◌+◌, ◌-◌, ◌*◌, ◌/◌, ◌%◌, ◌^◌, ◌<◌, true, cond, ◌&&◌, List, [], ◌∷◌, Option, Some, None, Ok, Err, refl}
use Rattle.std.proofs.Common.{ap, ◌∙◌, arith}
use Rattle.std.proofs.lemmas.Bool.Decides.{nat_tests}
use Rattle.std.proofs.lemmas.Bool.{lt-ltb}
use Rattle.std.specs.Option.{option_and_then, ok_or}
use Rattle.osm_model.specs.Calendar.{is_date, day_number}
use Rattle.osm_model.specs.Time.{time_text}
use Rattle.osm_model.specs.TimeLaw.{spelled_time, IsTimeText}
use Rattle.osm_model.proofs.CalendarLaws.{is_date-civil, day_le}
use Rattle.osm_model.proofs.TimeLaws.{time_law}
use Rattle.opl_line.specs.declared.reason.OplReason.TheVariants.{BadTime, OutOfRange}
use Rattle.opl_line.specs.Results.{and_then}
use Rattle.opl_line.specs.Number.{is_numeral, decimal_value}
use Rattle.opl_line.specs.Time.{day_of, reading_date, second_of, reading_clock, epoch, reading_moment, reading_time}
use Rattle.opl_line.specs.Canonical.{TimeIsReadBack}
use Rattle.opl_line.proofs.JiffDays.{epoch_day_number}

number_of : List ℕ → Option ℕ
number_of digits = cond (is_numeral digits) (Some (decimal_value digits)) None

is_two : (a b : ℕ) → a < 10 → b < 10 → is_numeral ((48 + a) ∷ (48 + b) ∷ []) ≡ true
is_two a b ha hb = grind (arith, nat_tests)

-- a number below 100 in two digits, and one below 10,000 in four
two : (n : ℕ) → n < 100 → number_of ((48 + n / 10) ∷ (48 + n % 10) ∷ []) ≡ Some n
unfolding number_of
two n small =
    ap (λ t. cond t (Some (decimal_value ((48 + n / 10) ∷ (48 + n % 10) ∷ []))) None) (is_two (n / 10) (n % 10) (omega arith) (omega arith))
    ∙ ap (λ v. Some v) (let e : 10 * (10 * 0 + (48 + n / 10 - 48)) + (48 + n % 10 - 48) ≡ n = omega arith in e)

is_four : (a b c d : ℕ) → a < 10 → b < 10 → c < 10 → d < 10 → is_numeral ((48 + a) ∷ (48 + b) ∷ (48 + c) ∷ (48 + d) ∷ []) ≡ true
is_four a b c d ha hb hc hd = grind (arith, nat_tests)

four : (n : ℕ) → n < 10_000 → number_of ((48 + n / 100 / 10) ∷ (48 + n / 100 % 10) ∷ (48 + n % 100 / 10) ∷ (48 + n % 100 % 10) ∷ [])
    ≡ Some n
unfolding number_of
four n small =
    let a = n / 100 / 10 in
    let b = n / 100 % 10 in
    let c = n % 100 / 10 in
    let d = n % 100 % 10 in
    ap (λ t. cond t (Some (decimal_value ((48 + a) ∷ (48 + b) ∷ (48 + c) ∷ (48 + d) ∷ []))) None)
    (is_four a b c d (omega arith) (omega arith) (omega arith) (omega arith))
    ∙ ap (λ v. Some v) (let e : 10 * (10 * (10 * (10 * 0 + (48 + a - 48)) + (48 + b - 48)) + (48 + c - 48)) + (48 + d - 48) ≡ n =
    omega arith in e)

date_read : (year month day hour minute second : ℕ) → year < 10_000 → month < 100 → day < 100 → is_date year month day ≡ true →
    reading_date (spelled_time year month day hour minute second) ≡ Some (day_number year month day)
unfolding number_of
date_read year month day hour minute second hy hm hd is =
    ap (option_and_then (λ y. option_and_then (λ m. option_and_then (day_of y m) (number_of ((48 + day / 10) ∷ (48 + day % 10) ∷ [])))
    (number_of ((48 + month / 10) ∷ (48 + month % 10) ∷ [])))) (four year hy)
    ∙ ap (option_and_then (λ m. option_and_then (day_of year m) (number_of ((48 + day / 10) ∷ (48 + day % 10) ∷ [])))) (two month hm)
    ∙ ap (option_and_then (day_of year month)) (two day hd)
    ∙ ap (λ t. cond t (Some (day_number year month day)) None) is

clock_read : (year month day hour minute second : ℕ) → hour < 24 → minute < 60 → second < 60 →
    reading_clock (spelled_time year month day hour minute second) ≡ Some (3_600 * hour + 60 * minute + second)
unfolding number_of
clock_read year month day hour minute second hh hm hs =
    ap (option_and_then (λ h. option_and_then (λ m. option_and_then (second_of h m)
    (number_of ((48 + second / 10) ∷ (48 + second % 10) ∷ []))) (number_of ((48 + minute / 10) ∷ (48 + minute % 10) ∷ []))))
    (two hour (omega arith))
    ∙ ap (option_and_then (λ m. option_and_then (second_of hour m) (number_of ((48 + second / 10) ∷ (48 + second % 10) ∷ []))))
    (two minute (omega arith))
    ∙ ap (option_and_then (second_of hour minute)) (two second (omega arith))
    ∙ (λ i. cond (lt-ltb hour 24 hh i && lt-ltb minute 60 hm i && lt-ltb second 60 hs i) (Some (3_600 * hour + 60 * minute + second)) None)

moment_read : (seconds total : ℕ) → 0 < seconds → seconds < 2 ^ 32 → total ≡ seconds + epoch → reading_moment total ≡ Ok seconds
moment_read seconds total some small is =
    (λ i. cond (lt-ltb epoch total (omega arith) i && lt-ltb total (epoch + 2 ^ 32) (omega arith) i) (Ok (total - epoch)) (Err OutOfRange))
    ∙ ap (λ n. Ok n) (let e : total - epoch ≡ seconds = omega arith in e)

pub time_complete : (seconds : ℕ) (text : List ℕ) → 0 < seconds → seconds < 2 ^ 32 → IsTimeText seconds text →
    reading_time text ≡ Ok seconds
time_complete seconds text some small h =
    let civil = is_date-civil h.year h.month h.day h.of_calendar in
    let month : h.month < 100 = omega (arith, civil.month_in.1) in
    let day : h.day < 100 = omega (arith, day_le h.year h.month h.day civil) in
    let days = day_number h.year h.month h.day in
    let clock = 3_600 * h.hour + 60 * h.minute + h.second in
    let total : 86_400 * days + clock ≡ seconds + epoch = omega (arith, h.sum, epoch_day_number) in
    ap reading_time h.spelled
    ∙ ap (λ d. and_then (ok_or d BadTime) (λ n. and_then
    (ok_or (reading_clock (spelled_time h.year h.month h.day h.hour h.minute h.second)) BadTime)
    (λ s. reading_moment (86_400 * n + s))))
    (date_read h.year h.month h.day h.hour h.minute h.second h.four_digits month day h.of_calendar)
    ∙ ap (λ c. and_then (ok_or c BadTime) (λ s. reading_moment (86_400 * days + s)))
    (clock_read h.year h.month h.day h.hour h.minute h.second h.hour_in h.minute_in h.second_in)
    ∙ moment_read seconds (86_400 * days + clock) some small total

-- The text of a time is read as the time.
pub time_is_read_back : TimeIsReadBack
time_is_read_back seconds some small = time_complete seconds (time_text (Some seconds)) some small
    ((time_law seconds (time_text (Some seconds)) small).0 refl)
