-- The text of a time, part by part.
use Rattle.std.specs.Prelude.{◌≡◌, ◌↔◌, ℕ, ◌+◌, ◌*◌, ◌/◌, ◌%◌, ◌^◌, ◌<◌, IsTrue, List, [], ◌∷◌, ◌++◌, Some}
use Rattle.osm_model.specs.Calendar.{is_date, day_number}
use Rattle.osm_model.specs.Time.{time_text}

-- a number below 100 in two digits
abbrev pub pair : ℕ → List ℕ
pair n = (48 + n / 10) ∷ (48 + n % 10) ∷ []

-- `yyyy-mm-ddThh:mm:ssZ`
abbrev pub spelled_time : ℕ → ℕ → ℕ → ℕ → ℕ → ℕ → List ℕ
spelled_time year month day hour minute second =
    pair (year / 100) ++ pair (year % 100) ++ 45 ∷ pair month ++ 45 ∷ pair day
    ++ 84 ∷ pair hour ++ 58 ∷ pair minute ++ 58 ∷ pair second ++ 90 ∷ []

-- `text` spells a date of the calendar and a time of day, `seconds` seconds after 1970-01-01T00:00:00Z
pub record IsTimeText (seconds : ℕ) (text : List ℕ) : Type 0 where
  pub year : ℕ
  pub month : ℕ
  pub day : ℕ
  pub hour : ℕ
  pub minute : ℕ
  pub second : ℕ
  pub four_digits : year < 10_000
  pub of_calendar : IsTrue (is_date year month day)
  pub hour_in : hour < 24
  pub minute_in : minute < 60
  pub second_in : second < 60
  pub sum : seconds + 86_400 * day_number 1970 1 1
      ≡ 86_400 * day_number year month day + 3_600 * hour + 60 * minute + second
  pub spelled : text ≡ spelled_time year month day hour minute second

-- for a time below 2^32, `time_text` is the only text with `IsTimeText`
abbrev pub TimeLaw : Type 0
TimeLaw = (seconds : ℕ) (text : List ℕ) → seconds < 2 ^ 32 → (text ≡ time_text (Some seconds)) ↔ IsTimeText seconds text
