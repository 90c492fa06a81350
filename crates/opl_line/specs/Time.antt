-- Times in OPL lines, `yyyy-mm-ddThh:mm:ssZ`, as the OPL manual has them. One rule is this project's own: there is no
-- second 60.
use Rattle.std.specs.Prelude.{ℕ, ◌+◌, ◌-◌, ◌*◌, ◌^◌, ◌&&◌, ◌==◌, nat_lt, List, length, take, drop, slice_index, Option}
use Rattle.std.specs.Prelude.{Some, None, Result, Ok, Err, if◌then◌else◌}
use Rattle.std.specs.Option.{option_and_then, ok_or}
use Rattle.std.specs.Char.{is_ascii_digit}
use Rattle.osm_model.specs.Calendar.{is_date, day_number}
use Rattle.opl_line.specs.declared.reason.OplReason.{OplReason}
use Rattle.opl_line.specs.declared.reason.OplReason.TheVariants.{BadTime, OutOfRange}
use Rattle.opl_line.specs.Results.{and_then}
use Rattle.opl_line.specs.Number.{value_of}

-- the value of a digit
abbrev pub digit_of : ℕ → Option ℕ
digit_of byte = if is_ascii_digit byte then Some (byte - 48) else None

-- the number that `count` digits from an offset on write
abbrev pub digits_at : ℕ → ℕ → List ℕ → Option ℕ
digits_at from count text = value_of (take count (drop from text))

-- the number of a day that the calendar has, counted from 0000-01-01
abbrev pub day_of : ℕ → ℕ → ℕ → Option ℕ
day_of year month day = if is_date year month day then Some (day_number year month day) else None

-- the day number of the `yyyy-mm-dd` that a text begins with
abbrev pub reading_date : List ℕ → Option ℕ
reading_date text =
    option_and_then (λ year. option_and_then (λ month. option_and_then (λ day.
    if (slice_index text 4 == 45) && (slice_index text 7 == 45) then day_of year month day else None)
    (digits_at 8 2 text)) (digits_at 5 2 text)) (digits_at 0 4 text)

-- hours 00 to 23, minutes and seconds 00 to 59, as seconds
abbrev pub second_of : ℕ → ℕ → ℕ → Option ℕ
second_of hour minute second = if nat_lt hour 24 && nat_lt minute 60 && nat_lt second 60
    then Some (3_600 * hour + 60 * minute + second) else None

-- the second of the day of the `Thh:mm:ssZ` after the date
abbrev pub reading_clock : List ℕ → Option ℕ
reading_clock text =
    option_and_then (λ hour. option_and_then (λ minute. option_and_then (λ second.
    if (slice_index text 10 == 84) && (slice_index text 13 == 58) && (slice_index text 16 == 58)
    && (slice_index text 19 == 90) then second_of hour minute second else None)
    (digits_at 17 2 text)) (digits_at 14 2 text)) (digits_at 11 2 text)

-- the seconds from 0000-01-01T00:00:00Z to 1970-01-01T00:00:00Z
abbrev pub epoch : ℕ
epoch = 62_167_219_200

-- the seconds since 1970-01-01T00:00:00Z, from 1 to 4294967295, of a moment that is counted from 0000-01-01T00:00:00Z
abbrev pub reading_moment : ℕ → Result ℕ OplReason
reading_moment seconds = if nat_lt epoch seconds && nat_lt seconds (epoch + 2 ^ 32) then Ok (seconds - epoch)
    else Err OutOfRange

-- a time in seconds since 1970-01-01T00:00:00Z
abbrev pub reading_time : List ℕ → Result ℕ OplReason
reading_time text =
    if length text == 20 then and_then (ok_or (reading_date text) BadTime)
    (λ days. and_then (ok_or (reading_clock text) BadTime) (λ second. reading_moment (86_400 * days + second)))
    else Err BadTime
