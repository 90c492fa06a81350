-- A time that is read has the form in which it is written.
use Rattle.std.proofs.Common.{◌≡◌, ℕ, ◌+◌, ◌-◌, ◌*◌, ◌/◌, ◌%◌, ◌^◌, ◌<◌, ◌≤◌, Bool, true, false, not, ◌&&◌, ◌==◌, ltb, cond, List, [], ◌∷◌}
use Rattle.std.proofs.Common.{◌++◌, length, take, drop, get_or, slice_index, add-one, drop-cons, length-drop, arith, refl, sym, ap, ◌∙◌}
use Rattle.std.proofs.Common.{Option, Some, None, Result, Ok, Err}
use Rattle.std.proofs.lemmas.Bool.{and_parts, eqb-true, ltb-true, lt-ltb}
use Rattle.std.proofs.lemmas.List.{drop-drop, drop_all}
use Rattle.std.specs.Char.{is_ascii_digit}
use Rattle.std.specs.List.{list_all}
use Rattle.std.specs.Option.{option_and_then, ok_or}
use Rattle.std.proofs.lemmas.Option.{cond_some}
use Rattle.osm_model.specs.New.{is_time}
use Rattle.osm_model.specs.Calendar.{is_date, day_number}
use Rattle.osm_model.specs.Time.{time_text}
use Rattle.osm_model.specs.TimeLaw.{pair, IsTimeText}
use Rattle.osm_model.proofs.TimeLaws.{time_law}
use Rattle.opl_line.specs.declared.reason.OplReason.{OplReason}
use Rattle.opl_line.specs.declared.reason.OplReason.TheVariants.{BadTime, OutOfRange}
use Rattle.opl_line.specs.Results.{and_then}
use Rattle.opl_line.specs.Number.{is_numeral, decimal_value, value_of}
use Rattle.opl_line.specs.Time.{digits_at, day_of, second_of, reading_date, reading_clock, epoch, reading_moment, reading_time}
use Rattle.opl_line.proofs.ResultLaws.{both}
use Rattle.opl_line.proofs.JiffDays.{epoch_day_number}
use Rattle.opl_line.proofs.StraightPartLaws.{digit}

-- consequences of a reading in two steps that succeeds
record SomeBoth {X Y : Type 0} (next : X → Option Y) (first : Option X) (y : Y) : Type 0 where
  between : X
  done : first ≡ Some between
  then_done : next between ≡ Some y

some_both : {X Y : Type 0} (next : X → Option Y) (first : Option X) (y : Y) → option_and_then next first ≡ Some y → SomeBoth next first y
some_both next None y e = cc
some_both next (Some x) y e = record { between = x; done = refl; then_done = e }

was_some : {X : Type 0} (o : Option X) (x : X) → ok_or o BadTime ≡ Ok x → o ≡ Some x
was_some None x e = cc
was_some (Some y) x e = let same : y ≡ x = cc in ap (λ z. Some z) same

is_so : {X : Type 0} (test : Bool) (o : Option X) (x : X) → cond test o None ≡ Some x → test ≡ true
is_so true o x e = refl
is_so false o x e = cc

-- a number below 100 in two digits
record IsPair (n : ℕ) (now after : List ℕ) : Type 0 where
  small : n < 100
  spelled : now ≡ pair n ++ after

two : (xs : List ℕ) (n : ℕ) → 2 ≤ length xs → value_of (take 2 xs) ≡ Some n → IsPair n xs (drop 2 xs)
two [] n long e = absurd (omega arith)
two (a ∷ []) n long e = absurd (omega arith)
two (a ∷ b ∷ rest) n long e =
    let all = (and_parts (not (2 == 0)) (list_all is_ascii_digit (a ∷ b ∷ []))
    (is_so (is_numeral (a ∷ b ∷ [])) (Some (decimal_value (a ∷ b ∷ []))) n e)).1 in
    let parts = and_parts (is_ascii_digit a) (list_all is_ascii_digit (b ∷ [])) all in
    let tens = digit a parts.0 in
    let ones = digit b (and_parts (is_ascii_digit b) true parts.1).0 in
    let a_low = tens.low in
    let a_high = tens.high in
    let b_low = ones.low in
    let b_high = ones.high in
    let value : 10 * (10 * 0 + (a - 48)) + (b - 48) ≡ n = (cond_some (is_numeral (a ∷ b ∷ [])) (decimal_value (a ∷ b ∷ [])) n e).1 in
    let first : a ≡ 48 + n / 10 = omega arith in
    let second : b ≡ 48 + n % 10 = omega arith in
    record { small = omega arith; spelled = λ i. first i ∷ second i ∷ rest }

-- a number below 10,000 in four digits
record IsFour (n : ℕ) (now after : List ℕ) : Type 0 where
  small : n < 10_000
  spelled : now ≡ pair (n / 100) ++ pair (n % 100) ++ after

four : (xs : List ℕ) (n : ℕ) → 4 ≤ length xs → value_of (take 4 xs) ≡ Some n → IsFour n xs (drop 4 xs)
four [] n long e = absurd (omega arith)
four (a ∷ []) n long e = absurd (omega arith)
four (a ∷ b ∷ []) n long e = absurd (omega arith)
four (a ∷ b ∷ c ∷ []) n long e = absurd (omega arith)
four (a ∷ b ∷ c ∷ d ∷ rest) n long e =
    let digits = a ∷ b ∷ c ∷ d ∷ [] in
    let all = (and_parts (not (4 == 0)) (list_all is_ascii_digit digits) (is_so (is_numeral digits) (Some (decimal_value digits)) n e)).1 in
    let of_a = and_parts (is_ascii_digit a) (list_all is_ascii_digit (b ∷ c ∷ d ∷ [])) all in
    let of_b = and_parts (is_ascii_digit b) (list_all is_ascii_digit (c ∷ d ∷ [])) of_a.1 in
    let of_c = and_parts (is_ascii_digit c) (list_all is_ascii_digit (d ∷ [])) of_b.1 in
    let thousands = digit a of_a.0 in
    let hundreds = digit b of_b.0 in
    let tens = digit c of_c.0 in
    let ones = digit d (and_parts (is_ascii_digit d) true of_c.1).0 in
    let a_low = thousands.low in
    let a_high = thousands.high in
    let b_low = hundreds.low in
    let b_high = hundreds.high in
    let c_low = tens.low in
    let c_high = tens.high in
    let d_low = ones.low in
    let d_high = ones.high in
    let value : 10 * (10 * (10 * (10 * 0 + (a - 48)) + (b - 48)) + (c - 48)) + (d - 48) ≡ n =
    (cond_some (is_numeral digits) (decimal_value digits) n e).1 in
    let first : a ≡ 48 + n / 100 / 10 = omega arith in
    let second : b ≡ 48 + n / 100 % 10 = omega arith in
    let third : c ≡ 48 + n % 100 / 10 = omega arith in
    let fourth : d ≡ 48 + n % 100 % 10 = omega arith in
    record { small = omega arith; spelled = λ i. first i ∷ second i ∷ third i ∷ fourth i ∷ rest }

-- the text of a date that was read, and the text after it
record IsDate (text : List ℕ) (days : ℕ) (after : List ℕ) : Type 0 where
  year : ℕ
  month : ℕ
  day : ℕ
  four_digits : year < 10_000
  of_calendar : is_date year month day ≡ true
  number : days ≡ day_number year month day
  spelled : text ≡ pair (year / 100) ++ pair (year % 100) ++ 45 ∷ pair month ++ 45 ∷ pair day ++ after

record IsClock (text : List ℕ) (seconds : ℕ) : Type 0 where
  hour : ℕ
  minute : ℕ
  second : ℕ
  hour_in : hour < 24
  minute_in : minute < 60
  second_in : second < 60
  sum : seconds ≡ 3_600 * hour + 60 * minute + second
  spelled : text ≡ 84 ∷ pair hour ++ 58 ∷ pair minute ++ 58 ∷ pair second ++ 90 ∷ []

module _ (text : List ℕ) (long : length text ≡ 20) where
  two_at : (from n : ℕ) → from + 2 ≤ 20 → digits_at from 2 text ≡ Some n → IsPair n (drop from text) (drop (from + 2) text)
  two_at from n within e =
      let room : 2 ≤ length (drop from text) = omega (arith, length-drop from text) in
      let is = two (drop from text) n room e in
      record { small = is.small; spelled = is.spelled ∙ ap (λ t. pair n ++ t) (drop-drop 2 from text) }

  mark_at : (place mark : ℕ) → place < 20 → (slice_index text place == mark) ≡ true → drop place text ≡ mark ∷ drop (place + 1) text
  mark_at place mark within is =
      let here : place < length text = omega (arith, long) in
      let cons : drop place text ≡ get_or text place 0 ∷ drop (place + 1) text = rw (add-one, drop-cons text place 0) refl in
      cons ∙ ap (λ b. b ∷ drop (place + 1) text) (eqb-true (get_or text place 0) mark is)

  date_spelled : (days : ℕ) → reading_date text ≡ Some days → IsDate text days (drop 10 text)
  date_spelled days e =
      let marks = (slice_index text 4 == 45) && (slice_index text 7 == 45) in
      let on_day : ℕ → ℕ → ℕ → Option ℕ = λ year month day. cond marks (day_of year month day) None in
      let on_month : ℕ → ℕ → Option ℕ = λ year month. option_and_then (on_day year month) (digits_at 8 2 text) in
      let year = some_both (λ (y : ℕ). option_and_then (on_month y) (digits_at 5 2 text)) (digits_at 0 4 text) days e in
      let month = some_both (on_month year.between) (digits_at 5 2 text) days year.then_done in
      let day = some_both (on_day year.between month.between) (digits_at 8 2 text) days month.then_done in
      let marked = and_parts (slice_index text 4 == 45) (slice_index text 7 == 45)
      (is_so marks (day_of year.between month.between day.between) days day.then_done) in
      let there = ap (λ t. cond t (day_of year.between month.between day.between) None)
      (is_so marks (day_of year.between month.between day.between) days day.then_done) in
      let found : day_of year.between month.between day.between ≡ Some days = sym there ∙ day.then_done in
      let y = four text year.between (omega (arith, long)) year.done in
      let m = two_at 5 month.between (omega arith) month.done in
      let d = two_at 8 day.between (omega arith) day.done in
      record {
        year = year.between;
        month = month.between;
        day = day.between;
        four_digits = y.small;
        of_calendar = is_so (is_date year.between month.between day.between)
            (Some (day_number year.between month.between day.between)) days found;
        number = sym (cond_some (is_date year.between month.between day.between)
            (day_number year.between month.between day.between) days found).1;
        spelled = y.spelled ∙ ap (λ t. pair (year.between / 100) ++ pair (year.between % 100) ++ t)
            (mark_at 4 45 (omega arith) marked.0 ∙ ap (λ t. 45 ∷ t)
            (m.spelled ∙ ap (λ t. pair month.between ++ t)
            (mark_at 7 45 (omega arith) marked.1 ∙ ap (λ t. 45 ∷ t) d.spelled)));
      }

  clock_spelled : (seconds : ℕ) → reading_clock text ≡ Some seconds → IsClock (drop 10 text) seconds
  clock_spelled seconds e =
      let three = (slice_index text 10 == 84) && (slice_index text 13 == 58) && (slice_index text 16 == 58) in
      let marks = three && (slice_index text 19 == 90) in
      let on_second : ℕ → ℕ → ℕ → Option ℕ = λ hour minute second. cond marks (second_of hour minute second) None in
      let on_minute : ℕ → ℕ → Option ℕ = λ hour minute. option_and_then (on_second hour minute) (digits_at 17 2 text) in
      let hour = some_both (λ (h : ℕ). option_and_then (on_minute h) (digits_at 14 2 text)) (digits_at 11 2 text) seconds e in
      let minute = some_both (on_minute hour.between) (digits_at 14 2 text) seconds hour.then_done in
      let second = some_both (on_second hour.between minute.between) (digits_at 17 2 text) seconds minute.then_done in
      let all = is_so marks (second_of hour.between minute.between second.between) seconds second.then_done in
      let last = and_parts three (slice_index text 19 == 90) all in
      let third = and_parts ((slice_index text 10 == 84) && (slice_index text 13 == 58)) (slice_index text 16 == 58) last.0 in
      let others = and_parts (slice_index text 10 == 84) (slice_index text 13 == 58) third.0 in
      let found : second_of hour.between minute.between second.between ≡ Some seconds =
      sym (ap (λ t. cond t (second_of hour.between minute.between second.between) None) all) ∙ second.then_done in
      let in_day = ltb hour.between 24 && ltb minute.between 60 && ltb second.between 60 in
      let value = 3_600 * hour.between + 60 * minute.between + second.between in
      let bounds = and_parts (ltb hour.between 24 && ltb minute.between 60) (ltb second.between 60)
      (is_so in_day (Some value) seconds found) in
      let above = and_parts (ltb hour.between 24) (ltb minute.between 60) bounds.0 in
      let h = two_at 11 hour.between (omega arith) hour.done in
      let m = two_at 14 minute.between (omega arith) minute.done in
      let s = two_at 17 second.between (omega arith) second.done in
      record {
        hour = hour.between;
        minute = minute.between;
        second = second.between;
        hour_in = ltb-true hour.between 24 above.0;
        minute_in = ltb-true minute.between 60 above.1;
        second_in = ltb-true second.between 60 bounds.1;
        sum = sym (cond_some in_day value seconds found).1;
        spelled = mark_at 10 84 (omega arith) others.0 ∙ ap (λ t. 84 ∷ t)
            (h.spelled ∙ ap (λ t. pair hour.between ++ t)
            (mark_at 13 58 (omega arith) others.1 ∙ ap (λ t. 58 ∷ t)
            (m.spelled ∙ ap (λ t. pair minute.between ++ t)
            (mark_at 16 58 (omega arith) third.1 ∙ ap (λ t. 58 ∷ t)
            (s.spelled ∙ ap (λ t. pair second.between ++ t)
            (mark_at 19 90 (omega arith) last.1 ∙ ap (λ t. 90 ∷ t) (drop_all 20 text (omega (arith, long)))))))));
      }

record IsMoment (total time : ℕ) : Type 0 where
  some : 0 < time
  small : time < 2 ^ 32
  sum : total ≡ time + epoch

moment : (total time : ℕ) → reading_moment total ≡ Ok time → IsMoment total time
moment total time e =
    elim (ltb epoch total && ltb total (epoch + 2 ^ 32)) as
    (λ t. (ltb epoch total && ltb total (epoch + 2 ^ 32)) ≡ t → cond t (Ok (total - epoch)) (Err OutOfRange) ≡ Ok time →
    IsMoment total time) [
      | true ↦ λ within read.
          let bounds = and_parts (ltb epoch total) (ltb total (epoch + 2 ^ 32)) within in
          let low = ltb-true epoch total bounds.0 in
          let high = ltb-true total (epoch + 2 ^ 32) bounds.1 in
          let same : total - epoch ≡ time = cc in
          record { some = omega arith; small = omega arith; sum = omega arith }
      | false ↦ λ outside read. cc
    ] refl e

-- the time that was read, and its one text
pub record IsTimeRead (text : List ℕ) (time : ℕ) : Type 0 where
  pub range : is_time (Some time) ≡ true
  pub spelled : text ≡ time_text (Some time)

spelled_at : (text : List ℕ) (time days seconds : ℕ) → IsMoment (86_400 * days + seconds) time → IsDate text days (drop 10 text) →
    IsClock (drop 10 text) seconds → IsTimeRead text time
spelled_at text time days seconds of_moment date clock =
    let small = of_moment.small in
    let total = of_moment.sum in
    let number = date.number in
    let within = clock.sum in
    let is : IsTimeText time text = record {
      year = date.year;
      month = date.month;
      day = date.day;
      hour = clock.hour;
      minute = clock.minute;
      second = clock.second;
      four_digits = date.four_digits;
      of_calendar = date.of_calendar;
      hour_in = clock.hour_in;
      minute_in = clock.minute_in;
      second_in = clock.second_in;
      sum = omega (arith, epoch_day_number);
      spelled = date.spelled ∙ ap (λ t. pair (date.year / 100) ++ pair (date.year % 100) ++ 45 ∷ pair date.month ++ 45 ∷ pair date.day
          ++ t) clock.spelled;
    } in
    record { range = λ i. lt-ltb 0 time of_moment.some i && lt-ltb time (2 ^ 32) small i; spelled = (time_law time text small).1 is }

-- A time that is read has the one text of that time.
pub time_canonical : (text : List ℕ) (time : ℕ) → reading_time text ≡ Ok time → IsTimeRead text time
time_canonical text time e =
    let with_clock : ℕ → Result ℕ OplReason = λ days.
    and_then (ok_or (reading_clock text) BadTime) (λ second. reading_moment (86_400 * days + second)) in
    elim (length text == 20) as (λ t. (length text == 20) ≡ t →
    cond t (and_then (ok_or (reading_date text) BadTime) with_clock) (Err BadTime) ≡ Ok time → IsTimeRead text time) [
      | true ↦ λ is read.
          let long = eqb-true (length text) 20 is in
          let date = both (ok_or (reading_date text) BadTime) with_clock time read in
          let clock = both (ok_or (reading_clock text) BadTime)
          (λ (second : ℕ). reading_moment (86_400 * date.between + second)) time date.then_done in
          spelled_at text time date.between clock.between (moment (86_400 * date.between + clock.between) time clock.then_done)
          (date_spelled text long date.between (was_some (reading_date text) date.between date.done))
          (clock_spelled text long clock.between (was_some (reading_clock text) clock.between clock.done))
      | false ↦ λ is read. cc
    ] refl e

-- The text of no time is empty.
pub no_time : time_text None ≡ []
unfolding time_text
no_time = refl
