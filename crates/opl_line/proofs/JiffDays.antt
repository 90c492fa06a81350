-- The calendar of jiff, which counts days from the year -10000, has the dates of osm_model's calendar.
use Rattle.std.proofs.Common.{◌≡◌, ℕ, ◌+◌, ◌<◌, ◌≤◌, refl, ap, ◌∙◌, arith, ℤ, pos, ◌+ℤ◌, true, to_z, of_z, to_z-of_z, FitsSigned, w32, Fits}
use Rattle.std.proofs.lemmas.Int.{to_z_pos}
use Rattle.std.specs.Int.{IsInRange, w8, w16}
use Rattle.jiff_core.specs.Calendar as jiff
use Rattle.jiff_core.specs.Calendar.{IsEpochDay}
use Rattle.jiff_core.specs.Date.{IsYmd, epoch_day}
use Rattle.jiff_core.specs.declared.civil.date.Date.{Date}
use Rattle.jiff_core.proofs.CalendarLemmas.{days_from_civil-day_count, day_count-epoch}
use Rattle.jiff_core.proofs.SignedLemmas.{signed_arith, fits_between}
use Rattle.osm_model.specs.Calendar.{is_date, day_number, days_in_month}
use Rattle.osm_model.proofs.CalendarLaws.{civil-is_date}
use Rattle.osm_model.proofs.JiffCalendar.{count}
use borrow.Author.Differences.{up, down}

pub bridge : (y m d : ℕ) → 1 ≤ d → up (jiff.days_from_civil (pos y) m d) + 719_528
    ≡ down (jiff.days_from_civil (pos y) m d) + day_number y m d
bridge y m d h = omega (arith, days_from_civil-day_count (pos y) m d, count y m d h)

-- a date's number, as the code computes it
pub number_of : (r : ℤ) (y m d : ℕ) → 1 ≤ d → r ≡ jiff.days_from_civil (pos y) m d → r +ℤ pos 719_528 ≡ pos (day_number y m d)
number_of r y m d h e = let b = bridge y m d h in rw e (omega (arith, signed_arith))

pub cast : (r : ℤ) (n : ℕ) → r +ℤ pos 719_528 ≡ pos n → IsEpochDay r → to_z w32 (of_z w32 (to_z w32 (of_z w32 r) +ℤ pos 719_528)) ≡ pos n
cast r n e b =
    let s : FitsSigned w32 r = fits_between w32 r (omega (arith, signed_arith), omega (arith, signed_arith)) in
    let p : to_z w32 (of_z w32 r) ≡ r = to_z-of_z s in
    let f : FitsSigned w32 (pos n) = fits_between w32 (pos n)
    (omega (arith, signed_arith, ap up e, ap down e), omega (arith, signed_arith, ap up e, ap down e)) in
    rw (p, e) (to_z-of_z f)

-- A date of jiff has the year, month and day that it was made of.
pub dated : (date : Date) (y m d : ℕ) → y < 10000 → m < 100 → d < 100 → IsYmd (to_z w16 y) (to_z w8 m) (to_z w8 d) date →
    (date.year ≡ pos y) × (date.month ≡ m) × (date.day ≡ d)
dated date y m d yl ml dl is = (
  is.0 ∙ to_z_pos w16 y (omega arith),
  (let e = is.1 ∙ to_z_pos w8 m (omega arith) in cc),
  (let e = is.2 ∙ to_z_pos w8 d (omega arith) in cc),
)

-- A date of jiff is a date of osm_model's calendar.
pub dated_is : (date : Date) (y m d : ℕ) → (date.year ≡ pos y) × (date.month ≡ m) × (date.day ≡ d) → is_date y m d ≡ true
dated_is date y m d e =
    civil-is_date y m d (record {
      month_in = rw e.1 at date.month_in;
      day_in = rw (e.0, e.1, e.2) at date.day_in;
    })

-- the code computes a date's day number from a date of jiff
pub computed : (date plain : Date) (r : ℤ) (y m d : ℕ) → (date.year ≡ pos y) × (date.month ≡ m) × (date.day ≡ d) → plain ≡ date →
    r ≡ epoch_day plain → IsEpochDay r →
    to_z w32 (of_z w32 (to_z w32 (of_z w32 r) +ℤ pos 719_528)) ≡ pos (day_number y m d)
computed date plain r y m d e same is bound =
    let di : IsInRange 1 (days_in_month y m) d = rw (e.0, e.1, e.2) at date.day_in in
    let at : epoch_day date ≡ jiff.days_from_civil (pos y) m d = rw (e.0, e.1, e.2) refl in
    cast r (day_number y m d) (number_of r y m d di.0 (is ∙ ap epoch_day same ∙ at)) bound

-- The day number of a date of jiff is below 2^32.
pub small : (date plain : Date) (r : ℤ) (y m d : ℕ) → (date.year ≡ pos y) × (date.month ≡ m) × (date.day ≡ d) → plain ≡ date →
    r ≡ epoch_day plain → IsEpochDay r →
    Fits w32 (day_number y m d)
small date plain r y m d e same is bound =
    let di : IsInRange 1 (days_in_month y m) d = rw (e.0, e.1, e.2) at date.day_in in
    let at : epoch_day date ≡ jiff.days_from_civil (pos y) m d = rw (e.0, e.1, e.2) refl in
    let n = number_of r y m d di.0 (is ∙ ap epoch_day same ∙ at) in
    record { fits = omega (arith, signed_arith, ap up n, ap down n) }

-- the number of 1970-01-01
pub epoch_day_number : day_number 1970 1 1 ≡ 719_528
epoch_day_number = omega (arith, count 1970 1 1 (omega arith), day_count-epoch)
