-- Times and coordinates that are read are spelled by their bytes, and conversely.
use Rattle.std.proofs.Common.{◌≡◌, ◌≤◌, ℕ, ℤ, ◌+◌, ◌*◌, ◌^◌, Bool, true, false, not, cond, eqb, leb, ltb, ◌&&◌, List, [], ◌∷◌, ◌++◌, length}
use Rattle.std.proofs.Common.{Option, Some, None, Result, Ok, Err, refl, sym, ap, ◌∙◌, subst, append-nil}
use Rattle.std.proofs.lemmas.Bool.{and_parts, eqb-true, leb-true, le-leb, ltb-true}
use Rattle.std.specs.Char.{is_ascii_digit}
use Rattle.std.specs.List.{list_all}
use Rattle.osm_model.specs.New.{is_time}
use Rattle.osm_model.specs.Time.{time_text}
use Rattle.opl_line.specs.declared.bytes.cut.Delimiter.TheVariants.{Points}
use Rattle.opl_line.specs.declared.reason.OplReason.{OplReason}
use Rattle.opl_line.specs.declared.reason.OplReason.TheVariants.{BadCoordinate, OutOfRange}
use Rattle.opl_line.specs.Results.{and_then, as_value}
use Rattle.opl_line.specs.Delimiter.{is_end, with_byte}
use Rattle.opl_line.specs.Field.{reading_optional}
use Rattle.opl_line.specs.Number.{is_numeral, decimal_value, with_sign, is_negative, without_sign, decimals_value, degree_parts}
use Rattle.opl_line.specs.Number.{reading_short_numeral, reading_degrees, reading_units, reading_coordinate}
use Rattle.opl_line.specs.Time.{reading_time}
use Rattle.opl_line.specs.Content.{SpellsNumeral, SpellsTime, SpellsDegrees, whole_degrees, with_decimals, SpellsCoordinate, plain_degrees}
use Rattle.opl_line.specs.Content.{minus_degrees, SpellsOptionalCoordinate, no_place, some_place}
use Rattle.opl_line.proofs.ResultLaws.{both, became}
use Rattle.opl_line.proofs.StraightTimeLaws.{time_canonical, no_time}
use Rattle.opl_line.proofs.ContentLaws.{all_weaker}
use Rattle.opl_line.proofs.CoordinateLaws.{no_point}
use Rattle.opl_line.proofs.CutLaws.{split_front, split_never}
use Rattle.opl_line.proofs.NumeralLaws.{numeral_unsigned}
use Rattle.opl_line.proofs.TimeLaws.{time_is_read_back}

-- a content that can't be empty is read the same as an optional content
some_optional : {X : Type 0} (reading : List ℕ → Result X OplReason) (text : List ℕ) (x : X) → (reading [] ≡ Ok x → ⊥) →
    reading text ≡ Ok x → reading_optional reading text ≡ Ok (Some x)
some_optional reading [] x none e = absurd (none e)
some_optional reading (b ∷ bs) x none e = ap (as_value (λ y. Some y)) e

-- ---- times
pub time_sound : (text : List ℕ) (time : Option ℕ) → reading_optional reading_time text ≡ Ok time → SpellsTime text time
time_sound [] time e = let same : None ≡ time = cc in subst (SpellsTime []) same (record { spelled = sym no_time; range = refl })
time_sound (b ∷ bs) time e =
    let r = became (λ (t : ℕ). Some t) (reading_time (b ∷ bs)) time e in
    let is = time_canonical (b ∷ bs) r.from r.said_so in
    subst (SpellsTime (b ∷ bs)) r.became (record { spelled = is.spelled; range = is.range })

time_read : (time : Option ℕ) → is_time time ≡ true → reading_optional reading_time (time_text time) ≡ Ok time
time_read None range = ap (reading_optional reading_time) no_time
time_read (Some t) range =
    let bounds = and_parts (ltb 0 t) (ltb t (2 ^ 32)) range in
    some_optional reading_time (time_text (Some t)) t (λ e. cc) (time_is_read_back t (ltb-true 0 t bounds.0) (ltb-true t (2 ^ 32) bounds.1))

-- A time that is spelled is read.
pub time_complete : (text : List ℕ) (time : Option ℕ) → SpellsTime text time → reading_optional reading_time text ≡ Ok time
time_complete text time s = ap (reading_optional reading_time) s.spelled ∙ time_read time s.range

-- ---- degrees
record SpellsShort (most : ℕ) (digits : List ℕ) (n : ℕ) : Type 0 where
  numeral : SpellsNumeral digits n
  few : length digits ≤ most

short_sound : (most : ℕ) (digits : List ℕ) (n : ℕ) → reading_short_numeral most digits ≡ Ok n → SpellsShort most digits n
short_sound most digits n =
    let test = is_numeral digits && leb (length digits) most in
    elim test as (λ t. test ≡ t → cond t (Ok (decimal_value digits)) (Err BadCoordinate) ≡ Ok n → SpellsShort most digits n) [
      | true ↦ λ is e.
          let parts = and_parts (is_numeral digits) (leb (length digits) most) is in
          let same : decimal_value digits ≡ n = cc in
          record { numeral = record { numeral = parts.0; value = same }; few = leb-true (length digits) most parts.1 }
      | false ↦ λ other e. cc
    ] refl

short_complete : (most : ℕ) (digits : List ℕ) (n : ℕ) → SpellsNumeral digits n → length digits ≤ most →
    reading_short_numeral most digits ≡ Ok n
short_complete most digits n s few = λ i. cond (s.numeral i && le-leb (length digits) most few i) (Ok (s.value i)) (Err BadCoordinate)

-- the parts before and after a point, joined again
rejoined : List ℕ × Option (List ℕ) → List ℕ
rejoined (whole, None) = whole
rejoined (whole, Some decimals) = whole ++ 46 ∷ decimals

longer : (b : ℕ) (parts : List ℕ × Option (List ℕ)) → rejoined (with_byte b parts) ≡ b ∷ rejoined parts
unfolding rejoined
longer b (whole, None) = refl
longer b (whole, Some decimals) = refl

parted : (text : List ℕ) → text ≡ rejoined (degree_parts text)
unfolding rejoined
parted [] = refl
parted (b ∷ bs) =
    elim (eqb b 46) as (λ t. eqb b 46 ≡ t → b ∷ bs ≡ rejoined (cond t ([], Some bs) (with_byte b (degree_parts bs)))) [
      | true ↦ λ is. ap (λ c. c ∷ bs) (eqb-true b 46 is)
      | false ↦ λ other. ap (λ t. b ∷ t) (parted bs) ∙ sym (longer b (degree_parts bs))
    ] refl

degrees_of : (parts : List ℕ × Option (List ℕ)) (units : ℕ) → reading_degrees parts.0 parts.1 ≡ Ok units →
    SpellsDegrees (rejoined parts) units
unfolding rejoined
degrees_of (whole, None) units e =
    let r = became (λ (n : ℕ). n * 10_000_000) (reading_short_numeral 3 whole) units e in
    let s = short_sound 3 whole r.from r.said_so in
    subst (SpellsDegrees whole) r.became (whole_degrees whole r.from s.numeral s.few)
degrees_of (whole, Some decimals) units e =
    let b = both (reading_short_numeral 3 whole) (λ (n : ℕ).
    as_value (λ (d : ℕ). n * 10_000_000 + decimals_value decimals d) (reading_short_numeral 7 decimals)) units e in
    let r = became (λ (d : ℕ). b.between * 10_000_000 + decimals_value decimals d) (reading_short_numeral 7 decimals) units b.then_done in
    let s = short_sound 3 whole b.between b.done in
    let t = short_sound 7 decimals r.from r.said_so in
    subst (SpellsDegrees (whole ++ 46 ∷ decimals)) r.became (with_decimals whole decimals b.between r.from s.numeral s.few t.numeral t.few)

degrees_sound : (text : List ℕ) (units : ℕ) → reading_degrees (degree_parts text).0 (degree_parts text).1 ≡ Ok units →
    SpellsDegrees text units
degrees_sound text units e = subst (λ t. SpellsDegrees t units) (sym (parted text)) (degrees_of (degree_parts text) units e)

no_points : (digits : List ℕ) (n : ℕ) → SpellsNumeral digits n → list_all (λ b. not (eqb b 46)) digits ≡ true
no_points digits n s = all_weaker is_ascii_digit (λ b. not (eqb b 46)) no_point digits
    (and_parts (not (eqb (length digits) 0)) (list_all is_ascii_digit digits) s.numeral).1

degrees_complete : (text : List ℕ) (units : ℕ) → SpellsDegrees text units →
    reading_degrees (degree_parts text).0 (degree_parts text).1 ≡ Ok units
degrees_complete text units (whole_degrees digits n s few) =
    ap (λ p. reading_degrees p.0 p.1) (split_never (is_end Points) digits (no_points digits n s))
    ∙ ap (as_value (λ m. m * 10_000_000)) (short_complete 3 digits n s few)
degrees_complete text units (with_decimals digits decimals n d s few t short) =
    ap (λ p. reading_degrees p.0 p.1) (split_front (is_end Points) digits decimals 46 (no_points digits n s) refl)
    ∙ ap (λ r. and_then r (λ m. as_value (λ k. m * 10_000_000 + decimals_value decimals k) (reading_short_numeral 7 decimals)))
    (short_complete 3 digits n s few)
    ∙ ap (as_value (λ k. n * 10_000_000 + decimals_value decimals k)) (short_complete 7 decimals d t short)

-- ---- coordinates
record IsSigned (negative : Bool) (n : ℕ) (units : ℤ) : Type 0 where
  value : with_sign negative n ≡ units
  bound : n ≤ cond negative 2_147_483_648 2_147_483_647

units_sound : (negative : Bool) (n : ℕ) (units : ℤ) → reading_units negative n ≡ Ok units → IsSigned negative n units
units_sound negative n units =
    let most : ℕ = cond negative 2_147_483_648 2_147_483_647 in
    elim (leb n most) as (λ t. leb n most ≡ t → cond t (Ok (with_sign negative n)) (Err OutOfRange) ≡ Ok units →
    IsSigned negative n units) [
      | true ↦ λ few e. record { value = (let same : with_sign negative n ≡ units = cc in same); bound = leb-true n most few }
      | false ↦ λ many e. cc
    ] refl

-- A coordinate that is read is spelled.
pub coordinate_sound : (text : List ℕ) (units : ℤ) → reading_coordinate text ≡ Ok units → SpellsCoordinate text units
coordinate_sound [] units e = cc
coordinate_sound (b ∷ bs) units e =
    elim (eqb b 45) as (λ t. eqb b 45 ≡ t → and_then
    (reading_degrees (degree_parts (cond t bs (b ∷ bs))).0 (degree_parts (cond t bs (b ∷ bs))).1) (reading_units t) ≡ Ok units →
    SpellsCoordinate (b ∷ bs) units) [
      | true ↦ λ minus read.
          let r = both (reading_degrees (degree_parts bs).0 (degree_parts bs).1) (reading_units true) units read in
          let u = units_sound true r.between units r.then_done in
          let of_bs : SpellsCoordinate (45 ∷ bs) (with_sign true r.between) =
          minus_degrees bs r.between (degrees_sound bs r.between r.done) u.bound in
          subst (SpellsCoordinate (b ∷ bs)) u.value (subst (λ c. SpellsCoordinate (c ∷ bs) (with_sign true r.between))
          (sym (eqb-true b 45 minus)) of_bs)
      | false ↦ λ plain read.
          let r = both (reading_degrees (degree_parts (b ∷ bs)).0 (degree_parts (b ∷ bs)).1) (reading_units false) units read in
          let u = units_sound false r.between units r.then_done in
          let of_all : SpellsCoordinate (b ∷ bs) (with_sign false r.between) =
          plain_degrees (b ∷ bs) r.between (degrees_sound (b ∷ bs) r.between r.done) u.bound in
          subst (SpellsCoordinate (b ∷ bs)) u.value of_all
    ] refl e

-- degrees begin with a digit
record IsUnsigned (text : List ℕ) : Type 0 where
  sign : is_negative text ≡ false
  rest : without_sign text ≡ text

numeral_first : (digits more : List ℕ) (n : ℕ) → SpellsNumeral digits n → IsUnsigned (digits ++ more)
numeral_first [] more n s = let numeral = s.numeral in cc
numeral_first (b ∷ bs) more n s =
    let plain = numeral_unsigned b bs n s in
    record { sign = plain; rest = ap (λ t. cond t (bs ++ more) (b ∷ (bs ++ more))) plain }

degrees_unsigned : (text : List ℕ) (units : ℕ) → SpellsDegrees text units → IsUnsigned text
degrees_unsigned text units (whole_degrees digits n s few) = subst IsUnsigned (append-nil digits) (numeral_first digits [] n s)
degrees_unsigned text units (with_decimals digits decimals n d s few t short) = numeral_first digits (46 ∷ decimals) n s

units_complete : (negative : Bool) (n : ℕ) → n ≤ cond negative 2_147_483_648 2_147_483_647 →
    reading_units negative n ≡ Ok (with_sign negative n)
units_complete negative n few = ap (λ t. cond t (Ok (with_sign negative n)) (Err OutOfRange))
    (le-leb n (cond negative 2_147_483_648 2_147_483_647) few)

coordinate_complete : (text : List ℕ) (units : ℤ) → SpellsCoordinate text units → reading_coordinate text ≡ Ok units
coordinate_complete text units (plain_degrees bytes n s few) =
    let u = degrees_unsigned bytes n s in
    (λ i. and_then (reading_degrees (degree_parts (u.rest i)).0 (degree_parts (u.rest i)).1) (reading_units (u.sign i)))
    ∙ ap (λ r. and_then r (reading_units false)) (degrees_complete bytes n s)
    ∙ units_complete false n few
coordinate_complete text units (minus_degrees bytes n s few) =
    ap (λ r. and_then r (reading_units true)) (degrees_complete bytes n s) ∙ units_complete true n few

-- A coordinate, or none, that is read is spelled.
pub place_sound : (text : List ℕ) (place : Option ℤ) → reading_optional reading_coordinate text ≡ Ok place →
    SpellsOptionalCoordinate text place
place_sound [] place e = let same : None ≡ place = cc in subst (SpellsOptionalCoordinate []) same no_place
place_sound (b ∷ bs) place e =
    let r = became (λ (x : ℤ). Some x) (reading_coordinate (b ∷ bs)) place e in
    subst (SpellsOptionalCoordinate (b ∷ bs)) r.became (some_place (b ∷ bs) r.from (coordinate_sound (b ∷ bs) r.from r.said_so))

-- A coordinate, or none, that is spelled is read.
pub place_complete : (text : List ℕ) (place : Option ℤ) → SpellsOptionalCoordinate text place →
    reading_optional reading_coordinate text ≡ Ok place
place_complete text place no_place = refl
place_complete text place (some_place bytes units s) =
    some_optional reading_coordinate bytes units (λ e. cc) (coordinate_complete bytes units s)
