-- Units one at a time: the unit at the front, and those after it.
use Rattle.std.proofs.Common.{◌≡◌, ℕ, zero, suc, ◌+◌, ◌-◌, ◌≤◌, ◌==◌, true, false, cond, List, [], ◌∷◌, length, drop, take, refl, sym, ap}
use Rattle.std.proofs.Common.{◌∙◌, subst, arith, Option, Some, None, Result, Ok, Err, length-drop, length-append, nat_lt, nat_le}
use Rattle.std.proofs.lemmas.Bool.{ltb-false, leb-true}
use Rattle.std.proofs.lemmas.Option.{none-some}
use Rattle.opl_line.specs.Delimiter.{is_line_end, split_first}
use Rattle.opl_line.specs.Reading.{reading_line}
use Rattle.o5_codec.specs.declared.reason.O5Reason.{O5Reason}
use Rattle.o5_codec.specs.declared.read.segment.Segment.{Segment}
use Rattle.o5_codec.specs.Decoder.{new_segment}
use Rattle.osm_files.specs.declared.reason.Reason.TheVariants.{BadHeader}
use Rattle.osm_files.specs.Stream.{Verdict, Placed, SourceRest}
use Rattle.osm_files.specs.O5.{end_byte, reset_byte, is_lone, kind_of_type}
use Rattle.osm_files.specs.Units.{FileStateData, InOpl, BeforeHeader, InSegment, PastEnd, UnitResult, FileUnit, unit, no_version, line_unit}
use Rattle.osm_files.specs.Units.{line_found}
use Rattle.osm_files.specs.Units.{header_unit, is_header, content_found, length_at, sized_unit, segment_unit, unit_after_end, unit_at}
use Rattle.osm_files.specs.Units.{last_at}
use Rattle.osm_files.specs.Units.{found_then, final_units, unit_then, units_within, units}
use Rattle.osm_files.proofs.UnitLaws.{splits, SplitsAs}
use Rattle.osm_files.proofs.SizeLaws.{length_found}

-- a unit has at least one byte, and no more than there are
pub record IsSized (u : FileUnit) (bytes : List ℕ) : Type 0 where
  pub some : 1 ≤ u.size
  pub within : u.size ≤ length bytes

abbrev Sizes : List ℕ → Option FileUnit → Type 0
Sizes bytes found = (u : FileUnit) → found ≡ Some u → IsSized u bytes

none_sized : (bytes : List ℕ) → Sizes bytes None
none_sized bytes = λ u e. absurd (none-some u e)

some_sized : (bytes : List ℕ) (size : ℕ) (found : UnitResult) → 1 ≤ size → size ≤ length bytes → Sizes bytes (Some (unit size found))
some_sized bytes size found some within = λ u e.
    let same : unit size found ≡ u = (let f : Some (unit size found) ≡ Some u = e in cc) in
    subst (λ (x : FileUnit). IsSized x bytes) same (record { some = some; within = within })

line_sized : (bytes : List ℕ) (s : List ℕ × Option (List ℕ)) → SplitsAs bytes s → Sizes bytes (line_unit s)
line_sized bytes (line, None) h = none_sized bytes
line_sized bytes (line, Some rest) h =
    some_sized bytes (length line + 1) (line_found (reading_line line)) (omega arith)
    (omega (arith, ap length h.1, length-append line (h.0 ∷ rest)))

header_sized : (bytes : List ℕ) → Sizes bytes (header_unit bytes)
header_sized bytes =
    elim (nat_lt (length bytes) 7) as (λ t. nat_lt (length bytes) 7 ≡ t →
    Sizes bytes (cond t None (Some (unit 7 (cond (is_header (take 7 bytes)) (no_version (InSegment new_segment)) (Err BadHeader)))))) [
      | true ↦ λ is. none_sized bytes
      | false ↦ λ is. some_sized bytes 7 _ (omega arith) (ltb-false (length bytes) 7 is)
    ] refl

set_sized : (s : Segment) (b : ℕ) (bytes : List ℕ) (x : Option (Result (ℕ × List ℕ) O5Reason)) → length_at bytes ≡ x →
    Sizes (b ∷ bytes) (sized_unit s b bytes x)
set_sized s b bytes None e = none_sized (b ∷ bytes)
set_sized s b bytes (Some (Err reason)) e = some_sized (b ∷ bytes) 1 _ (omega arith) (omega arith)
set_sized s b bytes (Some (Ok (size, rest))) e =
    let found = length_found b bytes size rest e in
    elim (nat_le size (length rest)) as (λ t. nat_le size (length rest) ≡ t →
    Sizes (b ∷ bytes) (cond t (Some (unit (1 + (length bytes - length rest) + size)
    (content_found s (kind_of_type b) (take size rest)))) None)) [
      | true ↦ λ is. some_sized (b ∷ bytes) (1 + (length bytes - length rest) + size) _ (omega arith)
          (let fits = leb-true size (length rest) is in omega (arith, fits, ap length found.split, length-append found.size rest))
      | false ↦ λ is. none_sized (b ∷ bytes)
    ] refl

segment_sized : (s : Segment) (bytes : List ℕ) → Sizes bytes (segment_unit s bytes)
segment_sized s [] = none_sized []
segment_sized s (b ∷ bytes) =
    elim (b == end_byte) as (λ t. Sizes (b ∷ bytes) (cond t (Some (unit 1 (no_version PastEnd)))
    (cond (b == reset_byte) (Some (unit 1 (no_version (InSegment new_segment))))
    (cond (is_lone b) (Some (unit 1 (no_version (InSegment s)))) (sized_unit s b bytes (length_at bytes)))))) [
      | true ↦ some_sized (b ∷ bytes) 1 _ (omega arith) (omega arith)
      | false ↦ elim (b == reset_byte) as (λ t. Sizes (b ∷ bytes)
          (cond t (Some (unit 1 (no_version (InSegment new_segment))))
          (cond (is_lone b) (Some (unit 1 (no_version (InSegment s)))) (sized_unit s b bytes (length_at bytes))))) [
            | true ↦ some_sized (b ∷ bytes) 1 _ (omega arith) (omega arith)
            | false ↦ elim (is_lone b) as (λ t. Sizes (b ∷ bytes)
                (cond t (Some (unit 1 (no_version (InSegment s)))) (sized_unit s b bytes (length_at bytes)))) [
                  | true ↦ some_sized (b ∷ bytes) 1 _ (omega arith) (omega arith)
                  | false ↦ set_sized s b bytes (length_at bytes) refl
                ]
          ]
    ]

after_sized : (bytes : List ℕ) → Sizes bytes (unit_after_end bytes)
after_sized [] = none_sized []
after_sized (b ∷ bytes) = some_sized (b ∷ bytes) 1 _ (omega arith) (omega arith)

-- A whole unit has a byte at least, and no more than there are.
pub unit_sized : (stage : FileStateData) (bytes : List ℕ) → Sizes bytes (unit_at stage bytes)
unfolding unit_at
unit_sized InOpl bytes = line_sized bytes (split_first is_line_end bytes) (splits is_line_end bytes)
unit_sized BeforeHeader bytes = header_sized bytes
unit_sized (InSegment s) bytes = segment_sized s bytes
unit_sized PastEnd bytes = after_sized bytes

-- The units after a unit may be replaced by equal ones.
pub found_same : (offset : ℕ) (found : UnitResult) (more others : FileStateData → SourceRest Placed Verdict) →
    ((next : FileStateData) → more next ≡ others next) →
    found_then offset found more ≡ found_then offset found others
found_same offset (Err reason) more others same = refl
found_same offset (Ok (None, next)) more others same = same next
found_same offset (Ok (Some v, next)) more others same =
    ap (λ s. record { list = record { offset = offset; version = v } ∷ s.list; refusal = s.refusal }) (same next)

module _ (close : Option Verdict) where
  abbrev Same : ℕ → ℕ → Type 0
  Same n m = (stage : FileStateData) (offset : ℕ) (bytes : List ℕ) → length bytes ≤ n → length bytes ≤ m →
      units_within n close stage offset bytes ≡ units_within m close stage offset bytes

  -- a bound on the number of units that is enough
  then_same : (n m : ℕ) → Same n m → (stage : FileStateData) (offset : ℕ) (bytes : List ℕ) → length bytes ≤ suc n → length bytes ≤ suc m →
      (found : Option FileUnit) → unit_at stage bytes ≡ found
      → unit_then close stage offset bytes (units_within n close) found ≡ unit_then close stage offset bytes (units_within m close) found
  then_same n m on stage offset bytes few less None e = refl
  then_same n m on stage offset bytes few less (Some u) e =
      let sized = unit_sized stage bytes u e in
      let short : length (drop u.size bytes) ≤ n = omega (arith, length-drop u.size bytes, sized.some, sized.within, few) in
      let shorter : length (drop u.size bytes) ≤ m = omega (arith, length-drop u.size bytes, sized.some, sized.within, less) in
      found_same offset u.found _ _ (λ next. on next (offset + u.size) (drop u.size bytes) short shorter)

  nothing_there : (stage : FileStateData) (offset : ℕ) (m : ℕ) (found : Option FileUnit) → unit_at stage [] ≡ found →
      unit_then close stage offset [] (units_within m close) found ≡ final_units close offset (last_at stage [])
  nothing_there stage offset m None e = refl
  nothing_there stage offset m (Some u) e = let sized = unit_sized stage [] u e in absurd (omega (arith, sized.some, sized.within))

  within_same : (n m : ℕ) → Same n m
  within_same zero zero stage offset bytes few less = refl
  within_same zero (suc m) stage offset [] few less = sym (nothing_there stage offset m (unit_at stage []) refl)
  within_same zero (suc m) stage offset (b ∷ bytes) few less = absurd (omega (arith, few))
  within_same (suc n) zero stage offset [] few less = nothing_there stage offset n (unit_at stage []) refl
  within_same (suc n) zero stage offset (b ∷ bytes) few less = absurd (omega (arith, less))
  within_same (suc n) (suc m) stage offset bytes few less =
      then_same n m (within_same n m) stage offset bytes few less (unit_at stage bytes) refl

  -- the unit at the front, and those after it
  pub units_step : (stage : FileStateData) (offset : ℕ) (bytes : List ℕ) (u : FileUnit) → unit_at stage bytes ≡ Some u →
      units close stage offset bytes ≡ found_then offset u.found (λ next. units close next (offset + u.size) (drop u.size bytes))
  unfolding units
  units_step stage offset bytes u e =
      let sized = unit_sized stage bytes u e in
      let n : ℕ = length bytes in
      within_same n (suc n) stage offset bytes (omega arith) (omega arith)
      ∙ ap (unit_then close stage offset bytes (units_within n close)) e
      ∙ found_same offset u.found _ _ (λ next. within_same n (length (drop u.size bytes)) next (offset + u.size) (drop u.size bytes)
      (omega (arith, length-drop u.size bytes)) (omega arith))

  -- if no unit is whole
  pub units_stop : (stage : FileStateData) (offset : ℕ) (bytes : List ℕ) → unit_at stage bytes ≡ None →
      units close stage offset bytes ≡ final_units close offset (last_at stage bytes)
  unfolding units
  units_stop stage offset bytes e =
      let n : ℕ = length bytes in
      within_same n (suc n) stage offset bytes (omega arith) (omega arith)
      ∙ ap (unit_then close stage offset bytes (units_within n close)) e
