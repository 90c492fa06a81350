-- The lines before the first version that is out of order are a sorted file.
use Rattle.std.proofs.Common.{◌≡◌, ℕ, zero, suc, ◌+◌, ◌-◌, ◌≤◌, ◌<◌, ◌^◌, Bool, true, false, cond, List, [], ◌∷◌, ◌++◌, length, drop, take}
use Rattle.std.proofs.Common.{refl, sym, ap, ◌∙◌, subst, arith, Option, Some, None, option_map, IfSome, Result, Ok, Err, length-append}
use Rattle.std.proofs.Common.{append_assoc, append-nil, take-append-drop, length-take, nat_lt}
use Rattle.std.proofs.Math.Seq.{drop-append_seam}
use Rattle.std.proofs.lemmas.Bool.{false≢true, ltb-true}
use Rattle.osm_model.specs.Data.{VersionData}
use Rattle.osm_model.specs.VersionSet.{VersionSet}
use Rattle.opl_line.specs.Delimiter.{is_line_end, with_byte, split_first}
use Rattle.opl_line.specs.Reading.{reading_line}
use Rattle.opl_line.specs.declared.reason.OplReason.{OplReason}
use Rattle.osm_files.specs.declared.reason.Reason.TheVariants.{Unsorted}
use Rattle.osm_files.specs.FileRuns.{IsFirstUnsorted}
use Rattle.osm_files.specs.Held.{HoldsSorted}
use Rattle.osm_files.specs.LoadLaws.{is_verdict_reason}
use Rattle.osm_files.specs.Position.{fault_of}
use Rattle.osm_files.specs.Reason.{of_line}
use Rattle.osm_files.specs.Stream.{Verdict, verdict_at, Placed, SourceRest, end_whole, front}
use Rattle.osm_files.specs.Units.{InOpl, UnitResult, FileUnit, unit, line_found, line_unit, unit_at, last_at, found_then, final_units}
use Rattle.osm_files.specs.Units.{units, start_of}
use Rattle.osm_files.specs.Verdict.{length_limit, too_long_verdict, file_units, is_below, sorted_verdict, verdict_sorted}
use Rattle.osm_files.proofs.FileLaws.{short_units}
use Rattle.osm_files.proofs.HoldLaws.{whole_refusal, whole_source_is_held}
use Rattle.osm_files.proofs.LoadFaults.{FineFound, FineUnit, unit_fine, last_fine}
use Rattle.osm_files.proofs.PositionLaws.{none_in_nothing}
use Rattle.osm_files.proofs.StepLaws.{unit_sized, units_step, units_stop}
use Rattle.osm_files.proofs.UnitLaws.{unit_in_opl}

-- ---- a line at the front
-- the first piece of a text is split off with its end, whatever comes after them
abbrev SplitsOff : (ℕ → Bool) → List ℕ → List ℕ × Option (List ℕ) → Type 0
SplitsOff p bytes (line, None) = Unit {0}
SplitsOff p bytes (line, Some after) = (b : ℕ) × (bytes ≡ line ++ b ∷ after)
    × ((more : List ℕ) → split_first p (line ++ b ∷ more) ≡ (line, Some more))

module _ (p : ℕ → Bool) where
  longer : (a : ℕ) (bytes : List ℕ) → p a ≡ false → (s : List ℕ × Option (List ℕ)) → SplitsOff p bytes s
      → SplitsOff p (a ∷ bytes) (with_byte a s)
  longer a bytes inside (line, None) h = tt
  longer a bytes inside (line, Some after) h = (
    h.0,
    ap (λ l. a ∷ l) h.1,
    λ more. ap (λ t. cond t ([], Some (line ++ h.0 ∷ more)) (with_byte a (split_first p (line ++ h.0 ∷ more)))) inside
        ∙ ap (with_byte a) (h.2 more),
  )

  splits_off : (bytes : List ℕ) → SplitsOff p bytes (split_first p bytes)
  splits_off [] = tt
  splits_off (a ∷ bytes) =
      elim (p a) as (λ t. p a ≡ t → SplitsOff p (a ∷ bytes) (cond t ([], Some bytes) (with_byte a (split_first p bytes)))) [
        | true ↦ λ is. (a, refl, λ more. ap (λ t. cond t ([], Some more) (with_byte a (split_first p more))) is)
        | false ↦ λ inside. longer a bytes inside (split_first p bytes) (splits_off bytes)
      ] refl

-- the unit at the front is a line with its end, and the same whatever comes after it
record LineAt (bytes : List ℕ) (u : FileUnit) : Type 0 where
  line : List ℕ
  rest : List ℕ
  whole : bytes ≡ line ++ rest
  size : u.size ≡ length line
  again : (more : List ℕ) → unit_at InOpl (line ++ more) ≡ Some u
  read : Result (Option VersionData) OplReason
  found : u.found ≡ line_found read

line_of : (bytes : List ℕ) (u : FileUnit) (s : List ℕ × Option (List ℕ)) → SplitsOff is_line_end bytes s → line_unit s ≡ Some u
    → LineAt bytes u
line_of bytes u (line, None) h e = absurd (let f : None ≡ Some u = e in cc)
line_of bytes u (line, Some after) h e =
    let is : unit (length line + 1) (line_found (reading_line line)) ≡ u = cc in
    record {
      line = line ++ h.0 ∷ [];
      rest = after;
      whole = h.1 ∙ sym (append_assoc line (h.0 ∷ []) after);
      size = omega (arith, ap (λ w. w.size) is, length-append line (h.0 ∷ []));
      again = λ more. ap (unit_at InOpl) (append_assoc line (h.0 ∷ []) more) ∙ unit_in_opl (line ++ h.0 ∷ more)
          ∙ ap line_unit (h.2 more) ∙ e;
      read = reading_line line;
      found = ap (λ w. w.found) (sym is);
    }

line_at : (bytes : List ℕ) (u : FileUnit) → unit_at InOpl bytes ≡ Some u → LineAt bytes u
line_at bytes u e = line_of bytes u (split_first is_line_end bytes) (splits_off is_line_end bytes) (sym (unit_in_opl bytes) ∙ e)

-- ---- lines before a version that is out of order
last_of_nothing : last_at InOpl [] ≡ Ok (None, InOpl)
unfolding last_at
last_of_nothing = refl

-- no bytes are no lines
no_lines : (offset : ℕ) → units None InOpl offset [] ≡ end_whole
no_lines offset = units_stop None InOpl offset [] (none_in_nothing InOpl)
    ∙ ap (λ f. found_then offset f (λ next. end_whole)) last_of_nothing

abbrev order_of : Option VersionData → SourceRest Placed Verdict → Option Verdict
order_of before us = sorted_verdict us.refusal before us.list

-- the bytes begin with lines up to the offset `end`, and the keys of their versions don't fall
record LinesBefore (end : ℕ) (before : Option VersionData) (offset : ℕ) (bytes : List ℕ) : Type 0 where
  front : List ℕ
  rest : List ℕ
  whole : bytes ≡ front ++ rest
  far : end ≡ offset + length front
  rises : order_of before (units None InOpl offset front) ≡ None

same_offset : (offset end : ℕ) → Some (verdict_at offset Unsorted) ≡ Some (verdict_at end Unsorted) → end ≡ offset
same_offset offset end e = let f : verdict_at offset Unsorted ≡ verdict_at end Unsorted = cc in ap (λ v. v.place) (sym f)

-- a fault of a unit isn't Unsorted
abbrev IsOther : Option Verdict → Type 0
IsOther close = IfSome close (λ v. v.reason ≡ Unsorted → ⊥)

fine_is_other : (found : UnitResult) (reason : _) → FineFound found → found ≡ Err reason → reason ≡ Unsorted → ⊥
fine_is_other found reason fine is e =
    let h : FineFound (Err reason) = subst FineFound is fine in
    false≢true (ap is_verdict_reason (sym e) ∙ h)

module _ (close : Option Verdict) (other : IsOther close) (end : ℕ) where
  abbrev Falls : Option VersionData → SourceRest Placed Verdict → Type 0
  Falls before us = order_of before us ≡ Some (verdict_at end Unsorted)

  here : (before : Option VersionData) (offset : ℕ) (bytes : List ℕ) → end ≡ offset → LinesBefore end before offset bytes
  here before offset bytes is = record {
    front = [];
    rest = bytes;
    whole = refl;
    far = omega (arith, is);
    rises = ap (order_of before) (no_lines offset);
  }

  last_falls : (before : Option VersionData) (offset : ℕ) (bytes : List ℕ) (found : UnitResult) → FineFound found
      → Falls before (found_then offset found (λ next. end_whole)) → LinesBefore end before offset bytes
  last_falls before offset bytes (Err reason) fine e =
      let same : verdict_at offset reason ≡ verdict_at end Unsorted = cc in
      absurd (fine_is_other (Err reason) reason fine refl (ap (λ v. v.reason) same))
  last_falls before offset bytes (Ok (None, next)) fine e = absurd (let f : None ≡ Some (verdict_at end Unsorted) = e in cc)
  last_falls before offset bytes (Ok (Some v, next)) fine e =
      elim (is_below v before) as (λ t. cond t (Some (verdict_at offset Unsorted)) None ≡ Some (verdict_at end Unsorted)
      → LinesBefore end before offset bytes) [
        | true ↦ λ f. here before offset bytes (same_offset offset end f)
        | false ↦ λ f. absurd (let g : None ≡ Some (verdict_at end Unsorted) = f in cc)
      ] e

  stops : (before : Option VersionData) (offset : ℕ) (bytes : List ℕ) (c : Option Verdict) → IsOther c
      → Falls before (final_units c offset (last_at InOpl bytes)) → LinesBefore end before offset bytes
  stops before offset bytes None h e = last_falls before offset bytes (last_at InOpl bytes) (last_fine InOpl bytes) e
  stops before offset bytes (Some v) h e =
      let same : v ≡ verdict_at end Unsorted = cc in
      absurd (h (ap (λ w. w.reason) same))

  module _ (before : Option VersionData) (offset : ℕ) (bytes : List ℕ) (u : FileUnit) (at : LineAt bytes u) where
    abbrev Later : Option VersionData → Type 0
    Later b = LinesBefore end b (offset + u.size) at.rest

    more_lines : (more : List ℕ) → units None InOpl offset (at.line ++ more)
        ≡ found_then offset (line_found at.read) (λ next. units None next (offset + u.size) more)
    more_lines more =
        units_step None InOpl offset (at.line ++ more) u (at.again more)
        ∙ (λ i. found_then offset (at.found i) (λ next. units None next (offset + u.size) (drop (at.size i) (at.line ++ more))))
        ∙ ap (λ xs. found_then offset (line_found at.read) (λ next. units None next (offset + u.size) xs)) (drop-append_seam at.line more)

    on_from : (b : Option VersionData) (later : Later b) → order_of before (units None InOpl offset (at.line ++ later.front)) ≡ None
        → LinesBefore end before offset bytes
    on_from b later rises = record {
      front = at.line ++ later.front;
      rest = later.rest;
      whole = at.whole ∙ ap (λ xs. at.line ++ xs) later.whole ∙ sym (append_assoc at.line later.front later.rest);
      far = omega (arith, later.far, at.size, length-append at.line later.front);
      rises = rises;
    }

    passes : (read : Result (Option VersionData) OplReason) → at.read ≡ read → FineFound (line_found read)
        → ((b : Option VersionData) → Falls b (units close InOpl (offset + u.size) at.rest) → Later b)
        → Falls before (found_then offset (line_found read) (λ next. units close next (offset + u.size) at.rest))
        → LinesBefore end before offset bytes
    passes (Err reason) is fine on e =
        let same : verdict_at offset (of_line reason) ≡ verdict_at end Unsorted = cc in
        absurd (fine_is_other (Err (of_line reason)) (of_line reason) fine refl (ap (λ v. v.reason) same))
    passes (Ok None) is fine on e =
        let later = on before e in
        on_from before later
        (ap (order_of before) (more_lines later.front
        ∙ ap (λ r. found_then offset (line_found r) (λ next. units None next (offset + u.size) later.front)) is) ∙ later.rises)
    passes (Ok (Some v)) is fine on e =
        elim (is_below v before) as (λ t. is_below v before ≡ t
        → cond t (Some (verdict_at offset Unsorted)) (order_of (Some v) (units close InOpl (offset + u.size) at.rest))
        ≡ Some (verdict_at end Unsorted) → LinesBefore end before offset bytes) [
          | true ↦ λ below f. here before offset bytes (same_offset offset end f)
          | false ↦ λ not_below f.
              let later = on (Some v) f in
              on_from (Some v) later
              (ap (order_of before) (more_lines later.front
              ∙ ap (λ r. found_then offset (line_found r) (λ next. units None next (offset + u.size) later.front)) is)
              ∙ ap (λ t. cond t (Some (verdict_at offset Unsorted)) (order_of (Some v) (units None InOpl (offset + u.size) later.front)))
              not_below
              ∙ later.rises)
        ] refl e

  abbrev Lines : ℕ → Type 0
  Lines n = (before : Option VersionData) (offset : ℕ) (bytes : List ℕ) → length bytes ≤ n → Falls before (units close InOpl offset bytes)
      → LinesBefore end before offset bytes

  by_unit : (before : Option VersionData) (offset : ℕ) (bytes : List ℕ) (found : Option FileUnit) → unit_at InOpl bytes ≡ found
      → ((u : FileUnit) (at : LineAt bytes u) (b : Option VersionData) → length at.rest < length bytes
      → Falls b (units close InOpl (offset + u.size) at.rest) → LinesBefore end b (offset + u.size) at.rest)
      → Falls before (units close InOpl offset bytes) → LinesBefore end before offset bytes
  by_unit before offset bytes None e on falls =
      stops before offset bytes close other (ap (order_of before) (sym (units_stop close InOpl offset bytes e)) ∙ falls)
  by_unit before offset bytes (Some u) e on falls =
      let at = line_at bytes u e in
      let sized = unit_sized InOpl bytes u e in
      let less : length at.rest < length bytes = omega (arith, sized.some, at.size, ap length at.whole, length-append at.line at.rest) in
      let fine : FineFound (line_found at.read) =
      subst FineFound at.found (subst FineUnit e (unit_fine InOpl bytes)) in
      let step : units close InOpl offset bytes
      ≡ found_then offset (line_found at.read) (λ next. units close next (offset + u.size) at.rest) =
      units_step close InOpl offset bytes u e
      ∙ (λ i. found_then offset (at.found i) (λ next. units close next (offset + u.size) (drop (at.size i) (at.whole i))))
      ∙ ap (λ xs. found_then offset (line_found at.read) (λ next. units close next (offset + u.size) xs)) (drop-append_seam at.line at.rest)
      in
      passes before offset bytes u at at.read refl fine (λ b. on u at b less) (ap (order_of before) (sym step) ∙ falls)

  lines : (n : ℕ) → Lines n
  lines zero before offset bytes few falls =
      by_unit before offset bytes (unit_at InOpl bytes) refl (λ u at b less f. absurd (omega (arith, less, few))) falls
  lines (suc n) before offset bytes few falls =
      by_unit before offset bytes (unit_at InOpl bytes) refl
      (λ u at b less f. lines n b (offset + u.size) at.rest (omega (arith, less, few)) f) falls

-- ---- the front of a file
-- the bytes before this offset are a sorted file
pub record SortedFront (bytes : List ℕ) (offset : ℕ) : Type 0 where
  pub front : List ℕ
  pub rest : List ℕ
  pub whole : bytes ≡ front ++ rest
  pub size : length front ≡ offset
  pub held : VersionSet
  pub sorted : HoldsSorted front held

front_starts : (front rest : List ℕ) → start_of (front ++ rest) ≡ InOpl → start_of front ≡ InOpl
front_starts [] rest e = refl
front_starts (b ∷ front) rest e = e

-- bytes whose order has no verdict are a sorted file
is_sorted_file : (bytes : List ℕ) → verdict_sorted bytes ≡ None → (held : VersionSet) × HoldsSorted bytes held
is_sorted_file bytes none = (_, whole_source_is_held 0 bytes (whole_refusal 0 bytes ∙ ap (option_map (fault_of 0)) none))

by_lines : (bytes window others : List ℕ) (offset : ℕ) (close : Option Verdict) → bytes ≡ window ++ others → length window < 2 ^ 62
    → IsOther close → start_of bytes ≡ InOpl → order_of None (units close InOpl 0 window) ≡ Some (verdict_at offset Unsorted)
    → SortedFront bytes offset
by_lines bytes window others offset close is short other starts falls =
    let h = lines close other offset (length window) None 0 window (omega arith) falls in
    let whole : bytes ≡ h.front ++ (h.rest ++ others) =
    is ∙ ap (λ xs. xs ++ others) h.whole ∙ append_assoc h.front h.rest others in
    let few : length h.front < 2 ^ 62 = omega (arith, short, ap length h.whole, length-append h.front h.rest) in
    let opl : start_of h.front ≡ InOpl = front_starts h.front (h.rest ++ others) (ap start_of (sym whole) ∙ starts) in
    let none : verdict_sorted h.front ≡ None =
    ap (order_of None) (short_units h.front few ∙ ap (λ s. units None s 0 h.front) opl) ∙ h.rises in
    let file = is_sorted_file h.front none in
    record {
      front = h.front;
      rest = h.rest ++ others;
      whole = whole;
      size = omega (arith, h.far);
      held = file.0;
      sorted = file.1;
    }

-- The bytes of an OPL file before its first version that is out of order are a sorted file.
pub front_sorted : (bytes : List ℕ) (offset : ℕ) → start_of bytes ≡ InOpl → IsFirstUnsorted bytes offset → SortedFront bytes offset
unfolding file_units length_limit
front_sorted bytes offset starts =
    let window : List ℕ = take (2 ^ 62 - 1) bytes in
    elim (nat_lt (length bytes) (2 ^ 62)) as (λ t. nat_lt (length bytes) (2 ^ 62) ≡ t
    → order_of None (cond t (units None (start_of bytes) 0 bytes) (units (Some too_long_verdict) (start_of bytes) 0 window))
    ≡ Some (verdict_at offset Unsorted) → SortedFront bytes offset) [
      | true ↦ λ short falls. by_lines bytes bytes [] offset None (sym (append-nil bytes)) (ltb-true (length bytes) (2 ^ 62) short)
          tt starts
          (ap (λ s. order_of None (units None s 0 bytes)) (sym starts) ∙ falls)
      | false ↦ λ long falls. by_lines bytes window (drop (2 ^ 62 - 1) bytes) offset (Some too_long_verdict)
          (sym (take-append-drop (2 ^ 62 - 1) bytes)) (omega (arith, length-take (2 ^ 62 - 1) bytes)) (λ e. cc) starts
          (ap (λ s. order_of None (units (Some too_long_verdict) s 0 window)) (sym starts) ∙ falls)
    ] refl
