-- The first faulty unit of an input, in terms of the grammars.
use Rattle.std.proofs.Common.{◌≡◌, ◌⊎◌, inl, inr, ℕ, zero, suc, ◌+◌, ◌-◌, ◌≤◌, ◌==◌, nat_lt, nat_le, Bool, true, false, cond, List, []}
use Rattle.std.proofs.Common.{◌∷◌, ◌++◌, length, take, drop, take-append-drop, refl, sym, ap, ◌∙◌, subst, arith, Option, Some, None, Result}
use Rattle.std.proofs.Common.{Ok}
use Rattle.std.proofs.Common.{Err, option_map, length-drop, length-take, slice_get}
use Rattle.std.proofs.lemmas.Bool.{false≢true, eqb-true, leb-true, leb-false, ltb-true, ltb-false}
use Rattle.std.proofs.lemmas.Option.{none-some, same_Some}
use Rattle.osm_model.specs.declared.kind.Kind.{Kind}
use Rattle.osm_model.specs.Data.{VersionData}
use Rattle.osm_model.specs.VersionSet.{VersionSet}
use Rattle.opl_line.specs.declared.reason.OplReason.{OplReason}
use Rattle.opl_line.specs.Delimiter.{is_line_end, split_first}
use Rattle.opl_line.specs.Reading.{reading_line}
use Rattle.opl_line.proofs.LineReasonLaws.{reported_is_reason}
use Rattle.opl_line.proofs.SpellsLaws.{read_is_spelled, result_spelled}
use Rattle.o5_codec.specs.declared.reason.O5Reason.{O5Reason}
use Rattle.o5_codec.specs.declared.read.segment.Segment.{Segment}
use Rattle.o5_codec.specs.Decoder.{new_segment}
use Rattle.o5_codec.specs.Number.{SpellsNumber, number_at}
use Rattle.o5_codec.specs.Body.{set_at}
use Rattle.o5_codec.proofs.RefusalLaws.{number_refused, set_refused}
use Rattle.o5_codec.proofs.StepLaws.{set_found}
use Rattle.osm_files.specs.declared.reason.Reason.{Reason}
use Rattle.osm_files.specs.declared.reason.Reason.TheVariants.{BadHeader, Unsorted}
use Rattle.osm_files.specs.FirstFault.{IsSetType, Passes, passes_skipped, passes_line, passes_header, passes_end, passes_reset}
use Rattle.osm_files.specs.FirstFault.{passes_lone, passes_other, passes_object, Leads, none, more, IsFaulty, faulty_line, faulty_header}
use Rattle.osm_files.specs.FirstFault.{faulty_length, faulty_content, after_end, IsPart, part_of_line, part_of_header, no_bytes}
use Rattle.osm_files.specs.FirstFault.{part_of_length, part_of_content, past_end, CannotEnd, last_line, no_header, no_end, truncated}
use Rattle.osm_files.specs.FirstFault.{IsNext, whole_unit, line_without_end, HasFirstFault, IsGivenBy, SourcesGive}
use Rattle.osm_files.specs.Groups.{set_given, sorted_source}
use Rattle.osm_files.specs.Held.{HoldsSorted}
use Rattle.osm_files.specs.Input.{InputRest}
use Rattle.osm_files.specs.O5.{end_byte, reset_byte, type_byte, kind_of_type, is_lone}
use Rattle.osm_files.specs.Position.{closing_verdict, fault_of, units_from, window}
use Rattle.osm_files.specs.Reason.{of_data_set}
use Rattle.osm_files.specs.SourceLaws.{input_verdict, versions_before}
use Rattle.osm_files.specs.Stream.{Placed, SourceRest, Verdict, end_whole, new_placed, verdict_at}
use Rattle.osm_files.specs.Units.{FileStateData, InOpl, BeforeHeader, InSegment, PastEnd, UnitResult, FileUnit, unit, no_version, unit_at}
use Rattle.osm_files.specs.Units.{last_at, line_found, line_unit, header_unit, is_header, segment_unit, sized_unit, length_at, is_ended}
use Rattle.osm_files.specs.Units.{content_found, set_found as found_of, unit_after_end, found_then, final_units, unit_then, units_within}
use Rattle.osm_files.specs.Units.{units, start_of}
use Rattle.osm_files.specs.Verdict.{is_below, sorted_verdict}
use Rattle.osm_files.proofs.UnitLaws.{SplitsAs, splits, drop_after, unit_in_opl, last_in_opl}
use Rattle.osm_files.proofs.PartLaws.{byte_of, last_in_set, last_in_segment, last_after}
use Rattle.osm_files.proofs.SizeLaws.{LengthFound, length_found, content_sized}
use Rattle.osm_files.proofs.PartLaws.{unit_after}
use Rattle.osm_files.proofs.PartLaws.{unit_in_segment}
use Rattle.osm_files.proofs.FileLaws.{header_found, header_tested, last_before_header, unit_before_header, Rises, rises_sorted}
use Rattle.osm_files.proofs.StepLaws.{unit_sized}
use Rattle.osm_files.proofs.PositionLaws.{from_is}
use Rattle.osm_files.proofs.OffsetLaws.{input_follows}
use Rattle.osm_files.proofs.FaultyLaws.{failed_is_refused}
use Rattle.osm_files.proofs.HoldLaws.{source_refusal, source_gives_held, whole_source_is_held}
use Rattle.osm_files.proofs.RefusedLaws.{Meets, early, goes_on, stops, last_of, at_last, faulty_input_gives}

-- ---- what the unit at the front of some bytes means
abbrev FoundMeans : FileStateData → List ℕ → UnitResult → List ℕ → Type 0
FoundMeans stage bytes (Ok (found, next)) rest = Passes stage bytes found next rest
FoundMeans stage bytes (Err reason) rest = IsFaulty stage bytes reason

abbrev UnitMeans : FileStateData → List ℕ → Option FileUnit → Type 0
UnitMeans stage bytes None = IsPart stage bytes
UnitMeans stage bytes (Some u) = FoundMeans stage bytes u.found (drop u.size bytes)

line_means : (bytes line rest : List ℕ) → split_first is_line_end bytes ≡ (line, Some rest) →
    (r : Result (Option VersionData) OplReason) → reading_line line ≡ r → FoundMeans InOpl bytes (line_found r) rest
line_means bytes line rest cut (Ok None) e = passes_skipped bytes line rest cut (result_spelled line (Ok None) e)
line_means bytes line rest cut (Ok (Some v)) e = passes_line bytes line rest v cut (read_is_spelled line v e)
line_means bytes line rest cut (Err reason) e = faulty_line bytes line rest reason cut (reported_is_reason line reason e)

opl_means : (bytes : List ℕ) (s : List ℕ × Option (List ℕ)) → split_first is_line_end bytes ≡ s → SplitsAs bytes s →
    UnitMeans InOpl bytes (line_unit s)
opl_means bytes (line, None) is same = part_of_line bytes (is ∙ ap (λ (l : List ℕ). (l, None)) same)
opl_means bytes (line, Some after) is (b, whole) =
    let rest : drop (length line + 1) bytes ≡ after = ap (drop (length line + 1)) whole ∙ drop_after line b after in
    subst (FoundMeans InOpl bytes (line_found (reading_line line))) (sym rest) (line_means bytes line after is (reading_line line) refl)

header_means : (bytes : List ℕ) → UnitMeans BeforeHeader bytes (header_unit bytes)
header_means bytes =
    elim (nat_lt (length bytes) 7) as (λ t. nat_lt (length bytes) 7 ≡ t → UnitMeans BeforeHeader bytes
    (cond t None (Some (unit 7 (cond (is_header (take 7 bytes)) (no_version (InSegment new_segment)) (Err BadHeader)))))) [
      | true ↦ λ short. part_of_header bytes (ltb-true (length bytes) 7 short)
      | false ↦ λ long. elim (is_header (take 7 bytes)) as (λ t. is_header (take 7 bytes) ≡ t →
          FoundMeans BeforeHeader bytes (cond t (no_version (InSegment new_segment)) (Err BadHeader)) (drop 7 bytes)) [
            | true ↦ λ is. subst (λ (bs : List ℕ). Passes BeforeHeader bs None (InSegment new_segment) (drop 7 bytes))
                (take-append-drop 7 bytes) (passes_header (take 7 bytes) (drop 7 bytes) (header_found (take 7 bytes) is))
            | false ↦ λ is. (
                let seven : length (take 7 bytes) ≡ 7 =
                (let enough = ltb-false (length bytes) 7 long in omega (arith, length-take 7 bytes, enough)) in
                subst (λ (bs : List ℕ). IsFaulty BeforeHeader bs BadHeader) (take-append-drop 7 bytes)
                (faulty_header (take 7 bytes) (drop 7 bytes) seven
                (λ header. false≢true (sym is ∙ header_tested (take 7 bytes) header))))
          ] refl
    ] refl

module _ (s : Segment) (b : ℕ) (bytes : List ℕ) (set : IsSetType b) where
  object_means : (k : Kind) (size content rest : List ℕ) → b ≡ type_byte k → SpellsNumber size (length content)
      → bytes ≡ size ++ (content ++ rest) → (r : Result (VersionData × Segment) O5Reason) → set_at k s content ≡ r
      → FoundMeans (InSegment s) (b ∷ bytes) (found_of r) rest
  object_means k size content rest is spelled parted (Ok (v, next)) e =
      subst (λ (bs : List ℕ). Passes (InSegment s) bs (Some v) (InSegment next) rest) (λ i. sym is i ∷ sym parted i)
      (passes_object s next k size content rest v spelled (set_found k s content (v, next) e))
  object_means k size content rest is spelled parted (Err reason) e =
      subst (λ (bs : List ℕ). IsFaulty (InSegment s) bs (of_data_set reason)) (λ i. sym is i ∷ sym parted i)
      (faulty_content s k size content rest reason spelled ((set_refused k s content reason).0 e))

  content_means : (size content rest : List ℕ) → SpellsNumber size (length content) → bytes ≡ size ++ (content ++ rest)
      → (kind : Option Kind) → kind_of_type b ≡ kind → FoundMeans (InSegment s) (b ∷ bytes) (content_found s kind content) rest
  content_means size content rest spelled parted None e =
      subst (λ (bs : List ℕ). Passes (InSegment s) (b ∷ bs) None (InSegment s) rest) (sym parted)
      (passes_other s b size content rest (set.0, set.1, set.2, e) spelled)
  content_means size content rest spelled parted (Some k) e =
      object_means k size content rest (byte_of k b e) spelled parted (set_at k s content) refl

  not_ended : (ended : Bool) (number : Result (ℕ × List ℕ) O5Reason) → cond ended (Some number) None ≡ None → ended ≡ false
  not_ended true number e = absurd (none-some number (sym e))
  not_ended false number e = refl

  has_ended : (ended : Bool) (number x : Result (ℕ × List ℕ) O5Reason) → cond ended (Some number) None ≡ Some x
      → (ended ≡ true) × (number ≡ x)
  has_ended true number x e = (refl, same_Some number x e)
  has_ended false number x e = absurd (none-some x e)

  sized_means : (l : Option (Result (ℕ × List ℕ) O5Reason)) → length_at bytes ≡ l
      → UnitMeans (InSegment s) (b ∷ bytes) (sized_unit s b bytes l)
  sized_means None e = part_of_length s b bytes set (not_ended (is_ended bytes) (number_at bytes) e)
  sized_means (Some (Err reason)) e =
      let h = has_ended (is_ended bytes) (number_at bytes) (Err reason) e in
      let refused = (number_refused bytes reason).0 h.1 in
      subst (λ (r : O5Reason). IsFaulty (InSegment s) (b ∷ bytes) (of_data_set r)) (sym refused.0)
      (faulty_length s b bytes set h.0 refused.1)
  sized_means (Some (Ok (n, after))) e =
      let found : LengthFound b bytes n after = length_found b bytes n after e in
      elim (nat_le n (length after)) as (λ t. nat_le n (length after) ≡ t → UnitMeans (InSegment s) (b ∷ bytes)
      (cond t (Some (unit (1 + (length bytes - length after) + n) (content_found s (kind_of_type b) (take n after)))) None)) [
        | true ↦ λ is. (
            let sized = content_sized bytes n after b (leb-true n (length after) is) found in
            subst (FoundMeans (InSegment s) (b ∷ bytes) (content_found s (kind_of_type b) (take n after))) (sym found.rest)
            (content_means sized.size (take n after) (drop n after) sized.spelled sized.split (kind_of_type b) refl))
        | false ↦ λ is.
            subst (λ (bs : List ℕ). IsPart (InSegment s) (b ∷ bs)) (sym found.split)
            (part_of_content s b n found.size after set found.spelled (leb-false n (length after) is))
      ] refl

segment_means : (s : Segment) (bytes : List ℕ) → UnitMeans (InSegment s) bytes (segment_unit s bytes)
segment_means s [] = no_bytes s
segment_means s (b ∷ bytes) =
    let sized : Option FileUnit = sized_unit s b bytes (length_at bytes) in
    elim (b == end_byte) as (λ t. (b == end_byte) ≡ t → UnitMeans (InSegment s) (b ∷ bytes)
    (cond t (Some (unit 1 (no_version PastEnd))) (cond (b == reset_byte) (Some (unit 1 (no_version (InSegment new_segment))))
    (cond (is_lone b) (Some (unit 1 (no_version (InSegment s)))) sized)))) [
      | true ↦ λ is. subst (λ (x : ℕ). Passes (InSegment s) (x ∷ bytes) None PastEnd bytes) (sym (eqb-true b end_byte is))
          (passes_end s bytes)
      | false ↦ λ not_end. elim (b == reset_byte) as (λ t. (b == reset_byte) ≡ t → UnitMeans (InSegment s) (b ∷ bytes)
          (cond t (Some (unit 1 (no_version (InSegment new_segment)))) (cond (is_lone b) (Some (unit 1 (no_version
          (InSegment s)))) sized))) [
            | true ↦ λ is. subst (λ (x : ℕ). Passes (InSegment s) (x ∷ bytes) None (InSegment new_segment) bytes)
                (sym (eqb-true b reset_byte is)) (passes_reset s bytes)
            | false ↦ λ not_reset. elim (is_lone b) as (λ t. is_lone b ≡ t → UnitMeans (InSegment s) (b ∷ bytes)
                (cond t (Some (unit 1 (no_version (InSegment s)))) sized)) [
                  | true ↦ λ is. passes_lone s b bytes is
                  | false ↦ λ not_lone. sized_means s b bytes (not_end, not_reset, not_lone) (length_at bytes) refl
                ] refl
          ] refl
    ] refl

end_means : (bytes : List ℕ) → UnitMeans PastEnd bytes (unit_after_end bytes)
end_means [] = past_end
end_means (b ∷ bytes) = after_end b bytes

unit_means : (stage : FileStateData) (bytes : List ℕ) → UnitMeans stage bytes (unit_at stage bytes)
unit_means InOpl bytes = rw (unit_in_opl bytes) (opl_means bytes (split_first is_line_end bytes) refl (splits is_line_end bytes))
unit_means BeforeHeader bytes = rw (unit_before_header bytes) (header_means bytes)
unit_means (InSegment s) bytes = rw (unit_in_segment s bytes) (segment_means s bytes)
unit_means PastEnd bytes = rw (unit_after bytes) (end_means bytes)

-- ---- what the last bytes mean
abbrev LastMeans : FileStateData → List ℕ → UnitResult → Type 0
LastMeans stage bytes (Ok (None, next)) = Unit {0}
LastMeans stage bytes (Ok (Some v, next)) = IsNext None stage bytes v
LastMeans stage bytes (Err reason) = CannotEnd stage bytes reason

last_line_means : (bytes : List ℕ) → IsPart InOpl bytes → (r : Result (Option VersionData) OplReason) → reading_line bytes ≡ r →
    LastMeans InOpl bytes (line_found r)
last_line_means bytes part (Ok None) e = tt
last_line_means bytes part (Ok (Some v)) e = line_without_end bytes v part (read_is_spelled bytes v e)
last_line_means bytes part (Err reason) e = last_line bytes reason (reported_is_reason bytes reason e)

last_means : (stage : FileStateData) (bytes : List ℕ) → IsPart stage bytes → LastMeans stage bytes (last_at stage bytes)
last_means InOpl bytes part = rw (last_in_opl bytes) (last_line_means bytes part (reading_line bytes) refl)
last_means BeforeHeader bytes part = rw (last_before_header bytes) (no_header bytes)
last_means (InSegment s) [] part = rw (last_in_segment s) (no_end s)
last_means (InSegment s) (b ∷ bytes) part = rw (last_in_set s b bytes) (truncated s b bytes)
last_means PastEnd bytes part = rw (last_after bytes) tt

no_unit : (stage : FileStateData) → IsPart stage []
no_unit InOpl = part_of_line [] refl
no_unit BeforeHeader = part_of_header [] (omega arith)
no_unit (InSegment s) = no_bytes s
no_unit PastEnd = past_end

-- ---- the first fault
-- the last of some versions, or the one before them if there are none
abbrev latest : Option VersionData → List VersionData → Option VersionData
latest before [] = before
latest before (v ∷ versions) = latest (Some v) versions

latest_of : (v : VersionData) (versions : List VersionData) → latest (Some v) versions ≡ Some (last_of v versions)
latest_of v [] = refl
latest_of v (w ∷ versions) = latest_of w versions

latest_is : (versions : List VersionData) → latest None versions ≡ slice_get versions (length versions - 1)
latest_is [] = refl
latest_is (v ∷ versions) = latest_of v versions ∙ sym (at_last v versions (length (v ∷ versions) - 1) (omega arith))

module _ (close : Option Verdict) (v : Verdict) where
  -- why the reading stops, after these versions and one before them
  abbrev Stops : Option VersionData → List VersionData → FileStateData → List ℕ → ℕ → Type 0
  Stops before versions stage rest offset =
      (IsFaulty stage rest v.reason × (v.place ≡ offset))
      ⊎ ((w : VersionData) × IsNext close stage rest w × (is_below w (latest before versions) ≡ true) × (v ≡ verdict_at offset Unsorted))
      ⊎ (IsPart stage rest × (((close ≡ None) × CannotEnd stage rest v.reason × (v.place ≡ offset)) ⊎ (close ≡ Some v)))

  -- the fault was found after these units from an offset on
  record Found (before : Option VersionData) (stage : FileStateData) (offset : ℕ) (bytes : List ℕ) (us : List Placed) : Type 0 where
    versions : List VersionData
    last : FileStateData
    rest : List ℕ
    leads : Leads stage bytes versions last rest
    rises : Rises before versions
    at : ℕ
    after : at + length rest ≡ offset + length bytes
    stops : Stops before versions last rest at
    until : early v us ≡ versions

  -- the fault is at the front
  at_front : (before : Option VersionData) (stage : FileStateData) (offset : ℕ) (bytes : List ℕ) (us : List Placed)
      → Stops before [] stage bytes offset → early v us ≡ [] → Found before stage offset bytes us
  at_front before stage offset bytes us why until = record {
    versions = [];
    last = stage;
    rest = bytes;
    leads = none stage bytes;
    rises = tt;
    at = offset;
    after = refl;
    stops = why;
    until = until;
  }

  unsorted_here : (before : Option VersionData) (stage : FileStateData) (offset : ℕ) (bytes : List ℕ) (w : VersionData) (us : List Placed)
      (refusal : Option Verdict) (from : ℕ) → IsNext close stage bytes w → (m : Meets v refusal before from (new_placed offset w ∷ us))
      → is_below w before ≡ true → Found before stage offset bytes (new_placed offset w ∷ us)
  unsorted_here before stage offset bytes w us refusal from next m below =
      let found : Some (verdict_at offset Unsorted) ≡ Some v =
      sym (ap (λ t. cond t (Some (verdict_at offset Unsorted)) (sorted_verdict refusal (Some w) us)) below) ∙ m.1 in
      at_front before stage offset bytes (new_placed offset w ∷ us)
      (inr (inl (w, next, below, sym (same_Some (verdict_at offset Unsorted) v found))))
      (stops v refusal before from (new_placed offset w) us m below)

  refused_here : (before : Option VersionData) (stage : FileStateData) (offset : ℕ) (bytes : List ℕ) (reason : Reason)
      → Some (verdict_at offset reason) ≡ Some v → IsFaulty stage bytes reason → Found before stage offset bytes []
  refused_here before stage offset bytes reason is faulty =
      let same : verdict_at offset reason ≡ v = same_Some (verdict_at offset reason) v is in
      at_front before stage offset bytes []
      (inl (subst (IsFaulty stage bytes) (ap (λ x. x.reason) same) faulty, ap (λ x. x.place) (sym same))) refl

  abbrev Finds : Option VersionData → FileStateData → ℕ → List ℕ → SourceRest Placed Verdict → Type 0
  Finds before stage offset bytes us = (from : ℕ) → Meets v us.refusal before from us.list → Found before stage offset bytes us.list

  last_finds : (before : Option VersionData) (stage : FileStateData) (offset : ℕ) (bytes : List ℕ) → IsPart stage bytes → close ≡ None
      → (last : UnitResult) → LastMeans stage bytes last → Finds before stage offset bytes (found_then offset last (λ next. end_whole))
  last_finds before stage offset bytes part is_open (Err reason) means from m =
      let same : verdict_at offset reason ≡ v = same_Some (verdict_at offset reason) v m.1 in
      at_front before stage offset bytes []
      (inr (inr (part, inl (is_open, subst (CannotEnd stage bytes) (ap (λ x. x.reason) same) means, ap (λ x. x.place) (sym same))))) refl
  last_finds before stage offset bytes part is_open (Ok (None, next)) means from m = absurd (none-some v m.1)
  last_finds before stage offset bytes part is_open (Ok (Some w, next)) means from m =
      elim (is_below w before) as (λ t. is_below w before ≡ t → Found before stage offset bytes (new_placed offset w ∷ [])) [
        | true ↦ λ below. unsorted_here before stage offset bytes w [] None from
            (subst (λ (c : Option Verdict). IsNext c stage bytes w) (sym is_open) means) m below
        | false ↦ λ above. absurd (none-some v
            (sym (ap (λ t. cond t (Some (verdict_at offset Unsorted)) None) above) ∙ m.1))
      ] refl

  final_finds : (before : Option VersionData) (stage : FileStateData) (offset : ℕ) (bytes : List ℕ) → IsPart stage bytes
      → (end : Option Verdict) → close ≡ end → Finds before stage offset bytes (final_units end offset (last_at stage bytes))
  final_finds before stage offset bytes part None e from m =
      last_finds before stage offset bytes part e (last_at stage bytes) (last_means stage bytes part) from m
  final_finds before stage offset bytes part (Some w) e from m =
      at_front before stage offset bytes [] (inr (inr (part, inr (e ∙ m.1)))) refl

  -- a unit, and the fault after it
  after_unit : (before : Option VersionData) (stage next : FileStateData) (offset size : ℕ) (bytes : List ℕ) (us : List Placed)
      → size ≤ length bytes → Passes stage bytes None next (drop size bytes) → Found before next (offset + size) (drop size bytes) us
      → Found before stage offset bytes us
  after_unit before stage next offset size bytes us within passes found = record {
    versions = found.versions;
    last = found.last;
    rest = found.rest;
    leads = more stage next found.last bytes (drop size bytes) found.rest None found.versions passes found.leads;
    rises = found.rises;
    at = found.at;
    after = (let after = found.after in omega (arith, after, length-drop size bytes, within));
    stops = found.stops;
    until = found.until;
  }

  after_version : (before : Option VersionData) (stage next : FileStateData) (offset size : ℕ) (bytes : List ℕ) (w : VersionData)
      (us : List Placed) → size ≤ length bytes → Passes stage bytes (Some w) next (drop size bytes) → is_below w before ≡ false
      → early v (new_placed offset w ∷ us) ≡ w ∷ early v us → Found (Some w) next (offset + size) (drop size bytes) us
      → Found before stage offset bytes (new_placed offset w ∷ us)
  after_version before stage next offset size bytes w us within passes above met found = record {
    versions = w ∷ found.versions;
    last = found.last;
    rest = found.rest;
    leads = more stage next found.last bytes (drop size bytes) found.rest (Some w) found.versions passes found.leads;
    rises = (above, found.rises);
    at = found.at;
    after = (let after = found.after in omega (arith, after, length-drop size bytes, within));
    stops = found.stops;
    until = met ∙ ap (λ vs. w ∷ vs) found.until;
  }

  abbrev FindsWithin : ℕ → Type 0
  FindsWithin n = (before : Option VersionData) (stage : FileStateData) (offset : ℕ) (bytes : List ℕ) → length bytes ≤ n
      → Finds before stage offset bytes (units_within n close stage offset bytes)

  unit_finds : (n : ℕ) → FindsWithin n → (before : Option VersionData) (stage : FileStateData) (offset size : ℕ) (bytes : List ℕ)
      → 1 ≤ size → size ≤ length bytes → length bytes ≤ suc n → (found : UnitResult) → FoundMeans stage bytes found (drop size bytes)
      → Finds before stage offset bytes
      (found_then offset found (λ next. units_within n close next (offset + size) (drop size bytes)))
  unit_finds n on before stage offset size bytes some within fits (Err reason) means from m =
      refused_here before stage offset bytes reason m.1 means
  unit_finds n on before stage offset size bytes some within fits (Ok (None, next)) means from m =
      let fewer : length (drop size bytes) ≤ n = omega (arith, length-drop size bytes, some, within, fits) in
      after_unit before stage next offset size bytes (units_within n close next (offset + size) (drop size bytes)).list within means
      (on before next (offset + size) (drop size bytes) fewer from m)
  unit_finds n on before stage offset size bytes some within fits (Ok (Some w, next)) means from m =
      let fewer : length (drop size bytes) ≤ n = omega (arith, length-drop size bytes, some, within, fits) in
      let us : SourceRest Placed Verdict = units_within n close next (offset + size) (drop size bytes) in
      elim (is_below w before) as (λ t. is_below w before ≡ t → Found before stage offset bytes (new_placed offset w ∷ us.list)) [
        | true ↦ λ below. unsorted_here before stage offset bytes w us.list us.refusal from
            (whole_unit close stage next bytes (drop size bytes) w means) m below
        | false ↦ λ above. (
            let met = goes_on v us.refusal before from (new_placed offset w) us.list m above in
            after_version before stage next offset size bytes w us.list within means above met.0
            (on (Some w) next (offset + size) (drop size bytes) fewer (offset + 1) met.1))
      ] refl

  then_finds : (n : ℕ) → FindsWithin n → (before : Option VersionData) (stage : FileStateData) (offset : ℕ) (bytes : List ℕ)
      → length bytes ≤ suc n → (u : Option FileUnit) → unit_at stage bytes ≡ u → UnitMeans stage bytes u
      → Finds before stage offset bytes (unit_then close stage offset bytes (units_within n close) u)
  then_finds n on before stage offset bytes fits None e means = final_finds before stage offset bytes means close refl
  then_finds n on before stage offset bytes fits (Some u) e means =
      let sized = unit_sized stage bytes u e in
      unit_finds n on before stage offset u.size bytes sized.some sized.within fits u.found means

  within_finds : (n : ℕ) → FindsWithin n
  within_finds zero before stage offset [] fits = final_finds before stage offset [] (no_unit stage) close refl
  within_finds zero before stage offset (b ∷ bytes) fits = absurd (omega (arith, fits))
  within_finds (suc n) before stage offset bytes fits =
      then_finds n (within_finds n) before stage offset bytes fits (unit_at stage bytes) refl (unit_means stage bytes)

  units_find : (stage : FileStateData) (bytes : List ℕ) → Finds None stage 0 bytes (units close stage 0 bytes)
  unfolding units
  units_find stage bytes = within_finds (length bytes) None stage 0 bytes (omega arith)

-- The verdict on order of an input is its first fault, after the versions whose units begin before it.
pub first_fault : (c : InputRest) (v : Verdict) → input_verdict c ≡ Some v → HasFirstFault c (versions_before v.place c) v
first_fault c v is =
    let us : SourceRest Placed Verdict = units_from None 0 c in
    let found : Found (closing_verdict 0 c) v None (start_of c.bytes) 0 (window 0 c) us.list =
    subst (Finds (closing_verdict 0 c) v None (start_of c.bytes) 0 (window 0 c)) (sym (from_is None 0 c))
    (units_find (closing_verdict 0 c) v (start_of c.bytes) (window 0 c)) 0 (input_follows c, is) in
    let same : found.versions ≡ versions_before v.place c = sym found.until in
    subst (λ (versions : List VersionData). HasFirstFault c versions v) same (record {
      stage = found.last;
      rest = found.rest;
      leads = found.leads;
      sorted = rises_sorted found.versions found.rises;
      offset = found.at;
      after = found.after ∙ (let same : 0 + length (window 0 c) ≡ length (window 0 c) = omega arith in same);
      stops = subst (λ (o : Option VersionData).
          (IsFaulty found.last found.rest v.reason × (v.place ≡ found.at))
          ⊎ ((w : VersionData) × IsNext (closing_verdict 0 c) found.last found.rest w × (is_below w o ≡ true)
          × (v ≡ verdict_at found.at Unsorted))
          ⊎ (IsPart found.last found.rest × (((closing_verdict 0 c ≡ None) × CannotEnd found.last found.rest v.reason
          × (v.place ≡ found.at)) ⊎ (closing_verdict 0 c ≡ Some v))))
          (latest_is found.versions) found.stops;
    })

-- An input without a verdict is a sorted file, whose source gives its whole set.
whole_given : (input : ℕ) (bytes : List ℕ) (failure : Option Reason) →
    (let c : InputRest = record { bytes = bytes; failure = failure } in (sorted_source input c).refusal ≡ None →
    (failure ≡ None) × ((held : VersionSet) × HoldsSorted bytes held × (sorted_source input c ≡ set_given held)))
whole_given input bytes (Some reason) whole = absurd (failed_is_refused reason input bytes whole)
whole_given input bytes None whole =
    let held = whole_source_is_held input bytes whole in
    (refl, (_, held, source_gives_held input bytes _ held))

pub sources_give : SourcesGive
sources_give input c =
    elim (input_verdict c) as (λ v. input_verdict c ≡ v → IsGivenBy input c (sorted_source input c)) [
      | None ↦ λ clean. inl (whole_given input c.bytes c.failure (source_refusal input c ∙ ap (option_map (fault_of input)) clean))
      | Some v ↦ λ is. inr (versions_before v.place c, v, first_fault c v is, faulty_input_gives input c v is)
    ] refl
