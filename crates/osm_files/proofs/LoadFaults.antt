-- The refusals of inputs: by the first whole faulty unit, or else by the close of their bytes.
use Rattle.std.proofs.Common.{◌≡◌, ◌⊎◌, inl, inr, ⊎_elim, ℕ, zero, suc, ◌+◌, ◌-◌, ◌≤◌, ◌<◌, ◌==◌, ◌^◌, Bool, true, false, cond, List, []}
use Rattle.std.proofs.Common.{◌∷◌, ◌++◌, length, drop, take, refl, sym, ap, ◌∙◌, arith, Option, Some, None, option_map, IfSome, IfErr}
use Rattle.std.proofs.Common.{Result, Ok, Err, length-append, length-drop, nat_lt, nat_le}
use Rattle.std.proofs.lemmas.Bool.{false≢true, ltb-true, ltb-false, lt-ltb}
use Rattle.std.proofs.lemmas.List.{drop-append-le}
use Rattle.std.proofs.lemmas.Option.{MatchOption-at_some}
use Rattle.osm_model.specs.declared.kind.Kind.{Kind}
use Rattle.osm_model.specs.declared.kind.Kind.TheVariants as kind
use Rattle.osm_model.specs.Data.{VersionData}
use Rattle.o5_codec.specs.Results.{and_then}
use Rattle.o5_codec.specs.Body.{set_at}
use Rattle.o5_codec.specs.Number.{number_at, signed_at}
use Rattle.o5_codec.specs.Reason.{is_step_reason}
use Rattle.o5_codec.specs.Segment.{id_at}
use Rattle.o5_codec.proofs.ResultLaws.{only_reason}
use Rattle.o5_codec.proofs.RefusalLaws.{set_refused}
use Rattle.opl_line.proofs.LineReasonLaws.{reported_is_reason}
use Rattle.opl_line.proofs.MemoryLaws.{memory_is_no_reason}
use Rattle.o5_codec.specs.Decoder.{new_segment}
use Rattle.opl_line.specs.Delimiter.{is_line_end, split_first}
use Rattle.opl_line.specs.Reading.{reading_line}
use Rattle.opl_line.specs.declared.reason.OplReason.{OplReason}
use Rattle.opl_line.specs.declared.reason.OplReason.TheVariants as opl
use Rattle.o5_codec.specs.declared.reason.O5Reason.{O5Reason}
use Rattle.o5_codec.specs.declared.reason.O5Reason.TheVariants as o5
use Rattle.o5_codec.specs.declared.read.segment.Segment.{Segment}
use Rattle.osm_files.specs.declared.reason.Reason.{Reason}
use Rattle.osm_files.specs.declared.reason.Reason.TheVariants.{BadHeader, Unsorted, ReadFault}
use Rattle.osm_files.specs.Input.{failed_after}
use Rattle.osm_files.specs.Reason.{of_line, of_data_set}
use Rattle.osm_files.specs.O5.{end_byte, reset_byte, is_lone, kind_of_type}
use Rattle.osm_files.specs.Stream.{Verdict, verdict_at, Placed, SourceRest, end_whole}
use Rattle.osm_files.specs.Units.{FileStateData, InOpl, BeforeHeader, InSegment, PastEnd, UnitResult, FileUnit, unit, no_version}
use Rattle.osm_files.specs.Units.{line_found, line_unit}
use Rattle.osm_files.specs.Units.{is_header, set_found, content_found, sized_unit, is_ended, length_at, unit_at, last_at, found_then}
use Rattle.osm_files.specs.Units.{final_units, unit_then, units_within, units, start_of}
use Rattle.osm_files.specs.Verdict.{length_limit, too_long_verdict, file_units, verdict, is_below, sorted_verdict}
use Rattle.osm_files.specs.Position.{units_from, fault_of}
use Rattle.osm_files.specs.LoadLaws.{InputsAreFiles, IsFaultyWhole, NoneFaultyWhole, FailedInputsAreRefused}
use Rattle.osm_files.specs.LoadLaws.{is_verdict_reason, ReasonsOfVerdicts}
use Rattle.osm_files.proofs.FileLaws.{short_units}
use Rattle.osm_files.proofs.StepLaws.{unit_sized}
use Rattle.osm_files.proofs.StayLaws.{unit_stays}
use Rattle.osm_files.proofs.PositionLaws.{from_is, none_in_nothing, limit_is}
use Rattle.osm_files.proofs.LoadLaws.{whole_units}

-- An input that ends has the units of its bytes, and their verdict as its refusal.
pub inputs_are_files : InputsAreFiles
inputs_are_files input bytes = (
  whole_units bytes,
  ap (λ (s : SourceRest Placed Verdict). option_map (fault_of input) s.refusal) (whole_units bytes),
)

-- ---- the whole units in bytes that a verdict closes
abbrev Faulty : ℕ → FileStateData → ℕ → List ℕ → Verdict → Type 0
Faulty n stage offset bytes v = (close : Verdict) → (units_within n (Some close) stage offset bytes).refusal ≡ Some v

abbrev Fine : ℕ → FileStateData → ℕ → List ℕ → Type 0
Fine n stage offset bytes = (close : Verdict) → (units_within n (Some close) stage offset bytes).refusal ≡ Some close

-- a whole unit is faulty, whatever closes the bytes, or none is
abbrev UnitDecides : ℕ → FileStateData → ℕ → List ℕ → Type 0
UnitDecides n stage offset bytes = ((v : Verdict) × Faulty n stage offset bytes v ×
    ((units_within n None stage offset bytes).refusal ≡ Some v))
    ⊎ Fine n stage offset bytes

found_decides : (n offset at : ℕ) (rest : List ℕ) (found : UnitResult) → ((next : FileStateData) → UnitDecides n next at rest)
    → ((v : Verdict) × ((close : Verdict) → (found_then offset found (λ next. units_within n (Some close) next at rest)).refusal ≡ Some v)
    × ((found_then offset found (λ next. units_within n None next at rest)).refusal ≡ Some v))
    ⊎ ((close : Verdict) → (found_then offset found (λ next. units_within n (Some close) next at rest)).refusal ≡ Some close)
found_decides n offset at rest (Err reason) on = inl (verdict_at offset reason, λ close. refl, refl)
found_decides n offset at rest (Ok (None, next)) on = on next
found_decides n offset at rest (Ok (Some v, next)) on = on next

abbrev ThenDecides : ℕ → FileStateData → ℕ → List ℕ → Option FileUnit → Type 0
ThenDecides n stage offset bytes u =
    ((v : Verdict) × ((close : Verdict) → (unit_then (Some close) stage offset bytes (units_within n (Some close)) u).refusal ≡ Some v)
    × ((unit_then None stage offset bytes (units_within n None) u).refusal ≡ Some v))
    ⊎ ((close : Verdict) → (unit_then (Some close) stage offset bytes (units_within n (Some close)) u).refusal ≡ Some close)

unit_decides : (n : ℕ) (stage : FileStateData) (offset : ℕ) (bytes : List ℕ) →
    ((next : FileStateData) (at : ℕ) (rest : List ℕ) → UnitDecides n next at rest) →
    (u : Option FileUnit) → ThenDecides n stage offset bytes u
unit_decides n stage offset bytes on None = inr (λ close. refl)
unit_decides n stage offset bytes on (Some u) = found_decides n offset (offset + u.size) (drop u.size bytes) u.found
    (λ next. on next (offset + u.size) (drop u.size bytes))

shown : (n : ℕ) (stage : FileStateData) (offset : ℕ) (bytes : List ℕ) → UnitDecides n stage offset bytes
shown zero stage offset bytes = inr (λ close. refl)
shown (suc n) stage offset bytes = unit_decides n stage offset bytes (shown n) (unit_at stage bytes)

whole_decides : (bytes : List ℕ) → ((v : Verdict) × IsFaultyWhole bytes v × ((units None (start_of bytes) 0 bytes).refusal ≡ Some v))
    ⊎ NoneFaultyWhole bytes
unfolding units
whole_decides bytes = shown (length bytes) (start_of bytes) 0 bytes

-- ---- bytes that are refused at their end
pub failed_units : (reason : Reason) (bytes : List ℕ) → length bytes < 2 ^ 62 →
    units_from None 0 (failed_after reason bytes) ≡ units (Some (verdict_at (length bytes) reason)) (start_of bytes) 0 bytes
unfolding length_limit
failed_units reason bytes short =
    let all : 0 + length bytes ≡ length bytes = omega arith in
    let below : nat_lt (0 + length bytes) (2 ^ 62) ≡ true = lt-ltb (0 + length bytes) (2 ^ 62) (omega (arith, short)) in
    from_is None 0 (failed_after reason bytes)
    ∙ (λ i. units (cond (below i) (Some (verdict_at (all i) reason)) (Some too_long_verdict)) (start_of bytes) 0
    (cond (below i) bytes (take (2 ^ 62 - 1 - 0) bytes)))

long_units : (reason : Reason) (bytes : List ℕ) → nat_lt (length bytes) length_limit ≡ false
    → units_from None 0 (failed_after reason bytes) ≡ file_units bytes
unfolding file_units
long_units reason bytes long =
    let all : 0 + length bytes ≡ length bytes = omega arith in
    let room : length_limit - 1 - 0 ≡ length_limit - 1 = omega arith in
    let above : nat_lt (0 + length bytes) length_limit ≡ false = ap (λ n. nat_lt n length_limit) all ∙ long in
    from_is None 0 (failed_after reason bytes)
    ∙ (λ i. units (cond (above i) (Some (verdict_at (0 + length bytes) reason)) (Some too_long_verdict)) (start_of bytes) 0
    (cond (above i) bytes (take (room i) bytes)))
    ∙ ap (λ t. cond t (units None (start_of bytes) 0 bytes)
    (units (Some too_long_verdict) (start_of bytes) 0 (take (length_limit - 1) bytes)))
    (sym long)

abbrev refusal_of : SourceRest Placed Verdict → Option Verdict
refusal_of s = s.refusal

short_refused : (reason : Reason) (bytes : List ℕ) → length bytes < 2 ^ 62
    → ((v : Verdict) × length bytes < 2 ^ 62 × IsFaultyWhole bytes v × (verdict bytes ≡ Some v)
    × ((units_from None 0 (failed_after reason bytes)).refusal ≡ Some v))
    ⊎ (length bytes < 2 ^ 62 × NoneFaultyWhole bytes
    × ((units_from None 0 (failed_after reason bytes)).refusal ≡ Some (verdict_at (length bytes) reason)))
short_refused reason bytes short =
    let close : Verdict = verdict_at (length bytes) reason in
    let same : (units_from None 0 (failed_after reason bytes)).refusal ≡ (units (Some close) (start_of bytes) 0 bytes).refusal =
    ap refusal_of (failed_units reason bytes short) in
    ⊎_elim (λ h. inl (h.0, short, h.1, ap refusal_of (short_units bytes short) ∙ h.2, same ∙ h.1 close))
    (λ h. inr (short, h, same ∙ h close)) (whole_decides bytes)

-- An input that is refused at its end has the verdict of its whole units or of its length as its refusal, or else that of
-- its end.
pub failed_inputs : FailedInputsAreRefused
failed_inputs reason bytes =
    elim (nat_lt (length bytes) length_limit) as (λ t. nat_lt (length bytes) length_limit ≡ t →
    (2 ^ 62 ≤ length bytes × ((units_from None 0 (failed_after reason bytes)).refusal ≡ verdict bytes))
    ⊎ ((v : Verdict) × length bytes < 2 ^ 62 × IsFaultyWhole bytes v × (verdict bytes ≡ Some v)
    × ((units_from None 0 (failed_after reason bytes)).refusal ≡ Some v))
    ⊎ (length bytes < 2 ^ 62 × NoneFaultyWhole bytes
    × ((units_from None 0 (failed_after reason bytes)).refusal ≡ Some (verdict_at (length bytes) reason)))) [
      | true ↦ λ is. inr (short_refused reason bytes
          (let below = ltb-true (length bytes) length_limit is in omega (arith, limit_is, below)))
      | false ↦ λ is. inl (
        let above = ltb-false (length bytes) length_limit is in
            omega (arith, limit_is, above),
        ap refusal_of (long_units reason bytes is),
      )
    ] refl

-- ---- whatever follows
-- no verdict equals every close
not_each : (v : Verdict) → ((close : Verdict) → Some close ≡ Some v) → ⊥
not_each v each =
    let same : suc v.place ≡ v.place = (let e : Some (verdict_at (suc v.place) ReadFault) ≡ Some v =
    each (verdict_at (suc v.place) ReadFault) in let f : verdict_at (suc v.place) ReadFault ≡ v = cc in ap (λ (w : Verdict). w.place) f)
    in
    omega (arith, same)

abbrev Stays : ℕ → ℕ → Option Verdict → Verdict → Type 0
Stays n m close v = (stage : FileStateData) (offset : ℕ) (bytes more : List ℕ) → length (bytes ++ more) ≤ m →
    Faulty n stage offset bytes v → (units_within m close stage offset (bytes ++ more)).refusal ≡ Some v

found_stays : (n m : ℕ) (close : Option Verdict) (v : Verdict) → Stays n m close v → (offset at : ℕ) (rest more : List ℕ) →
    length (rest ++ more) ≤ m → (found : UnitResult) → ((c : Verdict) →
    (found_then offset found (λ next. units_within n (Some c) next at rest)).refusal ≡ Some v)
    → (found_then offset found (λ next. units_within m close next at (rest ++ more))).refusal ≡ Some v
found_stays n m close v on offset at rest more fits (Err reason) h = h v
found_stays n m close v on offset at rest more fits (Ok (None, next)) h = on next at rest more fits h
found_stays n m close v on offset at rest more fits (Ok (Some w, next)) h = on next at rest more fits h

unit_then_stays : (n m : ℕ) (close : Option Verdict) (v : Verdict) → Stays n m close v →
    (stage : FileStateData) (offset : ℕ) (bytes more : List ℕ) →
    length (bytes ++ more) ≤ suc m → (u : Option FileUnit) → unit_at stage bytes ≡ u
    → ((c : Verdict) → (unit_then (Some c) stage offset bytes (units_within n (Some c)) u).refusal ≡ Some v) →
    (unit_then close stage offset (bytes ++ more) (units_within m close) (unit_at stage (bytes ++ more))).refusal ≡ Some v
unit_then_stays n m close v on stage offset bytes more fits None is h = absurd (not_each v h)
unit_then_stays n m close v on stage offset bytes more fits (Some u) is h =
    let sized = unit_sized stage bytes u is in
    let rest : drop u.size (bytes ++ more) ≡ drop u.size bytes ++ more = drop-append-le u.size bytes more sized.within in
    let few : length (drop u.size bytes ++ more) ≤ m =
    omega (
      arith,
      length-append bytes more,
      length-append (drop u.size bytes) more,
      length-drop u.size bytes,
      sized.some,
      sized.within,
      fits,
    ) in
    ap (λ o. (unit_then close stage offset (bytes ++ more) (units_within m close) o).refusal) (unit_stays stage bytes more u is)
    ∙ ap (λ x. (found_then offset u.found (λ next. units_within m close next (offset + u.size) x)).refusal) rest
    ∙ found_stays n m close v on offset (offset + u.size) (drop u.size bytes) more few u.found h

stays : (n m : ℕ) (close : Option Verdict) (v : Verdict) → Stays n m close v
stays zero m close v stage offset bytes more fits h = absurd (not_each v h)
stays (suc n) (suc m) close v stage offset bytes more fits h =
    unit_then_stays n m close v (stays n m close v) stage offset bytes more fits (unit_at stage bytes) refl h
stays (suc n) zero close v stage offset [] [] fits h =
    absurd (not_each v (λ c. ap (λ o. (unit_then (Some c) stage offset [] (units_within n (Some c)) o).refusal)
    (sym (none_in_nothing stage)) ∙ h c))
stays (suc n) zero close v stage offset [] (b ∷ more) fits h = absurd (omega (arith, fits))
stays (suc n) zero close v stage offset (b ∷ bytes) more fits h = absurd (omega (arith, fits, length-append (b ∷ bytes) more))

faulty_stays : (bytes more : List ℕ) (v : Verdict) → IsFaultyWhole bytes v →
    (units None (start_of (bytes ++ more)) 0 (bytes ++ more)).refusal ≡ Some v
unfolding units
faulty_stays [] more v h = absurd (not_each v h)
faulty_stays (b ∷ bytes) more v h = stays (length (b ∷ bytes)) (length (b ∷ (bytes ++ more))) None v (start_of (b ∷ bytes)) 0
    (b ∷ bytes) more (omega arith) h

-- ---- the reasons of verdicts
of_line_fine : (reason : OplReason) → (reason ≡ opl.Memory → ⊥) → is_verdict_reason (of_line reason) ≡ true
of_line_fine opl.NotUtf8 h = refl
of_line_fine opl.UnknownKind h = refl
of_line_fine opl.UnknownField h = refl
of_line_fine opl.RepeatedField h = refl
of_line_fine opl.BadNumber h = refl
of_line_fine opl.OutOfRange h = refl
of_line_fine opl.BadTime h = refl
of_line_fine opl.BadCoordinate h = refl
of_line_fine opl.BadText h = refl
of_line_fine opl.BadList h = refl
of_line_fine opl.NoVersion h = refl
of_line_fine opl.NoTime h = refl
of_line_fine opl.NoLocation h = refl
of_line_fine opl.Memory h = absurd (h refl)

of_data_set_fine : (reason : O5Reason) → is_step_reason reason ≡ true → is_verdict_reason (of_data_set reason) ≡ true
of_data_set_fine o5.BadNumber h = refl
of_data_set_fine o5.OutOfRange h = refl
of_data_set_fine o5.NoVersion h = refl
of_data_set_fine o5.BadReference h = refl
of_data_set_fine o5.BadText h = refl
of_data_set_fine o5.NotUtf8 h = refl
of_data_set_fine o5.BadSection h = refl
of_data_set_fine o5.BadMemberType h = refl
of_data_set_fine o5.MixedSegment h = refl
of_data_set_fine o5.Truncated h = refl
of_data_set_fine o5.Memory h = absurd (false≢true h)
of_data_set_fine o5.Failed h = absurd (false≢true h)

abbrev pub FineFound : UnitResult → Type 0
FineFound (Ok found) = Unit {0}
FineFound (Err reason) = is_verdict_reason reason ≡ true

abbrev pub FineUnit : Option FileUnit → Type 0
FineUnit u = IfSome u (λ x. FineFound x.found)

-- if a reading is refused, the reason is one of the steps
abbrev StepReason : {X : Type 0} → Result X O5Reason → Type 0
StepReason r = IfErr r (λ reason. is_step_reason reason ≡ true)

line_read_fine : (line : List ℕ) (read : Result (Option VersionData) OplReason) → reading_line line ≡ read → FineFound (line_found read)
line_read_fine line (Ok read) is = tt
line_read_fine line (Err reason) is = of_line_fine reason
    (λ memory. memory_is_no_reason line (reported_is_reason line opl.Memory (is ∙ ap (λ r. Err r) memory)))

line_found_fine : (line : List ℕ) → FineFound (line_found (reading_line line))
line_found_fine line = line_read_fine line (reading_line line) refl

line_unit_fine : (s : List ℕ × Option (List ℕ)) → FineUnit (line_unit s)
line_unit_fine (line, None) = tt
line_unit_fine (line, Some after) = line_found_fine line

set_step : (k : Kind) (s : Segment) (content : List ℕ) (read : Result (VersionData × Segment) O5Reason) → set_at k s content ≡ read →
    StepReason read
set_step k s content (Ok read) is = tt
set_step k s content (Err reason) is = (only_reason k s content reason ((set_refused k s content reason).0 is)).of_a_step

then_fails : {X Y : Type 0} (read : Result X O5Reason) (next : X → Result Y O5Reason) (reason : O5Reason) → read ≡ Err reason →
    and_then read next ≡ Err reason
then_fails read next reason is = ap (λ r. and_then r next) is

-- a number that can't be read refuses a data set that begins with it
number_fails : (bytes : List ℕ) (reason : O5Reason) → number_at bytes ≡ Err reason → set_at kind.Node new_segment bytes ≡ Err reason
unfolding set_at id_at signed_at
number_fails bytes reason is = then_fails _ _ reason (then_fails _ _ reason (then_fails (number_at bytes) _ reason is))

number_step : (bytes : List ℕ) (read : Result (ℕ × List ℕ) O5Reason) → number_at bytes ≡ read → StepReason read
number_step bytes (Ok read) is = tt
number_step bytes (Err reason) is = set_step kind.Node new_segment bytes (Err reason) (number_fails bytes reason is)

length_step : (bytes : List ℕ) → IfSome (length_at bytes) StepReason
length_step bytes = elim (is_ended bytes) as (λ t. IfSome (cond t (Some (number_at bytes)) None) StepReason) [
  | true ↦ number_step bytes (number_at bytes) refl
  | false ↦ tt
]

header_fine : (short is : Bool) → FineUnit (cond short None (Some (unit 7 (cond is (no_version (InSegment new_segment)) (Err BadHeader)))))
header_fine true is = tt
header_fine false true = tt
header_fine false false = refl

set_found_fine : (read : Result (VersionData × Segment) O5Reason) → StepReason read → FineFound (set_found read)
set_found_fine (Ok read) h = tt
set_found_fine (Err reason) h = of_data_set_fine reason h

content_fine : (s : Segment) (k : Option Kind) (content : List ℕ) → FineFound (content_found s k content)
content_fine s None content = tt
content_fine s (Some k) content = set_found_fine (set_at k s content) (set_step k s content (set_at k s content) refl)

sized_fine : (s : Segment) (b : ℕ) (bytes : List ℕ) (x : Option (Result (ℕ × List ℕ) O5Reason)) → IfSome x StepReason →
    FineUnit (sized_unit s b bytes x)
sized_fine s b bytes None h = tt
sized_fine s b bytes (Some (Err reason)) h = of_data_set_fine reason h
sized_fine s b bytes (Some (Ok (size, after))) h =
    elim (nat_le size (length after)) as (λ t. FineUnit
    (cond t (Some (unit (1 + (length bytes - length after) + size) (content_found s (kind_of_type b) (take size after)))) None)) [
      | true ↦ content_fine s (kind_of_type b) (take size after)
      | false ↦ tt
    ]

by_type : (s : Segment) (end reset lone : Bool) (sized : Option FileUnit) → FineUnit sized →
    FineUnit (cond end (Some (unit 1 (no_version PastEnd)))
    (cond reset (Some (unit 1 (no_version (InSegment new_segment)))) (cond lone (Some (unit 1 (no_version (InSegment s)))) sized)))
by_type s true reset lone sized h = tt
by_type s false true lone sized h = tt
by_type s false false true sized h = tt
by_type s false false false sized h = h

pub unit_fine : (stage : FileStateData) (bytes : List ℕ) → FineUnit (unit_at stage bytes)
unfolding unit_at
unit_fine InOpl bytes = line_unit_fine (split_first is_line_end bytes)
unit_fine BeforeHeader bytes = header_fine (nat_lt (length bytes) 7) (is_header (take 7 bytes))
unit_fine (InSegment s) [] = tt
unit_fine (InSegment s) (b ∷ bytes) = by_type s (b == end_byte) (b == reset_byte) (is_lone b) (sized_unit s b bytes (length_at bytes))
    (sized_fine s b bytes (length_at bytes) (length_step bytes))
unit_fine PastEnd [] = tt
unit_fine PastEnd (b ∷ bytes) = refl

pub last_fine : (stage : FileStateData) (bytes : List ℕ) → FineFound (last_at stage bytes)
unfolding last_at
last_fine InOpl bytes = line_found_fine bytes
last_fine BeforeHeader bytes = refl
last_fine (InSegment s) [] = refl
last_fine (InSegment s) (b ∷ bytes) = refl
last_fine PastEnd bytes = tt

abbrev FineRefusal : Option Verdict → Type 0
FineRefusal r = IfSome r (λ v. is_verdict_reason v.reason ≡ true)

found_fine : (offset : ℕ) (found : UnitResult) (more : FileStateData → SourceRest Placed Verdict) → FineFound found →
    ((next : FileStateData) → FineRefusal (more next).refusal) → FineRefusal (found_then offset found more).refusal
found_fine offset (Err reason) more h on = h
found_fine offset (Ok (None, next)) more h on = on next
found_fine offset (Ok (Some v, next)) more h on = on next

closed_fine : (close : Option Verdict) → FineRefusal close → (stage : FileStateData) (offset : ℕ) (bytes : List ℕ) →
    FineRefusal (final_units close offset (last_at stage bytes)).refusal
closed_fine None h stage offset bytes = found_fine offset (last_at stage bytes) (λ next. end_whole) (last_fine stage bytes) (λ next. tt)
closed_fine (Some end) h stage offset bytes = h

then_fine : (n : ℕ) (close : Option Verdict) → FineRefusal close →
    ((stage : FileStateData) (offset : ℕ) (bytes : List ℕ) → FineRefusal (units_within n close stage offset bytes).refusal) →
    (stage : FileStateData) (offset : ℕ) (bytes : List ℕ) (u : Option FileUnit) → FineUnit u
    → FineRefusal (unit_then close stage offset bytes (units_within n close) u).refusal
then_fine n close h on stage offset bytes None fine = closed_fine close h stage offset bytes
then_fine n close h on stage offset bytes (Some u) fine =
    found_fine offset u.found _ fine (λ next. on next (offset + u.size) (drop u.size bytes))

units_fine : (n : ℕ) (close : Option Verdict) → FineRefusal close → (stage : FileStateData) (offset : ℕ) (bytes : List ℕ) →
    FineRefusal (units_within n close stage offset bytes).refusal
units_fine zero close h stage offset bytes = closed_fine close h stage offset bytes
units_fine (suc n) close h stage offset bytes = then_fine n close h (units_fine n close h) stage offset bytes (unit_at stage bytes)
    (unit_fine stage bytes)

verdict_fine : (bytes : List ℕ) → FineRefusal (verdict bytes)
unfolding file_units units
verdict_fine bytes =
    let front : List ℕ = take (length_limit - 1) bytes in
    elim (nat_lt (length bytes) length_limit) as (λ t.
    FineRefusal (cond t (units None (start_of bytes) 0 bytes) (units (Some too_long_verdict) (start_of bytes) 0 front)).refusal) [
      | true ↦ units_fine (length bytes) None tt (start_of bytes) 0 bytes
      | false ↦ units_fine (length front) (Some too_long_verdict) refl (start_of bytes) 0 front
    ]

abbrev FineOrder : Option Verdict → Type 0
FineOrder r = IfSome r (λ v. (v.reason ≡ Unsorted) ⊎ (is_verdict_reason v.reason ≡ true))

order_fine : (close : Option Verdict) → FineRefusal close → (before : Option VersionData) (units : List Placed) →
    FineOrder (sorted_verdict close before units)
order_fine None h before [] = tt
order_fine (Some end) h before [] = inr h
order_fine close h before (unit ∷ units) =
    elim (is_below unit.version before) as (λ t. FineOrder
    (cond t (Some (verdict_at unit.offset Unsorted)) (sorted_verdict close (Some unit.version) units))) [
      | true ↦ inl refl
      | false ↦ order_fine close h (Some unit.version) units
    ]

-- A verdict is never Memory, Failed, ReadFault or WriteFault; only a verdict on order may be Unsorted.
pub reasons_of_verdicts : ReasonsOfVerdicts
reasons_of_verdicts bytes v = (
  λ is. MatchOption-at_some _ _ v is (verdict_fine bytes),
  λ is. MatchOption-at_some _ _ v is (order_fine (verdict bytes) (verdict_fine bytes) None (file_units bytes).list),
)
