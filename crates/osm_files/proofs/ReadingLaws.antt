-- The calls of a reading, step by step.
use Rattle.std.proofs.Common.{◌≡◌, ◌⊎◌, inl, inr, ⊎_elim, ℕ, ◌+◌, ◌≤◌, ◌<◌, ◌^◌, true, false, cond, List, [], ◌∷◌, length, take, drop, refl}
use Rattle.std.proofs.Common.{sym, ap, ◌∙◌, subst, arith, Option, Some, None, option_map, IfSome, is_some, Result, Ok, Err, slice_get}
use Rattle.std.proofs.Common.{nat_lt}
use Rattle.std.proofs.lemmas.Bool.{false≢true}
use Rattle.std.proofs.lemmas.Bool.Decides.{nat_tests}
use Rattle.std.proofs.lemmas.List.{nil_from_length}
use Rattle.std.proofs.Math.Seq.{drop-length}
use Rattle.std.proofs.lemmas.Option.{IfSome_then}
use Rattle.osm_model.specs.Data.{VersionData}
use Rattle.osm_files.specs.declared.fault.Fault.{Fault}
use Rattle.osm_files.specs.declared.reason.Reason.{Reason}
use Rattle.osm_files.specs.declared.reason.Reason.TheVariants.{Memory, Unsorted, Opl, O5, BadHeader, NoEnd, AfterEnd, TooLong, ReadFault}
use Rattle.osm_files.specs.declared.reason.Reason.TheVariants.{WriteFault, Failed}
use Rattle.osm_files.specs.declared.unit.ReadUnit.{ReadUnit}
use Rattle.osm_files.specs.declared.unit.FileState.{FileState}
use Rattle.osm_files.specs.Fault.{memory_fault, failed_fault, fault_at}
use Rattle.osm_files.specs.Input.{InputRest}
use Rattle.osm_files.specs.Stream.{verdict_at, Placed, new_placed, SourceRest, end_whole, end_refused, front}
use Rattle.osm_files.specs.Source.{SourceStep}
use Rattle.opl_line.specs.Delimiter.{is_line_end, split_first}
use Rattle.osm_files.specs.Units.{FileStateData, InOpl, BeforeHeader, InSegment, PastEnd, UnitResult, unit, unit_at, line_unit, last_at}
use Rattle.osm_files.specs.Units.{found_then}
use Rattle.osm_files.specs.Units.{units}
use Rattle.osm_files.specs.Reading.{Finds, FindsLast, state_data_of, version_of_unit}
use Rattle.osm_files.specs.EndRule.{lacks_end}
use Rattle.osm_files.specs.Position.{Position, KnownPosition, with_rest, rest_of_bytes, state_or_start, closing_verdict, window}
use Rattle.osm_files.specs.Position.{units_from, fault_of, with_input, rest_of_units}
use Rattle.osm_files.specs.Position.{units_or_failed, Keeps, KeepsRest, state_at, with_state, FindsUnit}
use Rattle.osm_files.proofs.FillLaws.{mapped}
use Rattle.osm_files.proofs.StepLaws.{unit_sized}
use Rattle.osm_files.proofs.PositionLaws.{from_is, rest_after, same_state, with_each, gone_over, gone_passed, gone_gave, gone_refused}
use Rattle.osm_files.proofs.PositionLaws.{none_in_nothing, at_the_end, goes_on}

-- The fault of a reason at an offset.
pub fault_is : (input offset : ℕ) (reason : Reason)
    → (fault_at input offset reason ≡ memory_fault) ⊎ (fault_at input offset reason ≡ fault_of input (verdict_at offset reason))
fault_is input offset Memory = inl refl
fault_is input offset (Opl inner) = inr refl
fault_is input offset (O5 inner) = inr refl
fault_is input offset BadHeader = inr refl
fault_is input offset Unsorted = inr refl
fault_is input offset NoEnd = inr refl
fault_is input offset AfterEnd = inr refl
fault_is input offset TooLong = inr refl
fault_is input offset ReadFault = inr refl
fault_is input offset WriteFault = inr refl
fault_is input offset Failed = inr refl

-- ---- the first byte
seen_by : {C : Type 0} (p : Position C) (P : Position C → Type 0)
    → (is_some (slice_get p.held 0) ≡ true → P (record p { stage = Some (state_at p) })) → (is_some (slice_get p.held 0) ≡ false → P p)
    → P (with_state p)
seen_by p P there not_there =
    elim (is_some (slice_get p.held 0)) as (λ t. is_some (slice_get p.held 0) ≡ t → P (cond t (record p { stage = Some (state_at p) }) p))
    [ true ↦ there | false ↦ not_there ] refl

none_held : (held : List ℕ) → is_some (slice_get held 0) ≡ false → held ≡ []
none_held [] e = refl
none_held (b ∷ held) e = absurd (false≢true (sym e))

pub some_held : (held : List ℕ) → is_some (slice_get held 0) ≡ true → 0 < length held
some_held [] e = absurd (false≢true e)
some_held (b ∷ held) e = omega arith

pub seen_held : {C : Type 0} (p : Position C) → (with_state p).held ≡ p.held
seen_held p = seen_by p (λ q. q.held ≡ p.held) (λ e. refl) (λ e. refl)

state_is : (stage : Option FileStateData) (held : List ℕ) (s : FileStateData) → stage ≡ Some s → state_or_start stage held ≡ s
state_is None held s e = absurd (let f : None ≡ Some s = e in cc)
state_is (Some t) held s e = cc

seen_state : {C : Type 0} (p : Position C) (s : FileStateData) → (with_state p).stage ≡ Some s → state_at p ≡ s
seen_state p s =
    seen_by p (λ q. q.stage ≡ Some s → state_at p ≡ s) (λ e f. (let g : Some (state_at p) ≡ Some s = f in cc))
    (λ e f. state_is p.stage p.held s f)

pub seen_none : {C : Type 0} (p : Position C) → (with_state p).stage ≡ None → p.held ≡ []
seen_none p =
    seen_by p (λ q. q.stage ≡ None → p.held ≡ []) (λ e f. absurd (let g : Some (state_at p) ≡ None = f in cc)) (λ e f. none_held p.held e)

seen_states : {C : Type 0} (p : Position C) (s : FileStateData) → record (with_state p) { stage = Some s } ≡ record p { stage = Some s }
seen_states p s = seen_by p (λ q. record q { stage = Some s } ≡ record p { stage = Some s }) (λ e. refl) (λ e. refl)

state_there : (p : KnownPosition) (s : FileStateData) → is_some (slice_get p.held 0) ≡ true → state_at p ≡ s →
    KeepsRest p (record p { stage = Some s })
state_there p s e is = record {
  input = refl;
  offset = omega arith;
  failed = refl;
  keeps =
      mapped (rest_of_bytes p) _ (λ x. rest_of_units (record p { stage = Some s }) ≡ Some x) (with_each (rest_of_bytes p) _ (λ c at. (
      let b = rest_after p c at in
      let in_there : state_or_start p.stage c.bytes ≡ s =
      ap (λ (d : InputRest). state_or_start p.stage d.bytes) b.here ∙ same_state p.stage p.held b.more (some_held p.held e) ∙ is in
      let same : units_from (Some s) p.offset c ≡ units_from p.stage p.offset c =
      from_is (Some s) p.offset c ∙ ap (λ x. units (closing_verdict p.offset c) x p.offset (window p.offset c)) (sym in_there)
      ∙ sym (from_is p.stage p.offset c) in
      ap (option_map (λ x. with_input p.input (units_from (Some s) p.offset x))) at ∙ ap (λ x. Some (with_input p.input x)) same)));
}

pub seen_goes_on : (p : KnownPosition) → KeepsRest p (with_state p)
seen_goes_on p = seen_by p (KeepsRest p) (λ e. state_there p (state_at p) e refl) (λ e. goes_on p)

seen_same : {C : Type 0} (p : Position C)
    → ((with_state p).rest ≡ p.rest) × ((with_state p).input ≡ p.input) × ((with_state p).offset ≡ p.offset) ×
    ((with_state p).failed ≡ p.failed)
seen_same p =
    seen_by p (λ q. (q.rest ≡ p.rest) × (q.input ≡ p.input) × (q.offset ≡ p.offset) × (q.failed ≡ p.failed))
    (λ e. (refl, refl, refl, refl)) (λ e. (refl, refl, refl, refl))

-- ---- the unit at the front of the bytes held
pub nothing_held : {C : Type 0} (p m : Position C) → m ≡ with_state p → m.stage ≡ None → FindsUnit p (Ok None) m
nothing_held p m is none =
    let empty : p.held ≡ [] = seen_none p (ap (λ q. q.stage) (sym is) ∙ none) in
    (ap (unit_at (state_at p)) empty ∙ none_in_nothing (state_at p), is)

abbrev pub replied : Option ReadUnit → Result (Option ReadUnit) Reason
replied unit = Ok unit

module _ {C : Type 0} (p m : Position C) (at : FileState) (bytes : List ℕ) (is : m ≡ with_state p)
    (spelled : m.stage ≡ Some (state_data_of at))
    (held : bytes ≡ m.held) where
  there : state_at p ≡ state_data_of at
  there = seen_state p (state_data_of at) (ap (λ q. q.stage) (sym is) ∙ spelled)

  same_unit : unit_at (state_data_of at) bytes ≡ unit_at (state_at p) p.held
  same_unit = (λ i. unit_at (sym there i) ((held ∙ ap (λ q. q.held) is ∙ seen_held p) i))

  -- A unit that is found at the front is the unit held.
  pub found_held : (result : Option ReadUnit) (next : FileStateData) → Finds (unit_at (state_data_of at) bytes) (Ok result) next
      → (replied result ≡ replied None → next ≡ state_data_of at) → FindsUnit p (Ok result) (record m { stage = Some next })
  found_held None next h unmoved =
      (sym same_unit ∙ h, (λ i. record m { stage = Some (unmoved refl i) }) ∙ (λ i. record m { stage = sym spelled i }) ∙ is)
  found_held (Some u) next h unmoved = (next, sym same_unit ∙ h, (λ i. record (is i) { stage = Some next }) ∙ seen_states p next)

  -- A unit that can't be read is refused at the front.
  pub refused_held : (reason : Reason) (next : FileStateData) (q : Position C) → Finds (unit_at (state_data_of at) bytes) (Err reason) next
      → FindsUnit p (Err reason) q
  refused_held reason next q (inl e) = inl e
  refused_held reason next q (inr h) = inr (h.0, sym same_unit ∙ h.1)

-- A unit that is returned was found.
pub some_found : {C : Type 0} (m q : Position C) (u : ReadUnit) (result : Option ReadUnit) → result ≡ Some u → FindsUnit m (Ok result) q
    → FindsUnit m (Ok (Some u)) q
some_found m q u result is h = subst (λ (o : Option ReadUnit). FindsUnit m (Ok o) q) is h

-- Where no unit is returned, none was found.
pub none_found : {C : Type 0} (m q : Position C) (result : Option ReadUnit) → result ≡ None → FindsUnit m (Ok result) q
    → FindsUnit m (Ok None) q
none_found m q result is h = subst (λ (o : Option ReadUnit). FindsUnit m (Ok o) q) is h

seen_state_at : {C : Type 0} (p : Position C) → state_at (with_state p) ≡ state_at p
seen_state_at p = seen_by p (λ q. state_at q ≡ state_at p) (λ e. refl) (λ e. refl)

-- Where no unit was found, the units ahead stay as they are.
pub none_goes_on : (m q : KnownPosition) → FindsUnit m (Ok None) q → KeepsRest m q
none_goes_on m q h = subst (λ (x : KnownPosition). KeepsRest m x) (sym h.1) (seen_goes_on m)

module _ {C : Type 0} (m q : Position C) (h : FindsUnit m (Ok None) q) where
  -- Where no unit was found, none is whole in the bytes held.
  pub none_there : unit_at (state_at q) q.held ≡ None
  none_there = (λ i. unit_at (state_at (h.1 i)) ((h.1 i).held)) ∙ (λ i. unit_at (seen_state_at m i) (seen_held m i)) ∙ h.0

  -- Where no unit was found, the position stays as it is.
  pub none_same : (q.rest ≡ m.rest) × (q.input ≡ m.input) × (q.offset ≡ m.offset) × (q.failed ≡ m.failed)
  none_same =
      let same = seen_same m in
      (ap (λ x. x.rest) h.1 ∙ same.0, ap (λ x. x.input) h.1 ∙ same.1, ap (λ x. x.offset) h.1 ∙ same.2, ap (λ x. x.failed) h.1 ∙ same.3)

  pub none_known : q.stage ≡ None → q.held ≡ []
  none_known e = ap (λ x. x.held) h.1 ∙ seen_held m ∙ seen_none m (ap (λ x. x.stage) (sym h.1) ∙ e)

-- if no unit was whole in the bytes held, none is whole in these bytes once more bytes are held
none_among : (stage : Option FileStateData) (held more : List ℕ) → (stage ≡ None → held ≡ []) →
    unit_at (state_or_start stage held) held ≡ None
    → unit_at (state_or_start stage more) held ≡ None
none_among None held more empty none = ap (unit_at (state_or_start None more)) (empty refl) ∙ none_in_nothing (state_or_start None more)
none_among (Some s) held more empty none = none

-- No unit is whole in the bytes that were searched, whatever was read after them.
pub none_still : {C : Type 0} (q r : Position C) → (q.stage ≡ None → q.held ≡ []) → unit_at (state_at q) q.held ≡ None
    → r.stage ≡ q.stage → take (length q.held) r.held ≡ q.held → unit_at (state_at r) (take (length q.held) r.held) ≡ None
none_still q r known none stage kept =
    (λ i. unit_at (state_or_start (stage i) r.held) (kept i)) ∙ none_among q.stage q.held r.held known none

-- the finding doesn't depend on the rest
telling_seen : {R : Type 0} (p : Position R) (c : InputRest) → with_rest (with_state p) c ≡ with_state (with_rest p c)
telling_seen p c =
    elim (is_some (slice_get p.held 0)) as
    (λ t. with_rest (cond t (record p { stage = Some (state_at p) }) p) c ≡ cond t
    (record (with_rest p c) { stage = Some (state_at p) })
    (with_rest p c)) [ true ↦ refl | false ↦ refl ]

-- A unit is found whatever the reader gives.
pub telling_found : {R : Type 0} (p q : Position R) (result : Result (Option ReadUnit) Reason) (c : InputRest) → FindsUnit p result q
    → FindsUnit (with_rest p c) result (with_rest q c)
telling_found p q (Ok None) c h = (h.0, ap (λ x. with_rest x c) h.1 ∙ telling_seen p c)
telling_found p q (Ok (Some u)) c h = (h.0, h.1, ap (λ x. with_rest x c) h.2)
telling_found p q (Err reason) c h = h

-- ---- one unit further
-- a fault of this reason, if the rest was refused for it
pub refuses : (m : KnownPosition) (reason : Reason) (fault : Fault) → fault ≡ fault_at m.input m.offset reason
    → (reason ≡ Memory) ⊎ IfSome (rest_of_units m) (λ s. s ≡ end_refused (fault_of m.input (verdict_at m.offset reason)))
    → (fault ≡ memory_fault) ⊎ IfSome (rest_of_units m) (λ s. s ≡ end_refused fault)
refuses m reason fault is (inl e) = inl (is ∙ ap (fault_at m.input m.offset) e)
refuses m reason fault is (inr h) =
    ⊎_elim (λ k. inl (is ∙ k)) (λ k. inr (IfSome_then (rest_of_units m) h (λ s e. e ∙ ap end_refused (sym (is ∙ k)))))
    (fault_is m.input m.offset reason)

-- A unit that is refused at the front refuses the units ahead.
pub held_refuses : (m q : KnownPosition) (reason : Reason) (fault : Fault) → m.offset + length m.held < 2 ^ 62 → FindsUnit m (Err reason) q
    → fault ≡ fault_at m.input m.offset reason → (fault ≡ memory_fault) ⊎ IfSome (rest_of_units m) (λ s. s ≡ end_refused fault)
held_refuses m q reason fault bound (inl e) is = refuses m reason fault is (inl e)
held_refuses m q reason fault bound (inr h) is =
    refuses m reason fault is (inr (gone_refused m (unit h.0 (Err reason)) h.1 bound reason refl))

-- a unit was passed, which gave this version, or none
abbrev pub GoesOver : KnownPosition → Option Placed → KnownPosition → Type 0
GoesOver m None q = Keeps (rest_of_units m) (rest_of_units q)
GoesOver m (Some u) q = IfSome (rest_of_units m) (λ s. (t : SourceRest Placed Fault) × (s ≡ front u t) × (rest_of_units q ≡ Some t))

goes_over : (m : KnownPosition) (size : ℕ) (version : Option VersionData) (next : FileStateData)
    → unit_at (state_at m) m.held ≡ Some (unit size (Ok (version, next))) → m.offset + length m.held < 2 ^ 62
    → GoesOver m (option_map (new_placed m.offset) version) (gone_over m size next)
goes_over m size None next e bound = gone_passed m (unit size (Ok (None, next))) e bound next refl
goes_over m size (Some v) next e bound = gone_gave m (unit size (Ok (Some v, next))) e bound v next refl

-- A unit that is found at the front is gone over.
pub held_goes_over : (m q r : KnownPosition) (u : ReadUnit) (given : Option Placed) → m.offset + length m.held < 2 ^ 62 →
    FindsUnit m (Ok (Some u)) q
    → given ≡ option_map (new_placed q.offset) u.version
    → r ≡ record q { offset = q.offset + u.size; held = drop u.size q.held } → GoesOver m given r
held_goes_over m q r u given bound h is gone =
    let same : r ≡ gone_over m u.size h.0 =
    gone ∙ (λ i. record (h.2 i) { offset = (h.2 i).offset + u.size; held = drop u.size (h.2 i).held }) in
    subst (λ (x : KnownPosition). GoesOver m given x) (sym same)
    (subst (λ (g : Option Placed). GoesOver m g (gone_over m u.size h.0))
    (sym (is ∙ ap (λ (x : KnownPosition). option_map (new_placed x.offset) u.version) h.2)) (goes_over m u.size u.version h.0 h.1 bound))

-- A unit that is found has a byte at least, and no more than are held.
pub held_size : {C : Type 0} (m q : Position C) (u : ReadUnit) → FindsUnit m (Ok (Some u)) q
    → (1 ≤ u.size) × (u.size ≤ length q.held) × (q.offset ≡ m.offset) × (q.input ≡ m.input) × (q.failed ≡ m.failed)
held_size m q u h =
    let sized = unit_sized (state_at m) m.held (unit u.size (Ok (u.version, h.0))) h.1 in (
      sized.some,
      subst (λ xs. u.size ≤ length xs) (ap (λ x. x.held) (sym h.2)) sized.within,
      ap (λ x. x.offset) h.2,
      ap (λ x. x.input) h.2,
      ap (λ x. x.failed) h.2,
    )

-- why a unit can't be read
pub refused_line : {C : Type 0} (p : Position C) (reason : Reason) → p.stage ≡ Some InOpl
    → Finds (line_unit (split_first is_line_end p.held)) (Err reason) InOpl → FindsUnit p (Err reason) p
unfolding unit_at
refused_line p reason in_opl (inl e) = inl e
refused_line p reason in_opl (inr h) = inr (h.0, (λ i. unit_at (state_or_start (in_opl i) p.held) p.held) ∙ h.1)

-- ---- if no call was refused
pub come_still : (p : KnownPosition) → p.failed ≡ false → units_or_failed p ≡ rest_of_units p
come_still p fine = ap (λ b. cond b (Some (end_refused (failed_fault p.input))) (rest_of_units p)) fine

come_failed : (p : KnownPosition) → p.failed ≡ true → units_or_failed p ≡ Some (end_refused (failed_fault p.input))
come_failed p bad = ap (λ b. cond b (Some (end_refused (failed_fault p.input))) (rest_of_units p)) bad

pub still_step : (p q : KnownPosition) (r : Result (Option Placed) Fault) → p.failed ≡ false → q.failed ≡ false →
    SourceStep (rest_of_units p) r (rest_of_units q)
    → SourceStep (units_or_failed p) r (units_or_failed q)
still_step p q r fine good h =
    subst (λ (o : Option (SourceRest Placed Fault)). SourceStep o r (units_or_failed q)) (sym (come_still p fine))
    (subst (λ (o : Option (SourceRest Placed Fault)). SourceStep (rest_of_units p) r o) (sym (come_still q good)) h)

-- a version was given, or a unit without one was passed
pub over_gives : (m q : KnownPosition) (u : Placed) → m.failed ≡ false → q.failed ≡ m.failed → GoesOver m (Some u) q
    → SourceStep (units_or_failed m) (Ok (Some u)) (units_or_failed q)
over_gives m q u fine same h = still_step m q (Ok (Some u)) fine (same ∙ fine) h

-- To go over a unit without a version is to go on.
pub over_passes : (m q : KnownPosition) → q.input ≡ m.input → m.offset ≤ q.offset → q.failed ≡ m.failed → GoesOver m None q → KeepsRest m q
over_passes m q input offset failed h = record { input = input; offset = offset; failed = failed; keeps = h }

-- the reading was refused, now and ever after
pub refusal_step : (m q : KnownPosition) (fault : Fault) → m.failed ≡ false → q.failed ≡ true
    → (fault ≡ memory_fault) ⊎ IfSome (rest_of_units m) (λ s. s ≡ end_refused fault) →
    SourceStep {A = Placed} (units_or_failed m) (Err fault) (units_or_failed q)
refusal_step m q fault fine failed h =
    subst (λ (o : Option (SourceRest Placed Fault)). SourceStep {A = Placed} o (Err fault) (units_or_failed q)) (sym (come_still m fine))
    (h, (q.input, come_failed q failed))

-- Where a position that wasn't refused goes on, its units stay known.
pub keeps_still : (p m : KnownPosition) → KeepsRest p m → p.failed ≡ false → Keeps (units_or_failed p) (units_or_failed m)
keeps_still p m on fine =
    subst (λ (o : Option (SourceRest Placed Fault)). Keeps o (units_or_failed m)) (sym (come_still p fine))
    (subst (λ (o : Option (SourceRest Placed Fault)). Keeps (rest_of_units p) o) (sym (come_still m (on.failed ∙ fine))) on.keeps)

-- ---- the last bytes of an ended input
last_nothing : (stage : FileStateData) (bytes : List ℕ) (version : Option VersionData) → version_of_unit (last_at stage bytes) ≡ Ok version
    → version_of_unit (last_at stage []) ≡ Ok None
unfolding last_at
last_nothing InOpl bytes version e = refl
last_nothing BeforeHeader bytes version e = cc
last_nothing (InSegment s) bytes version e = cc
last_nothing PastEnd bytes version e = refl

opl_nothing : version_of_unit (last_at InOpl []) ≡ Ok None
unfolding last_at
opl_nothing = refl

state_nothing : (stage : Option FileStateData) (held : List ℕ) (version : Option VersionData)
    → version_of_unit (last_at (state_or_start stage held) held) ≡ Ok version →
    version_of_unit (last_at (state_or_start stage []) []) ≡ Ok None
state_nothing None held version e = opl_nothing
state_nothing (Some s) held version e = last_nothing s held version e

-- the finding by its version only
found_by : (offset : ℕ) (found : UnitResult) (version : Option VersionData) → version_of_unit found ≡ Ok version
    → found_then offset found (λ next. end_whole) ≡ found_then offset (Ok (version, InOpl)) (λ next. end_whole)
found_by offset (Ok (None, next)) version e = let f : None ≡ version = cc in
    ap (λ v. found_then offset (Ok (v, InOpl)) (λ next. end_whole)) f
found_by offset (Ok (Some v, next)) version e = let f : Some v ≡ version = cc in
    ap (λ w. found_then offset (Ok (w, InOpl)) (λ next. end_whole)) f
found_by offset (Err reason) version e = absurd (let f : Err reason ≡ Ok version = e in cc)

refused_by : (offset : ℕ) (found : UnitResult) (reason : Reason) → version_of_unit found ≡ Err reason
    → found_then offset found (λ next. end_whole) ≡ end_refused (verdict_at offset reason)
refused_by offset (Ok found) reason e = absurd (let f : Ok found.0 ≡ Err reason = e in cc)
refused_by offset (Err other) reason e = let f : other ≡ reason = cc in ap (λ r. end_refused (verdict_at offset r)) f

module _ (m : KnownPosition) (nothing : unit_at (state_at m) m.held ≡ None) (bound : m.offset + length m.held < 2 ^ 62)
    (uncut : lacks_end m.end ≡ false) (ended : m.ended ≡ true) where
  abbrev last_found : UnitResult
  last_found = last_at (state_at m) m.held

  comes : (version : Option VersionData) → version_of_unit last_found ≡ Ok version
      → rest_of_units m ≡ Some (with_input m.input (found_then m.offset (Ok (version, InOpl)) (λ next. end_whole)))
  comes version e = at_the_end m nothing bound uncut ended ∙ ap (λ s. Some (with_input m.input s)) (found_by m.offset last_found version e)

  -- a version has bytes
  last_some : (v : VersionData) → version_of_unit last_found ≡ Ok (Some v) → 0 < length m.held
  last_some v e =
      elim (nat_lt 0 (length m.held)) as (λ t. nat_lt 0 (length m.held) ≡ t → 0 < length m.held) [
        | true ↦ λ is. grind (arith, nat_tests)
        | false ↦ λ is. (
            let empty : length m.held ≡ 0 = grind (arith, nat_tests) in
            let is_nil : m.held ≡ [] = nil_from_length m.held empty in
            let none : Ok (Some v) ≡ Ok None =
            sym e ∙ (λ i. version_of_unit (last_at (state_or_start m.stage (is_nil i)) (is_nil i)))
            ∙ state_nothing m.stage m.held (Some v) e in
            absurd cc)
      ] refl

  -- nothing comes after them
  abbrev after_last : KnownPosition
  after_last = record m { offset = m.offset + length m.held; held = drop (length m.held) m.held }

  no_more : (version : Option VersionData) → version_of_unit last_found ≡ Ok version → rest_of_units after_last ≡ Some end_whole
  no_more version e =
      let q : KnownPosition = record m { offset = m.offset + length m.held; held = [] } in
      let same : after_last ≡ q = (λ i. record m { offset = m.offset + length m.held; held = drop-length m.held i }) in
      let found : version_of_unit (last_at (state_at q) []) ≡ Ok None = state_nothing m.stage m.held version e in
      ap rest_of_units same ∙ at_the_end q (none_in_nothing (state_at q)) (omega (arith, bound)) uncut ended
      ∙ ap (λ s. Some (with_input m.input s)) (found_by q.offset (last_at (state_at q) []) None found)

  given_last : (version : Option VersionData) → version_of_unit last_found ≡ Ok version
      → SourceStep (rest_of_units m) (Ok (option_map (new_placed m.offset) version)) (rest_of_units after_last)
  given_last None e = (
    subst (λ (o : Option (SourceRest Placed Fault)). IfSome o (λ s. s ≡ end_whole)) (sym (comes None e)) refl,
    no_more None e,
  )
  given_last (Some v) e =
      subst (λ (o : Option (SourceRest Placed Fault)). IfSome o
      (λ s. (t : SourceRest Placed Fault) × (s ≡ front (new_placed m.offset v) t) × (rest_of_units after_last ≡ Some t)))
      (sym (comes (Some v) e)) (
        end_whole,
        refl,
        no_more (Some v) e,
      )

  -- The last bytes of a file are the last step of the reading.
  pub last_gives : m.failed ≡ false → (version : Option VersionData) (size : ℕ) (given : Option Placed) (q : KnownPosition)
      → FindsLast last_found (Ok version) → size ≡ length m.held → given ≡ option_map (new_placed m.offset) version
      → q ≡ record m { offset = m.offset + size; held = drop size m.held } → SourceStep (units_or_failed m) (Ok given) (units_or_failed q)
  last_gives fine version size given q e long is gone =
      let same : q ≡ after_last = gone ∙ (λ i. record m { offset = m.offset + long i; held = drop (long i) m.held }) in
      subst (λ (x : KnownPosition). SourceStep (units_or_failed m) (Ok given) (units_or_failed x)) (sym same)
      (subst (λ (g : Option Placed). SourceStep (units_or_failed m) (Ok g) (units_or_failed after_last)) (sym is)
      (still_step m after_last (Ok (option_map (new_placed m.offset) version)) fine fine (given_last version e)))

  -- The last bytes that hold a version are one at least.
  pub last_further : (version : Option VersionData) (size : ℕ) (given : Option Placed) → FindsLast last_found (Ok version)
      → size ≡ length m.held → given ≡ option_map (new_placed m.offset) version → is_some given ≡ true → 0 < size
  last_further None size given e long is some = absurd (false≢true (sym (ap is_some is) ∙ some))
  last_further (Some v) size given e long is some = omega (arith, long, last_some v e)

  -- Last bytes that are no unit refuse the units ahead.
  pub last_refuses : (reason : Reason) (fault : Fault) → FindsLast last_found (Err reason) → fault ≡ fault_at m.input m.offset reason
      → (fault ≡ memory_fault) ⊎ IfSome (rest_of_units m) (λ s. s ≡ end_refused fault)
  last_refuses reason fault (inl e) is = refuses m reason fault is (inl e)
  last_refuses reason fault (inr e) is =
      let at : rest_of_units m ≡ Some (end_refused (fault_of m.input (verdict_at m.offset reason))) =
      at_the_end m nothing bound uncut ended ∙ ap (λ s. Some (with_input m.input s)) (refused_by m.offset last_found reason e) in
      refuses m reason fault is
      (inr (subst (λ (o : Option (SourceRest Placed Fault)). IfSome o
      (λ s. s ≡ end_refused (fault_of m.input (verdict_at m.offset reason))))
      (sym at)
      refl))

-- A reading that was refused is refused again as Failed.
pub failed_already : (p : KnownPosition) (fault : Fault) → p.failed ≡ true → fault ≡ failed_fault p.input
    → SourceStep {A = Placed} (units_or_failed p) (Err fault) (units_or_failed p)
failed_already p fault bad is = (
  inr (subst (λ (o : Option (SourceRest Placed Fault)). IfSome o (λ s. s ≡ end_refused fault)) (sym (come_failed p bad))
      (ap end_refused (sym is))),
  (p.input, come_failed p bad),
)

-- before the first byte nothing is held
pub nothing_read : {C : Type 0} (p : Position C) → p.stage ≡ None → p.held ≡ [] → version_of_unit (last_at (state_at p) p.held) ≡ Ok None
nothing_read p none empty = (λ i. version_of_unit (last_at (state_or_start (none i) (empty i)) (empty i))) ∙ opl_nothing
