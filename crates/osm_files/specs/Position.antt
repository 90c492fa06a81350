-- The position of a reading of units in its input, and the rest from there.
use Rattle.std.specs.Prelude.{◌≡◌, ◌⊎◌, ℕ, ◌≤◌, ◌+◌, ◌-◌, Bool, nat_lt, List, ◌∷◌, ◌++◌, ◌^◌, [], length, take}
use Rattle.std.specs.Prelude.{false, Option, Some, None, option_map, IfSome, is_some, slice_get, Result, Ok, Err}
use Rattle.std.specs.Prelude.{if◌then◌else◌}
use Rattle.osm_files.specs.declared.fault.Fault.{Fault}
use Rattle.osm_files.specs.declared.reason.Reason.{Reason}
use Rattle.osm_files.specs.declared.reason.Reason.TheVariants.{ReadFault, Memory}
use Rattle.osm_files.specs.declared.end_rule.EndRule.TheVariants as rule
use Rattle.osm_files.specs.declared.end_rule.EndTest.{EndTest}
use Rattle.osm_files.specs.EndRule.{new_test, cut_if, by_test, lacks_end}
use Rattle.osm_files.specs.declared.unit.ReadUnit.{ReadUnit}
use Rattle.osm_files.specs.Fault.{memory_fault, failed_fault}
use Rattle.osm_files.specs.Input.{InputRest, whole_input as all_of, broken_input, with_front, Explained, GivesOne}
use Rattle.osm_files.specs.Stream.{Verdict, verdict_at, Placed, SourceRest, end_refused}
use Rattle.osm_files.specs.Units.{FileStateData, InOpl, units, unit, unit_at, start_of}
use Rattle.osm_files.specs.Verdict.{length_limit, too_long_verdict}

-- The position of a reading: the number of its input, and the offset in the file of the first byte held; the bytes
-- held, and the rest after them, as the reader that gives it or as its bytes; the stage of the reading, which isn't
-- known before the first byte; the test of its end, after the bytes that were read; whether the input has ended, and
-- whether a call was refused.
pub record Position (C : Type 0) : Type 0 where
  pub input : ℕ
  pub offset : ℕ
  pub held : List ℕ
  pub rest : C
  pub stage : Option FileStateData
  pub end : EndTest
  pub ended : Bool
  pub failed : Bool

-- the position in an input before its first byte, with this test of its end
abbrev pub at_start_with : {C : Type 0} → EndTest → ℕ → C → Position C
at_start_with end input rest = record {
  input = input;
  offset = 0;
  held = [];
  rest = rest;
  stage = None;
  end = end;
  ended = false;
  failed = false;
}

-- without a rule for the end
abbrev pub at_start : {C : Type 0} → ℕ → C → Position C
at_start = at_start_with (new_test rule.Any)

-- a position with the rest of its bytes, if they are known
abbrev pub KnownPosition : Type 0
KnownPosition = Position (Option InputRest)

-- the position, if its reader gives `c`
abbrev pub with_rest : {R : Type 0} → Position R → InputRest → KnownPosition
with_rest p c = record {
  input = p.input;
  offset = p.offset;
  held = p.held;
  rest = Some c;
  stage = p.stage;
  end = p.end;
  ended =
      p.ended;
  failed = p.failed;
}

-- each possible rest after the later position comes from a possible rest after the earlier one, and the step leads from
-- the one to the other
abbrev pub Between : {R : Type 0} → (R → InputRest → Type 0) → Position R → Position R →
    (KnownPosition → KnownPosition → Type 0) → Type 0
Between can p q step = Explained (can p.rest) (can q.rest)
    (λ earlier later. step (with_rest p earlier) (with_rest q later))

-- the bytes from the position's offset on, if they are known; they are refused at their end if it is missing
abbrev pub rest_of_bytes : KnownPosition → Option InputRest
rest_of_bytes p = if p.ended then Some (cut_if (lacks_end p.end) (all_of p.held))
    else option_map (λ c. with_front p.held (by_test p.end c)) p.rest

-- the stage, or the one at which these bytes begin
abbrev pub state_or_start : Option FileStateData → List ℕ → FileStateData
state_or_start None bytes = start_of bytes
state_or_start (Some stage) bytes = stage

-- the verdict that closes a file with these bytes from an offset on, if it isn't closed by its own end: it is too long,
-- or it is refused at its end
abbrev pub closing_verdict : ℕ → InputRest → Option Verdict
closing_verdict offset c =
    if nat_lt (offset + length c.bytes) length_limit
    then option_map (verdict_at (offset + length c.bytes)) c.failure
    else Some too_long_verdict

-- the bytes that count: those below the limit
abbrev pub window : ℕ → InputRest → List ℕ
window offset c = if nat_lt (offset + length c.bytes) length_limit then c.bytes
    else take (length_limit - 1 - offset) c.bytes

-- the units from an offset on
unfoldable pub units_from : Option FileStateData → ℕ → InputRest → SourceRest Placed Verdict
units_from stage offset c = units (closing_verdict offset c) (state_or_start stage c.bytes) offset (window offset c)

-- a verdict as the fault of an input
abbrev pub fault_of : ℕ → Verdict → Fault
fault_of input v = record { input = input; place = v.place; reason = v.reason }

abbrev pub with_input : {A : Type 0} → ℕ → SourceRest A Verdict → SourceRest A Fault
with_input input still = record { list = still.list; refusal = option_map (fault_of input) still.refusal }

-- the rest, if it is known and no call was refused
abbrev pub rest_of_units : KnownPosition → Option (SourceRest Placed Fault)
rest_of_units p = option_map (λ c. with_input p.input (units_from p.stage p.offset c)) (rest_of_bytes p)

-- the rest, if it is known; after a refusal the result is Failed
abbrev pub units_or_failed : KnownPosition → Option (SourceRest Placed Fault)
units_or_failed p = if p.failed then Some (end_refused (failed_fault p.input)) else rest_of_units p

-- a bound on the number of units still to come: each has at least one byte
abbrev pub units_left : {C : Type 0} → Position C → ℕ
units_left p = 2 ^ 62 - p.offset

-- a known value is unchanged
abbrev pub Keeps : {A : Type 0} → Option A → Option A → Type 0
Keeps before after = IfSome before (λ x. after ≡ Some x)

-- more bytes were read: nothing was given, and a known rest is unchanged
pub record ReadsOn (p q : KnownPosition) : Type 0 where
  pub input : q.input ≡ p.input
  pub offset : q.offset ≡ p.offset
  pub stage : q.stage ≡ p.stage
  pub failed : q.failed ≡ p.failed
  pub ahead : Keeps (rest_of_bytes p) (rest_of_bytes q)

-- A position reads on to another, over all that their readers can give. The fields other than the remaining bytes are
-- equal.
pub record HasRead {R : Type 0} (can : R → InputRest → Type 0) (p q : Position R) : Type 0 where
  pub offset : q.offset ≡ p.offset
  pub stage : q.stage ≡ p.stage
  pub failed : q.failed ≡ p.failed
  pub reads : Between can p q ReadsOn

-- no version was given, and a known rest is unchanged; units without a version may have been passed
pub record KeepsRest (p q : KnownPosition) : Type 0 where
  pub input : q.input ≡ p.input
  pub offset : p.offset ≤ q.offset
  pub failed : q.failed ≡ p.failed
  pub keeps : Keeps (rest_of_units p) (rest_of_units q)

-- all but the first byte of a comment, whose end isn't held, were dropped
abbrev pub IsShortened : {C : Type 0} → Position C → Position C → Type 0
IsShortened p q = (p.stage ≡ Some InOpl) × ((xs : List ℕ) × (p.held ≡ 35 ∷ xs)
    × (q ≡ record p { offset = p.offset + length xs; held = 35 ∷ [] }))

-- the stage of the reading, as far as the bytes held determine it
abbrev pub state_at : {C : Type 0} → Position C → FileStateData
state_at p = state_or_start p.stage p.held

-- the position with its stage, which is known from the first byte on
abbrev pub with_state : {C : Type 0} → Position C → Position C
with_state p = if is_some (slice_get p.held 0) then record p { stage = Some (state_at p) } else p

-- the result of reading the whole unit at the front of the bytes held
abbrev pub FindsUnit : {C : Type 0} → Position C → Result (Option ReadUnit) Reason → Position C → Type 0
FindsUnit p (Ok None) q = (unit_at (state_at p) p.held ≡ None) × (q ≡ with_state p)
FindsUnit p (Ok (Some u)) q = (next : FileStateData) ×
    (unit_at (state_at p) p.held ≡ Some (unit u.size (Ok (u.version, next))))
    × (q ≡ record p { stage = Some next })
FindsUnit p (Err reason) q = (reason ≡ Memory)
    ⊎ ((size : ℕ) × (unit_at (state_at p) p.held ≡ Some (unit size (Err reason))))

-- an error follows the bytes held, or they are all that may be read and one more follows
abbrev pub Halts : KnownPosition → InputRest → Fault → Type 0
Halts p c fault =
    ((c ≡ broken_input p.held)
    × (fault ≡ fault_of p.input (verdict_at (p.offset + length p.held) ReadFault)))
    ⊎ ((p.offset + length p.held + 1 ≡ 2 ^ 62) × ((b : ℕ) × (more : List ℕ) × (c.bytes ≡ p.held ++ b ∷ more))
    × (fault ≡ fault_of p.input too_long_verdict))

-- why no more bytes can be read
abbrev pub StopsFilling : KnownPosition → Fault → Type 0
StopsFilling p fault = (fault ≡ memory_fault) ⊎ IfSome (rest_of_bytes p) (λ c. Halts p c fault)

-- why no more bytes can be read, for something that the reader can give
abbrev pub StopsAt : {R : Type 0} → (R → InputRest → Type 0) → Position R → Fault → Type 0
StopsAt can p fault = GivesOne (can p.rest) (λ c. StopsFilling (with_rest p c) fault)
