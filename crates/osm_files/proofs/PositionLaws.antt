-- The effect on a position of passing one unit.
use Rattle.std.proofs.Common.{◌≡◌, ◌⊎◌, inl, inr, ℕ, suc, ◌+◌, ◌-◌, ◌≤◌, ◌<◌, ◌^◌, Bool, true, false, cond, List, [], ◌∷◌, ◌++◌}
use Rattle.std.proofs.Common.{length, drop, take, refl, sym, ap, ◌∙◌, arith, Option, Some, None, option_map, IfSome, Ok, Err}
use Rattle.std.proofs.Common.{length-append, length-drop, nat_lt}
use Rattle.std.proofs.lemmas.List.{append-nil, drop-append-le, drop-take}
use Rattle.std.proofs.lemmas.Bool.{lt-ltb}
use Rattle.std.proofs.lemmas.Bool.Decides.{nat_tests}
use Rattle.std.proofs.Math.Seq.{take-append-add}
use Rattle.std.proofs.lemmas.Option.{IfSome_then}
use Rattle.osm_model.specs.Data.{VersionData}
use Rattle.osm_files.specs.declared.fault.Fault.{Fault}
use Rattle.osm_files.specs.declared.reason.Reason.{Reason}
use Rattle.osm_files.specs.declared.reason.Reason.TheVariants.{ReadFault, NoEnd}
use Rattle.osm_files.specs.declared.end_rule.EndTest.{EndTest}
use Rattle.osm_files.specs.EndRule.{lacks_end, failure_if, cut_if, by_test}
use Rattle.osm_files.specs.Fault.{memory_fault}
use Rattle.osm_files.specs.Input.{InputRest, whole_input as all_of, failed_after, with_front}
use Rattle.osm_files.specs.Stream.{verdict_at, Placed, new_placed, SourceRest, end_whole, end_refused, front}
use Rattle.osm_files.specs.Units.{FileStateData, FileUnit, unit_at, last_at, found_then, units}
use Rattle.osm_files.specs.Verdict.{length_limit, too_long_verdict}
use Rattle.osm_files.specs.Position.{KnownPosition, rest_of_bytes, state_or_start, closing_verdict, window, units_from, fault_of}
use Rattle.osm_files.specs.Position.{with_input, rest_of_units, Keeps, ReadsOn, KeepsRest}
use Rattle.osm_files.specs.Position.{state_at, Halts, StopsFilling}
use Rattle.osm_files.proofs.FillLaws.{mapped, kept, keeps_on}
use Rattle.osm_files.proofs.StepLaws.{IsSized, unit_sized, found_same, units_step, units_stop}
use Rattle.osm_files.proofs.StayLaws.{unit_stays}

pub limit_is : length_limit ≡ 2 ^ 62
unfolding length_limit
limit_is = refl

-- The units from a position on are those of the bytes below the limit.
pub from_is : (stage : Option FileStateData) (offset : ℕ) (c : InputRest) →
    units_from stage offset c ≡ units (closing_verdict offset c) (state_or_start stage c.bytes) offset (window offset c)
unfolding units_from
from_is stage offset c = refl

-- A position without a change goes on.
pub goes_on : (p : KnownPosition) → KeepsRest p p
goes_on p = record { input = refl; offset = omega arith; failed = refl; keeps = kept (rest_of_units p) }

-- Going on twice is going on.
pub goes_further : (p m q : KnownPosition) → KeepsRest p m → KeepsRest m q → KeepsRest p q
goes_further p m q a b = record {
  input = b.input ∙ a.input;
  offset = omega (arith, a.offset, b.offset);
  failed = b.failed ∙ a.failed;
  keeps = keeps_on (rest_of_units p) (rest_of_units m) (rest_of_units q) a.keeps b.keeps;
}

-- the values that a read leaves unchanged
pub reads_go_on : (p q : KnownPosition) → ReadsOn p q → KeepsRest p q
reads_go_on p q on = record {
  input = on.input;
  offset = omega (arith, on.offset);
  failed = on.failed;
  keeps = mapped (rest_of_bytes p) _ (λ s. rest_of_units q ≡ Some s)
      (IfSome_then (rest_of_bytes p) on.ahead (λ c e. ap (option_map (λ x. with_input q.input (units_from q.stage q.offset x))) e
      ∙ (λ i. Some (with_input (on.input i) (units_from (on.stage i) (on.offset i) c)))));
}

-- the bytes after those held
pub record RestAfter (p : KnownPosition) (c : InputRest) : Type 0 where
  pub more : List ℕ
  pub failure : Option Reason
  pub here : c ≡ record { bytes = p.held ++ more; failure = failure }
  pub there : (h : List ℕ) → rest_of_bytes (record p { held = h }) ≡ Some (record { bytes = h ++ more; failure = failure })

-- the bytes of an input that ended, and the refusal of its end
abbrev ended_with : Bool → List ℕ → InputRest
ended_with cut bytes = cut_if cut (all_of bytes)

-- the bytes of an input that goes on
abbrev open_with : EndTest → List ℕ → InputRest → InputRest
open_with e held c = with_front held (by_test e c)

rest_by : (p : KnownPosition) (ended : Bool) (rest : Option InputRest) (c : InputRest) → p.ended ≡ ended → p.rest ≡ rest →
    rest_of_bytes p ≡ Some c →
    RestAfter p c
rest_by p true rest c e f at =
    let cut : Bool = lacks_end p.end in
    let ends : (h : List ℕ) → rest_of_bytes (record p { held = h }) ≡ Some (ended_with cut h) =
    λ h. ap (λ b. cond b (Some (ended_with cut h)) (option_map (open_with p.end h) p.rest)) e in
    let same : c ≡ ended_with cut p.held = (let g : Some c ≡ Some (ended_with cut p.held) = sym at ∙ ends p.held in cc) in
    record {
      more = [];
      failure = failure_if cut None;
      here = same ∙ ap (λ (x : List ℕ). ended_with cut x) (sym (append-nil p.held));
      there = λ h. ends h ∙ ap (λ (x : List ℕ). Some (ended_with cut x)) (sym (append-nil h));
    }
rest_by p false None c e f at =
    absurd (let g : None ≡ Some c = sym (ap (λ b. cond b (Some (ended_with (lacks_end p.end) p.held))
    (option_map (open_with p.end p.held) p.rest)) e ∙ ap (option_map (open_with p.end p.held)) f) ∙ at in cc)
rest_by p false (Some d) c e f at =
    let goes : (h : List ℕ) → rest_of_bytes (record p { held = h }) ≡ Some (open_with p.end h d) =
    λ h. ap (λ b. cond b (Some (ended_with (lacks_end p.end) h)) (option_map (open_with p.end h) p.rest)) e
    ∙ ap (option_map (open_with p.end h)) f in
    record {
      more = d.bytes;
      failure = (by_test p.end d).failure;
      here = (let g : Some c ≡ Some (open_with p.end p.held d) = sym at ∙ goes p.held in cc);
      there = goes;
    }

-- The bytes ahead begin with the bytes held.
pub rest_after : (p : KnownPosition) (c : InputRest) → rest_of_bytes p ≡ Some c → RestAfter p c
rest_after p c = rest_by p p.ended p.rest c refl refl

-- the first byte determines the stage, whatever follows
pub same_state : (stage : Option FileStateData) (held more : List ℕ) → 0 < length held →
    state_or_start stage (held ++ more) ≡ state_or_start stage held
same_state (Some s) held more some = refl
same_state None [] more some = absurd (omega (arith, some))
same_state None (b ∷ held) more some = refl

-- the bytes held count, and so do those after them that are below the limit
abbrev pub Counts : ℕ → List ℕ → InputRest → Type 0
Counts offset held c = (more : List ℕ) × (window offset c ≡ held ++ more)

counted : (offset : ℕ) (held rest : List ℕ) (failure : Option Reason) → offset + length held < 2 ^ 62 →
    Counts offset held (record { bytes = held ++ rest; failure = failure })
counted offset held rest failure bound =
    elim (nat_lt (offset + length (held ++ rest)) length_limit) as
    (λ t. nat_lt (offset + length (held ++ rest)) length_limit ≡ t →
    (more : List ℕ) × (cond t (held ++ rest) (take (length_limit - 1 - offset) (held ++ rest)) ≡ held ++ more)) [
      | true ↦ λ is. (rest, refl)
      | false ↦ λ is. (
          let room : length_limit - 1 - offset ≡ length held + (length_limit - 1 - offset - length held) =
          omega (arith, limit_is, bound) in (
            take (length_limit - 1 - offset - length held) rest,
            ap (λ n. take n (held ++ rest)) room
                ∙ take-append-add held rest (length_limit - 1 - offset - length held),
          ))
    ] refl

-- at a later offset, the same bytes count, and the file closes in the same way
module _ (offset n : ℕ) (held rest : List ℕ) (failure : Option Reason) (fits : n ≤ length held)
    (bound : offset + length held < 2 ^ 62) where
  abbrev here : InputRest
  here = record { bytes = held ++ rest; failure = failure }

  abbrev there : InputRest
  there = record { bytes = drop n held ++ rest; failure = failure }

  same_length : (offset + n) + length (drop n held ++ rest) ≡ offset + length (held ++ rest)
  same_length = omega (arith, length-append held rest, length-append (drop n held) rest, length-drop n held, fits)

  same_closing : closing_verdict (offset + n) there ≡ closing_verdict offset here
  same_closing = ap (λ m. cond (nat_lt m length_limit) (option_map (verdict_at m) failure) (Some too_long_verdict))
      same_length

  drop_in : drop n (held ++ rest) ≡ drop n held ++ rest
  drop_in = drop-append-le n held rest fits

  same_window : drop n (window offset here) ≡ window (offset + n) there
  same_window =
      elim (nat_lt (offset + length (held ++ rest)) length_limit) as
      (λ t. nat_lt (offset + length (held ++ rest)) length_limit ≡ t →
      drop n (cond t (held ++ rest) (take (length_limit - 1 - offset) (held ++ rest))) ≡ window (offset + n) there) [
        | true ↦ λ is. drop_in ∙ sym (ap (λ b. cond b (drop n held ++ rest) (take (length_limit - 1 - (offset + n)) (drop n held ++ rest)))
            (ap (λ m. nat_lt m length_limit) same_length ∙ is))
        | false ↦ λ is. (
            let room : length_limit - 1 - offset ≡ n + (length_limit - 1 - (offset + n)) = omega (arith, limit_is, bound, fits) in
            ap (λ m. drop n (take m (held ++ rest))) room ∙ drop-take n (length_limit - 1 - (offset + n)) (held ++ rest)
            ∙ ap (take (length_limit - 1 - (offset + n))) drop_in
            ∙ sym (ap (λ b. cond b (drop n held ++ rest) (take (length_limit - 1 - (offset + n)) (drop n held ++ rest)))
            (ap (λ m. nat_lt m length_limit) same_length ∙ is)))
      ] refl

-- A property of each value that an option may have is one of its value.
pub with_each : {A : Type 0} (o : Option A) (P : A → Type 0) → ((x : A) → o ≡ Some x → P x) → IfSome o P
with_each None P f = tt
with_each (Some x) P f = f x refl

-- after a unit of the bytes held was passed
abbrev pub gone_over : KnownPosition → ℕ → FileStateData → KnownPosition
gone_over m size next = record m { stage = Some next; offset = m.offset + size; held = drop size m.held }

module _ (m : KnownPosition) (u : FileUnit) (is_found : unit_at (state_at m) m.held ≡ Some u)
    (bound : m.offset + length m.held < 2 ^ 62) where
  sized : IsSized u m.held
  sized = unit_sized (state_at m) m.held u is_found

  abbrev after_it : List ℕ → Option Reason → InputRest
  after_it rest failure = record { bytes = drop u.size m.held ++ rest; failure = failure }

  -- the unit, and those after it
  unit_first : (rest : List ℕ) (failure : Option Reason)
      → units_from m.stage m.offset (record { bytes = m.held ++ rest; failure = failure })
      ≡ found_then m.offset u.found (λ next. units_from (Some next) (m.offset + u.size) (after_it rest failure))
  unit_first rest failure =
      let c : InputRest = record { bytes = m.held ++ rest; failure = failure } in
      let counts = counted m.offset m.held rest failure bound in
      let spelled : unit_at (state_at m) (window m.offset c) ≡ Some u = ap (unit_at (state_at m)) counts.1
      ∙ unit_stays (state_at m) m.held counts.0 u is_found in
      from_is m.stage m.offset c
      ∙ ap (λ s. units (closing_verdict m.offset c) s m.offset (window m.offset c))
      (same_state m.stage m.held rest (omega (arith, sized.some, sized.within)))
      ∙ units_step (closing_verdict m.offset c) (state_at m) m.offset (window m.offset c) u spelled
      ∙ found_same m.offset u.found _ _ (λ next. (λ i.
      units (sym (same_closing m.offset u.size m.held rest failure sized.within bound) i) next (m.offset + u.size)
      (same_window m.offset u.size m.held rest failure sized.within bound i))
      ∙ sym (from_is (Some next) (m.offset + u.size) (after_it rest failure)))

  unit_known : (c : InputRest) → rest_of_bytes m ≡ Some c → (d : InputRest)
      × (units_from m.stage m.offset c ≡ found_then m.offset u.found (λ next. units_from (Some next) (m.offset + u.size) d))
      × ((next : FileStateData) → rest_of_bytes (gone_over m u.size next) ≡ Some d)
  unit_known c e =
      let b = rest_after m c e in
      let first = ap (units_from m.stage m.offset) b.here ∙ unit_first b.more b.failure in
      (after_it b.more b.failure, first, λ next. b.there (drop u.size m.held))

  -- A unit without a version leaves the units ahead as they are.
  pub gone_passed : (next : FileStateData) → u.found ≡ Ok (None, next) → Keeps (rest_of_units m) (rest_of_units (gone_over m u.size next))
  gone_passed next is =
      mapped (rest_of_bytes m) _ (λ s. rest_of_units (gone_over m u.size next) ≡ Some s) (with_each (rest_of_bytes m) _ (λ c e. (
      let k = unit_known c e in
      let same : units_from m.stage m.offset c ≡ units_from (Some next) (m.offset + u.size) k.0 = k.1
      ∙ ap (λ f. found_then m.offset f (λ n. units_from (Some n) (m.offset + u.size) k.0)) is in
      ap (option_map (λ x. with_input m.input (units_from (Some next) (m.offset + u.size) x))) (k.2 next)
      ∙ ap (λ s. Some (with_input m.input s)) (sym same))))

  -- A unit with a version is the first of the units ahead.
  pub gone_gave : (v : VersionData) (next : FileStateData) → u.found ≡ Ok (Some v, next) →
      IfSome (rest_of_units m) (λ s. (t : SourceRest Placed Fault) × (s ≡ front (new_placed m.offset v) t) ×
      (rest_of_units (gone_over m u.size next) ≡ Some t))
  gone_gave v next is =
      mapped (rest_of_bytes m) _ _ (with_each (rest_of_bytes m) _ (λ c e. (
      let k = unit_known c e in
      let same : units_from m.stage m.offset c ≡ front (new_placed m.offset v) (units_from (Some next) (m.offset + u.size) k.0) = k.1
      ∙ ap (λ f. found_then m.offset f (λ n. units_from (Some n) (m.offset + u.size) k.0)) is in (
        with_input m.input (units_from (Some next) (m.offset + u.size) k.0),
        ap (with_input m.input) same,
        ap (option_map (λ x. with_input m.input (units_from (Some next) (m.offset + u.size) x))) (k.2 next),
      ))))

  -- A faulty unit refuses the units ahead.
  pub gone_refused : (reason : Reason) → u.found ≡ Err reason →
      IfSome (rest_of_units m) (λ s. s ≡ end_refused (fault_of m.input (verdict_at m.offset reason)))
  gone_refused reason is =
      mapped (rest_of_bytes m) _ _ (with_each (rest_of_bytes m) _ (λ c e. (
      let k = unit_known c e in
      ap (with_input m.input) (k.1 ∙ ap (λ f. found_then m.offset f (λ n. units_from (Some n) (m.offset + u.size) k.0)) is))))

-- if no unit is whole
no_unit : (stage : FileStateData) (found : Option FileUnit) → unit_at stage [] ≡ found → unit_at stage [] ≡ None
no_unit stage None e = e
no_unit stage (Some u) e = let k = unit_sized stage [] u e in absurd (omega (arith, k.some, k.within))

-- No unit is whole in no bytes.
pub none_in_nothing : (stage : FileStateData) → unit_at stage [] ≡ None
none_in_nothing stage = no_unit stage (unit_at stage []) refl

not_below : (m n : ℕ) → n ≤ m → nat_lt m n ≡ false
not_below m n h = grind (arith, nat_tests)

-- At the end of input the bytes ahead are those held.
pub ended_ahead : (m : KnownPosition) → m.ended ≡ true → rest_of_bytes m ≡ Some (cut_if (lacks_end m.end) (all_of m.held))
ended_ahead m ended =
    ap (λ b. cond b (Some (ended_with (lacks_end m.end) m.held)) (option_map (open_with m.end m.held) m.rest)) ended

-- a stage that more bytes than those held determine
nothing_by : (stage : Option FileStateData) (held bytes : List ℕ) (b : ℕ) (more : List ℕ) →
    unit_at (state_or_start stage held) held ≡ None →
    bytes ≡ held ++ b ∷ more → unit_at (state_or_start stage bytes) held ≡ None
nothing_by stage [] bytes b more none e = none_in_nothing (state_or_start stage bytes)
nothing_by stage (a ∷ held) bytes b more none e = ap (λ x. unit_at (state_or_start stage x) (a ∷ held)) e
    ∙ ap (λ s. unit_at s (a ∷ held)) (same_state stage (a ∷ held) (b ∷ more) (omega arith)) ∙ none

-- if no unit is whole in the bytes held, and no more can be read
module _ (m : KnownPosition) (nothing : unit_at (state_at m) m.held ≡ None) (bound : m.offset + length m.held < 2 ^ 62) where
  -- bytes that are refused at their end
  failed_there : (reason : Reason) → units_from m.stage m.offset (failed_after reason m.held)
      ≡ end_refused (verdict_at (m.offset + length m.held) reason)
  failed_there reason =
      let below : nat_lt (m.offset + length m.held) length_limit ≡ true = lt-ltb _ _ (rw limit_is bound) in
      from_is m.stage m.offset (failed_after reason m.held)
      ∙ ap (λ t. units (cond t (Some (verdict_at (m.offset + length m.held) reason)) (Some too_long_verdict)) (state_at m) m.offset
      (cond t m.held (take (length_limit - 1 - m.offset) m.held))) below
      ∙ units_stop (Some (verdict_at (m.offset + length m.held) reason)) (state_at m) m.offset m.held nothing

  pub halted : (c : InputRest) (fault : Fault) → Halts m c fault → with_input m.input (units_from m.stage m.offset c) ≡ end_refused fault
  halted c fault (inl h) =
      ap (λ x. with_input m.input (units_from m.stage m.offset x)) h.0 ∙ ap (with_input m.input) (failed_there ReadFault)
      ∙ ap end_refused (sym h.1)
  halted c fault (inr h) =
      let b : ℕ = h.1.0 in
      let more : List ℕ = h.1.1 in
      let long : length c.bytes ≡ length m.held + suc (length more) = ap length h.1.2 ∙ length-append m.held (b ∷ more) in
      let above : nat_lt (m.offset + length c.bytes) length_limit ≡ false =
      not_below (m.offset + length c.bytes) length_limit (omega (arith, limit_is, h.0, long)) in
      let room : length_limit - 1 - m.offset ≡ length m.held + 0 = omega (arith, limit_is, h.0) in
      let front : take (length_limit - 1 - m.offset) c.bytes ≡ m.held = (λ i. take (room i) (h.1.2 i)) ∙ take-append-add m.held (b ∷ more) 0
      ∙ append-nil m.held in
      let same : units_from m.stage m.offset c ≡ end_refused too_long_verdict =
      from_is m.stage m.offset c
      ∙ ap (λ t. units (cond t (option_map (verdict_at (m.offset + length c.bytes)) c.failure) (Some too_long_verdict))
      (state_or_start m.stage c.bytes) m.offset (cond t c.bytes (take (length_limit - 1 - m.offset) c.bytes))) above
      ∙ ap (units (Some too_long_verdict) (state_or_start m.stage c.bytes) m.offset) front
      ∙ units_stop (Some too_long_verdict) (state_or_start m.stage c.bytes) m.offset m.held
      (nothing_by m.stage m.held c.bytes b more nothing h.1.2) in
      ap (with_input m.input) same ∙ ap end_refused (sym h.2)

  -- Where no more bytes can be read, the units ahead are refused, or memory ran out.
  pub stopped : (fault : Fault) → StopsFilling m fault → (fault ≡ memory_fault) ⊎ IfSome (rest_of_units m) (λ s. s ≡ end_refused fault)
  stopped fault (inl h) = inl h
  stopped fault (inr h) = inr (mapped (rest_of_bytes m) _ (λ s. s ≡ end_refused fault)
      (IfSome_then (rest_of_bytes m) h (λ c k. halted c fault k)))

  -- at the end of the input, if it isn't missing
  pub at_the_end : lacks_end m.end ≡ false → m.ended ≡ true → rest_of_units m ≡ Some
      (with_input m.input (found_then m.offset (last_at (state_at m) m.held) (λ next. end_whole)))
  at_the_end uncut ended =
      let below : nat_lt (m.offset + length m.held) length_limit ≡ true = lt-ltb _ _ (rw limit_is bound) in
      let same : units_from m.stage m.offset (all_of m.held) ≡ found_then m.offset (last_at (state_at m) m.held) (λ next. end_whole) =
      from_is m.stage m.offset (all_of m.held)
      ∙ ap (λ t. units (cond t None (Some too_long_verdict)) (state_at m) m.offset
      (cond t m.held (take (length_limit - 1 - m.offset) m.held))) below
      ∙ units_stop None (state_at m) m.offset m.held nothing in
      ap (option_map (λ c. with_input m.input (units_from m.stage m.offset c)))
      (ended_ahead m ended ∙ ap (λ t. Some (ended_with t m.held)) uncut)
      ∙ ap (λ s. Some (with_input m.input s)) same

  -- at the end of the input, if it is missing
  pub cut_at_end : lacks_end m.end ≡ true → m.ended ≡ true → rest_of_units m ≡ Some
      (end_refused (fault_of m.input (verdict_at (m.offset + length m.held) NoEnd)))
  cut_at_end cut ended =
      ap (option_map (λ c. with_input m.input (units_from m.stage m.offset c)))
      (ended_ahead m ended ∙ ap (λ t. Some (ended_with t m.held)) cut)
      ∙ ap (λ s. Some (with_input m.input s)) (failed_there NoEnd)
