-- A reading that drops the front of a line before the line's end is read.
use Rattle.std.proofs.Common.{◌≡◌, ◌⊎◌, inl, inr, ⊎_elim, ℕ, zero, suc, ◌+◌, ◌-◌, ◌≤◌, ◌<◌, ◌^◌, true, false, not, cond, List, [], ◌∷◌}
use Rattle.std.proofs.Common.{◌++◌, length, take, drop, position, slice_index, refl, sym, ap, ◌∙◌, subst, arith, Option, Some, None}
use Rattle.std.proofs.Common.{IfSome, Err, append_assoc, take-append-drop, length-append, length-drop, length-take}
use Rattle.std.proofs.Math.Seq.{take-append-add}
use Rattle.std.proofs.lemmas.Bool.{le-ltb, false≢true}
use Rattle.std.proofs.lemmas.List.{take_at}
use Rattle.std.proofs.lemmas.Str.{IsUtf8-nil}
use Rattle.std.specs.List.{position_or_len}
use Rattle.opl_line.specs.Delimiter.{is_line_end}
use Rattle.opl_line.specs.Reading.{reading_line}
use Rattle.opl_line.specs.declared.reason.OplReason.{OplReason}
use Rattle.osm_files.specs.declared.fault.Fault.{Fault}
use Rattle.osm_files.specs.declared.reason.Reason.TheVariants.{NoEnd, ReadFault}
use Rattle.osm_files.specs.declared.unknown_line.TestedFront.{TestedFront}
use Rattle.osm_files.specs.declared.unknown_line.TestedFront.TheVariants.{Utf8}
use Rattle.osm_files.specs.EndRule.{lacks_end}
use Rattle.osm_files.specs.Fault.{fault_at}
use Rattle.osm_files.specs.Input.{InputRest}
use Rattle.osm_files.specs.Position.{Position, KnownPosition, with_rest, rest_of_bytes, Keeps, ReadsOn, HasRead, Halts, StopsAt, state_at}
use Rattle.osm_files.specs.Position.{state_or_start, fault_of, FindsUnit}
use Rattle.osm_files.specs.Reason.{of_line}
use Rattle.osm_files.specs.Reading.{FindsLast, version_of_unit}
use Rattle.osm_files.specs.Source.{StepsOn}
use Rattle.osm_files.specs.Stream.{verdict_at}
use Rattle.osm_files.specs.Units.{InOpl, unit_at, line_found, last_at}
use Rattle.osm_files.specs.UnknownLine.{begins_unknown, unknown_reason, IsTested, HoldsUnknown, DropsTested}
use Rattle.osm_files.proofs.PositionLaws.{rest_after, with_each}
use Rattle.osm_files.proofs.ReaderLaws.{HasPassed, left_over, has_gone, gone_read, has_read, read_further, steps_from, took}
use Rattle.osm_files.proofs.ReaderLaws.{unit_refused, refused_ever, fill_refused, cut_refused}
use Rattle.osm_files.proofs.ReadingLaws.{refused_line, last_refuses}
use Rattle.osm_files.proofs.SearchLaws.{none_after, some_after, nowhere, somewhere, no_end}
use Rattle.osm_files.proofs.UnitLaws.{unit_in_opl, last_in_opl}
use Rattle.osm_files.proofs.UnitSteps.{no_line, line_refused}
use Rattle.osm_files.proofs.UnknownLineLaws.{first_of, unknown_read, not_an_end}

-- the position before `front` was dropped, at the offset `start`
abbrev pub before : {C : Type 0} → ℕ → List ℕ → Position C → Position C
before start front p = record p { offset = start; held = front ++ p.held }

-- ---- what a read changes is the same with the front
module _ (start : ℕ) (front : List ℕ) where
  reads_before : (p q : KnownPosition) → ReadsOn p q → ReadsOn (before start front p) (before start front q)
  reads_before p q on = record {
    input = on.input;
    offset = refl;
    stage = on.stage;
    failed = on.failed;
    ahead = with_each (rest_of_bytes (before start front p)) _ (λ c e. (
        let b = rest_after (before start front p) c e in
        let d : InputRest = record { bytes = p.held ++ b.more; failure = b.failure } in
        let later : rest_of_bytes q ≡ Some d = subst (λ (o : Option InputRest). Keeps o (rest_of_bytes q)) (b.there p.held) on.ahead in
        let a = rest_after q d later in
        let bytes : (front ++ q.held) ++ a.more ≡ (front ++ p.held) ++ b.more =
        append_assoc front q.held a.more ∙ ap (λ (x : InputRest). front ++ x.bytes) (sym a.here)
        ∙ sym (append_assoc front p.held b.more) in
        let failure : a.failure ≡ b.failure = ap (λ (x : InputRest). x.failure) (sym a.here) in
        a.there (front ++ q.held) ∙ (λ i. Some (record { bytes = bytes i; failure = failure i })) ∙ ap Some (sym b.here)));
  }

  halts_before : (p : KnownPosition) (fault : Fault) → p.offset ≡ start + length front
      → IfSome (rest_of_bytes p) (λ c. Halts p c fault)
      → IfSome (rest_of_bytes (before start front p)) (λ c. Halts (before start front p) c fault)
  halts_before p fault there halts =
      with_each (rest_of_bytes (before start front p)) _ (λ c e. (
      let b = rest_after (before start front p) c e in
      let d : InputRest = record { bytes = p.held ++ b.more; failure = b.failure } in
      let far : start + length (front ++ p.held) ≡ p.offset + length p.held = omega (arith, length-append front p.held, there) in
      let whole : c ≡ record { bytes = front ++ d.bytes; failure = d.failure } =
      b.here ∙ (λ i. record { bytes = append_assoc front p.held b.more i; failure = b.failure }) in
      ⊎_elim
      (λ broken. inl (
        whole ∙ ap (λ (x : InputRest). record { bytes = front ++ x.bytes; failure = x.failure }) broken.0,
        broken.1 ∙ ap (λ n. fault_of p.input (verdict_at n ReadFault)) (sym far),
      ))
      (λ full. inr (
        omega (arith, far, full.0),
        (
          full.1.0,
          full.1.1,
          ap (λ (x : InputRest). x.bytes) whole ∙ ap (λ xs. front ++ xs) full.1.2 ∙ sym (append_assoc front p.held _),
        ),
        full.2,
      ))
      (subst (λ (o : Option InputRest). IfSome o (λ x. Halts p x fault)) (b.there p.held) halts)))

module _ {R : Type 0} (can : R → InputRest → Type 0) where
  read_before : (start : ℕ) (front : List ℕ) (p q : Position R) → HasRead can p q
      → HasRead can (before start front p) (before start front q)
  read_before start front p q on = record {
    offset = refl;
    stage = on.stage;
    failed = on.failed;
    reads = λ later g. (
        let x = on.reads later g in
        (x.0, x.1, reads_before start front (with_rest p x.0) (with_rest q later) x.2));
  }

  stops_before : (start : ℕ) (front : List ℕ) (p : Position R) (fault : Fault) → p.offset ≡ start + length front → StopsAt can p fault
      → StopsAt can (before start front p) fault
  stops_before start front p fault there (c, possible, inl memory) = (c, possible, inl memory)
  stops_before start front p fault there (c, possible, inr halts) =
      (c, possible, inr (halts_before start front (with_rest p c) fault there halts))

-- ---- a search for the end of a line
none_if_far : (bytes : List ℕ) → length bytes ≤ position_or_len is_line_end bytes → position is_line_end bytes ≡ None
none_if_far bytes far = rw (le-ltb _ _ far) refl

far_in_front : (n : ℕ) (bytes : List ℕ) → length bytes ≤ position_or_len is_line_end bytes
    → length (take n bytes) ≤ position_or_len is_line_end (take n bytes)
far_in_front zero bytes far = omega arith
far_in_front (suc n) [] far = omega arith
far_in_front (suc n) (b ∷ bytes) far =
    elim (is_line_end b) as (λ t. suc (length bytes) ≤ cond (not t) (1 + position_or_len is_line_end bytes) 0
    → suc (length (take n bytes)) ≤ cond (not t) (1 + position_or_len is_line_end (take n bytes)) 0) [
      | true ↦ λ none. absurd (omega (arith, none))
      | false ↦ λ more. (let on = far_in_front n bytes (omega (arith, more)) in omega (arith, on))
    ] far

far_behind : (n : ℕ) (bytes : List ℕ) → length bytes ≤ position_or_len is_line_end bytes
    → length (drop n bytes) ≤ position_or_len is_line_end (drop n bytes)
far_behind zero bytes far = far
far_behind (suc n) [] far = omega arith
far_behind (suc n) (b ∷ bytes) far =
    elim (is_line_end b) as (λ t. suc (length bytes) ≤ cond (not t) (1 + position_or_len is_line_end bytes) 0
    → length (drop n bytes) ≤ position_or_len is_line_end (drop n bytes)) [
      | true ↦ λ none. absurd (omega (arith, none))
      | false ↦ λ more. far_behind n bytes (omega (arith, more))
    ] far

none_in_front : (n : ℕ) (bytes : List ℕ) → position is_line_end bytes ≡ None → position is_line_end (take n bytes) ≡ None
none_in_front n bytes none = none_if_far (take n bytes) (far_in_front n bytes (nowhere is_line_end bytes none))

none_behind : (n : ℕ) (bytes : List ℕ) → position is_line_end bytes ≡ None → position is_line_end (drop n bytes) ≡ None
none_behind n bytes none = none_if_far (drop n bytes) (far_behind n bytes (nowhere is_line_end bytes none))

module _ (front more : List ℕ) (none : position is_line_end front ≡ None) where
  within : length front ≤ length (front ++ more)
  within = omega (arith, length-append front more)

  none_before : position is_line_end (take (length front) (front ++ more)) ≡ None
  none_before = ap (position is_line_end) (take_at front more (length front) refl) ∙ none

  none_in_both : position is_line_end more ≡ None → position is_line_end (front ++ more) ≡ None
  none_in_both after =
      sym (none_after is_line_end (front ++ more) (length front) within none_before
      (ap (position is_line_end) (took more front (front ++ more) (length front) refl refl) ∙ after))

  end_in_both : (n : ℕ) → position is_line_end more ≡ Some n → position is_line_end (front ++ more) ≡ Some (length front + n)
  end_in_both n after =
      sym (some_after is_line_end (front ++ more) (length front) within none_before n
      (ap (position is_line_end) (took more front (front ++ more) (length front) refl refl) ∙ after))

-- ---- the refusal of a line
-- The line up to its end is refused.
line_up_to : (b : ℕ) (more : List ℕ) (n : ℕ) → begins_unknown b ≡ true → position is_line_end (b ∷ more) ≡ Some n
    → reading_line (take n (b ∷ more)) ≡ Err (unknown_reason (take n (b ∷ more)))
line_up_to b more n unknown found =
    let at = somewhere is_line_end (b ∷ more) n found in
    let k : ℕ = position_or_len is_line_end more in
    let one : n ≡ suc k = sym at.0 ∙ ap (λ t. cond (not t) (1 + k) 0) (not_an_end b unknown) ∙ omega arith in
    subst (λ m. reading_line (take m (b ∷ more)) ≡ Err (unknown_reason (take m (b ∷ more)))) (sym one)
    (unknown_read b (take k more) unknown)

-- The bytes held begin such a line.
pub holds_by_first : {C : Type 0} (p : Position C) → p.stage ≡ Some InOpl → 0 < length p.held
    → begins_unknown (slice_index p.held 0) ≡ true → HoldsUnknown p
holds_by_first p stage some unknown = (stage, (slice_index p.held 0, drop 1 p.held, first_of p.held some, unknown))

-- The front of the line at the position `p` was tested and dropped, and `q` is after it.
pub record Follows {R : Type 0} (can : R → InputRest → Type 0) (p q : Position R) (test : TestedFront) : Type 0 where
  pub front : List ℕ
  pub tested : IsTested test front
  pub there : q.offset ≡ p.offset + length front
  pub on : HasRead can p (before p.offset front q)
  pub unknown : HoldsUnknown (before p.offset front q)
  pub ends : position is_line_end front ≡ None
  pub input : q.input ≡ p.input

module _ {R : Type 0} (can : R → InputRest → Type 0) (p : Position R) where
  -- Nothing was dropped.
  pub follows_itself : HoldsUnknown p → Follows can p p Utf8
  follows_itself unknown = record {
    front = [];
    tested = IsUtf8-nil;
    there = omega arith;
    on = has_read can p;
    unknown = unknown;
    ends = refl;
    input = refl;
  }

  -- No line ends in the bytes held, if no unit is whole in them.
  pub no_line_held : HoldsUnknown p → unit_at (state_at p) p.held ≡ None → position is_line_end p.held ≡ None
  no_line_held unknown nothing =
      no_end p.held (sym (unit_in_opl p.held) ∙ (λ i. unit_at (state_or_start (sym unknown.0 i) p.held) p.held) ∙ nothing)

  -- More bytes were tested and dropped.
  pub follows_dropped : (m q : Position R) (test later : TestedFront) → Follows can p m test → position is_line_end m.held ≡ None
      → DropsTested m test later q → Follows can p q later × (position is_line_end q.held ≡ None)
  follows_dropped m q test later f none (n, few, is, tested) =
      let front : List ℕ = f.front ++ take n m.held in
      let held : front ++ drop n m.held ≡ f.front ++ m.held =
      append_assoc f.front (take n m.held) (drop n m.held) ∙ ap (λ xs. f.front ++ xs) (take-append-drop n m.held) in
      let same : before p.offset front q ≡ before p.offset f.front m =
      ap (before p.offset front) is ∙ (λ i. record m { offset = p.offset; held = held i }) in (
        record {
          front = front;
          tested = tested f.front f.tested;
          there = omega (
            arith,
            f.there,
            ap (λ x. x.offset) is,
            length-append f.front (take n m.held),
            length-take n m.held,
            few,
          );
          on = subst (HasRead can p) (sym same) f.on;
          unknown = subst HoldsUnknown (sym same) f.unknown;
          ends = none_in_both f.front (take n m.held) f.ends (none_in_front n m.held none);
          input = ap (λ x. x.input) is ∙ f.input;
        },
        ap (λ x. position is_line_end x.held) is ∙ none_behind n m.held none,
      )

  -- More bytes were read.
  pub follows_read : (q r : Position R) (test : TestedFront) → Follows can p q test → HasRead can q r → r.input ≡ q.input
      → take (length q.held) r.held ≡ q.held → Follows can p r test
  follows_read q r test f read input same =
      let new : List ℕ = drop (length q.held) r.held in
      let held : r.held ≡ q.held ++ new = sym (take-append-drop (length q.held) r.held) ∙ ap (λ xs. xs ++ new) same in
      let first = f.unknown.1 in
      record {
        front = f.front;
        tested = f.tested;
        there = read.offset ∙ f.there;
        on = read_further can p (before p.offset f.front q) (before p.offset f.front r) f.on (read_before can p.offset f.front q r read);
        unknown = (
          read.stage ∙ f.unknown.0,
          (
            first.0,
            first.1 ++ new,
            ap (λ xs. f.front ++ xs) held ∙ sym (append_assoc f.front q.held new) ∙ ap (λ xs. xs ++ new) first.2,
            first.3,
          ),
        );
        ends = f.ends;
        input = input ∙ f.input;
      }

  module _ (q r : Position R) (test : TestedFront) (f : Follows can p q test) (fine : p.failed ≡ false) (failed : r.failed ≡ true)
      (bound : q.offset + length q.held < 2 ^ 62) (fault : Fault) where
    -- the position at which the line's bytes are held from its first one on
    abbrev start : Position R
    start = before p.offset f.front q

    abbrev line : List ℕ
    line = f.front ++ q.held

    far : p.offset + length line ≡ q.offset + length q.held
    far = omega (arith, length-append f.front q.held, f.there)

    start_bound : p.offset + length line < 2 ^ 62
    start_bound = omega (arith, far, bound)

    passed : HasPassed can p start
    passed = gone_read can p p start (has_gone can p) f.on f.input

    start_fine : start.failed ≡ false
    start_fine = f.on.failed ∙ fine

    refused : StepsOn can start (Err fault) r → StepsOn can p (Err fault) r
    refused step = steps_from can p start r (Err fault) passed fine step

    nothing : position is_line_end q.held ≡ None → unit_at (state_at start) line ≡ None
    nothing none =
        (λ i. unit_at (state_or_start (f.unknown.0 i) line) line) ∙ unit_in_opl line
        ∙ no_line line (none_in_both f.front q.held f.ends none)

    -- No more bytes can be read.
    pub unread_refused : position is_line_end q.held ≡ None → StopsAt can q fault → StepsOn can p (Err fault) r
    unread_refused none stops =
        refused (fill_refused can start r fault start_fine failed (nothing none) start_bound
        (stops_before can p.offset f.front q fault f.there stops))

    -- The line's end is held.
    pub ended_refused : (n : ℕ) (reason : OplReason) → position is_line_end q.held ≡ Some n
        → reason ≡ unknown_reason (f.front ++ take n q.held) → fault ≡ fault_at q.input p.offset (of_line reason)
        → (one : InputRest) → can q.rest one → StepsOn can p (Err fault) r
    ended_refused n reason found is at one possible =
        let b = f.unknown.1.0 in
        let k : ℕ = length f.front + n in
        let end : position is_line_end line ≡ Some k = end_in_both f.front q.held f.ends n found in
        let read : reading_line (take k line) ≡ Err (unknown_reason (take k line)) =
        subst (λ xs. reading_line (take k xs) ≡ Err (unknown_reason (take k xs))) (sym f.unknown.1.2)
        (line_up_to b f.unknown.1.1 k f.unknown.1.3 (ap (position is_line_end) (sym f.unknown.1.2) ∙ end)) in
        let refusal : reading_line (take k line) ≡ Err reason =
        read ∙ ap (λ xs. Err (unknown_reason xs)) (take-append-add f.front q.held n) ∙ ap Err (sym is) in
        let finds : FindsUnit start (Err (of_line reason)) start =
        refused_line start (of_line reason) f.unknown.0 (line_refused line k end reason (of_line reason) refl (inr refusal)) in
        refused (unit_refused can start start r (of_line reason) fault one possible start_fine failed start_bound finds at)

    module _ (ended : q.ended ≡ true) (none : position is_line_end q.held ≡ None) (one : InputRest) (possible : can q.rest one) where
      -- The input ended, and lacks its end.
      pub cut_refused_there : lacks_end q.end ≡ true → fault ≡ fault_at q.input (q.offset + length q.held) NoEnd
          → StepsOn can p (Err fault) r
      cut_refused_there lacks at =
          refused (cut_refused can start r fault start_fine failed (nothing none) start_bound ended lacks
          (at ∙ ap (λ n. fault_at q.input n NoEnd) (sym far)) one possible)

      -- The input ended as its rule says.
      pub last_refused : (reason : OplReason) → lacks_end q.end ≡ false → reason ≡ unknown_reason line
          → fault ≡ fault_at q.input p.offset (of_line reason) → StepsOn can p (Err fault) r
      last_refused reason uncut is at =
          let read : reading_line line ≡ Err reason =
          subst (λ xs. reading_line xs ≡ Err (unknown_reason xs)) (sym f.unknown.1.2)
          (unknown_read f.unknown.1.0 f.unknown.1.1 f.unknown.1.3) ∙ ap Err (sym is) in
          let last : FindsLast (last_at (state_at start) line) (Err (of_line reason)) =
          inr ((λ i. version_of_unit (last_at (state_or_start (f.unknown.0 i) line) line))
          ∙ ap version_of_unit (last_in_opl line ∙ ap line_found read)) in
          refused (refused_ever can start r fault one possible start_fine failed
          (last_refuses (with_rest start one) (nothing none) start_bound uncut ended (of_line reason) fault last at))

-- As many bytes were read.
pub dropped_bound : {C : Type 0} (m q : Position C) (test later : TestedFront) → DropsTested m test later q
    → m.offset + length m.held < 2 ^ 62 → q.offset + length q.held < 2 ^ 62
dropped_bound m q test later (n, few, is, tested) bound =
    omega (arith, few, bound, ap (λ x. x.offset) is, ap (λ x. length x.held) is, length-drop n m.held)

-- Less is left over after more bytes were read.
pub lessens : {R : Type 0} (p m q : Position R) (n : ℕ) → n ≤ length p.held
    → m ≡ record p { offset = p.offset + n; held = drop n p.held } → p.ended ≡ false → p.offset + length p.held < 2 ^ 62
    → q.offset ≡ m.offset → q.ended ≡ false → (q.ended ≡ true) ⊎ (length m.held < length q.held) → left_over q < left_over p
lessens p m q n few is unended bound offset going more =
    let longer : length m.held < length q.held =
    ⊎_elim (λ ended. absurd (false≢true (sym going ∙ ended))) (λ longer. longer) more in
    let held : length m.held ≡ length p.held - n = ap (λ x. length x.held) is ∙ length-drop n p.held in
    let there : m.offset ≡ p.offset + n = ap (λ x. x.offset) is in
    rw (going, unended) (omega (arith, few, held, there, longer, offset, bound))
