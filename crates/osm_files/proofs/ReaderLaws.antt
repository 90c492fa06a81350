-- The steps of a reading, over all that its reader can give: each law is one of positions with their rests, before and
-- after.
use Rattle.std.proofs.Common.{◌≡◌, ◌⊎◌, inl, inr, ℕ, ◌+◌, ◌-◌, ◌≤◌, ◌<◌, ◌^◌, true, false, cond, List, [], ◌++◌, length, drop, refl, sym}
use Rattle.std.proofs.Common.{ap, ◌∙◌, subst, arith, Option, Some, None, option_map, IfSome, Result, Ok, Err, length-drop}
use Rattle.std.proofs.Common.{take, append_assoc, length-append}
use Rattle.std.proofs.Math.Seq.{drop-append_seam}
use Rattle.std.proofs.lemmas.List.{append-nil, nil_from_length, take_all}
use Rattle.osm_files.specs.declared.fault.Fault.{Fault}
use Rattle.osm_files.specs.declared.reason.Reason.{Reason}
use Rattle.osm_files.specs.declared.reason.Reason.TheVariants.{Memory, ReadFault, NoEnd}
use Rattle.osm_files.specs.Fault.{memory_fault, too_long_fault, fault_at}
use Rattle.osm_files.specs.Input.{InputRest, whole_input, broken_input, with_front, Gave}
use Rattle.osm_files.specs.Stream.{Placed, new_placed, SourceRest, end_refused}
use Rattle.osm_files.specs.Units.{unit_at}
use Rattle.osm_files.specs.declared.unit.ReadUnit.{ReadUnit}
use Rattle.osm_files.specs.Source.{SourceStep, StepsOn}
use Rattle.osm_files.specs.Position.{Position, KnownPosition, with_rest, Between, rest_of_bytes, rest_of_units, units_or_failed}
use Rattle.osm_files.specs.EndRule.{lacks_end, test_after, failure_if, cut_if, by_test}
use Rattle.osm_files.proofs.EndRuleLaws.{lacks_nothing, test_on}
use Rattle.osm_files.proofs.FailureLaws.{failure_stays}
use Rattle.osm_files.specs.Position.{units_left, KeepsRest, ReadsOn, HasRead}
use Rattle.osm_files.specs.Position.{Halts, StopsAt, state_at, FindsUnit}
use Rattle.osm_files.specs.Load.{determines_format}
use Rattle.osm_files.proofs.FillLaws.{ahead_open, fill_full, kept, keeps_on}
use Rattle.osm_files.proofs.GroupLaws.{step_on}
use Rattle.osm_files.proofs.LoadLaws.{format_refused}
use Rattle.osm_files.proofs.PositionLaws.{goes_on, goes_further, reads_go_on, ended_ahead, stopped, cut_at_end}
use Rattle.osm_files.proofs.ReadingLaws.{GoesOver, telling_found, none_goes_on, held_size, held_goes_over, held_refuses, over_gives}
use Rattle.osm_files.proofs.ReadingLaws.{over_passes, refusal_step, keeps_still}

-- no version was given, and a known rest is unchanged; units without a version may have been passed
pub record HasPassed {R : Type 0} (can : R → InputRest → Type 0) (p q : Position R) : Type 0 where
  pub input : q.input ≡ p.input
  pub offset : p.offset ≤ q.offset
  pub failed : q.failed ≡ p.failed
  pub goes : Between can p q KeepsRest

-- a bound on the bytes still to be passed, and on those still to be read before the end is found
abbrev pub left_over : {R : Type 0} → Position R → ℕ
left_over p = units_left p + cond p.ended 0 (1 + (2 ^ 62 - (p.offset + length p.held)))

reads_on : (p : KnownPosition) → ReadsOn p p
reads_on p = record { input = refl; offset = refl; stage = refl; failed = refl; ahead = kept (rest_of_bytes p) }

reads_further : (p m q : KnownPosition) → ReadsOn p m → ReadsOn m q → ReadsOn p q
reads_further p m q a b = record {
  input = b.input ∙ a.input;
  offset = b.offset ∙ a.offset;
  stage = b.stage ∙ a.stage;
  failed = b.failed ∙ a.failed;
  ahead = keeps_on (rest_of_bytes p) (rest_of_bytes m) (rest_of_bytes q) a.ahead b.ahead;
}

-- the bytes after those held are the new ones
pub took : (front held all : List ℕ) (n : ℕ) → all ≡ held ++ front → n ≡ length held → take (length all - n) (drop n all) ≡ front
took front held all n is size =
    let dropped : drop n all ≡ front = (λ i. drop (size i) (is i)) ∙ drop-append_seam held front in
    ap (take (length all - n)) dropped
    ∙ take_all (length all - n) front (omega (arith, ap length is, length-append held front, size))

module _ {R : Type 0} (can : R → InputRest → Type 0) where
  -- ---- steps in sequence
  pub then_on : (p m q : Position R) (P Q S : KnownPosition → KnownPosition → Type 0) → ((a b c : KnownPosition) → P a b → Q b c → S a c) →
      Between can p m P
      → Between can m q Q → Between can p q S
  then_on p m q P Q S law first second later g =
      let y = second later g in
      let x = first y.0 y.1 in
      (x.0, x.1, law (with_rest p x.0) (with_rest m y.0) (with_rest q later) x.2 y.2)

  -- a consequence of a step for both of its ends
  pub weaker_step : (p q : Position R) (P Q : KnownPosition → KnownPosition → Type 0) → ((a b : KnownPosition) → P a b → Q a b) →
      Between can p q P → Between can p q Q
  weaker_step p q P Q law step later g =
      let x = step later g in
      (x.0, x.1, law (with_rest p x.0) (with_rest q later) x.2)

  -- nothing was read
  pub unread : (p q : Position R) (P : KnownPosition → KnownPosition → Type 0) → q.rest ≡ p.rest →
      ((c : InputRest) → P (with_rest p c) (with_rest q c))
      → Between can p q P
  unread p q P same steps later g = (later, subst (λ r. can r later) same g, steps later)

  -- A position without a change has gone over units.
  pub has_gone : (p : Position R) → HasPassed can p p
  has_gone p = record {
    input = refl;
    offset = omega arith;
    failed = refl;
    goes =
        unread p p KeepsRest refl (λ c. goes_on (with_rest p c));
  }

  -- nothing was read since
  pub gone_then : (p m q : Position R) (P : KnownPosition → KnownPosition → Type 0) → HasPassed can p m → q.rest ≡ m.rest
      → ((a : KnownPosition) (c : InputRest) → KeepsRest a (with_rest m c) → P a (with_rest q c)) → Between can p q P
  gone_then p m q P on same law later g =
      let x = on.goes later (subst (λ r. can r later) same g) in
      (x.0, x.1, law (with_rest p x.0) later x.2)

  -- If no unit is whole in the bytes held, nothing more was gone over.
  pub gone_none : (p m q : Position R) → HasPassed can p m → FindsUnit m (Ok None) q → q.rest ≡ m.rest → q.input ≡ m.input
      → q.offset ≡ m.offset → q.failed ≡ m.failed → HasPassed can p q
  gone_none p m q on found same input offset failed = record {
    input = input ∙ on.input;
    offset = omega (arith, on.offset, offset);
    failed = failed ∙ on.failed;
    goes =
        gone_then p m q KeepsRest on same
        (λ a c goes. goes_further a (with_rest m c) (with_rest q c) goes
        (none_goes_on (with_rest m c) (with_rest q c) (telling_found m q (Ok None) c found)));
  }

  -- A position that has gone over units and then has read more bytes has gone over units.
  pub gone_read : (p m q : Position R) → HasPassed can p m → HasRead can m q → q.input ≡ m.input → HasPassed can p q
  gone_read p m q on read input = record {
    input = input ∙ on.input;
    offset = omega (arith, on.offset, read.offset);
    failed = read.failed ∙ on.failed;
    goes = then_on p m q KeepsRest ReadsOn KeepsRest (λ a b c goes reads. goes_further a b c goes (reads_go_on b c reads)) on.goes
        read.reads;
  }

  -- ---- reading more bytes
  -- the end of the input was found
  pub fill_ended : (p q : Position R) (front : List ℕ) → p.ended ≡ false → q.ended ≡ true → q.input ≡ p.input → q.offset ≡ p.offset
      → q.stage ≡ p.stage → q.end ≡ p.end → q.failed ≡ p.failed → q.held ≡ p.held ++ front → length front ≡ 0
      → can p.rest (whole_input []) → HasRead can p q
  fill_ended p q front unended ended input offset stage end failed held none ends =
      let same : q.held ≡ p.held ++ [] = held ∙ ap (λ xs. p.held ++ xs) (nil_from_length front none) in
      record {
        offset = offset;
        stage = stage;
        failed = failed;
        reads = λ later g. (
          whole_input [],
          ends,
          record {
            input = input;
            offset = offset;
            stage = stage;
            failed = failed;
            ahead =
                subst (λ (o : Option InputRest). IfSome o (λ x. rest_of_bytes (with_rest q later) ≡ Some x))
                (sym (ahead_open (with_rest p (whole_input [])) unended))
                (ended_ahead (with_rest q later) ended
                ∙ (λ i. Some (cut_if ((ap lacks_end end ∙ sym (lacks_nothing p.end)) i) (whole_input (same i)))));
          },
        );
      }

  -- more bytes came
  pub fill_more : (p q : Position R) (front : List ℕ) → p.ended ≡ false → q.ended ≡ false → q.input ≡ p.input → q.offset ≡ p.offset
      → q.stage ≡ p.stage → q.end ≡ test_after p.end front → q.failed ≡ p.failed → q.held ≡ p.held ++ front
      → Gave can p.rest q.rest front → HasRead can p q
  fill_more p q front going unended input offset stage end failed held gave = record {
    offset = offset;
    stage = stage;
    failed = failed;
    reads = λ later g. (
        let (c, could, joined) = gave later g in (
          c,
          could,
          record {
            input = input;
            offset = offset;
            stage = stage;
            failed = failed;
            ahead =
                subst (λ (o : Option InputRest). IfSome o (λ x. rest_of_bytes (with_rest q later) ≡ Some x))
                (sym (ahead_open (with_rest p c) going))
                (ahead_open (with_rest q later) unended
                ∙ (λ i. Some (record {
                  bytes = (ap (λ xs. xs ++ later.bytes) held ∙ append_assoc p.held front later.bytes) i;
                  failure = failure_if
                      ((ap (λ e. lacks_end (test_after e later.bytes)) end ∙ test_on p.end front later.bytes) i) later.failure;
                }))
                ∙ ap (λ (x : InputRest). Some (with_front p.held (by_test p.end x))) (sym joined));
          },
        ));
  }

  -- memory ran out, or the input failed
  pub fill_stopped : (p : Position R) (one : InputRest) (reason : Reason) (fault : Fault) → can p.rest one
      → (reason ≡ Memory) ⊎ (reason ≡ ReadFault) → (reason ≡ ReadFault → can p.rest (broken_input [])) → p.ended ≡ false
      → fault ≡ fault_at p.input (p.offset + length p.held) reason → StopsAt can p fault
  fill_stopped p one reason fault possible (inl e) broken unended is =
      (one, possible, inl (is ∙ ap (fault_at p.input (p.offset + length p.held)) e))
  fill_stopped p one reason fault possible (inr e) broken unended is = (
    broken_input [],
    broken e,
    inr (subst (λ (o : Option InputRest). IfSome o (λ c. Halts (with_rest p (broken_input [])) c fault))
        (sym (ahead_open (with_rest p (broken_input [])) unended))
        (inl (
          (λ i. record {
            bytes = append-nil p.held i;
            failure = failure_stays (lacks_end (test_after p.end [])) ReadFault i;
          }),
          is ∙ ap (fault_at p.input (p.offset + length p.held)) e,
        ))),
  )

  -- one byte came after as many as a file may have
  pub fill_limit : (p : Position R) (later earlier : InputRest) (front : List ℕ) (fault : Fault) → can p.rest earlier
      → earlier ≡ with_front front later → 0 < length front → p.ended ≡ false → p.offset + length p.held + 1 ≡ 2 ^ 62
      → fault ≡ too_long_fault p.input → StopsAt can p fault
  fill_limit p later earlier front fault possible is some unended full fault_is =
      (earlier, possible, fill_full (with_rest p earlier) (Some later) front fault unended (ap Some is) some full fault_is)

  -- A position without a change has read.
  pub has_read : (p : Position R) → HasRead can p p
  has_read p = record { offset = refl; stage = refl; failed = refl; reads = unread p p ReadsOn refl (λ c. reads_on (with_rest p c)) }

  -- Reading on twice is reading on.
  pub read_further : (p m q : Position R) → HasRead can p m → HasRead can m q → HasRead can p q
  read_further p m q first second = record {
    offset = second.offset ∙ first.offset;
    stage = second.stage ∙ first.stage;
    failed = second.failed ∙ first.failed;
    reads = then_on p m q ReadsOn ReadsOn ReadsOn reads_further first.reads second.reads;
  }

  -- ---- the format
  -- no more can be read
  pub format_stops : (p m q : Position R) → HasRead can p m → p.offset ≡ 0 → p.stage ≡ None → p.failed ≡ false →
      determines_format m.held ≡ false
      → (fault : Fault) → StopsAt can m fault → q.failed ≡ true → StepsOn can p (Err fault) q
  format_stops p m q on first unseen fine shown fault stops failed later g =
      let x = on.reads stops.0 stops.1 in (
        x.0,
        x.1,
        format_refused (with_rest p x.0) (with_rest m stops.0) (with_rest q later) x.2 first unseen fine shown fault stops.2
            failed,
      )

  -- ---- the next version
  -- the effect of a step after steps that gave nothing
  pub steps_from : (p m q : Position R) (r : Result (Option Placed) Fault) → HasPassed can p m → p.failed ≡ false → StepsOn can m r q
      → StepsOn can p r q
  steps_from p m q r on fine step later g =
      let y = step later g in
      let x = on.goes y.0 y.1 in
      let before = units_or_failed (with_rest p x.0) in (
        x.0,
        x.1,
        step_on before (units_or_failed (with_rest m y.0)) (units_or_failed (with_rest q later)) r
            (keeps_still (with_rest p x.0) (with_rest m y.0) x.2 fine) y.2,
      )

  -- Going over units twice is going over units.
  pub gone_further : (p m q : Position R) → HasPassed can p m → HasPassed can m q → HasPassed can p q
  gone_further p m q a b = record {
    input = b.input ∙ a.input;
    offset = omega (arith, a.offset, b.offset);
    failed = b.failed ∙ a.failed;
    goes = then_on p m q KeepsRest KeepsRest KeepsRest goes_further a.goes b.goes;
  }

  -- a unit of the bytes held was passed
  module _ (m q r : Position R) (u : ReadUnit) (bound : m.offset + length m.held < 2 ^ 62) (found : FindsUnit m (Ok (Some u)) q)
      (gone : r ≡ record q { offset = q.offset + u.size; held = drop u.size q.held }) where
    same_input : r.input ≡ m.input
    same_input = ap (λ v. v.input) gone ∙ (held_size m q u found).3

    same_rest : r.rest ≡ m.rest
    same_rest = ap (λ v. v.rest) gone ∙ ap (λ v. v.rest) found.2

    same_failed : r.failed ≡ m.failed
    same_failed = ap (λ v. v.failed) gone ∙ (held_size m q u found).4

    -- A unit leads to a later offset.
    pub unit_further : m.offset < r.offset
    unit_further = let size = held_size m q u found in omega (arith, size.0, size.2, ap (λ v. v.offset) gone)

    -- After a unit, less is left over.
    pub unit_lessens : left_over r < left_over m
    unit_lessens =
        let size = held_size m q u found in
        let ended : r.ended ≡ m.ended = ap (λ v. v.ended) gone ∙ ap (λ v. v.ended) found.2 in
        let held : length r.held ≡ length m.held - u.size =
        ap (λ v. length v.held) gone ∙ length-drop u.size q.held ∙ ap (λ v. length v.held - u.size) found.2 in
        let within : u.size ≤ length m.held = subst (λ (v : Position R). u.size ≤ length v.held) found.2 size.1 in
        let offset : r.offset ≡ m.offset + u.size = ap (λ v. v.offset) gone ∙ ap (λ n. n + u.size) size.2 in
        subst (λ t. units_left r + cond t 0 (1 + (2 ^ 62 - (r.offset + length r.held))) < left_over m) (sym ended)
        (elim m.ended as (λ t. units_left r + cond t 0 (1 + (2 ^ 62 - (r.offset + length r.held))) < units_left m + cond t 0
        (1 + (2 ^ 62 - (m.offset + length m.held)))) [
          | true ↦ omega (arith, size.0, offset, bound, within)
          | false ↦ omega (arith, size.0, offset, held, within, bound)
        ])

    over : (c : InputRest) (given : Option Placed) → given ≡ option_map (new_placed q.offset) u.version →
        GoesOver (with_rest m c) given (with_rest r c)
    over c given is =
        held_goes_over (with_rest m c) (with_rest q c) (with_rest r c) u given bound (telling_found m q (Ok (Some u)) c found) is
        (ap (λ v. with_rest v c) gone)

    -- A unit with a version is a step that gives it.
    pub unit_gives : m.failed ≡ false → (given : Placed) → Some given ≡ option_map (new_placed q.offset) u.version
        → StepsOn can m (Ok (Some given)) r
    unit_gives fine given is =
        unread m r (λ a b. SourceStep (units_or_failed a) (Ok (Some given)) (units_or_failed b)) same_rest
        (λ c. over_gives (with_rest m c) (with_rest r c) given fine same_failed (over c (Some given) is))

    -- A unit without a version is gone over.
    pub unit_passes : None ≡ option_map (new_placed q.offset) u.version → HasPassed can m r
    unit_passes is = record {
      input = same_input;
      offset = omega (arith, unit_further);
      failed = same_failed;
      goes =
          unread m r KeepsRest same_rest
          (λ c. over_passes (with_rest m c) (with_rest r c) same_input (omega (arith, unit_further)) same_failed (over c None is));
    }

  -- ---- refusals
  -- the reading is refused, now and ever after
  pub refused_ever : (m r : Position R) (fault : Fault) (one : InputRest) → can m.rest one → m.failed ≡ false → r.failed ≡ true
      → (fault ≡ memory_fault) ⊎ IfSome (rest_of_units (with_rest m one)) (λ s. s ≡ end_refused fault) → StepsOn can m (Err fault) r
  refused_ever m r fault one possible fine failed refuses later g =
      (one, possible, refusal_step (with_rest m one) (with_rest r later) fault fine failed refuses)

  -- for a unit that is held
  pub unit_refused : (m q r : Position R) (reason : Reason) (fault : Fault) (one : InputRest) → can m.rest one → m.failed ≡ false
      → r.failed ≡ true → m.offset + length m.held < 2 ^ 62 → FindsUnit m (Err reason) q → fault ≡ fault_at m.input m.offset reason
      → StepsOn can m (Err fault) r
  unit_refused m q r reason fault one possible fine failed bound found is =
      refused_ever m r fault one possible fine failed
      (held_refuses (with_rest m one) (with_rest q one) reason fault bound (telling_found m q (Err reason) one found) is)

  -- because no more can be read
  pub fill_refused : (m r : Position R) (fault : Fault) → m.failed ≡ false → r.failed ≡ true → unit_at (state_at m) m.held ≡ None
      → m.offset + length m.held < 2 ^ 62 → StopsAt can m fault → StepsOn can m (Err fault) r
  fill_refused m r fault fine failed nothing bound stops =
      refused_ever m r fault stops.0 stops.1 fine failed (stopped (with_rest m stops.0) nothing bound fault stops.2)

  -- because the end of the file is missing
  pub cut_refused : (m r : Position R) (fault : Fault) → m.failed ≡ false → r.failed ≡ true → unit_at (state_at m) m.held ≡ None
      → m.offset + length m.held < 2 ^ 62 → m.ended ≡ true → lacks_end m.end ≡ true
      → fault ≡ fault_at m.input (m.offset + length m.held) NoEnd → (one : InputRest) → can m.rest one → StepsOn can m (Err fault) r
  cut_refused m r fault fine failed nothing bound ended lacks is one possible =
      let p = with_rest m one in
      refused_ever m r fault one possible fine failed
      (inr (subst (λ (o : Option (SourceRest Placed Fault)). IfSome o (λ s. s ≡ end_refused fault))
      (sym (cut_at_end p nothing bound lacks ended)) (ap end_refused (sym is))))
