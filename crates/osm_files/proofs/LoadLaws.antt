-- A whole file, loaded version by version.
use Rattle.std.proofs.Common.{◌≡◌, ◌⊎◌, inl, inr, ⊎_elim, ◌↔◌, ℕ, ◌+◌, ◌-◌, ◌≤◌, ◌<◌, ◌==◌, ◌||◌, ◌&&◌, ◌^◌, Bool, true, false, not, cond}
use Rattle.std.proofs.Common.{IsTrue, List, [], ◌∷◌, ◌++◌, length, take, get_or, refl, sym, ap, ◌∙◌, subst, arith, Option, Some, None}
use Rattle.std.proofs.Common.{option_map, IfSome, Ok, Err, append_assoc, length-append, nat_lt, nat_le}
use Rattle.std.specs.List.Sorted.{IsSorted}
use Rattle.std.specs.Ordering.{is_lt}
use Rattle.std.proofs.lemmas.Bool.{false≢true, leb-false, lt-ltb}
use Rattle.std.proofs.lemmas.Bool.Decides.{nat_tests}
use Rattle.std.proofs.lemmas.List.{append-nil, get_or_append_left}
use Rattle.std.proofs.lemmas.List.Kept.{IsSortedBy-push}
use Rattle.std.proofs.lemmas.Option.{slice_get-get_or, MatchOption-at_some, IfSome_then, none-some}
use Rattle.std.proofs.Math.Seq.{get_or-append_seam}
use Rattle.osm_model.specs.Data.{VersionData}
use Rattle.osm_model.specs.Order.{version_cmp, key_cmp}
use Rattle.osm_model.specs.Sets.{from_list}
use Rattle.osm_files.specs.declared.fault.Fault.{Fault}
use Rattle.osm_files.specs.declared.format.Format.{Format}
use Rattle.osm_files.specs.declared.load.Loaded.{Loaded}
use Rattle.osm_files.specs.Fault.{memory_fault}
use Rattle.osm_files.specs.Input.{InputRest, whole_input as all_of}
use Rattle.osm_files.specs.Stream.{Verdict, verdict_at, Placed, SourceRest}
use Rattle.osm_files.specs.Source.{SourceStep}
use Rattle.osm_files.specs.O5.{reset_byte}
use Rattle.osm_files.specs.Units.{InOpl, unit_at, units, start_of}
use Rattle.osm_files.specs.Verdict.{length_limit, too_long_verdict, file_units, versions_of, verdict, is_below, is_below_last}
use Rattle.osm_files.specs.Held.{IsFile, Holds, HoldsSorted}
use Rattle.osm_files.specs.Position.{KnownPosition, at_start_with, rest_of_bytes, units_from, with_input, rest_of_units, units_or_failed}
use Rattle.osm_files.specs.Position.{ReadsOn, KeepsRest, state_at, state_or_start}
use Rattle.osm_files.specs.Position.{fault_of, StopsFilling}
use Rattle.osm_files.specs.Load.{format_of, determines_format, IsRead, Loads, IsAcceptedWhole, StopsLoading}
use Rattle.osm_files.specs.declared.end_rule.EndTest.{EndTest}
use Rattle.osm_files.specs.EndRule.{by_test}
use Rattle.osm_model.specs.VersionSet.{VersionSet}
use Rattle.osm_files.proofs.FileLaws.{one_list, accepted_without_verdict, units_closed}
use Rattle.osm_files.proofs.PositionLaws.{from_is, none_in_nothing, reads_go_on, stopped}
use Rattle.osm_files.proofs.ReadingLaws.{keeps_still, refusal_step, come_still}
use Rattle.osm_files.proofs.GroupLaws.{step_on}

-- ---- the format
-- bytes that don't determine the format hold no whole unit
untold_unit : (b : ℕ) (held : List ℕ) → b == reset_byte ≡ true → length (b ∷ held) < 7 → unit_at (start_of (b ∷ held)) (b ∷ held) ≡ None
unfolding unit_at
untold_unit b held first short =
    let few : nat_lt (length (b ∷ held)) 7 ≡ true = lt-ltb (length (b ∷ held)) 7 short in
    rw (first, few) refl

untold : (held : List ℕ) → determines_format held ≡ false → (unit_at (start_of held) held ≡ None) × (length held < 7)
untold [] shown = (none_in_nothing InOpl, omega arith)
untold (b ∷ held) shown =
    elim (b == reset_byte) as (λ t. b == reset_byte ≡ t → not t || nat_le 7 (length (b ∷ held)) ≡ false →
    (unit_at (start_of (b ∷ held)) (b ∷ held) ≡ None) × (length (b ∷ held) < 7)) [
      | true ↦ λ first long. (let short : length (b ∷ held) < 7 = leb-false 7 (length (b ∷ held)) long in
          (untold_unit b held first short, short))
      | false ↦ λ other long. absurd (false≢true (sym long))
    ] refl shown

-- the refusal of a file of which no more can be read, and whose format isn't determined
pub format_refused : (p m q : KnownPosition) → ReadsOn p m → p.offset ≡ 0 → p.stage ≡ None → p.failed ≡ false →
    determines_format m.held ≡ false →
    (fault : Fault) → StopsFilling m fault → q.failed ≡ true → SourceStep {A = Placed} (units_or_failed p) (Err fault) (units_or_failed q)
format_refused p m q on first unseen fine shown fault stops failed =
    let k = untold m.held shown in
    let nothing : unit_at (state_at m) m.held ≡ None = ap (λ s. unit_at (state_or_start s m.held) m.held) (on.stage ∙ unseen) ∙ k.0 in
    let bound : m.offset + length m.held < 2 ^ 62 = omega (arith, on.offset, first, k.1) in
    step_on (units_or_failed p) (units_or_failed m) (units_or_failed q) (Err fault) (keeps_still p m (reads_go_on p m on) fine)
    (refusal_step m q fault (on.failed ∙ fine) failed (stopped m nothing bound fault stops))

-- ---- the versions
-- the versions so far, and the rest
abbrev pub LoadsOn : Option (SourceRest Placed Fault) → List VersionData → Option (SourceRest Placed Fault) → Type 0
LoadsOn all versions now = IfSome all (λ s. (t : SourceRest Placed Fault) × (now ≡ Some t)
    × (versions_of s.list ≡ versions ++ versions_of t.list) × (s.refusal ≡ t.refusal))

module _ (all : Option (SourceRest Placed Fault)) (versions : List VersionData) (now after : Option (SourceRest Placed Fault))
    (on : LoadsOn all versions now) where
  -- One more version was loaded.
  pub load_step : (u : Placed) → SourceStep now (Ok (Some u)) after → LoadsOn all (versions ++ u.version ∷ []) after
  load_step u step = IfSome_then all on (λ s h. (
      let k = MatchOption-at_some _ _ h.0 h.1 step in (
        k.0,
        k.2,
        h.2 ∙ ap (λ (x : SourceRest Placed Fault). versions ++ versions_of x.list) k.1
            ∙ sym (append_assoc versions (u.version ∷ []) (versions_of (k.0).list)),
        h.3 ∙ ap (λ (x : SourceRest Placed Fault). x.refusal) k.1,
      )))

  -- At the end all versions were loaded.
  pub load_ends : SourceStep {A = Placed} now (Ok None) after → IfSome all (λ s. (s.refusal ≡ None) × (versions_of s.list ≡ versions))
  load_ends step = IfSome_then all on (λ s h. (
      let k = MatchOption-at_some _ _ h.0 h.1 step.0 in (
        h.3 ∙ ap (λ (x : SourceRest Placed Fault). x.refusal) k,
        h.2 ∙ ap (λ (x : SourceRest Placed Fault). versions ++ versions_of x.list) k
            ∙ append-nil versions,
      )))

  -- A unit that can't be read stops the load.
  pub load_stops : (fault : Fault) → SourceStep {A = Placed} now (Err fault) after →
      (fault ≡ memory_fault) ⊎ IfSome all (λ s. s.refusal ≡ Some fault)
  load_stops fault step = ⊎_elim (λ e. inl e) (λ k.
      inr (IfSome_then all on (λ s h. h.3 ∙ ap (λ (x : SourceRest Placed Fault). x.refusal) (MatchOption-at_some _ _ h.0 h.1 k)))) step.0

-- before any unit was passed
pub loads_begin : (p q : KnownPosition) → KeepsRest p q → p.failed ≡ false → LoadsOn (units_or_failed p) [] (units_or_failed q)
loads_begin p q on fine =
    subst (λ (o : Option (SourceRest Placed Fault)). LoadsOn o [] (units_or_failed q)) (sym (come_still p fine))
    (IfSome_then (rest_of_units p) on.keeps (λ s e. (s, come_still q (on.failed ∙ fine) ∙ e, refl, refl)))

-- before any unit was read, for a reading that is the same
pub loads_itself : (all : Option (SourceRest Placed Fault)) → LoadsOn all [] all
loads_itself None = tt
loads_itself (Some s) = (s, refl, refl, refl)

-- before any unit was read
pub stops_at_once : (now after : Option (SourceRest Placed Fault)) (fault : Fault) → SourceStep {A = Placed} now (Err fault) after →
    (fault ≡ memory_fault) ⊎ IfSome now (λ s. s.refusal ≡ Some fault)
stops_at_once now after fault step = ⊎_elim (λ e. inl e)
    (λ k. inr (IfSome_then now k (λ s e. ap (λ (x : SourceRest Placed Fault). x.refusal) e))) step.0

-- ---- whether they are sorted
module _ (versions : List VersionData) (v : VersionData) where
  front_at : (k : ℕ) (d : VersionData) → k < length versions → get_or (versions ++ v ∷ []) k d ≡ get_or versions k d
  front_at k d within = get_or_append_left versions (v ∷ []) d k within

  front_sorted : IsSorted key_cmp (versions ++ v ∷ []) → IsSorted key_cmp versions
  front_sorted sorted = λ k d from within.
      subst (λ (x : VersionData). is_lt (key_cmp x (get_or versions k d)) ≡ false) (front_at (k + 1) d within)
      (subst (λ (x : VersionData). is_lt (key_cmp (get_or (versions ++ v ∷ []) (k + 1) d) x) ≡ false) (front_at k d (omega (arith, within)))
      (sorted k d from (omega (arith, within, length-append versions (v ∷ [])))))

  below_last : (d : VersionData) → 0 < length versions →
      is_below_last v versions ≡ is_lt (key_cmp v (get_or versions (length versions - 1) d))
  below_last d some = ap (is_below v) (slice_get-get_or versions (length versions - 1) d (omega (arith, some)))

  none_below : (xs : List VersionData) → length xs ≡ 0 → is_below_last v xs ≡ false
  none_below [] e = refl
  none_below (x ∷ xs) e = absurd (omega (arith, e))

  last_rises : IsSorted key_cmp (versions ++ v ∷ []) → is_below_last v versions ≡ false
  last_rises sorted =
      elim (nat_lt 0 (length versions)) as (λ t. nat_lt 0 (length versions) ≡ t → is_below_last v versions ≡ false) [
        | true ↦ λ is. (
            let some : 0 < length versions = grind (arith, nat_tests) in
            let n : ℕ = length versions - 1 in
            let after_it : n + 1 ≡ length versions = omega (arith, some) in
            let last : get_or (versions ++ v ∷ []) (n + 1) v ≡ v = ap (λ m. get_or (versions ++ v ∷ []) m v) after_it
            ∙ get_or-append_seam versions v [] v in
            below_last v some ∙ (λ i. is_lt (key_cmp (sym last i) (sym (front_at n v (omega (arith, some))) i)))
            ∙ sorted n v (omega arith) (omega (arith, some, length-append versions (v ∷ []))))
        | false ↦ λ is. none_below versions (let none : length versions ≤ 0 = grind (arith, nat_tests) in omega (arith, none))
      ] refl

  rises_on : (sorted : Bool) → IsTrue sorted ↔ IsSorted key_cmp versions → (below : Bool) → is_below_last v versions ≡ below →
      IsTrue (sorted && not below) ↔ IsSorted key_cmp (versions ++ v ∷ [])
  rises_on true is false e = (
    λ t. IsSortedBy-push (λ x y. is_lt (key_cmp x y)) versions v (is.0 refl)
        (λ d some. sym (below_last d some) ∙ e),
    λ s. refl,
  )
  rises_on true is true e = (λ t. absurd (false≢true t), λ s. sym (last_rises s) ∙ e)
  rises_on false is below e = (λ t. absurd (false≢true t), λ s. absurd (false≢true (is.1 (front_sorted s))))

  -- The versions stay sorted if the next one isn't below the last.
  pub sorted_on : (sorted after : Bool) → IsTrue sorted ↔ IsSorted key_cmp versions → after ≡ (sorted && not (is_below_last v versions)) →
      IsTrue after ↔ IsSorted key_cmp (versions ++ v ∷ [])
  sorted_on sorted after is e = subst (λ (b : Bool). IsTrue b ↔ IsSorted key_cmp (versions ++ v ∷ [])) (sym e)
      (rises_on sorted is (is_below_last v versions) refl)

-- ---- inputs
-- a file that ends is its units
pub whole_units : (bytes : List ℕ) → units_from None 0 (all_of bytes) ≡ file_units bytes
unfolding file_units
whole_units bytes =
    let all : 0 + length bytes ≡ length bytes = omega arith in
    let room : length_limit - 1 - 0 ≡ length_limit - 1 = omega arith in
    from_is None 0 (all_of bytes)
    ∙ (λ i. units (cond (nat_lt (all i) length_limit) None (Some too_long_verdict)) (start_of bytes) 0
    (cond (nat_lt (all i) length_limit) bytes (take (room i) bytes)))
    ∙ (elim (nat_lt (length bytes) length_limit) as (λ t.
    units (cond t None (Some too_long_verdict)) (start_of bytes) 0 (cond t bytes (take (length_limit - 1) bytes))
    ≡ cond t (units None (start_of bytes) 0 bytes) (units (Some too_long_verdict) (start_of bytes) 0 (take (length_limit - 1) bytes))) [
      | true ↦ refl
      | false ↦ refl
    ])

-- an input that isn't refused ends well
unbroken : (c : InputRest) → (units_from None 0 c).refusal ≡ None → c.failure ≡ None
unbroken c none =
    let below : Bool = nat_lt (0 + length c.bytes) length_limit in
    let bytes : List ℕ = cond below c.bytes (take (length_limit - 1 - 0) c.bytes) in
    let closes : (at_all : Verdict) (b : Bool) → (units (cond b (Some at_all) (Some too_long_verdict)) (start_of c.bytes) 0 bytes).refusal
    ≡ None → ⊥ =
    λ at_all b. elim b as (λ t. (units (cond t (Some at_all) (Some too_long_verdict)) (start_of c.bytes) 0 bytes).refusal ≡ None → ⊥) [
      | true ↦ units_closed at_all (start_of c.bytes) 0 bytes
      | false ↦ units_closed too_long_verdict (start_of c.bytes) 0 bytes
    ] in
    elim c.failure as (λ f. (units (cond below (option_map (verdict_at (0 + length c.bytes)) f) (Some too_long_verdict))
    (start_of c.bytes) 0 bytes).refusal ≡ None → f ≡ None) [
      | Some reason ↦ λ e. absurd (closes (verdict_at (0 + length c.bytes) reason) below e)
      | None ↦ λ e. refl
    ] (ap (λ s. s.refusal) (sym (from_is None 0 c)) ∙ none)

pub unnamed : (input : ℕ) (r : Option Verdict) → option_map (fault_of input) r ≡ None → r ≡ None
unnamed input None e = refl
unnamed input (Some v) e = absurd (none-some (fault_of input v) (sym e))

-- the units of an input that are its versions, with no refusal
module _ (input : ℕ) (c : InputRest) (versions : List VersionData) (none : (with_input input (units_from None 0 c)).refusal ≡ None)
    (all : versions_of (with_input input (units_from None 0 c)).list ≡ versions) where
  ends : c.failure ≡ None
  ends = unbroken c (unnamed input (units_from None 0 c).refusal none)

  are_file : units_from None 0 c ≡ file_units c.bytes
  are_file = (λ i. units_from None 0 (record { bytes = c.bytes; failure = ends i })) ∙ whole_units c.bytes

  no_verdict : verdict c.bytes ≡ None
  no_verdict = ap (λ (s : SourceRest Placed Verdict). s.refusal) (sym are_file) ∙ unnamed input (units_from None 0 c).refusal none

  file_versions : versions_of (file_units c.bytes).list ≡ versions
  file_versions = ap (λ (s : SourceRest Placed Verdict). versions_of s.list) (sym are_file) ∙ all

  is_file : IsFile c.bytes versions
  is_file = subst (IsFile c.bytes) file_versions (accepted_without_verdict c.bytes no_verdict).1

  -- An input that was read to its end gave a file.
  pub gives_file : (c.failure ≡ None) × Holds c.bytes (from_list {R = version_cmp} versions)
  gives_file = (
    ends,
    record {
      short = (accepted_without_verdict c.bytes no_verdict).0;
      versions = versions;
      file = is_file;
      members =
          refl;
    },
  )

  loads_sorted : IsSorted key_cmp versions → HoldsSorted c.bytes (from_list {R = version_cmp} versions)
  loads_sorted sorted = record {
    short = (accepted_without_verdict c.bytes no_verdict).0;
    versions = versions;
    file = is_file;
    sorted =
        sorted;
    members = refl;
  }

  sorted_loads : HoldsSorted c.bytes (from_list {R = version_cmp} versions) → IsSorted key_cmp versions
  sorted_loads holds = subst (IsSorted key_cmp) (one_list c.bytes holds.versions versions holds.file is_file) holds.sorted

  loads_all : (format : Format) (sorted : Bool) → format ≡ format_of c.bytes → IsTrue sorted ↔ IsSorted key_cmp versions →
      Loads c (record { history = from_list {R = version_cmp} versions; format = format; sorted = sorted })
  loads_all format sorted shown is = record {
    unbroken = ends;
    holds = record { short = (accepted_without_verdict c.bytes no_verdict).0; versions = versions; file = is_file; members = refl };
    format = shown;
    sorted = (λ t. loads_sorted (is.0 t), λ h. is.1 (sorted_loads h));
  }

module _ (end : EndTest) (input : ℕ) where
  -- An input that was read to its end has these versions, this format and this order.
  pub is_read : (c : InputRest) (format : Format) (versions : List VersionData) (sorted : Bool) →
      IfSome (rest_of_bytes (at_start_with end input (Some c))) (λ c. format ≡ format_of c.bytes)
      → IsTrue sorted ↔ IsSorted key_cmp versions
      → IfSome (units_or_failed (at_start_with end input (Some c))) (λ s. (s.refusal ≡ None) × (versions_of s.list ≡ versions)) →
      IsRead input (by_test end c) versions format sorted
  is_read c format versions sorted shown is all = record { unrefused = all.0; all = all.1; shown = shown; rises = is }

  -- An input that can't be read isn't loaded.
  pub stops : (c : InputRest) (fault : Fault) → (fault ≡ memory_fault)
      ⊎ IfSome (units_or_failed (at_start_with end input (Some c))) (λ s. s.refusal ≡ Some fault)
      → StopsLoading input (by_test end c) fault
  stops c fault h = h

  -- No unit of an input that was read to its end is refused.
  pub accepted : (c : InputRest) (versions : List VersionData)
      → IfSome (units_or_failed (at_start_with end input (Some c))) (λ s. (s.refusal ≡ None) × (versions_of s.list ≡ versions))
      → IsAcceptedWhole input (by_test end c)
  accepted c versions all = all.0

module _ (input : ℕ) where
  -- An input that was read is loaded as what its file holds.
  pub loads : (c : InputRest) (format : Format) (versions : List VersionData) (sorted : Bool) (loaded : Loaded) →
      IsRead input c versions format sorted
      → loaded ≡ record { history = from_list {R = version_cmp} versions; format = format; sorted = sorted } → Loads c loaded
  loads c format versions sorted loaded read gathered =
      subst (Loads c) (sym gathered) (loads_all input c versions read.unrefused read.all format sorted read.shown read.rises)

  -- An input no unit of which is refused gave a file, and ended well.
  pub accepted_given : (c : InputRest) → IsAcceptedWhole input c → (c.failure ≡ None) × ((held : VersionSet) × Holds c.bytes held)
  accepted_given c whole =
      let file = gives_file input c (versions_of (with_input input (units_from None 0 c)).list) whole refl in
      (file.0, (_, file.1))
