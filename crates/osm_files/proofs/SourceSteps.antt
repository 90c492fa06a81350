-- The calls of a source, over all that its reader can give: each law is one of positions with their rests, before and
-- after.
use Rattle.std.proofs.Common.{◌≡◌, inl, ℕ, true, false, List, [], ◌∷◌, ◌++◌, refl, ap, sym, ◌∙◌, subst, Option, Some, None, option_to_list}
use Rattle.std.proofs.Common.{is_some, IfSome, Result, Ok, Err}
use Rattle.std.proofs.lemmas.Bool.{false≢true}
use Rattle.std.specs.Ordering.{is_lt, is_gt}
use Rattle.osm_model.specs.Data.{VersionData}
use Rattle.osm_model.specs.Order.{key_cmp}
use Rattle.osm_files.specs.declared.fault.Fault.{Fault}
use Rattle.osm_files.specs.declared.group.Group.{Group}
use Rattle.osm_files.specs.declared.reason.Reason.TheVariants.{Unsorted}
use Rattle.osm_files.specs.Fault.{memory_fault, fault_at}
use Rattle.osm_files.specs.Groups.{to_ascending, list_of, still_with_ready, still_at, FileSourceData, source_data, FileSteps, IsOpenSource}
use Rattle.osm_files.specs.Groups.{Gathers}
use Rattle.osm_files.specs.Groups.{RefusesGroup, BeginsOn, GathersOn, RefusesOn}
use Rattle.osm_files.specs.Input.{InputRest}
use Rattle.osm_files.specs.Position.{Position, KnownPosition, with_rest, Between, units_or_failed, Keeps}
use Rattle.osm_files.specs.Source.{Ascends, SourceStep, StepsOn}
use Rattle.osm_files.specs.Stream.{Placed, SourceRest}
use Rattle.osm_files.proofs.FillLaws.{kept, keeps_on}
use Rattle.osm_files.proofs.GroupLaws.{step_on, refused_step, gives_first, ascending_one, ends_group, begins_next, joins_group}
use Rattle.osm_files.proofs.GroupLaws.{refuses_read, refuses_unsorted}
use Rattle.osm_files.proofs.ReaderLaws.{unread}
use Rattle.osm_files.proofs.RiseLaws.{pending_rises, rest_rises, gathers_rise}

-- a call that is refused, after which nothing is ready
refused_at : (input : ℕ) (before : Option (SourceRest VersionData Fault)) (p : KnownPosition) (group ready : List VersionData)
    (fault : Fault) →
    ready ≡ [] → RefusesGroup before fault (units_or_failed p) →
    SourceStep before (Err fault) (still_with_ready input (units_or_failed p) group ready)
refused_at input before p group ready fault none refuses =
    subst (λ (xs : List VersionData). SourceStep before (Err fault) (still_with_ready input (units_or_failed p) group xs)) (sym none)
    (refused_step input before (units_or_failed p) group fault refuses)

module _ {R : Type 0} (can : R → InputRest → Type 0) where
  -- if nothing is ready, and at most one version was read of the next group
  pub open_source : (units : Position R) (pending : Option VersionData) (ready : List VersionData) → ready ≡ [] →
      IsOpenSource can (source_data units (option_to_list pending) ready)
  open_source units pending ready none = (
    λ c k. subst (λ (xs : List VersionData). IfSome
        (still_with_ready units.input (units_or_failed (with_rest units c)) (option_to_list pending) xs)
        Ascends) (sym none) (pending_rises units.input (units_or_failed (with_rest units c)) pending),
    λ failed. none,
  )

  -- the version that was read before begins the group
  pub begins_held : (p : Position R) (pending : Option VersionData) (first : VersionData) → pending ≡ Some first →
      BeginsOn can p (option_to_list pending) (Ok (Some first)) p
  begins_held p pending first is =
      subst (λ (o : Option VersionData). BeginsOn can p (option_to_list o) (Ok (Some first)) p) (sym is)
      (unread can p p (λ a b. Keeps (still_with_ready p.input (units_or_failed a) (first ∷ []) [])
      (still_with_ready p.input (units_or_failed b) (first ∷ []) [])) refl
      (λ c. kept (still_with_ready p.input (units_or_failed (with_rest p c)) (first ∷ []) [])))

  -- memory ran out
  pub memory_step : (s t : FileSourceData R) (fault : Fault) → fault ≡ memory_fault → t.units ≡ record s.units { failed = true } →
      t.ready ≡ [] →
      FileSteps can s (Err fault) t
  memory_step s t fault is failed none later k = (
    later,
    subst (λ r. can r later) (ap (λ v. v.rest) failed) k,
    refused_at s.units.input (still_at s.units.input s later) (with_rest t.units later) t.group t.ready fault none
        (inl is, (s.units.input, ap (λ (v : Position R). units_or_failed (with_rest v later)) failed)),
  )

  -- the rest of a group can't be read
  pub gather_refused : (p : Position R) (group : List VersionData) (fault : Fault) (t : FileSourceData R) → t.ready ≡ [] →
      RefusesOn can p group fault t.units → FileSteps can (source_data p group []) (Err fault) t
  gather_refused p group fault t none refuses later k =
      let y = refuses later k in (
        y.0,
        y.1,
        refused_at p.input (still_with_ready p.input (units_or_failed (with_rest p y.0)) group [])
            (with_rest t.units later) t.group t.ready fault none y.2,
      )

  -- no group begins
  pub begin_refused : (s : FileSourceData R) (fault : Fault) (t : FileSourceData R) → s.ready ≡ [] → t.ready ≡ [] →
      BeginsOn can s.units s.group (Err fault) t.units → FileSteps can s (Err fault) t
  begin_refused s fault t nothing none begins =
      subst (λ (xs : List VersionData). FileSteps can (source_data s.units s.group xs) (Err fault) t) (sym nothing)
      (gather_refused s.units s.group fault t none begins)

  -- A source without another group is at its end.
  pub begin_ended : (s t : FileSourceData R) → s.ready ≡ [] → t.group ≡ [] → t.ready ≡ [] → BeginsOn can s.units s.group (Ok None) t.units →
      FileSteps can s (Ok None) t
  begin_ended s t nothing ends none begins =
      subst (λ (xs : List VersionData). FileSteps can (source_data s.units s.group xs) (Ok None) t) (sym nothing)
      (subst (λ (xs : List VersionData). FileSteps can (source_data s.units s.group []) (Ok None) (source_data t.units xs t.ready))
      (sym ends)
      (subst (λ (xs : List VersionData). FileSteps can (source_data s.units s.group []) (Ok None) (source_data t.units [] xs))
      (sym none) begins))

  -- a group was read, and the version after it
  module _ (p : Position R) (has_begun : Group) (q : Position R) (group : Group) (next : Option VersionData)
      (gathers : GathersOn can p has_begun q group next) where
    -- A group that can't be listed is refused for Memory.
    pub gathered_memory : (fault : Fault) (r : Position R) (ready : List VersionData) → fault ≡ memory_fault →
        r ≡ record q { failed = true } → ready ≡ [] → FileSteps can (source_data p (list_of has_begun) []) (Err fault)
        (source_data r (option_to_list next) ready)
    gathered_memory fault r ready is failed none later k =
        let y = gathers later (subst (λ c. can c later) (ap (λ v. v.rest) failed) k) in (
          y.0,
          y.1,
          refused_at p.input (still_with_ready p.input (units_or_failed (with_rest p y.0)) (list_of has_begun) []) (with_rest r later)
              (option_to_list next) ready fault none
              (inl is, (q.input, ap (λ (v : Position R). units_or_failed (with_rest v later)) failed)),
        )

    gives : (before after : Option (SourceRest Placed Fault)) (o : Option VersionData) (ready : List VersionData) →
        to_ascending (has_begun.first ∷ group.others.items) ≡ option_to_list o ++ ready → is_some o ≡ true →
        Gathers p.input before has_begun.others.items after has_begun.first group.others.items next
        → SourceStep (still_with_ready p.input before (list_of has_begun) []) (Ok o)
        (still_with_ready p.input after (option_to_list next) ready)
    gives before after None ready e some h = absurd (false≢true some)
    gives before after (Some v) ready e some h = gives_first p.input before has_begun.others.items after has_begun.first group.others.items
        next v
        ready h e

    module _ (given : Option VersionData) (ready : List VersionData)
        (all : to_ascending (has_begun.first ∷ group.others.items) ≡ option_to_list given ++ ready) where
      -- The first version of a group that was gathered is given.
      pub gathered_given : is_some given ≡ true → FileSteps can (source_data p (list_of has_begun) []) (Ok given)
          (source_data q (option_to_list next) ready)
      gathered_given some later k =
          let y = gathers later k in
          (y.0, y.1, gives (units_or_failed (with_rest p y.0)) (units_or_failed (with_rest q later)) given ready all some y.2)

      -- A source stays open after a group was gathered.
      pub gathered_open : q.input ≡ p.input → q.failed ≡ false → IsOpenSource can (source_data q (option_to_list next) ready)
      gathered_open input fine = (
        λ later k.
            let y = gathers later k in
            let up = gathers_rise p.input (units_or_failed (with_rest p y.0)) has_begun.others.items
            (units_or_failed (with_rest q later)) has_begun.first group.others.items next y.2 in
            let at_q = subst (λ (i : ℕ). IfSome (still_with_ready i (units_or_failed (with_rest q later)) (option_to_list next)
            (to_ascending (has_begun.first ∷ group.others.items))) Ascends) (sym input) up in
            rest_rises q.input (units_or_failed (with_rest q later)) (option_to_list next) given ready
            (subst (λ (xs : List VersionData). IfSome (still_with_ready q.input (units_or_failed (with_rest q later))
            (option_to_list next) xs)
            Ascends) all at_q),
        λ failed. absurd (false≢true (sym fine ∙ failed)),
      )

  -- ---- the second version, after the first of a group
  module _ (s : FileSourceData R) (nothing : s.ready ≡ []) (b : Position R) (first : VersionData)
      (begins : BeginsOn can s.units s.group (Ok (Some first)) b) where
    abbrev start : InputRest → Option (SourceRest VersionData Fault)
    start c = still_at s.units.input s c

    abbrev given_from : KnownPosition → List VersionData → Option (SourceRest VersionData Fault)
    given_from p group = still_with_ready s.units.input (units_or_failed p) group []

    -- a call from the state after the first version was read is a call from the state before
    after_first : (t : FileSourceData R) (r : Result (Option VersionData) Fault) (P : KnownPosition → KnownPosition → Type 0) →
        Between can b t.units P
        → ((p q : KnownPosition) → P p q → SourceStep (given_from p (first ∷ [])) r
        (still_with_ready s.units.input (units_or_failed q) t.group t.ready)) →
        FileSteps can s r t
    after_first t r P step law later k =
        let y = step later k in
        let x = begins y.0 y.1 in
        let before = given_from (with_rest b y.0) (first ∷ []) in
        let keeps = subst (λ (xs : List VersionData). Keeps
        (still_with_ready s.units.input (units_or_failed (with_rest s.units x.0)) s.group xs) before) (sym nothing) x.2 in (
          x.0,
          x.1,
          step_on (start x.0) before (still_at s.units.input t later) r keeps
              (law (with_rest b y.0) (with_rest t.units later) y.2),
        )

    -- A unit after the first version of a group that can't be read refuses the source.
    pub second_refused : (fault : Fault) (t : FileSourceData R) → t.ready ≡ [] → StepsOn can b (Err fault) t.units →
        FileSteps can s (Err fault) t
    second_refused fault t none step =
        after_first t (Err fault) (λ p q. SourceStep {A = Placed} (units_or_failed p) (Err fault) (units_or_failed q)) step
        (λ p q h.
        refused_at s.units.input (given_from p (first ∷ [])) q t.group t.ready fault none
        (refuses_read s.units.input (units_or_failed p) [] (units_or_failed p) (units_or_failed q) first []
        (kept (given_from p (first ∷ []))) fault h))

    -- the first is the only one in its group
    only : (p q : KnownPosition) (next : Option VersionData) (group ready : List VersionData) → group ≡ option_to_list next → ready ≡ [] →
        Gathers s.units.input (units_or_failed p) [] (units_or_failed q) first [] next
        → SourceStep (given_from p (first ∷ [])) (Ok (Some first)) (still_with_ready s.units.input (units_or_failed q) group ready)
    only p q next group ready is none h =
        subst (λ (xs : List VersionData). SourceStep (given_from p (first ∷ [])) (Ok (Some first))
        (still_with_ready s.units.input (units_or_failed q) group xs)) (sym none)
        (subst (λ (xs : List VersionData). SourceStep (given_from p (first ∷ [])) (Ok (Some first))
        (still_with_ready s.units.input (units_or_failed q) xs [])) (sym is)
        (gives_first s.units.input (units_or_failed p) [] (units_or_failed q) first [] next first [] h (ascending_one first)))

    -- A version that is the last of the file is a group.
    pub second_ends : (t : FileSourceData R) → t.group ≡ [] → t.ready ≡ [] → StepsOn can b (Ok None) t.units →
        FileSteps can s (Ok (Some first)) t
    second_ends t ends none step =
        after_first t (Ok (Some first)) (λ p q. SourceStep {A = Placed} (units_or_failed p) (Ok None) (units_or_failed q)) step
        (λ p q h. only p q None t.group t.ready ends none
        (ends_group s.units.input (units_or_failed p) [] (units_or_failed p) (units_or_failed q) first []
        (kept (given_from p (first ∷ []))) tt h))

    -- by the order of its key
    module _ (u : Placed) (n : Position R) (step : StepsOn can b (Ok (Some u)) n) where
      -- A version before one of a greater key is a group.
      pub second_follows : (t : FileSourceData R) → t.units ≡ n → t.group ≡ u.version ∷ [] → t.ready ≡ [] →
          is_lt (key_cmp first u.version) ≡ true → FileSteps can s (Ok (Some first)) t
      second_follows t same group none less =
          after_first t (Ok (Some first)) (λ p q. SourceStep {A = Placed} (units_or_failed p) (Ok (Some u)) (units_or_failed q))
          (subst (λ (v : Position R). StepsOn can b (Ok (Some u)) v) (sym same) step)
          (λ p q h. only p q (Some u.version) t.group t.ready group none
          (begins_next s.units.input (units_or_failed p) [] (units_or_failed p) (units_or_failed q) first []
          (kept (given_from p (first ∷ []))) tt u h less))

      -- the step to the state in which every call is refused
      abbrev Fails : KnownPosition → KnownPosition → Type 0
      Fails p q = (m : KnownPosition) × SourceStep {A = Placed} (units_or_failed p) (Ok (Some u)) (units_or_failed m) ×
          (q ≡ record m { failed = true })

      fails : (r : Position R) → r ≡ record n { failed = true } → Between can b r Fails
      fails r failed later k =
          let y = step later (subst (λ c. can c later) (ap (λ v. v.rest) failed) k) in
          (y.0, y.1, (with_rest n later, y.2, ap (λ (v : Position R). with_rest v later) failed))

      -- A version before one of a lesser key is refused as Unsorted.
      pub second_falls : (fault : Fault) (t : FileSourceData R) → t.units ≡ record n { failed = true } → t.ready ≡ [] →
          is_gt (key_cmp first u.version) ≡ true → fault ≡ fault_at s.units.input u.offset Unsorted → FileSteps can s (Err fault) t
      second_falls fault t failed none greater is =
          after_first t (Err fault) Fails (fails t.units failed) (λ p q (m, h, e).
          refused_at s.units.input (given_from p (first ∷ [])) q t.group t.ready fault none
          (refuses_unsorted s.units.input (units_or_failed p) [] (units_or_failed p) (units_or_failed m) first []
          (kept (given_from p (first ∷ []))) u fault (units_or_failed q) m.input h greater is (ap units_or_failed e)))

      -- A version before one of its own key begins a group of several.
      pub second_joins : (r : Result (Option VersionData) Fault) (t : FileSourceData R) → n.input ≡ s.units.input →
          is_lt (key_cmp first u.version) ≡ false → is_gt (key_cmp first u.version) ≡ false →
          FileSteps can (source_data n (first ∷ u.version ∷ []) []) r t → FileSteps can s r t
      second_joins r t input less greater many later k =
          let z = many later k in
          let y = step z.0 z.1 in
          let x = begins y.0 y.1 in
          let before = given_from (with_rest b y.0) (first ∷ []) in
          let after = given_from (with_rest n z.0) (first ∷ u.version ∷ []) in
          let joins = joins_group s.units.input (units_or_failed (with_rest b y.0)) [] (units_or_failed (with_rest b y.0))
          (units_or_failed (with_rest n z.0)) first [] (kept before) u y.2 less greater in
          let keeps = subst (λ (xs : List VersionData). Keeps
          (still_with_ready s.units.input (units_or_failed (with_rest s.units x.0)) s.group xs) before) (sym nothing) x.2 in
          let given = subst (λ (i : ℕ). SourceStep (still_with_ready i (units_or_failed (with_rest n z.0)) (first ∷ u.version ∷ []) []) r
          (still_at i t later)) input z.2 in
          (x.0, x.1, step_on (start x.0) after (still_at s.units.input t later) r (keeps_on (start x.0) before after keeps joins) given)
