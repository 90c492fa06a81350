-- The sources of files give the members of the files' sets, and the union of what sources give is the union of the sets.
use Rattle.std.proofs.Common.{◌≡◌, ◌⊎◌, inl, inr, ⊎_elim, ℕ, suc, ◌+◌, ◌<◌, Bool, true, false, not, ◌&&◌, ◌||◌, List, [], ◌∷◌, ◌++◌}
use Rattle.std.proofs.Common.{fold, length, map, if◌then◌else◌}
use Rattle.std.proofs.Common.{take, drop, get_or, refl, sym, ap, ◌∙◌, subst, arith, Option, Some, None, option_map}
use Rattle.std.proofs.Common.{sum_by}
use Rattle.std.specs.Ordering.{eq_by_cmp}
use Rattle.std.specs.List.{All, filter, list_any}
use Rattle.std.specs.List.Sorted.{IsStrictlySortedBy}
use Rattle.std.proofs.lemmas.List.{take-append-drop, map-id, drop_more}
use Rattle.std.proofs.lemmas.List.Elements.{All-cons, All-nil, All-head, All-tail}
use Rattle.std.proofs.lemmas.List.Concat.{length-flat_map}
use Rattle.std.proofs.lemmas.List.Folds.{list_any-append}
use Rattle.std.proofs.lemmas.List.Sums.{sum_by-cons}
use Rattle.std.proofs.Math.Bool.{or-false, or_assoc}
use Rattle.std.proofs.lemmas.Bool.{or_right}
use Rattle.osm_model.specs.Data.{VersionData}
use Rattle.osm_model.specs.Order.{version_cmp, version_cmp_total}
use Rattle.osm_model.specs.VersionSet.{VersionSet}
use Rattle.osm_model.specs.Sets as sets
use Rattle.osm_model.specs.Sets.{size, contains, to_list, from_list}
use Rattle.osm_model.specs.Pairwise.{Pairwise}
use Rattle.osm_model.proofs.SetLaws.{contains-union, contains-from_list, same_set}
use Rattle.osm_model.proofs.VersionLaws.{version_cmp-IsAntisymmetric, to_list-view}
use Rattle.osm_files.specs.declared.fault.Fault.{Fault}
use Rattle.osm_files.specs.declared.load.Loaded.{Loaded}
use Rattle.osm_files.specs.declared.output.Output.{Ghosts}
use Rattle.osm_files.specs.Change.{change_of}
use Rattle.osm_files.specs.declared.end_rule.EndRule.{EndRule}
use Rattle.osm_files.specs.declared.reason.Reason.{Reason}
use Rattle.osm_files.specs.EndRule.{by_rule}
use Rattle.osm_files.specs.Fault.{memory_fault}
use Rattle.osm_files.specs.Groups.{FileSourceData, FileCanGive, ended_source, sorted_source, set_given, set_ascends}
use Rattle.osm_files.specs.Held.{HoldsSorted}
use Rattle.osm_files.specs.Input.{InputRest, GivesOne}
use Rattle.osm_files.specs.Load.{Loads, StopsLoading}
use Rattle.osm_files.specs.Position.{units_from, fault_of}
use Rattle.osm_files.specs.Sink.{CutShort}
use Rattle.osm_files.specs.Source.{Ascends}
use Rattle.osm_files.specs.Stream.{end_whole, front}
use Rattle.osm_files.specs.Verdict.{file_units, versions_of}
use Rattle.osm_files.proofs.EndedLaws.{ended_gives}
use Rattle.osm_files.proofs.FaultyLaws.{failed_is_refused}
use Rattle.osm_files.proofs.FileLaws.{files_are_read}
use Rattle.osm_files.proofs.HoldLaws.{source_gives_held, whole_source_is_held, set_listed}
use Rattle.osm_files.proofs.LoadLaws.{whole_units, gives_file}
use Rattle.osm_files.proofs.RiseLaws.{source_rises}
use Rattle.osm_merge.specs.declared.span.Span.{Span}
use Rattle.osm_merge.specs.declared.within.Outside.{Outside}
use Rattle.osm_merge.specs.declared.within.Outside.TheVariants.{Dropped, Refused}
use Rattle.osm_merge.specs.declared.within.State.TheVariants as state
use Rattle.osm_merge.specs.declared.within.Within as within
use Rattle.osm_merge.specs.Giving.{AllGive, SomeInputsGive}
use Rattle.osm_merge.specs.Slice.{reaches, is_under, is_within, slice_of, IsWithin}
use Rattle.osm_merge.specs.ToCome as source
use Rattle.osm_merge.specs.Union as union
use Rattle.osm_merge.specs.Within.{given_within, within_span, up_to, from_bound, dropped_outside, WithinCanGive, ascends_in}
use Rattle.osm_merge.proofs.GiveLaws.{give_one}
use Rattle.osm_merge.proofs.SliceLaws.{kept_in}
use Rattle.osm_files.proofs.SpellLaws.{equal_sets as equal, in_none}
use Rattle.osm_merge.proofs.SliceSources.{dropped_is_slice, dropped_of_whole, dropped_to_the_end, refused_is_inside, inside_is_given}
use Rattle.osm_mirror.specs.declared.run.input.InputFile.{InputFile}
use Rattle.osm_mirror.specs.declared.run.input.ReadAs.{ReadAs}
use Rattle.osm_mirror.specs.declared.run.files_job.Order.TheVariants.{Sorted, Any}
use Rattle.osm_mirror.specs.declared.run.input.ReadAs.TheVariants.{InOrder, Within}
use Rattle.osm_mirror.specs.declared.run.source.InputSource.{InputSource}
use Rattle.osm_mirror.specs.declared.run.source.InputSource.TheVariants.{Streamed, Held, Sliced}
use Rattle.osm_mirror.specs.run.Job.{union_of}
use Rattle.osm_mirror.specs.run.Merge.{GivesSorted}
use Rattle.osm_mirror.specs.run.SliceJob.{HasSlice, IsPartRead, given_slice}
use Rattle.osm_mirror.specs.run.SourceRest.{SourceCanGive, source_one, source_possible}
use Rattle.osm_mirror.specs.run.Given.{GivesFile, GivesAs, IsFileAs, refusal, whole_or_refused, held_source, source_of, sources}
use Rattle.osm_mirror.specs.run.Given.{InputFileCanGive}
use Rattle.osm_mirror.specs.run.Given.{file_by, one_of_file, IsRead, IsOpened, AreOpened, CannotBeRead, IsUnread, IsUnopened}
use Rattle.osm_merge.proofs.SnapLaws.{and_twice as both}
use Rattle.osm_merge.proofs.UnionLaws.{nothing_appended as at_first}
use Rattle.osm_merge.proofs.AscendingLaws.{among}

-- ---- the union
-- the set of the versions that a source gives
abbrev pub members : source.VersionsToCome → VersionSet
members s = from_list {R = version_cmp} s.list

-- the members of a union of sets
has_union : (before : VersionSet) (all : List source.VersionsToCome) (v : VersionData)
    → contains (fold sets.union before (map members all)) v ≡ (contains before v || among v (union.versions_of all))
has_union before [] v = sym (or-false (contains before v))
has_union before (s ∷ all) v =
    has_union (sets.union before (members s)) all v
    ∙ ap (λ b. b || among v (union.versions_of all))
    (contains-union version_cmp_total before (members s) v ∙ ap (λ b. contains before v || b)
    (contains-from_list version_cmp_total s.list v))
    ∙ or_assoc (contains before v) (among v s.list) (among v (union.versions_of all))
    ∙ ap (λ b. contains before v || b) (sym (list_any-append (eq_by_cmp version_cmp v) s.list (union.versions_of all)))

-- the union of the versions that sources give is the union of the sets
pub union_given_is : (all : List source.VersionsToCome) → union.union_given all ≡ union_of (map members all)
unfolding union.union_given
union_given_is all =
    same_set version_cmp_total version_cmp-IsAntisymmetric (from_list (union.versions_of all)) (union_of (map members all))
    (λ v. contains-from_list version_cmp_total (union.versions_of all) v ∙ sym
    (has_union sets.empty all v ∙ ap (λ b. b || among v (union.versions_of all)) (in_none v)))

-- ---- one input
pub source_sorted : (number : ℕ) (c : InputRest) (held : VersionSet) → c.failure ≡ None → HoldsSorted c.bytes held
    → sorted_source number c ≡ record { list = to_list held; refusal = None }
source_sorted number c held unbroken file =
    (λ i. sorted_source number (record { bytes = c.bytes; failure = unbroken i })) ∙ source_gives_held number c.bytes held file

source_whole : (number : ℕ) (bytes : List ℕ) (failure : Option Reason)
    → (sorted_source number (record { bytes = bytes; failure = failure })).refusal ≡ None
    → GivesSorted (record { bytes = bytes; failure = failure })
    (members (sorted_source number (record { bytes = bytes; failure = failure })))
source_whole number bytes (Some reason) whole = absurd (failed_is_refused reason number bytes whole)
source_whole number bytes None whole = record { unbroken = refl; file = whole_source_is_held number bytes whole }

-- An input whose source isn't refused gives a sorted file that holds what the source gives.
pub gives : (number : ℕ) (c : InputRest) → (sorted_source number c).refusal ≡ None → GivesSorted c (members (sorted_source number c))
gives number c whole = source_whole number c.bytes c.failure whole

-- No source is refused.
abbrev pub AreWhole : List source.VersionsToCome → Type 0
AreWhole all = All (λ s. s.refusal ≡ None) all

-- a source that was opened gives the versions of its file's source
one_gives : {R : Type 0} (can : R → InputRest → Type 0) (end : EndRule) (number : ℕ) (reader : R) (still : source.VersionsToCome)
    → FileCanGive can (ended_source end number reader) still
    → (c : InputRest) × GivesOne (can reader) (λ given. c ≡ by_rule end given) × (still ≡ sorted_source number c)
one_gives can end number reader still h =
    let (given, could, is) = ended_gives can end number reader still h in
    (by_rule end given, (given, could, refl), is)

-- If memory runs out before anything is written, the file is cut after no bytes.
pub cut_at_once : {O : Type 0} (w : Ghosts O) (before after : O) (number : ℕ) (bytes : List ℕ) (fault : Fault) → fault ≡ memory_fault →
    after ≡ before → CutShort number (change_of w before after) bytes fault
cut_at_once w before after number bytes fault memory same =
    subst (λ a. CutShort number (change_of w before a) bytes fault) (sym same)
    (record { count = 0; within = omega arith; appended = at_first (w.holds before); why = inl memory })

-- ---- a file that was read to its end
held_is : (number : ℕ) (c : InputRest) → held_source number c ≡ whole_or_refused (refusal number c) (versions_of (units_from None 0 c).list)
unfolding held_source
held_is number c = refl

module _ (number : ℕ) (c : InputRest) (held : VersionSet) (h : GivesFile c held) where
  all_units : units_from None 0 c ≡ file_units c.bytes
  all_units = (λ i. units_from None 0 (record { bytes = c.bytes; failure = h.unbroken i })) ∙ whole_units c.bytes

  -- no unit of the file is refused
  pub file_refusal : refusal number c ≡ None
  file_refusal =
      (λ i. option_map (fault_of number) (all_units i).refusal)
      ∙ ap (option_map (fault_of number)) (files_are_read c.bytes h.file.versions h.file.short h.file.file).0

  file_list : versions_of (units_from None 0 c).list ≡ h.file.versions
  file_list = (λ i. versions_of (all_units i).list) ∙ (files_are_read c.bytes h.file.versions h.file.short h.file.file).1

  -- the source of the file gives its set
  pub file_read : held_source number c ≡ set_given held
  file_read = held_is number c ∙ (λ i. whole_or_refused (file_refusal i) (file_list i)) ∙ ap set_given (sym h.file.members)

unrefused : (r : Option Fault) (versions : List VersionData) → (whole_or_refused r versions).refusal ≡ None → r ≡ None
unrefused None versions e = refl
unrefused (Some fault) versions e = absurd (let f : Some fault ≡ None = e in cc)

-- an input without a refusal is a file
file_gives : (number : ℕ) (c : InputRest) → (held_source number c).refusal ≡ None → GivesFile c (members (held_source number c))
file_gives number c e =
    let versions : List VersionData = versions_of (units_from None 0 c).list in
    let none : refusal number c ≡ None = unrefused (refusal number c) versions (ap (λ s. s.refusal) (sym (held_is number c)) ∙ e) in
    let given = gives_file number c versions none refl in
    let list : (held_source number c).list ≡ to_list (from_list {R = version_cmp} versions) =
    ap (λ s. s.list) (held_is number c ∙ ap (λ r. whole_or_refused r versions) none) in
    let same : from_list {R = version_cmp} versions ≡ members (held_source number c) =
    sym (set_listed (from_list versions)) ∙ ap (λ vs. from_list {R = version_cmp} vs) (sym list) in
    subst (GivesFile c) same (record { unbroken = given.0; file = given.1 })

read_rises : (r : Option Fault) (versions : List VersionData) → Ascends (whole_or_refused r versions)
unfolding IsStrictlySortedBy
read_rises None versions = set_ascends (from_list versions)
read_rises (Some fault) versions = tt

-- ---- a slice of a sorted file
slice_of_file : (number : ℕ) (span : Span) (c : InputRest) (held : VersionSet) → GivesSorted c held →
    members (given_within Dropped number span (sorted_source number c)) ≡ slice_of span.from span.to held
slice_of_file number span c held file =
    dropped_is_slice span (sorted_source number c) (source_rises number c)
    ∙ ap (λ (s : source.VersionsToCome). slice_of span.from span.to (members s)) (source_sorted number c held file.unbroken file.file)
    ∙ ap (slice_of span.from span.to) (set_listed held)

-- a slice of a set is within its span
pub slices_are_within : (span : Span) (s : VersionSet) → IsWithin span (slice_of span.from span.to s)
slices_are_within span s =
    let p : VersionData → Bool = is_within span.from span.to in
    let part : VersionSet = slice_of span.from span.to s in
    equal _ _ (λ v. kept_in part p v ∙ ap (λ b. b && p v) (kept_in s p v) ∙ both (contains s v) (p v) ∙ sym (kept_in s p v))

or_same : (a b c : Bool) → (b ≡ true → c ≡ true) → (a || b) ≡ true → (a || c) ≡ true
or_same true b c f h = refl
or_same false b c f h = f h

-- a member of a filtered list is a member of the list
any_of_filtered : (p q : VersionData → Bool) (vs : List VersionData) → list_any q (filter p vs) ≡ true → list_any q vs ≡ true
any_of_filtered p q [] h = h
any_of_filtered p q (v ∷ vs) h =
    elim (p v) as (λ b. list_any q (if b then v ∷ filter p vs else filter p vs) ≡ true → (q v || list_any q vs) ≡ true) [
      | true ↦ or_same (q v) (list_any q (filter p vs)) (list_any q vs) (any_of_filtered p q vs)
      | false ↦ λ k. or_right (q v) (list_any q vs) (any_of_filtered p q vs k)
    ] h

-- a rest that isn't refused before the first version that fails the test has no refusal, or a version that fails it
ends_or_fails : (p : VersionData → Bool) (r : Option Fault) (vs : List VersionData) → (up_to p end_whole r vs).refusal ≡ None →
    (r ≡ None) ⊎ (list_any (λ v. not (p v)) vs ≡ true)
ends_or_fails p r [] h = inl h
ends_or_fails p r (v ∷ vs) h =
    elim (p v) as (λ b. (if b then front v (up_to p end_whole r vs) else end_whole).refusal ≡ None →
    (r ≡ None) ⊎ ((not b || list_any (λ w. not (p w)) vs) ≡ true)) [
      | true ↦ λ k. ends_or_fails p r vs k
      | false ↦ λ k. inr refl
    ] h

-- what a source gives within a span, if it isn't refused
part_read : (span : Span) (given : source.VersionsToCome) → Ascends given → (dropped_outside span given).refusal ≡ None →
    IsPartRead span given (members (dropped_outside span given))
part_read span given up none =
    let is = dropped_is_slice span given up in
    let from : source.VersionsToCome = from_bound span given in
    record {
      slice = is;
      within = subst (IsWithin span) (sym is) (slices_are_within span (members given));
      complete = ⊎_elim (λ e. inl e)
          (λ e. inr (any_of_filtered (reaches span.from) (λ v. not (is_under span.to v)) given.list e))
          (ends_or_fails (is_under span.to) from.refusal from.list none);
    }

has_slice : (number : ℕ) (span : Span) (outside : Outside) (c : InputRest) → (given_slice span number (outside, c)).refusal ≡ None →
    HasSlice span (outside, c) (members (given_slice span number (outside, c)))
has_slice number span Refused c none =
    let inside = refused_is_inside number span (sorted_source number c) none in
    subst (λ s. GivesSorted c s × IsWithin span s) (ap (from_list {R = version_cmp}) (sym inside.list))
    (gives number c inside.whole, inside.within)
has_slice number span Dropped c none = (
  slice_of_file number span c,
  λ no_bound. (
    members (sorted_source number c),
    gives number c (sym (dropped_to_the_end span (sorted_source number c) no_bound) ∙ none),
  ),
  number,
  part_read span (sorted_source number c) (source_rises number c) none,
)

-- ---- one input
-- the source isn't refused, and gives the members of this set
abbrev Yields : source.VersionsToCome → VersionSet → Type 0
Yields given held = (given.refusal ≡ None) × (members given ≡ held)

yields_set : (given : source.VersionsToCome) (held : VersionSet) → given ≡ set_given held → Yields given held
yields_set given held is = (ap (λ (s : source.VersionsToCome). s.refusal) is, ap members is ∙ set_listed held)

-- the source of a file that can be read in its way
pub as_given : (number : ℕ) (input : ReadAs × InputRest) (held : VersionSet) → IsFileAs input held → Yields (source_of number input) held
as_given number (InOrder Sorted, c) held h = yields_set (sorted_source number c) held (source_sorted number c held h.unbroken h.file)
as_given number (InOrder Any, c) held h = yields_set (held_source number c) held (file_read number c held h)
as_given number (Within span Refused, c) part (file, inside) =
    let is = yields_set (sorted_source number c) part (source_sorted number c part file.unbroken file.file) in
    let same = inside_is_given number span (sorted_source number c) (source_rises number c) (subst (IsWithin span) (sym is.1) inside) in
    (ap (λ (s : source.VersionsToCome). s.refusal) same ∙ is.0, ap members same ∙ is.1)
as_given number (Within span Dropped, c) part (held, file, is) = (
  dropped_of_whole span (sorted_source number c)
      (ap (λ (s : source.VersionsToCome). s.refusal) (source_sorted number c held file.unbroken file.file)),
  slice_of_file number span c held file ∙ sym is,
)

gives_as : (number : ℕ) (input : ReadAs × InputRest) → (source_of number input).refusal ≡ None
    → GivesAs input (members (source_of number input))
gives_as number (InOrder Sorted, c) e = gives number c e
gives_as number (InOrder Any, c) e = file_gives number c e
gives_as number (Within span outside, c) e = has_slice number span outside c e

rises : (number : ℕ) (input : ReadAs × InputRest) → Ascends (source_of number input)
rises number (InOrder Sorted, c) = source_rises number c
rises number (InOrder Any, c) =
    subst (λ (s : source.VersionsToCome). Ascends s) (sym (held_is number c))
    (read_rises (refusal number c) (versions_of (units_from None 0 c).list))
rises number (Within span outside, c) = ascends_in state.Open outside number span (sorted_source number c) (source_rises number c)

-- ---- all inputs
pub all_give : (number : ℕ) (inputs : List (ReadAs × InputRest)) → AreWhole (sources number inputs)
    → Pairwise GivesAs inputs (map members (sources number inputs))
all_give number [] h = tt
all_give number (input ∷ inputs) h = (
  gives_as number input (All-head (λ s. s.refusal ≡ None) (source_of number input) (sources (number + 1) inputs) h),
  all_give
      (number + 1) inputs (All-tail (λ s. s.refusal ≡ None) (source_of number input) (sources (number + 1) inputs) h),
)

each_size : (number : ℕ) (inputs : List (ReadAs × InputRest))
    → sum_by (λ s. length s.list) (sources number inputs) ≡ sum_by size (map members (sources number inputs))
each_size number [] = refl
each_size number (input ∷ inputs) =
    let s : source.VersionsToCome = source_of number input in
    sum_by-cons (λ t. length t.list) s (sources (number + 1) inputs)
    ∙ (λ i. length (sym (to_list-view s.list (rises number input)) i) + each_size (number + 1) inputs i)
    ∙ sym (sum_by-cons size (members s) (map members (sources (number + 1) inputs)))

-- The sources of some inputs give as many versions as their sets have.
pub sizes : (number : ℕ) (inputs : List (ReadAs × InputRest))
    → length (union.versions_of (sources number inputs)) ≡ sum_by size (map members (sources number inputs))
sizes number inputs = length-flat_map (λ s. s.list) (sources number inputs) ∙ each_size number inputs

-- There is a source for each input.
pub so_many : (number : ℕ) (inputs : List (ReadAs × InputRest)) → length (sources number inputs) ≡ length inputs
so_many number [] = refl
so_many number (input ∷ inputs) = ap suc (so_many (number + 1) inputs)

-- the sources of files that can be read in their ways
pub as_all_given : (number : ℕ) (inputs : List (ReadAs × InputRest)) (held : List VersionSet) → Pairwise IsFileAs inputs held
    → (map members (sources number inputs) ≡ held) × AreWhole (sources number inputs)
as_all_given number [] [] h = (refl, All-nil (λ s. s.refusal ≡ None))
as_all_given number [] (s ∷ held) h = absurd h
as_all_given number (input ∷ inputs) [] h = absurd h
as_all_given number (input ∷ inputs) (s ∷ held) h =
    let one = as_given number input s h.0 in
    let others = as_all_given (number + 1) inputs held h.1 in (
      (λ i. one.1 i ∷ others.0 i),
      All-cons (λ t. t.refusal ≡ None) (source_of number input) (sources (number + 1) inputs) one.0 others.1,
    )

-- ---- inputs that can't be read
can_be_read : (number : ℕ) (input : ReadAs × InputRest) (held : VersionSet) (fault : Fault) → IsFileAs input held
    → CannotBeRead number input fault → ⊥
can_be_read number (InOrder Sorted, c) held fault h unread = unread
can_be_read number (InOrder Any, c) held fault h unread = let f : None ≡ Some fault = sym (file_refusal number c held h) ∙ unread in cc
can_be_read number (Within span outside, c) held fault h unread = unread

pub not_unread : (number : ℕ) (inputs : List (ReadAs × InputRest)) (held : List VersionSet) (fault : Fault) → Pairwise IsFileAs inputs held
    → IsUnread number inputs fault → ⊥
not_unread number [] held fault h unread = unread
not_unread number (input ∷ inputs) [] fault h unread = absurd h
not_unread number (input ∷ inputs) (s ∷ held) fault h (inl one) = can_be_read number input s fault h.0 one
not_unread number (input ∷ inputs) (s ∷ held) fault h (inr others) = not_unread (number + 1) inputs held fault h.1 others

unread_first : (number : ℕ) (input : ReadAs × InputRest) (rest : List (ReadAs × InputRest)) (fault : Fault) →
    IsUnopened number (input ∷ []) fault
    → IsUnopened number (input ∷ rest) fault
unread_first number input rest fault (inl e) = inl e
unread_first number input rest fault (inr (inl h)) = inr (inl h)
unread_first number input rest fault (inr (inr h)) = absurd h

unread_more : (number : ℕ) (input : ReadAs × InputRest) (rest : List (ReadAs × InputRest)) (fault : Fault) →
    IsUnopened (number + 1) rest fault
    → IsUnopened number (input ∷ rest) fault
unread_more number input rest fault (inl e) = inl e
unread_more number input rest fault (inr h) = inr (inr h)

-- ---- sources that were opened
module _ {R : Type 0} (can : R → InputRest → Type 0) (end : EndRule) (number : ℕ) (reader : R) where
  pub stream_opens : (s : FileSourceData R) → s ≡ ended_source end number reader
      → IsOpened can number (file_by end (InOrder Sorted) reader) (Streamed s)
  stream_opens s is still h =
      let q = one_gives can end number reader still (subst (λ (x : FileSourceData R). FileCanGive can x still) is h) in
      ((InOrder Sorted, q.0), (refl, q.1), (q.2, tt))

  -- A sorted file is opened as a source of its versions within a span.
  pub slice_opens : (span : Span) (outside : Outside) (s : FileSourceData R) (w : within.Within (FileSourceData R)) →
      s ≡ ended_source end number reader → w ≡ within_span outside span number s →
      IsOpened can number (file_by end (Within span outside) reader) (Sliced w)
  slice_opens span outside s w is slice still h =
      let g = subst (λ (x : within.Within (FileSourceData R)). WithinCanGive (FileCanGive can) x still)
      (slice ∙ ap (within_span outside span number) is) h in
      let q = one_gives can end number reader g.0 g.1 in
      ((Within span outside, q.0), (refl, q.1), (g.2 ∙ ap (given_within outside number span) q.2, tt))

-- A file that was loaded is opened as a source of its set.
pub load_opens : {R : Type 0} (can : R → InputRest → Type 0) (end : EndRule) (number : ℕ) (reader : R) (loaded : Loaded)
    (set : VersionSet) → set ≡ loaded.history → GivesOne (can reader) (λ c. Loads (by_rule end c) loaded)
    → IsOpened can number (file_by end (InOrder Any) reader) (Held set)
load_opens can end number reader loaded set is h still e =
    let c : InputRest = by_rule end h.0 in
    let file : GivesFile c loaded.history = record { unbroken = h.2.unbroken; file = h.2.holds } in
    let given = e ∙ ap set_given is ∙ sym (file_read number c loaded.history file) in
    ((InOrder Any, c), (refl, (h.0, h.1, refl)), (given, (loaded.history, file)))

-- A file that isn't loaded isn't opened.
pub load_stops : {R : Type 0} (can : R → InputRest → Type 0) (end : EndRule) (number : ℕ) (reader : R) (fault : Fault)
    → GivesOne (can reader) (λ c. StopsLoading number (by_rule end c) fault)
    → GivesOne (InputFileCanGive can (file_by end (InOrder Any) reader)) (λ input. IsUnopened number (input ∷ []) fault)
load_stops can end number reader fault h =
    ((InOrder Any, by_rule end h.0), (refl, (h.0, h.1, refl)), ⊎_elim (λ e. inl e) (λ e. inr (inl e)) h.2)

module _ {R : Type 0} (can : R → InputRest → Type 0) where
  pub opened_more : (number : ℕ) (files : List (InputFile R)) (opened : List (InputSource R)) (file : InputFile R) (s : InputSource R)
      → AreOpened can number files opened → IsOpened can (number + length files) file s
      → AreOpened can number (files ++ file ∷ []) (opened ++ s ∷ [])
  opened_more number [] [] file s all one =
      (subst (λ (n : ℕ). IsOpened can n file s) (let e : number + 0 ≡ number = omega arith in e) one, tt)
  opened_more number [] (t ∷ opened) file s all one = absurd all
  opened_more number (f ∷ files) [] file s all one = absurd all
  opened_more number (f ∷ files) (t ∷ opened) file s all one = (
    all.0,
    opened_more (number + 1) files opened file s all.1
        (subst (λ (n : ℕ). IsOpened can n file s) (let e : number + suc (length files) ≡ (number + 1) + length files = omega arith in e)
        one),
  )

  pub opened_many : (number : ℕ) (files : List (InputFile R)) (opened : List (InputSource R)) → AreOpened can number files opened
      → length opened ≡ length files
  opened_many number [] [] all = refl
  opened_many number [] (s ∷ opened) all = absurd all
  opened_many number (f ∷ files) [] all = absurd all
  opened_many number (f ∷ files) (s ∷ opened) all = ap suc (opened_many (number + 1) files opened all.1)

  -- for all that the sources can give, the files could give bytes whose sources give the same
  pub opened_give : (number : ℕ) (files : List (InputFile R)) (opened : List (InputSource R)) (stills : List source.VersionsToCome)
      → AreOpened can number files opened → AllGive (SourceCanGive can) opened stills
      → (all : List (ReadAs × InputRest)) × AllGive (InputFileCanGive can) files all × (stills ≡ sources number all) × All IsRead all
  opened_give number [] [] [] all g = ([], tt, refl, All-nil IsRead)
  opened_give number [] [] (s ∷ stills) all g = absurd g
  opened_give number [] (t ∷ opened) stills all g = absurd all
  opened_give number (f ∷ files) [] stills all g = absurd all
  opened_give number (f ∷ files) (t ∷ opened) [] all g = absurd g
  opened_give number (f ∷ files) (t ∷ opened) (s ∷ stills) all g =
      let one = all.0 s g.0 in
      let others = opened_give (number + 1) files opened stills all.1 g.1 in
      (one.0 ∷ others.0, (one.1, others.1), (λ i. one.2.0 i ∷ others.2 i), All-cons IsRead one.0 others.0 one.2.1 others.3)

  module _ (one : R → InputRest) (possible : (r : R) → can r (one r)) where
    give_files : (files : List (InputFile R)) → AllGive (InputFileCanGive can) files (map (one_of_file one) files)
    give_files = give_one (InputFileCanGive can) (one_of_file one) (λ f. (refl, (one f.reader, possible f.reader, refl)))

    -- a file that can't be opened, after files that were opened
    pub stops_after : (number : ℕ) (files : List (InputFile R)) (opened : List (InputSource R)) (file : InputFile R)
        (rest : List (InputFile R)) (fault : Fault)
        → AreOpened can number files opened → GivesOne (InputFileCanGive can file) (λ input. IsUnopened (number + length files) (input ∷ [])
        fault)
        → SomeInputsGive (InputFileCanGive can) (files ++ file ∷ rest) (λ all. IsUnopened number all fault)
    stops_after number [] [] file rest fault all h =
        let why = subst (λ (n : ℕ). IsUnopened n (h.0 ∷ []) fault) (let e : number + 0 ≡ number = omega arith in e) h.2 in
        (h.0 ∷ map (one_of_file one) rest, (h.1, give_files rest), unread_first number h.0 (map (one_of_file one) rest) fault why)
    stops_after number [] (t ∷ opened) file rest fault all h = absurd all
    stops_after number (f ∷ files) [] file rest fault all h = absurd all
    stops_after number (f ∷ files) (t ∷ opened) file rest fault all h =
        let first = all.0 (source_one one t) (source_possible one can possible t) in
        let others =
        stops_after (number + 1) files opened file rest fault all.1 (
          h.0,
          h.1,
          subst (λ (n : ℕ). IsUnopened n (h.0 ∷ []) fault)
              (let e : number + suc (length files) ≡ (number + 1) + length files = omega arith in e) h.2,
        ) in
        (first.0 ∷ others.0, (first.1, others.1), unread_more number first.0 others.0 fault others.2)

    -- one of the files can't be opened, after others that were opened
    pub stop_unread : (ys xs : List (InputFile R)) (y : InputFile R) (items : List (InputSource R)) (n : ℕ) (fault : Fault)
        → AreOpened can 0 ys items → n ≡ length items → map (λ f. f) ys ≡ take (length ys) xs
        → (length ys < length xs) × (y ≡ get_or xs (length ys) y)
        → GivesOne (InputFileCanGive can y) (λ input. IsUnopened n (input ∷ []) fault)
        → SomeInputsGive (InputFileCanGive can) xs (λ all. IsUnopened 0 all fault)
    stop_unread ys xs y items n fault all count so_far turn h =
        let counted : n ≡ 0 + length ys = omega (arith, count, opened_many 0 ys items all) in
        let k : ℕ = length ys in
        let front : take k xs ++ y ∷ drop (k + 1) xs ≡ xs =
        ap (λ t. take k xs ++ t) (ap (λ f. f ∷ drop (k + 1) xs) turn.1) ∙ ap (λ t. take k xs ++ t) (sym (drop_more xs k y turn.0))
        ∙ take-append-drop k xs in
        let is : ys ++ y ∷ drop (k + 1) xs ≡ xs = ap (λ t. t ++ y ∷ drop (k + 1) xs) (sym (map-id ys) ∙ so_far) ∙ front in
        subst (λ (fs : List (InputFile R)). SomeInputsGive (InputFileCanGive can) fs (λ all. IsUnopened 0 all fault)) is
        (stops_after 0 ys items y (drop (k + 1) xs) fault all (h.0, h.1, subst (λ (m : ℕ). IsUnopened m (h.0 ∷ []) fault) counted h.2))

    -- memory ran out after files that were opened
    pub no_memory : (files : List (InputFile R)) (fault : Fault) → fault ≡ memory_fault
        → SomeInputsGive (InputFileCanGive can) files (λ all. IsUnopened 0 all fault)
    no_memory files fault memory = (map (one_of_file one) files, give_files files, inl memory)

  -- One more file was opened.
  pub push_opened : (ys : List (InputFile R)) (y : InputFile R) (items after : List (InputSource R)) (x : InputSource R) (n : ℕ)
      → AreOpened can 0 ys items → after ≡ items ++ x ∷ [] → n ≡ length items → IsOpened can n y x → AreOpened can 0 (ys ++ y ∷ []) after
  push_opened ys y items after x n all pushed count one =
      let counted : n ≡ 0 + length ys = omega (arith, count, opened_many 0 ys items all) in
      subst (λ (l : List (InputSource R)). AreOpened can 0 (ys ++ y ∷ []) l) (sym pushed)
      (opened_more 0 ys items y x all (subst (λ (k : ℕ). IsOpened can k y x) counted one))

  -- Once all files were opened, each source is one of them.
  pub opened_all : (ys xs : List (InputFile R)) (items : List (InputSource R)) → AreOpened can 0 ys items → map (λ y. y) ys ≡ xs
      → AreOpened can 0 xs items
  opened_all ys xs items all is = subst (λ (l : List (InputFile R)). AreOpened can 0 l items) (sym (map-id ys) ∙ is) all
