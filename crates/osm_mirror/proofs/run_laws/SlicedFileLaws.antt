-- A file that is cut at objects into sorted files is sorted.
use Rattle.std.proofs.Common.{◌≡◌, ⊎_elim, ℕ, Bool, true, false, ◌||◌, List, [], ◌∷◌, ◌++◌, map, refl, sym, ap, ◌∙◌, Option, Some, ◌<◌}
use Rattle.std.proofs.Common.{◌^◌, length}
use Rattle.std.proofs.Common.{None, append-nil}
use Rattle.std.proofs.lemmas.Bool.{false≢true, or_right, true_from_ne_false, not-true}
use Rattle.std.specs.declared.cmp.Ordering.{Ordering}
use Rattle.std.specs.declared.cmp.Ordering.TheVariants.{Less, Equal, Greater}
use Rattle.std.specs.Ordering.{ordering_then, eq_by_cmp, is_lt, is_gt, is_eq}
use Rattle.std.specs.Cmp.{first_so, second_so, tied_itself}
use Rattle.std.specs.List.{list_any, concat, AllByRecursion}
use Rattle.std.specs.List.Sorted.{IsSorted}
use Rattle.osm_model.specs.declared.object.Object.{Object}
use Rattle.osm_model.specs.Data.{VersionData}
use Rattle.osm_model.specs.Order.{version_cmp, version_cmp_total, key_cmp, object_cmp, object_of, object_order}
use Rattle.osm_model.specs.Pairwise.{Pairwise}
use Rattle.osm_model.specs.VersionSet.{VersionSet}
use Rattle.osm_model.specs.Sets.{contains, from_list}
use Rattle.osm_model.proofs.SetLaws.{contains-from_list, same_set}
use Rattle.osm_model.proofs.VersionLaws.{version_cmp-IsAntisymmetric}
use Rattle.osm_model.proofs.ObjectLaws.{below_is, not_below}
use Rattle.osm_files.specs.Held.{IsFile, HoldsSorted}
use Rattle.osm_files.specs.Verdict.{is_below}
use Rattle.osm_files.proofs.FileLaws.{Rises, rises_sorted, sorted_all}
use Rattle.osm_merge.specs.Members.{union_all}
use Rattle.osm_merge.specs.Slice.{slice_of, span_of, spans, reaches, is_under, is_within, spans_from, slices}
use Rattle.osm_merge.specs.Slice.{IsWithin}
use Rattle.osm_merge.specs.ToCome.{VersionsToCome}
use Rattle.osm_merge.specs.Union as merged
use Rattle.osm_merge.proofs.PieceLaws.{has_within, sets_within_are_slices}
use Rattle.osm_merge.proofs.SliceLaws.{Rise, rise, IsAtMost, reaches_lower, slices_write_the_whole}
use Rattle.osm_merge.proofs.UnionAllLaws.{in_union_all}
use Rattle.osm_mirror.specs.run.Job.{union_of}
use Rattle.osm_files.specs.declared.format.Format.TheVariants.{Opl}
use Rattle.osm_files.specs.SortedRun.{IsSplitInto}
use Rattle.osm_files.specs.Spell.{spell}
use Rattle.osm_files.proofs.GroupLaws.{all_append}
use Rattle.osm_merge.specs.declared.span.Span.{Span}
use Rattle.osm_merge.specs.declared.selection.Selection.{Selection}
use Rattle.osm_merge.specs.Selected.{selection_of}
use Rattle.osm_mirror.specs.run.Slices.{SlicesHoldTheFile, AreSlicesWithin, SlicesWriteTheJob}
use Rattle.osm_mirror.proofs.run_laws.SourceLaws.{members, union_given_is}
use Rattle.osm_mirror.proofs.fleet_laws.MergesLaws.{in_union_of}
use Rattle.osm_mirror.proofs.run_laws.SortedRunLaws.{after_line, at_reset}
use Rattle.osm_merge.proofs.PassLaws.{map_all}

-- ---- keys
above_first : (r s : Ordering) → is_gt r ≡ true → is_lt (ordering_then r s) ≡ false
above_first Less s e = absurd (false≢true e)
above_first Equal s e = absurd (false≢true e)
above_first Greater s e = refl

-- a version that reaches a bound has no key below that of a version under the bound
over_bound : (bound : Object) (v w : VersionData) → is_under (Some bound) v ≡ true → reaches (Some bound) w ≡ true →
    is_lt (key_cmp w v) ≡ false
over_bound bound v w under over =
    above_first (object_cmp w v) _ (true_from_ne_false _ (λ none.
    false≢true (sym (not_below (object_of v) (object_of w) bound (below_is (object_of v) (object_of w) ∙ none) (not-true _ over)) ∙ under)))

-- ---- lists

-- the version before, if there is one, is under the bound
abbrev BeforeUnder : Object → Option VersionData → Type 0
BeforeUnder bound None = Unit {0}
BeforeUnder bound (Some v) = is_under (Some bound) v ≡ true

first_over : (bound : Object) (before : Option VersionData) (w : VersionData) → BeforeUnder bound before → reaches (Some bound) w ≡ true →
    is_below w before ≡ false
first_over bound None w under over = refl
first_over bound (Some v) w under over = over_bound bound v w under over

join : (bound : Object) (before : Option VersionData) (xs ys : List VersionData) → BeforeUnder bound before → Rises before xs →
    Rises None ys
    → AllByRecursion (λ v. is_under (Some bound) v ≡ true) xs → AllByRecursion (λ v. reaches (Some bound) v ≡ true) ys →
    Rises before (xs ++ ys)
join bound before [] [] under up more all over = tt
join bound before [] (y ∷ ys) under up more all over = (first_over bound before y under over.0, more.1)
join bound before (x ∷ xs) ys under up more all over = (up.0, join bound (Some x) xs ys all.0 up.1 more all.1 over)

-- ---- the members of a set and of a list of it

all_members : (p : VersionData → Bool) (vs : List VersionData) →
    ((v : VersionData) → list_any (eq_by_cmp version_cmp v) vs ≡ true → p v ≡ true) → AllByRecursion (λ v. p v ≡ true) vs
all_members p [] h = tt
all_members p (v ∷ vs) h = (
  h v (ap (λ r. is_eq r || list_any (eq_by_cmp version_cmp v) vs) (tied_itself version_cmp_total v)),
  all_members p vs (λ w e. h w (or_right (eq_by_cmp version_cmp w v) (list_any (eq_by_cmp version_cmp w) vs) e)),
)

all_within : (from to : Option Object) (s : VersionSet) (vs : List VersionData) → s ≡ from_list {R = version_cmp} vs →
    IsWithin (span_of from to) s → AllByRecursion (λ v. is_within from to v ≡ true) vs
all_within from to s vs is within =
    all_members (is_within from to) vs (λ v e. has_within (span_of from to) s within v
    (ap (λ t. contains t v) is ∙ contains-from_list version_cmp_total vs v ∙ e))

-- ---- the law
-- files in sequence spell these versions, in the order of keys and from a bound on, and hold these sets
pub record SpelledFrom (from : Option Object) (bytes : List ℕ) (held : List VersionSet) : Type 0 where
  pub given : List VersionsToCome
  pub file : IsFile bytes (merged.versions_of given)
  pub sets : held ≡ map members given
  pub rises : Rises None (merged.versions_of given)
  pub reach : AllByRecursion (λ v. reaches from v ≡ true) (merged.versions_of given)

-- Each list of bounds has at least one span.
pub no_spans : (from : Option Object) (bounds : List Object) → Pairwise IsWithin (spans_from from bounds) [] → ⊥
no_spans from [] h = h
no_spans from (bound ∷ bounds) h = h

-- the last file
pub spelled_last : (from : Option Object) (bytes file : List ℕ) (s : VersionSet) → bytes ≡ file → HoldsSorted file s →
    IsWithin (span_of from None) s → SpelledFrom from bytes (s ∷ [])
spelled_last from bytes file s same h w =
    let one : VersionsToCome = record { list = h.versions; refusal = None } in
    record {
      given = one ∷ [];
      file = rw (same, append-nil) h.file;
      sets = ap (λ set. set ∷ []) h.members;
      rises = rw append-nil (sorted_all h.versions h.sorted);
      reach = rw append-nil (map_all _ (λ v. reaches from v ≡ true) (λ v e. first_so _ _ e) h.versions
          (all_within from None s h.versions h.members w));
    }

-- one more file, before those from a bound on
pub spelled_more : (from : Option Object) (bound : Object) (bytes rest file : List ℕ) (s : VersionSet) (held : List VersionSet) →
    IsAtMost from bound → (h : HoldsSorted file s) → IsWithin (span_of from (Some bound)) s → (more : SpelledFrom (Some bound) rest held) →
    IsFile bytes (h.versions ++ merged.versions_of more.given) → SpelledFrom from bytes (s ∷ held)
spelled_more from bound bytes rest file s held low h w more joined =
    let later : List VersionData = merged.versions_of more.given in
    let one : VersionsToCome = record { list = h.versions; refusal = None } in
    let inside = all_within from (Some bound) s h.versions h.members w in
    record {
      given = one ∷ more.given;
      file = joined;
      sets = λ i. h.members i ∷ more.sets i;
      rises =
          join bound None h.versions later tt (sorted_all h.versions h.sorted) more.rises
          (map_all _ (λ v. is_under (Some bound) v ≡ true) (λ v e. second_so _ _ e) h.versions inside) more.reach;
      reach =
          all_append (λ v. reaches from v ≡ true) h.versions later
          (map_all _ (λ v. reaches from v ≡ true) (λ v e. first_so _ _ e) h.versions inside)
          (map_all (λ v. reaches (Some bound) v ≡ true) (λ v. reaches from v ≡ true)
          (λ v r. reaches_lower from bound low v r) later more.reach);
    }

spelled_from : (from : Option Object) (bounds : List Object) (bytes : List ℕ) (files : List (List ℕ)) (held : List VersionSet) →
    Rise from bounds → IsSplitInto bytes files → Pairwise HoldsSorted files held → Pairwise IsWithin (spans_from from bounds) held →
    SpelledFrom from bytes held
spelled_from from bounds bytes [] held up cut holds within = absurd cut
spelled_from from bounds bytes (file ∷ files) [] up cut holds within = absurd holds
spelled_from from bounds bytes (file ∷ []) (s ∷ t ∷ held) up cut holds within = absurd holds.1
spelled_from from (bound ∷ bounds) bytes (file ∷ []) (s ∷ []) up cut holds within = absurd (no_spans (Some bound) bounds within.1)
spelled_from from [] bytes (file ∷ []) (s ∷ []) up cut (h, holds) (w, within) = spelled_last from bytes file s cut h w
spelled_from from [] bytes (file ∷ next ∷ files) (s ∷ []) up cut holds within = absurd holds.1
spelled_from from [] bytes (file ∷ next ∷ files) (s ∷ t ∷ held) up cut holds within = absurd within.1
spelled_from from (bound ∷ bounds) bytes (file ∷ next ∷ files) (s ∷ held) up (rest, cut, more_cut) (h, holds) (w, within) =
    let more = spelled_from (Some bound) bounds rest (next ∷ files) held up.1 more_cut holds within in
    let later : List VersionData = merged.versions_of more.given in
    spelled_more from bound bytes rest file s held up.0 h w more
    (⊎_elim (after_line file rest bytes h.versions later h.file more.file) (at_reset file rest bytes h.versions later h.file more.file) cut)

union_is : (held : List VersionSet) → union_of held ≡ union_all held
union_is held = same_set version_cmp_total version_cmp-IsAntisymmetric _ _ (λ v. in_union_of held v ∙ sym (in_union_all held v))

-- the sets of files that are within spans and together spell a file are the file's slices
pub slices_of_all : (bounds : List Object) (bytes : List ℕ) (held : List VersionSet) → length bytes < 2 ^ 62 →
    IsSorted object_order bounds → Pairwise IsWithin (spans bounds) held → SpelledFrom None bytes held →
    HoldsSorted bytes (union_of held) × (slices bounds (union_of held) ≡ held)
unfolding merged.union_given
slices_of_all bounds bytes held short up within all = (
  record {
    short = short;
    versions = merged.versions_of all.given;
    file = all.file;
    sorted = rises_sorted (merged.versions_of all.given) all.rises;
    members = ap union_of all.sets ∙ sym (union_given_is all.given);
  },
  ap (slices bounds) (union_is held) ∙ sets_within_are_slices bounds held up within,
)

-- A file that is split into sorted files within their spans is sorted, and each holds its slice of it.
pub slices_hold_the_file : SlicesHoldTheFile
slices_hold_the_file bounds bytes pieces held short up cut holds within =
    slices_of_all bounds bytes held short up within (spelled_from None bounds bytes pieces held (rise bounds up) cut holds within)

-- the outputs of the jobs, in sequence
module _ (selection : Selection) (sets : List VersionSet) where
  runs_write : (parts : List Span) (runs : List (List VersionSet)) → Pairwise (AreSlicesWithin sets) parts runs
      → concat (map (λ span. spell Opl (selection_of selection (union_all (map (slice_of span.from span.to) sets)))) parts)
      ≡ concat (map (λ sliced. spell Opl (selection_of selection (union_of sliced))) runs)
  runs_write [] [] h = refl
  runs_write [] (r ∷ runs) h = absurd h
  runs_write (span ∷ parts) [] h = absurd h
  runs_write (span ∷ parts) (r ∷ runs) h = λ i.
      spell Opl (selection_of selection (sym (ap union_of h.0 ∙ union_is (map (slice_of span.from span.to) sets)) i))
      ++ runs_write parts runs h.1 i

-- Jobs over the slices write what one job over the files writes.
pub slices_write_the_job : SlicesWriteTheJob
slices_write_the_job selection bounds sets runs up sliced =
    ap (λ s. spell Opl (selection_of selection s)) (union_is sets) ∙ slices_write_the_whole selection bounds sets up
    ∙ runs_write selection sets (spans bounds) runs sliced
