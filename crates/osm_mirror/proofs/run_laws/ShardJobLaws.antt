-- The jobs for all shards of an output write what one job writes.
use Rattle.std.proofs.Common.{◌≡◌, ◌⊎◌, inl, inr, ⊎_elim, ℕ, zero, suc, ◌+◌, ◌-◌, ◌≤◌, ◌<◌, ◌^◌, true, List, [], ◌∷◌, ◌++◌, length, map}
use Rattle.std.proofs.Common.{drop, append-nil, slice_get, IfSome}
use Rattle.std.proofs.Common.{Option, Some, None, refl, sym, ap, ◌∙◌, subst, arith, length-drop, length-append}
use Rattle.std.specs.Prelude.{pos}
use Rattle.std.specs.List.{concat}
use Rattle.std.specs.List.Sorted.{IsSorted}
use Rattle.std.proofs.lemmas.List.{nil_from_length}
use Rattle.osm_model.specs.VersionSet.{VersionSet}
use Rattle.osm_model.specs.Pairwise.{Pairwise}
use Rattle.osm_model.specs.declared.kind.Kind.TheVariants.{Node}
use Rattle.osm_model.specs.declared.object.Object.{Object}
use Rattle.osm_files.specs.declared.fault.Fault.{Fault}
use Rattle.osm_files.specs.declared.format.Format.TheVariants.{Opl}
use Rattle.osm_files.specs.declared.end_rule.EndRule.{EndRule}
use Rattle.osm_files.specs.Fault.{memory_fault}
use Rattle.osm_files.specs.Held.{HoldsSorted}
use Rattle.osm_files.specs.Output.{Change, Appends}
use Rattle.osm_files.specs.Spell.{spell}
use Rattle.osm_model.specs.Sets.{size}
use Rattle.osm_model.specs.Order.{object_order}
use Rattle.osm_merge.specs.declared.merge.Counts.{Counts}
use Rattle.osm_merge.specs.Clashes.{clash_count}
use Rattle.osm_merge.specs.Union.{capped_count}
use Rattle.osm_merge.specs.declared.span.Span.{Span}
use Rattle.osm_merge.specs.declared.selection.Selection.{Selection}
use Rattle.osm_merge.specs.Selected.{selection_of}
use Rattle.osm_merge.specs.Slice.{spans}
use Rattle.osm_mirror.specs.declared.run.shard_job.ShardJob.{ShardJob}
use Rattle.osm_mirror.specs.run.Bounds.{bounds_of, span_at, shard_span}
use Rattle.osm_mirror.specs.run.Job.{union_of}
use Rattle.osm_mirror.specs.run.Slices.{AreSlicesWithin}
use Rattle.osm_mirror.specs.run.FilesRefusal.{IsFaultOfFile, IsSoundFile, IsFaultIfSound}
use Rattle.osm_mirror.specs.run.ShardRefusal.{IsFileRefusal, IsFaultByRule, AreRefused}
use Rattle.osm_mirror.specs.declared.run.files_job.Order.TheVariants.{Sorted}
use Rattle.osm_mirror.specs.run.ShardJob.{shard_slices, shard_outputs, IsSpanJob, IsShardJob, ShardJobsWriteTheJob}
use Rattle.osm_mirror.proofs.run_laws.ShardSpanLaws.{few_spans, bounds_ascend}
use Rattle.osm_mirror.proofs.run_laws.SlicedFileLaws.{slices_write_the_job}

-- ---- a shard without a span
none_twice : (xs : List ℕ) → xs ≡ xs ++ (xs ++ []) → xs ≡ []
none_twice xs e =
    let sizes : length xs ≡ length (xs ++ xs) = ap length (e ∙ ap (λ t. xs ++ t) (append-nil xs)) in
    let both = length-append xs xs in
    nil_from_length xs (omega (arith, sizes, both))

first_node : Object
first_node = record { kind = Node; id = pos 0 }

one_bound : IsSorted object_order (first_node ∷ [])
one_bound = λ k d low within. absurd (omega (arith, within))

-- the OPL file of no sets has no byte
pub nothing_written : (selection : Selection) → spell Opl (selection_of selection (union_of [])) ≡ []
nothing_written selection =
    none_twice (spell Opl (selection_of selection (union_of [])))
    (slices_write_the_job selection (first_node ∷ []) [] ([] ∷ [] ∷ []) one_bound (refl, (refl, tt)))

-- ---- all shards
module _ (selection : Selection) (held : List VersionSet) where
  abbrev text : Option Span → List ℕ
  text span = spell Opl (selection_of selection (union_of (shard_slices span held)))

  -- the span at an index, and those after it
  next_span : (ss : List Span) (index : ℕ) → ((span_at ss index ≡ None) × (drop index ss ≡ []) × (drop (suc index) ss ≡ []))
      ⊎ ((s : Span) × (span_at ss index ≡ Some s) × (drop index ss ≡ s ∷ drop (suc index) ss))
  next_span [] zero = inl (refl, refl, refl)
  next_span [] (suc index) = inl (refl, refl, refl)
  next_span (s ∷ ss) zero = inr (s, refl, refl)
  next_span (s ∷ ss) (suc index) = next_span ss index

  module _ (count : ℕ) (all : List (List ℕ)) where
    abbrev whole : List Span
    whole = spans (bounds_of count all)

    outputs_are : (most index : ℕ) → length whole ≤ index + most →
        concat (shard_outputs selection count all held most (suc index)) ≡ concat (map (λ span. text (Some span)) (drop index whole))
    outputs_are zero index few =
        sym (ap (λ ss. concat (map (λ span. text (Some span)) ss)) (nil_from_length (drop index whole)
        (omega (arith, few, length-drop index whole))))
    outputs_are (suc most) index few =
        let rest : concat (shard_outputs selection count all held most (suc index + 1))
        ≡ concat (map (λ span. text (Some span)) (drop (suc index) whole)) =
        (let e : suc index + 1 ≡ suc (suc index) = omega arith in
        ap (λ n. concat (shard_outputs selection count all held most n)) e ∙ outputs_are most (suc index) (omega (arith, few))) in
        let counted : suc index - 1 ≡ index = omega arith in
        ap (λ k. text (span_at whole k) ++ concat (shard_outputs selection count all held most (suc index + 1))) counted
        ∙ ⊎_elim
        (λ (none, here, after).
        (λ i. text (none i) ++ rest i) ∙ (λ i. nothing_written selection i ++ concat (map (λ span. text (Some span)) (after i)))
        ∙ sym (ap (λ ss. concat (map (λ span. text (Some span)) ss)) here))
        (λ (s, one, here).
        (λ i. text (one i) ++ rest i) ∙ sym (ap (λ ss. concat (map (λ span. text (Some span)) ss)) here))
        (next_span whole index)

    slices_within : (ss : List Span) → Pairwise (AreSlicesWithin held) ss (map (λ span. shard_slices (Some span) held) ss)
    slices_within [] = tt
    slices_within (s ∷ ss) = (refl, slices_within ss)

    map_both : (ss : List Span) → map (λ sliced. spell Opl (selection_of selection (union_of sliced)))
        (map (λ span. shard_slices (Some span) held) ss) ≡ map (λ span. text (Some span)) ss
    map_both [] = refl
    map_both (s ∷ ss) = ap (λ ts. text (Some s) ∷ ts) (map_both ss)

pub shard_jobs_write_the_job : ShardJobsWriteTheJob
shard_jobs_write_the_job selection count all held some =
    let ss : List Span = spans (bounds_of count all) in
    slices_write_the_job selection (bounds_of count all) held (map (λ span. shard_slices (Some span) held) ss) (bounds_ascend count all)
    (slices_within selection held count all ss)
    ∙ ap concat (map_both selection held count all ss)
    ∙ sym (outputs_are selection held count all count 0 (let few = few_spans count all some in omega (arith, few)))

-- ---- the job for one shard
-- the job for the span of a shard is the job for the shard
pub shard_is : (job : ShardJob) (all : List (List ℕ)) (held : List VersionSet) (span : Option Span)
    → span ≡ shard_span job.shard.number job.shard.count all → (change : Change) (counts : Counts)
    → IsSpanJob job.selection span held job.format change counts → IsShardJob job all held change counts
shard_is job all held span is change counts done = record {
  written = subst (λ (s : Option Span). Appends change (spell job.format (selection_of job.selection (union_of (shard_slices s held)))))
      is done.written;
  written_count = done.written_count
      ∙ ap (λ (s : Option Span). capped_count (size (selection_of job.selection (union_of (shard_slices s held))))) is;
  clashes_count = done.clashes_count ∙ ap (λ (s : Option Span). capped_count (clash_count (union_of (shard_slices s held)))) is;
}

-- ---- the first fault of a file
module _ {F : Type 0} (known : F → Option (List ℕ)) (fails : F → Type 0) (end : EndRule) where
  -- a sound file has a fault only if a read failed, or its bytes aren't known
  sound_fault : (Fails : Type 0) (k : Option (List ℕ)) (fault first : Fault) → IsSoundFile k Sorted end → first.reason ≡ fault.reason
      → IfSome k (λ all. first.place ≤ length all) → (fault ≡ memory_fault → ⊥) → IsFileRefusal Fails k fault
      → IsFaultOfFile Fails k Sorted end first
  sound_fault Fails k fault first sound reason within other (inl (inl memory)) = absurd (other memory)
  sound_fault Fails k fault first sound reason within other (inl (inr (failed, read))) = inl (failed, reason ∙ read, within)
  sound_fault Fails None fault first sound reason within other (inr none) = inr tt
  sound_fault Fails (Some all) fault first sound reason within other (inr none) = absurd (none sound.0.0 sound.0.1)

  sound_named : (files : List F) (file : F) (fault first : Fault) → slice_get files fault.input ≡ Some file
      → IsSoundFile (known file) Sorted end → first.reason ≡ fault.reason → first.input ≡ fault.input
      → IfSome (known file) (λ all. first.place ≤ length all) → (fault ≡ memory_fault → ⊥)
      → AreRefused known fails IsFileRefusal files fault → AreRefused known fails (IsFaultByRule end) files first
  sound_named files file fault first at sound reason input within other (inl memory) = absurd (other memory)
  sound_named files file fault first at sound reason input within other (inr (inl (one, there, of))) =
      let is : one ≡ file = (let e : Some one ≡ Some file = sym there ∙ at in cc) in
      inr (inl (
        file,
        ap (slice_get files) input ∙ at,
        sound_fault (fails file) (known file) fault first sound reason within other
            (subst (λ (x : F). IsFileRefusal (fails x) (known x) fault) is of),
      ))
  sound_named files file fault first at sound reason input within other (inr (inr long)) = inr (inr (reason ∙ long.0, long.1))

  -- a file that a fault names has its first fault
  pub first_named : (files : List F) (file : F) (fault first : Fault) → slice_get files fault.input ≡ Some file
      → IsFaultIfSound (fails file) (known file) Sorted end fault first → (fault ≡ memory_fault → ⊥)
      → AreRefused known fails IsFileRefusal files fault → AreRefused known fails (IsFaultByRule end) files first
  first_named files file fault first at (inl (inl memory)) other refused = inl memory
  first_named files file fault first at (inl (inr (input, of))) other refused = inr (inl (file, ap (slice_get files) input ∙ at, of))
  first_named files file fault first at (inr (sound, reason, input, within)) other refused =
      sound_named files file fault first at sound reason input within other refused

  -- a fault that names no file is the same
  pub unnamed : (files : List F) (fault : Fault) → slice_get files fault.input ≡ None
      → AreRefused known fails IsFileRefusal files fault → AreRefused known fails (IsFaultByRule end) files fault
  unnamed files fault none (inl memory) = inl memory
  unnamed files fault none (inr (inl (one, there, of))) = absurd (let e : None ≡ Some one = sym none ∙ there in cc)
  unnamed files fault none (inr (inr long)) = inr (inr long)
