-- Parts of a file between offsets, and the jobs over the extents of several files.
use Rattle.std.proofs.Common.{◌≡◌, ◌⊎◌, ⊎_elim, ℕ, ◌-◌, List, [], ◌∷◌, ◌++◌, take, drop, map}
use Rattle.std.proofs.Common.{refl, sym, ap, ◌∙◌, subst, Option, Some, None, append-nil, append_assoc}
use Rattle.osm_model.specs.declared.object.Object.{Object}
use Rattle.osm_model.specs.Data.{VersionData}
use Rattle.osm_model.specs.Pairwise.{Pairwise}
use Rattle.osm_model.specs.VersionSet.{VersionSet}
use Rattle.osm_files.specs.Held.{IsFile, HoldsSorted}
use Rattle.osm_files.specs.Units.{InOpl, start_of}
use Rattle.osm_files.proofs.FileLaws.{one_list}
use Rattle.osm_files.proofs.JoinLaws.{Ended}
use Rattle.osm_merge.specs.declared.span.Span.{Span}
use Rattle.osm_merge.specs.Slice.{slice_of, spans, spans_from, IsWithin}
use Rattle.osm_merge.specs.Union as merged
use Rattle.osm_merge.proofs.SliceLaws.{Rise, rise}
use Rattle.osm_mirror.specs.run.Shards.{parts_from, AreCutsFrom, ExtentsHoldTheFile, first_set, other_sets, by_span}
use Rattle.osm_mirror.specs.run.Shards.{ShardsWriteTheJob}
use Rattle.osm_mirror.specs.run.Slices.{AreSlicesWithin}
use Rattle.osm_mirror.proofs.run_laws.SplitLineLaws.{part_ends, part_whole}
use Rattle.osm_mirror.proofs.run_laws.SlicedFileLaws.{SpelledFrom, no_spans, spelled_more, spelled_last, slices_of_all}
use Rattle.osm_mirror.proofs.run_laws.SlicedFileLaws.{slices_write_the_job}
use Rattle.osm_mirror.proofs.run_laws.SortedRunLaws.{after_line}
use Rattle.osm_files.proofs.JoinLaws.{starts_as}

-- ---- jobs over the extents of several files
-- the extents of all files within a span are the slices of the files' sets
first_slices : (sets : List VersionSet) (span : Span) (others : List Span) (extents : List (List VersionSet)) →
    Pairwise (λ held slices. map (λ s. slice_of s.from s.to held) (span ∷ others) ≡ slices) sets extents →
    (map first_set extents ≡ map (slice_of span.from span.to) sets)
    × Pairwise (λ held slices. map (λ s. slice_of s.from s.to held) others ≡ slices) sets (map other_sets extents)
first_slices [] span others [] h = (refl, tt)
first_slices [] span others (p ∷ extents) h = absurd h
first_slices (s ∷ sets) span others [] h = absurd h
first_slices (s ∷ sets) span others (p ∷ extents) (is, h) =
    let more = first_slices sets span others extents h in (
      λ i. ap first_set (sym is) i ∷ more.0 i,
      (ap other_sets is, more.1),
    )

runs_are : (sets : List VersionSet) (all : List Span) (extents : List (List VersionSet)) →
    Pairwise (λ held slices. map (λ s. slice_of s.from s.to held) all ≡ slices) sets extents →
    Pairwise (AreSlicesWithin sets) all (by_span all extents)
runs_are sets [] extents h = tt
runs_are sets (span ∷ others) extents h = let first = first_slices sets span others extents h in
    (first.0, runs_are sets others (map other_sets extents) first.1)

-- The extents of a job, one after another, are what the job writes.
pub shards_write_the_job : ShardsWriteTheJob
shards_write_the_job selection bounds sets extents up h =
    slices_write_the_job selection bounds sets (by_span (spans bounds) extents) up (runs_are sets (spans bounds) extents h)

-- ---- extents of one file
nothing_spelled : (versions : List VersionData) → IsFile [] versions → versions ≡ []
nothing_spelled versions file = one_list [] versions [] file tt

-- lines, and the lines after them, spell the versions of both
joined : (bytes file rest : List ℕ) (earlier later : List VersionData) → bytes ≡ file ++ rest → start_of bytes ≡ InOpl →
    start_of rest ≡ InOpl → (file ≡ []) ⊎ (rest ≡ []) ⊎ Ended file → IsFile file earlier → IsFile rest later →
    IsFile bytes (earlier ++ later)
joined bytes file rest earlier later whole opl more_opl ends one other =
    ⊎_elim (λ none.
    let no_versions : earlier ≡ [] = nothing_spelled earlier (rw none at one) in
    subst (λ (b : List ℕ). IsFile b (earlier ++ later)) (sym (whole ∙ ap (λ f. f ++ rest) none))
    (subst (λ (vs : List VersionData). IsFile rest (vs ++ later)) (sym no_versions) other))
    (⊎_elim (λ none.
    let no_versions : later ≡ [] = nothing_spelled later (rw none at other) in
    subst (λ (b : List ℕ). IsFile b (earlier ++ later)) (sym (whole ∙ ap (λ r. file ++ r) none ∙ append-nil file))
    (subst (λ (vs : List VersionData). IsFile file vs) (sym (ap (λ vs. earlier ++ vs) no_versions ∙ append-nil earlier)) one))
    (λ ended. after_line file rest bytes earlier later one other (record {
      front = ended.text;
      last = ended.last;
      ends = ended.ends;
      is_file = ended.is;
      lines =
          ap start_of ended.is ∙ sym (starts_as ended.text rest ended.last)
          ∙ ap start_of (sym (append_assoc ended.text (ended.last ∷ []) rest) ∙ ap (λ f. f ++ rest) (sym ended.is) ∙ sym whole) ∙ opl;
      more_lines = more_opl;
      whole = whole;
    }))) ends

parts_spell : (bytes : List ℕ) (from : Option Object) (bounds : List Object) (start : ℕ) (offsets : List ℕ) (held : List VersionSet) →
    Rise from bounds → AreCutsFrom bytes start offsets → start_of (drop start bytes) ≡ InOpl →
    Pairwise HoldsSorted (parts_from start offsets bytes) held → Pairwise IsWithin (spans_from from bounds) held →
    SpelledFrom from (drop start bytes) held
parts_spell bytes from bounds start [] [] up cuts opl holds within = absurd holds
parts_spell bytes from bounds start [] (s ∷ t ∷ held) up cuts opl holds within = absurd holds.1
parts_spell bytes from (bound ∷ bounds) start [] (s ∷ []) up cuts opl holds within = absurd (no_spans (Some bound) bounds within.1)
parts_spell bytes from [] start [] (s ∷ []) up cuts opl (h, holds) (w, within) =
    spelled_last from (drop start bytes) (drop start bytes) s refl h w
parts_spell bytes from bounds start (offset ∷ offsets) [] up cuts opl holds within = absurd holds
parts_spell bytes from [] start (offset ∷ []) (s ∷ []) up cuts opl holds within = absurd holds.1
parts_spell bytes from [] start (offset ∷ next ∷ offsets) (s ∷ []) up cuts opl holds within = absurd holds.1
parts_spell bytes from [] start (offset ∷ offsets) (s ∷ t ∷ held) up cuts opl holds within = absurd within.1
parts_spell bytes from (bound ∷ bounds) start (offset ∷ offsets) (s ∷ held) up (ascends, begins, cuts) opl (h, holds) (w, within) =
    let more = parts_spell bytes (Some bound) bounds offset offsets held up.1 cuts begins.start holds within in
    spelled_more from bound (drop start bytes) (drop offset bytes) (take (offset - start) (drop start bytes)) s held up.0 h w more
    (joined (drop start bytes) (take (offset - start) (drop start bytes)) (drop offset bytes) h.versions (merged.versions_of more.given)
    (part_whole bytes start offset ascends) opl begins.start (part_ends bytes start offset ascends begins.line) h.file more.file)

-- The extents of a file at its cut offsets hold the slices of its set.
pub extents_hold_the_file : ExtentsHoldTheFile
extents_hold_the_file bounds bytes offsets held short opl up cuts holds within =
    slices_of_all bounds bytes held short up within (parts_spell bytes None bounds 0 offsets held (rise bounds up) cuts opl holds within)
