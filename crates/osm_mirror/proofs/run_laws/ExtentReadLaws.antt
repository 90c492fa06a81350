-- What a job for a span shows of a file of which it read an extent.
use Rattle.std.proofs.Common.{◌≡◌, inl, inr, ⊎_elim, ℕ, [], ◌∷◌, ◌-◌, ◌≤◌, ◌<◌, ◌^◌, Bool, true, false, List, length, take, drop}
use Rattle.std.proofs.Common.{Option, Some, None, Bor, map, refl, sym, ap, ◌∙◌, subst, arith, append-nil, length-take}
use Rattle.std.specs.List.{AllByRecursion}
use Rattle.std.proofs.lemmas.List.{take_all}
use Rattle.std.proofs.lemmas.List.Elements.{All-from_recursion}
use Rattle.osm_model.specs.declared.object.Object.{Object}
use Rattle.osm_model.specs.Pairwise.{Pairwise}
use Rattle.osm_model.specs.VersionSet.{VersionSet}
use Rattle.osm_files.specs.declared.format.Format.{Format}
use Rattle.osm_files.specs.declared.sorted_run.SortedRun.{SortedRun}
use Rattle.osm_files.specs.Extent.{RunCanGive}
use Rattle.osm_files.specs.Held.{HoldsSorted}
use Rattle.osm_files.specs.Input.{InputRest}
use Rattle.osm_files.specs.Lines.{bytes_between}
use Rattle.osm_files.specs.Output.{Change}
use Rattle.osm_files.specs.SortedRun.{run_bytes, whole_run}
use Rattle.osm_files.proofs.RunBytes.{run_given}
use Rattle.osm_merge.specs.declared.merge.Counts.{Counts}
use Rattle.osm_merge.specs.declared.selection.Selection.{Selection}
use Rattle.osm_merge.specs.declared.span.Span.{Span}
use Rattle.osm_merge.specs.declared.within.Outside.{Outside}
use Rattle.osm_merge.specs.declared.within.Outside.TheVariants.{Dropped, Refused}
use Rattle.osm_merge.specs.Giving.{AllGive, SomeInputsGive}
use Rattle.osm_merge.specs.Slice.{IsWithin}
use Rattle.osm_mirror.specs.declared.run.shard_extent.FileExtent.{FileExtent}
use Rattle.osm_mirror.specs.declared.run.file_way.FileWay.{FileWay}
use Rattle.osm_mirror.specs.declared.run.files_job.FilesJob.{FilesJob}
use Rattle.osm_mirror.specs.declared.run.files_job.JobFile.{JobFile}
use Rattle.osm_mirror.specs.declared.run.input.InputFile.{InputFile}
use Rattle.osm_mirror.specs.declared.run.input.ReadAs.{ReadAs}
use Rattle.osm_mirror.specs.run.Cut.{BeginsLines}
use Rattle.osm_mirror.specs.run.Merge.{GivesSorted}
use Rattle.osm_mirror.specs.run.Probes.{HaveBytes}
use Rattle.osm_mirror.specs.run.ShardExtent.{is_read_whole, outside_if, begin_of, end_of, BeginsAt, EndsAt, lines_between, IsLinesWithin}
use Rattle.osm_mirror.specs.run.ShardExtent.{IsFileExtent, IsExtentOf, AreWaysWithin, opened_as_whole}
use Rattle.osm_mirror.specs.run.ShardsRead.{IsSortedFile, AreCutAt, HasLines, HasReadAs, HasReadFile, HasReadSpan}
use Rattle.osm_mirror.specs.run.Given.{GivesAs, InputFileCanGive}
use Rattle.osm_mirror.specs.run.SelectedJob.{IsJob}
use Rattle.osm_mirror.specs.run.SliceJob.{HasSlice}
use Rattle.osm_mirror.specs.run.WaysJob.{IsJobInWays}
use Rattle.osm_mirror.proofs.run_laws.FilesJobLaws.{plain_given}
use Rattle.osm_mirror.proofs.run_laws.SpanJobLaws.{IsInputOf, AreInputs, extents}

-- ---- the offsets of an extent
begin_is : (all : List ℕ) (from : Option Object) (start : ℕ) → BeginsAt all from start → start ≡ begin_of all from
begin_is all None start is = is
begin_is all (Some bound) start at = at.2

end_is : (all : List ℕ) (to : Option Object) (end : ℕ) → EndsAt all to end → end ≡ end_of all to
end_is all None end is = is
end_is all (Some bound) end at = at.2

cut_at : (all : List ℕ) (to : Option Object) (end : ℕ) → EndsAt all to end → AreCutAt all to
cut_at all None end is = tt
cut_at all (Some bound) end at = subst (BeginsLines all) at.2 at.1

-- ---- whether a file is read whole
refused_if : (t : Bool) → Refused ≡ outside_if t → t ≡ false
refused_if true e = let clash : Refused ≡ Dropped = e in cc
refused_if false e = refl

dropped_if : (t : Bool) → Dropped ≡ outside_if t → t ≡ true
dropped_if true e = refl
dropped_if false e = let clash : Dropped ≡ Refused = e in cc

-- bytes whose front of more than 2^62 bytes has fewer are this front
front_whole : (all front : List ℕ) → front ≡ run_bytes whole_run all → length front < 2 ^ 62 → front ≡ all
front_whole all front is few =
    let same : front ≡ take (2 ^ 64 - 1) all = is ∙ append-nil (take (2 ^ 64 - 1) all) in
    let size = ap length same ∙ length-take (2 ^ 64 - 1) all in
    same ∙ take_all (2 ^ 64 - 1) all (omega (arith, size, few))

module _ (span : Span) (Fails : Type 0) (all : List ℕ) (extent : FileExtent) (is : IsFileExtent span all extent) (c : InputRest)
    (gives : RunCanGive Fails (Some all) extent.run extent.size c) where
  -- an input that gives all gives the bytes of its extent
  given_bytes : c.failure ≡ None → (run : SortedRun) → extent.run ≡ run → c.bytes ≡ run_bytes run all
  given_bytes unbroken run run_is =
      run_given Fails all extent.run extent.size c is.size gives unbroken ∙ ap (λ (r : SortedRun). run_bytes r all) run_is

  lines_have : (part : VersionSet) → GivesSorted c part → IsWithin span part → IsLinesWithin span all extent → HasLines span all
  lines_have part sorted within lines =
      let p = lines.run in
      let w = p.3 in
      let start = begin_is all span.from p.0 w.begins in
      let end = end_is all span.to p.1 w.ends in
      let bytes : c.bytes ≡ bytes_between (begin_of all span.from) (end_of all span.to) all =
      given_bytes sorted.unbroken (lines_between p.0 p.1) p.2
      ∙ append-nil (take (p.1 - p.0) (drop p.0 all))
      ∙ (λ i. bytes_between (start i) (end i) all) in
      record {
        cut = cut_at all span.to p.1 w.ends;
        ascends = (let up = w.ascends in omega (arith, up, start, end));
        part = part;
        holds = subst (λ (b : List ℕ). HoldsSorted b part) bytes sorted.file;
        within = within;
      }

  whole_have : extent.run ≡ whole_run → (held : VersionSet) → GivesSorted c held → IsSortedFile all
  whole_have run_is held sorted =
      let file = sorted.file in (
        held,
        subst (λ (b : List ℕ). HoldsSorted b held)
            (front_whole all c.bytes (given_bytes sorted.unbroken whole_run run_is) file.short) file,
      )

  -- A job that takes a slice of the extent of a file shows that what it read is sorted.
  pub file_read : (outside : Outside) (part : VersionSet) → outside ≡ extent.outside → HasSlice span (outside, c) part
      → HasReadFile span all
  file_read Refused part e (sorted, within) =
      subst (λ t. HasReadAs t span all) (sym (refused_if (is_read_whole all) (e ∙ is.outside)))
      (⊎_elim (λ whole. absurd (let clash : Refused ≡ Dropped = e ∙ whole.0 in cc))
      (λ lines. lines_have part sorted within lines) is.read)
  file_read Dropped part e slice =
      subst (λ t. HasReadAs t span all) (sym (dropped_if (is_read_whole all) (e ∙ is.outside)))
      (⊎_elim (λ whole. λ none. (let file = slice.1 none in whole_have whole.1 file.0 file.1))
      (λ lines. absurd (let clash : Dropped ≡ Refused = e ∙ lines.outside in cc)) is.read)

-- ---- all files of a job for a span
module _ {F I : Type 0} (known : F → Option (List ℕ)) (fails : F → Type 0) (gives : I → InputRest → Type 0) where
  input_read : (span : Span) (file : F) (input : InputFile I) (all : List ℕ) (given : ReadAs × InputRest) (part : VersionSet)
      → IsInputOf known fails gives span file input → known file ≡ Some all → InputFileCanGive gives input given
      → GivesAs given part → HasReadFile span all
  input_read span file input all (how, c) part i is g has =
      file_read span (fails file) all i.extent (subst (λ k. IsExtentOf span k i.extent) is i.is) c
      (subst (λ k. RunCanGive (fails file) k i.extent.run i.extent.size c) is (i.reads c (plain_given gives input how c i.end_is g)))
      i.extent.outside part refl (subst (λ (h : ReadAs). GivesAs (h, c) part) (sym g.0 ∙ i.how_is) has)

  inputs_read : (span : Span) (files : List F) (all : List (List ℕ)) (inputs : List (InputFile I)) (given : List (ReadAs × InputRest))
      (parts : List VersionSet) → Pairwise (IsInputOf known fails gives span) files inputs → HaveBytes known files all
      → AllGive (InputFileCanGive gives) inputs given → Pairwise GivesAs given parts → AllByRecursion (HasReadFile span) all
  inputs_read span [] [] inputs given parts are have g p = tt
  inputs_read span [] (b ∷ all) inputs given parts are have g p = absurd have
  inputs_read span (file ∷ files) [] inputs given parts are have g p = absurd have
  inputs_read span (file ∷ files) (b ∷ all) [] given parts are have g p = absurd are
  inputs_read span (file ∷ files) (b ∷ all) (input ∷ inputs) [] parts are have g p = absurd g
  inputs_read span (file ∷ files) (b ∷ all) (input ∷ inputs) (c ∷ given) [] are have g p = absurd p
  inputs_read span (file ∷ files) (b ∷ all) (input ∷ inputs) (c ∷ given) (part ∷ parts) are have g p = (
    input_read span file input b c part are.0 have.0 g.0 p.0,
    inputs_read span files all inputs given parts are.1 have.1 g.1 p.1,
  )

  span_read : (span : Option Span) (files : List F) (inputs : List (InputFile I)) → AreInputs known fails gives span files inputs
      → (selection : Selection) (format : Format) (change : Change) (counts : Counts)
      → SomeInputsGive (InputFileCanGive gives) inputs (λ given. IsJob selection given format change counts)
      → (all : List (List ℕ)) → HaveBytes known files all → HasReadSpan span all
  span_read None files inputs are selection format change counts done all have = tt
  span_read (Some span) files inputs are selection format change counts (given, g, job) all have =
      All-from_recursion (HasReadFile span) all (inputs_read span files all inputs given job.held are have g job.files)

module _ {F R I : Type 0} (fails : F → Type 0) (bytes : F → Option (List ℕ)) (can : R → InputRest → Type 0)
    (gives : I → InputRest → Type 0) (span : Option Span) (files : List (Bor F)) (ways : List FileWay)
    (within : AreWaysWithin bytes span files ways) (opened : List (JobFile F R)) (are : opened ≡ map opened_as_whole files)
    (job : FilesJob) where
  -- A job over files that are read in their ways for a span shows that what it read is sorted.
  pub read_within : (change : Change) (counts : Counts) → IsJobInWays fails bytes can gives opened ways job change counts
      → (all : List (List ℕ)) → HaveBytes (λ file. bytes file.now) files all → HasReadSpan span all
  read_within change counts is all have =
      span_read (λ file. bytes file.now) (λ file. fails file.now) gives span files is.inputs
      (extents fails bytes can gives span files ways within opened are job is.inputs is.opens).are job.selection job.format change
      counts is.done all have
