-- The results of the jobs if inputs report their bytes beforehand.
use Rattle.std.proofs.Common.{◌≡◌, ℕ, List, [], ◌∷◌, length, arith, refl, sym, subst, inl, inr}
use Rattle.std.specs.List.{All}
use Rattle.std.proofs.lemmas.List.Elements.{All-cons, All-nil}
use Rattle.osm_model.specs.VersionSet.{VersionSet}
use Rattle.osm_model.specs.Pairwise.{Pairwise}
use Rattle.osm_files.specs.declared.format.Format.{Format}
use Rattle.osm_files.specs.declared.output.Output.{Ghosts}
use Rattle.osm_files.specs.Change.{change_of}
use Rattle.osm_files.specs.Input.{InputRest}
use Rattle.osm_files.specs.Output.{Change}
use Rattle.osm_merge.specs.declared.merge.Counts.{Counts}
use Rattle.osm_merge.specs.declared.selection.Selection.TheVariants as selection
use Rattle.osm_merge.specs.Giving.{AllGive}
use Rattle.osm_merge.specs.Merged.{WritesSet, HasBegunIn}
use Rattle.osm_merge.specs.Selected.{selection_of}
use Rattle.osm_merge.specs.Union.{union_given}
use Rattle.osm_merge.proofs.UnionLaws.{begun_refused, nothing_appended}
use Rattle.osm_mirror.specs.run.Given.{InputFileCanGive, GivesAs, sources}
use Rattle.osm_mirror.specs.run.Merge as merge
use Rattle.osm_mirror.specs.run.Job.{union_of, IsJobBy}
use Rattle.osm_mirror.specs.run.SelectedJob.{IsJob, RefusesJob}
use Rattle.osm_mirror.specs.run.KnownInputs.{IsFileIfKnown, KnownIsGiven, HoldsOfKnown, MergesOfKnown, JobsOfKnown}
use Rattle.osm_mirror.specs.run.KnownInputs.{RefusedMergesHaveBegun, RefusedJobsHaveBegun}

module _ {R C : Type 0} (can : R → C → Type 0) where
  -- Inputs that report their bytes give these bytes.
  pub known_given : (inputs : List R) → KnownIsGiven can inputs
  known_given [] [] [] t g = refl
  known_given [] [] (d ∷ given) t g = absurd g
  known_given [] (c ∷ known) given t g = absurd t
  known_given (r ∷ inputs) [] given t g = absurd t
  known_given (r ∷ inputs) (c ∷ known) [] t g = absurd g
  known_given (r ∷ inputs) (c ∷ known) (d ∷ given) t g = λ i. t.0 d g.0 i ∷ known_given inputs known given t.1 g.1 i

  -- each input that reports its bytes gave a file
  each_known : (gives : C → VersionSet → Type 0) (inputs : List R) (all : List C) (held : List VersionSet) → AllGive can inputs all
      → Pairwise gives all held → All (IsFileIfKnown can gives) inputs
  each_known gives [] all held g files = All-nil (IsFileIfKnown can gives)
  each_known gives (r ∷ inputs) [] held g files = absurd g
  each_known gives (r ∷ inputs) (c ∷ all) [] g files = absurd files
  each_known gives (r ∷ inputs) (c ∷ all) (s ∷ held) g files =
      All-cons (IsFileIfKnown can gives) r inputs (λ d known. (s, subst (λ (x : C). gives x s) (known c g.0) files.0))
      (each_known gives inputs all held g.1 files.1)

-- A property of some bytes that the inputs can give is a property of the bytes that they report.
holds_of_known : {R C : Type 0} (can : R → C → Type 0) (inputs : List R) (P : List C → Type 0) → HoldsOfKnown can inputs P
holds_of_known can inputs P h all known = subst P (known_given can inputs all h.0 known h.1) h.2

pub merges_known : {R O : Type 0} (can : R → InputRest → Type 0) (output : Ghosts O) → MergesOfKnown can output
merges_known can output inputs format before after = record {
  done = λ counts. holds_of_known can inputs (λ all. merge.IsMerged all format (change_of output before after) counts);
  refused = λ fault. holds_of_known can inputs (λ all. merge.Refuses all format (change_of output before after) fault);
  files = λ counts h. each_known can merge.GivesSorted inputs h.0 h.2.held h.1 h.2.files;
}

pub jobs_known : {R O : Type 0} (can : R → InputRest → Type 0) (output : Ghosts O) → JobsOfKnown can output
jobs_known can output selection inputs format before after = record {
  done = λ counts. holds_of_known (InputFileCanGive can) inputs (λ all. IsJob selection all format (change_of output before after) counts);
  refused = λ fault. holds_of_known (InputFileCanGive can) inputs (λ all. RefusesJob output selection all format before after fault);
  files = λ counts h. each_known (InputFileCanGive can) GivesAs inputs h.0 h.2.held h.1 h.2.files;
}

-- A job that is done wrote the file of a set.
pub writes_set : {C : Type 0} (Gives : C → VersionSet → Type 0) (choice : VersionSet → VersionSet) (Compared : ℕ → ℕ → ℕ → Type 0)
    (all : List C) (format : Format) (change : Change) (counts : Counts) → IsJobBy Gives choice Compared all format change counts →
    WritesSet format change counts
writes_set Gives choice Compared all format change counts run =
    record { set = choice (union_of run.held); appended = run.written; written = run.written_count }

pub merges_begun : {O : Type 0} (output : Ghosts O) → RefusedMergesHaveBegun output
merges_begun output all format before after fault refused =
    let why = refused.why in
    (why.0, why.1, begun_refused selection.All why.0 format (length all) (change_of output before after) fault why.2)

-- an unchanged output has a front of the file, which is empty
none_begun : {O : Type 0} (output : Ghosts O) (set : VersionSet) (format : Format) (before after : O) → after ≡ before
    → HasBegunIn set format (change_of output before after)
none_begun output set format before after same =
    subst (λ (a : _). HasBegunIn set format (change_of output before a)) (sym same)
    (record { count = 0; within = omega arith; appended = nothing_appended (output.holds before) })

-- A job that is refused wrote a front of the file of the selection.
pub jobs_begun : {O : Type 0} (output : Ghosts O) → RefusedJobsHaveBegun output
jobs_begun output selection all format before after fault refused =
    let set = selection_of selection (union_given (sources 0 all)) in
    elim refused.why [
      | inl (memory, same) ↦ none_begun output set format before after same
      | inr (inl (unread, same)) ↦ none_begun output set format before after same
      | inr (inr (read, why)) ↦ begun_refused selection (sources 0 all) format (length all) (change_of output before after) fault why
    ]
