use Rattle.std.proofs.Common.{◌≡◌, ◌∙◌, List, [], ◌∷◌, map, refl, subst}
use Rattle.osm_model.specs.VersionSet.{VersionSet}
use Rattle.osm_model.specs.Pairwise.{Pairwise}
use Rattle.osm_files.specs.Input.{InputRest}
use Rattle.osm_files.specs.Recorded.{RecordedData, given_by}
use Rattle.osm_merge.specs.Giving.{AllGive}
use Rattle.osm_mirror.specs.run.Merge.{GivesSorted}
use Rattle.examples.proofs.reads.one_file_of_reads.Goals as goal

-- each input gives what its reads gave
all_given : (files : List RecordedData) (all : List InputRest) → AllGive (λ s c. c ≡ given_by s) files all → all ≡ map given_by files
all_given [] [] gives = refl
all_given [] (given ∷ all) gives = absurd gives
all_given (file ∷ files) [] gives = absurd gives
all_given (file ∷ files) (given ∷ all) gives = (λ i. gives.0 i ∷ all_given files all gives.1 i)

pub returns : goal.returns
returns c =
    let merged = c.in_ok-run_merge.ensures.merged in
    let is = merged.2 in
    let files : Pairwise GivesSorted (map given_by c.args.files.items) is.held =
    subst (λ all. Pairwise GivesSorted all is.held) (all_given c.args.files.items merged.0 merged.1) is.files in
    (is.held, files, c.into_vec.ensures ∙ is.written [] c.new-output.ensures.bytes)
