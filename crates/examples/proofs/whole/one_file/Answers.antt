use Rattle.std.proofs.Common.{◌≡◌, ◌∙◌, subst, ℕ, List, [], ◌∷◌}
use Rattle.osm_model.specs.VersionSet.{VersionSet}
use Rattle.osm_model.specs.Pairwise.{Pairwise}
use Rattle.osm_files.specs.Held.{HoldsSorted}
use Rattle.osm_files.specs.Input.{InputRest, whole_input}
use Rattle.osm_merge.specs.Giving.{AllGive}
use Rattle.osm_mirror.specs.run.Merge.{GivesSorted}
use Rattle.examples.proofs.whole.one_file.Goals as goal

-- an input gives these bytes and then its end
abbrev GivesBytes : List ℕ → InputRest → Type 0
GivesBytes bytes given = given ≡ whole_input bytes

all_hold : (files : List (List ℕ)) (all : List InputRest) (held : List VersionSet) → AllGive GivesBytes files all →
    Pairwise GivesSorted all held → Pairwise HoldsSorted files held
all_hold [] [] [] gives sorted = tt
all_hold [] [] (set ∷ held) gives sorted = sorted
all_hold [] (given ∷ all) held gives sorted = absurd gives
all_hold (file ∷ files) [] held gives sorted = absurd gives
all_hold (file ∷ files) (given ∷ all) [] gives sorted = sorted
all_hold (file ∷ files) (given ∷ all) (set ∷ held) gives sorted =
    (subst (λ (c : InputRest). HoldsSorted c.bytes set) gives.0 sorted.0.file, all_hold files all held gives.1 sorted.1)

pub returns : goal.returns
returns c =
    let merged = c.in_ok-run_merge.ensures.merged in
    let is = merged.2 in
    let gives = subst (λ items. AllGive GivesBytes items merged.0) c.in_ok-inputs.ensures merged.1 in
    (is.held, all_hold _ merged.0 is.held gives is.files, c.into_vec.ensures ∙ is.written [] c.new-output.ensures.bytes)
