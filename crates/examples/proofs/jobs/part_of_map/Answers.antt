use Rattle.std.proofs.Common.{◌≡◌, ◌∙◌, ℕ, List, [], ◌∷◌, Some, map, refl}
use Rattle.std.specs.Borrow.{Bor}
use Rattle.osm_mirror.specs.run.Probes.{HaveBytes}
use Rattle.examples.proofs.jobs.part_of_map.Goals as goal

-- files in memory have their own bytes
have_bytes : (files : List (Bor (Bor (List ℕ)))) →
    HaveBytes (λ (file : Bor (Bor (List ℕ))). Some file.now.now) files (map (λ file. file.now.now) files)
have_bytes [] = tt
have_bytes (file ∷ files) = (refl, have_bytes files)

pub returns : goal.returns
returns c held hold =
    let files = c.args.files.now in
    let all = map (λ (file : Bor (Bor (List ℕ))). file.now.now) files in
    let is = c.in_ok-run_shard.ensures.written all held (have_bytes files) hold in
    c.into_vec.ensures ∙ is.written [] c.new-output.ensures.bytes
