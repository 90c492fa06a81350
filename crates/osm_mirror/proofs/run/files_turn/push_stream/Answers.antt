use Rattle.std.proofs.Common.{[], ◌∷◌, refl}
use Rattle.osm_files.specs.declared.file_input.FileInput.TheVariants.{Stream}
use Rattle.osm_mirror.specs.declared.run.input.InputFile.{InputFile}
use Rattle.osm_mirror.proofs.run.files_turn.push_stream.Goals as goal

pub returns-clause-added : goal.returns-clause-added
returns-clause-added g c =
    let file : InputFile _ = record { reader = Stream c.args.stream; read_as = c.args.way.now.read_as; end = c.args.end } in (
      file ∷ [],
      c.in_ok-push.ensures.items,
      (file, refl, record { gives_stream = λ given h. h; read_as_is = refl; end_is = refl }),
    )
