use Rattle.std.proofs.Common.{inl, refl}
use Rattle.std.proofs.lemmas.Result.{IfErr-weaker}
use Rattle.osm_files.specs.EndRule.{by_rule}
use Rattle.osm_mirror.proofs.run.source.open_input.Goals as goal

pub returns-in-InOrder-Sorted-clause-refused : goal.returns-in-InOrder-Sorted-clause-refused
returns-in-InOrder-Sorted-clause-refused g c =
    let reader = c.args.file.reader in
    IfErr-weaker c.stream.result _ _
    (λ fault e. (
      (c.args.file.read_as, by_rule c.args.file.end (g.R.Input.one reader)),
      (refl, (g.R.Input.one reader, g.R.Input.possible reader, refl)),
      inl e,
    ))
    c.stream.ensures.memory

pub returns-in-Within-clause-refused : goal.returns-in-Within-clause-refused
returns-in-Within-clause-refused g c =
    let reader = c.args.file.reader in
    IfErr-weaker c.slice.result _ _
    (λ fault e. (
      (c.args.file.read_as, by_rule c.args.file.end (g.R.Input.one reader)),
      (refl, (g.R.Input.one reader, g.R.Input.possible reader, refl)),
      inl e,
    ))
    c.slice.ensures.memory
