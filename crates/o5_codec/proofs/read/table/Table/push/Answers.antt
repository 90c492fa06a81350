use Rattle.std.proofs.Common.{ap, ◌∙◌, ◌∷◌, take}
use Rattle.o5_codec.specs.Table.{table_limit}
use Rattle.o5_codec.proofs.Newest.{pushed}
use Rattle.o5_codec.proofs.read.table.Table.push.Goals as goal

pub returns : goal.returns
returns c =
    pushed table_limit c.self.inside.ring _ c.args.entry c.push_back.ensures.items c.self.invariant
    ∙ ap (λ t. take table_limit (c.args.entry ∷ t)) c.self.view_is
