use Rattle.std.proofs.Common.{◌≡◌, ap}
use Rattle.o5_codec.proofs.ResultLaws.{spelled_in, refused_in}
use Rattle.o5_codec.proofs.read.decoder.Decoder.read_set.Goals as goal

pub returns-in-Ok-clause-spelled : goal.returns-in-Ok-clause-spelled
returns-in-Ok-clause-spelled c =
    let same : c.self.inside.segment ≡ c.args.self.now.segment = ap (λ d. d.segment) c.self.view_is in
    spelled_in c.args.kind _ _ c.args.content.now _ same c.in-Ok.ensures.value

pub returns-in-Err-clause-refused : goal.returns-in-Err-clause-refused
returns-in-Err-clause-refused c = λ alive.
    let same : c.self.inside.segment ≡ c.args.self.now.segment = ap (λ d. d.segment) c.self.view_is in
    refused_in c.args.kind _ _ c.args.content.now _ same c.in-Err.ensures.value
