use Rattle.std.proofs.Common.{rules, append-nil}
use Rattle.std.proofs.lemmas.List.{drop_all}
use Rattle.osm_model.proofs.small_buffer.SmallBuffer.set_escaped.Goals as goal

pub returns : goal.returns
returns c =
    let nothing = drop_all 128 c.args.self.now.bytes (search rules) in
    rw (nothing, append-nil) at c.put_escaped-self.ensures.written
