use Rattle.std.proofs.Common.{rules, append-nil}
use Rattle.std.proofs.lemmas.List.{drop_all}
use Rattle.osm_model.proofs.small_buffer.SmallBuffer.set_integer.Goals as goal

pub returns : goal.returns
returns c =
    let nothing = drop_all 128 c.args.self.now.bytes (search rules) in
    let digits = rw (nothing, append-nil) at c.put_integer-digits.ensures.written in
    search (rules, digits)
