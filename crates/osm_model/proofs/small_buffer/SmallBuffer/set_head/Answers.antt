use Rattle.std.proofs.Common.{◌++◌, ap, ◌∙◌, append-nil, rules}
use Rattle.std.proofs.lemmas.List.{drop_all}
use Rattle.osm_model.specs.Append.{head_text}
use Rattle.osm_model.proofs.small_buffer.SmallBuffer.set_head.Goals as goal

pub returns : goal.returns
returns c =
    let head = head_text c.args.version.now in
    c.put_head-self.ensures.written ∙ ap (λ t. head ++ t) (drop_all 128 c.args.self.now.bytes (search rules)) ∙ append-nil head
