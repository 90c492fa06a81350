use Rattle.std.proofs.Common.{◌≡◌, ◌++◌, drop, ap, ◌∙◌, append-nil, rules}
use Rattle.std.proofs.lemmas.List.{drop_all}
use Rattle.osm_model.specs.Append.{location_text}
use Rattle.osm_model.proofs.small_buffer.SmallBuffer.set_location.Goals as goal

pub returns : goal.returns
returns c =
    let location = location_text c.args.lon c.args.lat in
    let after = drop 128 c.args.self.now.bytes in
    let written : drop c.put_location-location.result c.put_location-location.new.buffer ≡ location ++ after = search rules in
    c.put-self.ensures.written ∙ ap (λ t. c.args.mark.now ++ t)
    (written ∙ ap (λ t. location ++ t) (drop_all 128 c.args.self.now.bytes (search rules)) ∙ append-nil location)
