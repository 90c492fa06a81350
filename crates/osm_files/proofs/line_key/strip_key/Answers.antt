use Rattle.std.proofs.Common.{◌≡◌, to_z, of_z, w64, rules}
use Rattle.osm_model.specs.declared.object.Key.{Key}
use Rattle.osm_files.proofs.LineKeyLaws.{begins_with_key}
use Rattle.osm_files.proofs.line_key.strip_key.Goals as goal

pub returns : goal.returns
returns c =
    let same : to_z w64 (of_z w64 c.in_ok-id.id) ≡ c.in_ok-id.id = search rules in
    let key : Key = record { object = record { kind = c.in_ok-kind.kind; id = c.in_ok-id.id }; number = c.in_ok-number.number } in
    rw same
    (begins_with_key c.args.text.now key c.in_ok-kind.text.now c.in_ok-id.text.now c.in_ok-strip_byte.field-0.now c.in_ok-text.text.now
    c.in_ok-number.text.now c.in_ok-kind.ensures c.in_ok-id.ensures c.in_ok-strip_byte.ensures c.in_ok-text.ensures
    c.in_ok-number.ensures.digits)
