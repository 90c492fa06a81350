use Rattle.std.proofs.Common.{◌≡◌, to_z, of_z, w64, rules}
use Rattle.o5_codec.proofs.NumberLaws.{number_found, signed_found}
use Rattle.osm_files.proofs.set_key.read_content.Goals as goal

pub returns : goal.returns
returns c =
    let id : to_z w64 (of_z w64 c.in_ok-id.id) ≡ c.in_ok-id.id = search rules in
    let base : to_z w64 (of_z w64 c.args.base) ≡ c.args.base = search rules in
    let difference : to_z w64 (of_z w64 c.in-Ok.difference) ≡ c.in-Ok.difference = search rules in
    rw id (
      c.in-Ok.difference,
      c.in-Ok.rest.now,
      c.in-Ok-read_number.field-0-1.now,
      signed_found c.args.content.now (c.in-Ok.difference, c.in-Ok.rest.now) c.in-Ok.ensures.value,
      rw (base, difference) at c.in_ok-id.ensures,
      number_found c.in-Ok.rest.now (c.in-Ok-read_number.number, c.in-Ok-read_number.field-0-1.now) c.in-Ok-read_number.ensures.value,
    )
