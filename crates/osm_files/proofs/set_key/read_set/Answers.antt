use Rattle.std.proofs.Common.{◌≡◌, ◌+◌, ◌-◌, ◌∙◌, length, refl, sym, to_z, of_z, w64, rules}
use Rattle.osm_files.proofs.SetKeyLaws.{skipped_read, object_read}
use Rattle.osm_files.proofs.set_key.read_set.Goals as goal

pub returns-in_default-kind_of_type-clause-part : goal.returns-in_default-kind_of_type-clause-part
returns-in_default-kind_of_type-clause-part c = λ rest within.
    let base : to_z w64 (of_z w64 c.args.base) ≡ c.args.base = search rules in
    rw base (skipped_read c.args.type_byte c.args.bytes.now c.in-Ok.content.now rest c.in-Ok.length
    (1 + (length c.args.bytes.now - length c.in-Ok.content.now) + c.in-Ok.length) c.in-Ok.ensures.value refl within
    c.args.base c.requires (sym c.kind_of_type.ensures ∙ c.in_default-kind_of_type.is))

pub returns-clause-part : goal.returns-clause-part
returns-clause-part c = λ rest within.
    let base : to_z w64 (of_z w64 c.args.base) ≡ c.args.base = search rules in
    let id : to_z w64 (of_z w64 c.in_ok-id.id) ≡ c.in_ok-id.id = search rules in
    rw id (object_read c.args.type_byte c.args.bytes.now c.in-Ok.content.now rest c.in-Ok.length
    (1 + (length c.args.bytes.now - length c.in-Ok.content.now) + c.in-Ok.length) c.in-Ok.ensures.value refl within
    c.in-Some.kind c.args.base c.in_ok-id.id c.in_ok-id.number c.min-count.result (sym c.kind_of_type.ensures ∙ c.in-Some.is)
    c.min-count.ensures (rw base at c.in_ok-id.ensures))
