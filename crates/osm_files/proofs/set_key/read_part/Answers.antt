use Rattle.std.proofs.Common.{◌≡◌, ◌∷◌, ◌++◌, sym, to_z, of_z, w64, rules}
use Rattle.osm_files.proofs.SetKeyLaws.{lone_read}
use Rattle.osm_files.proofs.set_key.read_part.Goals as goal

pub returns-then-is_lone-clause-part : goal.returns-then-is_lone-clause-part
returns-then-is_lone-clause-part c = λ rest within.
    let base : to_z w64 (of_z w64 c.args.base) ≡ c.args.base = search rules in
    let is : c.args.bytes.now ≡ c.in_ok-type_byte.type_byte.now ∷ c.in_ok-type_byte.rest.now = search rules in
    rw (c.one_byte-then-is_lone.ensures, base, is)
    (lone_read c.args.base c.in_ok-type_byte.type_byte.now (c.in_ok-type_byte.rest.now ++ rest) (sym c.if-is_lone.ensures))
