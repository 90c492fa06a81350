use Rattle.std.proofs.Common.{◌≡◌, to_z, of_z, w64, rules}
use Rattle.osm_files.proofs.LineKeyLaws.{id_front, minus_front}
use Rattle.osm_files.proofs.line_key.strip_id.Goals as goal

pub returns-in-Some : goal.returns-in-Some
returns-in-Some c =
    let same : to_z w64 (of_z w64 c.with_sign.result) ≡ c.with_sign.result = search rules in
    rw (same, c.with_sign.ensures) (minus_front c.args.text.now c.in-Some.digits.now c.in_ok-size.rest.now c.in_ok-size.size
    c.in-Some.ensures c.in_ok-size.ensures.digits c.in_ok-size.ensures.bound)

pub returns : goal.returns
returns c =
    let same : to_z w64 (of_z w64 c.with_sign-2.result) ≡ c.with_sign-2.result = search rules in
    rw (same, c.with_sign-2.ensures) (id_front c.args.text.now c.in_ok-size-2.rest.now c.in_ok-size-2.size c.in_ok-size-2.ensures.digits
    c.in_ok-size-2.ensures.bound)
