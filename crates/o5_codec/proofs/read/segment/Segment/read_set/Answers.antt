use Rattle.std.proofs.Common.{◌≡◌, to_z, of_z, w64, rules}
use Rattle.o5_codec.proofs.SoundSets.{set_faultless}
use Rattle.o5_codec.proofs.read.segment.Segment.read_set.Goals as goal

pub from_checked_parts-requires : goal.from_checked_parts-requires
from_checked_parts-requires c =
    let same : to_z w64 (of_z w64 c.in_ok-id.id) ≡ c.in_ok-id.id = search rules in
    rw (c.deref_mut-3.ensures.value, c.deref_mut-2.ensures.value, same)
    (set_faultless c.args.kind c.args.self.now c.args.content.now _ _ _ c.requires c.in_ok-id.ensures c.in_ok-rest.ensures
    c.in_ok-read_body.ensures).0

pub returns-clause-sound : goal.returns-clause-sound
returns-clause-sound c =
    (set_faultless c.args.kind c.args.self.now c.args.content.now _ _ _ c.requires c.in_ok-id.ensures c.in_ok-rest.ensures
    c.in_ok-read_body.ensures).1
