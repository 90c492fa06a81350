use Rattle.std.proofs.Common.{rules}
use Rattle.std.proofs.lemmas.Int.{to_z-of_z}
use mir.Val.{SFits}
use mir.Syntax.{w32}
use Rattle.o5_codec.proofs.TurnSteps.{turn_none, turn_next, turn_last}
use Rattle.o5_codec.specs.Writing.{body_spelling}
use Rattle.o5_codec.proofs.write.segment.EncoderSegment.append_body.Goals as goal

pub returns-in-Deleted : goal.returns-in-Deleted
unfolding body_spelling
returns-in-Deleted c = rw c.in-Deleted.is (turn_none _ _)

pub returns-in_ok-append_tags-in-Node : goal.returns-in_ok-append_tags-in-Node
unfolding body_spelling
returns-in_ok-append_tags-in-Node c =
    let lon_fits : SFits w32 c.in-Node.lon = search rules in
    let lat_fits : SFits w32 c.in-Node.lat = search rules in
    let lon = simp to_z-of_z at c.in_ok-append_longitude-in-Node.ensures in
    let lat = simp to_z-of_z at c.in_ok-append_latitude-in-Node.ensures in
    let tags = rw c.as_slice.ensures at c.in_ok-append_tags-in-Node.ensures in
    rw c.in-Node.is (turn_next _ _ _ _ _ _ _ _ lon (turn_next _ _ _ _ _ _ _ _ lat (turn_last _ _ _ _ _ tags)))

pub returns-in_ok-append_tags-in-Way : goal.returns-in_ok-append_tags-in-Way
unfolding body_spelling
returns-in_ok-append_tags-in-Way c =
    let section = rw c.as_slice-in-Way.ensures at c.in_ok-append_references-in-Way.ensures in
    let tags = rw c.as_slice-in-Way-2.ensures at c.in_ok-append_tags-in-Way.ensures in
    rw c.in-Way.is (turn_next _ _ _ _ _ _ _ _ section (turn_last _ _ _ _ _ tags))

pub returns-in_ok-append_tags-in-Relation : goal.returns-in_ok-append_tags-in-Relation
unfolding body_spelling
returns-in_ok-append_tags-in-Relation c =
    let section = rw c.as_slice-in-Relation.ensures at c.in_ok-append_members-in-Relation.ensures in
    let tags = rw c.as_slice-in-Relation-2.ensures at c.in_ok-append_tags-in-Relation.ensures in
    rw c.in-Relation.is (turn_next _ _ _ _ _ _ _ _ section (turn_last _ _ _ _ _ tags))
