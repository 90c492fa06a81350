use Rattle.std.proofs.Common.{◌∙◌, sym}
use Rattle.o5_codec.proofs.TurnSteps.{turn_none, turn_next, turn_last}
use Rattle.o5_codec.specs.Writing.{author_spelling}
use Rattle.o5_codec.proofs.write.segment.EncoderSegment.append_author.Goals as goal

pub returns-in-None : goal.returns-in-None
unfolding author_spelling
returns-in-None c = let none = sym c.time.ensures.value ∙ c.in-None.is in rw none (turn_none _ _)

pub returns-in_ok-append_strings-in-Some : goal.returns-in_ok-append_strings-in-Some
unfolding author_spelling
returns-in_ok-append_strings-in-Some c =
    let some = sym c.time.ensures.value ∙ c.in-Some.is in
    let changeset = rw c.changeset.ensures at c.in_ok-append_changeset-in-Some.ensures in
    let user = rw (c.of_user.ensures, c.uid.ensures, c.user.ensures) at c.in_ok-append_strings-in-Some.ensures in
    rw some (turn_next _ _ _ _ _ _ _ _ changeset (turn_last _ _ _ _ _ user))
