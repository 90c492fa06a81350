use Rattle.std.proofs.Common.{◌≡◌, ap, Ok}
use Rattle.o5_codec.specs.Text.{text_of, uid_of, and_user}
use Rattle.o5_codec.proofs.TextSteps.{user_read}
use Rattle.o5_codec.proofs.MeaningSteps.{text_meant, uid_meant}
use Rattle.o5_codec.proofs.read.table_entry.TableEntry.put_user.Goals as goal

pub returns-in_ok-copy_into-in-Uid-Text : goal.returns-in_ok-copy_into-in-Uid-Text
returns-in_ok-copy_into-in-Uid-Text c =
    let id : uid_of c.args.self.now.first ≡ Ok c.in-Uid-Text.uid =
    rw (← c.self.view_is) (uid_meant _ _ _ c.in-Uid-Text.is-0 c.self.invariant.first) in
    let name : text_of c.args.self.now.second ≡ Ok c.in-Uid-Text.name =
    rw (← c.self.view_is) (text_meant _ _ c.in-Uid-Text.is-1 c.self.invariant.second) in
    rw c.from-meta.ensures (ap (and_user c.args.meta.now)
    (user_read c.args.self.now _ _ id (rw c.in_ok-copy_into-in-Uid-Text.ensures name)))
