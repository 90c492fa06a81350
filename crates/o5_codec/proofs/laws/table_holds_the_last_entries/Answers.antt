use Rattle.o5_codec.proofs.EntryLaws.{table_more}
use Rattle.o5_codec.proofs.laws.table_holds_the_last_entries.Goals as goal

pub returns : goal.returns
returns c = table_more
