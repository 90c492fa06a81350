-- The entry of strings that the writer appends.
use Rattle.std.specs.Prelude.{[]}
use Rattle.o5_codec.specs.declared.strings.Form.TheVariants.{Pair, Single}
use Rattle.o5_codec.specs.declared.write.string_key.StringKey.{StringKey}
use Rattle.o5_codec.specs.declared.write.string_key.StringKey.TheVariants.{User, Tag, Member}
use Rattle.o5_codec.specs.Formed.{FormedEntry, formed_entry}
use Rattle.o5_codec.specs.Writing.{uid_string, member_string}

abbrev pub formed_of : StringKey → FormedEntry
formed_of (User uid name) = formed_entry Pair (uid_string uid) name.now
formed_of (Tag key value) = formed_entry Pair key.now value.now
formed_of (Member kind role) = formed_entry Single (member_string kind role.now) []
