-- The properties of the fields of an entry that is written.
use Rattle.std.specs.Prelude.{◌≡◌, ◌≤◌, IfSome, take, length}
use Rattle.o5_codec.specs.declared.write.entry.Entry.TheInside.{Inside}
use Rattle.o5_codec.specs.EntryHash.{entry_hash}
use Rattle.o5_codec.specs.Writing.{uid_string}

-- the hash is that of the bytes, and the first string of an entry with a user id spells the user id
pub record IsEntry (e : Inside) : Type 0 where
  pub within : e.split ≤ length e.bytes.items
  pub hashed : e.entry_hash ≡ entry_hash e.bytes.items
  pub user : IfSome e.uid (λ uid. take e.split e.bytes.items ≡ uid_string uid)
