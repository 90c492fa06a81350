-- Stored strings whose meaning is known.
use Rattle.std.proofs.Common.{◌≡◌, ℕ, List, Ok}
use Rattle.o5_codec.specs.declared.read.table_entry.Decoded.{Decoded}
use Rattle.o5_codec.specs.declared.read.table_entry.Decoded.TheVariants.{Uid, Text}
use Rattle.o5_codec.specs.Text.{text_of, uid_of}
use Rattle.o5_codec.specs.Decoded.{bytes_of, IsMeant}

-- The bytes of a known text are read as the text.
pub text_meant : (m : Decoded) (text : List ℕ) → m ≡ Text text → IsMeant m → text_of (bytes_of m) ≡ Ok text
text_meant m text is meant = rw is (rw is at meant)

-- The bytes of a known user id are read as the user id.
pub uid_meant : (m : Decoded) (uid : ℕ) (spelled : _) → m ≡ Uid uid spelled → IsMeant m → uid_of (bytes_of m) ≡ Ok uid
uid_meant m uid spelled is meant = rw is (rw is at meant)
