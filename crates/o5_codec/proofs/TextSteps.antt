-- Strings as texts.
use Rattle.std.proofs.Common.{◌≡◌, ℕ, true, false, List, refl, ap, sym, ◌∙◌, Ok, Err, if◌then◌else◌}
use Rattle.std.specs.Str.{chars, IsUtf8, is_utf8}
use Rattle.std.proofs.lemmas.Str.{IsUtf8-from_is_utf8, is_utf8-from_IsUtf8}
use Rattle.o5_codec.specs.declared.reason.O5Reason.TheVariants.{NotUtf8}
use Rattle.o5_codec.specs.Results.{and_then}
use Rattle.o5_codec.specs.Entry.{EntryStrings}
use Rattle.o5_codec.specs.Text.{text_of, tag_of, uid_of, user_of}

-- Bytes in UTF-8 are read as their characters.
pub text_read : (bytes characters : List ℕ) → IsUtf8 bytes → characters ≡ chars bytes → text_of bytes ≡ Ok characters
unfolding text_of
text_read bytes characters utf8 same = rw (is_utf8-from_IsUtf8 bytes utf8) (ap (λ cs. Ok cs) (sym same))

-- Bytes that aren't UTF-8 are refused as NotUtf8.
pub text_refused : (bytes : List ℕ) → (IsUtf8 bytes → ⊥) → text_of bytes ≡ Err NotUtf8
unfolding text_of
text_refused bytes none =
    elim (is_utf8 bytes) as (λ b. is_utf8 bytes ≡ b → (if b then Ok (chars bytes) else Err NotUtf8) ≡ Err NotUtf8) [
      | true ↦ λ is. absurd (none (IsUtf8-from_is_utf8 bytes is))
      | false ↦ λ is. refl
    ] refl

-- A user id and a user name that are read are the user of the entry.
pub user_read : (e : EntryStrings) (uid : ℕ) (name : List ℕ) → uid_of e.first ≡ Ok uid → text_of e.second ≡ Ok name →
    user_of e ≡ Ok (uid, name)
unfolding user_of
user_read e uid name id text =
    ap (λ r. and_then r (λ uid. and_then (text_of e.second) (λ name. Ok (uid, name)))) id
    ∙ ap (λ r. and_then r (λ name. Ok (uid, name))) text

-- A key and a value that are read are the tag of the entry.
pub tag_read : (e : EntryStrings) (key value : List ℕ) → text_of e.first ≡ Ok key → text_of e.second ≡ Ok value →
    tag_of e ≡ Ok (record { key = key; value = value })
unfolding tag_of
tag_read e key value first second =
    ap (λ r. and_then r (λ key. and_then (text_of e.second) (λ value. Ok (record { key = key; value = value })))) first
    ∙ ap (λ r. and_then r (λ value. Ok (record { key = key; value = value }))) second
