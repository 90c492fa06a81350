-- Strings have no zero byte, so their texts have no character U+0000.
use Rattle.std.proofs.Common.{◌≡◌, ℕ, zero, suc, ◌+◌, Bool, true, false, not, eqb, ltb, cond, List, [], ◌∷◌, length, take, drop, refl}
use Rattle.std.proofs.Common.{ap, sym, ◌∙◌, arith, Result, Ok, Err, Option, Some, None, if◌then◌else◌}
use Rattle.std.specs.List.{list_all, list_any, prefix_len, slice_get}
use Rattle.std.proofs.lemmas.Bool.Decides.{nat_tests}
use Rattle.std.specs.Str.{chars, IsUtf8, is_utf8}
use Rattle.std.proofs.lemmas.Str.{IsUtf8-from_is_utf8, encodes-chars, scalars-chars}
use Rattle.std.proofs.lemmas.Bool.{and_parts, and_from}
use Rattle.osm_model.specs.Text.{is_text, has_zero}
use Rattle.osm_model.proofs.TextLaws.{zero_bytes}
use Rattle.o5_codec.specs.declared.reason.O5Reason.{O5Reason}
use Rattle.o5_codec.specs.declared.strings.Form.{Form}
use Rattle.o5_codec.specs.declared.strings.Form.TheVariants.{Pair, Single}
use Rattle.o5_codec.specs.declared.read.strings.StringRef.{StringRef}
use Rattle.o5_codec.specs.declared.read.strings.StringRef.TheVariants.{Inline, Reference}
use Rattle.o5_codec.specs.Results.{and_then}
use Rattle.o5_codec.specs.Entry.{EntryStrings}
use Rattle.o5_codec.specs.Table.{table_limit, is_short, table_with, entry_at}
use Rattle.o5_codec.specs.Number.{number_at}
use Rattle.o5_codec.specs.StringPair.{split_at_end, string_at, entry_of, inline_at, spelled_at, entry_or_fault, strings_of, table_after}
use Rattle.o5_codec.specs.StringPair.{strings_at}
use Rattle.o5_codec.specs.Text.{text_of}
use Rattle.o5_codec.specs.Sound.{has_no_zero, is_entry}

-- if two readings in sequence succeed, each of the two does
pub first_ok : {X Y : Type 0} (reading : Result X O5Reason) (next : X → Result Y O5Reason) (y : Y) → and_then reading next ≡ Ok y →
    (x : X) × (reading ≡ Ok x) × (next x ≡ Ok y)
first_ok (Ok x) next y h = (x, refl, h)
first_ok (Err reason) next y h = cc

abbrev value_read : Type 0 → Type 0
value_read X = Result X O5Reason

-- A reading has one value.
pub same_value : {X : Type 0} (x y : X) → (let read : value_read X = Ok x in read ≡ Ok y) → x ≡ y
same_value x y h = cc

-- if a reading that depends on a test succeeds, the test is true
pub tested_ok : {X : Type 0} (test : Bool) (x y : X) (reason : O5Reason) → (if test then Ok x else Err reason) ≡ Ok y →
    (test ≡ true) × (x ≡ y)
tested_ok true x y reason h = (refl, cc)
tested_ok false x y reason h = cc

-- the elements before the first one that fails a test pass it
prefix_passes : {X : Type 0} (p : X → Bool) (xs : List X) → list_all p (take (prefix_len p xs) xs) ≡ true
prefix_passes p [] = refl
prefix_passes p (x ∷ xs) =
    elim (p x) as (λ b. p x ≡ b → list_all p (take (cond b (1 + prefix_len p xs) 0) (x ∷ xs)) ≡ true) [
      | true ↦ λ e. (let one : 1 + prefix_len p xs ≡ suc (prefix_len p xs) = omega arith in
          rw one (and_from (p x) _ e (prefix_passes p xs)))
      | false ↦ λ e. refl
    ] refl

take_passes : {X : Type 0} (p : X → Bool) (n : ℕ) (xs : List X) → list_all p xs ≡ true → list_all p (take n xs) ≡ true
take_passes p zero xs h = refl
take_passes p (suc n) [] h = refl
take_passes p (suc n) (x ∷ xs) h = let g = and_parts (p x) (list_all p xs) h in and_from (p x) _ g.0 (take_passes p n xs g.1)

get_passes : {X : Type 0} (p : X → Bool) (xs : List X) (n : ℕ) (x : X) → list_all p xs ≡ true → slice_get xs n ≡ Some x → p x ≡ true
get_passes p [] n x h is = cc
get_passes p (y ∷ ys) zero x h is = let e : y ≡ x = cc in ap p (sym e) ∙ (and_parts (p y) (list_all p ys) h).0
get_passes p (y ∷ ys) (suc n) x h is = get_passes p ys n x (and_parts (p y) (list_all p ys) h).1 is

-- A string that is read has no zero byte.
pub string_ok : (bytes : List ℕ) (x : List ℕ × List ℕ) → string_at bytes ≡ Ok x → has_no_zero x.0 ≡ true
unfolding string_at
string_ok bytes x h =
    let p : ℕ → Bool = λ b. not (eqb b 0) in
    let n : ℕ = prefix_len p bytes in
    elim (ltb n (length bytes)) as (λ b. split_at_end bytes (cond b (Some n) None) ≡ Ok x → has_no_zero x.0 ≡ true) [
      | true ↦ λ e. (let same : take n bytes ≡ x.0 = (let pairs : (take n bytes, drop (n + 1) bytes) ≡ x = cc in ap (λ y. y.0) pairs) in
          ap has_no_zero (sym same) ∙ prefix_passes p bytes)
      | false ↦ λ e. cc
    ] h

pub inline_ok : (form : Form) (bytes : List ℕ) (x : EntryStrings × List ℕ) → inline_at form bytes ≡ Ok x → is_entry x.0 ≡ true
unfolding inline_at
inline_ok Pair bytes x h =
    let f = first_ok (string_at bytes) _ x h in
    let g = first_ok (string_at f.0.1) _ x f.2 in
    let same : (entry_of f.0.0 g.0.0, g.0.1) ≡ x = cc in
    ap (λ y. is_entry y.0) (sym same) ∙ and_from _ _ (string_ok bytes f.0 f.1) (string_ok f.0.1 g.0 g.1)
inline_ok Single bytes x h =
    let f = first_ok (string_at bytes) _ x h in
    let same : (entry_of f.0.0 [], f.0.1) ≡ x = cc in
    ap (λ y. is_entry y.0) (sym same) ∙ and_from _ _ (string_ok bytes f.0 f.1) refl

-- whether strings that are spelled inline have no zero byte
abbrev pub is_spelled : StringRef → Bool
is_spelled (Inline e) = is_entry e
is_spelled (Reference n) = true

spelled_ok : (form : Form) (bytes : List ℕ) (x : StringRef × List ℕ) → spelled_at form bytes ≡ Ok x → is_spelled x.0 ≡ true
unfolding spelled_at
spelled_ok form [] x h = cc
spelled_ok form (b ∷ bytes) x h =
    elim (eqb b 0) as (λ t. (if t then and_then (inline_at form bytes) (λ y. Ok (Inline y.0, y.1))
    else and_then (number_at (b ∷ bytes)) (λ y. Ok (Reference y.0, y.1))) ≡ Ok x → is_spelled x.0 ≡ true) [
      | true ↦ λ e. (let f = first_ok (inline_at form bytes) _ x e in
          let same : (Inline f.0.0, f.0.1) ≡ x = cc in
          ap (λ y. is_spelled y.0) (sym same) ∙ inline_ok form bytes f.0 f.1)
      | false ↦ λ e. (let f = first_ok (number_at (b ∷ bytes)) _ x e in
          let same : (Reference f.0.0, f.0.1) ≡ x = cc in
          ap (λ y. is_spelled y.0) (sym same))
    ] h

stored_ok : (e : EntryStrings) (table : List EntryStrings) → is_entry e ≡ true → list_all is_entry table ≡ true →
    list_all is_entry (table_with e table) ≡ true
stored_ok e table h g =
    elim (is_short e) as (λ t. list_all is_entry (if t then take table_limit (e ∷ table) else table) ≡ true) [
      | true ↦ take_passes is_entry table_limit (e ∷ table) (and_from _ _ h g)
      | false ↦ g
    ]

table_after_ok : (x : StringRef) (table : List EntryStrings) → is_spelled x ≡ true → list_all is_entry table ≡ true →
    list_all is_entry (table_after x table) ≡ true
table_after_ok (Inline e) table h g = stored_ok e table h g
table_after_ok (Reference n) table h g = g

-- An entry that is returned was found.
pub referred_ok : (o : Option EntryStrings) (e : EntryStrings) → entry_or_fault o ≡ Ok e → o ≡ Some e
referred_ok None e h = cc
referred_ok (Some f) e h = let same : f ≡ e = cc in ap (λ y. Some y) same

entry_ok : (table : List EntryStrings) (n : ℕ) (e : EntryStrings) → list_all is_entry table ≡ true → entry_at table n ≡ Some e →
    is_entry e ≡ true
entry_ok table zero e h is = cc
entry_ok table (suc n) e h is = get_passes is_entry table n e h is

strings_of_ok : (table : List EntryStrings) (x : StringRef) (e : EntryStrings) → is_spelled x ≡ true → list_all is_entry table ≡ true →
    strings_of table x ≡ Ok e → is_entry e ≡ true
strings_of_ok table (Inline f) e h g is = let same : f ≡ e = cc in ap is_entry (sym same) ∙ h
strings_of_ok table (Reference n) e h g is = entry_ok table n e g (referred_ok (entry_at table n) e is)

-- Strings that are read with a sound table have no zero byte, and the table stays sound.
pub strings_ok : (form : Form) (table : List EntryStrings) (bytes : List ℕ) (x : EntryStrings × List EntryStrings × List ℕ) →
    list_all is_entry table ≡ true →
    strings_at form table bytes ≡ Ok x → (is_entry x.0 ≡ true) × (list_all is_entry x.1 ≡ true)
unfolding strings_at
strings_ok form table bytes x g h =
    let f = first_ok (spelled_at form bytes) _ x h in
    let k = first_ok (strings_of table f.0.0) _ x f.2 in
    let same : (k.0, table_after f.0.0 table, f.0.1) ≡ x = cc in
    let spelled = spelled_ok form bytes f.0 f.1 in (
      ap (λ y. is_entry y.0) (sym same) ∙ strings_of_ok table f.0.0 k.0 spelled g k.1,
      ap (λ y. list_all is_entry y.1) (sym same) ∙ table_after_ok f.0.0 table spelled g,
    )

-- Bytes have no zero byte if and only if none of them is zero.
pub not_any : (bytes : List ℕ) → has_no_zero bytes ≡ not (list_any (λ b. eqb b 0) bytes)
not_any [] = refl
not_any (b ∷ bytes) = rw (not_any bytes) (grind (arith, nat_tests))

-- The text of bytes without a zero byte has no U+0000.
pub text_ok : (bytes characters : List ℕ) → has_no_zero bytes ≡ true → text_of bytes ≡ Ok characters → is_text characters ≡ true
unfolding text_of
text_ok bytes characters h is =
    let t = tested_ok (is_utf8 bytes) (chars bytes) characters _ is in
    let utf8 : IsUtf8 bytes = IsUtf8-from_is_utf8 bytes t.0 in
    let zeros : list_any (λ b. eqb b 0) bytes ≡ has_zero (chars bytes) = ap (list_any (λ b. eqb b 0)) (sym (encodes-chars bytes utf8))
    ∙ zero_bytes (chars bytes) in
    ap is_text (sym t.1) ∙ and_from _ _ (scalars-chars bytes utf8) (ap not (sym zeros) ∙ sym (not_any bytes) ∙ h)
