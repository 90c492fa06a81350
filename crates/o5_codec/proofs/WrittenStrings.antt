-- A pair or a single string that is written is read back.
use Rattle.std.proofs.Common.{◌≡◌, ℕ, zero, suc, ◌+◌, ◌/◌, ◌<◌, ◌≤◌, ◌^◌, true, not, eqb, List, [], ◌∷◌, ◌++◌, length, take, refl, ap, sym}
use Rattle.std.proofs.Common.{◌∙◌, arith, Option, Some, None, Ok, inl, inr, subst, append_assoc, encode_utf8_all}
use Rattle.std.specs.Option.{option_map}
use Rattle.std.specs.Str.{is_utf8}
use Rattle.std.proofs.lemmas.Bool.{le-ltb, lt-ltb, cases_lt, cases_Bool, cond-true, cond-false, and_parts}
use Rattle.std.proofs.lemmas.Bool.Decides.{nat_tests}
use Rattle.std.proofs.lemmas.List.{take-map, length-take, append-nil}
use Rattle.std.proofs.lemmas.Str.{is_utf8-from_IsUtf8, chars-encodes}
use Rattle.osm_model.specs.declared.kind.Kind.{Kind}
use Rattle.osm_model.specs.declared.kind.Kind.TheVariants as kind
use Rattle.osm_model.specs.declared.tags.Tag.{Tag}
use Rattle.osm_model.specs.Text.{is_text}
use Rattle.osm_model.proofs.TextLaws.{zero_bytes}
use Rattle.o5_codec.specs.declared.strings.Form.{Form}
use Rattle.o5_codec.specs.declared.strings.Form.TheVariants.{Pair, Single}
use Rattle.o5_codec.specs.Entry.{EntryStrings}
use Rattle.o5_codec.specs.Table.{table_limit, is_short, table_with, entry_at}
use Rattle.o5_codec.specs.Text.{text_of, tag_of, uid_of, user_of, whole_number}
use Rattle.o5_codec.specs.Body.{kind_and_role}
use Rattle.o5_codec.specs.Sound.{has_no_zero}
use Rattle.o5_codec.specs.Number.{number_at}
use Rattle.o5_codec.specs.Spelling.{NumberAtFront, InlineAtFront, StringsAtFront}
use Rattle.o5_codec.specs.Shortest.{groups_of, shortest_number}
use Rattle.o5_codec.specs.Formed.{FormedEntry, same_entry, inline_bytes, reference_to, formed_table_with, strings_bytes, formed_table_after}
use Rattle.o5_codec.specs.Agreement.{strings_in}
use Rattle.o5_codec.specs.SameEntry.{same_entry_decides}
use Rattle.o5_codec.specs.Writing.{uid_string, user_entry, tag_entry, member_entry}
use Rattle.o5_codec.proofs.IndexSteps.{Within, within}
use Rattle.o5_codec.proofs.ResultSteps.{read_next}
use Rattle.o5_codec.proofs.NumberLaws.{number_only, number_shorter}
use Rattle.o5_codec.proofs.SoundStrings.{not_any}
use Rattle.o5_codec.proofs.WrittenNumbers.{number_back, number_ranged, shortest_spells}

-- a reference that is written names the strings for a reader
named_later : (e x : FormedEntry) (table : List FormedEntry) (r : Option ℕ) (n : ℕ) →
    ((m : ℕ) → r ≡ Some m → entry_at (strings_in table) m ≡ Some e.strings) → option_map (λ n. n + 1) r ≡ Some n →
    entry_at (strings_in (x ∷ table)) n ≡ Some e.strings
named_later e x table None n h is = cc
named_later e x table (Some zero) n h is = (let none : None ≡ Some e.strings = h zero refl in cc)
named_later e x table (Some (suc m)) n h is =
    let two : suc m + 1 ≡ suc (suc m) = omega arith in
    let same : suc m + 1 ≡ n = cc in
    subst (λ k. entry_at (strings_in (x ∷ table)) k ≡ Some e.strings) (sym two ∙ same) (h (suc m) refl)

pub named : (e : FormedEntry) (table : List FormedEntry) (n : ℕ) → reference_to e table ≡ Some n →
    entry_at (strings_in table) n ≡ Some e.strings
named e [] n is = cc
named e (x ∷ table) n is = elim (cases_Bool (same_entry e x)) [
  | inl same ↦ (let first : Some 1 ≡ Some n = sym (cond-true (same_entry e x) (Some 1) _ same) ∙ is in
      let one : suc zero ≡ n = cc in
      subst (λ k. entry_at (strings_in (x ∷ table)) k ≡ Some e.strings) one
      (ap (λ y. Some y.strings) (sym ((same_entry_decides e x).0 same))))
  | inr other ↦ named_later e x table (reference_to e table) n (named e table) (sym (cond-false (same_entry e x) (Some 1) _ other) ∙ is)
]

-- to store an entry and drop the forms is the same as to drop the forms and store the strings
pub kept_strings : (e : FormedEntry) (table : List FormedEntry) →
    strings_in (formed_table_with e table) ≡ table_with e.strings (strings_in table)
kept_strings e table = elim (cases_Bool (is_short e.strings)) [
  | inl short ↦ ap strings_in (cond-true (is_short e.strings) _ table short)
      ∙ sym (take-map (λ (x : FormedEntry). x.strings) table_limit (e ∷ table))
      ∙ sym (cond-true (is_short e.strings) _ (strings_in table) short)
  | inr long ↦ ap strings_in (cond-false (is_short e.strings) _ table long)
      ∙ sym (cond-false (is_short e.strings) _ (strings_in table) long)
]

pub kept_few : (e : FormedEntry) (table : List FormedEntry) → length table ≤ table_limit → length (formed_table_with e table) ≤ table_limit
kept_few e table few = elim (cases_Bool (is_short e.strings)) [
  | inl short ↦ subst (λ t. length t ≤ table_limit) (sym (cond-true (is_short e.strings) (take table_limit (e ∷ table)) table short))
      (omega (arith, length-take table_limit (e ∷ table)))
  | inr long ↦ subst (λ t. length t ≤ table_limit) (sym (cond-false (is_short e.strings) (take table_limit (e ∷ table)) table long)) few
]

-- strings that can be spelled: they have no zero bytes, and a single string has an empty second string
pub record IsSpellable (e : FormedEntry) : Type 0 where
  pub first : has_no_zero e.strings.first ≡ true
  pub second : has_no_zero e.strings.second ≡ true
  pub single : e.form ≡ Single → e.strings.second ≡ []

inline_back : (form : Form) (strings : EntryStrings) (rest : List ℕ) → has_no_zero strings.first ≡ true →
    has_no_zero strings.second ≡ true →
    (form ≡ Single → strings.second ≡ []) →
    (inline : List ℕ) × (inline_bytes form strings ++ rest ≡ 0 ∷ inline) × InlineAtFront form inline (strings, rest)
inline_back Pair strings rest first second single = (
  strings.first ++ 0 ∷ (strings.second ++ 0 ∷ rest),
  simp append_assoc,
  (strings.second ++ 0 ∷ rest, (first, refl), (second, refl)),
)
inline_back Single strings rest first second single = (strings.first ++ 0 ∷ rest, simp append_assoc, ((first, refl), single refl))

reference_small : (n : ℕ) (table : List FormedEntry) → Within (length table) (Some n) → length table ≤ table_limit → n < 2 ^ 64
unfolding table_limit
reference_small n table w few = omega (arith, w.1)

by_reference : (e : FormedEntry) (table : List FormedEntry) (r : Option ℕ) (rest : List ℕ) → IsSpellable e → length table ≤ table_limit →
    reference_to e table ≡ r → Within (length table) r →
    StringsAtFront e.form (strings_in table) (strings_bytes e r ++ rest) (e.strings, strings_in (formed_table_after e r table), rest)
by_reference e table None rest ok few is w =
    let inline = inline_back e.form e.strings rest ok.first ok.second ok.single in
    inl (inline.0, inline.1, inline.2, kept_strings e table)
by_reference e table (Some n) rest ok few is w = inr (n, number_back n rest (reference_small n table w few), named e table n is, refl)

-- the strings are read back, and the tables of writer and reader remain equal
pub strings_back : (e : FormedEntry) (table : List FormedEntry) (rest : List ℕ) → IsSpellable e → length table ≤ table_limit →
    StringsAtFront e.form (strings_in table) (strings_bytes e (reference_to e table) ++ rest)
    (e.strings, strings_in (formed_table_after e (reference_to e table) table), rest)
strings_back e table rest ok few = by_reference e table (reference_to e table) rest ok few refl (within e table)

few_by : (e : FormedEntry) (table : List FormedEntry) (r : Option ℕ) → length table ≤ table_limit →
    length (formed_table_after e r table) ≤ table_limit
few_by e table None few = kept_few e table few
few_by e table (Some n) few = few

-- After strings are written, the table is within its limit.
pub strings_few : (e : FormedEntry) (table : List FormedEntry) → length table ≤ table_limit →
    length (formed_table_after e (reference_to e table) table) ≤ table_limit
strings_few e table few = few_by e table (reference_to e table) few

-- ---- texts
pub text_no_zero : (cs : List ℕ) → is_text cs ≡ true → has_no_zero (encode_utf8_all cs) ≡ true
text_no_zero cs h = not_any (encode_utf8_all cs) ∙ ap not (zero_bytes cs) ∙ (and_parts _ _ h).1

-- The bytes of a text are read as the text.
pub text_back : (cs : List ℕ) → is_text cs ≡ true → text_of (encode_utf8_all cs) ≡ Ok cs
unfolding text_of
text_back cs h =
    let scalar = (and_parts _ _ h).0 in
    let valid : is_utf8 (encode_utf8_all cs) ≡ true = is_utf8-from_IsUtf8 (encode_utf8_all cs) (cs, (scalar, refl)) in
    rw valid (ap (λ t. Ok t) (chars-encodes cs scalar))

-- ---- user ids
groups_no_zero : (more n : ℕ) → 0 < n → has_no_zero (groups_of more n) ≡ true
unfolding groups_of
groups_no_zero zero n some = grind (arith, nat_tests)
groups_no_zero (suc more) n some = elim (cases_lt n 128) [
  | inl low ↦ rw (lt-ltb n 128 low) (grind (arith, nat_tests))
  | inr high ↦ rw (le-ltb n 128 high) (let rest = groups_no_zero more (n / 128) (omega arith) in grind (arith, nat_tests))
]

pub uid_no_zero : (uid : ℕ) → has_no_zero (uid_string uid) ≡ true
unfolding shortest_number
uid_no_zero uid = elim (cases_Bool (eqb uid 0)) [
  | inl none ↦ ap has_no_zero (cond-true (eqb uid 0) [] (groups_of 9 uid) none)
  | inr some ↦ ap has_no_zero (cond-false (eqb uid 0) [] (groups_of 9 uid) some)
      ∙ groups_no_zero 9 uid (let apart : uid ≡ 0 → ⊥ = grind (arith, nat_tests) in omega arith)
]

uid_from : (bytes : List ℕ) (n : ℕ) → NumberAtFront bytes (n, []) → n < 2 ^ 32 → uid_of bytes ≡ Ok n
unfolding uid_of
uid_from [] n s small = absurd (let short = number_shorter [] (n, []) s in omega arith)
uid_from (b ∷ bytes) n s small = read_next (number_at (b ∷ bytes)) whole_number _ (number_only (b ∷ bytes) (n, []) s)
    ∙ number_ranged n small

nothing_spelled : uid_of [] ≡ Ok 0
unfolding uid_of
nothing_spelled = refl

pub uid_back : (uid : ℕ) → uid < 2 ^ 32 → uid_of (uid_string uid) ≡ Ok uid
uid_back uid small = elim (cases_Bool (eqb uid 0)) [
  | inl none ↦ (let is : uid ≡ 0 = grind (arith, nat_tests) in ap uid_of (cond-true (eqb uid 0) [] (shortest_number uid) none)
      ∙ nothing_spelled ∙ ap (λ n. Ok n) (sym is))
  | inr some ↦ ap uid_of (cond-false (eqb uid 0) [] (shortest_number uid) some)
      ∙ uid_from (shortest_number uid) uid (shortest_number uid, shortest_spells uid (omega arith), sym (append-nil (shortest_number uid)))
      small
]

-- ---- entries
pub user_back : (uid : ℕ) (user : List ℕ) → uid < 2 ^ 32 → is_text user ≡ true → user_of (user_entry uid user).strings ≡ Ok (uid, user)
unfolding user_of
user_back uid user small text = read_next (uid_of (uid_string uid)) _ _ (uid_back uid small)
    ∙ read_next (text_of (encode_utf8_all user)) _ _ (text_back user text)

-- The strings of a tag are read as the tag.
pub tag_back : (tag : Tag) → is_text tag.key ≡ true → is_text tag.value ≡ true → tag_of (tag_entry tag).strings ≡ Ok tag
unfolding tag_of
tag_back tag key value = read_next (text_of (encode_utf8_all tag.key)) _ _ (text_back tag.key key)
    ∙ read_next (text_of (encode_utf8_all tag.value)) _ _ (text_back tag.value value)

-- The string of a member is read as its kind and role.
pub role_back : (k : Kind) (role : List ℕ) → kind_and_role (member_entry k role).strings.first ≡ Ok (k, encode_utf8_all role)
role_back kind.Node role = refl
role_back kind.Way role = refl
role_back kind.Relation role = refl

abbrev pair_apart : Type 0
pair_apart = Pair ≡ Single → ⊥

is_apart : pair_apart
is_apart e = cc

-- The strings of a user have no zero byte.
pub user_spellable : (uid : ℕ) (user : List ℕ) → is_text user ≡ true → IsSpellable (user_entry uid user)
user_spellable uid user text = record { first = uid_no_zero uid; second = text_no_zero user text; single = λ e. absurd (is_apart e) }

-- The strings of a tag have no zero byte.
pub tag_spellable : (tag : Tag) → is_text tag.key ≡ true → is_text tag.value ≡ true → IsSpellable (tag_entry tag)
tag_spellable tag key value = record {
  first = text_no_zero tag.key key;
  second = text_no_zero tag.value value;
  single =
      λ e. absurd (is_apart e);
}

-- The string of a member has no zero byte.
pub role_spellable : (k : Kind) (role : List ℕ) → is_text role ≡ true → IsSpellable (member_entry k role)
role_spellable kind.Node role text = record { first = text_no_zero role text; second = refl; single = λ e. refl }
role_spellable kind.Way role text = record { first = text_no_zero role text; second = refl; single = λ e. refl }
role_spellable kind.Relation role text = record { first = text_no_zero role text; second = refl; single = λ e. refl }
