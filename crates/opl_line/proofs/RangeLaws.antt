-- The fields of a line in UTF-8 are within their ranges.
use Rattle.std.proofs.Common.{◌≡◌, ℕ, ℤ, zero, suc, ◌^◌, ◌<◌, ◌≤◌, Bool, true, false, cond, leb, ◌&&◌, List, [], ◌∷◌, filter, fold, Option}
use Rattle.std.proofs.Common.{Some, None, unwrap_or, Ok, Err, refl, sym, ap, ◌∙◌, subst, arith}
use Rattle.std.proofs.lemmas.Bool.{leb-true, lt-ltb}
use Rattle.std.proofs.lemmas.List.Folds.{list_all-append}
use Rattle.std.specs.List.{list_all, AllByRecursion}
use Rattle.std.specs.Str.{IsUtf8}
use Rattle.osm_model.specs.declared.kind.Kind.{Kind}
use Rattle.osm_model.specs.declared.kind.Kind.TheVariants as kind
use Rattle.osm_model.specs.declared.tags.Tag.{Tag}
use Rattle.osm_model.specs.declared.members.Member.{Member}
use Rattle.osm_model.specs.declared.body.Body.{Body}
use Rattle.osm_model.specs.declared.body.Body.TheVariants.{Deleted, Node, Way, Relation}
use Rattle.osm_model.specs.Id.{is_id}
use Rattle.osm_model.specs.Text.{is_text}
use Rattle.osm_model.specs.Tags.{texts_of_tags}
use Rattle.osm_model.specs.Members.{ids_of_members, roles_of}
use Rattle.osm_model.specs.Data.{ids_of, texts_of}
use Rattle.osm_model.specs.New.{is_number, is_time}
use Rattle.osm_model.specs.Pairwise.{Pairwise}
use Rattle.opl_line.specs.declared.bytes.cut.Delimiter.TheVariants.{Commas, Equals, Ats}
use Rattle.opl_line.specs.declared.general.field.Fields.{Fields}
use Rattle.opl_line.specs.declared.reason.OplReason.TheVariants.{BadNumber, OutOfRange}
use Rattle.opl_line.specs.Delimiter.{is_end, split_all}
use Rattle.opl_line.specs.Number.{is_numeral, decimal_value, up_to, reading_number, is_negative, without_sign, with_sign, reading_id}
use Rattle.opl_line.specs.Field.{no_fields, reading_number_32, reading_count}
use Rattle.opl_line.specs.Content.{SpellsTag, SpellsReference, SpellsMember, SpellsList}
use Rattle.opl_line.specs.Part as part
use Rattle.opl_line.specs.Part.{LinePart, letter_of, SpellsContent, SpellsPart, with_part}
use Rattle.opl_line.specs.Reading.{reading_location, reading_visible, reading_body}
use Rattle.opl_line.specs.Spells.{is_full}
use Rattle.opl_line.specs.Within.{AreWithin}
use Rattle.opl_line.proofs.NumeralLaws.{number_complete, count_complete, id_complete}
use Rattle.opl_line.proofs.ResultLaws.{became}
use Rattle.opl_line.proofs.Utf8Laws.{utf8_around, OptionUtf8, split_utf8, cut_utf8, characters_within}

-- ---- numbers and times
number_at_most : (most : ℕ) (text : List ℕ) (n : ℕ) → reading_number most text ≡ Ok n → n ≤ most
number_at_most most text n =
    let value = decimal_value text in
    elim (is_numeral text) as (λ t. cond t (up_to most value) (Err BadNumber) ≡ Ok n → n ≤ most) [
      | true ↦ elim (leb value most) as (λ t. leb value most ≡ t → cond t (Ok value) (Err OutOfRange) ≡ Ok n → n ≤ most) [
        | true ↦ λ few e. let same : value ≡ n = cc in let le = leb-true value most few in omega arith
        | false ↦ λ many e. cc
      ] refl
      | false ↦ λ e. cc
    ]

number_within : (text : List ℕ) (n : ℕ) → reading_number_32 text ≡ Ok n → is_number n ≡ true
number_within text n e = let few = number_at_most 4_294_967_295 text n e in lt-ltb n (2 ^ 32) (omega arith)

count_within : (text : List ℕ) (n : ℕ) → reading_count text ≡ Ok n → is_number n ≡ true
count_within [] n e = let same : 0 ≡ n = cc in sym (ap is_number same)
count_within (b ∷ bs) n e = number_within (b ∷ bs) n e

signed_within : (negative : Bool) (n : ℕ) → n ≤ 4_611_686_018_427_387_903 → is_id (with_sign negative n) ≡ true
signed_within true zero few = refl
signed_within true (suc n) few = lt-ltb (suc n) (2 ^ 62) (omega arith)
signed_within false n few = lt-ltb n (2 ^ 62) (omega arith)

-- An id that is read is within its range.
pub id_within : (text : List ℕ) (id : ℤ) → reading_id text ≡ Ok id → is_id id ≡ true
id_within text id e =
    let b = became (with_sign (is_negative text)) (reading_number 4_611_686_018_427_387_903 (without_sign text)) id e in
    sym (ap is_id b.became) ∙ signed_within (is_negative text) b.from
    (number_at_most 4_611_686_018_427_387_903 (without_sign text) b.from b.said_so)

-- ---- lists
tags_within : (pieces : List (List ℕ)) (ts : List Tag) → Pairwise SpellsTag pieces ts → AllByRecursion IsUtf8 pieces →
    list_all is_text (texts_of_tags ts) ≡ true
tags_within [] [] s utf8 = refl
tags_within [] (t ∷ ts) s utf8 = absurd s
tags_within (piece ∷ pieces) [] s utf8 = absurd s
tags_within (piece ∷ pieces) (t ∷ ts) s utf8 =
    let parts = subst (AllByRecursion IsUtf8) s.0.parted (cut_utf8 Equals piece utf8.0) in
    λ i. characters_within s.0.key t.key s.0.spells_key parts.0 i
    && (characters_within s.0.value t.value s.0.spells_value parts.1.0 i && tags_within pieces ts s.1 utf8.1 i)

references_within : (pieces : List (List ℕ)) (ids : List ℤ) → Pairwise SpellsReference pieces ids → list_all is_id ids ≡ true
references_within [] [] s = refl
references_within [] (id ∷ ids) s = absurd s
references_within (piece ∷ pieces) [] s = absurd s
references_within (piece ∷ pieces) (id ∷ ids) s = λ i. id_within s.0.digits id (id_complete s.0.digits id s.0.spelled) i
    && references_within pieces ids s.1 i

record MembersWithin (ms : List Member) : Type 0 where
  ids : list_all is_id (ids_of_members ms) ≡ true
  roles : list_all is_text (roles_of ms) ≡ true

members_within : (pieces : List (List ℕ)) (ms : List Member) → Pairwise SpellsMember pieces ms → AllByRecursion IsUtf8 pieces →
    MembersWithin ms
members_within [] [] s utf8 = record { ids = refl; roles = refl }
members_within [] (m ∷ ms) s utf8 = absurd s
members_within (piece ∷ pieces) [] s utf8 = absurd s
members_within (piece ∷ pieces) (m ∷ ms) s utf8 =
    let rest = members_within pieces ms s.1 utf8.1 in
    let P : List ℕ × Option (List ℕ) → Type 0 = λ parts. IsUtf8 parts.0 × OptionUtf8 parts.1 in
    let parts = subst P s.0.parted (split_utf8 Ats piece utf8.0) in
    record {
      ids = (λ i. id_within s.0.names.digits m.id (id_complete s.0.names.digits m.id s.0.names.spelled) i && rest.ids i);
      roles = (λ i. characters_within s.0.role m.role s.0.spells_role parts.1 i && rest.roles i);
    }

-- ---- parts
abbrev IsWithin : LinePart → Type 0
IsWithin (part.Number n) = is_number n ≡ true
IsWithin (part.Deleted d) = Unit {0}
IsWithin (part.Changeset n) = is_number n ≡ true
IsWithin (part.Time t) = is_time t ≡ true
IsWithin (part.UserId n) = is_number n ≡ true
IsWithin (part.User t) = is_text t ≡ true
IsWithin (part.Tags ts) = list_all is_text (texts_of_tags ts) ≡ true
IsWithin (part.Longitude x) = Unit {0}
IsWithin (part.Latitude y) = Unit {0}
IsWithin (part.References ids) = list_all is_id ids ≡ true
IsWithin (part.Members ms) = MembersWithin ms

list_within : {X : Type 0} (SpellsItem : List ℕ → X → Type 0) (Q : List X → Type 0) → Q [] →
    ((pieces : List (List ℕ)) (xs : List X) → Pairwise SpellsItem pieces xs → AllByRecursion IsUtf8 pieces → Q xs) →
    (content : List ℕ) (xs : List X) → SpellsList SpellsItem content xs → IsUtf8 content → Q xs
list_within SpellsItem Q none some [] xs s utf8 = subst Q (sym s) none
list_within SpellsItem Q none some (b ∷ bs) xs s utf8 = some (split_all (is_end Commas) (b ∷ bs)) xs s (cut_utf8 Commas (b ∷ bs) utf8)

content_within : (content : List ℕ) (p : LinePart) → SpellsContent content p → IsUtf8 content → IsWithin p
content_within content (part.Number n) s utf8 = number_within content n (number_complete 4_294_967_295 content n s)
content_within content (part.Deleted d) s utf8 = tt
content_within content (part.Changeset n) s utf8 = count_within content n (count_complete content n s)
content_within content (part.Time t) s utf8 = s.range
content_within content (part.UserId n) s utf8 = count_within content n (count_complete content n s)
content_within content (part.User t) s utf8 = characters_within content t s utf8
content_within content (part.Tags ts) s utf8 = list_within SpellsTag
    (λ xs. list_all is_text (texts_of_tags xs) ≡ true) refl tags_within content ts s utf8
content_within content (part.Longitude x) s utf8 = tt
content_within content (part.Latitude y) s utf8 = tt
content_within content (part.References ids) s utf8 =
    list_within SpellsReference (λ xs. list_all is_id xs ≡ true) refl (λ pieces xs h u. references_within pieces xs h) content ids s utf8
content_within content (part.Members ms) s utf8 = list_within SpellsMember MembersWithin
    (record { ids = refl; roles = refl }) members_within content ms s utf8

letter_ascii : (p : LinePart) → letter_of p < 128
letter_ascii (part.Number n) = omega arith
letter_ascii (part.Deleted d) = omega arith
letter_ascii (part.Changeset n) = omega arith
letter_ascii (part.Time t) = omega arith
letter_ascii (part.UserId n) = omega arith
letter_ascii (part.User t) = omega arith
letter_ascii (part.Tags ts) = omega arith
letter_ascii (part.Longitude x) = omega arith
letter_ascii (part.Latitude y) = omega arith
letter_ascii (part.References ids) = omega arith
letter_ascii (part.Members ms) = omega arith

part_within : (k : Kind) (field : List ℕ) (p : LinePart) → SpellsPart k field p → IsUtf8 field → IsWithin p
part_within k field p s utf8 = content_within s.content p s.spelled
    (utf8_around [] s.content (letter_of p) (letter_ascii p) (subst IsUtf8 s.lettered utf8)).1

parts_within : (k : Kind) (fields : List (List ℕ)) (parts : List LinePart) → Pairwise (SpellsPart k) (filter is_full fields) parts →
    AllByRecursion IsUtf8 fields → AllByRecursion IsWithin parts
parts_within k [] [] s utf8 = tt
parts_within k [] (p ∷ ps) s utf8 = absurd s
parts_within k ([] ∷ fields) parts s utf8 = parts_within k fields parts s utf8.1
parts_within k ((b ∷ bs) ∷ fields) [] s utf8 = absurd s
parts_within k ((b ∷ bs) ∷ fields) (p ∷ ps) s utf8 = (part_within k (b ∷ bs) p s.0 utf8.0, parts_within k fields ps s.1 utf8.1)

-- ---- all fields together
with_within : (fields : Fields) (p : LinePart) → AreWithin fields → IsWithin p → AreWithin (with_part fields p)
with_within fields (part.Number n) h w = record {
  number = w;
  changeset = h.changeset;
  time = h.time;
  uid = h.uid;
  user = h.user;
  tags =
      h.tags;
  references = h.references;
  members = h.members;
  roles = h.roles;
}
with_within fields (part.Deleted d) h w = record {
  number = h.number;
  changeset = h.changeset;
  time = h.time;
  uid = h.uid;
  user = h.user;
  tags = h.tags;
  references = h.references;
  members = h.members;
  roles = h.roles;
}
with_within fields (part.Changeset n) h w = record {
  number = h.number;
  changeset = w;
  time = h.time;
  uid = h.uid;
  user = h.user;
  tags =
      h.tags;
  references = h.references;
  members = h.members;
  roles = h.roles;
}
with_within fields (part.Time t) h w = record {
  number = h.number;
  changeset = h.changeset;
  time = w;
  uid = h.uid;
  user = h.user;
  tags =
      h.tags;
  references = h.references;
  members = h.members;
  roles = h.roles;
}
with_within fields (part.UserId n) h w = record {
  number = h.number;
  changeset = h.changeset;
  time = h.time;
  uid = w;
  user = h.user;
  tags =
      h.tags;
  references = h.references;
  members = h.members;
  roles = h.roles;
}
with_within fields (part.User t) h w = record {
  number = h.number;
  changeset = h.changeset;
  time = h.time;
  uid = h.uid;
  user = w;
  tags =
      h.tags;
  references = h.references;
  members = h.members;
  roles = h.roles;
}
with_within fields (part.Tags ts) h w = record {
  number = h.number;
  changeset = h.changeset;
  time = h.time;
  uid = h.uid;
  user = h.user;
  tags = w;
  references = h.references;
  members = h.members;
  roles = h.roles;
}
with_within fields (part.Longitude x) h w = record {
  number = h.number;
  changeset = h.changeset;
  time = h.time;
  uid = h.uid;
  user = h.user;
  tags = h.tags;
  references = h.references;
  members = h.members;
  roles = h.roles;
}
with_within fields (part.Latitude y) h w = record {
  number = h.number;
  changeset = h.changeset;
  time = h.time;
  uid = h.uid;
  user = h.user;
  tags = h.tags;
  references = h.references;
  members = h.members;
  roles = h.roles;
}
with_within fields (part.References ids) h w = record {
  number = h.number;
  changeset = h.changeset;
  time = h.time;
  uid = h.uid;
  user =
      h.user;
  tags = h.tags;
  references = w;
  members = h.members;
  roles = h.roles;
}
with_within fields (part.Members ms) h w = record {
  number = h.number;
  changeset = h.changeset;
  time = h.time;
  uid = h.uid;
  user = h.user;
  tags = h.tags;
  references = h.references;
  members = w.ids;
  roles = w.roles;
}

said_within : (fields : Fields) (parts : List LinePart) → AreWithin fields → AllByRecursion IsWithin parts →
    AreWithin (fold with_part fields parts)
said_within fields [] h ws = h
said_within fields (p ∷ ps) h ws = said_within (with_part fields p) ps (with_within fields p h ws.0) ws.1

-- The contents of the parts of a line are within their ranges.
pub line_within : (k : Kind) (fields : List (List ℕ)) (parts : List LinePart) → Pairwise (SpellsPart k) (filter is_full fields) parts →
    AllByRecursion IsUtf8 fields → AreWithin (fold with_part no_fields parts)
line_within k fields parts s utf8 =
    said_within no_fields parts (record {
      number = refl;
      changeset = refl;
      time = refl;
      uid = refl;
      user = refl;
      tags = refl;
      references = refl;
      members = refl;
      roles = refl;
    })
    (parts_within k fields parts s utf8)

-- ---- the body
pub record BodyWithin (b : Body) : Type 0 where
  pub ids : list_all is_id (ids_of b) ≡ true
  pub texts : list_all is_text (texts_of b) ≡ true

located_within : (lon lat : Option ℤ) (tags : List Tag) (b : Body) → list_all is_text (texts_of_tags tags) ≡ true →
    reading_location lon lat tags ≡ Ok b → BodyWithin b
located_within None lat tags b texts e = cc
located_within (Some lon) None tags b texts e = cc
located_within (Some lon) (Some lat) tags b texts e = let same : Node lon lat tags ≡ b = cc in
    subst BodyWithin same (record { ids = refl; texts = texts })

visible_within : (k : Kind) (fields : Fields) (b : Body) → AreWithin fields → reading_visible k fields ≡ Ok b → BodyWithin b
visible_within kind.Node fields b h e = located_within (unwrap_or fields.longitude None) (unwrap_or fields.latitude None)
    (unwrap_or fields.tags []) b h.tags e
visible_within kind.Way fields b h e =
    let same : Way (unwrap_or fields.references []) (unwrap_or fields.tags []) ≡ b = cc in
    subst BodyWithin same (record { ids = h.references; texts = h.tags })
visible_within kind.Relation fields b h e =
    let members = unwrap_or fields.members [] in
    let tags = unwrap_or fields.tags [] in
    let same : Relation members tags ≡ b = cc in
    subst BodyWithin same (record {
      ids = h.members;
      texts = list_all-append is_text (roles_of members) (texts_of_tags tags)
          ∙ (λ i. h.roles i && h.tags i);
    })

-- A body that is made of fields within their ranges is within its ranges.
pub body_within : (k : Kind) (fields : Fields) (b : Body) → AreWithin fields → reading_body k fields ≡ Ok b → BodyWithin b
body_within k fields b h =
    elim (unwrap_or fields.deleted false) as (λ t. cond t (Ok (Deleted k)) (reading_visible k fields) ≡ Ok b → BodyWithin b) [
      | true ↦ λ e. let same : Deleted k ≡ b = cc in subst BodyWithin same (record { ids = refl; texts = refl })
      | false ↦ λ e. visible_within k fields b h e
    ]
