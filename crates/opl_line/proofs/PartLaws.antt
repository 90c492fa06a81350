-- A field that is read has one part, and the parts of one line have different letters.
use Rattle.std.proofs.Common.{◌≡◌, ℕ, Bool, true, false, cond, eqb, ◌||◌, List, [], ◌∷◌, map, fold, filter, nat_eq, Some, Result, Ok, Err}
use Rattle.std.proofs.Common.{refl, sym, ap, ◌∙◌, subst, arith}
use Rattle.std.specs.List.{IsDistinct, AllByRecursion}
use Rattle.std.proofs.lemmas.Bool.{eqb-true, or_parts}
use Rattle.std.proofs.lemmas.Bool.Decides.{nat_tests}
use Rattle.osm_model.specs.declared.kind.Kind.{Kind}
use Rattle.osm_model.specs.declared.kind.Kind.TheVariants as kind
use Rattle.osm_model.specs.Pairwise.{Pairwise}
use Rattle.opl_line.specs.declared.general.field.Fields.{Fields}
use Rattle.opl_line.specs.declared.reason.OplReason.{OplReason}
use Rattle.opl_line.specs.declared.reason.OplReason.TheVariants.{UnknownField, RepeatedField}
use Rattle.opl_line.specs.Results.{and_then, as_value}
use Rattle.opl_line.specs.Number.{reading_coordinate}
use Rattle.opl_line.specs.Item.{reading_list, reading_reference, reading_member}
use Rattle.opl_line.specs.Field.{no_fields, reading_optional, has_field, with_body_field, with_field, reading_field, reading_fields}
use Rattle.opl_line.specs.Part.{LinePart, Number, Deleted, Changeset, Time, UserId, User, Tags, Longitude, Latitude, References, Members}
use Rattle.opl_line.specs.Part.{letter_of, SpellsContent, IsPartOf, SpellsPart, with_part}
use Rattle.opl_line.specs.Spells.{is_full}
use Rattle.opl_line.proofs.NumeralLaws.{number_sound, number_complete, count_sound, count_complete, deleted_sound, deleted_complete}
use Rattle.opl_line.proofs.PlaceLaws.{time_sound, time_complete, place_sound, place_complete}
use Rattle.opl_line.proofs.ContentLaws.{characters_sound, characters_complete, tags_sound, tags_complete, references_sound}
use Rattle.opl_line.proofs.ContentLaws.{references_complete, members_sound, members_complete}

-- the content of a field with this letter spells a part
record Says (k : Kind) (letter : ℕ) (content : List ℕ) (fields next : Fields) : Type 0 where
  part : LinePart
  lettered : letter ≡ letter_of part
  of_kind : IsPartOf k part
  spelled : SpellsContent content part
  together : next ≡ with_part fields part

-- a reading makes one part
read_part : {X : Type 0} (k : Kind) (letter : ℕ) (content : List ℕ) (fields next : Fields) (said : Result X OplReason) (f : X → Fields)
    (part : X → LinePart) →
    ((x : X) → letter ≡ letter_of (part x)) → ((x : X) → IsPartOf k (part x)) → ((x : X) → said ≡ Ok x → SpellsContent content (part x)) →
    ((x : X) → f x ≡ with_part fields (part x)) →
    as_value f said ≡ Ok next → Says k letter content fields next
read_part k letter content fields next (Ok x) f part l o s w e =
    record { part = part x; lettered = l x; of_kind = o x; spelled = s x refl; together = (let same : next ≡ f x = cc in same ∙ w x) }
read_part k letter content fields next (Err reason) f part l o s w e = cc

says_body : (k : Kind) (letter : ℕ) (content : List ℕ) (fields next : Fields) → with_body_field k letter content fields ≡ Ok next →
    Says k letter content fields next
says_body kind.Node letter content fields next =
    elim (eqb letter 120) as (λ t. eqb letter 120 ≡ t →
    cond t (as_value (λ x. record fields { longitude = Some x }) (reading_optional reading_coordinate content))
    (cond (eqb letter 121) (as_value (λ y. record fields { latitude = Some y }) (reading_optional reading_coordinate content))
    (Err UnknownField)) ≡ Ok next → Says kind.Node letter content fields next) [
      | true ↦ λ is. read_part kind.Node letter content fields next _ _ Longitude (λ x. eqb-true letter 120 is) (λ x. refl)
          (λ x s. place_sound content x s) (λ x. refl)
      | false ↦ λ other. elim (eqb letter 121) as (λ t. eqb letter 121 ≡ t →
          cond t (as_value (λ y. record fields { latitude = Some y }) (reading_optional reading_coordinate content)) (Err UnknownField)
          ≡ Ok next → Says kind.Node letter content fields next) [
            | true ↦ λ is. read_part kind.Node letter content fields next _ _ Latitude (λ x. eqb-true letter 121 is) (λ x. refl)
                (λ x s. place_sound content x s) (λ x. refl)
            | false ↦ λ none e. cc
          ] refl
    ] refl
says_body kind.Way letter content fields next =
    elim (eqb letter 78) as (λ t. eqb letter 78 ≡ t →
    cond t (as_value (λ ids. record fields { references = Some ids }) (reading_list reading_reference content)) (Err UnknownField)
    ≡ Ok next → Says kind.Way letter content fields next) [
      | true ↦ λ is. read_part kind.Way letter content fields next _ _ References (λ x. eqb-true letter 78 is) (λ x. refl)
          (λ x s. references_sound content x s) (λ x. refl)
      | false ↦ λ none e. cc
    ] refl
says_body kind.Relation letter content fields next =
    elim (eqb letter 77) as (λ t. eqb letter 77 ≡ t →
    cond t (as_value (λ ms. record fields { members = Some ms }) (reading_list reading_member content)) (Err UnknownField) ≡ Ok next →
    Says kind.Relation letter content fields next) [
      | true ↦ λ is. read_part kind.Relation letter content fields next _ _ Members (λ x. eqb-true letter 77 is) (λ x. refl)
          (λ x s. members_sound content x s) (λ x. refl)
      | false ↦ λ none e. cc
    ] refl

-- a letter that all kinds have, or another one
pub choose : {P : Type 0} (letter at : ℕ) (here there out : Result Fields OplReason) → (letter ≡ at → here ≡ out → P) →
    (eqb letter at ≡ false → there ≡ out → P) → cond (eqb letter at) here there ≡ out → P
choose {P} letter at here there out f g =
    elim (eqb letter at) as (λ t. eqb letter at ≡ t → cond t here there ≡ out → P) [
      | true ↦ λ is e. f (eqb-true letter at is) e
      | false ↦ λ other e. g other e
    ] refl

says : (k : Kind) (letter : ℕ) (content : List ℕ) (fields next : Fields) → with_field k letter content fields ≡ Ok next →
    Says k letter content fields next
says k letter content fields next =
    choose letter 118 _ _ (Ok next) (λ is. read_part k letter content fields next _ _ Number (λ x. is) (λ x. tt)
    (λ x s. number_sound 4_294_967_295 content x s) (λ x. refl))
    (λ other. choose letter 100 _ _ (Ok next) (λ is.
    read_part k letter content fields next _ _ Deleted (λ x. is) (λ x. tt) (λ x s. deleted_sound content x s) (λ x. refl))
    (λ other. choose letter 99 _ _ (Ok next) (λ is. read_part k letter content fields next _ _ Changeset (λ x. is) (λ x. tt)
    (λ x s. count_sound content x s) (λ x. refl))
    (λ other. choose letter 116 _ _ (Ok next) (λ is.
    read_part k letter content fields next _ _ Time (λ x. is) (λ x. tt) (λ x s. time_sound content x s) (λ x. refl))
    (λ other. choose letter 105 _ _ (Ok next) (λ is.
    read_part k letter content fields next _ _ UserId (λ x. is) (λ x. tt) (λ x s. count_sound content x s) (λ x. refl))
    (λ other. choose letter 117 _ _ (Ok next) (λ is.
    read_part k letter content fields next _ _ User (λ x. is) (λ x. tt) (λ x s. characters_sound content x s) (λ x. refl))
    (λ other. choose letter 84 _ _ (Ok next) (λ is. read_part k letter content fields next _ _ Tags (λ x. is) (λ x. tt)
    (λ x s. tags_sound content x s) (λ x. refl))
    (λ other. says_body k letter content fields next)))))))

-- a test of one letter after a test of another
skip : (l a b : ℕ) (x rest more : Bool) → eqb a b ≡ false → more ≡ (eqb l b || rest) →
    cond (eqb l a) x more ≡ (eqb l b || cond (eqb l a) x rest)
skip l a b x rest more apart h =
    elim (eqb l a) as (λ t. eqb l a ≡ t → cond t x more ≡ (eqb l b || cond t x rest)) [
      | true ↦ λ is. let other : eqb l b ≡ false = ap (λ n. eqb n b) (eqb-true l a is) ∙ apart in ap (λ t. t || x) (sym other)
      | false ↦ λ other. h
    ] refl

here : (l b : ℕ) (x rest : Bool) → cond (eqb l b) true rest ≡ (eqb l b || cond (eqb l b) x rest)
here l b x rest = elim (eqb l b) as (λ t. cond t true rest ≡ (t || cond t x rest)) [ true ↦ refl | false ↦ refl ]

-- the letters met, after one more part
pub met : (fields : Fields) (part : LinePart) (l : ℕ) → has_field (with_part fields part) l ≡ (eqb l (letter_of part) || has_field fields l)
met fields (Number n) l = here l 118 _ _
met fields (Deleted d) l = skip l 118 100 _ _ _ refl (here l 100 _ _)
met fields (Changeset n) l = skip l 118 99 _ _ _ refl (skip l 100 99 _ _ _ refl (here l 99 _ _))
met fields (Time t) l = skip l 118 116 _ _ _ refl (skip l 100 116 _ _ _ refl (skip l 99 116 _ _ _ refl (here l 116 _ _)))
met fields (UserId n) l = skip l 118 105 _ _ _ refl
    (skip l 100 105 _ _ _ refl (skip l 99 105 _ _ _ refl (skip l 116 105 _ _ _ refl (here l 105 _ _))))
met fields (User t) l = skip l 118 117 _ _ _ refl (skip l 100 117 _ _ _ refl
    (skip l 99 117 _ _ _ refl (skip l 116 117 _ _ _ refl (skip l 105 117 _ _ _ refl (here l 117 _ _)))))
met fields (Tags ts) l = skip l 118 84 _ _ _ refl (skip l 100 84 _ _ _ refl
    (skip l 99 84 _ _ _ refl (skip l 116 84 _ _ _ refl (skip l 105 84 _ _ _ refl (skip l 117 84 _ _ _ refl (here l 84 _ _))))))
met fields (Longitude x) l =
    skip l 118 120 _ _ _ refl (skip l 100 120 _ _ _ refl
    (skip l 99 120 _ _ _ refl (skip l 116 120 _ _ _ refl
    (skip l 105 120 _ _ _ refl (skip l 117 120 _ _ _ refl (skip l 84 120 _ _ _ refl (here l 120 _ _)))))))
met fields (Latitude y) l =
    skip l 118 121 _ _ _ refl (skip l 100 121 _ _ _ refl
    (skip l 99 121 _ _ _ refl (skip l 116 121 _ _ _ refl
    (skip l 105 121 _ _ _ refl (skip l 117 121 _ _ _ refl (skip l 84 121 _ _ _ refl (skip l 120 121 _ _ _ refl (here l 121 _ _))))))))
met fields (References ids) l =
    skip l 118 78 _ _ _ refl (skip l 100 78 _ _ _ refl
    (skip l 99 78 _ _ _ refl (skip l 116 78 _ _ _ refl
    (skip l 105 78 _ _ _ refl (skip l 117 78 _ _ _ refl
    (skip l 84 78 _ _ _ refl (skip l 120 78 _ _ _ refl (skip l 121 78 _ _ _ refl (here l 78 _ _)))))))))
met fields (Members ms) l =
    skip l 118 77 _ _ _ refl (skip l 100 77 _ _ _ refl
    (skip l 99 77 _ _ _ refl (skip l 116 77 _ _ _ refl
    (skip l 105 77 _ _ _ refl (skip l 117 77 _ _ _ refl
    (skip l 84 77 _ _ _ refl (skip l 120 77 _ _ _ refl (skip l 121 77 _ _ _ refl (skip l 78 77 _ _ _ refl (here l 77 _ _))))))))))

-- each part has a letter that was not met before
abbrev pub Different : Fields → List LinePart → Type 0
Different fields [] = Unit {0}
Different fields (part ∷ parts) = (has_field fields (letter_of part) ≡ false) × Different (with_part fields part) parts

-- the parts of a sequence of fields
record FieldsRead (k : Kind) (fields next : Fields) (pieces : List (List ℕ)) : Type 0 where
  parts : List LinePart
  spelled : Pairwise (SpellsPart k) (filter is_full pieces) parts
  different : Different fields parts
  together : next ≡ fold with_part fields parts

one_read : (k : Kind) (letter : ℕ) (content : List ℕ) (more : List (List ℕ)) (fields between next : Fields) →
    has_field fields letter ≡ false → Says k letter content fields between → FieldsRead k between next more →
    FieldsRead k fields next ((letter ∷ content) ∷ more)
one_read k letter content more fields between next fresh one rest =
    let P : Fields → Type 0 = λ f. Different f rest.parts in
    record {
      parts = one.part ∷ rest.parts;
      spelled = (
        record { content = content; lettered = ap (λ l. l ∷ content) one.lettered; of_kind = one.of_kind; spelled = one.spelled },
        rest.spelled,
      );
      different = (ap (has_field fields) (sym one.lettered) ∙ fresh, subst P one.together rest.different);
      together = rest.together ∙ ap (λ f. fold with_part f rest.parts) one.together;
    }

fields_read : (k : Kind) (pieces : List (List ℕ)) (fields next : Fields) → reading_fields k pieces fields ≡ Ok next →
    FieldsRead k fields next pieces
unfolding reading_fields
fields_read k [] fields next e = record { parts = []; spelled = tt; different = tt; together = (let same : next ≡ fields = cc in same) }
fields_read k ([] ∷ more) fields next e = let rest = fields_read k more fields next e in
    record { parts = rest.parts; spelled = rest.spelled; different = rest.different; together = rest.together }
fields_read k ((letter ∷ content) ∷ more) fields next e =
    elim (has_field fields letter) as (λ t. has_field fields letter ≡ t →
    and_then (cond t (Err RepeatedField) (with_field k letter content fields)) (reading_fields k more) ≡ Ok next →
    FieldsRead k fields next ((letter ∷ content) ∷ more)) [
      | true ↦ λ met refused. cc
      | false ↦ λ fresh. elim (with_field k letter content fields) as
          (λ r. with_field k letter content fields ≡ r → and_then r (reading_fields k more) ≡ Ok next →
          FieldsRead k fields next ((letter ∷ content) ∷ more)) [
            | Ok between ↦ λ one read. one_read k letter content more fields between next fresh (says k letter content fields between one)
                (fields_read k more between next read)
            | Err reason ↦ λ one refused. cc
          ] refl
    ] refl e

-- a field that spells a part is read as the part
spelled_content : (k : Kind) (part : LinePart) (content : List ℕ) (fields : Fields) → IsPartOf k part → SpellsContent content part →
    with_field k (letter_of part) content fields ≡ Ok (with_part fields part)
spelled_content k (Number n) content fields of_kind s =
    ap (as_value (λ x. record fields { number = Some x })) (number_complete 4_294_967_295 content n s)
spelled_content k (Deleted d) content fields of_kind s =
    ap (as_value (λ x. record fields { deleted = Some x })) (deleted_complete content d s)
spelled_content k (Changeset n) content fields of_kind s =
    ap (as_value (λ x. record fields { changeset = Some x })) (count_complete content n s)
spelled_content k (Time t) content fields of_kind s = ap (as_value (λ x. record fields { time = Some x })) (time_complete content t s)
spelled_content k (UserId n) content fields of_kind s = ap (as_value (λ x. record fields { uid = Some x })) (count_complete content n s)
spelled_content k (User t) content fields of_kind s = ap (as_value (λ x. record fields { user = Some x })) (characters_complete content t s)
spelled_content k (Tags ts) content fields of_kind s = ap (as_value (λ x. record fields { tags = Some x })) (tags_complete content ts s)
spelled_content k (Longitude x) content fields of_kind s =
    let P : Kind → Type 0 = λ l. with_field l 120 content fields ≡ Ok (record fields { longitude = Some x }) in
    subst P (sym of_kind) (ap (as_value (λ y. record fields { longitude = Some y })) (place_complete content x s))
spelled_content k (Latitude x) content fields of_kind s =
    let P : Kind → Type 0 = λ l. with_field l 121 content fields ≡ Ok (record fields { latitude = Some x }) in
    subst P (sym of_kind) (ap (as_value (λ y. record fields { latitude = Some y })) (place_complete content x s))
spelled_content k (References ids) content fields of_kind s =
    let P : Kind → Type 0 = λ l. with_field l 78 content fields ≡ Ok (record fields { references = Some ids }) in
    subst P (sym of_kind) (ap (as_value (λ x. record fields { references = Some x })) (references_complete content ids s))
spelled_content k (Members ms) content fields of_kind s =
    let P : Kind → Type 0 = λ l. with_field l 77 content fields ≡ Ok (record fields { members = Some ms }) in
    subst P (sym of_kind) (ap (as_value (λ x. record fields { members = Some x })) (members_complete content ms s))

spelled_field : (k : Kind) (field : List ℕ) (part : LinePart) (fields : Fields) → SpellsPart k field part →
    has_field fields (letter_of part) ≡ false → reading_field k field fields ≡ Ok (with_part fields part)
spelled_field k field part fields s fresh =
    ap (λ f. reading_field k f fields) s.lettered
    ∙ ap (λ t. cond t (Err RepeatedField) (with_field k (letter_of part) s.content fields)) fresh
    ∙ spelled_content k part s.content fields s.of_kind s.spelled

retold : (k : Kind) (pieces : List (List ℕ)) (parts : List LinePart) (fields : Fields) →
    Pairwise (SpellsPart k) (filter is_full pieces) parts →
    Different fields parts → reading_fields k pieces fields ≡ Ok (fold with_part fields parts)
unfolding reading_fields
retold k [] [] fields s d = refl
retold k [] (part ∷ parts) fields s d = absurd s
retold k ([] ∷ more) parts fields s d = retold k more parts fields s d
retold k ((b ∷ bs) ∷ more) [] fields s d = absurd s
retold k ((b ∷ bs) ∷ more) (part ∷ parts) fields s d =
    ap (λ r. and_then r (reading_fields k more)) (spelled_field k (b ∷ bs) part fields s.0 d.0)
    ∙ retold k more parts (with_part fields part) s.1 d.1

-- the test of two numbers for equality is symmetric
symmetric : (a b : ℕ) → eqb a b ≡ false → eqb b a ≡ false
symmetric a b e = grind (arith, nat_tests)

dropped : (fields : Fields) (part : LinePart) (ps : List LinePart) →
    AllByRecursion (λ l. has_field (with_part fields part) l ≡ false) (map letter_of ps) →
    AllByRecursion (λ l. has_field fields l ≡ false) (map letter_of ps)
dropped fields part [] h = tt
dropped fields part (p ∷ ps) h = ((or_parts _ _ (sym (met fields part (letter_of p)) ∙ h.0)).1, dropped fields part ps h.1)

fresh_all : (fields : Fields) (parts : List LinePart) → Different fields parts →
    AllByRecursion (λ l. has_field fields l ≡ false) (map letter_of parts)
fresh_all fields [] d = tt
fresh_all fields (part ∷ parts) d = (d.0, dropped fields part parts (fresh_all (with_part fields part) parts d.1))

apart_all : (fields : Fields) (part : LinePart) (parts : List LinePart) →
    AllByRecursion (λ l. has_field (with_part fields part) l ≡ false) (map letter_of parts) →
    AllByRecursion (λ l. nat_eq (letter_of part) l ≡ false) (map letter_of parts)
apart_all fields part [] h = tt
apart_all fields part (p ∷ ps) h = (
  symmetric (letter_of p) (letter_of part) (or_parts _ _ (sym (met fields part (letter_of p)) ∙ h.0)).0,
  apart_all fields part ps h.1,
)

-- Parts that differ in their fields have different letters.
pub distinct : (fields : Fields) (parts : List LinePart) → Different fields parts → IsDistinct nat_eq (map letter_of parts)
unfolding IsDistinct
distinct fields [] d = tt
distinct fields (part ∷ parts) d = (
  apart_all fields part parts (fresh_all (with_part fields part) parts d.1),
  distinct (with_part fields part) parts d.1,
)

fresh_more : (fields : Fields) (part : LinePart) (parts : List LinePart) →
    AllByRecursion (λ l. nat_eq (letter_of part) l ≡ false) (map letter_of parts) →
    AllByRecursion (λ l. has_field fields l ≡ false) (map letter_of parts) →
    AllByRecursion (λ l. has_field (with_part fields part) l ≡ false) (map letter_of parts)
fresh_more fields part [] a h = tt
fresh_more fields part (p ∷ ps) a h = (
  met fields part (letter_of p) ∙ ap (λ t. t || has_field fields (letter_of p)) (symmetric (letter_of part) (letter_of p) a.0)
      ∙ h.0,
  fresh_more fields part ps a.1 h.1,
)

different : (fields : Fields) (parts : List LinePart) → IsDistinct nat_eq (map letter_of parts) →
    AllByRecursion (λ l. has_field fields l ≡ false) (map letter_of parts) → Different fields parts
unfolding IsDistinct
different fields [] d h = tt
different fields (part ∷ parts) d h = (h.0, different (with_part fields part) parts d.1 (fresh_more fields part parts d.0 h.1))

not_met : (t more : Bool) → more ≡ false → cond t false more ≡ false
not_met true more h = refl
not_met false more h = h

-- At first no field was met.
pub unmet : (l : ℕ) → has_field no_fields l ≡ false
unmet l =
    not_met (eqb l 118) _ (not_met (eqb l 100) _ (not_met (eqb l 99) _ (not_met (eqb l 116) _ (not_met (eqb l 105) _ (not_met (eqb l 117) _
    (not_met (eqb l 84) _ (not_met (eqb l 120) _ (not_met (eqb l 121) _ (not_met (eqb l 78) _ (not_met (eqb l 77) false refl))))))))))

nothing_met : (parts : List LinePart) → AllByRecursion (λ l. has_field no_fields l ≡ false) (map letter_of parts)
nothing_met [] = tt
nothing_met (part ∷ parts) = (unmet (letter_of part), nothing_met parts)

-- the fields of a line, and their parts
pub record PartsOf (k : Kind) (pieces : List (List ℕ)) (next : Fields) : Type 0 where
  pub parts : List LinePart
  pub spelled : Pairwise (SpellsPart k) (filter is_full pieces) parts
  pub different : IsDistinct nat_eq (map letter_of parts)
  pub together : next ≡ fold with_part no_fields parts

-- Fields that are read spell parts, which have the contents that were read.
pub parts_of : (k : Kind) (pieces : List (List ℕ)) (next : Fields) → reading_fields k pieces no_fields ≡ Ok next → PartsOf k pieces next
parts_of k pieces next e =
    let t = fields_read k pieces no_fields next e in
    record { parts = t.parts; spelled = t.spelled; different = distinct no_fields t.parts t.different; together = t.together }

-- Fields that spell parts of different letters are read as these parts.
pub read_of : (k : Kind) (pieces : List (List ℕ)) (parts : List LinePart) → Pairwise (SpellsPart k) (filter is_full pieces) parts →
    IsDistinct nat_eq (map letter_of parts) → reading_fields k pieces no_fields ≡ Ok (fold with_part no_fields parts)
read_of k pieces parts s d = retold k pieces parts no_fields s (different no_fields parts d (nothing_met parts))
