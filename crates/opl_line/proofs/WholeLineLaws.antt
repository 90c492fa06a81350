-- The canonical line of a version is read back.
use Rattle.std.proofs.Common.{◌≡◌, ℕ, ℤ, ◌^◌, ◌<◌, Bool, true, false, not, eqb, ltb, ◌&&◌, List, [], ◌∷◌, ◌++◌, filter, Option, Some, None}
use Rattle.std.proofs.Common.{Ok, refl, sym, ap, ◌∙◌, subst, arith, codes, FitsSigned, w32}
use Rattle.std.proofs.lemmas.Bool.{and_parts}
use Rattle.std.proofs.lemmas.Bool.Decides.{nat_tests}
use Rattle.std.proofs.lemmas.Str.{IsUtf8-nil, IsUtf8-append, IsUtf8-encode}
use Rattle.std.proofs.lemmas.List.Folds.{list_all-append}
use Rattle.std.specs.List.{list_all, AllByRecursion}
use Rattle.std.specs.Option.{ForSome}
use Rattle.std.specs.Str.{IsUtf8}
use lib.Utf8.{encode, scalar, scalars}
use Rattle.osm_model.specs.declared.kind.Kind.{Kind}
use Rattle.osm_model.specs.declared.kind.Kind.TheVariants as kind
use Rattle.osm_model.specs.declared.tags.Tag.{Tag}
use Rattle.osm_model.specs.declared.body.Body.{Body}
use Rattle.osm_model.specs.declared.body.Body.TheVariants.{Deleted, Node, Way, Relation}
use Rattle.osm_model.specs.Id.{is_id}
use Rattle.osm_model.specs.Text.{has_zero, is_text}
use Rattle.osm_model.specs.Escape as model
use Rattle.osm_model.specs.Escape.{code_escape, escape_char, escape}
use Rattle.osm_model.specs.Joined.{join_with}
use Rattle.osm_model.specs.Decimal.{number_text, integer_text}
use Rattle.osm_model.specs.Time.{time_text}
use Rattle.osm_model.specs.Coordinate.{coordinate_text}
use Rattle.osm_model.specs.Kind.{kind_letter}
use Rattle.osm_model.specs.Members.{roles_of}
use Rattle.osm_model.specs.Tags.{texts_of_tags}
use Rattle.osm_model.specs.Data.{VersionData, kind_of, is_deleted, tags_of, ids_of, texts_of}
use Rattle.osm_model.specs.New.{version_or_fault}
use Rattle.osm_model.specs.Valid.{IsInRange, IsVersion}
use Rattle.osm_model.specs.Line.{tag_text, reference_text, member_text, list_text, visible_text, kind_fields, fields, line}
use Rattle.osm_model.specs.Pairwise.{Pairwise}
use Rattle.osm_model.proofs.EscapeLaws.{escape_char-raw, escape_char-other}
use Rattle.opl_line.specs.declared.bytes.cut.Delimiter.TheVariants.{Blanks}
use Rattle.opl_line.specs.Delimiter.{is_blank, is_end, is_line_end, split_all}
use Rattle.opl_line.specs.Field.{no_fields}
use Rattle.opl_line.specs.Reading.{meta_of, reading_body, reading_line}
use Rattle.opl_line.specs.Part as part
use Rattle.opl_line.specs.Part.{LinePart, SpellsPart}
use Rattle.opl_line.specs.Content.{SpellsNumber32, some_count, SpellsDeleted, visible_mark, deleted_mark, SpellsOptionalCoordinate}
use Rattle.opl_line.specs.Content.{no_place, some_place}
use Rattle.opl_line.specs.Content.{SpellsObject}
use Rattle.opl_line.specs.Spells.{is_full, fields_of_parts, Spells}
use Rattle.opl_line.specs.Canonical.{LineSpellsItsVersion, LineIsReadBack, LineIsInOneFile}
use Rattle.opl_line.proofs.ContentLaws.{all_weaker}
use Rattle.opl_line.proofs.PartLaws.{Different, distinct}
use Rattle.opl_line.proofs.SpellsLaws.{spelled_is_read, one_reading}
use Rattle.opl_line.proofs.CanonicalLaws.{number_is_read_back, id_is_read_back}
use Rattle.opl_line.proofs.EscapedLaws.{text_is_read_back}
use Rattle.opl_line.proofs.CoordinateLaws.{coordinate_is_read_back}
use Rattle.opl_line.proofs.ListBackLaws.{cut_joined, lists_are_spelled}
use Rattle.opl_line.proofs.GraphicLaws.{is_graphic, escape_graphic, all_append, tags_of_body, fields_have}
use Rattle.opl_line.proofs.MadeLaws.{meta_of_version, valid_time, version_made}
use Rattle.opl_line.proofs.NumeralLaws.{number_sound, id_sound}
use Rattle.opl_line.proofs.PlaceLaws.{coordinate_sound}

-- ---- no byte of a field is a blank or a line end
graphic_above : (b : ℕ) → is_graphic b ≡ true → ltb 32 b ≡ true
graphic_above b e = grind (arith, nat_tests)

encode_above : (c : ℕ) → model.is_raw c ≡ true → list_all (λ b. ltb 32 b) (encode c) ≡ true
unfolding encode
encode_above c is = grind (arith, nat_tests)

char_above : (c : ℕ) → list_all (λ b. ltb 32 b) (escape_char c) ≡ true
char_above c =
    let P : List ℕ → Type 0 = λ t. list_all (λ b. ltb 32 b) t ≡ true in
    elim (model.is_raw c) as (λ t. model.is_raw c ≡ t → list_all (λ b. ltb 32 b) (escape_char c) ≡ true) [
      | true ↦ λ is. subst P (sym (escape_char-raw c is)) (encode_above c is)
      | false ↦ λ is. subst P (sym (escape_char-other c is))
          (all_weaker is_graphic (λ b. ltb 32 b) graphic_above (code_escape c) (escape_graphic c))
    ] refl

text_above : (cs : List ℕ) → list_all (λ b. ltb 32 b) (escape cs) ≡ true
text_above [] = refl
text_above (c ∷ cs) = all_append (λ b. ltb 32 b) (escape_char c) (escape cs) (char_above c) (text_above cs)

any_texts : (ts : List (List ℕ)) → list_all (λ t. true) ts ≡ true
any_texts [] = refl
any_texts (t ∷ ts) = any_texts ts

fields_above : (v : VersionData) → AllByRecursion (λ f. list_all (λ b. ltb 32 b) f ≡ true) (fields v)
fields_above v =
    fields_have (λ f. list_all (λ b. ltb 32 b) f ≡ true) (all_append (λ b. ltb 32 b))
    (λ xs h. all_weaker is_graphic (λ b. ltb 32 b) graphic_above xs h)
    (λ t. true) (λ cs h. text_above cs) v (any_texts (v.user ∷ texts_of v.body))

not_blank : (b : ℕ) → ltb 32 b ≡ true → not (is_blank b) ≡ true
not_blank b e = grind (arith, nat_tests)

unparted : (fs : List (List ℕ)) → AllByRecursion (λ f. list_all (λ b. ltb 32 b) f ≡ true) fs →
    list_all (λ f. list_all (λ b. not (is_blank b)) f) fs ≡ true
unparted [] h = refl
unparted (f ∷ fs) h = λ i. all_weaker (λ b. ltb 32 b) (λ b. not (is_blank b)) not_blank f h.0 i && unparted fs h.1 i

line_parted : (v : VersionData) → split_all (is_end Blanks) (line v) ≡ fields v
unfolding line
line_parted v = cut_joined (is_end Blanks) 32 refl _ _ (unparted (fields v) (fields_above v))

-- ---- a canonical line is one line
weaker : (b : ℕ) → ltb 32 b ≡ true → ltb 31 b ≡ true
weaker b e = grind (arith, nat_tests)

no_line_end : (b : ℕ) → ltb 31 b ≡ true → not (is_line_end b) ≡ true
no_line_end b e = grind (arith, nat_tests)

joined_above : (fs : List (List ℕ)) → AllByRecursion (λ f. list_all (λ b. ltb 32 b) f ≡ true) fs →
    list_all (λ b. ltb 31 b) (join_with 32 fs) ≡ true
joined_above [] h = refl
joined_above (f ∷ []) h = all_weaker (λ b. ltb 32 b) (λ b. ltb 31 b) weaker f h.0
joined_above (f ∷ g ∷ fs) h = all_append (λ b. ltb 31 b) f (32 ∷ join_with 32 (g ∷ fs))
    (all_weaker (λ b. ltb 32 b) (λ b. ltb 31 b) weaker f h.0) (joined_above (g ∷ fs) h.1)

no_comment : (k : Kind) → eqb (kind_letter k) 35 ≡ false
no_comment kind.Node = refl
no_comment kind.Way = refl
no_comment kind.Relation = refl

-- A canonical line has no line end and isn't skipped.
pub line_is_in_one_file : LineIsInOneFile
unfolding line
line_is_in_one_file v = (
  all_weaker (λ b. ltb 31 b) (λ b. not (is_line_end b)) no_line_end (line v)
      (joined_above (fields v) (fields_above v)),
  no_comment (kind_of v.body),
)

-- ---- a canonical line is UTF-8
ascii_encode : (x : ℕ) → is_graphic x ≡ true → encode x ≡ x ∷ []
unfolding encode
ascii_encode x is = let ascii : ltb x 128 ≡ true = grind (arith, nat_tests) in rw ascii refl

graphic_scalar : (x : ℕ) → is_graphic x ≡ true → scalar x ≡ true
graphic_scalar x is = grind (arith, nat_tests)

graphic_utf8 : (xs : List ℕ) → list_all is_graphic xs ≡ true → IsUtf8 xs
graphic_utf8 [] h = IsUtf8-nil
graphic_utf8 (x ∷ xs) h =
    let parts = and_parts (is_graphic x) (list_all is_graphic xs) h in
    IsUtf8-append (x ∷ []) xs (subst IsUtf8 (ascii_encode x parts.0) (IsUtf8-encode x (graphic_scalar x parts.0))) (graphic_utf8 xs parts.1)

char_utf8 : (c : ℕ) → scalar c ≡ true → IsUtf8 (escape_char c)
char_utf8 c is =
    elim (model.is_raw c) as (λ t. model.is_raw c ≡ t → IsUtf8 (escape_char c)) [
      | true ↦ λ raw. subst IsUtf8 (sym (escape_char-raw c raw)) (IsUtf8-encode c is)
      | false ↦ λ raw. subst IsUtf8 (sym (escape_char-other c raw)) (graphic_utf8 (code_escape c) (escape_graphic c))
    ] refl

text_utf8 : (cs : List ℕ) → scalars cs ≡ true → IsUtf8 (escape cs)
text_utf8 [] h = IsUtf8-nil
text_utf8 (c ∷ cs) h =
    let parts = and_parts (scalar c) (scalars cs) h in
    IsUtf8-append (escape_char c) (escape cs) (char_utf8 c parts.0) (text_utf8 cs parts.1)

joined_utf8 : (fs : List (List ℕ)) → AllByRecursion IsUtf8 fs → IsUtf8 (join_with 32 fs)
unfolding encode
joined_utf8 [] h = IsUtf8-nil
joined_utf8 (f ∷ []) h = h.0
joined_utf8 (f ∷ g ∷ fs) h = IsUtf8-append f (32 ∷ join_with 32 (g ∷ fs)) h.0
    (IsUtf8-append (32 ∷ []) (join_with 32 (g ∷ fs)) (IsUtf8-encode 32 refl) (joined_utf8 (g ∷ fs) h.1))

line_utf8 : (v : VersionData) → list_all is_text (v.user ∷ texts_of v.body) ≡ true → IsUtf8 (line v)
unfolding line
line_utf8 v all = joined_utf8 (fields v) (fields_have IsUtf8 IsUtf8-append graphic_utf8 is_text
    (λ cs is. text_utf8 cs (and_parts (scalars cs) (not (has_zero cs)) is).0) v all)

-- ---- the parts of a canonical line
abbrev body_parts : Body → List LinePart
body_parts (Deleted kind.Node) = part.Longitude None ∷ part.Latitude None ∷ []
body_parts (Deleted kind.Way) = part.References [] ∷ []
body_parts (Deleted kind.Relation) = part.Members [] ∷ []
body_parts (Node lon lat tags) = part.Longitude (Some lon) ∷ part.Latitude (Some lat) ∷ []
body_parts (Way refs tags) = part.References refs ∷ []
body_parts (Relation members tags) = part.Members members ∷ []

-- the fields after the first
abbrev others_of : VersionData → List (List ℕ)
others_of v =
    (codes "v" ++ number_text v.number)
    ∷ (codes "d" ++ visible_text v.body)
    ∷ (codes "c" ++ number_text v.changeset)
    ∷ (codes "t" ++ time_text v.time)
    ∷ (codes "i" ++ number_text v.uid)
    ∷ (codes "u" ++ escape v.user)
    ∷ (codes "T" ++ list_text tag_text (tags_of v.body))
    ∷ kind_fields v.body

abbrev parts_of : VersionData → List LinePart
parts_of v =
    part.Number v.number ∷ part.Deleted (is_deleted v.body) ∷ part.Changeset v.changeset ∷ part.Time v.time ∷ part.UserId v.uid
    ∷ part.User v.user ∷ part.Tags (tags_of v.body) ∷ body_parts v.body

number_spelled : (n : ℕ) → n < 2 ^ 32 → SpellsNumber32 (number_text n) n
number_spelled n small = number_sound 4_294_967_295 (number_text n) n (number_is_read_back 4_294_967_295 n (omega arith))

deleted_spelled : (b : Body) → SpellsDeleted (visible_text b) (is_deleted b)
deleted_spelled (Deleted k) = deleted_mark
deleted_spelled (Node lon lat tags) = visible_mark
deleted_spelled (Way refs tags) = visible_mark
deleted_spelled (Relation members tags) = visible_mark

coordinate_spelled : (units : ℤ) → FitsSigned w32 units → SpellsOptionalCoordinate (coordinate_text units) (Some units)
coordinate_spelled units fits = some_place (coordinate_text units) units
    (coordinate_sound (coordinate_text units) units (coordinate_is_read_back units fits))

body_spelled : (b : Body) → IsInRange b → list_all is_id (ids_of b) ≡ true → list_all is_text (texts_of b) ≡ true →
    Pairwise (SpellsPart (kind_of b)) (filter is_full (kind_fields b)) (body_parts b)
body_spelled (Deleted kind.Node) range ids texts = (
  record { content = []; lettered = refl; of_kind = refl; spelled = no_place },
  (record { content = []; lettered = refl; of_kind = refl; spelled = no_place }, tt),
)
body_spelled (Deleted kind.Way) range ids texts = (record { content = []; lettered = refl; of_kind = refl; spelled = refl }, tt)
body_spelled (Deleted kind.Relation) range ids texts = (record { content = []; lettered = refl; of_kind = refl; spelled = refl }, tt)
body_spelled (Node lon lat tags) range ids texts = (
  record { content = coordinate_text lon; lettered = refl; of_kind = refl; spelled = coordinate_spelled lon range.0 },
  (record { content = coordinate_text lat; lettered = refl; of_kind = refl; spelled = coordinate_spelled lat range.1 }, tt),
)
body_spelled (Way refs tags) range ids texts = (
  record {
    content = list_text reference_text refs;
    lettered = refl;
    of_kind = refl;
    spelled =
        lists_are_spelled.1 refs ids;
  },
  tt,
)
body_spelled (Relation members tags) range ids texts =
    let roles = and_parts (list_all is_text (roles_of members)) (list_all is_text (texts_of_tags tags))
    (sym (list_all-append is_text (roles_of members) (texts_of_tags tags)) ∙ texts) in (
      record {
        content = list_text member_text members;
        lettered = refl;
        of_kind = refl;
        spelled =
            lists_are_spelled.2 members ids roles.0;
      },
      tt,
    )

-- Data of which each field is within its range. Its tags may have any order.
pub record AreFieldsWithin (v : VersionData) : Type 0 where
  pub ids : list_all is_id (v.id ∷ ids_of v.body) ≡ true
  pub number : v.number < 2 ^ 32
  pub changeset : v.changeset < 2 ^ 32
  pub uid : v.uid < 2 ^ 32
  pub time : ForSome v.time (λ t. (0 < t) × (t < 2 ^ 32))
  pub texts : list_all is_text (v.user ∷ texts_of v.body) ≡ true
  pub location : IsInRange v.body

version_within : (v : VersionData) → IsVersion v → AreFieldsWithin v
version_within v is =
    record {
      ids = is.ids;
      number = is.number_below;
      changeset = is.changeset;
      uid = is.uid;
      time = is.time;
      texts = is.texts;
      location =
          is.location;
    }

parts_spelled : (v : VersionData) → AreFieldsWithin v → Pairwise (SpellsPart (kind_of v.body)) (filter is_full (others_of v)) (parts_of v)
parts_spelled v is =
    let ids = and_parts (is_id v.id) (list_all is_id (ids_of v.body)) is.ids in
    let texts = and_parts (is_text v.user) (list_all is_text (texts_of v.body)) is.texts in (
      record { content = number_text v.number; lettered = refl; of_kind = tt; spelled = number_spelled v.number is.number },
      (
        record { content = visible_text v.body; lettered = refl; of_kind = tt; spelled = deleted_spelled v.body },
        (
          record {
            content = number_text v.changeset;
            lettered = refl;
            of_kind = tt;
            spelled =
                some_count (number_text v.changeset) v.changeset (number_spelled v.changeset is.changeset);
          },
          (
            record {
              content = time_text v.time;
              lettered = refl;
              of_kind = tt;
              spelled =
                  record { spelled = refl; range = valid_time v.time is.time };
            },
            (
              record {
                content = number_text v.uid;
                lettered = refl;
                of_kind = tt;
                spelled =
                    some_count (number_text v.uid) v.uid (number_spelled v.uid is.uid);
              },
              (
                record { content = escape v.user; lettered = refl; of_kind = tt; spelled = text_is_read_back v.user texts.0 },
                (
                  record {
                    content = list_text tag_text (tags_of v.body);
                    lettered = refl;
                    of_kind = tt;
                    spelled =
                        lists_are_spelled.0 (tags_of v.body) (tags_of_body is_text v.body texts.1);
                  },
                  body_spelled v.body is.location ids.1 texts.1,
                ),
              ),
            ),
          ),
        ),
      ),
    )

read_by : (number : ℕ) (deleted : Bool) (changeset : ℕ) (time : Option ℕ) (uid : ℕ) (user : List ℕ) (tags : List Tag) → List LinePart →
    List LinePart
read_by number deleted changeset time uid user tags more =
    part.Number number ∷ part.Deleted deleted ∷ part.Changeset changeset ∷ part.Time time ∷ part.UserId uid ∷ part.User user
    ∷ part.Tags tags ∷ more

all_different : (number : ℕ) (deleted : Bool) (changeset : ℕ) (time : Option ℕ) (uid : ℕ) (user : List ℕ) (tags : List Tag) (b : Body) →
    Different no_fields (read_by number deleted changeset time uid user tags (body_parts b))
unfolding read_by
all_different number deleted changeset time uid user tags (Deleted kind.Node) =
    (refl, (refl, (refl, (refl, (refl, (refl, (refl, (refl, (refl, tt)))))))))
all_different number deleted changeset time uid user tags (Deleted kind.Way) =
    (refl, (refl, (refl, (refl, (refl, (refl, (refl, (refl, tt))))))))
all_different number deleted changeset time uid user tags (Deleted kind.Relation) =
    (refl, (refl, (refl, (refl, (refl, (refl, (refl, (refl, tt))))))))
all_different number deleted changeset time uid user tags (Node lon lat ts) =
    (refl, (refl, (refl, (refl, (refl, (refl, (refl, (refl, (refl, tt)))))))))
all_different number deleted changeset time uid user tags (Way refs ts) = (refl, (refl, (refl, (refl, (refl, (refl, (refl, (refl, tt))))))))
all_different number deleted changeset time uid user tags (Relation members ts) =
    (refl, (refl, (refl, (refl, (refl, (refl, (refl, (refl, tt))))))))

-- the parts determine the data
record Said (v : VersionData) (b : Body) (parts : List LinePart) : Type 0 where
  has_body : reading_body (kind_of b) (fields_of_parts parts) ≡ Ok b
  has_meta : meta_of (fields_of_parts parts) ≡ meta_of_version v

said : (v : VersionData) (b : Body) → Said v b (read_by v.number (is_deleted b) v.changeset v.time v.uid v.user (tags_of b) (body_parts b))
unfolding read_by
said v (Deleted kind.Node) = record { has_body = refl; has_meta = refl }
said v (Deleted kind.Way) = record { has_body = refl; has_meta = refl }
said v (Deleted kind.Relation) = record { has_body = refl; has_meta = refl }
said v (Node lon lat tags) = record { has_body = refl; has_meta = refl }
said v (Way refs tags) = record { has_body = refl; has_meta = refl }
said v (Relation members tags) = record { has_body = refl; has_meta = refl }

object_spelled : (v : VersionData) → AreFieldsWithin v →
    SpellsObject (kind_letter (kind_of v.body) ∷ integer_text v.id) (kind_of v.body) v.id
object_spelled v is = record {
  digits = integer_text v.id;
  lettered = refl;
  spelled =
      id_sound (integer_text v.id) v.id (id_is_read_back v.id (and_parts (is_id v.id) (list_all is_id (ids_of v.body)) is.ids).0);
}

-- the line of data within its ranges spells the version that the data makes
data_spelled : (v w : VersionData) → AreFieldsWithin v → version_or_fault v.id (meta_of_version v) v.body ≡ Ok w → Spells (line v) w
unfolding read_by
data_spelled v w is makes =
    let s = said v v.body in
    record {
      kind = kind_of v.body;
      id = v.id;
      parts = parts_of v;
      line_parts = record {
        utf8 = line_utf8 v is.texts;
        not_skipped = (line_is_in_one_file v).1;
        object = kind_letter (kind_of v.body) ∷ integer_text v.id;
        others = others_of v;
        fields = line_parted v;
        names = object_spelled v is;
        spelled = parts_spelled v is;
        different = distinct no_fields (parts_of v) (all_different v.number (is_deleted v.body) v.changeset v.time v.uid v.user
            (tags_of v.body) v.body);
      };
      version = record { body = v.body; has_body = s.has_body; made = ap (λ m. version_or_fault v.id m v.body) s.has_meta ∙ makes };
    }

-- The canonical line of data within its ranges is read as the version of the data.
pub data_is_read : (v w : VersionData) → AreFieldsWithin v → version_or_fault v.id (meta_of_version v) v.body ≡ Ok w →
    reading_line (line v) ≡ Ok (Some w)
data_is_read v w is makes = spelled_is_read (line v) w (data_spelled v w is makes)

line_spelled : (v : VersionData) → IsVersion v → Spells (line v) v
line_spelled v is = data_spelled v v (version_within v is) (version_made v is)

-- The canonical line of a version spells it and no other.
pub line_spells_its_version : LineSpellsItsVersion
line_spells_its_version v is = let s = line_spelled v is in record { spelled = s; only = λ w t. one_reading (line v) w v t s }

-- The canonical line of a version is read as the version.
pub line_is_read_back : LineIsReadBack
line_is_read_back v is = spelled_is_read (line v) v (line_spelled v is)
