-- The parts of a line of the usual form (own definitions of this project, for the reader that reads such a line from
-- left to right).
use Rattle.std.specs.Prelude.{◌≡◌, ℕ, ℤ, Bool, true, List, ◌∷◌, ◌++◌, codes, encode_utf8_all, if◌then◌else◌}
use Rattle.std.specs.List.{list_all}
use Rattle.osm_model.specs.declared.kind.Kind.{Kind}
use Rattle.osm_model.specs.declared.meta.Meta.{Meta}
use Rattle.osm_model.specs.declared.body.Body.{Body}
use Rattle.osm_model.specs.Kind.{kind_letter}
use Rattle.osm_model.specs.Id.{is_id}
use Rattle.osm_model.specs.Text.{is_text}
use Rattle.osm_model.specs.New.{is_number}
use Rattle.opl_line.specs.AuthorFields.{author_text, IsAuthorInRange}
use Rattle.osm_model.specs.Decimal.{number_text, integer_text}
use Rattle.osm_model.specs.Escape.{is_raw, escape}
use Rattle.osm_model.specs.Joined.{join_with}
use Rattle.osm_model.specs.Data.{kind_of, is_deleted, tags_of, ids_of, texts_of}
use Rattle.osm_model.specs.Line.{list_text, tag_text, kind_fields}

-- raw characters, in UTF-8
pub record AreRaw (bytes : List ℕ) : Type 0 where
  pub characters : List ℕ
  pub spelled : bytes ≡ encode_utf8_all characters
  pub raw : list_all is_raw characters ≡ true

-- `bytes` begins with the escapes of characters, whose UTF-8 is `utf8`, and ends with `rest`
pub record IsRun (bytes utf8 rest : List ℕ) : Type 0 where
  pub characters : List ℕ
  pub spelled : bytes ≡ escape characters ++ rest
  pub encoded : utf8 ≡ encode_utf8_all characters
  pub valid : is_text characters ≡ true

-- `bytes` begins with the escapes of characters, which are appended to the text `old`, and ends with `rest`
pub record AreAppended (bytes old now rest : List ℕ) : Type 0 where
  pub characters : List ℕ
  pub spelled : bytes ≡ escape characters ++ rest
  pub appended : now ≡ old ++ characters
  pub valid : is_text characters ≡ true

-- V for visible, D for deleted
abbrev pub deleted_text : Bool → List ℕ
deleted_text deleted = if deleted then codes "D" else codes "V"

-- the fields up to the user name
abbrev pub head_text : Kind → ℤ → Bool → Meta → List ℕ
head_text kind id deleted meta =
    kind_letter kind
    ∷ (integer_text id ++ (codes " v" ++ (number_text meta.version
    ++ (codes " d" ++ (deleted_text deleted ++ author_text meta)))))

-- the fields from the tags on
abbrev pub tail_text : Body → List ℕ
tail_text b = codes " T" ++ (list_text tag_text (tags_of b) ++ 32 ∷ join_with 32 (kind_fields b))

-- `text` begins with the fields from the changeset to the user name, which are within their ranges, and ends with
-- `rest`
pub record IsAuthored (text : List ℕ) (version : ℕ) (meta : Meta) (rest : List ℕ) : Type 0 where
  pub spelled : text ≡ author_text meta ++ rest
  pub number : meta.version ≡ version
  pub range : IsAuthorInRange meta

-- `text` begins with the fields before the tags, which are within their ranges, and ends with `rest`
pub record IsHead (text : List ℕ) (kind : Kind) (id : ℤ) (deleted : Bool) (meta : Meta) (rest : List ℕ) : Type 0 where
  pub spelled : text ≡ head_text kind id deleted meta ++ rest
  pub object : is_id id ≡ true
  pub number : is_number meta.version ≡ true
  pub shared_author : IsAuthorInRange meta

-- `text` is the fields from the tags on, which are within their ranges
pub record IsTail (text : List ℕ) (kind : Kind) (deleted : Bool) (b : Body) : Type 0 where
  pub spelled : text ≡ tail_text b
  pub same_kind : kind_of b ≡ kind
  pub same_deleted : is_deleted b ≡ deleted
  pub ids : list_all is_id (ids_of b) ≡ true
  pub texts : list_all is_text (texts_of b) ≡ true
