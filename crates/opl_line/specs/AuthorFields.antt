-- The fields of a canonical line that versions share that were uploaded together (own definitions of this project).
use Rattle.std.specs.Prelude.{◌≡◌, ℕ, true, List, ◌++◌, codes}
use Rattle.osm_model.specs.declared.meta.Meta.{Meta}
use Rattle.osm_model.specs.Text.{is_text}
use Rattle.osm_model.specs.New.{is_number, is_time}
use Rattle.osm_model.specs.Decimal.{number_text}
use Rattle.osm_model.specs.Time.{time_text}
use Rattle.osm_model.specs.Escape.{escape}

-- the fields from the changeset to the user name
abbrev pub author_text : Meta → List ℕ
author_text meta =
    codes " c" ++ (number_text meta.changeset
    ++ (codes " t" ++ (time_text meta.time
    ++ (codes " i" ++ (number_text meta.uid ++ (codes " u" ++ escape meta.user))))))

-- changeset, time, user id and user name are within their ranges
pub record IsAuthorInRange (meta : Meta) : Type 0 where
  pub changeset : is_number meta.changeset ≡ true
  pub time : is_time meta.time ≡ true
  pub uid : is_number meta.uid ≡ true
  pub user : is_text meta.user ≡ true

-- the fields of metadata within its ranges
pub record AreFieldsOf (meta : Meta) (fields : List ℕ) : Type 0 where
  pub spelled : fields ≡ author_text meta
  pub range : IsAuthorInRange meta
