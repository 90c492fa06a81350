-- The fields of a line are within the ranges of versions (own rules of this project).
use Rattle.std.specs.Prelude.{◌≡◌, true, [], None, unwrap_or}
use Rattle.std.specs.List.{list_all}
use Rattle.osm_model.specs.Id.{is_id}
use Rattle.osm_model.specs.Text.{is_text}
use Rattle.osm_model.specs.Tags.{texts_of_tags}
use Rattle.osm_model.specs.Members.{ids_of_members, roles_of}
use Rattle.osm_model.specs.New.{is_number, is_time}
use Rattle.opl_line.specs.declared.general.field.Fields.{Fields}

pub record AreWithin (fields : Fields) : Type 0 where
  pub number : is_number (unwrap_or fields.number 0) ≡ true
  pub changeset : is_number (unwrap_or fields.changeset 0) ≡ true
  pub time : is_time (unwrap_or fields.time None) ≡ true
  pub uid : is_number (unwrap_or fields.uid 0) ≡ true
  pub user : is_text (unwrap_or fields.user []) ≡ true
  pub tags : list_all is_text (texts_of_tags (unwrap_or fields.tags [])) ≡ true
  pub references : list_all is_id (unwrap_or fields.references []) ≡ true
  pub members : list_all is_id (ids_of_members (unwrap_or fields.members [])) ≡ true
  pub roles : list_all is_text (roles_of (unwrap_or fields.members [])) ≡ true
