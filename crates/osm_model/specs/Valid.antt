-- The properties of each version (own rules of this project).
use Rattle.std.specs.Prelude.{◌≡◌, ◌<◌, ◌^◌, [], ◌∷◌, true, None, FitsSigned, ⊤}
use Rattle.std.specs.Int.{w32}
use Rattle.std.specs.Option.{ForSome}
use Rattle.std.specs.List.{list_all}
use Rattle.std.specs.List.Sorted.{IsStrictlySortedBy}
use Rattle.osm_model.specs.declared.body.Body.{Body}
use Rattle.osm_model.specs.declared.body.Body.TheVariants.{Deleted, Node, Way, Relation}
use Rattle.osm_model.specs.Data.{VersionData, ids_of, texts_of, tags_of}
use Rattle.osm_model.specs.Id.{is_id}
use Rattle.osm_model.specs.Text.{is_text}
use Rattle.osm_model.specs.Tags.{tag_cmp}

-- longitude and latitude are numbers of 32 bits
abbrev pub IsInRange : Body → Type 0
IsInRange (Deleted k) = ⊤
IsInRange (Node lon lat tags) = FitsSigned w32 lon × FitsSigned w32 lat
IsInRange (Way refs tags) = ⊤
IsInRange (Relation members tags) = ⊤

-- the data is within its ranges, and the tags ascend without exact repeats
pub record IsVersion (v : VersionData) : Type 0 where
  pub ids : list_all is_id (v.id ∷ ids_of v.body) ≡ true
  pub number_above : 0 < v.number
  pub number_below : v.number < 2 ^ 32
  pub changeset : v.changeset < 2 ^ 32
  pub uid : v.uid < 2 ^ 32
  pub time : ForSome v.time (λ t. (0 < t) × (t < 2 ^ 32))
  pub author : v.time ≡ None → (v.changeset ≡ 0) × (v.uid ≡ 0) × (v.user ≡ [])
  pub texts : list_all is_text (v.user ∷ texts_of v.body) ≡ true
  pub location : IsInRange v.body
  pub tags : IsStrictlySortedBy tag_cmp (tags_of v.body)
