-- The parts of a canonical line that `Version::append_line` appends at once (own definitions of this project).
use Rattle.std.specs.Prelude.{ℕ, ℤ, List, ◌∷◌, ◌++◌, codes}
use Rattle.osm_model.specs.Kind.{kind_letter}
use Rattle.osm_model.specs.Decimal.{number_text, integer_text}
use Rattle.osm_model.specs.Coordinate.{coordinate_text}
use Rattle.osm_model.specs.Time.{time_text}
use Rattle.osm_model.specs.Data.{VersionData, kind_of}
use Rattle.osm_model.specs.Line.{visible_text}

-- the fields before the user name, and the mark of the user name
abbrev pub head_text : VersionData → List ℕ
head_text v =
    kind_letter (kind_of v.body)
    ∷ (integer_text v.id
    ++ (codes " v" ++ (number_text v.number
    ++ (codes " d" ++ (visible_text v.body
    ++ (codes " c" ++ (number_text v.changeset
    ++ (codes " t" ++ (time_text v.time
    ++ (codes " i" ++ (number_text v.uid ++ codes " u")))))))))))

-- the fields of a location
abbrev pub location_text : ℤ → ℤ → List ℕ
location_text lon lat = codes " x" ++ (coordinate_text lon ++ (codes " y" ++ coordinate_text lat))
