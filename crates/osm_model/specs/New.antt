-- The data that makes a version, and the faults of other data (own rules of this project).
use Rattle.std.specs.Prelude.{◌≡◌, ◌≤◌, ℕ, ℤ, ◌^◌, Bool, true, not, ◌&&◌, ◌||◌, nat_lt, List, [], ◌∷◌, Option, Some}
use Rattle.std.specs.Prelude.{None, is_some, Result, Ok, Err, ◌==◌, if◌then◌else◌, length, encode_utf8_all}
use Rattle.std.specs.List.{list_all}
use Rattle.osm_model.specs.declared.body.Body.{Body}
use Rattle.osm_model.specs.declared.meta.Meta.{Meta}
use Rattle.osm_model.specs.declared.fault.ValueFault.{ValueFault}
use Rattle.osm_model.specs.declared.fault.ValueFault.TheVariants.{IdRange, NoVersion, NumberRange, TimeRange}
use Rattle.osm_model.specs.declared.fault.ValueFault.TheVariants.{ZeroInText, NoTime}
use Rattle.osm_model.specs.Data.{VersionData, version_of, ids_of, texts_of}
use Rattle.osm_model.specs.Id.{is_id}
use Rattle.osm_model.specs.Text.{is_empty, is_text}

-- version numbers, changesets and user ids are below 2^32
abbrev pub is_number : ℕ → Bool
is_number n = nat_lt n (2 ^ 32)

-- no time, or one from 1 to 2^32 - 1
abbrev pub is_time : Option ℕ → Bool
is_time None = true
is_time (Some t) = nat_lt 0 t && is_number t

-- without a time there is no author
abbrev pub is_dated : Meta → Bool
is_dated meta = is_some meta.time || (meta.changeset == 0 && (meta.uid == 0 && is_empty meta.user))

-- the faults in their order, each with its test
abbrev pub tests : ℤ → Meta → Body → List (Bool × ValueFault)
tests id meta body =
    (not (list_all is_id (id ∷ ids_of body)), IdRange)
    ∷ (meta.version == 0, NoVersion)
    ∷ (not (list_all is_number (meta.version ∷ meta.changeset ∷ meta.uid ∷ [])), NumberRange)
    ∷ (not (is_time meta.time), TimeRange)
    ∷ (not (is_dated meta), NoTime)
    ∷ (not (list_all is_text (meta.user ∷ texts_of body)), ZeroInText)
    ∷ []

-- the fault of the first test that applies
abbrev pub first_of_tests : List (Bool × ValueFault) → Option ValueFault
first_of_tests [] = None
first_of_tests (t ∷ ts) = if t.0 then Some t.1 else first_of_tests ts

abbrev pub first_fault : ℤ → Meta → Body → Option ValueFault
first_fault id meta body = first_of_tests (tests id meta body)

abbrev pub unless_faulty : Option ValueFault → VersionData → Result VersionData ValueFault
unless_faulty None v = Ok v
unless_faulty (Some fault) v = Err fault

-- The result of `Version::new`: the version of the data, or the first fault.
abbrev pub version_or_fault : ℤ → Meta → Body → Result VersionData ValueFault
version_or_fault id meta body = unless_faulty (first_fault id meta body) (version_of id meta body)

-- parts that a reader fills: the body has no ids and no texts, and the user name has at most 24 bytes
abbrev pub IsToFill : Meta → Body → Type 0
IsToFill meta body = (ids_of body ≡ []) × (texts_of body ≡ []) × (length (encode_utf8_all meta.user) ≤ 24)
