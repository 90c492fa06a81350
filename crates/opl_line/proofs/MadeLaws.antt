-- Data within its ranges makes a version, and a version is made of its data.
use Rattle.std.proofs.Common.{◌≡◌, ℕ, ℤ, ◌^◌, ◌<◌, true, false, not, eqb, ◌&&◌, List, [], ◌∷◌, Option, Some, None, Ok, refl, ap, ◌∙◌, arith}
use Rattle.std.proofs.lemmas.Bool.{lt-ltb}
use Rattle.std.proofs.lemmas.Bool.Decides.{nat_tests}
use Rattle.std.specs.List.{list_all}
use Rattle.std.specs.Option.{ForSome}
use Rattle.osm_model.specs.declared.meta.Meta.{Meta}
use Rattle.osm_model.specs.declared.body.Body.{Body}
use Rattle.osm_model.specs.declared.fault.ValueFault.TheVariants as fault
use Rattle.osm_model.specs.Id.{is_id}
use Rattle.osm_model.specs.Text.{is_empty, is_text}
use Rattle.osm_model.specs.Data.{VersionData, ids_of, texts_of, version_of}
use Rattle.osm_model.specs.New.{is_number, is_time, is_dated, first_of_tests, first_fault, unless_faulty, version_or_fault}
use Rattle.osm_model.specs.Valid.{IsVersion}
use Rattle.osm_model.proofs.TagLaws.{body_again}

-- data that passes each test
pub record Passes (id : ℤ) (meta : Meta) (b : Body) : Type 0 where
  pub ids : list_all is_id (id ∷ ids_of b) ≡ true
  pub number : eqb meta.version 0 ≡ false
  pub numbers : list_all is_number (meta.version ∷ meta.changeset ∷ meta.uid ∷ []) ≡ true
  pub time : is_time meta.time ≡ true
  pub dated : is_dated meta ≡ true
  pub texts : list_all is_text (meta.user ∷ texts_of b) ≡ true

-- Data within its ranges has no fault.
pub without_fault : (id : ℤ) (meta : Meta) (b : Body) → Passes id meta b → first_fault id meta b ≡ None
without_fault id meta b p =
    λ i. first_of_tests (
    (not (p.ids i), fault.IdRange) ∷ (p.number i, fault.NoVersion) ∷ (not (p.numbers i), fault.NumberRange)
    ∷ (not (p.time i), fault.TimeRange) ∷ (not (p.dated i), fault.NoTime) ∷ (not (p.texts i), fault.ZeroInText) ∷ []
    )

-- Data within its ranges makes a version.
pub made : (id : ℤ) (meta : Meta) (b : Body) → Passes id meta b → version_or_fault id meta b ≡ Ok (version_of id meta b)
made id meta b p = ap (λ f. unless_faulty f (version_of id meta b)) (without_fault id meta b p)

-- the metadata of a version
abbrev pub meta_of_version : VersionData → Meta
meta_of_version v = record { version = v.number; time = v.time; changeset = v.changeset; uid = v.uid; user = v.user }

some_number : (n : ℕ) → 0 < n → eqb n 0 ≡ false
some_number n h = grind (arith, nat_tests)

-- A time from 1 to 2^32 - 1, or none, is within the range of times.
pub valid_time : (time : Option ℕ) → ForSome time (λ t. (0 < t) × (t < 2 ^ 32)) → is_time time ≡ true
valid_time None h = refl
valid_time (Some t) h = let range = h t refl in λ i. lt-ltb 0 t range.0 i && lt-ltb t (2 ^ 32) range.1 i

valid_author : (time : Option ℕ) (changeset uid : ℕ) (user : List ℕ) (number : ℕ) →
    (time ≡ None → (changeset ≡ 0) × (uid ≡ 0) × (user ≡ [])) →
    is_dated (record { version = number; time = time; changeset = changeset; uid = uid; user = user }) ≡ true
valid_author None changeset uid user number h = let none = h refl in λ i. eqb (none.0 i) 0 && (eqb (none.1 i) 0 && is_empty (none.2 i))
valid_author (Some t) changeset uid user number h = refl

-- The data of a version makes that version.
pub version_made : (v : VersionData) → IsVersion v → version_or_fault v.id (meta_of_version v) v.body ≡ Ok v
version_made v is =
    made v.id (meta_of_version v) v.body (record {
      ids = is.ids;
      number = some_number v.number is.number_above;
      numbers = (λ i. lt-ltb v.number (2 ^ 32) is.number_below i
          && (lt-ltb v.changeset (2 ^ 32) is.changeset i && (lt-ltb v.uid (2 ^ 32) is.uid i && true)));
      time = valid_time v.time is.time;
      dated = valid_author v.time v.changeset v.uid v.user v.number is.author;
      texts = is.texts;
    })
    ∙ (λ i. Ok (record v { body = body_again v.body is.tags i }))
