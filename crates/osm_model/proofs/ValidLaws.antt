-- Data without a fault makes a version.
use Rattle.std.proofs.Common.{rules, ◌≡◌, ℕ, ◌<◌, ◌^◌, Bool, true, false, not, eqb, ◌&&◌, ◌∙◌, List, [], ◌∷◌, refl, sym, ap, arith, Option}
use Rattle.std.proofs.Common.{Some, None, ℤ}
use Rattle.std.proofs.lemmas.Bool.Decides.{nat_tests}
use Rattle.std.proofs.lemmas.List.Folds.{list_all-append}
use Rattle.std.specs.Cmp.{first_so, second_so}
use Rattle.std.specs.Option.{ForSome}
use Rattle.std.specs.List.{list_all}
use Rattle.std.specs.List.Sorted.{IsStrictlySortedBy}
use Rattle.osm_model.specs.declared.fault.ValueFault.TheVariants.{IdRange, NoVersion, NumberRange, TimeRange, ZeroInText, NoTime}
use Rattle.osm_model.specs.declared.meta.Meta.{Meta}
use Rattle.osm_model.specs.declared.body.Body.{Body}
use Rattle.osm_model.specs.declared.body.Body.TheVariants as body
use Rattle.osm_model.specs.Id.{is_id}
use Rattle.osm_model.specs.Text.{is_empty, is_text}
use Rattle.osm_model.specs.Tags.{tag_cmp, texts_of_tags}
use Rattle.osm_model.specs.Members.{roles_of}
use Rattle.osm_model.specs.declared.kind.Kind.{Kind}
use Rattle.osm_model.specs.Data.{VersionData, normal_body, version_of, ids_of, texts_of, tags_of}
use Rattle.osm_model.specs.New.{first_fault, first_of_tests, is_number, is_time, is_dated}
use Rattle.osm_model.specs.Valid.{IsInRange, IsVersion}
use Rattle.osm_model.proofs.SetLaws.{strict-listed}
use Rattle.osm_model.proofs.TagLaws.{list_all-normal}

record Passed (a b c d e f : Bool) : Type 0 where
  ids : a ≡ true
  number : b ≡ false
  numbers : c ≡ true
  time : d ≡ true
  dated : e ≡ true
  texts : f ≡ true

passed : (a b c d e f : Bool) → first_of_tests ((not a, IdRange) ∷ (b, NoVersion) ∷ (not c, NumberRange) ∷ (not d, TimeRange)
    ∷ (not e, NoTime) ∷ (not f, ZeroInText) ∷ []) ≡ None → Passed a b c d e f
passed false b c d e f h = cc
passed true true c d e f h = cc
passed true false false d e f h = cc
passed true false true false e f h = cc
passed true false true true false f h = cc
passed true false true true true false h = cc
passed true false true true true true h = record { ids = refl; number = refl; numbers = refl; time = refl; dated = refl; texts = refl }

same_ids : (b : Body) → ids_of (normal_body b) ≡ ids_of b
same_ids (body.Deleted k) = refl
same_ids (body.Node lon lat tags) = refl
same_ids (body.Way refs tags) = refl
same_ids (body.Relation members tags) = refl

same_texts : (p : List ℕ → Bool) (b : Body) → list_all p (texts_of (normal_body b)) ≡ list_all p (texts_of b)
same_texts p (body.Deleted k) = refl
same_texts p (body.Node lon lat tags) = list_all-normal p tags
same_texts p (body.Way refs tags) = list_all-normal p tags
same_texts p (body.Relation members tags) =
    list_all-append p (roles_of members) _ ∙ ap (λ b. list_all p (roles_of members) && b) (list_all-normal p tags)
    ∙ sym (list_all-append p (roles_of members) (texts_of_tags tags))

sorted_tags : (b : Body) → IsStrictlySortedBy tag_cmp (tags_of (normal_body b))
unfolding IsStrictlySortedBy
sorted_tags (body.Deleted k) = tt
sorted_tags (body.Node lon lat tags) = strict-listed _
sorted_tags (body.Way refs tags) = strict-listed _
sorted_tags (body.Relation members tags) = strict-listed _

number_range : (n : ℕ) → is_number n ≡ true → n < 2 ^ 32
number_range n h = grind (arith, nat_tests)

above_zero : (n : ℕ) → eqb n 0 ≡ false → 0 < n
above_zero n h = grind (arith, nat_tests)

time_range : (time : Option ℕ) → is_time time ≡ true → ForSome time (λ t. (0 < t) × (t < 2 ^ 32))
time_range None h = grind (arith, nat_tests)
time_range (Some t) h = grind (arith, nat_tests)

zero_is : (n : ℕ) → eqb n 0 ≡ true → n ≡ 0
zero_is n h = grind (arith, nat_tests)

empty_is : (cs : List ℕ) → is_empty cs ≡ true → cs ≡ []
empty_is [] h = refl
empty_is (c ∷ cs) h = cc

no_author : (meta : Meta) → is_dated meta ≡ true → meta.time ≡ None → (meta.changeset ≡ 0) × (meta.uid ≡ 0) × (meta.user ≡ [])
no_author meta h none =
    let author : (eqb meta.changeset 0 && (eqb meta.uid 0 && is_empty meta.user)) ≡ true = rw none at h in
    let rest = second_so _ _ author in
    (zero_is _ (first_so _ _ author), zero_is _ (first_so _ _ rest), empty_is _ (second_so _ _ rest))

-- Data without a fault, whose location is in range, makes a version.
pub valid_version : (id : ℤ) (meta : Meta) (b : Body) → first_fault id meta b ≡ None → IsInRange (normal_body b) →
    IsVersion (version_of id meta b)
valid_version id meta b h location =
    let p = passed _ _ _ _ _ _ h in
    let more = second_so (is_number meta.version) _ p.numbers in
    let last = second_so (is_number meta.changeset) _ more in
    record {
      ids = ap (λ ids. list_all is_id (id ∷ ids)) (same_ids b) ∙ p.ids;
      number_above = above_zero _ p.number;
      number_below = number_range _ (first_so _ _ p.numbers);
      changeset = number_range _ (first_so _ _ more);
      uid = number_range _ (first_so _ _ last);
      time = time_range _ p.time;
      author = no_author meta p.dated;
      texts = ap (λ b. is_text meta.user && b) (same_texts is_text b) ∙ p.texts;
      location = location;
      tags = sorted_tags b;
    }

-- a version remains one if its body is replaced by that of a deleted object
pub without_body : (v : VersionData) (k : Kind) → IsVersion v → IsVersion (record v { body = body.Deleted k })
without_body v k h =
    record {
      ids = ap (λ b. b && true) (first_so (is_id v.id) _ h.ids);
      number_above = h.number_above;
      number_below = h.number_below;
      changeset = h.changeset;
      uid = h.uid;
      time = h.time;
      author = h.author;
      texts = ap (λ b. b && true) (first_so (is_text v.user) _ h.texts);
      location = search rules;
      tags = sorted_tags (body.Deleted k);
    }
