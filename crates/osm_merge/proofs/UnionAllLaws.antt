-- The union of any number of sets.
use Rattle.std.proofs.Common.{◌≡◌, Bool, true, ◌||◌, List, [], ◌∷◌, map, refl, sym, ap, ◌∙◌}
use Rattle.std.specs.Cmp.{both_ways}
use Rattle.std.specs.List.{list_any, flat_map, Any, Contains}
use Rattle.std.proofs.lemmas.List.Folds.{list_any-append, Any-from_list_any, list_any-from_Any}
use Rattle.std.proofs.lemmas.Bool.{false≢true}
use Rattle.std.proofs.lemmas.List.Elements.{All-head, All-tail}
use Rattle.osm_model.specs.Data.{VersionData}
use Rattle.osm_model.specs.Order.{version_cmp_total}
use Rattle.osm_model.specs.VersionSet.{VersionSet}
use Rattle.osm_model.specs.Sets.{empty, contains}
use Rattle.osm_model.proofs.SetLaws.{contains-union, contains-from_list}
use Rattle.osm_files.specs.SpellLaws.{AreVersions}
use Rattle.osm_files.proofs.SpellLaws.{are_versions, unions_are_versions}
use Rattle.osm_merge.specs.Members.{union_all}
use Rattle.osm_merge.specs.Laws.{UnionOfTheSame, UnionOfGroups, UnionWithEmpty, UnionStaysInRange}
use Rattle.osm_files.proofs.SpellLaws.{equal_sets as equal}

-- whether one of some sets has a version
abbrev pub some_has : List VersionSet → VersionData → Bool
some_has sets v = list_any (λ s. contains s v) sets

-- A union of several sets contains a version exactly if one of the sets does.
pub in_union_all : (sets : List VersionSet) (v : VersionData) → contains (union_all sets) v ≡ some_has sets v
in_union_all [] v = contains-from_list version_cmp_total [] v
in_union_all (s ∷ sets) v = contains-union version_cmp_total s (union_all sets) v ∙ ap (λ b. contains s v || b) (in_union_all sets v)

has_more : (sets others : List VersionSet) (v : VersionData) → ((s : VersionSet) → Contains sets s → Contains others s) →
    some_has sets v ≡ true → some_has others v ≡ true
has_more sets others v more e =
    let a : Any (λ s. contains s v ≡ true) sets = Any-from_list_any (λ s. contains s v) sets e in
    let there : Contains others (a.1) = more (a.1) (a.0, a.2, a.3) in
    list_any-from_Any (λ s. contains s v) others (there.0, a.1, there.1, there.2, a.4)

-- Unions of the same sets are equal, in any order and with repeats.
pub union_of_the_same : UnionOfTheSame
union_of_the_same sets others same =
    equal _ _ (λ v. in_union_all sets v
    ∙ both_ways _ _ (has_more sets others v (λ s. (same s).0)) (has_more others sets v (λ s. (same s).1))
    ∙ sym (in_union_all others v))

in_groups : (groups : List (List VersionSet)) (v : VersionData) → some_has (map union_all groups) v ≡ some_has (flat_map (λ g. g) groups) v
in_groups [] v = refl
in_groups (g ∷ groups) v = (λ i. in_union_all g v i || in_groups groups v i)
    ∙ sym (list_any-append (λ s. contains s v) g (flat_map (λ g. g) groups))

-- A union of unions is the union of all.
pub union_of_groups : UnionOfGroups
union_of_groups groups =
    equal _ _ (λ v. in_union_all (map union_all groups) v ∙ in_groups groups v ∙ sym (in_union_all (flat_map (λ g. g) groups) v))

-- An empty set changes no union.
pub union_with_empty : UnionWithEmpty
union_with_empty s = equal _ _ (λ v. contains-union version_cmp_total empty s v
    ∙ ap (λ b. b || contains s v) (contains-from_list version_cmp_total [] v))

-- A union of sets of versions is a set of versions.
pub union_stays_in_range : UnionStaysInRange
union_stays_in_range [] h = are_versions empty (λ v e. absurd (false≢true (sym (contains-from_list version_cmp_total [] v) ∙ e)))
union_stays_in_range (s ∷ sets) h = unions_are_versions s (union_all sets) (All-head AreVersions s sets h)
    (union_stays_in_range sets (All-tail AreVersions s sets h))
