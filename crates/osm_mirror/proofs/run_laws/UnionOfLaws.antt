-- Unions of lists of sets.
use Rattle.std.proofs.Common.{◌≡◌, ◌||◌, List, [], ◌∷◌, ◌++◌, sym, ap, ◌∙◌}
use Rattle.std.proofs.lemmas.List.Folds.{list_any-append}
use Rattle.std.proofs.Math.Bool.{or-false}
use Rattle.osm_model.specs.VersionSet.{VersionSet}
use Rattle.osm_model.specs.Sets.{contains}
use Rattle.osm_mirror.specs.run.Job.{union_of}
use Rattle.osm_mirror.proofs.fleet_laws.MergesLaws.{in_union_of}
use Rattle.osm_files.proofs.SpellLaws.{equal_sets as equal}

-- The union of one set is that set.
pub union_of_one : (s : VersionSet) → union_of (s ∷ []) ≡ s
union_of_one s = equal _ _ (λ v. in_union_of (s ∷ []) v ∙ or-false (contains s v))

-- The union of two lists of sets depends only on the union of each.
pub union_of_front : (sets more others : List VersionSet) → union_of more ≡ union_of others
    → union_of (sets ++ more) ≡ union_of (union_of sets ∷ others)
union_of_front sets more others same = equal _ _ (λ v.
    in_union_of (sets ++ more) v
    ∙ list_any-append (λ s. contains s v) sets more
    ∙ (λ i. sym (in_union_of sets v) i || (sym (in_union_of more v) ∙ ap (λ s. contains s v) same ∙ in_union_of others v) i)
    ∙ sym (in_union_of (union_of sets ∷ others) v))
