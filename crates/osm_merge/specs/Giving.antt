-- The lists of rests that some sources can give, one rest for each source.
use Rattle.std.specs.Prelude.{List, [], ◌∷◌, map, Option, Some}
use Rattle.osm_model.specs.Data.{VersionData}
use Rattle.osm_merge.specs.ToCome.{VersionsToCome, AllAscend, AreHeadsOf}

-- each source can give its rest
abbrev pub AllGive : {S C : Type 0} → (S → C → Type 0) → List S → List C → Type 0
AllGive can [] [] = Unit {0}
AllGive can [] (c ∷ all) = ⊥
AllGive can (s ∷ sources) [] = ⊥
AllGive can (s ∷ sources) (c ∷ all) = can s c × AllGive can sources all

-- some list of rests that the sources can give has a property
abbrev pub SomeInputsGive : {S C : Type 0} → (S → C → Type 0) → List S → (List C → Type 0) → Type 0
SomeInputsGive {C = C} can sources P = (all : List C) × AllGive can sources all × P all

-- for some list of rests that the sources can give after their heads, each list of rests that includes the heads has a
-- property
abbrev pub SomePendingGive : {S : Type 0} → (S → VersionsToCome → Type 0) → List S → List (Option VersionData) →
    (List VersionsToCome → Type 0) → Type 0
SomePendingGive can sources heads P = SomeInputsGive can sources
    (λ rest. (all : List VersionsToCome) → AllAscend all → AreHeadsOf all heads (map Some rest) → P all)
