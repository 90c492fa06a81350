-- Merges of the same files write the same bytes.
use Rattle.std.proofs.Common.{◌≡◌, ◌⊎◌, inl, inr, ℕ, zero, suc, ◌<◌, true, ◌||◌, List, [], ◌∷◌, ◌++◌, length, get_or, fold}
use Rattle.std.proofs.Common.{refl, sym, ap, ◌∙◌, subst, arith}
use Rattle.std.specs.Cmp.{both_ways}
use Rattle.std.specs.List.{All, Contains}
use Rattle.std.proofs.lemmas.Bool.{false≢true, or_cases, or_right, or_left}
use Rattle.std.proofs.lemmas.List.Elements.{All-nil, All-cons, All-head, All-tail, Contains-append_left, Contains-append_right}
use Rattle.std.proofs.lemmas.List.Elements.{Contains-append_cases}
use Rattle.std.proofs.Math.Bool.{or-false, or_assoc}
use Rattle.osm_model.specs.Data.{VersionData}
use Rattle.osm_model.specs.Order.{version_cmp_total}
use Rattle.osm_model.specs.VersionSet.{VersionSet}
use Rattle.osm_model.specs.Sets.{union, empty, contains}
use Rattle.osm_model.proofs.SetLaws.{same_set, contains-union, contains-from_list}
use Rattle.osm_model.proofs.VersionLaws.{version_cmp-IsAntisymmetric}
use Rattle.osm_files.specs.declared.format.Format.{Format}
use Rattle.osm_files.specs.Held.{Holds, HoldsSorted}
use Rattle.osm_files.specs.Spell.{spell}
use Rattle.osm_files.specs.SpellLaws.{AreVersions}
use Rattle.osm_files.proofs.SpellLaws.{held_are_versions, held_is_one_set, spelled_is_held, are_versions, unions_are_versions}
use Rattle.osm_merge.proofs.UnionAllLaws.{some_has}
use Rattle.osm_mirror.specs.run.Job.{union_of}
use Rattle.osm_mirror.specs.fleet.Merges.{Inputs, none, file, merged, files_of, Hold, MergesOfTheSameFiles}

-- ---- the members of the union of the sets
in_fold : (before : VersionSet) (sets : List VersionSet) (v : VersionData) →
    contains (fold union before sets) v ≡ (contains before v || some_has sets v)
in_fold before [] v = sym (or-false (contains before v))
in_fold before (s ∷ sets) v =
    in_fold (union before s) sets v
    ∙ ap (λ b. b || some_has sets v) (contains-union version_cmp_total before s v)
    ∙ or_assoc (contains before v) (contains s v) (some_has sets v)

-- A union of several sets contains a version exactly if one of them does.
pub in_union_of : (sets : List VersionSet) (v : VersionData) → contains (union_of sets) v ≡ some_has sets v
in_union_of sets v = in_fold empty sets v ∙ ap (λ b. b || some_has sets v) (contains-from_list version_cmp_total [] v)

fold_in_range : (before : VersionSet) (sets : List VersionSet) → AreVersions before → All AreVersions sets →
    AreVersions (fold union before sets)
fold_in_range before [] valid all = valid
fold_in_range before (s ∷ sets) valid all = fold_in_range (union before s) sets
    (unions_are_versions before s valid (All-head AreVersions s sets all)) (All-tail AreVersions s sets all)

-- ---- the sets of inputs are those of their files
pub as_held : (bytes : List ℕ) (set : VersionSet) → HoldsSorted bytes set → Holds bytes set
as_held bytes set h = record { short = h.short; versions = h.versions; file = h.file; members = h.members }

held_in_range : (inputs : Inputs) (held : List VersionSet) → Hold inputs held → All AreVersions held
held_in_range none [] h = All-nil AreVersions
held_in_range none (s ∷ held) h = absurd h
held_in_range (file bytes others) [] h = absurd h
held_in_range (file bytes others) (s ∷ held) h = All-cons AreVersions s held (held_are_versions bytes s (as_held bytes s h.0))
    (held_in_range others held h.1)
held_in_range (merged format inputs others) [] h = absurd h
held_in_range (merged format inputs others) (s ∷ held) h =
    let bytes : List ℕ = spell format (union_of h.0.0) in
    All-cons AreVersions s held (held_are_versions bytes s (as_held bytes s h.0.2)) (held_in_range others held h.1)

-- the output of a merge holds the union of its inputs' sets
written_holds : (format : Format) (inputs : Inputs) (below : List VersionSet) (set : VersionSet) → Hold inputs below →
    HoldsSorted (spell format (union_of below)) set → set ≡ union_of below
written_holds format inputs below set h g =
    spelled_is_held format (union_of below) set (fold_in_range empty below
    (are_versions empty (λ v e. absurd (false≢true (sym (contains-from_list version_cmp_total [] v) ∙ e))))
    (held_in_range inputs below h)) (as_held (spell format (union_of below)) set g)

-- one of some files holds a version
record Brings (files : List (List ℕ)) (v : VersionData) : Type 0 where
  bytes : List ℕ
  set : VersionSet
  among : Contains files bytes
  held : HoldsSorted bytes set
  has : contains set v ≡ true

brings_more : (files others : List (List ℕ)) (v : VersionData) → ((bytes : List ℕ) → Contains files bytes → Contains others bytes) →
    Brings files v → Brings others v
brings_more files others v more b = record { bytes = b.bytes; set = b.set; among = more b.bytes b.among; held = b.held; has = b.has }

brought : (inputs : Inputs) (held : List VersionSet) → Hold inputs held → (v : VersionData) → some_has held v ≡ true →
    Brings (files_of inputs) v
brought none [] h v e = absurd (false≢true e)
brought none (s ∷ held) h v e = absurd h
brought (file bytes others) [] h v e = absurd h
brought (file bytes others) (s ∷ held) h v e =
    elim (or_cases (contains s v) (some_has held v) e) [
      | inl has ↦ record { bytes = bytes; set = s; among = (0, omega arith, refl); held = h.0; has = has }
      | inr more ↦ brings_more (files_of others) (bytes ∷ files_of others) v (Contains-append_right (bytes ∷ []) (files_of others))
          (brought others held h.1 v more)
    ]
brought (merged format inputs others) [] h v e = absurd h
brought (merged format inputs others) (s ∷ held) h v e =
    elim (or_cases (contains s v) (some_has held v) e) [
      | inl has ↦ brings_more (files_of inputs) (files_of inputs ++ files_of others) v
          (Contains-append_left (files_of inputs) (files_of others))
          (brought inputs h.0.0 h.0.1 v (sym (in_union_of h.0.0 v)
          ∙ ap (λ t. contains t v) (sym (written_holds format inputs h.0.0 s h.0.1 h.0.2)) ∙ has))
      | inr more ↦ brings_more (files_of others) (files_of inputs ++ files_of others) v
          (Contains-append_right (files_of inputs) (files_of others)) (brought others held h.1 v more)
    ]

first_or : {X : Type 0} (x y : X) (xs : List X) (k : ℕ) → k < length (x ∷ xs) → get_or (x ∷ xs) k y ≡ y → (x ≡ y) ⊎ Contains xs y
first_or x y xs zero l e = inl e
first_or x y xs (suc k) l e = inr (k, omega arith, e)

kept : (inputs : Inputs) (held : List VersionSet) → Hold inputs held → (v : VersionData) → Brings (files_of inputs) v →
    some_has held v ≡ true
kept none [] h v b = absurd (omega (arith, b.among.1))
kept none (s ∷ held) h v b = absurd h
kept (file bytes others) [] h v b = absurd h
kept (file bytes others) (s ∷ held) h v b =
    elim (first_or bytes b.bytes (files_of others) b.among.0 b.among.1 b.among.2) [
      | inl is ↦ or_left (contains s v) (some_has held v)
          (ap (λ t. contains t v) (held_is_one_set b.bytes s b.set (subst (λ x. Holds x s) is (as_held bytes s h.0))
          (as_held b.bytes b.set b.held)) ∙ b.has)
      | inr more ↦ or_right (contains s v) (some_has held v)
          (kept others held h.1 v (record { bytes = b.bytes; set = b.set; among = more; held = b.held; has = b.has }))
    ]
kept (merged format inputs others) [] h v b = absurd h
kept (merged format inputs others) (s ∷ held) h v b =
    elim (Contains-append_cases (files_of inputs) (files_of others) b.bytes b.among) [
      | inl below ↦ or_left (contains s v) (some_has held v)
          (ap (λ t. contains t v) (written_holds format inputs h.0.0 s h.0.1 h.0.2) ∙ in_union_of h.0.0 v
          ∙ kept inputs h.0.0 h.0.1 v (record { bytes = b.bytes; set = b.set; among = below; held = b.held; has = b.has }))
      | inr more ↦ or_right (contains s v) (some_has held v)
          (kept others held h.1 v (record { bytes = b.bytes; set = b.set; among = more; held = b.held; has = b.has }))
    ]

-- ---- the law
has_more : (inputs others : Inputs) (held sets : List VersionSet) → Hold inputs held → Hold others sets →
    ((bytes : List ℕ) → Contains (files_of inputs) bytes → Contains (files_of others) bytes) → (v : VersionData) → some_has held v ≡ true →
    some_has sets v ≡ true
has_more inputs others held sets h g more v e = kept others sets g v
    (brings_more (files_of inputs) (files_of others) v more (brought inputs held h v e))

-- Merges of merges with the same files in the end write the same bytes.
pub merges_of_the_same_files : MergesOfTheSameFiles
merges_of_the_same_files inputs others held sets h g same format =
    ap (spell format) (same_set version_cmp_total version_cmp-IsAntisymmetric (union_of held) (union_of sets) (λ v.
    in_union_of held v
    ∙ both_ways _ _ (has_more inputs others held sets h g (λ bytes. (same bytes).0) v)
    (has_more others inputs sets held g h (λ bytes. (same bytes).1) v)
    ∙ sym (in_union_of sets v)))
