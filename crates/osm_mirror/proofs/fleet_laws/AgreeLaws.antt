-- Mirrors of one kind that the same files reached are equal.
use Rattle.std.proofs.Common.{◌≡◌, ℕ, Bool, true, ◌||◌, List, [], ◌∷◌, sym, ap, ◌∙◌}
use Rattle.std.specs.Cmp.{both_ways}
use Rattle.std.specs.List.{list_any, Any, Contains}
use Rattle.std.proofs.lemmas.Bool.{false≢true}
use Rattle.std.proofs.lemmas.List.Folds.{Any-from_list_any, list_any-from_Any}
use Rattle.osm_model.specs.Data.{VersionData}
use Rattle.osm_model.specs.Sets.{contains}
use Rattle.osm_files.specs.Spell.{spell}
use Rattle.osm_merge.specs.Selected.{snapshot}
use Rattle.osm_mirror.specs.fleet.Mirror.{MirrorData}
use Rattle.osm_mirror.specs.fleet.Fleet.{Source, Opening, File, mirror_at, set_of, union_of_sources}
use Rattle.osm_mirror.specs.fleet.FleetLaws.{SameFilesAmong, AreEmpty, LatestMirrorsAgree, FullMirrorsAgree}
use Rattle.osm_files.proofs.SpellLaws.{equal_sets, in_union, in_none}

in_united : (o : List MirrorData) (r : List Source) (v : VersionData) →
    contains (union_of_sources o r) v ≡ list_any (λ s. contains (set_of o s) v) r
in_united o [] v = in_none v
in_united o (s ∷ r) v = in_union (set_of o s) (union_of_sources o r) v ∙ ap (λ (b : Bool). contains (set_of o s) v || b) (in_united o r v)

module _ (o : List MirrorData) (none : AreEmpty o) (v : VersionData) where
  abbrev holds_it : Source → Bool
  holds_it s = contains (set_of o s) v

  -- a source that holds the version is a file, since the openings are empty
  among_others : (r s : List Source) → ((bytes : List ℕ) → Contains r (File bytes) → Contains s (File bytes)) → (x : Source) →
      Contains r x → holds_it x ≡ true → Contains s x
  among_others r s f (Opening m) inside e = absurd (false≢true (sym (ap (λ t. contains t v) (none m) ∙ in_none v) ∙ e))
  among_others r s f (File bytes) inside e = f bytes inside

  any_other : (r s : List Source) → ((bytes : List ℕ) → Contains r (File bytes) → Contains s (File bytes)) → list_any holds_it r ≡ true →
      list_any holds_it s ≡ true
  any_other r s f e =
      let a : Any (λ x. holds_it x ≡ true) r = Any-from_list_any holds_it r e in
      let there : Contains s (a.1) = among_others r s f (a.1) (a.0, a.2, a.3) a.4 in
      list_any-from_Any holds_it s (there.0, a.1, there.1, there.2, a.4)

same_united : (o : List MirrorData) (r s : List Source) → AreEmpty o → SameFilesAmong r s → union_of_sources o r ≡ union_of_sources o s
same_united o r s none files =
    equal_sets _ _ (λ v.
    in_united o r v
    ∙ both_ways _ _ (any_other o none v r s (λ bytes. (files bytes).0)) (any_other o none v s r (λ bytes. (files bytes).1))
    ∙ sym (in_united o s v))

-- Two latest mirrors of a new fleet that the same files reached hold the same set.
pub latest_agree : LatestMirrorsAgree
latest_agree old new events replies h none m n low_m low_n latest_m latest_n files =
    let same : (mirror_at new m).held ≡ (mirror_at new n).held =
    (h.each m low_m).latest_exact latest_m ∙ ap snapshot (same_united old _ _ none files) ∙ sym ((h.each n low_n).latest_exact latest_n) in
    (same, λ format. ap (spell format) same)

-- Two purely full mirrors of a new fleet that the same files reached hold the same set.
pub full_agree : FullMirrorsAgree
full_agree old new events replies h none m n low_m low_n pure_m pure_n files =
    let same : (mirror_at new m).held ≡ (mirror_at new n).held =
    ((h.each m low_m).full_exact pure_m).1 ∙ same_united old _ _ none files ∙ sym (((h.each n low_n).full_exact pure_n).1) in
    (same, λ format. ap (spell format) same)
