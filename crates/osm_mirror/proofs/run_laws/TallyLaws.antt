-- Tallies, counted version by version.
use Rattle.std.proofs.Common.{◌≡◌, ℕ, ◌+◌, ◌∷◌, [], List, Bool, true, false, refl, sym, ap, ◌∙◌, arith, Option, Some, None, min, max}
use Rattle.osm_model.specs.Data.{VersionData}
use Rattle.osm_model.specs.declared.kind.Kind.TheVariants.{Node, Way, Relation}
use Rattle.osm_merge.specs.Union.{capped_count}
use Rattle.osm_mirror.specs.declared.run.tally.Tally.{Tally}
use Rattle.osm_mirror.specs.run.Tally.{chosen, chosen_time, count_of, is_deletion, is_of, no_versions, one_if, IsTalliedWith, Tallies}

-- adding to a number that stays at the limit
pub capped_more : (n more : ℕ) → capped_count (capped_count n + more) ≡ capped_count (n + more)
capped_more n more = omega arith

-- `counted` is the number of the versions with a property among those before `now` in `all`
pub record CountsPart (counted : ℕ) (p : VersionData → Bool) (all now : List VersionData) : Type 0 where
  pub given : ℕ
  pub is : counted ≡ capped_count given
  pub others : given + count_of p now ≡ count_of p all

-- the tally of the versions before `now` in `all`
pub record Tallying (all now : List VersionData) (tally : Tally) : Type 0 where
  pub nodes : CountsPart tally.nodes (is_of Node) all now
  pub ways : CountsPart tally.ways (is_of Way) all now
  pub relations : CountsPart tally.relations (is_of Relation) all now
  pub deleted : CountsPart tally.deleted is_deletion all now
  pub first : chosen min tally.first (chosen_time min now) ≡ chosen_time min all
  pub last : chosen max tally.last (chosen_time max now) ≡ chosen_time max all

part_none : (p : VersionData → Bool) (all : List VersionData) → CountsPart 0 p all all
part_none p all = record { given = 0; is = omega arith; others = omega arith }

count_of_cons : (p : VersionData → Bool) (v : VersionData) (vs : List VersionData) → count_of p (v ∷ vs) ≡ one_if (p v) + count_of p vs
count_of_cons p v vs = elim (p v) as (λ b. p v ≡ b → count_of p (v ∷ vs) ≡ one_if (p v) + count_of p vs)
    [ true ↦ λ e. rw e (omega arith) | false ↦ λ e. rw e (omega arith) ] refl

part_more : (p : VersionData → Bool) (all rest : List VersionData) (v : VersionData) (before after : ℕ) →
    CountsPart before p all (v ∷ rest) → after ≡ capped_count (before + one_if (p v)) → CountsPart after p all rest
part_more p all rest v before after h is =
    let cons = count_of_cons p v rest in
    let others = h.others in
    record {
      given = h.given + one_if (p v);
      is = is ∙ ap (λ n. capped_count (n + one_if (p v))) h.is ∙ capped_more h.given (one_if (p v));
      others = omega (arith, cons, others);
    }

part_ends : (p : VersionData → Bool) (all : List VersionData) (counted : ℕ) → CountsPart counted p all [] →
    counted ≡ capped_count (count_of p all)
part_ends p all counted h =
    let others = h.others in
    let given : h.given ≡ count_of p all = omega (arith, others) in
    h.is ∙ ap capped_count given

chosen_assoc : (f : ℕ → ℕ → ℕ) → ((a b c : ℕ) → f a (f b c) ≡ f (f a b) c) → (s t u : Option ℕ) →
    chosen f s (chosen f t u) ≡ chosen f (chosen f s t) u
chosen_assoc f assoc None t u = refl
chosen_assoc f assoc (Some a) None u = refl
chosen_assoc f assoc (Some a) (Some b) None = refl
chosen_assoc f assoc (Some a) (Some b) (Some c) = ap Some (assoc a b c)

chosen_none : (f : ℕ → ℕ → ℕ) (s : Option ℕ) → chosen f s None ≡ s
chosen_none f None = refl
chosen_none f (Some a) = refl

min_assoc : (a b c : ℕ) → min a (min b c) ≡ min (min a b) c
min_assoc a b c = omega arith

max_assoc : (a b c : ℕ) → max a (max b c) ≡ max (max a b) c
max_assoc a b c = omega arith

-- At first nothing was counted.
pub tally_none : (all : List VersionData) → Tallying all all no_versions
tally_none all = record {
  nodes = part_none (is_of Node) all;
  ways = part_none (is_of Way) all;
  relations = part_none (is_of Relation) all;
  deleted = part_none is_deletion all;
  first = refl;
  last = refl;
}

-- One more version was counted.
pub tally_more : (all rest : List VersionData) (v : VersionData) (before after : Tally) → Tallying all (v ∷ rest) before →
    IsTalliedWith before v after → Tallying all rest after
tally_more all rest v before after h is = record {
  nodes = part_more (is_of Node) all rest v before.nodes after.nodes h.nodes is.nodes;
  ways = part_more (is_of Way) all rest v before.ways after.ways h.ways is.ways;
  relations = part_more (is_of Relation) all rest v before.relations after.relations h.relations is.relations;
  deleted = part_more is_deletion all rest v before.deleted after.deleted h.deleted is.deleted;
  first = ap (λ s. chosen min s (chosen_time min rest)) is.first
      ∙ sym (chosen_assoc min min_assoc before.first v.time (chosen_time min rest)) ∙ h.first;
  last = ap (λ s. chosen max s (chosen_time max rest)) is.last
      ∙ sym (chosen_assoc max max_assoc before.last v.time (chosen_time max rest)) ∙ h.last;
}

-- At the end all versions were counted.
pub tally_ends : (all : List VersionData) (tally : Tally) → Tallying all [] tally → Tallies all tally
tally_ends all tally h = record {
  nodes = part_ends (is_of Node) all tally.nodes h.nodes;
  ways = part_ends (is_of Way) all tally.ways h.ways;
  relations = part_ends (is_of Relation) all tally.relations h.relations;
  deleted = part_ends is_deletion all tally.deleted h.deleted;
  first = sym (chosen_none min tally.first) ∙ h.first;
  last = sym (chosen_none max tally.last) ∙ h.last;
}
