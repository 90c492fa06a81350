-- The objects and the inline entries of a segment determine what it keeps.
use Rattle.std.proofs.Common.{◌≡◌, ◌∙◌, ap, sym, refl, ℕ, pos, Bool, false, ◌||◌, ◌&&◌, List, [], ◌∷◌, ◌++◌, append_assoc, subst, Ok}
use Rattle.std.specs.List.{flat_map, list_any}
use Rattle.std.proofs.Math.Bool.{or-false}
use Rattle.std.proofs.Math.Seq.{take-nil}
use Rattle.std.proofs.lemmas.Grind.{flat_map-append}
use Rattle.std.proofs.lemmas.List.{append-nil}
use Rattle.std.proofs.lemmas.List.Folds.{list_any-append}
use Rattle.osm_model.specs.declared.kind.Kind.{Kind}
use Rattle.osm_model.specs.Data.{VersionData}
use Rattle.o5_codec.specs.declared.read.segment.Segment.{Segment}
use Rattle.o5_codec.specs.declared.read.segment.ListsSeen.{ListsSeen}
use Rattle.o5_codec.specs.Entry.{EntryStrings}
use Rattle.o5_codec.specs.Table.{table_limit, table_of}
use Rattle.o5_codec.specs.Body.{set_at}
use Rattle.o5_codec.specs.Decoder.{new_segment}
use Rattle.o5_codec.specs.Spelling.{SpellsSet}
use Rattle.o5_codec.specs.Earlier.{times, changesets, longitudes, latitudes, references, members_of, node_ids, way_ids, relation_ids}
use Rattle.o5_codec.specs.Earlier.{last_from, last_spelled, bases_of, has_references, has_node_members, segment_of, inline_entries}
use Rattle.o5_codec.specs.Earlier.{SpellSets, sets_at}
use Rattle.o5_codec.proofs.SoundStrings.{first_ok, same_value}
use Rattle.o5_codec.proofs.ResultSteps.{read_next}
use Rattle.o5_codec.proofs.StepLaws.{set_found, set_only}
use Rattle.o5_codec.proofs.EarlierSteps.{last_append, bases_after, set_bases, set_table}
use Rattle.o5_codec.proofs.EarlierLists.{Agrees, agrees_as, set_seen}

spelled_more : {X : Type 0} (x : X) (spelled : VersionData → List X) (objects : List VersionData) (v : VersionData) →
    last_from (last_spelled x spelled objects) (spelled v) ≡ last_spelled x spelled (objects ++ v ∷ [])
spelled_more x spelled objects v =
    sym (last_append x (flat_map spelled objects) (spelled v))
    ∙ ap (last_from x) (ap (λ ys. flat_map spelled objects ++ ys) (sym (append-nil (spelled v)))
    ∙ sym (flat_map-append spelled objects (v ∷ [])))

bases_more : (objects : List VersionData) (v : VersionData) → bases_after (bases_of objects) v ≡ bases_of (objects ++ v ∷ [])
bases_more objects v = λ i. record {
  id = spelled_more (pos 0) (λ v. v.id ∷ []) objects v i;
  time = spelled_more 0 times objects v i;
  changeset = spelled_more 0 changesets objects v i;
  lon = spelled_more (pos 0) (λ v. longitudes v.body) objects v i;
  lat = spelled_more (pos 0) (λ v. latitudes v.body) objects v i;
  reference = spelled_more (pos 0) (λ v. references v.body) objects v i;
  node_member = spelled_more (pos 0) (λ v. node_ids (members_of v.body)) objects v i;
  way_member = spelled_more (pos 0) (λ v. way_ids (members_of v.body)) objects v i;
  relation_member = spelled_more (pos 0) (λ v. relation_ids (members_of v.body)) objects v i;
}

any_more : (test : VersionData → Bool) (objects : List VersionData) (v : VersionData) →
    list_any test objects || test v ≡ list_any test (objects ++ v ∷ [])
any_more test objects v = ap (λ b. list_any test objects || b) (sym (or-false (test v))) ∙ sym (list_any-append test objects (v ∷ []))

-- `seen` agrees with the lists that some objects have
abbrev Lists : ListsSeen → List VersionData → Type 0
Lists seen objects = Agrees seen (list_any has_references objects) (list_any has_node_members objects)

pub lists_more : (objects : List VersionData) (s : Segment) (k : Kind) (content : List ℕ) (x : VersionData × Segment) →
    SpellsSet k s content x → Lists s.seen objects → Lists x.1.seen (objects ++ x.0 ∷ [])
lists_more objects s k content x spells h =
    agrees_as _ _ _ _ _ _ refl (any_more has_references objects x.0) (any_more has_node_members objects x.0)
    (set_seen k s content x (list_any has_references objects) (list_any has_node_members objects) spells h)

-- the bases and the table of a segment are those of some objects and entries
record IsSegmentAfter (s : Segment) (objects : List VersionData) (entries : List EntryStrings) : Type 0 where
  bases_are : s.bases ≡ bases_of objects
  table_is : s.table ≡ table_of entries

-- the same after one more data set
segment_after_more : (objects : List VersionData) (entries : List EntryStrings) (s : Segment) (k : Kind) (content : List ℕ)
    (x : VersionData × Segment) →
    IsSegmentAfter s objects entries → (spells : SpellsSet k s content x) →
    IsSegmentAfter x.1 (objects ++ x.0 ∷ []) (entries ++ inline_entries k s content x spells)
segment_after_more objects entries s k content x known spells = record {
  bases_are = set_bases k s content x spells ∙ ap (λ b. bases_after b x.0) known.bases_are ∙ bases_more objects x.0;
  table_is = set_table k s content x spells entries known.table_is;
}

-- the same after several more data sets
segment_after_all : (objects : List VersionData) (entries : List EntryStrings) (s : Segment) (sets : List (Kind × List ℕ))
    (versions : List VersionData)
    (inline : List EntryStrings) (end : Segment) →
    IsSegmentAfter s objects entries → Lists s.seen objects → SpellSets s sets versions inline end →
    IsSegmentAfter end (objects ++ versions) (entries ++ inline) × Lists end.seen (objects ++ versions)
segment_after_all objects entries s [] [] inline end known lists spells =
    let P : List VersionData × List EntryStrings × Segment → Type 0 = λ y. IsSegmentAfter y.2 y.0 y.1 × Lists y.2.seen y.0 in
    let none = sym (append-nil entries) ∙ ap (λ es. entries ++ es) (sym spells.0) in
    subst P (λ i. (sym (append-nil objects) i, none i, spells.1 i)) (known, lists)
segment_after_all objects entries s [] (v ∷ versions) inline end known lists spells = absurd spells
segment_after_all objects entries s (set ∷ sets) [] inline end known lists spells = absurd spells
segment_after_all objects entries s (set ∷ sets) (v ∷ versions) inline end known lists (middle, later, spells, all, more) =
    let here = inline_entries set.0 s set.1 (v, middle) spells in
    let P : List VersionData × List EntryStrings → Type 0 = λ y. IsSegmentAfter end y.0 y.1 × Lists end.seen y.0 in
    let rest = append_assoc entries here later ∙ ap (λ es. entries ++ es) (sym all) in
    subst P (λ i. (append_assoc objects (v ∷ []) versions i, rest i))
    (segment_after_all (objects ++ v ∷ []) (entries ++ here) middle sets versions later end
    (segment_after_more objects entries s set.0 set.1 (v, middle) known spells) (lists_more objects s set.0 set.1 (v, middle) spells lists)
    more)

segment_after_none : IsSegmentAfter new_segment [] []
segment_after_none = record { bases_are = refl; table_is = sym (take-nil {A = EntryStrings} table_limit) }

-- The segment after some data sets is determined by their versions and inline entries.
pub from_new : (sets : List (Kind × List ℕ)) (versions : List VersionData) (inline : List EntryStrings) (end : Segment) →
    SpellSets new_segment sets versions inline end → end ≡ segment_of versions inline
from_new sets versions inline end spells =
    let known = segment_after_all [] [] new_segment sets versions inline end segment_after_none (refl, refl) spells in
    (λ i. record { bases = known.0.bases_are i; table = known.0.table_is i; seen = known.1.0 i })

-- No segment has both a way with references and a relation with a node member.
pub not_mixed : (sets : List (Kind × List ℕ)) (versions : List VersionData) (inline : List EntryStrings) (end : Segment) →
    SpellSets new_segment sets versions inline end →
    list_any has_references versions && list_any has_node_members versions ≡ false
not_mixed sets versions inline end spells = (segment_after_all [] [] new_segment sets versions inline end segment_after_none
    (refl, refl) spells).1.1

-- ---- reading in sequence
pub sets_found : (s : Segment) (sets : List (Kind × List ℕ)) (x : List VersionData × Segment) → sets_at s sets ≡ Ok x →
    (inline : List EntryStrings) × SpellSets s sets x.0 inline x.1
sets_found s [] x h =
    let same : ([], s) ≡ x = same_value _ _ h in
    let P : List VersionData × Segment → Type 0 = λ y. (inline : List EntryStrings) × SpellSets s [] y.0 inline y.1 in
    subst P same ([], (refl, refl))
sets_found s (set ∷ sets) x h =
    let f = first_ok (set_at set.0 s set.1) _ x h in
    let g = first_ok (sets_at f.0.1 sets) _ x f.2 in
    let same : (f.0.0 ∷ g.0.0, g.0.1) ≡ x = same_value _ _ g.2 in
    let P : List VersionData × Segment → Type 0 = λ y. (inline : List EntryStrings) × SpellSets s (set ∷ sets) y.0 inline y.1 in
    let later = sets_found f.0.1 sets g.0 g.1 in
    let spells : SpellsSet set.0 s set.1 (f.0.0, f.0.1) = set_found set.0 s set.1 f.0 f.1 in
    subst P same (inline_entries set.0 s set.1 (f.0.0, f.0.1) spells ++ later.0, (f.0.1, later.0, spells, refl, later.1))

-- Data sets that spell versions are read as them.
pub sets_only : (s : Segment) (sets : List (Kind × List ℕ)) (versions : List VersionData) (inline : List EntryStrings) (end : Segment) →
    SpellSets s sets versions inline end → sets_at s sets ≡ Ok (versions, end)
sets_only s [] [] inline end spells = ap (λ z. Ok ([], z)) spells.1
sets_only s [] (v ∷ versions) inline end spells = absurd spells
sets_only s (set ∷ sets) [] inline end spells = absurd spells
sets_only s (set ∷ sets) (v ∷ versions) inline end (middle, later, spells, all, more) =
    read_next (set_at set.0 s set.1) _ _ (set_only set.0 s set.1 (v, middle) spells)
    ∙ read_next (sets_at middle sets) _ _ (sets_only middle sets versions later end more)

-- ---- one data set after others
pub sets_continue : (s : Segment) (sets : List (Kind × List ℕ)) (versions : List VersionData) (inline : List EntryStrings) (end : Segment)
    (k : Kind)
    (content : List ℕ) (x : VersionData × Segment) →
    SpellSets s sets versions inline end → (spells : SpellsSet k end content x) →
    SpellSets s (sets ++ (k, content) ∷ []) (versions ++ x.0 ∷ []) (inline ++ inline_entries k end content x spells) x.1
sets_continue s [] [] inline end k content x before spells =
    let P : Segment → Type 0 = λ y. (last : SpellsSet k y content x) →
    SpellSets s ((k, content) ∷ []) (x.0 ∷ []) (inline ++ inline_entries k y content x last) x.1 in
    subst P before.1 (λ last. (
      x.1,
      [],
      last,
      ap (λ es. es ++ inline_entries k s content x last) before.0
          ∙ sym (append-nil (inline_entries k s content x last)),
      (refl, refl),
    )) spells
sets_continue s [] (v ∷ versions) inline end k content x before spells = absurd before
sets_continue s (set ∷ sets) [] inline end k content x before spells = absurd before
sets_continue s (set ∷ sets) (v ∷ versions) inline end k content x (middle, later, first, all, more) spells =
    let here = inline_entries set.0 s set.1 (v, middle) first in
    let last = inline_entries k end content x spells in (
      middle,
      later ++ last,
      first,
      ap (λ es. es ++ last) all
          ∙ append_assoc here later last,
      sets_continue middle sets versions later end k content x more spells,
    )
