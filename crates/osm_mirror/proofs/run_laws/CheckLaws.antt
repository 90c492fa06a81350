-- The sizes of a source, counted version by version.
use Rattle.std.proofs.Common.{◌≡◌, ◌⊎◌, inl, inr, ⊎_elim, ℕ, suc, ◌+◌, ◌∷◌, length, true, refl, sym, ap, ◌∙◌, subst, arith, Option, Some}
use Rattle.std.proofs.Common.{None, IfSome, Ok, Err}
use Rattle.osm_model.specs.Data.{VersionData}
use Rattle.osm_model.specs.Order.{version_cmp}
use Rattle.osm_model.specs.VersionSet.{VersionSet}
use Rattle.osm_model.specs.Sets.{size, to_list, from_list}
use Rattle.osm_model.proofs.VersionLaws.{to_list-view}
use Rattle.osm_files.specs.declared.fault.Fault.{Fault}
use Rattle.osm_files.specs.declared.load.Loaded.{Loaded}
use Rattle.osm_files.specs.Groups.{sorted_source, set_given}
use Rattle.osm_files.specs.Input.{InputRest}
use Rattle.osm_files.specs.declared.format.Format.{Format}
use Rattle.osm_files.specs.Load.{Loads, format_of}
use Rattle.osm_files.proofs.RiseLaws.{source_rises}
use Rattle.osm_files.specs.Fault.{memory_fault}
use Rattle.osm_files.specs.Source.{SourceStep}
use Rattle.osm_merge.specs.ToCome as source
use Rattle.osm_merge.specs.Union.{capped_count}
use Rattle.osm_mirror.specs.declared.run.check.Sizes.{Sizes}
use Rattle.osm_mirror.specs.declared.run.check.Checked.{Checked}
use Rattle.osm_mirror.specs.run.Check.{new_objects, objects_after, IsCounted, object_count, checked_as, IsChecked}
use Rattle.osm_mirror.specs.run.Given.{GivesFile}
use Rattle.osm_mirror.specs.run.Tally.{no_versions, IsTalliedWith, Tallies}
use Rattle.osm_mirror.specs.run.Merge.{GivesSorted}
use Rattle.osm_mirror.proofs.run_laws.SourceLaws.{gives}
use Rattle.osm_mirror.proofs.run_laws.TallyLaws.{Tallying, capped_more, tally_none, tally_more, tally_ends}
use Rattle.osm_mirror.proofs.run_laws.ObjectLaws.{objects_begun}

-- the sizes count the versions and objects given so far, `last` is the last of these versions, and `now` is the rest
pub record Counted (all now : source.VersionsToCome) (last : Option VersionData) (sizes : Sizes) : Type 0 where
  pub refusal : now.refusal ≡ all.refusal
  pub given : ℕ
  pub begun : ℕ
  pub versions : sizes.versions ≡ capped_count given
  pub objects : sizes.objects ≡ capped_count begun
  pub others : given + length now.list ≡ length all.list
  pub other_objects : begun + objects_after last now.list ≡ objects_after None all.list
  pub tally : Tallying all.list now.list sizes.tally

-- The sizes counted so far of a source, and the source's rest.
abbrev pub Counting : Option source.VersionsToCome → Option source.VersionsToCome → Option VersionData → Sizes → Type 0
Counting all now last sizes = IfSome all (λ s. (t : source.VersionsToCome) × (now ≡ Some t) × Counted s t last sizes)

-- At first nothing was counted.
pub count_none : (all : Option source.VersionsToCome) → Counting all all None (record { versions = 0; objects = 0; tally = no_versions })
count_none None = tt
count_none (Some s) = (
  s,
  refl,
  record {
    refusal = refl;
    given = 0;
    begun = 0;
    versions = omega arith;
    objects = omega arith;
    others = omega arith;
    other_objects = omega arith;
    tally = tally_none s.list;
  },
)

one_more : (s t u : source.VersionsToCome) (last : Option VersionData) (v : VersionData) (sizes after : Sizes) → Counted s t last sizes →
    t ≡ record { list = v ∷ u.list; refusal = u.refusal } → after.versions ≡ capped_count (sizes.versions + 1) →
    after.objects ≡ capped_count (sizes.objects + new_objects last v) → IsTalliedWith sizes.tally v after.tally → Counted s u (Some v) after
one_more s t u last v sizes after h is versions objects tallied =
    let list : length t.list ≡ suc (length u.list) = ap (λ x. length x.list) is in
    let begun : objects_after last t.list ≡ new_objects last v + objects_after (Some v) u.list = ap (λ x. objects_after last x.list) is in
    let before : h.given + length t.list ≡ length s.list = h.others in
    let objects_before : h.begun + objects_after last t.list ≡ objects_after None s.list = h.other_objects in
    record {
      refusal = ap (λ x. x.refusal) (sym is) ∙ h.refusal;
      given = h.given + 1;
      begun = h.begun + new_objects last v;
      versions = versions ∙ ap (λ n. capped_count (n + 1)) h.versions ∙ capped_more h.given 1;
      objects = objects ∙ ap (λ n. capped_count (n + new_objects last v)) h.objects ∙ capped_more h.begun (new_objects last v);
      others = omega (arith, list, before);
      other_objects = omega (arith, begun, objects_before);
      tally = tally_more s.list u.list v sizes.tally after.tally
          (subst (λ (x : source.VersionsToCome). Tallying s.list x.list sizes.tally) is h.tally) tallied;
    }

-- One more version was counted.
pub count_more : (all now after : Option source.VersionsToCome) (last : Option VersionData) (v : VersionData) (sizes more : Sizes) →
    Counting all now last sizes → SourceStep now (Ok (Some v)) after → more.versions ≡ capped_count (sizes.versions + 1) →
    more.objects ≡ capped_count (sizes.objects + new_objects last v) → IsTalliedWith sizes.tally v more.tally
    → Counting all after (Some v) more
count_more None now after last v sizes more h step versions objects tallied = tt
count_more (Some s) now after last v sizes more h step versions objects tallied =
    let k = subst (λ (n : Option source.VersionsToCome). SourceStep n (Ok (Some v)) after) h.1 step in
    (k.0, k.2, one_more s h.0 k.0 last v sizes more h.2 k.1 versions objects tallied)

-- At the end all versions and objects were counted.
pub count_ends : (all now after : Option source.VersionsToCome) (last : Option VersionData) (sizes : Sizes) → Counting all now last sizes →
    SourceStep {A = VersionData} now (Ok None) after → IfSome all (λ s. IsCounted s sizes)
count_ends None now after last sizes h step = tt
count_ends (Some s) now after last sizes h step =
    let k = subst (λ (n : Option source.VersionsToCome). SourceStep {A = VersionData} n (Ok None) after) h.1 step in
    let d : Counted s h.0 last sizes = h.2 in
    let list : length (h.0).list ≡ 0 = ap (λ x. length x.list) k.0 in
    let none : objects_after last (h.0).list ≡ 0 = ap (λ x. objects_after last x.list) k.0 in
    let all_given : d.given ≡ length s.list = omega (arith, list, d.others) in
    let all_begun : d.begun ≡ objects_after None s.list = omega (arith, none, d.other_objects) in
    record {
      whole = sym d.refusal ∙ ap (λ x. x.refusal) k.0;
      versions = d.versions ∙ ap capped_count all_given;
      objects = d.objects ∙ ap capped_count all_begun;
      tally = tally_ends s.list sizes.tally (subst (λ (x : source.VersionsToCome). Tallying s.list x.list sizes.tally) k.0 d.tally);
    }

-- A source that is refused while it is counted is refused with its own fault, or Memory.
pub count_stops : (all now after : Option source.VersionsToCome) (last : Option VersionData) (sizes : Sizes) (fault : Fault) →
    Counting all now last sizes → SourceStep {A = VersionData} now (Err fault) after →
    (fault ≡ memory_fault) ⊎ IfSome all (λ s. s.refusal ≡ Some fault)
count_stops None now after last sizes fault h step = inr tt
count_stops (Some s) now after last sizes fault h step =
    let k = subst (λ (n : Option source.VersionsToCome). SourceStep {A = VersionData} n (Err fault) after) h.1 step in
    ⊎_elim (λ e. inl e) (λ e. inr (sym h.2.refusal ∙ ap (λ x. x.refusal) e)) k.0

-- ---- the report
-- The sizes of a loaded set make the report on its file.
pub report_is : (c : InputRest) (loaded : Loaded) (set : VersionSet) (sizes : Sizes) (checked : Checked) → Loads c loaded →
    set ≡ loaded.history → IsCounted (set_given set) sizes → checked ≡ checked_as loaded.format loaded.sorted sizes →
    IsChecked c checked
report_is c loaded set sizes checked h is n e =
    subst (IsChecked c) (sym e) (record {
      report = record {
        held = loaded.history;
        file = record { unbroken = h.unbroken; file = h.holds };
        format = h.format;
        versions = n.versions ∙ ap (λ (s : VersionSet). capped_count (size s)) is;
        objects = n.objects ∙ ap capped_count (objects_begun set) ∙ ap (λ (s : VersionSet). capped_count (object_count s)) is;
        sorted = h.sorted;
      };
      tally = record {
        held = loaded.history;
        file = record { unbroken = h.unbroken; file = h.holds };
        tallied = subst (λ (s : VersionSet). Tallies (to_list s) sizes.tally) is n.tally;
      };
    })

-- The sizes of a sorted file's source make the report on the file.
pub sorted_report_is : (c : InputRest) (format : Format) (sizes : Sizes) (checked : Checked) → format ≡ format_of c.bytes →
    IsCounted (sorted_source 0 c) sizes → checked ≡ checked_as format true sizes → IsChecked c checked
sorted_report_is c format sizes checked f n e =
    let list : to_list (from_list {R = version_cmp} (sorted_source 0 c).list) ≡ (sorted_source 0 c).list =
    to_list-view (sorted_source 0 c).list (source_rises 0 c) in
    let set : VersionSet = from_list {R = version_cmp} (sorted_source 0 c).list in
    let given : GivesSorted c set = gives 0 c n.whole in
    let file : GivesFile c set = record {
      unbroken = given.unbroken;
      file =
          record { short = given.file.short; versions = given.file.versions; file = given.file.file; members = given.file.members };
    } in
    subst (IsChecked c) (sym e) (record {
      report = record {
        held = set;
        file = file;
        format = f;
        versions = n.versions ∙ ap (λ l. capped_count (length l)) (sym list);
        objects = n.objects ∙ ap (λ l. capped_count (objects_after None l)) (sym list) ∙ ap capped_count (objects_begun set);
        sorted = (λ t. given.file, λ h. refl);
      };
      tally = record { held = set; file = file; tallied = subst (λ l. Tallies l sizes.tally) (sym list) n.tally };
    })

-- a whole set isn't refused
pub set_refused : (set : VersionSet) (still : source.VersionsToCome) (fault : Fault) → still ≡ set_given set →
    (fault ≡ memory_fault) ⊎ (still.refusal ≡ Some fault) → fault ≡ memory_fault
set_refused set still fault is (inl e) = e
set_refused set still fault is (inr e) = absurd (let f : None ≡ Some fault = ap (λ x. x.refusal) (sym is) ∙ e in cc)
