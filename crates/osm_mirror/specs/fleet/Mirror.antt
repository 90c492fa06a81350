-- The kind and the history of a mirror, and the effect of its calls: own rules of this project.
use Rattle.std.specs.Prelude.{◌≡◌, ◌⊎◌, ℕ, ◌≤◌, ◌^◌, List, length, Some, refl}
use Rattle.std.specs.Coded.{Coded, code_by, coded×, coded_list}
use Rattle.osm_model.specs.VersionSet.{VersionSet, version_set_code}
use Rattle.osm_model.specs.Sets.{empty, union, size}
use Rattle.osm_files.specs.declared.fault.Fault.{Fault}
use Rattle.osm_files.specs.declared.format.Format.{Format}
use Rattle.osm_files.specs.Fault.{memory_fault, too_long_fault}
use Rattle.osm_files.specs.Held.{Holds}
use Rattle.osm_files.specs.Position.{fault_of}
use Rattle.osm_files.specs.Spell.{spell}
use Rattle.osm_files.specs.SpellLaws.{AreVersions}
use Rattle.osm_files.specs.Stream.{Verdict}
use Rattle.osm_files.specs.Verdict.{verdict, held_by}
use Rattle.osm_merge.specs.Selected.{snapshot}
use Rattle.osm_merge.specs.Union.{capped_count}
use Rattle.osm_mirror.specs.declared.fleet.keep.Keep.{Keep}
use Rattle.osm_mirror.specs.declared.fleet.keep.Keep.TheVariants.{Full, Latest}
use Rattle.osm_mirror.specs.declared.fleet.keep.Taken.{Taken}
use Rattle.osm_mirror.specs.contracts.fleet.keep.Keep as keep

-- a mirror: its kind, and the set that it holds
pub record MirrorData : Type 0 where
  pub keep : Keep
  pub held : VersionSet

abbrev pub mirror_code : Coded MirrorData
mirror_code = code_by (Keep × VersionSet) (coded× (keep.the_row).coded version_set_code) (λ m. (m.keep, m.held))
    (λ p. record { keep = p.0; held = p.1 }) (λ _. refl)

abbrev pub mirrors_code : Coded (List MirrorData)
mirrors_code = coded_list mirror_code

-- the part of a set that a mirror keeps: all of it, or only its snapshot
abbrev pub kept_part : Keep → VersionSet → VersionSet
kept_part Full set = set
kept_part Latest set = snapshot set

-- a new mirror holds nothing
abbrev pub new_mirror : Keep → MirrorData
new_mirror keep = record { keep = keep; held = empty }

-- the mirror after it took a set: it keeps its part of the union of its history and the set
abbrev pub after_taking : MirrorData → VersionSet → MirrorData
after_taking m set = record { keep = m.keep; held = kept_part m.keep (union m.held set) }

-- a latest mirror holds its own snapshot, and so no more than the newest version of each object
abbrev pub IsOwnSnapshot : MirrorData → Type 0
IsOwnSnapshot m = m.keep ≡ Latest → m.held ≡ snapshot m.held

-- a latest mirror holds its own snapshot, and the history is within the ranges of versions
pub record IsMirror (m : MirrorData) : Type 0 where
  pub own_snapshot : IsOwnSnapshot m
  pub versions : AreVersions m.held

-- the file is accepted, and the mirror took the file's set; `taken` has the size of that set
pub record TakesFile (bytes : List ℕ) (old new : MirrorData) (taken : Taken) : Type 0 where
  pub accepted : Holds bytes (held_by bytes)
  pub holds : new ≡ after_taking old (held_by bytes)
  pub count : taken.versions ≡ capped_count (size (held_by bytes))

-- why a file isn't taken: memory ran out, or the file, which is the input 0, has this verdict
abbrev pub WhyNotTaken : List ℕ → Fault → Type 0
WhyNotTaken bytes fault = (fault ≡ memory_fault) ⊎ ((v : Verdict) × (verdict bytes ≡ Some v) × (fault ≡ fault_of 0 v))

-- why the file of a set isn't written: memory ran out, or the file, which is the output 1, has 2^62 bytes or more
abbrev pub WhyNotSpelled : Format → VersionSet → Fault → Type 0
WhyNotSpelled format set fault = (fault ≡ memory_fault)
    ⊎ ((fault ≡ too_long_fault 1) × (2 ^ 62 ≤ length (spell format set)))
