-- The ends of files: the faults of files that lack the end that their rule asks for.
use Rattle.std.proofs.Common.{◌≡◌, ◌⊎◌, inl, inr, ⊎_elim, ℕ, ◌≤◌, ◌^◌, Bool, true, false, List, [], ◌∷◌, ◌++◌, length}
use Rattle.std.proofs.Common.{Option, Some, None, IfSome, slice_get, refl, sym, ap, ◌∙◌, subst, arith}
use Rattle.std.specs.List.{All}
use Rattle.std.proofs.lemmas.Bool.{false≢true}
use Rattle.std.proofs.lemmas.List.Elements.{All-nil, All-cons, All-head, All-tail}
use Rattle.osm_files.specs.declared.end_rule.EndRule.{EndRule}
use Rattle.osm_files.specs.declared.fault.Fault.{Fault}
use Rattle.osm_files.specs.EndRule.{lacks_its_end, rule_of_file}
use Rattle.osm_files.specs.Fault.{memory_fault, fault_at}
use Rattle.osm_model.specs.VersionSet.{VersionSet}
use Rattle.osm_files.specs.declared.output.Output.{Ghosts}
use Rattle.osm_files.specs.Change.{change_of}
use Rattle.osm_files.specs.Held.{HoldsSorted}
use Rattle.osm_mirror.specs.declared.run.files_job.Order.{Order}
use Rattle.osm_mirror.specs.declared.run.files_job.Order.TheVariants.{Sorted}
use Rattle.osm_mirror.specs.run.FilesRefusal.{IsVerdict, verdict_by_end, IsRefusedFileBy, IsSoundFile}
use Rattle.osm_mirror.specs.declared.run.shard_job.ShardJob.{ShardJob}
use Rattle.osm_mirror.specs.run.Bounds.{shard_span}
use Rattle.osm_mirror.specs.run.ShardRefusal as shard
use Rattle.osm_merge.proofs.UnionLaws.{nothing_appended as at_first}
use Rattle.osm_mirror.proofs.run_laws.FilesRefusalLaws.{all_at}
use Rattle.osm_mirror.proofs.run_laws.SpanJobLaws.{nothing_cut}
use Rattle.osm_mirror.proofs.run_laws.TurnLaws.{no_verdict_by_end}
use Rattle.osm_mirror.proofs.run_laws.WayLaws.{among}

-- A file that is sound doesn't lack its end.
pub sound_ends : (known : Option (List ℕ)) (order : Order) (end : EndRule)
    → IfSome known (λ all. true ≡ lacks_its_end (rule_of_file end) all)
    → IsSoundFile known order end → (P : Type 0) → (known ≡ None → P) → P
sound_ends None order end lacks sound P unknown = unknown refl
sound_ends (Some all) order end lacks sound P unknown = absurd (false≢true (sym sound.1 ∙ sym lacks))

pub not_cut : (known : Option (List ℕ)) (lacks : List ℕ → Bool) → IfSome known (λ all. false ≡ lacks all)
    → IfSome known (λ all. lacks all ≡ false)
not_cut None lacks h = tt
not_cut (Some all) lacks h = sym h

-- ---- lists of files
-- The same for the files of a shard.
pub among_shard : {F : Type 0} (known : F → Option (List ℕ)) (fails : F → Type 0) (end : EndRule) (files : List F) (input : ℕ) (file : F)
    (fault : Fault) → slice_get files input ≡ Some file → IsRefusedFileBy (fails file) (known file) Sorted end fault
    → shard.AreRefused known fails (shard.IsFaultByRule end) files (fault_at input fault.place fault.reason)
among_shard {F = F} known fails end files input file fault is refused =
    ⊎_elim (λ memory. inl memory) (λ found. inr (inl found))
    (among (λ (f : F). shard.IsFaultByRule end (fails f) (known f)) files input file fault is refused)

-- ---- the files of a shard
module _ {F : Type 0} (known : F → Option (List ℕ)) (fails : F → Type 0) (end : EndRule) (files : List F) (fault : Fault)
    (ended : shard.EndByRule known fails end files) where
  ends_at : (file : F) → slice_get files fault.input ≡ Some file → IfSome (known file) (λ all. lacks_its_end (rule_of_file end) all ≡ false)
  ends_at file at =
      all_at (λ (f : F). IfSome (known f) (λ all. lacks_its_end (rule_of_file end) all ≡ false)) files fault.input file ended at

  unsorted_if : (k : Option (List ℕ)) → IfSome k (λ all. lacks_its_end (rule_of_file end) all ≡ false)
      → IfSome k (λ all. IsVerdict (verdict_by_end (lacks_its_end (rule_of_file end) all) Sorted all) all fault)
      → IfSome k (λ all. (held : VersionSet) → HoldsSorted all held → ⊥)
  unsorted_if None ends found = tt
  unsorted_if (Some all) ends found = λ held h.
      no_verdict_by_end Sorted all held (lacks_its_end (rule_of_file end) all) fault ends h found

  shard_of_rule : shard.AreRefused known fails (shard.IsFaultByRule end) files fault
      → shard.AreRefused known fails shard.IsFileRefusal files fault
  shard_of_rule (inl memory) = inl memory
  shard_of_rule (inr (inl (file, at, inl (failed, read, within)))) = inr (inl (file, at, inl (inr (failed, read))))
  shard_of_rule (inr (inl (file, at, inr found))) =
      inr (inl (file, at, inr (unsorted_if (known file) (ends_at file at) found)))
  shard_of_rule (inr (inr long)) = inr (inr long)

module _ {F O : Type 0} (known : F → Option (List ℕ)) (fails : F → Type 0) (output : Ghosts O) (job : ShardJob) (files : List F)
    (before : O) where
  -- A job that is refused before it begins, since a file lacks its end, wrote nothing.
  pub shard_ends_refused : (fault : Fault) → shard.AreRefused known fails (shard.IsFaultByRule job.end) files fault
      → shard.RefusesShardJob known fails output job files before before fault
  shard_ends_refused fault refused = record {
    why = inl refused;
    cut = λ ended. (nothing_cut known fails job.selection job.format (shard_span job.shard.number job.shard.count) files
        (change_of output before before) fault (at_first (output.holds before))
        (shard_of_rule known fails job.end files fault ended refused)).cut;
  }

  -- A job over files that end as their rule says is refused as the job for its span.
  pub shard_span_refused : (after : O) (fault : Fault)
      → shard.RefusesSpan known fails (shard.IsFaultByRule job.end) job.selection job.format
      (shard_span job.shard.number job.shard.count) files (change_of output before after) fault
      → shard.RefusesShardJob known fails output job files before after fault
  shard_span_refused after fault refused = record {
    why = refused.why;
    cut = λ ends. refused.cut;
  }
