use Rattle.std.proofs.Common.{◌≡◌, ◌∷◌, [], ◌++◌, ◌+◌, take, get_or, arith, sym, subst}
use Rattle.std.proofs.lemmas.List.{take_all}
use Rattle.std.specs.List.{All}
use Rattle.osm_files.proofs.SinkLaws.{front_at}
use Rattle.osm_mirror.specs.declared.run.files_job.JobFile.{JobFile}
use Rattle.osm_mirror.specs.declared.run.files_job.JobFile.TheVariants.{File}
use Rattle.osm_mirror.specs.declared.run.files_job.Order.TheVariants.{Any}
use Rattle.osm_mirror.specs.run.FilesRefusal.{AreSound}
use Rattle.osm_mirror.proofs.run_laws.WayLaws.{all_more, among_by_rule}
use Rattle.osm_mirror.proofs.run.first_fault.refuse_faulty.Goals.{in-File+in_default-check_file, in_default}
use Rattle.osm_mirror.proofs.run.first_fault.refuse_faulty.Goals as goal

pub returns-in-Err-clause-refused : goal.returns-in-Err-clause-refused
returns-in-Err-clause-refused g c =
    rw c.of_input.ensures
    (among_by_rule g.F.ReadAt.fails g.F.ReadAt.bytes g.R.Input.can_give Any c.args.files.now c.files.input
    (File c.in-File.file c.in-File.end) c.in-Err.fault (omega (arith, c.files-test.true))
    (subst (λ (x : JobFile _ _). x ≡ get_or c.args.files.now c.files.input x) c.in-File.is c.index-files-input.is)
    c.in-Err.ensures.refused)

pub files-preserved : goal.files-preserved
files-preserved g c =
    let P : JobFile _ _ → Type 0 = AreSound g.F.ReadAt.bytes in
    let files = c.args.files.now in
    let file = c.index-files-input.result in
    let more : take (c.files.input + 1) files ≡ take c.files.input files ++ file ∷ [] =
    front_at files c.files.input file (omega (arith, c.files-test.true)) c.index-files-input.is in
    let one : P file = elim c.match-file.branch [
      | in-File+in_default-check_file w ↦ subst P (sym w.in-File.is) w.in_default-check_file.ensures.sound
      | in_default w ↦ subst P (sym w.in_default.is) tt
    ] in
    subst (All P) (sym more) (all_more P (take c.files.input files) file c.files.invariant one)

pub returns-clause-sound : goal.returns-clause-sound
returns-clause-sound g c =
    subst (All (AreSound g.F.ReadAt.bytes)) (take_all c.files.input c.args.files.now (omega (arith, c.files-test.false)))
    c.files.invariant
