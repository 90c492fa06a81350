use Rattle.std.proofs.Common.{◌≡◌, ◌∙◌, ◌+◌, ◌-◌, Some, None, slice_get, length, drop, sym, ap, arith}
use Rattle.std.proofs.lemmas.Option.{slice_get_past}
use Rattle.osm_files.specs.declared.fault.Fault.{Fault}
use Rattle.osm_files.specs.Fault.{fault_at}
use Rattle.osm_mirror.specs.declared.run.file_way.FileWay.{FileWay}
use Rattle.osm_mirror.specs.run.FilesJob.{fault_in_run_or, fault_in_files}
use Rattle.osm_mirror.proofs.run_laws.FilesJobLaws.{drop_one}
use Rattle.osm_mirror.proofs.run_laws.WayLaws.{get_slice}
use Rattle.osm_mirror.proofs.run.files_turn.fault_of_file.Goals as goal

pub returns-in-Some-clause-same : goal.returns-in-Some-clause-same
returns-in-Some-clause-same c =
    let ways = c.args.ways.now in
    let fault = c.args.fault in
    let file = c.files.file in
    let way = c.index-ways-file.result in
    let others : Fault = fault_in_files (file + 1) (drop (file + 1) ways) (c.files.input - length way.runs.items) fault in
    let found = c.in-Some.ensures.lookup in
    let at : slice_get way.runs.items c.files.input ≡ Some c.in-Some.run'.now =
    ap (λ runs. slice_get runs c.files.input)
    (ap (λ (w : FileWay). w.runs.items) c.index-ways-file.is ∙ sym c.as_slice.ensures.value)
    ∙ get_slice c.as_slice.result.now c.files.input c.in-Some.run'.now found.3.0 found.1 in
    c.at.ensures
    ∙ ap (λ place. fault_at file place fault.reason) c.offset_in_file.ensures
    ∙ sym (c.files.invariant
    ∙ ap (λ ws. fault_in_files file ws c.files.input fault)
    (drop_one ways file way (omega (arith, c.files-test.true)) c.index-ways-file.is)
    ∙ ap (λ found. fault_in_run_or file found fault others) at)

pub files-preserved : goal.files-preserved
files-preserved c =
    let ways = c.args.ways.now in
    let fault = c.args.fault in
    let file = c.files.file in
    let way = c.index-ways-file.result in
    let rest = drop (file + 1) ways in
    let others : Fault = fault_in_files (file + 1) rest (c.files.input - length way.runs.items) fault in
    let none : slice_get way.runs.items c.files.input ≡ None =
    ap (λ runs. slice_get runs c.files.input)
    (ap (λ (w : FileWay). w.runs.items) c.index-ways-file.is ∙ sym c.as_slice.ensures.value)
    ∙ slice_get_past c.as_slice.result.now c.files.input c.in_default.ensures.lookup.3 in
    c.files.invariant
    ∙ ap (λ ws. fault_in_files file ws c.files.input fault)
    (drop_one ways file way (omega (arith, c.files-test.true)) c.index-ways-file.is)
    ∙ ap (λ found. fault_in_run_or file found fault others) none
    ∙ ap (λ k. fault_in_files (file + 1) rest k fault)
    (omega (
      arith,
      c.len.ensures,
      c.saturating_sub-input.ensures,
      c.as_slice.ensures.len,
      ap length c.as_slice.ensures.value,
      ap (λ (w : FileWay). length w.runs.items) c.index-ways-file.is,
    ))
