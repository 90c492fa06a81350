use Rattle.std.proofs.Common.{◌≡◌, drop}
use Rattle.osm_mirror.specs.run.FilesJob.{fault_in_files}
use Rattle.osm_mirror.proofs.run.files_turn.fault_of_file.Given as goal

abbrev pub invariant-files : goal.invariant-files
invariant-files l = fault_in_files 0 l.ways l.fault.input l.fault ≡ fault_in_files l.file (drop l.file l.ways) l.input l.fault
