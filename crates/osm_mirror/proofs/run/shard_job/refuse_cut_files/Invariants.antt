use Rattle.std.proofs.Common.{take}
use Rattle.osm_mirror.specs.run.ShardRefusal.{EndByRule}
use Rattle.osm_mirror.proofs.run.shard_job.refuse_cut_files.Given as goal

abbrev pub invariant-files : goal.invariant-files
invariant-files g l = EndByRule (λ file. g.F.ReadAt.bytes file.now) (λ file. g.F.ReadAt.fails file.now) l.end (take l.input l.files)
