use Rattle.osm_hist.proofs.cli.plan_run.run_lines.Goals as goal

pub write_files-requires : goal.write_files-requires
write_files-requires g c = c.writes.ensures.within c.requires c.in_ok-run.ensures.size
