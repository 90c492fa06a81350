use Rattle.std.proofs.Common.{◌≡◌, length, take}
use Rattle.osm_mirror.specs.fleet.Plan.{LinesSpell, lines_of, parts_of}
use Rattle.osm_mirror.proofs.fleet.plan.read_lines.Given as goal

abbrev pub invariant-lines : goal.invariant-lines
invariant-lines l = record {
  counted : l.number ≡ length l.yielded;
  spelled : LinesSpell (take l.number (lines_of l.text)) (parts_of l.plan);
}
