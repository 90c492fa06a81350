use Rattle.std.proofs.Common.{◌≡◌, ◌≤◌, ◌*◌, length, drop}
use Rattle.osm_model.specs.Line.{reference_text}
use Rattle.osm_model.specs.Cursor.{more_text}
use Rattle.osm_model.proofs.append.append_few_references.Given as goal

abbrev pub invariant-loop-count : goal.invariant-loop-count
invariant-loop-count l = record {
  within : l.count ≤ length l.ids;
  written : drop l.start l.buffer ≡ more_text reference_text (drop l.count l.ids);
  fits : 23 * l.count ≤ l.start;
  inside : l.start ≤ length l.buffer;
}

abbrev pub decreases-loop-count : goal.decreases-loop-count
decreases-loop-count l = l.count
