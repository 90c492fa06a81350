-- The change that a call makes of an output.
use Rattle.osm_files.specs.Output.{Change}
use Rattle.osm_files.specs.declared.output.Output.{Ghosts}

-- the change of an output from its state `before` a call to its state `after` it; `output` has the output's ghosts
abbrev pub change_of : {O : Type 0} → Ghosts O → O → O → Change
change_of output before after = record {
  before = output.holds before;
  after = output.holds after;
  failed_before = output.failed before;
  failed = output.failed after;
}
