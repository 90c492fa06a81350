use Rattle.std.proofs.Common.{◌∙◌, ap, subst, []}
use Rattle.osm_files.specs.Held.{Holds}
use Rattle.osm_files.specs.Input.{InputRest, whole_input}
use Rattle.examples.proofs.files.to_o5m.Goals as goal

pub returns : goal.returns
returns c =
    let held = c.in_ok-loaded.loaded.history in
    let loaded = c.in_ok-loaded.ensures.loaded in
    let written = c.in_ok-write_history.ensures.written in (
      held,
      subst (λ (given : InputRest). Holds given.bytes held) (loaded.1 ∙ ap whole_input c.new.ensures) loaded.2.holds,
      c.into_vec.ensures
          ∙ written.appended [] c.new-output.ensures.bytes,
    )
