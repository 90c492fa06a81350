use Rattle.std.proofs.Common.{rules, ◌≡◌, ◌∙◌, ap, option_map}
use Rattle.osm_files.specs.Position.{with_state}
use Rattle.osm_files.specs.Reading.{state_data_of}
use Rattle.osm_files.proofs.ReadingLaws.{nothing_held, found_held, refused_held}
use Rattle.osm_files.proofs.reading.Reading.read_held.Goals as goal
use Rattle.osm_files.proofs.reading.Reading.read_held.Goals.{then-is_none, else-is_none}

pub returns-in_default-clause-found : goal.returns-in_default-clause-found
returns-in_default-clause-found g c =
    let is : c.if-is_none.self ≡ with_state c.args.self.now = elim c.if-is_none.branch [
      | then-is_none w ↦ w.self-is ∙ w.detect_grammar.ensures
      | else-is_none w ↦ search rules
    ] in
    nothing_held c.args.self.now _ (c.self-2.view_is ∙ is) (ap (option_map state_data_of) c.in_default.is)

pub returns-in-Ok-clause-found : goal.returns-in-Ok-clause-found
returns-in-Ok-clause-found g c =
    let is : c.if-is_none.self ≡ with_state c.args.self.now = elim c.if-is_none.branch [
      | then-is_none w ↦ w.self-is ∙ w.detect_grammar.ensures
      | else-is_none w ↦ search rules
    ] in
    found_held c.args.self.now _ c.in-Some.stage _ (c.self-2.view_is ∙ is) (ap (option_map state_data_of) c.in-Some.is) c.as_slice.ensures
    c.in-Ok.unit
    (state_data_of c.read.new.self) c.in-Ok.ensures.found c.in-Ok.ensures.unmoved

pub returns-in-Err-clause-found : goal.returns-in-Err-clause-found
returns-in-Err-clause-found g c =
    let is : c.if-is_none.self ≡ with_state c.args.self.now = elim c.if-is_none.branch [
      | then-is_none w ↦ w.self-is ∙ w.detect_grammar.ensures
      | else-is_none w ↦ search rules
    ] in
    refused_held c.args.self.now _ c.in-Some.stage _ (c.self-2.view_is ∙ is) (ap (option_map state_data_of) c.in-Some.is) c.as_slice.ensures
    c.in-Err.reason (state_data_of c.read.new.self) c.args.self.now c.in-Err.ensures.found
