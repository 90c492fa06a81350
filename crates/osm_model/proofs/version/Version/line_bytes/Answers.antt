use Rattle.std.proofs.Common.{[], sym, ◌∙◌, ap, ◌++◌}
use Rattle.osm_model.specs.Cursor.{from_next}
use Rattle.osm_model.proofs.CursorLaws.{coming_is, line-from_head}
use Rattle.osm_model.proofs.version.Version.line_bytes.Goals as goal

pub returns-clause-runs : goal.returns-clause-runs
returns-clause-runs c = coming_is c.args.self.now c.at.result [] _ c.at.ensures.text c.at.ensures.position
    ∙ sym (line-from_head c.args.self.now)

pub returns-clause-bytes : goal.returns-clause-bytes
returns-clause-bytes c = ap (λ t. t ++ from_next c.args.self.now c.at.result) c.new.ensures ∙ returns-clause-runs c
