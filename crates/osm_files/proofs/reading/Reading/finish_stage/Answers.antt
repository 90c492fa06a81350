use Rattle.std.proofs.Common.{◌≡◌, ◌∙◌, sym, ap, None, option_map}
use Rattle.osm_files.specs.Reading.{state_data_of}
use Rattle.osm_files.proofs.ReadingLaws.{nothing_read}
use Rattle.osm_files.proofs.reading.Reading.finish_stage.Goals as goal

pub returns-in-None : goal.returns-in-None
returns-in-None g c =
    let p = c.args.self.now in
    let none : p.stage ≡ None = sym (ap (λ v. v.stage) c.self.view_is) ∙ ap (option_map state_data_of) c.in-None.is in
    nothing_read p none (c.requires none)
