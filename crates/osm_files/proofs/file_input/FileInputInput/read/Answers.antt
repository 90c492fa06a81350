use Rattle.std.proofs.Common.{sym, subst, take, IfOk}
use Rattle.osm_files.specs.FileInput.{FileInputCanGive}
use Rattle.osm_files.specs.Input.{Gave}
use Rattle.osm_files.specs.declared.file_input.FileInput.{FileInput}
use Rattle.osm_files.specs.declared.file_input.FileInput.TheVariants.{Extent}
use Rattle.osm_files.proofs.file_input.FileInputInput.read.Goals as goal

pub returns-in-Extent-clause-bytes : goal.returns-in-Extent-clause-bytes
returns-in-Extent-clause-bytes g c =
    let can = FileInputCanGive g.F.ReadAt.fails g.F.ReadAt.bytes g.R.Input.can_give in
    subst (λ (s : FileInput _ _). IfOk c.read.result (λ count. Gave can s (Extent c.read.new.self) (take count c.read.new.buffer)))
    (sym c.in-Extent.is) c.read.ensures.bytes
