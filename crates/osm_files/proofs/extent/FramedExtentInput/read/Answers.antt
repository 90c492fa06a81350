use Rattle.std.proofs.Common.{◌≡◌, take, [], ◌≤◌, sym, ◌∙◌, leb-true}
use Rattle.std.proofs.lemmas.Result.{IfOk-weaker}
use Rattle.osm_files.specs.Extent.{ExtentCanGive}
use Rattle.osm_files.proofs.ExtentLaws.{before_read, after_read, after_ended}
use Rattle.osm_files.proofs.extent.FramedExtentInput.read.Goals as goal

pub returns-then-not-is_empty-clause-bytes : goal.returns-then-not-is_empty-clause-bytes
returns-then-not-is_empty-clause-bytes g c =
    let s = c.args.self.now in
    IfOk-weaker c.read.result _ _
    (λ count gave. before_read
    (ExtentCanGive (g.F.ReadAt.fails s.extent.file.now) (g.F.ReadAt.bytes s.extent.file.now) s.extent.next s.extent.end) s.before s.after
    (take count c.read.new.buffer) c.read.new.self gave)
    c.read.ensures.bytes

pub returns-else-not-is_read-clause-bytes : goal.returns-else-not-is_read-clause-bytes
returns-else-not-is_read-clause-bytes g c =
    let s = c.args.self.now in
    let none : s.before ≡ [] = c.is_empty.ensures.0 c.if-not-is_empty.false in
    let read : s.extent.end ≤ s.extent.next = leb-true s.extent.end s.extent.next (sym c.is_read.ensures ∙ c.if-not-is_read.false) in
    IfOk-weaker c.read-else-not-is_read.result _ _
    (λ count gave. after_read (g.F.ReadAt.fails s.extent.file.now) (g.F.ReadAt.bytes s.extent.file.now) s.extent.next s.extent.end
    read s.before none s.after (take count c.read-else-not-is_read.new.buffer) c.read-else-not-is_read.new.self gave)
    c.read-else-not-is_read.ensures.bytes

pub returns-else-not-is_read-clause-end : goal.returns-else-not-is_read-clause-end
returns-else-not-is_read-clause-end g c = λ zero_it_is room.
    let s = c.args.self.now in
    let none : s.before ≡ [] = c.is_empty.ensures.0 c.if-not-is_empty.false in
    let read : s.extent.end ≤ s.extent.next = leb-true s.extent.end s.extent.next (sym c.is_read.ensures ∙ c.if-not-is_read.false) in
    after_ended (g.F.ReadAt.fails s.extent.file.now) (g.F.ReadAt.bytes s.extent.file.now) s.extent.next s.extent.end read s.before
    none s.after (c.read-else-not-is_read.ensures.end zero_it_is room)
