use Rattle.std.proofs.Common.{◌≡◌, ◌-◌, ◌≤◌, ◌<◌, List, ℕ, take, drop, length, get_or, arith, rules, subst}
use Rattle.std.proofs.lemmas.List.{take-append-le}
use Rattle.osm_files.specs.LineKey.{IsKeyOfFront}
use Rattle.osm_files.specs.Lines.{AreSkipped}
use Rattle.osm_files.proofs.FirstLaws.{front_named, front_skipped, front_comment, front_line_read}
use Rattle.osm_files.proofs.lines.read_front.Goals as goal

pub returns-in-Some-clause-front : goal.returns-in-Some-clause-front
returns-in-Some-clause-front g c =
    let read : List ℕ = take c.in-Ok.count c.read_at.new.buffer in
    let same = take-append-le c.in-Ok.count c.read_at.new.buffer (drop c.min-most.result c.args.buffer.now) (search (rules, arith)) in
    let few : length read ≤ c.args.end - c.args.offset = search (rules, arith) in
    front_named (g.F.ReadAt.fails c.args.file.now) c.args.offset c.args.end read few (g.F.ReadAt.bytes c.args.file.now) c.in-Some.key
    c.in-Ok.ensures.bytes (subst (λ bytes. IsKeyOfFront bytes c.in-Some.key) same c.in-Some.ensures)

pub returns-then-size-gt0-clause-front : goal.returns-then-size-gt0-clause-front
returns-then-size-gt0-clause-front g c =
    let read : List ℕ = take c.in-Ok.count c.read_at.new.buffer in
    let same = take-append-le c.in-Ok.count c.read_at.new.buffer (drop c.min-most.result c.args.buffer.now) (search (rules, arith)) in
    let few : length read ≤ c.args.end - c.args.offset = search (rules, arith) in
    front_skipped (g.F.ReadAt.fails c.args.file.now) c.args.offset c.args.end read few (g.F.ReadAt.bytes c.args.file.now)
    c.skipped_size-size.result c.in-Ok.ensures.bytes
    (subst (λ bytes. c.skipped_size-size.result ≤ length bytes) same c.skipped_size-size.ensures.within)
    (subst (λ bytes. AreSkipped bytes c.skipped_size-size.result) same c.skipped_size-size.ensures.skipped)

pub returns-then-bytes-eq35-clause-front : goal.returns-then-bytes-eq35-clause-front
returns-then-bytes-eq35-clause-front g c =
    let read : List ℕ = take c.in-Ok.count c.read_at.new.buffer in
    let same = take-append-le c.in-Ok.count c.read_at.new.buffer (drop c.min-most.result c.args.buffer.now) (search (rules, arith)) in
    let few : length read ≤ c.args.end - c.args.offset = search (rules, arith) in
    let some : 0 < length read = search (rules, arith) in
    front_comment (g.F.ReadAt.fails c.args.file.now) c.args.offset c.args.end c.clamp-next.result c.in_ok-line_start.field-0
    c.requires.some (g.F.ReadAt.bytes c.args.file.now) read c.in_ok-line_start.ensures.start
    (λ low high. omega (arith, c.clamp-next.ensures, low, high)) few c.in-Ok.ensures.bytes some
    (subst (λ bytes. get_or bytes 0 0 ≡ 35) same c.if-bytes-eq35.true)

pub returns-clause-front : goal.returns-clause-front
returns-clause-front g c =
    front_line_read (g.F.ReadAt.fails c.args.file.now) c.args.offset c.args.end c.clamp-next.result c.in_ok-line_start.field-0
    c.requires.some (g.F.ReadAt.bytes c.args.file.now) c.in_ok-line_start.ensures.start
    (λ low high. omega (arith, c.clamp-next.ensures, low, high)) c.read_line.result c.read_line.ensures.line
