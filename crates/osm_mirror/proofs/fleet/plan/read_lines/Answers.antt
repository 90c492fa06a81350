use Rattle.std.proofs.Common.{◌≡◌, ◌<◌, length, get_or, take, lit<, refl, arith}
use Rattle.std.proofs.lemmas.Iterator.Consumers.{YieldsList-turn, YieldsList-end}
use Rattle.std.proofs.lemmas.Iterator.Splits.{YieldsList-from_str_split}
use Rattle.std.proofs.lemmas.List.{take_more, take_all, length_push}
use Rattle.osm_mirror.specs.fleet.Plan.{LinesSpell, lines_of, parts_of}
use Rattle.osm_mirror.proofs.fleet_laws.PlanTextLaws.{nothing_spelled, line_added, spelled_names, fault_added, lines_few}
use Rattle.osm_mirror.proofs.fleet.plan.read_lines.Goals as goal
use Rattle.osm_mirror.proofs.fleet.plan.read_lines.Goals.{In-Some, In-None}

pub lines-init : goal.lines-init
lines-init c = record { counted = refl; spelled = nothing_spelled _ c.new.ensures.items c.new-2.ensures.items c.new-3.ensures.items }

-- the line of this turn is the next one of the text
turn : (c : In-Some) → (c.lines.number < length (lines_of c.args.text.now))
    × (c.in-Some.line.now ≡ get_or (lines_of c.args.text.now) c.lines.number c.in-Some.line.now)
turn c =
    let e = c.split-line-items.ensures in
    let split = YieldsList-from_str_split {s = c.split-line-items.result} 10 c.args.text.now (lit< tt) e.text e.has_more e.pattern in
    let yields = rw (← c.into_iter-line-iterator.ensures.into_iter_gives) at split in
    let here = YieldsList-turn yields c.lines.yielded _ c.lines.yielded_by _ _ c.in-Some.line c.in-Some.is c.next.ensures.steps in
    rw c.lines.invariant.counted here

pub overflow_add-number : goal.overflow_add-number
overflow_add-number c = let here = turn (goal.at.overflow_add-number c).In-Some in omega (arith, lines_few c.args.text.now, here.0)

pub returns-in-Err-clause-fault : goal.returns-in-Err-clause-fault
returns-in-Err-clause-fault c =
    let here = turn (goal.at.returns-in-Err-clause-fault c).In-Some in
    rw c.at.ensures (fault_added c.args.text.now c.in-Some.line.now c.lines.number
    (parts_of c.lines.plan) c.in-Err.reason here.0 here.1 c.lines.invariant.spelled c.in-Err.ensures.refused)

pub lines-preserved : goal.lines-preserved
lines-preserved c =
    let here = turn (goal.at.lines-preserved c).In-Some in
    let all = lines_of c.args.text.now in
    let more = line_added (take c.lines.number all) c.in-Some.line.now (parts_of c.lines.plan)
    (parts_of c.add_line.new.self) c.lines.invariant.spelled c.in_default.ensures.added in
    record {
      counted = omega (arith, length_push c.lines.yielded c.in-Some.line, c.lines.invariant.counted);
      spelled = rw (take_more all c.lines.number c.in-Some.line.now here.0, ← here.1) more;
    }

-- at the end all lines are spelled
ended : (c : In-None) → LinesSpell (lines_of c.args.text.now) (parts_of c.lines.plan)
ended c =
    let e = c.split-line-items.ensures in
    let split = YieldsList-from_str_split {s = c.split-line-items.result} 10 c.args.text.now (lit< tt) e.text e.has_more e.pattern in
    let yields = rw (← c.into_iter-line-iterator.ensures.into_iter_gives) at split in
    let end = YieldsList-end yields c.lines.yielded _ c.lines.yielded_by _ _ c.in-None.is c.next.ensures.steps in
    rw (take_all c.lines.number (lines_of c.args.text.now) (omega (arith, end.1, c.lines.invariant.counted))) at c.lines.invariant.spelled

pub returns-clause-plan : goal.returns-clause-plan
returns-clause-plan c = ended c

pub returns-clause-named : goal.returns-clause-named
returns-clause-named c = spelled_names (lines_of c.args.text.now) c.lines.plan (ended c)
