-- Laws of plan files.
use Rattle.std.specs.Prelude.{◌≡◌, ℕ, List}
use Rattle.osm_mirror.specs.declared.fleet.plan.Plan.{Plan}
use Rattle.osm_mirror.specs.declared.fleet.plan_fault.PlanFault.{PlanFault}
use Rattle.osm_mirror.specs.fleet.Plan.{PlanSpells, SpellsNoPlan, PlanFaultOf, parts_of}

-- two plans that one text spells have the same parts
abbrev pub OnePlan : Type 0
OnePlan = (text : List ℕ) (one other : Plan) → PlanSpells text one → PlanSpells text other →
    parts_of one ≡ parts_of other

-- a text that has a fault spells no plan
abbrev pub FaultySpellsNothing : Type 0
FaultySpellsNothing = (text : List ℕ) (fault : PlanFault) → PlanFaultOf text fault → SpellsNoPlan text
