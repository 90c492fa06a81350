-- The texts of plans: an own rule of this project.
use Rattle.std.specs.Prelude.{◌≡◌, ◌⊎◌, ℕ, ◌+◌, ◌<◌, ◌==◌, true, List, [], ◌∷◌, ◌++◌, length, map, filter, IsUtf8}
use Rattle.std.specs.List.{slice_split, All}
use Rattle.osm_model.specs.Pairwise.{Pairwise}
use Rattle.opl_line.specs.Spells.{is_full}
use Rattle.osm_mirror.specs.declared.fleet.keep.Keep.{Keep}
use Rattle.osm_mirror.specs.declared.fleet.plan.Plan.{Plan}
use Rattle.osm_mirror.specs.declared.fleet.plan_fault.PlanFault.{PlanFault}
use Rattle.osm_mirror.specs.declared.fleet.plan_fault.PlanReason.{PlanReason}
use Rattle.osm_mirror.specs.declared.fleet.plan_fault.PlanReason.TheVariants.{NotUtf8, BadWord, BadOrder, NoMirror}
use Rattle.osm_mirror.specs.fleet.Event as event
use Rattle.osm_mirror.specs.fleet.Event.{IsWithin}
use Rattle.osm_mirror.specs.declared.fleet.plan_line.PlanWrite.{PlanWrite}
use Rattle.osm_mirror.specs.declared.fleet.plan_line.PlanLine.{PlanLine}
use Rattle.osm_mirror.specs.declared.fleet.plan_line.PlanLine.TheVariants.{Mirror, Step, Write}
use Rattle.osm_mirror.specs.fleet.PlanLine.{LineSays, NamesMirrors}

-- the parts of a plan, as lists
pub record Parts : Type 0 where
  pub mirrors : List Keep
  pub steps : List event.Step
  pub writes : List PlanWrite

abbrev pub parts_of : Plan → Parts
parts_of plan = record { mirrors = plan.mirrors.items; steps = plan.steps.items; writes = plan.writes.items }

-- the parts that the lines of a plan spell: the mirrors first, then the steps, then the writes
abbrev pub plan_lines : Parts → List PlanLine
plan_lines parts = map Mirror parts.mirrors ++ (map Step parts.steps ++ map Write parts.writes)

-- the lines of a text, which end at LF; if the last one ends in LF, an empty one follows
abbrev pub lines_of : List ℕ → List (List ℕ)
lines_of text = slice_split (λ b. b == 10) text

-- Lines spell a plan: those that aren't empty spell its parts in their order, one for one, and name only its mirrors.
pub record LinesSpell (lines : List (List ℕ)) (parts : Parts) : Type 0 where
  pub said : Pairwise LineSays (filter is_full lines) (plan_lines parts)
  pub named : All (NamesMirrors (length parts.mirrors)) (plan_lines parts)

-- a text spells a plan
pub record PlanSpells (text : List ℕ) (plan : Plan) : Type 0 where
  pub utf8 : IsUtf8 text
  pub spelled : LinesSpell (lines_of text) (parts_of plan)

-- the steps and the writes of a plan name only its mirrors
pub record NamesItsMirrors (plan : Plan) : Type 0 where
  pub steps : All (IsWithin (length plan.mirrors.items)) plan.steps.items
  pub writes : All (λ w. w.mirror < length plan.mirrors.items) plan.writes.items

-- a text spells no plan at all
abbrev pub SpellsNoPlan : List ℕ → Type 0
SpellsNoPlan text = (plan : Plan) → ¬ PlanSpells text plan

-- the part of a line comes in its turn after the parts of the lines before: a mirror before all steps and writes, a
-- step before all writes
abbrev pub IsInTurn : Parts → PlanLine → Type 0
IsInTurn before (Mirror keep) = (before.steps ≡ []) × (before.writes ≡ [])
IsInTurn before (Step s) = before.writes ≡ []
IsInTurn before (Write w) = Unit {0}

-- why the part of a line is refused after the parts of the lines before: for its order first, then for the mirrors that
-- it names
abbrev pub IsLineRefused : Parts → PlanLine → PlanReason → Type 0
IsLineRefused before said BadOrder = ¬ IsInTurn before said
IsLineRefused before said NoMirror = IsInTurn before said × (¬ NamesMirrors (length before.mirrors) said)
IsLineRefused before said _ = ⊥

-- why a line is faulty after lines that spell these parts: it spells no part, or its part is refused
abbrev pub LineFault : Parts → List ℕ → PlanReason → Type 0
LineFault before line BadWord = (is_full line ≡ true) × ((said : PlanLine) → ¬ LineSays line said)
LineFault before line reason = (said : PlanLine) × LineSays line said × IsLineRefused before said reason

-- the first faulty line of a text, and why it is faulty; the lines before it spell a plan
pub record IsFirstFault (text : List ℕ) (fault : PlanFault) : Type 0 where
  pub front : List (List ℕ)
  pub faulty : List ℕ
  pub rest : List (List ℕ)
  pub before : Parts
  pub lines : lines_of text ≡ front ++ faulty ∷ rest
  pub spelled : LinesSpell front before
  pub refused : LineFault before faulty fault.reason
  pub numbered : fault.line ≡ length front + 1

-- why a text is refused: it isn't UTF-8, which is the fault of no line, or it has a first faulty line
abbrev pub PlanFaultOf : List ℕ → PlanFault → Type 0
PlanFaultOf text fault =
    ((¬ IsUtf8 text) × (fault ≡ record { line = 0; reason = NotUtf8 })) ⊎ (IsUtf8 text × IsFirstFault text fault)

-- the parts with the part of one more line at the end
abbrev pub with_line : Parts → PlanLine → Parts
with_line before (Mirror keep) = record before { mirrors = before.mirrors ++ keep ∷ [] }
with_line before (Step s) = record before { steps = before.steps ++ s ∷ [] }
with_line before (Write w) = record before { writes = before.writes ++ w ∷ [] }

-- the part of a line is added to the parts before it
pub record IsAdded (before : Parts) (said : PlanLine) (after : Parts) : Type 0 where
  pub in_turn : IsInTurn before said
  pub named : NamesMirrors (length before.mirrors) said
  pub added : after ≡ with_line before said

-- a line is added: an empty one has no part
abbrev pub IsLineAdded : List ℕ → Parts → Parts → Type 0
IsLineAdded line before after =
    ((line ≡ []) × (after ≡ before)) ⊎ ((said : PlanLine) × LineSays line said × IsAdded before said after)
