-- The refusals of plans: an own rule of this project.
use Rattle.std.specs.Prelude.{◌≡◌, ◌⊎◌, ℕ, List, codes}
use Rattle.osm_mirror.specs.declared.fleet.plan_fault.PlanFault.{PlanFault}
use Rattle.osm_mirror.specs.declared.fleet.plan_fault.PlanReason.{PlanReason}
use Rattle.osm_mirror.specs.declared.fleet.plan_fault.PlanReason.TheVariants.{NotUtf8, BadWord, BadOrder, NoMirror}
use Rattle.osm_mirror.specs.declared.fleet.plan_fault.PlanReason.TheVariants.{Memory}

-- the name of a reason, which is that of its variant
abbrev pub plan_reason_name : PlanReason → List ℕ
plan_reason_name NotUtf8 = codes "NotUtf8"
plan_reason_name BadWord = codes "BadWord"
plan_reason_name BadOrder = codes "BadOrder"
plan_reason_name NoMirror = codes "NoMirror"
plan_reason_name Memory = codes "Memory"

-- the fault of a text for which memory ran out, at no line
abbrev pub memory_fault : PlanFault
memory_fault = record { line = 0; reason = Memory }

-- the fault for a reason at a line; out of memory has no line
abbrev pub fault_at : ℕ → PlanReason → PlanFault
fault_at line Memory = memory_fault
fault_at line reason = record { line = line; reason = reason }

-- words are ill-formed: they spell no value
abbrev pub IsNone : {X : Type 0} → (X → Type 0) → PlanReason → Type 0
IsNone {X} Says reason = (reason ≡ BadWord) × ((x : X) → ¬ Says x)

-- words are ill-formed, or memory ran out
abbrev pub IsNoneOrMemory : {X : Type 0} → (X → Type 0) → PlanReason → Type 0
IsNoneOrMemory Says reason = (reason ≡ Memory) ⊎ IsNone Says reason
