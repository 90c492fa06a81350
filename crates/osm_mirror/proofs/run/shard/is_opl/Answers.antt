use Rattle.std.proofs.Common.{◌≡◌, ◌∙◌, ℕ, Bool, true, false, List, length, Option, Some, None, IfSome, is_some, if◌then◌else◌, refl, ap}
use Rattle.osm_mirror.specs.run.Bounds.{is_opl}
use Rattle.osm_mirror.specs.run.ShardExtent.{IsOplSize}
use Rattle.osm_mirror.proofs.run.shard.is_opl.Goals as goal

some_if : (b : Bool) (size : ℕ) → is_some (if b then Some size else None) ≡ b
some_if true size = refl
some_if false size = refl

-- a file has a size as an OPL file only if it is one
opl_known : (known : Option (List ℕ)) (size : Option ℕ) → IsOplSize known size → IfSome known (λ all. is_some size ≡ is_opl all)
opl_known None size is = tt
opl_known (Some all) size is = ap is_some is ∙ some_if (is_opl all) (length all)
