use Rattle.std.proofs.Common.{subst, List, ℕ}
use Rattle.std.proofs.lemmas.Result.{err_from_is_err_and}
use Rattle.osm_files.specs.Input.{InputRest}
use Rattle.osm_files.specs.Load.{Loads, StopsLoading}
use Rattle.osm_mirror.specs.fleet.Mirror.{WhyNotTaken}
use Rattle.osm_mirror.proofs.fleet_laws.MirrorLaws.{of_slice, loaded_valid, takes_file, not_loaded}
use Rattle.osm_mirror.proofs.fleet.mirror.Mirror.take.Goals as goal

pub returns-in_err-loaded-clause-refused : goal.returns-in_err-loaded-clause-refused
returns-in_err-loaded-clause-refused c =
    let p = err_from_is_err_and c.from_residual.result c.from_residual.ensures.1 in
    let stops = of_slice c.new.result (λ (input : InputRest). StopsLoading 0 input c.in_err-loaded.field-0.0)
    c.in_err-loaded.ensures.refused
    in
    rw (p.1, p.2) (subst (λ (bytes : List ℕ). WhyNotTaken bytes c.in_err-loaded.field-0.0) c.new.ensures
    (not_loaded c.new.result c.in_err-loaded.field-0.0 stops))

pub absorb-requires : goal.absorb-requires
absorb-requires c = loaded_valid c.new.result c.in_ok-loaded.loaded
    (of_slice c.new.result (λ (input : InputRest). Loads input c.in_ok-loaded.loaded) c.in_ok-loaded.ensures.loaded)

pub returns-clause-taken : goal.returns-clause-taken
returns-clause-taken c =
    let loads = of_slice c.new.result (λ (input : InputRest). Loads input c.in_ok-loaded.loaded) c.in_ok-loaded.ensures.loaded in
    takes_file _ c.new.result _ _ c.in_ok-loaded.loaded _ c.new.ensures loads c.in_ok-absorb.ensures c.len-versions.ensures
    c.len-versions.type_inv
