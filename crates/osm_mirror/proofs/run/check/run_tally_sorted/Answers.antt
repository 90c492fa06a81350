use Rattle.std.proofs.Common.{◌≡◌, ◌⊎◌, subst, Some}
use Rattle.osm_files.specs.Fault.{memory_fault}
use Rattle.std.proofs.lemmas.Result.{err_from_is_err_and}
use Rattle.osm_files.specs.EndRule.{by_rule}
use Rattle.osm_merge.specs.ToCome as source
use Rattle.osm_mirror.specs.run.Check.{IsCounted}
use Rattle.osm_mirror.proofs.run_laws.CheckLaws.{sorted_report_is}
use Rattle.osm_mirror.proofs.run.check.run_tally_sorted.Goals as goal

pub returns-clause-checked : goal.returns-clause-checked
returns-clause-checked g c =
    let n = c.in_ok-sizes.ensures.sizes in
    let x = c.in_ok-format.ensures.opened n.0 n.1 in (
      x.0,
      x.1,
      sorted_report_is (by_rule c.args.end x.0) c.in_ok-format.format c.in_ok-sizes.sizes c.checked.result x.2.0
          (subst (λ (s : source.VersionsToCome). IsCounted s c.in_ok-sizes.sizes) x.2.1 n.2) c.checked.ensures,
    )

pub returns-in_err-sizes-clause-refused : goal.returns-in_err-sizes-clause-refused
returns-in_err-sizes-clause-refused g c =
    let n = c.in_err-sizes.ensures.refused in
    let x = c.in_ok-format.ensures.opened n.0 n.1 in
    let p = err_from_is_err_and c.from_residual-in_err-sizes.result c.from_residual-in_err-sizes.ensures.1 in
    rw (p.1, p.2) (
      x.0,
      x.1,
      subst (λ (s : source.VersionsToCome). (c.in_err-sizes.field-0.0 ≡ memory_fault)
          ⊎ (s.refusal ≡ Some c.in_err-sizes.field-0.0)) x.2.1 n.2,
    )
