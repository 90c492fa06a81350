use Rattle.std.proofs.Common.{subst, inl}
use Rattle.std.proofs.lemmas.Result.{err_from_is_err_and}
use Rattle.osm_files.specs.EndRule.{by_rule}
use Rattle.osm_merge.specs.ToCome as source
use Rattle.osm_mirror.specs.run.Check.{IsCounted}
use Rattle.osm_mirror.proofs.run_laws.CheckLaws.{report_is, set_refused}
use Rattle.osm_mirror.proofs.run.check.run_tally.Goals as goal

pub returns-clause-checked : goal.returns-clause-checked
returns-clause-checked g c =
    let h = c.in_ok-loaded.ensures.loaded in
    let n = c.in_ok-sizes.ensures.sizes in (
      h.0,
      h.1,
      report_is (by_rule c.args.end h.0) c.in_ok-loaded.loaded c.new-source.result c.in_ok-sizes.sizes c.checked.result h.2
          c.new-source.ensures
          (subst (λ (s : source.VersionsToCome). IsCounted s c.in_ok-sizes.sizes) n.1 n.2) c.checked.ensures,
    )

pub returns-in_err-sizes-clause-refused : goal.returns-in_err-sizes-clause-refused
returns-in_err-sizes-clause-refused g c =
    let h = c.in_ok-loaded.ensures.loaded in
    let n = c.in_err-sizes.ensures.refused in
    let p = err_from_is_err_and c.from_residual-in_err-sizes.result c.from_residual-in_err-sizes.ensures.1 in
    rw (p.1, p.2) (h.0, h.1, inl (set_refused c.new-source.result n.0 c.in_err-sizes.field-0.0 n.1 n.2))
