use Rattle.std.proofs.Common.{rules, ◌≡◌, sym, subst, Option, Some}
use Rattle.std.proofs.lemmas.Result.{err_from_is_err_and}
use Rattle.osm_model.specs.Data.{VersionData}
use Rattle.osm_mirror.proofs.run_laws.CheckLaws.{Counting, count_none, count_more, count_ends, count_stops}
use Rattle.osm_mirror.proofs.run.check.count.Goals as goal

pub versions-init : goal.versions-init
versions-init g c = λ later k. rw c.new.ensures (later, k, count_none (Some later))

pub versions-preserved : goal.versions-preserved
versions-preserved g c = λ later k.
    let known = subst (λ s. g.S.Source.can_give s later) c.give_back.ensures k in
    let y = (rw c.in-Some.is at c.in_ok-version.ensures.step) later known in
    let x = c.versions.invariant y.0 y.1 in
    let held : c.replace.new.self ≡ Some c.in-Some.version = search rules in (
      x.0,
      x.1,
      subst (λ (last : Option VersionData). Counting (Some x.0) (Some later) last c.count_one-sizes.result) (sym held)
          (count_more (Some x.0) (Some y.0) (Some later) c.versions.last c.in-Some.version c.versions.sizes c.count_one-sizes.result x.2 y.2
          c.count_one-sizes.ensures.versions c.count_one-sizes.ensures.objects c.count_one-sizes.ensures.tally),
    )

pub returns-in_default-clause-sizes : goal.returns-in_default-clause-sizes
returns-in_default-clause-sizes g c =
    let later = g.S.Source.one c.next.new.self in
    let y = (rw c.in_default.is at c.in_ok-version.ensures.step) later (g.S.Source.possible c.next.new.self) in
    let x = c.versions.invariant y.0 y.1 in
    (x.0, x.1, count_ends (Some x.0) (Some y.0) (Some later) c.versions.last c.versions.sizes x.2 y.2)

pub returns-in_err-version-clause-refused : goal.returns-in_err-version-clause-refused
returns-in_err-version-clause-refused g c =
    let later = g.S.Source.one c.next.new.self in
    let y = c.in_err-version.ensures.step later (g.S.Source.possible c.next.new.self) in
    let x = c.versions.invariant y.0 y.1 in
    let p = err_from_is_err_and c.from_residual.result c.from_residual.ensures.1 in
    rw (p.1, p.2) (
      x.0,
      x.1,
      count_stops (Some x.0) (Some y.0)
          (Some later) c.versions.last c.versions.sizes c.in_err-version.field-0.0 x.2 y.2,
    )
