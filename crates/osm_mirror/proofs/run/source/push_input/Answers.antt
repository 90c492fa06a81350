use Rattle.std.proofs.Common.{rules, ◌≡◌, length, refl, subst, inl}
use Rattle.std.proofs.lemmas.Result.{err_from_is_err_and}
use Rattle.osm_files.specs.EndRule.{by_rule}
use Rattle.osm_mirror.specs.run.Given.{IsOpened}
use Rattle.osm_mirror.proofs.run.source.push_input.Goals as goal

pub returns-in_err-push-clause-refused : goal.returns-in_err-push-clause-refused
returns-in_err-push-clause-refused g c =
    let file = c.args.file in
    let p = err_from_is_err_and c.from_residual-in_err-push.result c.from_residual-in_err-push.ensures.1 in
    rw (p.1) (
      (file.read_as, by_rule file.end (g.R.Input.one file.reader)),
      (refl, (g.R.Input.one file.reader, g.R.Input.possible file.reader, refl)),
      inl p.2,
    )

pub returns-clause-pushed : goal.returns-clause-pushed
returns-clause-pushed g c =
    let source = c.in_ok-open_input.field-0 in
    let count : c.len.result ≡ length c.args.sources.now.items = search rules in (
      source,
      c.in_ok-push.ensures.items,
      subst (λ n. IsOpened g.R.Input.can_give n c.args.file source) count c.in_ok-open_input.ensures.opened,
    )
