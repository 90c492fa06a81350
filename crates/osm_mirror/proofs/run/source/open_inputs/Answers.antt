use Rattle.std.proofs.Common.{rules, ◌≡◌, length, refl}
use Rattle.std.specs.Vec.Iter.{into_iter_items, into_iter_len}
use Rattle.std.proofs.lemmas.Iterator.Adapters.{YieldsList-from_vec}
use Rattle.std.proofs.lemmas.Iterator.Consumers.{YieldsList-so_far, YieldsList-turn, YieldsList-end}
use Rattle.std.proofs.lemmas.Result.{err_from_is_err_and}
use Rattle.osm_mirror.proofs.run_laws.SourceLaws.{push_opened, stop_unread, opened_all}
use Rattle.osm_mirror.proofs.run.source.open_inputs.Goals as goal

pub files-preserved : goal.files-preserved
files-preserved g c =
    let items = c.files.sources.items in
    let pushed = c.in_ok-push_input.ensures.pushed in
    push_opened g.R.Input.can_give c.files.yielded c.in-Some.file items c.push_input.new.sources.items pushed.0 (length items)
    c.files.invariant pushed.1 refl pushed.2

pub returns-in_err-push_input-clause-refused : goal.returns-in_err-push_input-clause-refused
returns-in_err-push_input-clause-refused g c =
    let items = c.files.sources.items in
    let all : into_iter_items c.into_iter-file-iterator.result ≡ c.args.inputs.items = search rules in
    let many : into_iter_len c.into_iter-file-iterator.result ≡ length c.args.inputs.items = search rules in
    let yields = YieldsList-from_vec c.args.inputs.items all many in
    let so_far = YieldsList-so_far yields c.files.yielded c.files.file-iterator c.files.yielded_by in
    let turn = YieldsList-turn yields c.files.yielded c.files.file-iterator c.files.yielded_by c.next.result c.next.new.self c.in-Some.file
    c.in-Some.is c.next.ensures.steps in
    let p = err_from_is_err_and c.from_residual.result c.from_residual.ensures.1 in
    rw (p.1, p.2) (stop_unread g.R.Input.can_give g.R.Input.one g.R.Input.possible c.files.yielded c.args.inputs.items c.in-Some.file items
    (length items) c.in_err-push_input.field-0.0 c.files.invariant refl so_far turn c.in_err-push_input.ensures.refused)

pub returns-clause-opened : goal.returns-clause-opened
returns-clause-opened g c =
    let all : into_iter_items c.into_iter-file-iterator.result ≡ c.args.inputs.items = search rules in
    let many : into_iter_len c.into_iter-file-iterator.result ≡ length c.args.inputs.items = search rules in
    let end =
    YieldsList-end (YieldsList-from_vec c.args.inputs.items all many) c.files.yielded c.files.file-iterator c.files.yielded_by
    c.next.result c.next.new.self c.in-None.is c.next.ensures.steps in
    opened_all g.R.Input.can_give c.files.yielded c.args.inputs.items c.files.sources.items c.files.invariant end.0
