use Rattle.std.proofs.Common.{◌≡◌, ◌-◌, ◌++◌, length, take, drop, sym, ap, ◌∙◌, arith, length-drop}
use Rattle.std.proofs.lemmas.List.{take_all}
use Rattle.std.proofs.lemmas.Result.{on_ok_weaker}
use Rattle.osm_model.specs.Order.{version_cmp}
use Rattle.osm_model.specs.Merged.{merge}
use Rattle.osm_model.proofs.MergedLaws.{merge-end}
use Rattle.osm_model.proofs.history.append_merged.Goals as goal

pub returns-then-j-right : goal.returns-then-j-right
returns-then-j-right c =
    let rest = drop c.merge.i c.args.left.now in
    let all : take (length c.args.left.now - c.merge.i) rest ≡ rest = take_all _ _ (omega (arith, length-drop c.merge.i c.args.left.now)) in
    let total : c.merge.versions.items ++ rest ≡ c.args.versions.now.items ++ merge version_cmp c.args.left.now c.args.right.now =
    ap (λ t. c.merge.versions.items ++ t) (sym (merge-end version_cmp c.merge.j rest c.args.right.now c.if-j-right.true))
    ∙ c.merge.invariant.merged in
    on_ok_weaker c.append_copies-then-j-right.result
    (λ e. e ∙ ap (λ t. c.merge.versions.items ++ t) all ∙ total) c.append_copies-then-j-right.ensures
