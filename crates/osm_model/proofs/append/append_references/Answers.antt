use Rattle.std.proofs.Common.{rules, ◌∷◌, ◌++◌, []}
use Rattle.osm_model.specs.Line.{list_text, reference_text}
use Rattle.osm_model.proofs.AppendLaws.{list_begins, more_after}
use Rattle.osm_model.proofs.ExtendsLaws.{extends_trans}
use Rattle.osm_model.proofs.append.append_references.Goals as goal

pub loop-rest-init : goal.loop-rest-init
loop-rest-init c = (
  list_begins reference_text c.in-Some.first.now c.args.ids.now c.in-Some.more.now
      (32 ∷ 78 ∷ []) c.args.out.now.items c.append_after.new.out.items (search rules) c.in_ok-append_after.ensures.appended,
  c.append_after.ensures.kept,
)

pub loop-rest-preserved : goal.loop-rest-preserved
loop-rest-preserved c = (
  more_after reference_text (c.args.out.now.items ++ (32 ∷ 78 ∷ list_text reference_text c.args.ids.now)) c.loop-rest.out.items
      c.append_few_references.new.out.items
      c.loop-rest.rest.now c.split_at.result.0.now c.split_at.result.1.now
      (search rules) c.loop-rest.invariant.0 c.in_ok-append_few_references.ensures.appended,
  extends_trans c.loop-rest.invariant.1 c.append_few_references.ensures.kept,
)
