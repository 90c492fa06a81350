use Rattle.std.proofs.Common.{rules, ◌≡◌, ◌∙◌, ◌<◌, ◌≤◌, sym, ap, ◌++◌, length}
use Rattle.std.proofs.lemmas.Result.{IfOk-weaker}
use Rattle.osm_model.specs.Sets.{to_list, from_list}
use Rattle.osm_merge.specs.Selected.{selection_of}
use Rattle.osm_merge.specs.Pass.{singleton_if}
use Rattle.osm_merge.proofs.Choosing.{choose_skip, choose_first, choose_next, choose_none, choose_last}
use Rattle.osm_merge.proofs.chosen.choose.Goals.{then-passes+in-Some+in_ok-copy_if, then-passes+in_default, else-passes}
use Rattle.osm_merge.proofs.chosen.choose.Goals.{in-Some-pending+in_ok-copy_if-2, in_default-pending}
use Rattle.osm_merge.proofs.chosen.choose.Goals as goal

pub loop-index-preserved : goal.loop-index-preserved
loop-index-preserved c =
    let s = c.args.selection in
    let list = to_list c.args.history.now in
    let w = c.get-version.result.now in
    let inside : c.loop-index.index < length list = search rules in
    elim c.if-passes.branch [
      | then-passes+in-Some+in_ok-copy_if b ↦
          choose_next s list c.loop-index.index w inside c.get-version.ensures c.loop-index.pending c.if-passes.pending b.in-Some.before
          b.get-before.result.now c.loop-index.chosen.items c.if-passes.chosen.items
          c.loop-index.invariant (sym b.if-passes.ensures) b.in-Some.is b.get-before.ensures b.pending-is
          (ap (λ v. v.items) b.chosen-is ∙ b.in_ok-copy_if.ensures
          ∙ ap (λ stays. c.loop-index.chosen.items ++ singleton_if stays b.get-before.result.now) b.keeps.ensures)
      | then-passes+in_default b ↦
          choose_first s list c.loop-index.index w inside c.get-version.ensures c.loop-index.pending c.if-passes.pending
          c.loop-index.chosen.items
          c.if-passes.chosen.items
          c.loop-index.invariant (sym b.if-passes.ensures) b.in_default.is b.pending-is (ap (λ v. v.items) b.chosen-is)
      | else-passes b ↦
          choose_skip s list c.loop-index.index w inside c.get-version.ensures c.loop-index.pending c.if-passes.pending
          c.loop-index.chosen.items
          c.if-passes.chosen.items
          c.loop-index.invariant (sym b.if-passes.ensures) b.pending-is (ap (λ v. v.items) b.chosen-is)
    ]

pub returns : goal.returns
returns c =
    let s = c.args.selection in
    let set = c.args.history.now in
    let whole : length (to_list set) ≤ c.loop-index.index = search rules in
    let chosen : from_list c.match-pending-2.chosen.items ≡ selection_of s set =
    elim c.match-pending-2.branch [
      | in-Some-pending+in_ok-copy_if-2 b ↦
          choose_last s set c.loop-index.index whole c.loop-index.pending b.in-Some-pending.last b.get-last.result.now
          c.loop-index.chosen.items
          c.match-pending-2.chosen.items
          c.loop-index.invariant b.in-Some-pending.is b.get-last.ensures
          (ap (λ v. v.items) b.chosen-is ∙ b.in_ok-copy_if-2.ensures
          ∙ ap (λ stays. c.loop-index.chosen.items ++ singleton_if stays b.get-last.result.now) b.stays.ensures)
      | in_default-pending b ↦
          choose_none s set c.loop-index.index whole c.loop-index.pending c.loop-index.chosen.items c.match-pending-2.chosen.items
          c.loop-index.invariant b.in_default-pending.is (ap (λ v. v.items) b.chosen-is)
    ] in
    IfOk-weaker c.from_versions.result _ _ (λ h is. is ∙ chosen) c.from_versions.ensures
