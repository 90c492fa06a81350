use Rattle.std.proofs.Common.{◌≡◌, ◌∙◌, ◌+◌, List, [], ◌∷◌, ◌++◌, take, arith, refl, sym, ap, subst, append_assoc}
use Rattle.std.proofs.lemmas.List.{take_all}
use Rattle.osm_model.specs.Pairwise.{Pairwise}
use Rattle.osm_model.proofs.PairwiseLaws.{pairwise_push}
use Rattle.osm_files.specs.declared.end_rule.EndRule.TheVariants.{Any}
use Rattle.osm_files.specs.declared.file_input.FileInput.TheVariants.{Extent}
use Rattle.osm_files.specs.declared.sorted_run.SortedRun.{SortedRun}
use Rattle.osm_files.specs.FileInput.{FileInputCanGive}
use Rattle.osm_files.proofs.SinkLaws.{front_at}
use Rattle.osm_mirror.specs.declared.run.input.InputFile.{InputFile}
use Rattle.osm_mirror.specs.run.FilesJob.{OpensRun}
use Rattle.osm_mirror.proofs.run.files_turn.push_runs.Goals as goal

pub runs-preserved : goal.runs-preserved
runs-preserved g c =
    let gives = FileInputCanGive g.F.ReadAt.fails g.F.ReadAt.bytes g.R.Input.can_give in
    let way = c.args.way.now in
    let Opens : InputFile _ → SortedRun → Type 0 =
    OpensRun gives (g.F.ReadAt.fails c.args.file.now) (g.F.ReadAt.bytes c.args.file.now) way.size way.read_as in
    let index = c.runs.index in
    let run = c.index-run.result.now in
    let file : InputFile _ = record { reader = Extent c.of_run.result; read_as = way.read_as; end = Any } in
    let so_far = c.runs.invariant in
    let more : take (index + 1) way.runs.items ≡ take index way.runs.items ++ run ∷ [] =
    front_at way.runs.items index run (omega (arith, c.runs-test.true, c.len-index-end.ensures)) c.index-run.ensures in (
      so_far.0 ++ file ∷ [],
      c.in_ok-push.ensures.items ∙ ap (λ xs. xs ++ file ∷ []) so_far.1 ∙ append_assoc c.args.inputs.now.items so_far.0 (file ∷ []),
      subst (λ (rs : List SortedRun). Pairwise Opens (so_far.0 ++ file ∷ []) rs) (sym more)
          (pairwise_push Opens so_far.0 (take index way.runs.items) file run so_far.2 (record {
            gives_run = λ given x. (c.of_run.ensures given).0 x;
            read_as_is = refl;
            end_is = refl;
          })),
    )

pub returns-clause-added : goal.returns-clause-added
returns-clause-added g c end =
    let gives = FileInputCanGive g.F.ReadAt.fails g.F.ReadAt.bytes g.R.Input.can_give in
    let way = c.args.way.now in
    let Opens : InputFile _ → SortedRun → Type 0 =
    OpensRun gives (g.F.ReadAt.fails c.args.file.now) (g.F.ReadAt.bytes c.args.file.now) way.size way.read_as in
    let index = c.runs.index in
    let so_far = c.runs.invariant in
    let whole : take index way.runs.items ≡ way.runs.items =
    take_all index way.runs.items (omega (arith, c.runs-test.false, c.len-index-end.ensures)) in (
      so_far.0,
      so_far.1,
      subst (λ (rs : List SortedRun). Pairwise Opens so_far.0 rs) whole so_far.2,
    )
