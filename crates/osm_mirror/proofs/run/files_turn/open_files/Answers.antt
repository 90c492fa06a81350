use Rattle.std.proofs.Common.{rules, ◌≡◌, ◌∙◌, [], ◌∷◌, ◌++◌, length, map, sym, ap, subst}
use Rattle.std.specs.Vec.Iter.{into_iter_items, into_iter_len}
use Rattle.std.specs.Slice.Iter.{iter_rest}
use Rattle.std.specs.Iterator.Adapters.{zip_first, zip_second}
use Rattle.std.proofs.lemmas.Iterator.{YieldsList-from_slice, YieldsList-from_zip}
use Rattle.std.proofs.lemmas.Iterator.Adapters.{YieldsList-from_vec}
use Rattle.std.proofs.lemmas.Iterator.Consumers.{YieldsList-end}
use Rattle.std.proofs.lemmas.List.{map-append}
use Rattle.osm_files.specs.FileInput.{FileInputCanGive}
use Rattle.osm_mirror.specs.declared.run.files_job.Order.TheVariants.{Sorted}
use Rattle.osm_mirror.specs.run.FilesJob.{OpensFiles}
use Rattle.osm_mirror.proofs.run_laws.FilesJobLaws.{zip_firsts, zip_seconds, firsts_of, seconds_of, pairs_long, opens_more}
use Rattle.osm_mirror.proofs.run.files_turn.open_files.Goals as goal

pub files-preserved : goal.files-preserved
files-preserved g c =
    let fails = g.F.ReadAt.fails in
    let bytes = g.F.ReadAt.bytes in
    let can = g.R.Input.can_give in
    let gives = FileInputCanGive fails bytes can in
    let added = c.in_ok-push_inputs.ensures.added in
    let firsts = map (λ p. p.0) c.files.yielded in
    let seconds = map (λ p. p.1.now) c.files.yielded in
    let more = opens_more fails bytes can gives Sorted firsts seconds c.files.inputs.items added.0 c.in-Some.file c.in-Some.way.now
    (pairs_long (λ way. way.now) c.files.yielded) c.files.invariant.2 added.2 in (
      (tt, tt),
      tt,
      subst (λ fs. OpensFiles fails bytes can gives fs (map (λ p. p.1.now) (c.files.yielded ++ (c.in-Some.file, c.in-Some.way) ∷ []))
          c.push_inputs.new.inputs.items)
          (sym (map-append (λ p. p.0) c.files.yielded ((c.in-Some.file, c.in-Some.way) ∷ [])))
          (subst (λ ws. OpensFiles fails bytes can gives (firsts ++ c.in-Some.file ∷ []) ws c.push_inputs.new.inputs.items)
          (sym (map-append (λ p. p.1.now) c.files.yielded ((c.in-Some.file, c.in-Some.way) ∷ [])))
          (subst (λ is. OpensFiles fails bytes can gives (firsts ++ c.in-Some.file ∷ []) (seconds ++ c.in-Some.way.now ∷ []) is)
          (sym added.1) more)),
    )

pub returns-clause-opened : goal.returns-clause-opened
returns-clause-opened g c =
    let files = c.args.files.items in
    let ways = c.args.ways.now in
    let all : into_iter_items (zip_first c.into_iter-file-iterator.result) ≡ files = search rules in
    let many : into_iter_len (zip_first c.into_iter-file-iterator.result) ≡ length files = search rules in
    let others : iter_rest (zip_second c.into_iter-file-iterator.result) ≡ ways = search rules in
    let end = YieldsList-end (YieldsList-from_zip (YieldsList-from_vec files all many) (YieldsList-from_slice ways others))
    c.files.yielded c.files.file-iterator c.files.yielded_by c.next.result c.next.new.self c.in-None.is c.next.ensures.steps in
    let firsts : map (λ p. p.0) c.files.yielded ≡ files =
    sym (firsts_of (λ way. way.now) c.files.yielded) ∙ ap (map (λ p. p.0)) end.0 ∙ zip_firsts files ways c.requires.same in
    let seconds : map (λ p. p.1.now) c.files.yielded ≡ ways =
    sym (seconds_of (λ way. way.now) c.files.yielded) ∙ ap (map (λ p. p.1)) end.0 ∙ zip_seconds files ways c.requires.same in
    let gives = FileInputCanGive g.F.ReadAt.fails g.F.ReadAt.bytes g.R.Input.can_give in
    subst (λ fs. OpensFiles g.F.ReadAt.fails g.F.ReadAt.bytes g.R.Input.can_give gives fs ways c.files.inputs.items) firsts
    (subst (λ ws. OpensFiles g.F.ReadAt.fails g.F.ReadAt.bytes g.R.Input.can_give gives (map (λ p. p.0) c.files.yielded) ws
    c.files.inputs.items) seconds c.files.invariant.2)
