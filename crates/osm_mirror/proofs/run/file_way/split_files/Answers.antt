use Rattle.std.proofs.Common.{◌≡◌, ◌∙◌, ◌<◌, ◌+◌, List, None, length, take, arith, sym, ap, subst}
use Rattle.std.proofs.lemmas.Bool.{false≢true}
use Rattle.std.proofs.lemmas.List.{take_all}
use Rattle.osm_mirror.specs.declared.run.file_way.FileWay.{FileWay}
use Rattle.osm_mirror.specs.declared.run.files_job.Order.TheVariants.{Any}
use Rattle.osm_mirror.specs.run.FilesJob.{FileFits, FilesFit}
use Rattle.osm_mirror.specs.run.FilesRefusal.{AreSettled}
use Rattle.osm_mirror.proofs.run_laws.FilesJobLaws.{pairwise_length}
use Rattle.osm_mirror.proofs.run_laws.WayLaws.{settled_set, settled_kept}
use Rattle.osm_mirror.proofs.run.file_way.split_files.Goals.{then-ways-file+then-is_to_split+in_ok-split_way, else-ways-file}
use Rattle.osm_mirror.proofs.run.file_way.split_files.Goals.{else-ways-file-via-then-ways-file+else-is_to_split}
use Rattle.osm_mirror.proofs.run.file_way.split_files.Goals.{else-ways-file-via-else-ways-file}
use Rattle.osm_mirror.proofs.run.file_way.split_files.Goals as goal

pub files-preserved : goal.files-preserved
files-preserved g c =
    let bytes = g.F.ReadAt.bytes in
    let files = c.args.files.now in
    let old = c.files.ways in
    let n = c.files.file in
    let inv = c.files.invariant in
    let low : n < length old = omega (arith, c.files-test.true, inv.1) in
    elim c.if-ways-file.branch [
      | then-ways-file+then-is_to_split+in_ok-split_way w ↦ (
          let new = w.split_way.new.ways in
          let fits = w.in_ok-split_way.ensures.fit in
          let one = w.in_ok-split_way.ensures.settled in
          let same : length new ≡ length c.args.ways.now =
          sym (pairwise_length (FileFits bytes Any) files new fits) ∙ pairwise_length (FileFits bytes Any) files old inv.0 ∙ inv.1 in
          subst (λ (ws : List FileWay). FilesFit bytes Any files ws × (length ws ≡ length c.args.ways.now)
          × (c.args.tried ≡ None → AreSettled (take (n + 1) ws))) (sym w.ways-is)
          (fits, same, λ all. settled_set old new n one.0 low one.2 one.1 (inv.2 all)))
      | else-ways-file w ↦ (
          subst (λ (ws : List FileWay). FilesFit bytes Any files ws × (length ws ≡ length c.args.ways.now)
          × (c.args.tried ≡ None → AreSettled (take (n + 1) ws))) (sym w.ways-is) (
            inv.0,
            inv.1,
            elim w.else-ways-file.branch [
              | else-ways-file-via-then-ways-file+else-is_to_split x ↦ λ all.
                  absurd (false≢true (sym x.if-is_to_split.false ∙ x.is_to_split.ensures all))
              | else-ways-file-via-else-ways-file x ↦ λ all.
                  settled_kept old n c.index-ways-file.result low c.index-ways-file.is
                  (ap (λ (y : FileWay). y.may_be_split) c.index-ways-file.is ∙ x.if-ways-file.false) (inv.2 all)
            ],
          ))
    ]

pub returns-clause-settled : goal.returns-clause-settled
returns-clause-settled g c = λ all.
    subst AreSettled (take_all c.files.file c.files.ways (omega (arith, c.files-test.false, c.files.invariant.1)))
    (c.files.invariant.2 all)
