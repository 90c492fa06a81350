use Rattle.std.proofs.Common.{◌≡◌, Some, None, slice_get, sym, ap, ◌∙◌}
use Rattle.std.proofs.lemmas.Bool.{false≢true}
use Rattle.std.proofs.lemmas.Option.{slice_get_past}
use Rattle.osm_mirror.specs.declared.run.file_way.FileWay.{FileWay}
use Rattle.osm_mirror.proofs.run_laws.WayLaws.{get_slice}
use Rattle.osm_mirror.proofs.run.file_way.may_be_split.Goals as goal

pub returns-in-Some : goal.returns-in-Some
returns-in-Some c =
    let ways = c.args.ways.now in
    let way = c.in-Some.way.now in
    let found = c.in-Some.ensures.lookup in
    let at : slice_get ways c.args.file ≡ Some way = get_slice ways c.args.file way found.3.0 found.1 in (
      λ may. (way, at, may),
      λ split. (
          let same : split.0 ≡ way = (let e : Some split.0 ≡ Some way = sym split.1 ∙ at in cc) in
          ap (λ (w : FileWay). w.may_be_split) (sym same) ∙ split.2),
    )

pub returns-in-None : goal.returns-in-None
returns-in-None c =
    let ways = c.args.ways.now in
    let none : slice_get ways c.args.file ≡ None = slice_get_past ways c.args.file c.in-None.ensures.lookup.3 in (
      λ may. absurd (false≢true may),
      λ split. absurd (let e : None ≡ Some split.0 = sym none ∙ split.1 in cc),
    )
