use Rattle.std.proofs.Common.{◌≡◌, ◌==◌, true, false, Ok, sym, ap, ◌∙◌, rules, to_z-of_z}
use Rattle.osm_model.specs.New.{is_dated}
use Rattle.opl_line.specs.Reading.{meta_of, reading_body}
use Rattle.opl_line.proofs.WithinLaws.{sound}
use Rattle.opl_line.proofs.general.to_version.Goals as goal

pub from_checked_data-requires : goal.from_checked_data-requires
from_checked_data-requires c =
    let same : c.to_meta-meta.result ≡ meta_of c.args.fields.now = search rules in
    let some : (c.to_meta-meta.result.version == 0) ≡ false = search rules in
    let dated : is_dated c.to_meta-meta.result ≡ true = search rules in
    let read : reading_body c.args.kind c.args.fields.now ≡ Ok c.in_ok-body.body = search rules in
    let is = sound c.args.kind c.args.id c.args.fields.now c.to_meta-meta.result c.in_ok-body.body same c.requires.id c.requires.within some
    dated read in
    rw (to_z-of_z c.ranges.id) is.fault

pub returns : goal.returns
returns c =
    let same : c.to_meta-meta.result ≡ meta_of c.args.fields.now = search rules in
    let some : (c.to_meta-meta.result.version == 0) ≡ false = search rules in
    let dated : is_dated c.to_meta-meta.result ≡ true = search rules in
    let read : reading_body c.args.kind c.args.fields.now ≡ Ok c.in_ok-body.body = search rules in
    let is = sound c.args.kind c.args.id c.args.fields.now c.to_meta-meta.result c.in_ok-body.body same c.requires.id c.requires.within some
    dated read in
    is.whole ∙ sym (ap (λ v. Ok v) (rw (to_z-of_z c.ranges.id) at c.in_ok-from_checked_data.ensures.value))
