use Rattle.std.proofs.Common.{◌≡◌, Bool, true, false, cond, refl, sym, ap, ◌∙◌}
use Rattle.std.proofs.lemmas.Bool.{and_from}
use Rattle.osm_files.specs.SortedRun.{can_split, is_o5_run, is_within, splits_o5, splits_opl}
use Rattle.osm_files.proofs.SplitLaws.{splits}
use Rattle.osm_files.proofs.sorted_run.SortedRun.split.Goals as goal
use mir.Val.{bool_byte}

one_if : (is : Bool) → bool_byte is ≡ cond is 1 0
one_if true = refl
one_if false = refl

pub returns-clause-split : goal.returns-clause-split
returns-clause-split c =
    let run = c.args.self in
    let offset = c.args.offset in
    let bytes = c.args.bytes in
    let is_o5 : c.is_o5-is_o5.result ≡ is_o5_run run bytes = c.is_o5-is_o5.ensures in
    let one : c.from.result ≡ cond c.is_o5-is_o5.result 1 0 = c.from.ensures ∙ one_if c.is_o5-is_o5.result in
    let by_grammar : cond (is_o5_run run bytes) (splits_o5 run offset bytes) (splits_opl bytes) ≡ true =
    ap (λ t. cond t (splits_o5 run offset bytes) (splits_opl bytes)) (sym is_o5) ∙ sym c.splits_as.ensures ∙ c.if-not-splits_as.false in
    let within : is_within run offset bytes ≡ true = sym c.is_within.ensures ∙ c.if-not-is_within.false in
    let can : can_split run offset bytes ≡ true = and_from (is_within run offset bytes) _ within by_grammar in
    λ file has. rw (one, is_o5) (splits run offset bytes file has can)
