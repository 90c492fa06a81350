use Rattle.std.proofs.Common.{◌≡◌, ◌≢◌, ◌≤◌, ◌++◌, ◌-◌, ◌∙◌, ℕ, List, MatchOption, length, take, drop, arith, rules, subst}
use Rattle.std.proofs.lemmas.List.{length-drop, take_all}
use Rattle.std.proofs.lemmas.Slice.Eq.{strip_prefix_is}
use Rattle.std.proofs.lemmas.Bool.Decides.{Decides-eqb}
use Rattle.osm_model.specs.Escape.{escape_char}
use Rattle.osm_model.proofs.escaped.strip_escaped.Goals as goal

pub returns : goal.returns
returns c =
    let start = c.put_escaped-start.result in
    let buffer = c.put_escaped-start.new.buffer in
    let written = drop start buffer in
    let fits : length written ≤ 16 - start = omega (arith, length-drop start buffer, c.put_escaped-start.ensures.size) in
    let form = take (16 - start) written in
    let is : written ≡ escape_char c.args.c = search rules in
    let same : form ≡ escape_char c.args.c = take_all (16 - start) written fits ∙ is in
    subst (λ bytes. MatchOption c.strip_prefix.result ((rest : List ℕ) → c.args.bytes.now ≢ bytes ++ rest)
    (λ after. c.args.bytes.now ≡ bytes ++ after.now)) same
    (strip_prefix_is Decides-eqb c.args.bytes.now form c.strip_prefix.result c.strip_prefix.ensures.cases)
