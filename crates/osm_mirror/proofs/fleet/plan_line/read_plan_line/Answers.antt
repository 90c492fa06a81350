use Rattle.std.proofs.Common.{◌≡◌, map, eqb, lit<, ◌∙◌, ap}
use Rattle.std.proofs.lemmas.Iterator.Consumers.{map_from_collect}
use Rattle.std.proofs.lemmas.Iterator.Splits.{YieldsList-from_str_split}
use Rattle.std.proofs.lemmas.Result.{IfOk-at_ok}
use Rattle.std.specs.List.{slice_split}
use Rattle.osm_mirror.proofs.fleet.plan_line.read_plan_line.Goals as goal
use Rattle.osm_mirror.proofs.fleet.plan_line.read_plan_line.Goals.{After-drop-words}

-- the words that were collected are those of the line
words_are : (c : After-drop-words) → map (λ word. word.now) c.as_slice.result.now ≡ slice_split (λ b. eqb b 32) c.args.line.now
words_are c =
    let split = YieldsList-from_str_split 32 c.args.line.now
    (lit< tt) c.split.ensures.text c.split.ensures.has_more c.split.ensures.pattern in
    ap (map (λ word. word.now)) c.as_slice.ensures.value ∙ IfOk-at_ok _ c.in_ok-words.was (map_from_collect _ c.collect.ensures.ran split)

pub returns-clause-says : goal.returns-clause-says
returns-clause-says c = rw (words_are c) at c.read_words.ensures.says

pub returns-clause-nothing : goal.returns-clause-nothing
returns-clause-nothing c = rw (words_are c) at c.read_words.ensures.nothing
