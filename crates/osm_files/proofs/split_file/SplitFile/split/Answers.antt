use Rattle.std.proofs.Common.{◌≡◌, [], ◌∷◌, ◌++◌, sym, subst}
use Rattle.osm_files.specs.SortedRun.{FileRuns, HasBytes, IsSplitIntoRuns, runs_of}
use Rattle.osm_files.proofs.SplitLaws.{split_rest}
use Rattle.osm_files.proofs.split_file.SplitFile.split.Goals as goal

pub returns-in-Ok-clause-runs : goal.returns-in-Ok-clause-runs
returns-in-Ok-clause-runs c =
    let fronts = c.self.inside.fronts.items in
    let items : c.push.new.self.items ≡ fronts ++ c.in-Some.front ∷ [] = c.in-Ok.ensures.items in
    λ file has is.
    let view = sym c.self.view_is in
    let old = subst (λ (v : FileRuns). IsSplitIntoRuns file (runs_of v)) view is in
    let split = c.in-Some.ensures.split file (subst (λ (v : FileRuns). HasBytes file v.rest.start c.args.offset c.args.bytes) view has) in
    subst (λ fronts. IsSplitIntoRuns file (fronts ++ c.in-Some.rest ∷ [])) (sym items)
    (split_rest file fronts c.self.inside.rest c.in-Some.front c.in-Some.rest split old)
