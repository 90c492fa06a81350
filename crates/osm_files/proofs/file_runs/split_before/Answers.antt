use Rattle.std.proofs.Common.{◌∙◌, sym, subst, arith, IfSome}
use Rattle.std.proofs.lemmas.Bool.{false≢true}
use Rattle.osm_files.specs.declared.sorted_run.SortedRun.{SortedRun}
use Rattle.osm_files.specs.SortedRun.{HasBytes}
use Rattle.osm_files.proofs.FileRunLaws.{one_more, fronts_sorted, fronts_accepted, rest_stays}
use Rattle.osm_files.proofs.file_runs.split_before.Goals as goal

pub returns-in-Some-clause-fronts : goal.returns-in-Some-clause-fronts
returns-in-Some-clause-fronts g c = λ sorted.
    let known = g.F.ReadAt.bytes c.args.file.now in
    let has = subst (λ (run : SortedRun). IfSome known (λ all. HasBytes all run.start c.args.offset c.in-Ok.bytes)) c.rest.ensures
    c.in-Ok.ensures.bytes in
    fronts_sorted known c.args.size c.args.split.now c.split.new.self c.args.offset c.in-Ok.bytes c.in-Some.front has
    (rw c.in-Some.is at c.in_ok-front.ensures.value) (λ sets. c.is_sorted.ensures.sorted sorted) (omega (arith, c.ranges.size.fits))

pub returns-in-Some-clause-rest : goal.returns-in-Some-clause-rest
returns-in-Some-clause-rest g c = λ sorted.
    let known = g.F.ReadAt.bytes c.args.file.now in
    let has = subst (λ (run : SortedRun). IfSome known (λ all. HasBytes all run.start c.args.offset c.in-Ok.bytes)) c.rest.ensures
    c.in-Ok.ensures.bytes in
    rest_stays known c.args.size c.args.split.now c.split.new.self c.args.offset c.in-Ok.bytes c.in-Some.front has
    (rw c.in-Some.is at c.in_ok-front.ensures.value) (λ sets. c.is_sorted.ensures.sorted sorted)

pub returns-in-Some-2-clause-one : goal.returns-in-Some-2-clause-one
returns-in-Some-2-clause-one g c =
    one_more c.args.split.now c.split.new.self c.args.offset c.in-Ok.bytes c.in-Some.front
    (rw c.in-Some.is at c.in_ok-front.ensures.value)

pub returns-in-Some-2-clause-fronts : goal.returns-in-Some-2-clause-fronts
returns-in-Some-2-clause-fronts g c = λ split.
    let known = g.F.ReadAt.bytes c.args.file.now in
    let has = subst (λ (run : SortedRun). IfSome known (λ all. HasBytes all run.start c.args.offset c.in-Ok.bytes)) c.rest.ensures
    c.in-Ok.ensures.bytes in
    fronts_sorted known c.args.size c.args.split.now c.split.new.self c.args.offset c.in-Ok.bytes c.in-Some.front has
    (rw c.in-Some.is at c.in_ok-front.ensures.value) (λ sets. absurd (false≢true (sym c.if-front.false ∙ sets)))
    (omega (arith, c.ranges.size.fits))

pub returns-in-Some-2-clause-rest : goal.returns-in-Some-2-clause-rest
returns-in-Some-2-clause-rest g c = λ split.
    let known = g.F.ReadAt.bytes c.args.file.now in
    let has = subst (λ (run : SortedRun). IfSome known (λ all. HasBytes all run.start c.args.offset c.in-Ok.bytes)) c.rest.ensures
    c.in-Ok.ensures.bytes in
    rest_stays known c.args.size c.args.split.now c.split.new.self c.args.offset c.in-Ok.bytes c.in-Some.front has
    (rw c.in-Some.is at c.in_ok-front.ensures.value) (λ sets. absurd (false≢true (sym c.if-front.false ∙ sets)))

pub returns-in-Some-clause-accepted : goal.returns-in-Some-clause-accepted
returns-in-Some-clause-accepted g c = λ sorted.
    let known = g.F.ReadAt.bytes c.args.file.now in
    let has = subst (λ (run : SortedRun). IfSome known (λ all. HasBytes all run.start c.args.offset c.in-Ok.bytes)) c.rest.ensures
    c.in-Ok.ensures.bytes in
    fronts_accepted known c.args.size c.args.split.now c.split.new.self c.args.offset c.in-Ok.bytes c.in-Some.front has
    (rw c.in-Some.is at c.in_ok-front.ensures.value) (λ sets. c.is_sorted.ensures.sorted sorted)

pub returns-in-Some-2-clause-accepted : goal.returns-in-Some-2-clause-accepted
returns-in-Some-2-clause-accepted g c = λ split.
    let known = g.F.ReadAt.bytes c.args.file.now in
    let has = subst (λ (run : SortedRun). IfSome known (λ all. HasBytes all run.start c.args.offset c.in-Ok.bytes)) c.rest.ensures
    c.in-Ok.ensures.bytes in
    fronts_accepted known c.args.size c.args.split.now c.split.new.self c.args.offset c.in-Ok.bytes c.in-Some.front has
    (rw c.in-Some.is at c.in_ok-front.ensures.value) (λ sets. absurd (false≢true (sym c.if-front.false ∙ sets)))
