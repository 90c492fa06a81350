use Rattle.std.proofs.Common.{◌≡◌, ◌+◌, ◌<◌, ◌∷◌, ◌++◌, [], List, take, drop, length, ap, sym, subst, arith}
use Rattle.std.proofs.lemmas.List.{take_all}
use Rattle.std.proofs.lemmas.Result.{err_from_is_err_and}
use Rattle.osm_model.specs.Data.{VersionData}
use Rattle.osm_model.specs.Sets.{to_list}
use Rattle.osm_model.proofs.SetLaws.{strict-listed}
use Rattle.osm_files.specs.Change.{change_of}
use Rattle.osm_files.specs.Spell.{spell_list}
use Rattle.osm_files.specs.Sink.{CutShort, WritesFile, HasPut}
use Rattle.osm_files.proofs.SinkLaws.{begin_ok, begin_err, put_ok, put_err, end_written, may_put, cut_before_end, parts_at, front_at}
use Rattle.osm_files.proofs.sink.put_all.Goals as goal

pub returns-in_err-begin-clause-written : goal.returns-in_err-begin-clause-written
returns-in_err-begin-clause-written g c =
    let f = c.args.sink.now.format in
    let n = c.args.sink.now.number in
    let change = change_of g.W.Output c.args.out.now c.begin.new.out in
    let fault = c.in_err-begin.field-0.0 in
    let p = err_from_is_err_and c.from_residual.result c.from_residual.ensures.1 in
    rw (p.1, p.2) (cut_before_end n change f [] (to_list c.args.history.now) fault
    (begin_err f n c.args.sink.now c.requires.unused c.begin.new.self change fault c.in_err-begin.ensures.calls))

pub puts-init : goal.puts-init
puts-init g c =
    let change = change_of g.W.Output c.args.out.now c.begin.new.out in (
      begin_ok c.args.sink.now.format c.args.sink.now.number c.args.sink.now c.requires.unused c.begin.new.self change
          c.in_ok-begin.ensures.calls,
      c.begin.ensures.lasts,
    )

pub put-requires-clause-open : goal.put-requires-clause-open
put-requires-clause-open g c = (ap (λ s. s.has_begun) c.puts.invariant.0.state, ap (λ s. s.ended) c.puts.invariant.0.state)

pub put-requires-clause-follows : goal.put-requires-clause-follows
put-requires-clause-follows g c = λ going.
    let xs = to_list c.args.history.now in
    let i = c.puts.index in
    let v = c.get.result.now in
    let change = change_of g.W.Output c.args.out.now c.puts.out in
    let within : i < length xs = omega (arith, c.puts-test.true, c.len-index-end.ensures) in
    may_put c.args.sink.now.format c.args.sink.now.number xs i v change c.puts.sink
    (strict-listed c.args.history.now) within c.get.ensures c.puts.invariant.0

pub returns-in_err-put-clause-written : goal.returns-in_err-put-clause-written
returns-in_err-put-clause-written g c =
    let f = c.args.sink.now.format in
    let n = c.args.sink.now.number in
    let xs = to_list c.args.history.now in
    let i = c.puts.index in
    let v = c.get.result.now in
    let before = c.args.out.now in
    let now = c.put.new.out in
    let change = change_of g.W.Output before now in
    let fault = c.in_err-put.field-0.0 in
    let within : i < length xs = omega (arith, c.puts-test.true, c.len-index-end.ensures) in
    let cut = put_err f n g.W.Output (take i xs) before c.puts.out c.puts.sink c.puts.invariant.0 v
    c.put.new.self now fault c.in_err-put.ensures.calls in
    let p = err_from_is_err_and c.from_residual-in_err-put.result c.from_residual-in_err-put.ensures.1 in
    rw (p.1, p.2) (subst (λ (x : List VersionData). CutShort n change (spell_list f x) fault) (parts_at xs i v within c.get.ensures)
    (cut_before_end n change f (take i xs ++ v ∷ []) (drop (i + 1) xs) fault cut))

pub puts-preserved : goal.puts-preserved
puts-preserved g c =
    let f = c.args.sink.now.format in
    let n = c.args.sink.now.number in
    let xs = to_list c.args.history.now in
    let i = c.puts.index in
    let v = c.get.result.now in
    let before = c.args.out.now in
    let now = c.put.new.out in
    let within : i < length xs = omega (arith, c.puts-test.true, c.len-index-end.ensures) in (
      subst (λ (x : List VersionData). HasPut f n x (change_of g.W.Output before now) c.put.new.self)
          (sym (front_at xs i v within c.get.ensures))
          (put_ok f n g.W.Output (take i xs) before c.puts.out c.puts.sink c.puts.invariant.0 v
          c.put.new.self now c.in_ok-put.ensures.calls),
      λ h. c.puts.invariant.1 c.in_ok-put.ensures.good.0,
    )

pub end-requires : goal.end-requires
end-requires g c = (ap (λ s. s.has_begun) c.puts.invariant.0.state, ap (λ s. s.ended) c.puts.invariant.0.state)

pub returns-clause-written : goal.returns-clause-written
returns-clause-written g c =
    let f = c.args.sink.now.format in
    let n = c.args.sink.now.number in
    let xs = to_list c.args.history.now in
    let i = c.puts.index in
    let before = c.args.out.now in
    let now = c.end.new.out in
    let all : take i xs ≡ xs = take_all i xs (omega (arith, c.puts-test.false, c.len-index-end.ensures)) in
    let written = λ (x : List VersionData). WritesFile n (change_of g.W.Output before now) (spell_list f x) c.end.result in
    subst written all
    (end_written f n g.W.Output (take i xs) before c.puts.out c.puts.sink c.puts.invariant.0 c.end.new.self now
    c.end.result c.end.ensures.calls)
