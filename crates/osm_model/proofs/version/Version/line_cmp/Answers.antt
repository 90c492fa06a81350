use Rattle.std.proofs.Common.{rules, ◌≡◌, ◌<◌, ◌≤◌, [], ◌++◌, sym, ◌∙◌, length, take, drop}
use Rattle.std.specs.Cmp.Lexicographic.{slice_cmp}
use Rattle.std.specs.Ordering.{nat_cmp}
use Rattle.osm_model.specs.Cursor.{chunk_of, after_chunk, remaining_bytes}
use Rattle.osm_model.proofs.CompareLaws.{fronts_differ, fronts_tie, ends_first, ends_last}
use Rattle.osm_model.proofs.version.Version.line_cmp.Goals as goal

pub returns-then-fill : goal.returns-then-fill
returns-then-fill c =
    let other = c.fill-then-not-fill.new.self in
    let none : remaining_bytes c.fill.new.self ≡ [] = search rules in
    let more : 0 < length (chunk_of other) = search rules in
    ends_first (chunk_of other) (after_chunk other) more
    ∙ sym (c.runs.invariant
    ∙ (λ i. slice_cmp nat_cmp ((sym c.fill.ensures.bytes ∙ none) i) (sym c.fill-then-not-fill.ensures.bytes i)))

pub returns-then-not-fill-2 : goal.returns-then-not-fill-2
returns-then-not-fill-2 c =
    let own = c.fill.new.self in
    let none : remaining_bytes c.fill-in-runs.new.self ≡ [] = search rules in
    let more : 0 < length (chunk_of own) = search rules in
    ends_last (chunk_of own) (after_chunk own) more
    ∙ sym (c.runs.invariant
    ∙ (λ i. slice_cmp nat_cmp (sym c.fill.ensures.bytes i) ((sym c.fill-in-runs.ensures.bytes ∙ none) i)))

pub returns-in_default : goal.returns-in_default
returns-in_default c =
    let n = c.min-length.result in
    let own = c.fill.new.self in
    let other = c.fill-in-runs.new.self in
    let within : n ≤ length (chunk_of own) = search rules in
    let other_within : n ≤ length (chunk_of other) = search rules in
    let is : c.cmp.result ≡ slice_cmp nat_cmp (take n (chunk_of own)) (take n (chunk_of other)) = search rules in
    fronts_differ n (chunk_of own) (chunk_of other) (after_chunk own) (after_chunk other) c.cmp.result within other_within is
    c.in_default.not-Equal
    ∙ sym (c.runs.invariant
    ∙ (λ i. slice_cmp nat_cmp (sym c.fill.ensures.bytes i) (sym c.fill-in-runs.ensures.bytes i)))

pub runs-preserved : goal.runs-preserved
runs-preserved c =
    let n = c.min-length.result in
    let own = c.fill.new.self in
    let other = c.fill-in-runs.new.self in
    let within : n ≤ length (chunk_of own) = search rules in
    let other_within : n ≤ length (chunk_of other) = search rules in
    let is : c.cmp.result ≡ slice_cmp nat_cmp (take n (chunk_of own)) (take n (chunk_of other)) = search rules in
    let dropped : remaining_bytes c.drop_front.new.self ≡ drop n (chunk_of own) ++ after_chunk own =
    λ i. c.drop_front.ensures.chunk i ++ c.drop_front.ensures.rest i in
    let other_dropped : remaining_bytes c.drop_front-in-runs.new.self ≡ drop n (chunk_of other) ++ after_chunk other =
    λ i. c.drop_front-in-runs.ensures.chunk i ++ c.drop_front-in-runs.ensures.rest i in
    c.runs.invariant
    ∙ (λ i. slice_cmp nat_cmp (sym c.fill.ensures.bytes i) (sym c.fill-in-runs.ensures.bytes i))
    ∙ fronts_tie n (chunk_of own) (chunk_of other) (after_chunk own) (after_chunk other) c.cmp.result within other_within is c.in-Equal.is
    ∙ (λ i. slice_cmp nat_cmp (sym dropped i) (sym other_dropped i))
