use Rattle.std.proofs.Common.{◌≡◌, ◌+◌, ◌-◌, ◌<◌, ◌≤◌, true, false, [], length, get_or, arith, rules}
use Rattle.std.proofs.lemmas.List.{length-map}
use Rattle.osm_mirror.specs.run.Names.{texts_of}
use Rattle.osm_mirror.proofs.run_laws.NamesLaws.{empty_name, are_names}
use Rattle.osm_mirror.proofs.run.names.count_names.Goals as goal
use Rattle.osm_mirror.proofs.run.names.count_names.Goals.{else-must_end-via-then-must_end+else-not-is_ended}
use Rattle.osm_mirror.proofs.run.names.count_names.Goals.{else-must_end-via-else-must_end}
use Rattle.osm_mirror.proofs.run.names.count_names.Goals.{else-empty-eq0-via-then-empty-eq0+else-is_ended}
use Rattle.osm_mirror.proofs.run.names.count_names.Goals.{else-empty-eq0-via-else-empty-eq0}

pub returns-then-empty-texts-clause-refused : goal.returns-then-empty-texts-clause-refused
returns-then-empty-texts-clause-refused c =
    let e = c.first_empty-empty.ensures in
    let texts = texts_of c.args.texts.now in
    let size : length texts ≡ length c.args.texts.now = length-map c.args.texts.now (λ text. text.now) in
    let last : c.args.must_end ≡ true → get_or texts (length texts - 1) [] ≡ [] =
    elim c.else-must_end.branch [
      | else-must_end-via-then-must_end+else-not-is_ended w ↦ λ _. c.is_last_empty-is_ended.ensures.0 (search rules)
      | else-must_end-via-else-must_end w ↦ λ must. absurd (search rules)
    ] in
    empty_name c.args.must_end texts c.first_empty-empty.result (omega arith) e.full (e.empty (omega arith)) last

pub returns-clause-names : goal.returns-clause-names
returns-clause-names c =
    let e = c.first_empty-empty.ensures in
    let texts = texts_of c.args.texts.now in
    let size : length texts ≡ length c.args.texts.now = length-map c.args.texts.now (λ text. text.now) in
    let last : c.args.must_end ≡ true → get_or texts (length texts - 1) [] ≡ [] =
    elim c.else-must_end.branch [
      | else-must_end-via-then-must_end+else-not-is_ended w ↦ λ _. c.is_last_empty-is_ended.ensures.0 (search rules)
      | else-must_end-via-else-must_end w ↦ λ must. absurd (search rules)
    ] in
    let one : c.first_empty-empty.result ≡ 0 → get_or texts (length texts - 1) [] ≡ [] → ⊥ =
    elim c.else-empty-eq0.branch [
      | else-empty-eq0-via-then-empty-eq0+else-is_ended w ↦ λ _ none.
          (let yes = c.is_last_empty-is_ended.ensures.1 none in absurd (search rules))
      | else-empty-eq0-via-else-empty-eq0 w ↦ λ zero none. w.if-empty-eq0.false zero
    ] in
    let empty : c.first_empty-empty.result < length texts → get_or texts c.first_empty-empty.result [] ≡ [] =
    λ below. e.empty (omega arith) in
    are_names c.args.must_end texts c.first_empty-empty.result (omega (arith, c.requires)) (omega arith) (omega arith) e.full empty last one
