use Rattle.std.proofs.Common.{◌≡◌, ◌∙◌, ◌+◌, [], ◌∷◌, List, length, length-append, ap, sym, subst, arith, true, Ok, Err, option_to_list}
use Rattle.std.proofs.Common.{is_some}
use Rattle.std.proofs.lemmas.List.{nil_from_length}
use Rattle.std.proofs.lemmas.Result.{err_from_is_err_and}
use Rattle.std.specs.Vec.Iter.{into_iter_items}
use Rattle.osm_model.specs.Data.{VersionData}
use Rattle.osm_files.specs.Groups.{to_ascending, FileSourceData, FileSteps, RefusesOn, IsGroup, with_group, source_data}
use Rattle.osm_files.proofs.GroupLaws.{ascending_some, one_in, some_from}
use Rattle.osm_files.proofs.SourceSteps.{open_source, memory_step, gather_refused, gathered_memory, gathered_given, gathered_open}
use Rattle.osm_files.proofs.source.FileSource.next_of_many.Goals as goal

pub invariant_of-self : goal.invariant_of-self
invariant_of-self g c = open_source g.R.Input.can_give c.refuse.new.self c.self.inside.pending _
    (ap (λ v. v.ready) c.self.view_is ∙ c.requires.nothing)

pub returns-in-Err-clause-step : goal.returns-in-Err-clause-step
returns-in-Err-clause-step g c =
    let i = c.self.inside in
    let group = c.args.first ∷ c.args.second ∷ [] in
    let new = source_data c.refuse.new.self (option_to_list i.pending) (into_iter_items i.ready) in
    subst (λ (x : FileSourceData _). FileSteps g.R.Input.can_give (with_group x group) (Err c.refuse.result) new) c.self.view_is
    (memory_step g.R.Input.can_give (source_data i.units group []) new c.refuse.result c.refuse.ensures.fault c.refuse.ensures.failed
    (ap (λ v. v.ready) c.self.view_is ∙ c.requires.nothing))

-- the versions after the first have its key
abbrev AreGroup : List VersionData → Type 0
AreGroup [] = Unit {0}
AreGroup (first ∷ others) = IsGroup first others

pub gather-requires : goal.gather-requires
gather-requires g c = record { group = subst AreGroup (sym c.in-Ok.ensures) c.requires.group }

pub invariant_of-self-in_err-self-inside : goal.invariant_of-self-in_err-self-inside
invariant_of-self-in_err-self-inside g c = open_source g.R.Input.can_give c.gather.new.units c.self.inside.pending _
    (ap (λ v. v.ready) c.self.view_is ∙ c.requires.nothing)

pub returns-in_err-self-inside-clause-step : goal.returns-in_err-self-inside-clause-step
returns-in_err-self-inside-clause-step g c =
    let i = c.self.inside in
    let group = c.args.first ∷ c.args.second ∷ [] in
    let fault = c.in_err-self-inside.field-0.0 in
    let new = source_data c.gather.new.units (option_to_list i.pending) (into_iter_items i.ready) in
    let refuses = subst (λ (xs : List VersionData). RefusesOn g.R.Input.can_give i.units xs fault c.gather.new.units) c.in-Ok.ensures
    c.in_err-self-inside.ensures.refuses in
    let p = err_from_is_err_and c.from_residual.result c.from_residual.ensures.1 in
    rw (p.1, p.2) (subst (λ (x : FileSourceData _). FileSteps g.R.Input.can_give (with_group x group) (Err fault) new) c.self.view_is
    (gather_refused g.R.Input.can_give i.units group fault new (ap (λ v. v.ready) c.self.view_is ∙ c.requires.nothing) refuses))

pub invariant_of-self-in-Err-into_ascending : goal.invariant_of-self-in-Err-into_ascending
invariant_of-self-in-Err-into_ascending g c = open_source g.R.Input.can_give c.refuse-in-Err-into_ascending.new.self
    c.in_ok-self-inside.field-0 _ (ap (λ v. v.ready) c.self.view_is ∙ c.requires.nothing)

pub returns-in-Err-into_ascending-clause-step : goal.returns-in-Err-into_ascending-clause-step
returns-in-Err-into_ascending-clause-step g c =
    let i = c.self.inside in
    let refused = c.refuse-in-Err-into_ascending in
    let new = source_data refused.new.self (option_to_list c.in_ok-self-inside.field-0) (into_iter_items i.ready) in
    subst (λ (x : FileSourceData _). FileSteps g.R.Input.can_give (with_group x (c.args.first ∷ c.args.second ∷ []))
    (Err refused.result) new)
    c.self.view_is
    (subst (λ (xs : List VersionData). FileSteps g.R.Input.can_give (source_data i.units xs []) (Err refused.result) new) c.in-Ok.ensures
    (gathered_memory g.R.Input.can_give i.units c.in-Ok.group c.gather.new.units c.gather.new.self c.in_ok-self-inside.field-0
    c.in_ok-self-inside.ensures.gathers refused.result refused.new.self
    (into_iter_items i.ready) refused.ensures.fault refused.ensures.failed
    (ap (λ v. v.ready) c.self.view_is ∙ c.requires.nothing)))

pub invariant_of-self-in-Ok-into_ascending : goal.invariant_of-self-in-Ok-into_ascending
invariant_of-self-in-Ok-into_ascending g c =
    let all = ap (λ v. to_ascending (v ∷ c.gather.new.self.others.items)) (sym c.gather.ensures.first)
    ∙ sym c.in-Ok-into_ascending.ensures.given ∙ c.next.ensures.items in
    gathered_open g.R.Input.can_give c.self.inside.units c.in-Ok.group c.gather.new.units c.gather.new.self c.in_ok-self-inside.field-0
    c.in_ok-self-inside.ensures.gathers c.next.result
    (into_iter_items c.next.new.self) all c.gather.ensures.input c.in_ok-self-inside.ensures.failed

pub returns-in-Ok-into_ascending-clause-step : goal.returns-in-Ok-into_ascending-clause-step
returns-in-Ok-into_ascending-clause-step g c =
    let i = c.self.inside in
    let group = c.gather.new.self in
    let new = source_data c.gather.new.units (option_to_list c.in_ok-self-inside.field-0) (into_iter_items c.next.new.self) in
    let all = ap (λ v. to_ascending (v ∷ group.others.items)) (sym c.gather.ensures.first) ∙ sym c.in-Ok-into_ascending.ensures.given
    ∙ c.next.ensures.items in
    let some : is_some c.next.result ≡ true = some_from c.next.result
    (λ e. (let none = rw e at c.next.ensures.cases in
    ascending_some group.first group.others.items (sym c.in-Ok-into_ascending.ensures.given
    ∙ nil_from_length _ (omega (arith, none, c.in-Ok-into_ascending.versions.rest.ok))))) in
    subst (λ (x : FileSourceData _). FileSteps g.R.Input.can_give (with_group x (c.args.first ∷ c.args.second ∷ [])) (Ok c.next.result) new)
    c.self.view_is
    (subst (λ (xs : List VersionData). FileSteps g.R.Input.can_give (source_data i.units xs []) (Ok c.next.result) new) c.in-Ok.ensures
    (gathered_given g.R.Input.can_give i.units c.in-Ok.group c.gather.new.units group c.in_ok-self-inside.field-0
    c.in_ok-self-inside.ensures.gathers c.next.result (into_iter_items c.next.new.self) all some))

pub returns-in-Ok-into_ascending-clause-fewer : goal.returns-in-Ok-into_ascending-clause-fewer
returns-in-Ok-into_ascending-clause-fewer g c = λ some.
    let size : length (into_iter_items c.in-Ok-into_ascending.versions)
    ≡ length (option_to_list c.next.result) + length (into_iter_items c.next.new.self) = ap length c.next.ensures.items
    ∙ length-append (option_to_list c.next.result) (into_iter_items c.next.new.self) in
    omega (
      arith,
      c.in_ok-self-inside.ensures.left,
      ap length c.in-Ok.ensures,
      c.in-Ok-into_ascending.ensures.fewer,
      size,
      one_in c.next.result some,
      ap (λ (v : FileSourceData _). v.units.offset) c.self.view_is,
    )
