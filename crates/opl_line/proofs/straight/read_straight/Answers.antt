use Rattle.std.proofs.Common.{◌≡◌, true, false, eqb, rules, Ok, Err, Some, Result, IfOk, IfSome, sym, subst}
use Rattle.std.specs.Result.{result_ok}
use mir.Val.{to_z, of_z}
use mir.Syntax.{w64}
use Rattle.osm_model.specs.declared.memory.Memory.{Memory}
use Rattle.osm_model.specs.Data.{VersionData, version_of}
use Rattle.osm_model.specs.New.{is_dated}
use Rattle.osm_model.specs.Valid.{IsVersion}
use Rattle.opl_line.specs.Reading.{reading_line}
use Rattle.opl_line.proofs.StraightLineLaws.{no_fault, is_read}
use Rattle.opl_line.proofs.straight.read_straight.Goals as goal

pub from_checked_data-requires : goal.from_checked_data-requires
from_checked_data-requires c =
    let head = c.in_ok-head.head in
    let some : eqb head.meta.version 0 ≡ false = search rules in
    let dated : is_dated head.meta ≡ true = search rules in
    let same : to_z w64 (of_z w64 head.id) ≡ head.id = search rules in
    rw same (no_fault c.args.line.now c.in_ok-head.rest.now head.kind head.id head.is_deleted head.meta c.in_ok-body.body
    c.in_ok-head.ensures c.in_ok-body.ensures some dated)

-- a property of the version that is made holds for the one that is returned
of_made : (P : VersionData → Type 0) (made : Result VersionData Memory) → IfOk made P → IfSome (result_ok made) P
of_made P (Ok v) h = h
of_made P (Err memory) h = tt

both : (P Q R : VersionData → Type 0) → ((v : VersionData) → P v → Q v → R v) → (made : Result VersionData Memory) → IfOk made P →
    IfOk made Q → IfOk made R
both P Q R f (Ok v) p q = f v p q
both P Q R f (Err memory) p q = tt

pub returns : goal.returns
returns c =
    let head = c.in_ok-head.head in
    let body = c.in_ok-body.body in
    let some : eqb head.meta.version 0 ≡ false = search rules in
    let dated : is_dated head.meta ≡ true = search rules in
    let same : to_z w64 (of_z w64 head.id) ≡ head.id = search rules in
    let value : IfOk c.from_checked_data.result (λ v. v ≡ version_of head.id head.meta body) =
    rw same at c.from_checked_data.ensures.value in
    let R : VersionData → Type 0 = λ v. reading_line c.args.line.now ≡ Ok (Some v) in
    let made = both IsVersion (λ v. v ≡ version_of head.id head.meta body) R
    (is_read c.args.line.now c.in_ok-head.rest.now head.kind head.id head.is_deleted head.meta body c.in_ok-head.ensures
    c.in_ok-body.ensures some dated)
    c.from_checked_data.result c.from_checked_data.ensures.valid value in
    subst (λ o. IfSome o R) (sym c.ok.ensures.value) (of_made R c.from_checked_data.result made)
