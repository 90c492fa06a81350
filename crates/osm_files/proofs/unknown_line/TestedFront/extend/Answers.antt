use Rattle.std.proofs.Common.{◌<◌, ◌+◌, ◌++◌, List, ℕ, take, length, sym, subst, arith}
use Rattle.std.specs.Str.{IsUtf8, IsValidUpTo}
use Rattle.std.proofs.lemmas.List.{take_all}
use Rattle.osm_files.specs.declared.unknown_line.TestedFront.TheVariants.{NotUtf8}
use Rattle.osm_files.specs.UnknownLine.{IsTested}
use Rattle.osm_files.proofs.UnknownLineLaws.{tested_on, tested_never, never_utf8}
use Rattle.osm_files.proofs.unknown_line.TestedFront.extend.Goals as goal

pub returns-in_default-clause-tested : goal.returns-in_default-clause-tested
returns-in_default-clause-tested c front before =
    let bytes : List ℕ = c.args.bytes.now in
    let valid : IsUtf8 bytes = c.in_default.ensures.cases.1 in
    tested_on c.args.self front (take (length bytes) bytes) before
    (subst IsUtf8 (sym (take_all (length bytes) bytes (omega arith))) valid)

pub returns-then-bytes-valid-le-MAX_PARTIAL_CHARACTER-clause-tested :
    goal.returns-then-bytes-valid-le-MAX_PARTIAL_CHARACTER-clause-tested
returns-then-bytes-valid-le-MAX_PARTIAL_CHARACTER-clause-tested c front before =
    let bytes : List ℕ = c.args.bytes.now in
    let valid : IsValidUpTo bytes c.valid_up_to-valid.result =
    subst (IsValidUpTo bytes) (sym c.valid_up_to-valid.ensures) c.in-Err.ensures.cases.1 in
    tested_on c.args.self front (take c.valid_up_to-valid.result bytes) before valid.front

pub returns-clause-tested : goal.returns-clause-tested
returns-clause-tested c front before =
    let bytes : List ℕ = c.args.bytes.now in
    let valid : IsValidUpTo bytes c.valid_up_to-valid.result =
    subst (IsValidUpTo bytes) (sym c.valid_up_to-valid.ensures) c.in-Err.ensures.cases.1 in
    let far : c.valid_up_to-valid.result + 3 < length bytes =
    omega (arith, c.if-bytes-valid-le-MAX_PARTIAL_CHARACTER.false) in
    subst (λ xs. IsTested NotUtf8 (front ++ xs)) (sym (take_all (length bytes) bytes (omega arith)))
    (tested_never c.args.self front bytes before (never_utf8 bytes c.valid_up_to-valid.result valid far))
