use Rattle.std.proofs.Common.{◌≡◌, inr, true, false, Some, None, Ok, Err, sym, ap, ◌∙◌, subst, Option, Result, rules, refl}
use Rattle.std.specs.Str.{IsUtf8}
use Rattle.osm_model.specs.Data.{VersionData}
use Rattle.opl_line.specs.declared.reason.OplReason.{OplReason}
use Rattle.opl_line.specs.declared.reason.OplReason.TheVariants.{NotUtf8}
use Rattle.opl_line.specs.Results.{OplReads, as_value}
use Rattle.opl_line.specs.Reading.{is_skipped, reading_version, reading_line}
use Rattle.opl_line.proofs.ReadingLaws.{not_utf8, utf8_line, as_result}
use Rattle.opl_line.proofs.SpellsLaws.{result_spelled, result_refused}
use Rattle.opl_line.proofs.LineReasonLaws.{result_reason}
use Rattle.opl_line.proofs.line.LineReader.read.Goals as goal

pub returns-then-is_skipped : goal.returns-then-is_skipped
returns-then-is_skipped c =
    let skipped : is_skipped c.args.line.now ≡ true = search rules in
    let reading : reading_line c.args.line.now ≡ Ok None = rw skipped refl in
    record { reading = reading; spelled = skipped; refused = tt; reason = tt }

pub returns-in-Some : goal.returns-in-Some
returns-in-Some c =
    let outcome : Result (Option VersionData) OplReason = Ok (Some c.in-Some.version) in
    let reading : OplReads (reading_line c.args.line.now) outcome = c.in-Some.ensures in
    record { reading = reading; spelled = result_spelled c.args.line.now outcome reading; refused = tt; reason = tt }

pub returns-in_default-to_str : goal.returns-in_default-to_str
returns-in_default-to_str c =
    let kept : is_skipped c.args.line.now ≡ false = search rules in
    let outcome : Result (Option VersionData) OplReason = Err NotUtf8 in
    let reading : OplReads (reading_line c.args.line.now) outcome = inr (not_utf8 c.args.line.now kept c.in_default-to_str.ensures) in
    record {
      reading = reading;
      spelled = tt;
      refused = result_refused c.args.line.now outcome reading;
      reason =
          result_reason c.args.line.now outcome reading;
    }

pub returns : goal.returns
returns c =
    let kept : is_skipped c.args.line.now ≡ false = search rules in
    let utf8 : IsUtf8 c.args.line.now = search rules in
    let text : c.in-Some-to_str.text.now ≡ c.args.line.now = search rules in
    let some : VersionData → Option VersionData = λ v. Some v in
    let mapped : c.map.result ≡ as_value some c.read_version.result = search rules in
    let P : Result (Option VersionData) OplReason → Type 0 = λ r. OplReads r c.map.result in
    let Q : Result (Option VersionData) OplReason → Type 0 = OplReads (as_value some (reading_version c.in-Some-to_str.text.now)) in
    let reading : OplReads (reading_line c.args.line.now) c.map.result =
    subst P (ap (λ t. as_value some (reading_version t)) text ∙ sym (utf8_line c.args.line.now kept utf8))
    (subst Q (sym mapped) (as_result some _ _ c.read_version.ensures)) in
    record {
      reading = reading;
      spelled = result_spelled c.args.line.now c.map.result reading;
      refused =
          result_refused c.args.line.now c.map.result reading;
      reason = result_reason c.args.line.now c.map.result reading;
    }
