use Rattle.std.proofs.Common.{◌≡◌, ℕ, List, Option, Some, None, Result, Ok, Err, MatchResult, ◌∙◌, ap, rules}
use Rattle.std.specs.Borrow.{Bor}
use Rattle.std.specs.Option.{ok_or}
use Rattle.opl_line.specs.Time.{reading_time}
use Rattle.opl_line.specs.declared.reason.OplReason.{OplReason}
use Rattle.osm_mirror.specs.declared.run.request.RequestFault.TheVariants.{NotMoment}
use Rattle.osm_mirror.specs.run.Request.{moment_or_fault}
use Rattle.osm_mirror.proofs.run.request.moment.Goals as goal

-- the moment that was found, or the fault, if the option has what the reading gives
read_is : (time : Bor (List ℕ)) (reading : Result ℕ OplReason) (found : Option ℕ)
    → MatchResult reading (λ moment. found ≡ Some moment) (λ _. found ≡ None)
    → ok_or found (NotMoment time) ≡ moment_or_fault time reading
read_is time (Ok moment) found e = ap (λ f. ok_or f (NotMoment time)) e
read_is time (Err reason) found e = ap (λ f. ok_or f (NotMoment time)) e

pub returns : goal.returns
returns c =
    let bytes : c.as_bytes.result.now ≡ c.args.time.now = search rules in
    c.ok_or.ensures.value
    ∙ read_is c.args.time (reading_time c.args.time.now) c.read_moment.result (rw bytes at c.read_moment.ensures)
