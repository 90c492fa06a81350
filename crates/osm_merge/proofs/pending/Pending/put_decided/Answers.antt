use Rattle.std.proofs.Common.{List, ap, sym, subst, ◌∙◌, cond, option_copied, option_to_list}
use Rattle.osm_model.specs.Data.{VersionData}
use Rattle.osm_merge.specs.Pass.{singleton_if, pending_if_kept, keeps}
use Rattle.osm_merge.specs.Put.{PutsMore}
use Rattle.osm_merge.proofs.pending.Pending.put_decided.Goals as goal

pub returns-in-Some-clause-puts : goal.returns-in-Some-clause-puts
returns-in-Some-clause-puts g c =
    let next = option_copied c.args.next in
    subst (λ (more : List VersionData). PutsMore g.W.Output more c.args.sink.now c.put.new.sink c.args.out.now c.put.new.out c.put.result)
    (ap option_to_list (sym (ap option_copied c.in-Some.is))
    ∙ ap (λ b. cond b (option_to_list next) (pending_if_kept c.args.self.now.selection c.args.self.now.last next))
    c.if-puts_at_once.ensures)
    c.put.ensures.puts

pub returns-else-not-keeps_before-clause-puts : goal.returns-else-not-keeps_before-clause-puts
returns-else-not-keeps_before-clause-puts g c =
    let selection = c.args.self.now.selection in
    let next = option_copied c.args.next in
    subst (λ (more : List VersionData). PutsMore g.W.Output more c.args.sink.now c.put-in-Some-last.new.sink c.args.out.now
    c.put-in-Some-last.new.out
    c.put-in-Some-last.result)
    (ap (λ b. singleton_if b c.version-last.result.now) (sym c.if-not-keeps_before.false)
    ∙ ap (singleton_if c.keeps_before.result) c.version-last.ensures
    ∙ ap (λ b. singleton_if b c.in-Some-last.last) (c.keeps_before.ensures ∙ ap (λ v. keeps selection v next) c.version-last.ensures)
    ∙ ap (λ h. pending_if_kept selection h next) (sym c.in-Some-last.is)
    ∙ ap (λ b. cond b (option_to_list next) (pending_if_kept selection c.args.self.now.last next)) c.if-puts_at_once.ensures)
    c.put-in-Some-last.ensures.puts
