use Rattle.std.proofs.Common.{◌-◌, ℕ, ap, ◌∙◌, arith}
use Rattle.network_lab.specs.LabSteps.{sent_by}
use Rattle.network_lab.proofs.SentLemmas.{first-kept}
use Rattle.network_lab.proofs.taking.post.Goals as goal

pub returns-then-past-clause-cause : goal.returns-then-past-clause-cause
returns-then-past-clause-cause c =
    first-kept (sent_by c.args.sender c.args.boot c.args.changes c.args.link) c.args.sent.now.items c.post_all.new.sent.items c.args.items.items c.truncate.new.self.items (262144 - c.len-room.result)
    c.requires.few (ap (λ (n : ℕ). 262144 - n) (c.len-room.ensures ∙ c.args.sent.now.ok.0)) (let more = c.if-past.true in let count = c.len.ensures in omega (arith, more, count)) c.truncate.ensures.items c.in_ok-post_all.ensures.ok
