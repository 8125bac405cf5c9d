use Rattle.lab_script.proofs.MemberLemmas.{names-left}
use Rattle.lab_script.proofs.members.Members.next.Goals as goal

pub invariant_of-self : goal.invariant_of-self
invariant_of-self c = names-left c.next.result c.self.inside.left c.next.new.self c.next.ensures c.self.invariant
