use Rattle.lab_script.proofs.MemberLemmas.{read-some, read-none}
use Rattle.lab_script.proofs.members.Members.read.Goals as goal

pub returns-then-not-are_members-clause-value : goal.returns-then-not-are_members-clause-value
returns-then-not-are_members-clause-value c = read-none c.args.words c.again.result c.are_members.result c.are_members.ensures c.again.ensures c.if-not-are_members.true

pub returns-clause-value : goal.returns-clause-value
returns-clause-value c = read-some c.args.words c.again.result c.are_members.result c.are_members.ensures c.again.ensures c.if-not-are_members.false
