use Rattle.std.proofs.Common.{Ok, Err, rules}
use Rattle.hmac_auth.specs.declared.fault.AuthFault.TheVariants.{PurgeBody, Wrong}
use Rattle.hmac_auth.specs.Auth.{auth_fault}
use Rattle.hmac_auth.proofs.PduLemmas.{lsp-past_header}
use Rattle.hmac_auth.proofs.CauseLemmas.{cause-iff, ok-iff}
use Rattle.hmac_auth.proofs.check.check_pdu.Goals as goal

pub has_digest-requires-clause-behind : goal.has_digest-requires-clause-behind
has_digest-requires-clause-behind c = lsp-past_header c.args.pdu.now c.args.header c.in_ok-at.at c.requires c.in_ok-at.ensures.behind

pub returns-in_err-at-clause-ok : goal.returns-in_err-at-clause-ok
unfolding auth_fault
returns-in_err-at-clause-ok c = ok-iff c.args.key.now c.args.pdu.now c.args.header c.from_residual.result (search rules)

pub returns-in_err-at-clause-err : goal.returns-in_err-at-clause-err
unfolding auth_fault
returns-in_err-at-clause-err c = cause-iff c.args.key.now c.args.pdu.now c.args.header c.from_residual.result (search rules)

pub returns-then-has_purge_body-clause-ok : goal.returns-then-has_purge_body-clause-ok
unfolding auth_fault
returns-then-has_purge_body-clause-ok c = ok-iff c.args.key.now c.args.pdu.now c.args.header (Err PurgeBody) (search rules)

pub returns-then-has_purge_body-clause-err : goal.returns-then-has_purge_body-clause-err
unfolding auth_fault
returns-then-has_purge_body-clause-err c = cause-iff c.args.key.now c.args.pdu.now c.args.header (Err PurgeBody) (search rules)

pub returns-then-not-has_digest-clause-ok : goal.returns-then-not-has_digest-clause-ok
unfolding auth_fault
returns-then-not-has_digest-clause-ok c = ok-iff c.args.key.now c.args.pdu.now c.args.header (Err Wrong) (search rules)

pub returns-then-not-has_digest-clause-err : goal.returns-then-not-has_digest-clause-err
unfolding auth_fault
returns-then-not-has_digest-clause-err c = cause-iff c.args.key.now c.args.pdu.now c.args.header (Err Wrong) (search rules)

pub returns-clause-ok : goal.returns-clause-ok
unfolding auth_fault
returns-clause-ok c = ok-iff c.args.key.now c.args.pdu.now c.args.header (Ok tt) (search rules)

pub returns-clause-err : goal.returns-clause-err
unfolding auth_fault
returns-clause-err c = cause-iff c.args.key.now c.args.pdu.now c.args.header (Ok tt) (search rules)
