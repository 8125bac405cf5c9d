use Rattle.std.proofs.Common.{◌∙◌}
use Rattle.hmac_auth.proofs.HmacLemmas.{length-hmac}
use Rattle.hmac_auth.proofs.SignedLemmas.{copied-is, digest_place-past_header, new-digest, new-pdu, new-fault}
use Rattle.hmac_auth.proofs.sign.sign_pdu.Goals as goal

pub digest_of_pdu-digest-requires-clause-behind : goal.digest_of_pdu-digest-requires-clause-behind
digest_of_pdu-digest-requires-clause-behind c = digest_place-past_header c.args.pdu.now c.args.at c.requires.place

pub returns-clause-digest : goal.returns-clause-digest
returns-clause-digest c =
    new-digest c.args.key.now c.args.pdu.now _ c.args.at c.requires.place
    (copied-is c.args.pdu.now c.copy_from_slice.new.self _ c.args.at (c.copy_from_slice.ensures.after ∙ c.digest_of_pdu-digest.ensures) (length-hmac _ _))

pub returns-clause-still : goal.returns-clause-still
returns-clause-still c =
    new-pdu c.args.key.now c.args.pdu.now _ c.args.at c.requires.place
    (copied-is c.args.pdu.now c.copy_from_slice.new.self _ c.args.at (c.copy_from_slice.ensures.after ∙ c.digest_of_pdu-digest.ensures) (length-hmac _ _))

pub returns-clause-passes : goal.returns-clause-passes
returns-clause-passes c =
    new-fault c.args.key.now c.args.pdu.now _ c.args.at c.requires.place
    (copied-is c.args.pdu.now c.copy_from_slice.new.self _ c.args.at (c.copy_from_slice.ensures.after ∙ c.digest_of_pdu-digest.ensures) (length-hmac _ _))
