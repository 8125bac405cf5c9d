use Rattle.std.proofs.Common.{◌∙◌, List, ℕ, sym, subst, ap}
use Rattle.hmac_auth.specs.Hmac.{hmac}
use Rattle.hmac_auth.specs.Pdus.{with_piece, blanked}
use Rattle.hmac_auth.specs.Auth.{IsDigestPlace}
use Rattle.router_sending.proofs.HeldLemmas.{purge-place, purge-signed}
use Rattle.router_sending.proofs.held.signed_header.Goals as goal

pub sign_pdu-requires-clause-place : goal.sign_pdu-requires-clause-place
sign_pdu-requires-clause-place c = subst (λ (octets : List ℕ). IsDigestPlace octets 30) (sym c.unsigned-purge.ensures) (purge-place c.args.header.now c.requires)

pub returns : goal.returns
returns c =
    c.sign_pdu.ensures.written
    ∙ ap (λ (octets : List ℕ). with_piece 30 (hmac c.args.key.now (blanked octets 30)) octets) c.unsigned-purge.ensures
    ∙ purge-signed c.args.header.now c.requires c.args.key.now
