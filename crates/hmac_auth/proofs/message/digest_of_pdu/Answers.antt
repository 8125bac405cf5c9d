use Rattle.std.proofs.Common.{◌∙◌, ap, sym}
use Rattle.hmac_auth.specs.Hmac.{hmac}
use Rattle.hmac_auth.proofs.MessageLemmas.{blanked-other, blanked-lsp}
use Rattle.hmac_auth.proofs.message.digest_of_pdu.Goals as goal

pub returns-then-not-is_lsp : goal.returns-then-not-is_lsp
returns-then-not-is_lsp c =
    c.digest_of_pieces.ensures
    ∙ ap (hmac c.args.key.now) (blanked-other c.args.pdu.now c.args.at (sym c.is_lsp.ensures ∙ c.if-not-is_lsp.true))

pub returns : goal.returns
returns c =
    let lsp = sym c.is_lsp.ensures ∙ c.if-not-is_lsp.false in
    c.digest_of_pieces-2.ensures
    ∙ ap (hmac c.args.key.now) (blanked-lsp c.args.pdu.now c.args.at lsp (c.requires.behind lsp) c.requires.within)
