-- By computation.
use Rattle.std.proofs.Common.{refl}
use Rattle.isis_base.specs.PduKinds.{kind_of_number}
use Rattle.isis_base.specs.Identifiers.{lsp_number}
use Rattle.iso_checksum.specs.Checksum.{checksum_holds}
use Rattle.isis_tlv.specs.Walks.{items_of}
use Rattle.isis_pdu.specs.Table.{first_fault}
use Rattle.isis_pdu.specs.Decoded.{decoded}
use Rattle.hmac_auth.specs.Auth.{digest_place, auth_fault}
use Rattle.model_datagram.specs.Frames.{framed, unframed}
use Rattle.model_datagram.specs.Values.{items_in}
use Rattle.model_datagram.specs.Reading.{read}
use Rattle.model_datagram.proofs.rows.drop_rows.Goals as goal

pub returns-clause-frame : goal.returns-clause-frame
unfolding read framed unframed decoded first_fault kind_of_number items_of items_in lsp_number checksum_holds auth_fault digest_place
returns-clause-frame c = refl

pub returns-clause-pdu : goal.returns-clause-pdu
unfolding read framed unframed decoded first_fault kind_of_number items_of items_in lsp_number checksum_holds auth_fault digest_place
returns-clause-pdu c = refl

pub returns-clause-too_long : goal.returns-clause-too_long
unfolding read framed unframed decoded first_fault kind_of_number items_of items_in lsp_number checksum_holds auth_fault digest_place
returns-clause-too_long c = refl

pub returns-clause-long : goal.returns-clause-long
unfolding read framed unframed decoded first_fault kind_of_number items_of items_in lsp_number checksum_holds auth_fault digest_place
returns-clause-long c = refl

pub returns-clause-lan_hello : goal.returns-clause-lan_hello
unfolding read framed unframed decoded first_fault kind_of_number items_of items_in lsp_number checksum_holds auth_fault digest_place
returns-clause-lan_hello c = refl

pub returns-clause-point_hello : goal.returns-clause-point_hello
unfolding read framed unframed decoded first_fault kind_of_number items_of items_in lsp_number checksum_holds auth_fault digest_place
returns-clause-point_hello c = refl

pub returns-clause-wrong_level : goal.returns-clause-wrong_level
unfolding read framed unframed decoded first_fault kind_of_number items_of items_in lsp_number checksum_holds auth_fault digest_place
returns-clause-wrong_level c = refl

pub returns-clause-auth : goal.returns-clause-auth
unfolding read framed unframed decoded first_fault kind_of_number items_of items_in lsp_number checksum_holds auth_fault digest_place
returns-clause-auth c = refl

pub returns-clause-value : goal.returns-clause-value
unfolding read framed unframed decoded first_fault kind_of_number items_of items_in lsp_number checksum_holds auth_fault digest_place
returns-clause-value c = refl

pub returns-clause-hello_value : goal.returns-clause-hello_value
unfolding read framed unframed decoded first_fault kind_of_number items_of items_in lsp_number checksum_holds auth_fault digest_place
returns-clause-hello_value c = refl

pub returns-clause-zero_number : goal.returns-clause-zero_number
unfolding read framed unframed decoded first_fault kind_of_number items_of items_in lsp_number checksum_holds auth_fault digest_place
returns-clause-zero_number c = refl

pub returns-clause-zero_checksum : goal.returns-clause-zero_checksum
unfolding read framed unframed decoded first_fault kind_of_number items_of items_in lsp_number checksum_holds auth_fault digest_place
returns-clause-zero_checksum c = refl

pub returns-clause-bad_checksum : goal.returns-clause-bad_checksum
unfolding read framed unframed decoded first_fault kind_of_number items_of items_in lsp_number checksum_holds auth_fault digest_place
returns-clause-bad_checksum c = refl

pub returns-clause-version : goal.returns-clause-version
unfolding read framed unframed decoded first_fault kind_of_number items_of items_in lsp_number checksum_holds auth_fault digest_place
returns-clause-version c = refl
