-- By computation.
use Rattle.std.proofs.Common.{refl}
use Rattle.isis_base.specs.PduKinds.{kind_of_number}
use Rattle.isis_base.specs.Identifiers.{lsp_number}
use Rattle.iso_checksum.specs.Checksum.{checksum_holds}
use Rattle.isis_tlv.specs.Walks.{items_of}
use Rattle.isis_pdu.specs.Table.{first_fault}
use Rattle.isis_pdu.specs.Decoded.{decoded}
use Rattle.hmac_auth.specs.Auth.{digest_place, auth_fault}
use Rattle.model_datagram.specs.Frames.{framed, unframed}
use Rattle.model_datagram.specs.Values.{items_in}
use Rattle.model_datagram.specs.Reading.{read}
use Rattle.model_datagram.proofs.rows.order_rows.Goals as goal

pub returns-clause-long_before_level : goal.returns-clause-long_before_level
unfolding read framed unframed decoded first_fault kind_of_number items_of items_in lsp_number checksum_holds auth_fault digest_place
returns-clause-long_before_level c = refl

pub returns-clause-kind_before_level : goal.returns-clause-kind_before_level
unfolding read framed unframed decoded first_fault kind_of_number items_of items_in lsp_number checksum_holds auth_fault digest_place
returns-clause-kind_before_level c = refl

pub returns-clause-level_before_key : goal.returns-clause-level_before_key
unfolding read framed unframed decoded first_fault kind_of_number items_of items_in lsp_number checksum_holds auth_fault digest_place
returns-clause-level_before_key c = refl

pub returns-clause-key_before_value : goal.returns-clause-key_before_value
unfolding read framed unframed decoded first_fault kind_of_number items_of items_in lsp_number checksum_holds auth_fault digest_place
returns-clause-key_before_value c = refl

pub returns-clause-key_before_number : goal.returns-clause-key_before_number
unfolding read framed unframed decoded first_fault kind_of_number items_of items_in lsp_number checksum_holds auth_fault digest_place
returns-clause-key_before_number c = refl

pub returns-clause-number_before_checksum : goal.returns-clause-number_before_checksum
unfolding read framed unframed decoded first_fault kind_of_number items_of items_in lsp_number checksum_holds auth_fault digest_place
returns-clause-number_before_checksum c = refl
