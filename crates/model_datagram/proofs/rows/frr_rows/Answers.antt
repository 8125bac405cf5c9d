-- By computation.
use Rattle.std.proofs.Common.{refl}
use Rattle.isis_base.specs.PduKinds.{kind_of_number}
use Rattle.isis_base.specs.Identifiers.{lsp_number}
use Rattle.iso_checksum.specs.Checksum.{checksum_holds}
use Rattle.isis_tlv.specs.Walks.{items_of}
use Rattle.isis_pdu.specs.Table.{first_fault}
use Rattle.isis_pdu.specs.Decoded.{decoded}
use Rattle.hmac_auth.specs.Auth.{digest_place, auth_fault}
use Rattle.model_datagram.specs.Frames.{framed, unframed}
use Rattle.model_datagram.specs.Values.{items_in}
use Rattle.model_datagram.specs.Reading.{read}
use Rattle.model_datagram.proofs.rows.frr_rows.Goals as goal

pub returns-clause-lsp : goal.returns-clause-lsp
unfolding read framed unframed decoded first_fault kind_of_number items_of items_in lsp_number checksum_holds auth_fault digest_place
returns-clause-lsp c = refl

pub returns-clause-purge : goal.returns-clause-purge
unfolding read framed unframed decoded first_fault kind_of_number items_of items_in lsp_number checksum_holds auth_fault digest_place
returns-clause-purge c = refl

pub returns-clause-csnp : goal.returns-clause-csnp
unfolding read framed unframed decoded first_fault kind_of_number items_of items_in lsp_number checksum_holds auth_fault digest_place
returns-clause-csnp c = refl

pub returns-clause-psnp : goal.returns-clause-psnp
unfolding read framed unframed decoded first_fault kind_of_number items_of items_in lsp_number checksum_holds auth_fault digest_place
returns-clause-psnp c = refl
