-- What a router reads of a datagram: the model's message, or the cause of the first test of octets
-- that fails (own: the order).
use Rattle.std.specs.Prelude.{ℕ, ◌==◌, false, List, take, map, Option, Some, None, Result, Ok, Err, if◌then◌else◌}
use Rattle.std.specs.Result.{ok_prefix}
use Rattle.isis_base.specs.Identifiers.{lsp_number}
use Rattle.isis_pdu.specs.declared.fault.PduFault.{PduFault}
use Rattle.isis_pdu.specs.Views.{PduView, LanHello, PointHello, Lsp, Csnp, Psnp}
use Rattle.isis_pdu.specs.Decoded.{decoded}
use Rattle.model_router.specs.declared.drop_name.DropName.{DropName}
use Rattle.model_router.specs.declared.drop_name.DropName.TheVariants as drop
use Rattle.model_router.specs.Ranks.{live_rank, purge_rank}
use Rattle.model_router.specs.Both.{runs_of}
use Rattle.model_router.specs.Configs.{Config}
use Rattle.model_router.specs.Routers.{Circuit}
use Rattle.model_router.specs.Events.{Envelope, Message, Refused, PointHelloHeard, LanHelloHeard, LspHeard, SnpHeard}
use Rattle.model_router.specs.Numbers.{system_number, node_number}
use Rattle.model_datagram.specs.Frames.{unframed}
use Rattle.model_datagram.specs.Values.{areas_in, snpas_in, entries_in, handshakes_in, snp_entry, lists, first_handshake}
use Rattle.model_datagram.specs.Tests.{tests_of, first_failing}

-- the rank of an LSP: a purge has lifetime 0 (ISO 10589 7.3.16.4)
abbrev pub rank_read : ℕ → ℕ → ℕ
rank_read number lifetime = if lifetime == 0 then purge_rank number else live_rank number

-- What a PDU in an envelope says, whose octets are these: `own` is the reader's own SNPA (9).
abbrev pub message : ℕ → Envelope → PduView → List ℕ → Message
message own from (LanHello level circuit_type source holding priority lan tlvs) octets =
    LanHelloHeard level (record {
      source = system_number source;
      snpa = from.snpa;
      boot = from.boot;
      runs = runs_of circuit_type;
      holding = holding;
      priority = priority;
      lan = node_number lan;
      areas = ok_prefix (areas_in tlvs);
      handshake = None;
      names_me = lists own (ok_prefix (snpas_in tlvs));
    })
message own from (PointHello circuit_type source holding circuit tlvs) octets =
    PointHelloHeard (record {
      source = system_number source;
      snpa = from.snpa;
      boot = from.boot;
      runs = runs_of circuit_type;
      holding = holding;
      priority = 0;
      lan = 0;
      areas = ok_prefix (areas_in tlvs);
      handshake = first_handshake (ok_prefix (handshakes_in tlvs));
      names_me = false;
    })
message own from (Lsp level lifetime id number checksum flags tlvs) octets =
    LspHeard level from (record {
      id = lsp_number id;
      rank = rank_read number lifetime;
      checksum = checksum;
      flags = flags;
      left = lifetime;
      octets = octets;
    })
message own from (Csnp level source start end tlvs) octets =
    SnpHeard level from (system_number source.system) (Some (lsp_number start, lsp_number end))
    (map snp_entry (ok_prefix (entries_in tlvs)))
message own from (Psnp level source tlvs) octets =
    SnpHeard level from (system_number source.system) None
    (map snp_entry (ok_prefix (entries_in tlvs)))

-- own
abbrev pub refused_or : Option DropName → Message → Message
refused_or None message = message
refused_or (Some cause) message = Refused cause

-- a PDU of so many octets in an envelope (own)
abbrev pub read_pdu : Config → Circuit → Envelope → List ℕ → Result (PduView × ℕ) PduFault → Message
read_pdu config c from octets (Err fault) = Refused drop.Pdu
read_pdu config c from octets (Ok found) =
    let whole = take found.1 octets in
    refused_or (first_failing (tests_of config c found.0 whole))
    (message config.system from found.0 whole)

-- own
abbrev pub read_frame : Config → Circuit → Result (Envelope × List ℕ) DropName → Message
read_frame config c (Err cause) = Refused cause
read_frame config c (Ok parts) = read_pdu config c parts.0 parts.1 (decoded parts.1)

-- what a router reads of a datagram on a circuit (own)
unfoldable pub read : Config → Circuit → List ℕ → Message
read config c datagram = read_frame config c (unframed datagram)
