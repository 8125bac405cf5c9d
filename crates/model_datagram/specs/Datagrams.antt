-- What is sent, as a datagram's octets (ISO 10589 9; the frame: own).
use Rattle.std.specs.Prelude.{ℕ, ◌+◌, ◌*◌, Bool, ◌&&◌, List, if◌then◌else◌}
use Rattle.isis_base.specs.declared.level.LevelSet.{LevelSet}
use Rattle.isis_base.specs.declared.level.LevelSet.TheVariants as levels
use Rattle.isis_pdu.specs.Views as pdu
use Rattle.model_router.specs.Both.{Both, at}
use Rattle.model_router.specs.Configs.{Config}
use Rattle.model_router.specs.Routers.{Circuit}
use Rattle.model_router.specs.Datagrams.{Sent, PointHello, LanHello, Lsp, Csnp, Psnp}
use Rattle.model_router.specs.Numbers.{system_id, node_id, lsp_id}
use Rattle.model_datagram.specs.Frames.{framed}
use Rattle.model_datagram.specs.Signing.{signed}
use Rattle.model_datagram.specs.Lsps.{lsp_sent}
use Rattle.model_datagram.specs.Tlvs.{point_tlvs, lan_tlvs, entry_tlvs}

-- the circuit type of the levels that are run (ISO 10589 9.5)
abbrev pub levels_run : Both Bool → LevelSet
levels_run runs =
    if runs.one && runs.two then levels.Both else (if runs.two then levels.Two else levels.One)

-- The PDU of a system on a circuit, whose number is its place and 1: of a hello with holding time
-- 30 (own: for every system), of an SNP with the system as its source, of an LSP as it is held.
unfoldable pub pdu_octets : Config → ℕ → Circuit → Sent → List ℕ
pdu_octets config place c (PointHello state extended names) =
    signed c.key (pdu.PointHello (levels_run config.runs) (system_id config.system) 30 (place + 1))
    (point_tlvs config.areas c.address state extended names)
pdu_octets config place c (LanHello level lan snpas) =
    signed c.key
    (pdu.LanHello level (levels_run config.runs) (system_id config.system) 30 c.priority
    (node_id lan))
    (lan_tlvs config.areas c.address snpas)
pdu_octets config place c (Lsp level id cell) = lsp_sent (at config.keys level) cell
pdu_octets config place c (Csnp level start end entries) =
    signed (at config.keys level)
    (pdu.Csnp level (node_id (256 * config.system)) (lsp_id start) (lsp_id end))
    (entry_tlvs entries)
pdu_octets config place c (Psnp level entries) =
    signed (at config.keys level) (pdu.Psnp level (node_id (256 * config.system)))
    (entry_tlvs entries)

-- a router's SNPA is its system ID; it is in a boot (own)
abbrev pub datagram : Config → ℕ → ℕ → Circuit → Sent → List ℕ
datagram config boot place c sent = framed config.system boot (pdu_octets config place c sent)
