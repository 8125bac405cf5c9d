-- What is sent as its reader is to take it, and what that needs of the reader (own).
use Rattle.std.specs.Prelude.{◌≡◌, ℕ, true, false, Bool, ◌==◌, ◌||◌, List, [], ◌∷◌, Some, None, if◌then◌else◌}
use Rattle.isis_base.specs.declared.pdu_kind.PduKind.{PduKind}
use Rattle.isis_base.specs.declared.pdu_kind.PduKind.TheVariants as kind
use Rattle.model_router.specs.Ranks.{is_live}
use Rattle.model_router.specs.Configs.{Config}
use Rattle.model_router.specs.Routers.{Circuit}
use Rattle.model_router.specs.Datagrams.{Sent, PointHello, LanHello, Lsp, Csnp, Psnp}
use Rattle.model_router.specs.Events.{Envelope, Message, PointHelloHeard, LanHelloHeard, LspHeard, SnpHeard}
use Rattle.model_datagram.specs.Datagrams.{pdu_octets, datagram}
use Rattle.model_datagram.specs.Reading.{read}
use Rattle.model_datagram.specs.Tests.{goes_on, is_run, key_for}

-- whether an SNPA stands in a list of the model's (own)
abbrev pub names : ℕ → List ℕ → Bool
names snpa [] = false
names snpa (first ∷ snpas) = (first == snpa) || names snpa snpas

-- the envelope of what a system sends in a boot (own)
abbrev pub envelope : Config → ℕ → Envelope
envelope config boot = record { snpa = config.system; boot = boot }

-- The message that what is sent in a boot on a circuit says to a reader, whose SNPA is `own`. An LSP
-- that is a purge has 0 seconds left (own).
abbrev pub said : ℕ → Config → ℕ → ℕ → Circuit → Sent → Message
said own config boot place c (PointHello state extended named) = PointHelloHeard (record {
  source = config.system;
  snpa = config.system;
  boot = boot;
  runs = config.runs;
  holding = 30;
  priority = 0;
  lan = 0;
  areas = config.areas;
  handshake = Some (record { state = state; extended = extended; names = named });
  names_me = false;
})
said own config boot place c (LanHello level lan snpas) = LanHelloHeard level (record {
  source = config.system;
  snpa = config.system;
  boot = boot;
  runs = config.runs;
  holding = 30;
  priority = c.priority;
  lan = lan;
  areas = config.areas;
  handshake = None;
  names_me = names own snpas;
})
said own config boot place c (Lsp level id cell) = LspHeard level (envelope config boot) (record {
  id = id;
  rank = cell.rank;
  checksum = cell.checksum;
  flags = cell.flags;
  left = if is_live cell.rank then cell.left else 0;
  octets = pdu_octets config place c (Lsp level id cell);
})
said own config boot place c (Csnp level start end entries) =
    SnpHeard level (envelope config boot) config.system (Some (start, end)) entries
said own config boot place c (Psnp level entries) =
    SnpHeard level (envelope config boot) config.system None entries

-- what is sent is read as what it says (own)
abbrev pub ReadsBack : Config → Circuit → Config → ℕ → ℕ → Circuit → Sent → Type 0
ReadsBack by on config boot place c sent =
    read by on (datagram config boot place c sent) ≡ said by.system config boot place c sent

-- ---- who reads it

-- the type of what is sent (9)
abbrev pub kind_sent : Sent → PduKind
kind_sent (PointHello state extended named) = kind.PointHello
kind_sent (LanHello level lan snpas) = kind.LanHello level
kind_sent (Lsp level id cell) = kind.Lsp level
kind_sent (Csnp level start end entries) = kind.Csnp level
kind_sent (Psnp level entries) = kind.Psnp level

-- a reader `by` on its circuit `on`, which is of a hello's kind, runs the level, and has the
-- sender's key (own)
pub record CanRead (by : Config) (on : Circuit) (config : Config) (c : Circuit)
    (kind : PduKind) : Type 0 where
  pub goes : goes_on on kind ≡ true
  pub runs : is_run by kind ≡ true
  pub key : key_for by on kind ≡ key_for config c kind
