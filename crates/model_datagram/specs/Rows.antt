-- PDUs that another router made, FRR isisd 8.4.4, and PDUs that each test refuses, for rows that
-- are worked out (own).
use Rattle.std.specs.Prelude.{ℕ, Bool, true, false, List, [], ◌∷◌, ◌++◌, replicate, codes, Option, Some, None}
use Rattle.isis_base.specs.declared.level.Level.TheVariants as level
use Rattle.isis_base.specs.declared.level.LevelSet.TheVariants as levels
use Rattle.isis_tlv.specs.declared.three_way.Adj.TheVariants.{Down}
use Rattle.isis_tlv.specs.Tlvs.{tlv_octets}
use Rattle.isis_pdu.specs.Views.{PointHello, LanHello, Lsp, Psnp}
use Rattle.isis_pdu.specs.Spelling.{octets_of_pdu}
use Rattle.model_router.specs.Both.{Both}
use Rattle.model_router.specs.Configs.{Config}
use Rattle.model_router.specs.Cells.{Heard}
use Rattle.model_router.specs.SnpTable.{SnpEntry}
use Rattle.model_router.specs.Events.{Envelope, Message, PointHelloHeard}
use Rattle.model_router.specs.Rows.{config, circuit}
use Rattle.model_router.specs.Numbers.{system_id, node_id, lsp_id}
use Rattle.model_datagram.specs.Frames.{framed}
use Rattle.model_datagram.specs.Reading.{read}

-- an LSP of level 1, under the key "AreaKey1" (own)
abbrev pub frr_lsp : List ℕ
frr_lsp =
    131 ∷ 27 ∷ 1 ∷ 0 ∷ 18 ∷ 1 ∷ 0 ∷ 0 ∷ 0 ∷ 56 ∷ 4 ∷ 155 ∷ 0 ∷ 0 ∷ 0 ∷ 0 ∷ 0 ∷ 2 ∷ 0 ∷ 0 ∷ 0 ∷ 0 ∷ 0
    ∷ 1 ∷ 167 ∷ 8 ∷ 3 ∷ 10 ∷ 17 ∷ 54 ∷ 115 ∷ 183 ∷ 18 ∷ 56 ∷ 5 ∷ 55 ∷ 24 ∷ 27 ∷ 130 ∷ 184 ∷ 189 ∷ 34
    ∷ 97 ∷ 20 ∷ 233 ∷ 55 ∷ 1 ∷ 4 ∷ 3 ∷ 73 ∷ 0 ∷ 1 ∷ 137 ∷ 2 ∷ 82 ∷ 50 ∷ []

-- a purge of level 2, under the key "DomainKey1" (own)
abbrev pub frr_purge : List ℕ
frr_purge =
    131 ∷ 27 ∷ 1 ∷ 0 ∷ 20 ∷ 1 ∷ 0 ∷ 0 ∷ 0 ∷ 46 ∷ 0 ∷ 0 ∷ 0 ∷ 0 ∷ 0 ∷ 0 ∷ 0 ∷ 4 ∷ 2 ∷ 0 ∷ 0 ∷ 0 ∷ 0
    ∷ 2 ∷ 189 ∷ 192 ∷ 3 ∷ 10 ∷ 17 ∷ 54 ∷ 93 ∷ 94 ∷ 147 ∷ 187 ∷ 112 ∷ 173 ∷ 80 ∷ 180 ∷ 91 ∷ 235 ∷ 174
    ∷ 81 ∷ 75 ∷ 237 ∷ 163 ∷ 210 ∷ []

-- a CSNP of level 1, under the key "AreaKey1" (own)
abbrev pub frr_csnp : List ℕ
frr_csnp =
    131 ∷ 33 ∷ 1 ∷ 0 ∷ 24 ∷ 1 ∷ 0 ∷ 0 ∷ 0 ∷ 70 ∷ 0 ∷ 0 ∷ 0 ∷ 0 ∷ 0 ∷ 2 ∷ 0 ∷ 0 ∷ 0 ∷ 0 ∷ 0 ∷ 0 ∷ 0
    ∷ 0 ∷ 0 ∷ 255 ∷ 255 ∷ 255 ∷ 255 ∷ 255 ∷ 255 ∷ 255 ∷ 255 ∷ 10 ∷ 17 ∷ 54 ∷ 105 ∷ 227 ∷ 241 ∷ 91
    ∷ 70 ∷ 93 ∷ 138 ∷ 132 ∷ 53 ∷ 105 ∷ 24 ∷ 188 ∷ 165 ∷ 223 ∷ 175 ∷ 135 ∷ 9 ∷ 16 ∷ 4 ∷ 155 ∷ 0 ∷ 0
    ∷ 0 ∷ 0 ∷ 0 ∷ 2 ∷ 0 ∷ 0 ∷ 0 ∷ 0 ∷ 0 ∷ 1 ∷ 167 ∷ 8 ∷ []

-- a PSNP of level 1, under the key "AreaKey1" (own)
abbrev pub frr_psnp : List ℕ
frr_psnp =
    131 ∷ 17 ∷ 1 ∷ 0 ∷ 26 ∷ 1 ∷ 0 ∷ 0 ∷ 0 ∷ 54 ∷ 0 ∷ 0 ∷ 0 ∷ 0 ∷ 0 ∷ 1 ∷ 0 ∷ 10 ∷ 17 ∷ 54 ∷ 199 ∷ 91
    ∷ 73 ∷ 102 ∷ 102 ∷ 24 ∷ 66 ∷ 204 ∷ 250 ∷ 253 ∷ 46 ∷ 17 ∷ 221 ∷ 90 ∷ 69 ∷ 205 ∷ 9 ∷ 16 ∷ 4 ∷ 154
    ∷ 0 ∷ 0 ∷ 0 ∷ 0 ∷ 0 ∷ 2 ∷ 0 ∷ 0 ∷ 0 ∷ 0 ∷ 0 ∷ 1 ∷ 167 ∷ 8 ∷ []

-- a reader of both levels, with these keys, on a point-to-point circuit or a LAN, from SNPA 2 (own)
abbrev pub reader : Both (Option (List ℕ)) → Config
reader keys = record config { runs = record { one = true; two = true }; keys = keys }

-- own
abbrev pub no_keys : Both (Option (List ℕ))
no_keys = record { one = None; two = None }

-- own
abbrev pub keys : Both (Option (List ℕ))
keys = record { one = Some (codes "AreaKey1"); two = Some (codes "DomainKey1") }

-- own
abbrev pub other_keys : Both (Option (List ℕ))
other_keys = record { one = Some (codes "AreaKey2"); two = None }

-- own
abbrev pub read_by : Config → Bool → List ℕ → Message
read_by by lan octets = read by (circuit lan) (framed 2 3 octets)

-- an LSP of flags 3 (own)
abbrev pub heard : ℕ → ℕ → ℕ → ℕ → List ℕ → Heard
heard id rank checksum left octets = record {
  id = id;
  rank = rank;
  checksum = checksum;
  flags = 3;
  left = left;
  octets = octets;
}

-- a reader of level 1 alone (own)
abbrev pub level_one : Config
level_one = record config { runs = record { one = true; two = false } }

-- what the SNPs' one entry says, with its lifetime (own)
abbrev pub entry : ℕ → SnpEntry
entry lifetime = record { id = 131072; rank = 2; lifetime = lifetime; checksum = 42760 }

-- PDUs of system 2 (own)
abbrev pub psnp : List ℕ → List ℕ
psnp tlvs = octets_of_pdu (Psnp level.One (node_id 512) tlvs)

-- own
abbrev pub lsp : ℕ → ℕ → ℕ → List ℕ
lsp lifetime number checksum = octets_of_pdu (Lsp level.One lifetime (lsp_id 131072) number checksum 3 [])

-- own
abbrev pub point_hello : List ℕ → List ℕ
point_hello tlvs = octets_of_pdu (PointHello levels.Both (system_id 2) 30 1 tlvs)

-- own
abbrev pub lan_hello : List ℕ
lan_hello = octets_of_pdu (LanHello level.Two levels.Two (system_id 2) 30 64 (node_id 513) [])

-- what `point_hello` says with a three-way state Down and an extended circuit ID (own)
abbrev pub down_heard : ℕ → Message
down_heard extended = PointHelloHeard (record {
  source = 2;
  snpa = 2;
  boot = 3;
  runs = record { one = true; two = true };
  holding = 30;
  priority = 0;
  lan = 0;
  areas = [];
  handshake = Some (record { state = Down; extended = extended; names = None });
  names_me = false;
})

-- TLVs of padding: five of 255 octets, and one more (own)
abbrev pub padding : ℕ → List ℕ
padding count =
    tlv_octets 8 (replicate 255 0) ++ tlv_octets 8 (replicate 255 0)
    ++ tlv_octets 8 (replicate 255 0)
    ++ tlv_octets 8 (replicate 255 0) ++ tlv_octets 8 (replicate 255 0)
    ++ tlv_octets 8 (replicate count 0)

-- the envelope of what is read (own)
abbrev pub from_two : Envelope
from_two = record { snpa = 2; boot = 3 }
