-- What is heard, as the definitions take it, and the rows of the tables as answers (own).
use Rattle.std.specs.Prelude.{ℕ, List, [], ◌∷◌, Option, Some, None, Bool, true, false}
use Rattle.isis_base.specs.declared.entry.LspEntry.{LspEntry}
use Rattle.isis_base.specs.Identifiers.{lsp_number}
use Rattle.isis_base.specs.Keys.{entry_rank}
use Rattle.model_router.specs.declared.lsp_case.LspCase.{LspCase}
use Rattle.model_router.specs.declared.lsp_case.LspCase.TheVariants as lsp
use Rattle.model_router.specs.declared.snp_case.SnpCase.{SnpCase}
use Rattle.model_router.specs.declared.snp_case.SnpCase.TheVariants as snp
use Rattle.model_router.specs.Cells.{Heard}
use Rattle.model_router.specs.SnpTable.{SnpEntry, sets_flag}
use Rattle.flag_sync.specs.declared.heard.LspHeard.{LspHeard}
use Rattle.flag_sync.specs.declared.heard.LspAnswer.{LspAnswer}
use Rattle.flag_sync.specs.declared.heard.LspAnswer.TheVariants as answer
use Rattle.flag_sync.specs.declared.heard.EntryAnswer.{EntryAnswer}

-- an LSP that is heard
abbrev pub heard_of : LspHeard → Heard
heard_of l = record {
  id = lsp_number l.entry.id;
  rank = entry_rank l.entry;
  checksum = l.entry.checksum;
  flags = l.flags;
  left = l.entry.lifetime;
  octets = l.octets.now;
}

-- an entry of a sequence number PDU that is heard
abbrev pub entry_of : LspEntry → SnpEntry
entry_of e = record {
  id = lsp_number e.id;
  rank = entry_rank e;
  lifetime = e.lifetime;
  checksum = e.checksum;
}

abbrev pub entries_of : List LspEntry → List SnpEntry
entries_of [] = []
entries_of (e ∷ entries) = entry_of e ∷ entries_of entries

-- the answer of a row
abbrev pub answer_of : LspCase → LspHeard → LspAnswer
answer_of lsp.Outbid l = answer.Outbid l.entry.number
answer_of lsp.PurgedOwn l = answer.PurgedOwn
answer_of lsp.AckPurge l = answer.AckPurge
answer_of lsp.Confused l = answer.Confused
answer_of lsp.Stored l = answer.Stored
answer_of lsp.Same l = answer.Same
answer_of lsp.Older l = answer.Older

-- the number above which one's own LSP is to be issued anew
abbrev pub outbid_of : SnpCase → LspEntry → Option ℕ
outbid_of snp.Nothing e = None
outbid_of snp.Outbid e = Some e.number
outbid_of snp.Confused e = None
outbid_of snp.Same e = None
outbid_of snp.Older e = None
outbid_of snp.Newer e = None
outbid_of snp.Asked e = None
outbid_of snp.Unasked e = None

abbrev pub entry_answer_of : SnpCase → LspEntry → EntryAnswer
entry_answer_of row e = record { flagged = sets_flag row; outbid = outbid_of row e }

-- whether a row keeps what was heard
abbrev pub makes_entry : LspCase → Bool
makes_entry lsp.Outbid = false
makes_entry lsp.PurgedOwn = true
makes_entry lsp.AckPurge = false
makes_entry lsp.Confused = false
makes_entry lsp.Stored = true
makes_entry lsp.Same = false
makes_entry lsp.Older = false
