use Rattle.std.proofs.Common.{◌∙◌, List, map, ap}
use Rattle.model_router.specs.Events as event
use Rattle.model_router.specs.SnpTable.{SnpEntry}
use Rattle.model_router.specs.Numbers.{system_number}
use Rattle.model_datagram.specs.Values.{snp_entry}
use Rattle.router_desk.specs.Opening.{envelope_of}
use Rattle.router_desk.specs.Heard.{range_of}
use Rattle.router_desk.proofs.TwinLemmas.{entries-twins}
use Rattle.router_desk.proofs.reading.snp.Goals as goal

pub returns-clause-message : goal.returns-clause-message
returns-clause-message c =
    ap (λ (list : List SnpEntry). event.SnpHeard c.args.level (envelope_of c.args.from) (system_number c.args.source.system) (range_of c.args.range) list)
    (entries-twins c.in_ok-entries.entries.items ∙ ap (map snp_entry) c.in_ok-entries.ensures)
