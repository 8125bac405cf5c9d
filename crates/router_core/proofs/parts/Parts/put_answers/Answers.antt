use Rattle.std.proofs.Common.{map}
use Rattle.isis_base.specs.declared.entry.LspEntry.{LspEntry}
use Rattle.isis_base.specs.Identifiers.{lsp_number}
use Rattle.router_wanted.specs.Views.{wanted_of}
use Rattle.router_core.specs.Machines.{AreWantedFor}
use Rattle.router_core.proofs.NodesLemmas.{come-end, come-first, come-turn, rest-all}
use Rattle.router_core.proofs.parts.Parts.put_answers.Goals as goal

-- src/snp_told.rt
pub loop-left-init : goal.loop-left-init
loop-left-init c = record { wanted = c.requires.wanted; come = come-first c.args.self.now c.args.level c.args.entries.now c.args.aside.now.entries }

-- src/snp_told.rt
pub loop-left-preserved : goal.loop-left-preserved
loop-left-preserved c =
    let r = c.args.self.now in
    let l = c.args.level in
    let left = c.loop-left.left.now in
    record {
      wanted = rest-all (λ (e : LspEntry). AreWantedFor r l (lsp_number e.id) (map wanted_of c.args.wanted.now)) left c.loop-left.invariant.wanted;
      come = come-turn r l c.args.entries.now left _ c.args.aside.now.entries c.loop-left.aside.entries c.put_answer.new.aside.entries c.in-len1-up.len_at_least c.in-Ok.ensures c.loop-left.invariant.come;
    }

-- src/snp_told.rt
pub returns : goal.returns
returns c = come-end c.args.self.now c.args.level c.args.entries.now c.loop-left.left.now c.args.aside.now.entries c.loop-left.aside.entries c.in_default.len_below c.loop-left.invariant.come
