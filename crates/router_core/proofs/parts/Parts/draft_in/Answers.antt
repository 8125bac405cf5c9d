use Rattle.std.proofs.Common.{ℕ, List, Option, sym, subst}
use Rattle.model_router.specs.Good.{IsIssuable}
use Rattle.model_router.specs.Both.{at}
use Rattle.router_wanted.specs.Views.{contents_of}
use Rattle.router_core.proofs.WantedLemmas.{none-issuable}
use Rattle.router_core.proofs.IdleLemmas.{from-some}
use Rattle.router_core.proofs.parts.Parts.draft_in.Goals.{in-Some+in_ok-copy-in-Some, in-None}
use Rattle.router_core.proofs.parts.Parts.draft_in.Goals as goal

-- src/wanted.rt
pub new-requires-2 : goal.new-requires-2
new-requires-2 c = record {
  issuable = subst (λ (key : Option (List ℕ)). IsIssuable key (record { flags = c.match-said_of.flags.0; tlvs = c.match-said_of.flags.1 })) (sym c.level_key.ensures)
      (elim c.match-said_of.branch [
        | in-Some+in_ok-copy-in-Some w ↦ subst (λ (f : _). IsIssuable (at c.args.self.now.config.keys c.args.level) (record { flags = f.0; tlvs = f.1 })) (sym w.flags-is)
            (subst (λ (tlvs : List ℕ). IsIssuable (at c.args.self.now.config.keys c.args.level) (record { flags = w.in-Some.wanted.now.flags; tlvs = tlvs })) (sym w.in_ok-copy-in-Some.ensures)
            (from-some (λ x. IsIssuable (at c.args.self.now.config.keys c.args.level) (contents_of x.now)) c.said_of.result w.in-Some.wanted w.in-Some.is (c.said_of.ensures.issuable (at c.args.self.now.config.keys c.args.level) c.requires.issuable)))
        | in-None w ↦ subst (λ (f : _). IsIssuable (at c.args.self.now.config.keys c.args.level) (record { flags = f.0; tlvs = f.1 })) (sym w.flags-is)
            (subst (λ (tlvs : List ℕ). IsIssuable (at c.args.self.now.config.keys c.args.level) (record { flags = w.is_type.result; tlvs = tlvs })) (sym w.new.ensures) (none-issuable (at c.args.self.now.config.keys c.args.level) w.is_type.result))
      ]);
}
