use Rattle.std.proofs.Common.{◌≡◌, ℕ, List, Bool, length, is_some}
use Rattle.std.specs.List.{AllByRecursion}
use Rattle.std.specs.Option.{option_copied}
use Rattle.std.specs.Vec.Iter.{into_iter_items}
use Rattle.isis_base.specs.declared.level.Level.{Level}
use Rattle.model_router.specs.Routers.{Router}
use Rattle.model_router.specs.OwnLsps.{look_all}
use Rattle.model_datagram.specs.Lsps.{given_octets}
use Rattle.router_sending.specs.Drafts.{DraftView}
use Rattle.router_levels.specs.Views.{state_of, HasRoom}
use Rattle.router_levels.specs.Drafts.{AreUnder, wants_of}
use Rattle.router_levels.proofs.level_parts.LevelParts.look_all.Given as goal

-- what is left to look at gives what all give
abbrev pub invariant-loop-draft : goal.invariant-loop-draft
invariant-loop-draft l = record {
  keyed : AllByRecursion (λ (d : DraftView). is_some (option_copied l.key) ≡ d.keyed) (into_iter_items l.drafts);
  room : HasRoom l.self (length (into_iter_items l.drafts)) (length (into_iter_items l.drafts));
  circuits : l.self.book.circuits ≡ l.fn.self.book.circuits;
  state : (leaks : Router → Level → List (ℕ × ℕ)) (attached : Router → Bool) (r : Router) (level : Level)
      → AreUnder (option_copied l.key) r level (into_iter_items l.fn.drafts)
      → AreUnder (option_copied l.key) r level (into_iter_items l.drafts)
      × (look_all (given_octets leaks attached) r level (state_of l.self) (wants_of (into_iter_items l.drafts))
      ≡ look_all (given_octets leaks attached) r level (state_of l.fn.self) (wants_of (into_iter_items l.fn.drafts)));
}

abbrev pub decreases-loop-draft : goal.decreases-loop-draft
decreases-loop-draft l = length (into_iter_items l.drafts)
