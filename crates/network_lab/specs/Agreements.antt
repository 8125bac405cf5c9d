-- Routers of one group hold the same live LSPs, a member of a LAN those of the router that sweeps it, and
-- what two routers hold live under one number is the same (ISO 10589 7.3.17; the words: own).
use Rattle.std.specs.Prelude.{◌≡◌, ℕ, true, false, List, Some}
use Rattle.isis_base.specs.declared.level.Level.{Level}
use Rattle.model_router.specs.Places.{nth}
use Rattle.model_router.specs.Ranks.{is_live}
use Rattle.model_router.specs.Cells.{Cell}
use Rattle.model_router.specs.Books.{cell_at}
use Rattle.model_router.specs.LetGos.{contains}
use Rattle.model_router.specs.Routers.{Router, book_of}
use Rattle.model_router.specs.Flooding.{IsKept}
use Rattle.lab_facts.specs.Joined.{In}
use Rattle.model_network.specs.LiveViews.{live_at}
use Rattle.model_network.specs.Origins.{body_of}
use Rattle.lab_facts.specs.Sightings.{doubled_in}
use Rattle.network_lab.specs.LabNets.{Seen}
use Rattle.network_lab.specs.LanStates.{sweeper_at}
use Rattle.network_lab.specs.LinkStates.{groups_at}

-- two routers stand in one group of a level (own)
pub record AreTogether (s : Seen) (level : Level) (i j : ℕ) : Type 0 where
  pub group : List ℕ
  pub listed : In group (groups_at s level)
  pub near : In i group
  pub far : In j group

-- no router of a router's group let an LSP ID go (own)
pub record IsKeptInGroup (s : Seen) (level : Level) (i id : ℕ) : Type 0 where
  pub kept : (j : ℕ) (r : Router) → AreTogether s level i j → nth s.routers j ≡ Some r
      → IsKept r level id

-- where nothing was injected, routers of one group hold the same live LSP of each LSP ID that none of
-- the group let go, or none of them holds one (own)
abbrev pub AreAgreeing : Seen → Type 0
AreAgreeing s = s.injected ≡ 0 → (level : Level) (i j : ℕ) (a b : Router) (id : ℕ)
    → AreTogether s level i j → IsKeptInGroup s level i id
    → nth s.routers i ≡ Some a → nth s.routers j ≡ Some b
    → live_at a level id ≡ live_at b level id

-- where nothing was injected, a member of a LAN and the router that sweeps it hold the same live LSPs,
-- or neither holds one, whatever either let go (ISO 10589 7.3.15.2; own)
abbrev pub AreSweptAlike : Seen → Type 0
AreSweptAlike s = s.injected ≡ 0 → (link : ℕ) (level : Level) (i j id : ℕ) (a b : Router)
    → sweeper_at s link i level ≡ Some j
    → nth s.routers i ≡ Some a → nth s.routers j ≡ Some b
    → live_at a level id ≡ live_at b level id

-- where nothing was injected, what two routers hold live of one LSP ID under one number has the same
-- flags octet and TLVs, unless the LSP ID is doubled (own)
abbrev pub HaveOneBody : Seen → Type 0
HaveOneBody s = s.injected ≡ 0 → (level : Level) (i j id : ℕ) (a b : Router) (c d : Cell)
    → contains (doubled_in s.noted.past level) id ≡ false
    → nth s.routers i ≡ Some a → nth s.routers j ≡ Some b
    → cell_at (book_of a level) id ≡ Some c → cell_at (book_of b level) id ≡ Some d
    → c.rank ≡ d.rank → is_live c.rank ≡ true → body_of c ≡ body_of d
