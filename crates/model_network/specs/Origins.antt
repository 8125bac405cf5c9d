-- Where a live LSP that is held comes from: the router of its system (ISO 10589 7.3.7; the words:
-- own).
use Rattle.std.specs.Prelude.{◌≡◌, ℕ, ◌/◌, ◌≤◌, true, ◌⊎◌, List, [], ◌∷◌, length, drop, Some}
use Rattle.isis_base.specs.declared.level.Level.{Level}
use Rattle.model_router.specs.Places.{nth}
use Rattle.model_router.specs.Ranks.{is_live}
use Rattle.model_router.specs.Cells.{Cell}
use Rattle.model_router.specs.Books.{cell_at}
use Rattle.model_router.specs.Configs.{Config}
use Rattle.model_router.specs.Routers.{Circuit, Router, book_of}
use Rattle.model_router.specs.Datagrams.{Lsp}
use Rattle.model_router.specs.Events.{Message, Refused, PointHelloHeard, LanHelloHeard, LspHeard, SnpHeard}
use Rattle.model_datagram.specs.Reading.{read}
use Rattle.model_network.specs.Networks.{Datagram, octets_of, Network}
use Rattle.model_network.specs.Speakers.{IsLegible}
use Rattle.model_network.specs.Ports.{In}

-- what an LSP says beside its key: its flags octet, and its TLVs (9.8)
pub record Body : Type 0 where
  pub flags : ℕ
  pub tlvs : List ℕ

abbrev pub body_of : Cell → Body
body_of cell = record { flags = cell.flags; tlvs = drop 27 cell.octets }

-- a router's state is one of those that were (own)
abbrev pub Among : Router → List Router → Type 0
Among r [] = ⊥
Among r (x ∷ past) = (r ≡ x) ⊎ Among r past

-- at some moment the router of an LSP ID's system held the LSP with this rank and body (own)
pub record WasOwned (past : List Router) (level : Level) (id rank : ℕ) (body : Body) : Type 0 where
  pub owner : Router
  pub was : Among owner past
  pub own : id / 65536 ≡ owner.config.system
  pub cell : Cell
  pub held : cell_at (book_of owner level) id ≡ Some cell
  pub rank_is : cell.rank ≡ rank
  pub body_is : body_of cell ≡ body

-- a message says nothing of LSPs (own)
abbrev pub IsSilent : Message → Type 0
IsSilent (Refused cause) = Unit {0}
IsSilent (PointHelloHeard h) = Unit {0}
IsSilent (LanHelloHeard level h) = Unit {0}
IsSilent (LspHeard level from h) = ⊥
IsSilent (SnpHeard level from source range entries) = ⊥

-- a datagram is read as what it says, but for LAN hellos, of which nothing is read that says
-- something of LSPs (own)
abbrev pub IsClear : Datagram → Type 0
IsClear d = IsLegible d ⊎ ((by : Config) (on : Circuit) → IsSilent (read by on (octets_of d)))

-- a datagram is clear, and a live LSP has a header (own)
pub record IsPlain (d : Datagram) : Type 0 where
  pub clear : IsClear d
  pub header : (level : Level) (id : ℕ) (cell : Cell) → d.says ≡ Lsp level id cell
      → is_live cell.rank ≡ true → 27 ≤ length cell.octets

-- each live LSP that is held, or stands in a datagram, was held with its rank and body by the router
-- of its system; and datagrams are plain (own)
pub record HaveOrigins (net : Network) : Type 0 where
  pub held : (i : ℕ) (r : Router) (level : Level) (id : ℕ) (cell : Cell)
      → nth net.routers i ≡ Some r → cell_at (book_of r level) id ≡ Some cell
      → is_live cell.rank ≡ true → WasOwned net.past level id cell.rank (body_of cell)
  pub said : (d : Datagram) (level : Level) (id : ℕ) (cell : Cell)
      → In d net.datagrams → d.says ≡ Lsp level id cell
      → is_live cell.rank ≡ true → WasOwned net.past level id cell.rank (body_of cell)
  pub plain : (d : Datagram) → In d net.datagrams → IsPlain d

-- no router holds anything, and nothing was sent (own)
pub record HoldsNothing (net : Network) : Type 0 where
  pub empty : (i : ℕ) (r : Router) (level : Level) → nth net.routers i ≡ Some r
      → (book_of r level).cells ≡ []
  pub nothing : net.datagrams ≡ []

-- an LSP ID isn't doubled: the router of its system never held two bodies under one rank (own)
pub record IsSingle (past : List Router) (level : Level) (id : ℕ) : Type 0 where
  pub one : (rank : ℕ) (a b : Body) → is_live rank ≡ true → WasOwned past level id rank a
      → WasOwned past level id rank b → a ≡ b
