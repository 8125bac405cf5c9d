-- A level's parts as contracts see them, and as the router's model has them (own).
use Rattle.std.specs.Prelude.{◌≡◌, ℕ, ◌+◌, ◌≤◌, ◌⊎◌, true, false, Bool, List, [], ◌∷◌, length}
use Rattle.isis_base.specs.declared.level.CircuitKind.{CircuitKind}
use Rattle.isis_base.specs.declared.level.CircuitKind.TheVariants.{PointToPoint, Lan}
use Rattle.model_router.specs.LetGos.{LetGo}
use Rattle.model_router.specs.Routers.{Circuit, LevelState}
use Rattle.flag_sync.specs.declared.heard.LspAnswer.{LspAnswer}
use Rattle.flag_sync.specs.declared.heard.LspAnswer.TheVariants as answer
use Rattle.flag_sync.specs.BookStates.{BookState, book_of, SameCircuits, KeepsRoom}
use Rattle.lsp_fragments.specs.Kept.{OwnState}

-- the database with its flags, the own LSPs that are issued, and the LSP IDs that were let go
pub record LevelView : Type 0 where
  pub book : BookState
  pub own : OwnState
  pub gone : LetGo

-- a level as the router's model has it
abbrev pub state_of : LevelView → LevelState
state_of view = record { book = book_of view.book; own = view.own.issued; gone = view.gone }

-- memory is taken for so many more entries, or for all that 65,536 leave, and for so many more own
-- LSPs
pub record HasRoom (view : LevelView) (entries issues : ℕ) : Type 0 where
  pub held : (entries ≤ view.book.store.spare)
      ⊎ (65536 ≤ view.book.store.spare + length view.book.store.entries)
  pub own : issues ≤ view.own.spare

-- no room that was taken is used up
pub record KeepsSpare (old new : LevelView) : Type 0 where
  pub held : old.book.store.spare ≤ new.book.store.spare
  pub own : old.own.spare ≤ new.own.spare

-- whether a kind of circuit is a LAN
abbrev pub is_lan : CircuitKind → Bool
is_lan PointToPoint = false
is_lan Lan = true

-- circuits of these kinds
abbrev pub AreOfKinds : List Circuit → List CircuitKind → Type 0
AreOfKinds [] [] = Unit {0}
AreOfKinds [] (kind ∷ kinds) = ⊥
AreOfKinds (c ∷ circuits) [] = ⊥
AreOfKinds (c ∷ circuits) (kind ∷ kinds) = (c.lan ≡ is_lan kind) × AreOfKinds circuits kinds

-- whether a row's answer keeps an entry of what was heard
abbrev pub keeps_entry : LspAnswer → Bool
keeps_entry answer.Stored = true
keeps_entry answer.Same = false
keeps_entry answer.Older = false
keeps_entry answer.Confused = false
keeps_entry (answer.Outbid above) = false
keeps_entry answer.PurgedOwn = true
keeps_entry answer.AckPurge = false

-- circuits stay; at most one entry and one own LSP take room
pub record Keeps (old new : LevelView) : Type 0 where
  pub circuits : SameCircuits old.book new.book
  pub room : KeepsRoom old.book new.book
  pub spare : old.own.spare ≤ new.own.spare + 1
