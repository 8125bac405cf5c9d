-- What own LSPs' drafts are for: the answer to another's copy, and what is wanted (ISO 10589 7.3.6,
-- 7.3.16.1; that drafts are made beforehand: own).
use Rattle.std.specs.Prelude.{◌≡◌, ℕ, Bool, List, [], ◌∷◌, Option, Some, None, IfSome}
use Rattle.isis_base.specs.declared.identifiers.LspId.{LspId}
use Rattle.isis_base.specs.declared.level.Level.{Level}
use Rattle.isis_base.specs.declared.entry.LspEntry.{LspEntry}
use Rattle.isis_base.specs.Identifiers.{lsp_number}
use Rattle.model_router.specs.Both.{at}
use Rattle.model_router.specs.Maps.{find}
use Rattle.model_router.specs.Routers.{Contents, Issued, Router}
use Rattle.model_router.specs.Takes.{Scene, answer_of}
use Rattle.model_datagram.specs.Lsps.{given_octets}
use Rattle.router_sending.specs.Drafts.{DraftView}

-- what a step knows, where own LSPs are written as octets (own)
abbrev pub scene_with : (Router → Level → List (ℕ × ℕ)) → (Router → Bool) → Router → Level → Scene
scene_with leaks attached r level =
    record { given = given_octets leaks attached; router = r; level = level }

-- a draft of a router's level, under its key there (RFC 5304 2)
pub record IsUnder (key : Option (List ℕ)) (r : Router) (level : Level) (draft : DraftView)
    : Type 0 where
  pub keyed : at r.config.keys level ≡ key
  pub on : draft.level ≡ level

-- a draft is the answer where a copy of an own LSP is heard: it says what is wanted of it
-- (7.3.16.1)
pub record IsAnswer (key : Option (List ℕ)) (scene : Scene) (n : ℕ) (draft : DraftView)
    : Type 0 where
  pub under : IsUnder key scene.router scene.level draft
  pub named : lsp_number draft.id ≡ n
  pub says : draft.contents ≡ answer_of scene n

-- ---- the entries of a sequence number PDU, and a draft or none for each

-- a draft where the LSP ID is issued
abbrev pub IsReady : Bool → List (ℕ × Issued) → LspEntry → Option DraftView → Type 0
IsReady keyed own entry None = find own (lsp_number entry.id) ≡ None
IsReady keyed own entry (Some draft) = (draft.id ≡ entry.id) × (keyed ≡ draft.keyed)

abbrev pub AreReady : Bool → List (ℕ × Issued) → List LspEntry → List (Option DraftView) → Type 0
AreReady keyed own [] drafts = Unit {0}
AreReady keyed own (entry ∷ entries) [] = ⊥
AreReady keyed own (entry ∷ entries) (draft ∷ drafts) =
    IsReady keyed own entry draft × AreReady keyed own entries drafts

-- each draft is the answer for its entry
abbrev pub AreAnswers : Option (List ℕ) → Scene → List LspEntry → List (Option DraftView) → Type 0
AreAnswers key scene [] drafts = Unit {0}
AreAnswers key scene (entry ∷ entries) [] = Unit {0}
AreAnswers key scene (entry ∷ entries) (draft ∷ drafts) =
    IfSome draft (IsAnswer key scene (lsp_number entry.id)) × AreAnswers key scene entries drafts

-- the first of what is left is taken
abbrev pub IsNext : List (Option DraftView) → Option DraftView → List (Option DraftView) → Type 0
IsNext [] draft rest = (draft ≡ None) × (rest ≡ [])
IsNext (d ∷ drafts) draft rest = (draft ≡ d) × (rest ≡ drafts)

-- a CSNP's range in numbers; a PSNP has none
abbrev pub range_of : Option (LspId × LspId) → Option (ℕ × ℕ)
range_of None = None
range_of (Some range) = Some (lsp_number range.0, lsp_number range.1)

-- ---- what is wanted

-- the fragments that drafts say, with their LSP IDs
abbrev pub wants_of : List DraftView → List (ℕ × Contents)
wants_of [] = []
wants_of (draft ∷ drafts) = (lsp_number draft.id, draft.contents) ∷ wants_of drafts

-- their LSP IDs
abbrev pub numbers_wanted : List (ℕ × Contents) → List ℕ
numbers_wanted [] = []
numbers_wanted (pair ∷ wants) = pair.0 ∷ numbers_wanted wants

-- all drafts are of a router's level, under its key there
abbrev pub AreUnder : Option (List ℕ) → Router → Level → List DraftView → Type 0
AreUnder key r level [] = Unit {0}
AreUnder key r level (draft ∷ drafts) = IsUnder key r level draft × AreUnder key r level drafts
