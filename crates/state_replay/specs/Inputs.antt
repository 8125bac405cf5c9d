-- An input: a configuration, the head of a journal, and the entries of the journal (own).
use Rattle.std.specs.Prelude.{◌≡◌, ℕ, ◌+◌, Bool, false, List, [], ◌∷◌, ◌++◌, length, codes, Ok}
use Rattle.std.specs.List.{flat_map, list_any}
use Rattle.std.specs.Str.{bytes_eq}
use Rattle.daemon_config.specs.Config.{config_of}
use Rattle.daemon_config.specs.declared.settings.Settings.{Settings}
use Rattle.line_cuts.specs.Words.{lines_of}
use Rattle.model_router.specs.Routers.{Router}
use Rattle.model_router.specs.Starts.{start}
use Rattle.router_desk.specs.Configs as desk

-- the head of a journal (own)
abbrev pub head : List ℕ
head = codes "isis-journal 1"

-- own
abbrev pub is_head : List ℕ → Bool
is_head line = bytes_eq line head

-- these lines, each with its LF (own)
abbrev pub with_ends : List (List ℕ) → List ℕ
with_ends lines = flat_map (λ line. line ++ 10 ∷ []) lines

-- an input begins with these lines, of which LF ends each, and this stands behind them (own)
abbrev pub Begins : (input : List ℕ) (lines : List (List ℕ)) (rest : List ℕ) → Type 0
Begins input lines rest = lines_of input ≡ lines ++ lines_of rest

-- lines none of which is a journal's head begin an input (own)
pub record IsBeforeHead (input : List ℕ) (front : List (List ℕ)) (rest : List ℕ) : Type 0 where
  pub begins : Begins input front rest
  pub none : list_any is_head front ≡ false

-- the same with the head behind them: what stands behind that is the text of the entries (own)
pub record IsAtHead (input : List ℕ) (front : List (List ℕ)) (journal : List ℕ) : Type 0 where
  pub begins : Begins input (front ++ head ∷ []) journal
  pub none : list_any is_head front ≡ false

-- An input is the configuration of a router, a journal's head as the line of this number, and this text of entries. The router
-- starts so in this boot (own).
pub record IsOpened (boot : ℕ) (input journal : List ℕ) (line : ℕ) (r : Router) : Type 0 where
  pub front : List (List ℕ)
  pub at : IsAtHead input front journal
  pub counted : line ≡ length front + 1
  pub settings : Settings
  pub says : config_of (with_ends front) ≡ Ok settings
  pub start_is : r ≡ start (desk.config_of settings.config) boot (desk.circuits_of settings.config)
