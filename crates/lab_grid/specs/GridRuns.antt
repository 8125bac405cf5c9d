-- What the run of a grid's script comes to (own).
use Rattle.std.specs.Prelude.{◌≡◌, ℕ, List, [], ◌∷◌, length, Result, Ok, Err, IsOkAnd}
use Rattle.std.specs.List.{flat_map}
use Rattle.isis_base.specs.declared.level.Level.TheVariants as level
use Rattle.model_router.specs.Routers.{Router}
use Rattle.model_network.specs.Networks.{Network}
use Rattle.lab_text.specs.Passed.{Seen, groups_at, seen_of}
use Rattle.route_table.specs.declared.route.Route.{Route}
use Rattle.router_routes.specs.Outlooks.{outlook_of}
use Rattle.router_routes.specs.Candidates.{AreRoutesOf}
use Rattle.lab_script.specs.declared.reason.Reason.TheVariants.{Head}
use Rattle.lab_script.specs.declared.reason.ScriptFault.{ScriptFault}
use Rattle.lab_script.specs.declared.reason.ScriptFault.TheVariants.{Refused, Limit, OutOfMemory}
use Rattle.lab_script.specs.declared.script.Script.{Script}
use Rattle.lab_script.specs.declared.script.Script.TheVariants.{Keys, Lab}
use Rattle.lab_script.specs.Scripts.{◌>>=◌, script_of}
use Rattle.lab_text.specs.LabRuns.{end_of}
use Rattle.lab_text.specs.LabClaims.{IsClaimedRun}
use Rattle.lab_grid.specs.declared.summary.Summary.{Summary}
use Rattle.lab_grid.specs.declared.tally.Tally.{Tally}
use Rattle.lab_grid.specs.GridText.{grid_text}
use Rattle.lab_grid.specs.Tallies.{tally_of}

-- ---- the summary of a network

-- the routes of each router (RFC 5302 3.2)
abbrev pub HaveRoutes : List Router → List (List Route) → Type 0
HaveRoutes [] [] = Unit {0}
HaveRoutes [] (list ∷ lists) = ⊥
HaveRoutes (r ∷ routers) [] = ⊥
HaveRoutes (r ∷ routers) (list ∷ lists) =
    AreRoutesOf (outlook_of r) list × HaveRoutes routers lists

-- the numbers of all routes of these routers
pub record AreTallied (routers : List Router) (tally : Tally) : Type 0 where
  pub lists : List (List Route)
  pub have : HaveRoutes routers lists
  pub tally_is : tally ≡ tally_of (flat_map (λ list. list) lists)

-- a summary tells of a network that is seen so
pub record IsSummary (size : ℕ) (s : Seen) (summary : Summary) : Type 0 where
  pub size_is : summary.size ≡ size
  pub routers_are : summary.routers ≡ length s.routers
  pub links_are : summary.links ≡ length s.links
  pub groups_are : summary.groups ≡ length (groups_at s level.One)
  pub tallied : AreTallied s.routers summary.tally

-- ---- the run of a grid's script

-- the network at the end of a lab script; another isn't of a grid
abbrev pub end_in : Script → Result Network ScriptFault
end_in (Keys script) = Err (Refused 1 Head)
end_in (Lab script) = end_of script

-- the network at the end of the script that a text is read as, or what refuses it
abbrev pub text_end : List ℕ → Result Network ScriptFault
text_end text = script_of text >>= end_in

-- the same of a grid's text
abbrev pub grid_end : ℕ → Result Network ScriptFault
grid_end size = text_end (grid_text size)

-- a summary tells of the network at an end, unless there was no memory for it
abbrev pub Sums : ℕ → Result Network ScriptFault → Result Summary ScriptFault → Type 0
Sums size end (Ok summary) = IsOkAnd end (λ net. IsSummary size (seen_of net) summary)
Sums size end (Err OutOfMemory) = Unit {0}
Sums size end (Err (Refused line reason)) = end ≡ Err (Refused line reason)
Sums size end (Err (Limit which)) = end ≡ Err (Limit which)

-- the same of a grid's end. No line of a grid's script is refused: at most a limit is passed
abbrev pub GridSums : ℕ → Result Summary ScriptFault → Type 0
GridSums size (Ok summary) =
    IsOkAnd (grid_end size) (λ net. IsSummary size (seen_of net) summary)
GridSums size (Err OutOfMemory) = Unit {0}
GridSums size (Err (Refused line reason)) = ⊥
GridSums size (Err (Limit which)) = grid_end size ≡ Err (Limit which)

-- the claims on links, groups, sweeps and contents, after each event of a lab script
abbrev pub IsClaimedIn : Script → Type 0
IsClaimedIn (Keys script) = ⊥
IsClaimedIn (Lab script) = IsClaimedRun script

-- the same of the script that a grid's text is read as
abbrev pub IsClaimedGrid : ℕ → Type 0
IsClaimedGrid size = IsOkAnd (script_of (grid_text size)) IsClaimedIn
