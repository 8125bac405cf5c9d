-- The headline, as status 0 means it at `lab` and `grid` (ISO 10589 7.3.15 to 7.3.17, RFC 5303 3.2, RFC 5302 3.2; the words: own):
--
--   For every schedule of seconds, pulls, restarts, changes and deliveries, with losses, repeats and reorderings: on each
--   point-to-point link with both ends up, an LSP held at one end is at the other as new or newer, unless its SRM flag
--   stands; across such links, and on swept LANs, without flags all databases agree; and every route is the best over its
--   router's database.
--
-- The schedule is a script's. Each part names its premises where it begins; docs/PROMISES.md has them as a table.
use Rattle.std.specs.Prelude.{◌≡◌, ℕ, List, ◌++◌, Ok}
use Rattle.isis_edge.specs.Told.{Wrote}
use Rattle.route_table.specs.declared.route.Route.{Route}
use Rattle.router_core.specs.Givens.{given}
use Rattle.model_network.specs.Networks.{Network}
use Rattle.model_network.specs.Runs.{Happening, run}
use Rattle.network_lab.specs.LabNets.{Seen, seen_of}
use Rattle.network_lab.specs.LinkStates.{AreWithin}
use Rattle.network_lab.specs.Claims.{AreClaimed}
use Rattle.network_lab.specs.Agreements.{AreAgreeing, AreSweptAlike, HaveOneBody}
use Rattle.lab_script.specs.declared.script.Script.{Script}
use Rattle.lab_script.specs.declared.script.Script.TheVariants.{Keys, Lab}
use Rattle.lab_script.specs.LabScripts.{LabScript}
use Rattle.lab_script.specs.Scripts.{script_of}
use Rattle.lab_report.specs.Reports.{AreAllRoutes}
use Rattle.lab_text.specs.LabRuns.{end_of}
use Rattle.lab_text.specs.LabClaims.{start_of, script_events}
use Rattle.lab_text.specs.KeysRuns.{keys_report}
use Rattle.lab_text.specs.LabReports.{report_by}
use Rattle.lab_grid.specs.declared.summary.Summary.{Summary}
use Rattle.lab_grid.specs.GridText.{grid_text}
use Rattle.lab_grid.specs.GridRuns.{IsSummary}
use Rattle.lab_grid.specs.SummaryText.{summary_text}

-- ---- the run of a lab script

-- after each event of a script, and before the first, this holds of what is seen of the network
abbrev pub AfterEach : LabScript → (Seen → Type 0) → Type 0
AfterEach script Holds =
    (first rest : List Happening) → script_events script ≡ first ++ rest
    → Holds (seen_of (run given (start_of script) first))

-- The run of a lab script leads to this network, and the first two parts hold after each of its events.
pub record RunHolds (script : LabScript) (net : Network) : Type 0 where
  -- the script was played to its end: no event was refused, and no limit passed
  pub ends : end_of script ≡ Ok net
  -- its events, from the network that its setup lines lay out, lead to the network at its end
  pub leads : run given (start_of script) (script_events script) ≡ net
  -- First part, where nothing was injected so far: on each point-to-point link that is up at a level each end names the
  -- other's present boot, and of each LSP ID that neither end let go what one end holds the other holds as new or newer,
  -- or the one's SRM flag for it stands on the link.
  pub links : AfterEach script AreClaimed
  -- Second part, where nothing was injected so far: routers of one group, joined by links that are up without flags and by
  -- sweeps of LANs, hold live the same LSP IDs with the same numbers, of those that no router of the group let go.
  pub groups : AfterEach script AreAgreeing
  -- A member of a LAN holds live the same as the router by which it is swept, whatever either let go.
  pub sweeps : AfterEach script AreSweptAlike
  -- And what any two routers hold live of one LSP ID under one number has the same contents, unless the LSP ID is doubled:
  -- its own router held two contents under one number.
  pub bodies : AfterEach script HaveOneBody
  -- So at the end no end of a link that is up is ahead in more LSP IDs than it has flags: in `flags F G ahead P Q` P is at
  -- most F, and Q at most G.
  pub within : AreWithin (seen_of net)

-- ---- `lab`

-- A text is the report of a lab script, of whose run the headline holds.
pub record ReportHolds (script : LabScript) (text : List ℕ) : Type 0 where
  -- the network at the end of the script
  pub net : Network
  -- the first two parts, after each event of its run
  pub held : RunHolds script net
  -- Third part, injected or not: the routes of each router are the best over its own databases, of least rank and then of
  -- least cost, with all their next hops.
  pub routes : List (List Route)
  pub best : AreAllRoutes net.routers routes
  -- the text is the report of this network, with these routes
  pub text_is : text ≡ report_by script routes (seen_of net)

-- A text is the report of a script, of whose run the headline holds where it has routers; a keys script's report is that of its
-- numbered copies.
abbrev pub ScriptHolds : Script → List ℕ → Type 0
ScriptHolds (Keys script) text = keys_report script ≡ Ok text
ScriptHolds (Lab script) text = ReportHolds script text

-- The headline at `lab`, of the octets that the input gave and of those put into the output, before and afterwards.
pub record IsHeadline (input put put' : List ℕ) : Type 0 where
  -- the script that the input is read as
  pub script : Script
  pub read : script_of input ≡ Ok script
  -- the octets written, after those that were put before: the report of the script's run, of which the headline holds
  pub text : List ℕ
  pub written : Wrote put put' text
  pub holds : ScriptHolds script text

-- ---- `grid N`

-- The headline at `grid N`, of the script that a grid of this size is written as.
pub record IsGridHeadline (size : ℕ) (put put' : List ℕ) : Type 0 where
  -- the grid's script is read as this lab script
  pub script : LabScript
  pub read : script_of (grid_text size) ≡ Ok (Lab script)
  -- the network at the end of the script, and the first two parts, after each event of its run
  pub net : Network
  pub held : RunHolds script net
  -- Third part: the summary has the numbers of this network, and counts for each router the best routes over its own
  -- databases.
  pub summary : Summary
  pub summary_is : IsSummary size (seen_of net) summary
  -- the octets written are the summary
  pub written : Wrote put put' (summary_text summary)
