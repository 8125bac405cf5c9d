-- What becomes of a wanted fragment (ISO 10589 7.3.5, 7.3.6, 7.3.16.1; the five seconds between
-- issues, and what an exhausted number does: own).
use Rattle.std.specs.Prelude.{ℕ, ◌+◌, ◌==◌, nat_le, nat_lt, Bool, true, ◌&&◌, ◌||◌, not, List, [], ◌∷◌, Option, Some, None, if◌then◌else◌}
use Rattle.isis_base.specs.declared.level.Level.{Level}
use Rattle.model_router.specs.Ranks.{number_of}
use Rattle.model_router.specs.Cells.{Cell}
use Rattle.model_router.specs.Givens.{Given}
use Rattle.model_router.specs.Routers.{Contents, Issued, LevelState, Router}
use Rattle.model_router.specs.OwnLsps.{last_number, same_contents, Next}
use Rattle.model_router.specs.OwnLsps as own
use Rattle.lsp_fragments.specs.declared.issue.Issue.{Issue}
use Rattle.lsp_fragments.specs.declared.issue.Issue.TheVariants.{Number, Exhausted, Wait}

-- whether it is to be issued: it isn't issued; or it says something else, and was issued at least 5
-- seconds ago; or it was issued at least 900 seconds ago (7.3.6, 7.3.5)
abbrev pub is_issue_due : Option Issued → Bool → Bool
is_issue_due None same = true
is_issue_due (Some i) same = (nat_le 5 i.age && not same) || nat_le 900 i.age

-- the number above one, where there is one (7.3.16.1)
abbrev pub issue_above : ℕ → Issue
issue_above number = if number == last_number then Exhausted else Number (number + 1)

-- of a fragment that is issued or not, where a key of this rank is held, by whether it says the
-- same as when it was issued (7.3.6)
abbrev pub issue_next : Option Issued → ℕ → Bool → Issue
issue_next issued rank same =
    if is_issue_due issued same then issue_above (number_of rank) else Wait

-- whether none is to be issued anew a second later for its age alone (7.3.5)
abbrev pub all_rest : List (ℕ × Issued) → Bool
all_rest [] = true
all_rest (pair ∷ own) = nat_lt pair.1.age 899 && all_rest own

-- whether what is issued says the same; nothing does where it isn't (7.3.6)
abbrev pub says_same : Option Issued → Contents → Bool
says_same None contents = true
says_same (Some i) contents = same_contents i.contents contents

-- an answer, as the router's model has it
abbrev pub next_of : Issue → Next
next_of (Number number) = own.Number number
next_of Exhausted = own.Exhaust
next_of Wait = own.Wait

-- a level after an own LSP is outbid, by the answer; `last` is the purge at the last number
-- (7.3.16.1)
abbrev pub outbid_by : Given → Router → Level → LevelState → ℕ → Contents → Cell → Issue
    → LevelState
outbid_by given r level state id contents last (Number number) =
    own.install state id contents (own.issue_cell given r level id number contents)
outbid_by given r level state id contents last Exhausted = own.retire state id last
outbid_by given r level state id contents last Wait = state
