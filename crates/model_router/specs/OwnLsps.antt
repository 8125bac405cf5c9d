-- One's own LSPs: when a fragment is issued, at which number, and when it is purged (ISO 10589
-- 7.3.5, 7.3.6, 7.3.16.1; the times and what an exhausted number does: own).
use Rattle.std.specs.Prelude.{ℕ, ◌+◌, ◌==◌, nat_le, Bool, true, false, ◌&&◌, ◌||◌, not, bytes_eq, List, [], ◌∷◌, Option, Some, None, if◌then◌else◌}
use Rattle.isis_base.specs.declared.level.Level.{Level}
use Rattle.model_router.specs.Maps.{find, put, erase}
use Rattle.model_router.specs.Ranks.{number_of, is_live, live_rank}
use Rattle.model_router.specs.Waits.{no_waits}
use Rattle.model_router.specs.Cells.{Cell, flagged, purged}
use Rattle.model_router.specs.Books.{cell_at, rank_of, is_full, set_cell}
use Rattle.model_router.specs.Routers.{Contents, Issued, LevelState, Router}
use Rattle.model_router.specs.Givens.{Given}

-- the greatest sequence number (ISO 10589 7.3.16.1)
abbrev pub last_number : ℕ
last_number = 4294967295

-- 7.3.6
abbrev pub same_contents : Contents → Contents → Bool
same_contents a b = a.flags == b.flags && bytes_eq a.tlvs b.tlvs

-- ---- a wanted fragment

-- what becomes of it: nothing now, an issue at a number, or its purge at the last number (own)
pub data Next : Type 0 where
  Wait : Next
  Number : (number : ℕ) → Next
  Exhaust : Next

-- whether it is to be issued: it isn't issued, or its contents changed and its last issue is 5
-- seconds ago, or its last issue is 900 seconds ago (ISO 10589 7.3.6, 7.3.5)
abbrev pub is_due : Option Issued → Contents → Bool
is_due None contents = true
is_due (Some i) contents =
    (nat_le 5 i.age && not (same_contents i.contents contents)) || nat_le 900 i.age

-- own
abbrev pub is_held : Option Cell → Bool
is_held None = false
is_held (Some cell) = true

-- a full book has no room for an LSP ID of which it has no entry (own)
abbrev pub next : Bool → Option Issued → Option Cell → Contents → Next
next full issued held contents =
    if not (is_due issued contents) then Wait
    else (if number_of (rank_of held) == last_number then Exhaust
    else (if full && not (is_held held) then Wait
    else Number (number_of (rank_of held) + 1)))

-- a new issue as it is kept, for MaxAge, 1,200 seconds (ISO 10589 7.3.16.3)
abbrev pub issue_cell : Given → Router → Level → ℕ → ℕ → Contents → Cell
issue_cell given r level id number contents = record {
  rank = live_rank number;
  checksum = given.checksum r level id number contents;
  flags = contents.flags;
  left = 1200;
  octets = given.octets r level id number contents;
  srm = 0;
  ssn = 0;
  waits = no_waits;
}

-- ---- issue and purge: SRM is set, and SSN clear, on all open circuits

-- a level after an issue of a cell (7.3.12)
unfoldable pub install : LevelState → ℕ → Contents → Cell → LevelState
install state id contents cell = record state {
  book = set_cell state.book id (Some (flagged cell state.book.opened 0));
  own = put state.own id (record { contents = contents; age = 0 });
}

-- a level after a purge, whose LSP then isn't issued (7.3.16.4)
unfoldable pub retire : LevelState → ℕ → Cell → LevelState
retire state id purge = record state {
  book = set_cell state.book id (Some (flagged purge state.book.opened 0));
  own = erase state.own id;
}

-- what is held live is purged, and a purge is left as it is; either then counts as not issued
-- (7.3.16.4; at the last number 7.3.16.1; that the router goes on: own)
abbrev pub retire_held : LevelState → ℕ → Option Cell → LevelState
retire_held state id None = record state { own = erase state.own id }
retire_held state id (Some cell) =
    if is_live cell.rank then retire state id (purged cell)
    else record state { own = erase state.own id }

-- ---- a level's own LSPs are followed

-- own
abbrev pub do_next : Given → Router → Level → ℕ → Contents → LevelState → Next → LevelState
do_next given r level id contents state Wait = state
do_next given r level id contents state (Number n) =
    install state id contents (issue_cell given r level id n contents)
do_next given r level id contents state Exhaust = retire_held state id (cell_at state.book id)

-- one wanted fragment is looked at (7.3.6)
unfoldable pub look : Given → Router → Level → LevelState → (ℕ × Contents) → LevelState
look given r level state want =
    do_next given r level want.0 want.1 state
    (next (is_full state.book) (find state.own want.0) (cell_at state.book want.0) want.1)

-- all of them, in order (own)
abbrev pub look_all : Given → Router → Level → LevelState → List (ℕ × Contents) → LevelState
look_all given r level state [] = state
look_all given r level state (want ∷ wants) =
    look_all given r level (look given r level state want) wants

-- an issued LSP that is no longer wanted is purged (7.3.16.4)
abbrev pub withdraw_one : LevelState → ℕ → Option Contents → LevelState
withdraw_one state id (Some _) = state
withdraw_one state id None = retire_held state id (cell_at state.book id)

-- all of them, in order (own)
abbrev pub withdraw_all : LevelState → List (ℕ × Contents) → List (ℕ × Issued) → LevelState
withdraw_all state wants [] = state
withdraw_all state wants (pair ∷ own) =
    withdraw_all (withdraw_one state pair.0 (find wants pair.0)) wants own

-- what is wanted is issued where it is due, and what isn't wanted is purged (7.3.6)
abbrev pub renew : Given → Router → Level → LevelState → List (ℕ × Contents) → LevelState
renew given r level state wants =
    let after = look_all given r level state wants in withdraw_all after wants after.own

-- ---- another's copy is newer

-- own
abbrev pub contents_or : Option Contents → Contents → Contents
contents_or None bare = bare
contents_or (Some contents) bare = contents

-- an own LSP is outbid at a number: it is issued at the next one at once (ISO 10589 7.3.16.1); at
-- the last number it is purged, by `last`
unfoldable pub outbid : Given → Router → Level → LevelState → ℕ → ℕ → Contents → Cell → LevelState
outbid given r level state id above contents last =
    if above == last_number then retire state id last
    else install state id contents (issue_cell given r level id (above + 1) contents)
