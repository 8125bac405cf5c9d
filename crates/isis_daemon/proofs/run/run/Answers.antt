use Rattle.std.proofs.Common.{map, string_bytes, refl, sym, arith}
use Rattle.isis_daemon.proofs.OptionLemmas.{alone, no_grid, no_walk, no_trace, no_weave, no_state, clash, told, unless}
use Rattle.isis_daemon.proofs.StateLemmas.{state-alone}
use Rattle.isis_daemon.proofs.run.run.Goals as goal

pub returns-in-Some-clause-usage : goal.returns-in-Some-clause-usage
returns-in-Some-clause-usage g c = (λ e. absurd (c.daemon.ensures.usage e), λ none. absurd (clash _ _ c.in-Some.ensures.value none.1))

pub returns-in-Some-clause-untouched : goal.returns-in-Some-clause-untouched
returns-in-Some-clause-untouched g c = λ e. absurd (c.daemon.ensures.usage e)

pub returns-in-Some-clause-ends : goal.returns-in-Some-clause-ends
returns-in-Some-clause-ends g c = unless _ _ (alone (map string_bytes c.args.words.now) _ (sym c.in-Some.ensures.value))

pub returns-in-Some-clause-taken : goal.returns-in-Some-clause-taken
returns-in-Some-clause-taken g c = λ none. c.daemon.ensures.taken

pub returns-in-Some-clause-read_fault : goal.returns-in-Some-clause-read_fault
returns-in-Some-clause-read_fault g c = c.daemon.ensures.read_fault

pub returns-in-Some-clause-write_fault : goal.returns-in-Some-clause-write_fault
returns-in-Some-clause-write_fault g c = c.daemon.ensures.write_fault

pub returns-in-Some-clause-not_started : goal.returns-in-Some-clause-not_started
returns-in-Some-clause-not_started g c = c.daemon.ensures.not_started

pub returns-in-Some-clause-complete : goal.returns-in-Some-clause-complete
returns-in-Some-clause-complete g c = unless _ _ (alone (map string_bytes c.args.words.now) _ (sym c.in-Some.ensures.value))

pub returns-in-Some-clause-later : goal.returns-in-Some-clause-later
returns-in-Some-clause-later g c = c.daemon.ensures.later

pub returns-in-Some-clause-grid : goal.returns-in-Some-clause-grid
returns-in-Some-clause-grid g c = unless _ _ (no_grid (map string_bytes c.args.words.now) _ (sym c.in-Some.ensures.value))

pub returns-in-Some-clause-grid_unread : goal.returns-in-Some-clause-grid_unread
returns-in-Some-clause-grid_unread g c = unless _ _ (no_grid (map string_bytes c.args.words.now) _ (sym c.in-Some.ensures.value))

pub returns-in-Some-clause-grid_complete : goal.returns-in-Some-clause-grid_complete
returns-in-Some-clause-grid_complete g c = unless _ _ (no_grid (map string_bytes c.args.words.now) _ (sym c.in-Some.ensures.value))

pub returns-in-Some-clause-daemon : goal.returns-in-Some-clause-daemon
returns-in-Some-clause-daemon g c = told _ _ _ c.in-Some.ensures.value c.daemon.ensures.daemon

pub returns-in-Some-clause-daemon_complete : goal.returns-in-Some-clause-daemon_complete
returns-in-Some-clause-daemon_complete g c = told _ _ _ c.in-Some.ensures.value c.daemon.ensures.complete

pub returns-in-Some-clause-walk : goal.returns-in-Some-clause-walk
returns-in-Some-clause-walk g c = unless _ _ (no_walk (map string_bytes c.args.words.now) _ (sym c.in-Some.ensures.value))

pub returns-in-Some-clause-walk_complete : goal.returns-in-Some-clause-walk_complete
returns-in-Some-clause-walk_complete g c = unless _ _ (no_walk (map string_bytes c.args.words.now) _ (sym c.in-Some.ensures.value))

pub returns-in-Some-clause-trace : goal.returns-in-Some-clause-trace
returns-in-Some-clause-trace g c = unless _ _ (no_trace (map string_bytes c.args.words.now) _ (sym c.in-Some.ensures.value))

pub returns-in-Some-clause-weave : goal.returns-in-Some-clause-weave
returns-in-Some-clause-weave g c = unless _ _ (no_weave (map string_bytes c.args.words.now) _ (sym c.in-Some.ensures.value))

pub returns-in-Some-clause-trace_complete : goal.returns-in-Some-clause-trace_complete
returns-in-Some-clause-trace_complete g c = unless _ _ (no_trace (map string_bytes c.args.words.now) _ (sym c.in-Some.ensures.value))

pub returns-in-Some-clause-weave_complete : goal.returns-in-Some-clause-weave_complete
returns-in-Some-clause-weave_complete g c = unless _ _ (no_weave (map string_bytes c.args.words.now) _ (sym c.in-Some.ensures.value))

pub returns-in-Some-clause-aside : goal.returns-in-Some-clause-aside
returns-in-Some-clause-aside g c = λ none. absurd (clash _ _ c.in-Some.ensures.value none)

pub returns-in-Some-clause-state : goal.returns-in-Some-clause-state
returns-in-Some-clause-state g c = unless _ _ (no_state (map string_bytes c.args.words.now) _ (sym c.in-Some.ensures.value))

pub returns-in-Some-clause-state_complete : goal.returns-in-Some-clause-state_complete
returns-in-Some-clause-state_complete g c = unless _ _ (no_state (map string_bytes c.args.words.now) _ (sym c.in-Some.ensures.value))

pub returns-in-Some-state_of-clause-usage : goal.returns-in-Some-state_of-clause-usage
returns-in-Some-state_of-clause-usage g c = (λ e. absurd (c.state-output.ensures.usage e), λ none. absurd (clash _ _ c.in-Some-state_of.ensures.value none.5))

pub returns-in-Some-state_of-clause-untouched : goal.returns-in-Some-state_of-clause-untouched
returns-in-Some-state_of-clause-untouched g c = λ e. absurd (c.state-output.ensures.usage e)

pub returns-in-Some-state_of-clause-ends : goal.returns-in-Some-state_of-clause-ends
returns-in-Some-state_of-clause-ends g c = unless _ _ (state-alone (map string_bytes c.args.words.now) _ c.in-Some-state_of.ensures.value).0.0

pub returns-in-Some-state_of-clause-taken : goal.returns-in-Some-state_of-clause-taken
returns-in-Some-state_of-clause-taken g c = λ none. absurd (clash _ _ c.in-Some-state_of.ensures.value none)

pub returns-in-Some-state_of-clause-read_fault : goal.returns-in-Some-state_of-clause-read_fault
returns-in-Some-state_of-clause-read_fault g c = c.state-output.ensures.read_fault

pub returns-in-Some-state_of-clause-write_fault : goal.returns-in-Some-state_of-clause-write_fault
returns-in-Some-state_of-clause-write_fault g c = c.state-output.ensures.write_fault

pub returns-in-Some-state_of-clause-not_started : goal.returns-in-Some-state_of-clause-not_started
returns-in-Some-state_of-clause-not_started g c = λ e. absurd (c.state-output.ensures.started e)

pub returns-in-Some-state_of-clause-complete : goal.returns-in-Some-state_of-clause-complete
returns-in-Some-state_of-clause-complete g c = unless _ _ (state-alone (map string_bytes c.args.words.now) _ c.in-Some-state_of.ensures.value).0.0

pub returns-in-Some-state_of-clause-later : goal.returns-in-Some-state_of-clause-later
returns-in-Some-state_of-clause-later g c = (c.state-output.ensures.later.0, c.state-output.ensures.later.1, omega arith, omega arith)

pub returns-in-Some-state_of-clause-grid : goal.returns-in-Some-state_of-clause-grid
returns-in-Some-state_of-clause-grid g c = unless _ _ (state-alone (map string_bytes c.args.words.now) _ c.in-Some-state_of.ensures.value).0.1

pub returns-in-Some-state_of-clause-grid_unread : goal.returns-in-Some-state_of-clause-grid_unread
returns-in-Some-state_of-clause-grid_unread g c = unless _ _ (state-alone (map string_bytes c.args.words.now) _ c.in-Some-state_of.ensures.value).0.1

pub returns-in-Some-state_of-clause-grid_complete : goal.returns-in-Some-state_of-clause-grid_complete
returns-in-Some-state_of-clause-grid_complete g c = unless _ _ (state-alone (map string_bytes c.args.words.now) _ c.in-Some-state_of.ensures.value).0.1

pub returns-in-Some-state_of-clause-daemon : goal.returns-in-Some-state_of-clause-daemon
returns-in-Some-state_of-clause-daemon g c = unless _ _ (sym c.in_default.ensures.value)

pub returns-in-Some-state_of-clause-daemon_complete : goal.returns-in-Some-state_of-clause-daemon_complete
returns-in-Some-state_of-clause-daemon_complete g c = unless _ _ (sym c.in_default.ensures.value)

pub returns-in-Some-state_of-clause-walk : goal.returns-in-Some-state_of-clause-walk
returns-in-Some-state_of-clause-walk g c = unless _ _ (state-alone (map string_bytes c.args.words.now) _ c.in-Some-state_of.ensures.value).1

pub returns-in-Some-state_of-clause-walk_complete : goal.returns-in-Some-state_of-clause-walk_complete
returns-in-Some-state_of-clause-walk_complete g c = unless _ _ (state-alone (map string_bytes c.args.words.now) _ c.in-Some-state_of.ensures.value).1

pub returns-in-Some-state_of-clause-trace : goal.returns-in-Some-state_of-clause-trace
returns-in-Some-state_of-clause-trace g c = unless _ _ (state-alone (map string_bytes c.args.words.now) _ c.in-Some-state_of.ensures.value).2

pub returns-in-Some-state_of-clause-trace_complete : goal.returns-in-Some-state_of-clause-trace_complete
returns-in-Some-state_of-clause-trace_complete g c = unless _ _ (state-alone (map string_bytes c.args.words.now) _ c.in-Some-state_of.ensures.value).2

pub returns-in-Some-state_of-clause-weave : goal.returns-in-Some-state_of-clause-weave
returns-in-Some-state_of-clause-weave g c = unless _ _ (state-alone (map string_bytes c.args.words.now) _ c.in-Some-state_of.ensures.value).3

pub returns-in-Some-state_of-clause-weave_complete : goal.returns-in-Some-state_of-clause-weave_complete
returns-in-Some-state_of-clause-weave_complete g c = unless _ _ (state-alone (map string_bytes c.args.words.now) _ c.in-Some-state_of.ensures.value).3

pub returns-in-Some-state_of-clause-state : goal.returns-in-Some-state_of-clause-state
returns-in-Some-state_of-clause-state g c = told _ _ _ c.in-Some-state_of.ensures.value c.state-output.ensures.ran

pub returns-in-Some-state_of-clause-state_complete : goal.returns-in-Some-state_of-clause-state_complete
returns-in-Some-state_of-clause-state_complete g c = told _ _ _ c.in-Some-state_of.ensures.value c.state-output.ensures.complete

pub returns-in-Some-state_of-clause-aside : goal.returns-in-Some-state_of-clause-aside
returns-in-Some-state_of-clause-aside g c = λ none. (refl, refl, refl)

pub returns-clause-usage : goal.returns-clause-usage
returns-clause-usage g c = (λ e. let no = c.run_input-output.ensures.usage.0 e in (no.0, sym c.in_default.ensures.value, no.1, no.2, no.3, sym c.in_default-state_of.ensures.value), λ none. c.run_input-output.ensures.usage.1 (none.0, none.2, none.3, none.4))

pub returns-clause-untouched : goal.returns-clause-untouched
returns-clause-untouched g c = c.run_input-output.ensures.untouched

pub returns-clause-ends : goal.returns-clause-ends
returns-clause-ends g c = c.run_input-output.ensures.ends

pub returns-clause-taken : goal.returns-clause-taken
returns-clause-taken g c = λ none. c.run_input-output.ensures.taken

pub returns-clause-read_fault : goal.returns-clause-read_fault
returns-clause-read_fault g c = c.run_input-output.ensures.read_fault

pub returns-clause-write_fault : goal.returns-clause-write_fault
returns-clause-write_fault g c = c.run_input-output.ensures.write_fault

pub returns-clause-complete : goal.returns-clause-complete
returns-clause-complete g c = c.run_input-output.ensures.complete

pub returns-clause-not_started : goal.returns-clause-not_started
returns-clause-not_started g c = λ e. absurd (c.run_input-output.ensures.started e)

pub returns-clause-later : goal.returns-clause-later
returns-clause-later g c = (c.run_input-output.ensures.later.0, c.run_input-output.ensures.later.1, omega arith, omega arith)

pub returns-clause-grid : goal.returns-clause-grid
returns-clause-grid g c = c.run_input-output.ensures.grid

pub returns-clause-grid_unread : goal.returns-clause-grid_unread
returns-clause-grid_unread g c = c.run_input-output.ensures.grid_unread

pub returns-clause-grid_complete : goal.returns-clause-grid_complete
returns-clause-grid_complete g c = c.run_input-output.ensures.grid_complete

pub returns-clause-walk : goal.returns-clause-walk
returns-clause-walk g c = c.run_input-output.ensures.walk

pub returns-clause-walk_complete : goal.returns-clause-walk_complete
returns-clause-walk_complete g c = c.run_input-output.ensures.walk_complete

pub returns-clause-trace : goal.returns-clause-trace
returns-clause-trace g c = c.run_input-output.ensures.trace

pub returns-clause-weave : goal.returns-clause-weave
returns-clause-weave g c = c.run_input-output.ensures.weave

pub returns-clause-trace_complete : goal.returns-clause-trace_complete
returns-clause-trace_complete g c = c.run_input-output.ensures.trace_complete

pub returns-clause-weave_complete : goal.returns-clause-weave_complete
returns-clause-weave_complete g c = c.run_input-output.ensures.weave_complete

pub returns-clause-daemon : goal.returns-clause-daemon
returns-clause-daemon g c = unless _ _ (sym c.in_default.ensures.value)

pub returns-clause-daemon_complete : goal.returns-clause-daemon_complete
returns-clause-daemon_complete g c = unless _ _ (sym c.in_default.ensures.value)

pub returns-clause-aside : goal.returns-clause-aside
returns-clause-aside g c = λ none. (refl, refl, refl)

pub returns-clause-state : goal.returns-clause-state
returns-clause-state g c = unless _ _ (sym c.in_default-state_of.ensures.value)

pub returns-clause-state_complete : goal.returns-clause-state_complete
returns-clause-state_complete g c = unless _ _ (sym c.in_default-state_of.ensures.value)
