use Rattle.std.proofs.Common.{map, string_bytes, sym}
use Rattle.isis_daemon.proofs.InputLemmas.{text_started, untraced, unwoven, unwoven_trace, walk_started, trace_started, weave_started}
use Rattle.isis_daemon.proofs.OptionLemmas.{clash, told, unless}
use Rattle.isis_daemon.proofs.inputs.run_input.Goals as goal

pub returns-in-Some-clause-usage : goal.returns-in-Some-clause-usage
returns-in-Some-clause-usage g c = (λ e. absurd (c.walk-status.ensures.usage e), λ none. absurd (clash _ _ c.in-Some.ensures.value none.1))

pub returns-in-Some-clause-untouched : goal.returns-in-Some-clause-untouched
returns-in-Some-clause-untouched g c = λ e. absurd (c.walk-status.ensures.usage e)

pub returns-in-Some-clause-started : goal.returns-in-Some-clause-started
returns-in-Some-clause-started g c = walk_started _ _ _ _ _ _ _ _ c.walk-status.ensures.ends

pub returns-in-Some-clause-ends : goal.returns-in-Some-clause-ends
returns-in-Some-clause-ends g c = unless _ _ c.in-Some.ensures.alone.0.0

pub returns-in-Some-clause-taken : goal.returns-in-Some-clause-taken
returns-in-Some-clause-taken g c = c.walk-status.ensures.taken

pub returns-in-Some-clause-read_fault : goal.returns-in-Some-clause-read_fault
returns-in-Some-clause-read_fault g c = c.walk-status.ensures.read_fault

pub returns-in-Some-clause-write_fault : goal.returns-in-Some-clause-write_fault
returns-in-Some-clause-write_fault g c = c.walk-status.ensures.write_fault

pub returns-in-Some-clause-complete : goal.returns-in-Some-clause-complete
returns-in-Some-clause-complete g c = unless _ _ c.in-Some.ensures.alone.0.0

pub returns-in-Some-clause-later : goal.returns-in-Some-clause-later
returns-in-Some-clause-later g c = c.walk-status.ensures.later

pub returns-in-Some-clause-grid : goal.returns-in-Some-clause-grid
returns-in-Some-clause-grid g c = unless _ _ c.in-Some.ensures.alone.0.1

pub returns-in-Some-clause-grid_unread : goal.returns-in-Some-clause-grid_unread
returns-in-Some-clause-grid_unread g c = unless _ _ c.in-Some.ensures.alone.0.1

pub returns-in-Some-clause-grid_complete : goal.returns-in-Some-clause-grid_complete
returns-in-Some-clause-grid_complete g c = unless _ _ c.in-Some.ensures.alone.0.1

pub returns-in-Some-clause-walk : goal.returns-in-Some-clause-walk
returns-in-Some-clause-walk g c = told _ _ _ c.in-Some.ensures.value c.walk-status.ensures.ends

pub returns-in-Some-clause-walk_complete : goal.returns-in-Some-clause-walk_complete
returns-in-Some-clause-walk_complete g c = told _ _ _ c.in-Some.ensures.value c.walk-status.ensures.complete

pub returns-in-Some-clause-weave : goal.returns-in-Some-clause-weave
returns-in-Some-clause-weave g c = unless _ _ (unwoven (map string_bytes c.args.words.now) _ c.in-Some.ensures.value)

pub returns-in-Some-clause-weave_complete : goal.returns-in-Some-clause-weave_complete
returns-in-Some-clause-weave_complete g c = unless _ _ (unwoven (map string_bytes c.args.words.now) _ c.in-Some.ensures.value)

pub returns-in-Some-clause-trace : goal.returns-in-Some-clause-trace
returns-in-Some-clause-trace g c = unless _ _ (untraced (map string_bytes c.args.words.now) _ c.in-Some.ensures.value)

pub returns-in-Some-clause-trace_complete : goal.returns-in-Some-clause-trace_complete
returns-in-Some-clause-trace_complete g c = unless _ _ (untraced (map string_bytes c.args.words.now) _ c.in-Some.ensures.value)

pub returns-in-Some-trace_of-clause-usage : goal.returns-in-Some-trace_of-clause-usage
returns-in-Some-trace_of-clause-usage g c = (λ e. absurd (c.trace-status.ensures.usage e), λ none. absurd (clash _ _ c.in-Some-trace_of.ensures.value none.2))

pub returns-in-Some-trace_of-clause-untouched : goal.returns-in-Some-trace_of-clause-untouched
returns-in-Some-trace_of-clause-untouched g c = λ e. absurd (c.trace-status.ensures.usage e)

pub returns-in-Some-trace_of-clause-started : goal.returns-in-Some-trace_of-clause-started
returns-in-Some-trace_of-clause-started g c = trace_started _ _ _ _ _ _ _ _ c.trace-status.ensures.ends

pub returns-in-Some-trace_of-clause-ends : goal.returns-in-Some-trace_of-clause-ends
returns-in-Some-trace_of-clause-ends g c = unless _ _ c.in-Some-trace_of.ensures.alone.0.0

pub returns-in-Some-trace_of-clause-taken : goal.returns-in-Some-trace_of-clause-taken
returns-in-Some-trace_of-clause-taken g c = c.trace-status.ensures.taken

pub returns-in-Some-trace_of-clause-read_fault : goal.returns-in-Some-trace_of-clause-read_fault
returns-in-Some-trace_of-clause-read_fault g c = c.trace-status.ensures.read_fault

pub returns-in-Some-trace_of-clause-write_fault : goal.returns-in-Some-trace_of-clause-write_fault
returns-in-Some-trace_of-clause-write_fault g c = c.trace-status.ensures.write_fault

pub returns-in-Some-trace_of-clause-complete : goal.returns-in-Some-trace_of-clause-complete
returns-in-Some-trace_of-clause-complete g c = unless _ _ c.in-Some-trace_of.ensures.alone.0.0

pub returns-in-Some-trace_of-clause-later : goal.returns-in-Some-trace_of-clause-later
returns-in-Some-trace_of-clause-later g c = c.trace-status.ensures.later

pub returns-in-Some-trace_of-clause-grid : goal.returns-in-Some-trace_of-clause-grid
returns-in-Some-trace_of-clause-grid g c = unless _ _ c.in-Some-trace_of.ensures.alone.0.1

pub returns-in-Some-trace_of-clause-grid_unread : goal.returns-in-Some-trace_of-clause-grid_unread
returns-in-Some-trace_of-clause-grid_unread g c = unless _ _ c.in-Some-trace_of.ensures.alone.0.1

pub returns-in-Some-trace_of-clause-grid_complete : goal.returns-in-Some-trace_of-clause-grid_complete
returns-in-Some-trace_of-clause-grid_complete g c = unless _ _ c.in-Some-trace_of.ensures.alone.0.1

pub returns-in-Some-trace_of-clause-walk : goal.returns-in-Some-trace_of-clause-walk
returns-in-Some-trace_of-clause-walk g c = unless _ _ c.in-Some-trace_of.ensures.alone.2

pub returns-in-Some-trace_of-clause-walk_complete : goal.returns-in-Some-trace_of-clause-walk_complete
returns-in-Some-trace_of-clause-walk_complete g c = unless _ _ c.in-Some-trace_of.ensures.alone.2

pub returns-in-Some-trace_of-clause-weave : goal.returns-in-Some-trace_of-clause-weave
returns-in-Some-trace_of-clause-weave g c = unless _ _ (unwoven_trace (map string_bytes c.args.words.now) _ c.in-Some-trace_of.ensures.value)

pub returns-in-Some-trace_of-clause-weave_complete : goal.returns-in-Some-trace_of-clause-weave_complete
returns-in-Some-trace_of-clause-weave_complete g c = unless _ _ (unwoven_trace (map string_bytes c.args.words.now) _ c.in-Some-trace_of.ensures.value)

pub returns-in-Some-trace_of-clause-trace : goal.returns-in-Some-trace_of-clause-trace
returns-in-Some-trace_of-clause-trace g c = told _ _ _ c.in-Some-trace_of.ensures.value c.trace-status.ensures.ends

pub returns-in-Some-trace_of-clause-trace_complete : goal.returns-in-Some-trace_of-clause-trace_complete
returns-in-Some-trace_of-clause-trace_complete g c = told _ _ _ c.in-Some-trace_of.ensures.value c.trace-status.ensures.complete

pub returns-in-Some-weave_of-clause-usage : goal.returns-in-Some-weave_of-clause-usage
returns-in-Some-weave_of-clause-usage g c = (λ e. absurd (c.weave-status.ensures.usage e), λ none. absurd (clash _ _ c.in-Some-weave_of.ensures.value none.3))

pub returns-in-Some-weave_of-clause-untouched : goal.returns-in-Some-weave_of-clause-untouched
returns-in-Some-weave_of-clause-untouched g c = λ e. absurd (c.weave-status.ensures.usage e)

pub returns-in-Some-weave_of-clause-started : goal.returns-in-Some-weave_of-clause-started
returns-in-Some-weave_of-clause-started g c = weave_started _ _ _ _ _ _ c.weave-status.ensures.ends

pub returns-in-Some-weave_of-clause-ends : goal.returns-in-Some-weave_of-clause-ends
returns-in-Some-weave_of-clause-ends g c = unless _ _ c.in-Some-weave_of.ensures.alone.0.0

pub returns-in-Some-weave_of-clause-taken : goal.returns-in-Some-weave_of-clause-taken
returns-in-Some-weave_of-clause-taken g c = c.weave-status.ensures.taken

pub returns-in-Some-weave_of-clause-read_fault : goal.returns-in-Some-weave_of-clause-read_fault
returns-in-Some-weave_of-clause-read_fault g c = c.weave-status.ensures.read_fault

pub returns-in-Some-weave_of-clause-write_fault : goal.returns-in-Some-weave_of-clause-write_fault
returns-in-Some-weave_of-clause-write_fault g c = c.weave-status.ensures.write_fault

pub returns-in-Some-weave_of-clause-complete : goal.returns-in-Some-weave_of-clause-complete
returns-in-Some-weave_of-clause-complete g c = unless _ _ c.in-Some-weave_of.ensures.alone.0.0

pub returns-in-Some-weave_of-clause-later : goal.returns-in-Some-weave_of-clause-later
returns-in-Some-weave_of-clause-later g c = c.weave-status.ensures.later

pub returns-in-Some-weave_of-clause-grid : goal.returns-in-Some-weave_of-clause-grid
returns-in-Some-weave_of-clause-grid g c = unless _ _ c.in-Some-weave_of.ensures.alone.0.1

pub returns-in-Some-weave_of-clause-grid_unread : goal.returns-in-Some-weave_of-clause-grid_unread
returns-in-Some-weave_of-clause-grid_unread g c = unless _ _ c.in-Some-weave_of.ensures.alone.0.1

pub returns-in-Some-weave_of-clause-grid_complete : goal.returns-in-Some-weave_of-clause-grid_complete
returns-in-Some-weave_of-clause-grid_complete g c = unless _ _ c.in-Some-weave_of.ensures.alone.0.1

pub returns-in-Some-weave_of-clause-walk : goal.returns-in-Some-weave_of-clause-walk
returns-in-Some-weave_of-clause-walk g c = unless _ _ c.in-Some-weave_of.ensures.alone.2

pub returns-in-Some-weave_of-clause-walk_complete : goal.returns-in-Some-weave_of-clause-walk_complete
returns-in-Some-weave_of-clause-walk_complete g c = unless _ _ c.in-Some-weave_of.ensures.alone.2

pub returns-in-Some-weave_of-clause-weave : goal.returns-in-Some-weave_of-clause-weave
returns-in-Some-weave_of-clause-weave g c = told _ _ _ c.in-Some-weave_of.ensures.value c.weave-status.ensures.ends

pub returns-in-Some-weave_of-clause-weave_complete : goal.returns-in-Some-weave_of-clause-weave_complete
returns-in-Some-weave_of-clause-weave_complete g c = told _ _ _ c.in-Some-weave_of.ensures.value c.weave-status.ensures.complete

pub returns-in-Some-weave_of-clause-trace : goal.returns-in-Some-weave_of-clause-trace
returns-in-Some-weave_of-clause-trace g c = unless _ _ c.in-Some-weave_of.ensures.alone.3

pub returns-in-Some-weave_of-clause-trace_complete : goal.returns-in-Some-weave_of-clause-trace_complete
returns-in-Some-weave_of-clause-trace_complete g c = unless _ _ c.in-Some-weave_of.ensures.alone.3

pub returns-clause-usage : goal.returns-clause-usage
returns-clause-usage g c = (λ e. (c.run_text.ensures.usage.0 e, sym c.in_default.ensures.value, sym c.in_default-trace_of.ensures.value, sym c.in_default-weave_of.ensures.value), λ none. c.run_text.ensures.usage.1 none.0)

pub returns-clause-untouched : goal.returns-clause-untouched
returns-clause-untouched g c = c.run_text.ensures.untouched

pub returns-clause-ends : goal.returns-clause-ends
returns-clause-ends g c = c.run_text.ensures.ends

pub returns-clause-taken : goal.returns-clause-taken
returns-clause-taken g c = c.run_text.ensures.taken

pub returns-clause-read_fault : goal.returns-clause-read_fault
returns-clause-read_fault g c = c.run_text.ensures.read_fault

pub returns-clause-write_fault : goal.returns-clause-write_fault
returns-clause-write_fault g c = c.run_text.ensures.write_fault

pub returns-clause-complete : goal.returns-clause-complete
returns-clause-complete g c = c.run_text.ensures.complete

pub returns-clause-later : goal.returns-clause-later
returns-clause-later g c = c.run_text.ensures.later

pub returns-clause-grid : goal.returns-clause-grid
returns-clause-grid g c = c.run_text.ensures.grid

pub returns-clause-grid_unread : goal.returns-clause-grid_unread
returns-clause-grid_unread g c = c.run_text.ensures.grid_unread

pub returns-clause-grid_complete : goal.returns-clause-grid_complete
returns-clause-grid_complete g c = c.run_text.ensures.grid_complete

pub returns-clause-started : goal.returns-clause-started
returns-clause-started g c = text_started (map string_bytes c.args.words.now) _ _ _ _ _ _ c.run_text.ensures.usage c.run_text.ensures.ends c.run_text.ensures.grid

pub returns-clause-walk : goal.returns-clause-walk
returns-clause-walk g c = unless _ _ (sym c.in_default.ensures.value)

pub returns-clause-walk_complete : goal.returns-clause-walk_complete
returns-clause-walk_complete g c = unless _ _ (sym c.in_default.ensures.value)

pub returns-clause-weave : goal.returns-clause-weave
returns-clause-weave g c = unless _ _ (sym c.in_default-weave_of.ensures.value)

pub returns-clause-weave_complete : goal.returns-clause-weave_complete
returns-clause-weave_complete g c = unless _ _ (sym c.in_default-weave_of.ensures.value)

pub returns-clause-trace : goal.returns-clause-trace
returns-clause-trace g c = unless _ _ (sym c.in_default-trace_of.ensures.value)

pub returns-clause-trace_complete : goal.returns-clause-trace_complete
returns-clause-trace_complete g c = unless _ _ (sym c.in_default-trace_of.ensures.value)
