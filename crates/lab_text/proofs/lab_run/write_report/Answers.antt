-- What is written are the lines of a report.
use Rattle.std.proofs.Common.{inr}
use Rattle.lab_report.specs.ReportLeft.{routes_of, lines_left}
use Rattle.lab_text.proofs.LabLemmas.{is-report}
use Rattle.lab_text.proofs.lab_run.write_report.Goals as goal

pub returns-in-Ok-write_text-clause-ends : goal.returns-in-Ok-write_text-clause-ends
returns-in-Ok-write_text-clause-ends g c = (
  lines_left c.in-Ok.report,
  is-report c.args.lab.now c.args.net.now (routes_of c.in-Ok.report.routes.items) c.requires.tells c.in-Ok.ensures.routes (lines_left c.in-Ok.report) c.in-Ok.ensures.text,
  c.in-Ok-write_text.ensures.ok,
)

pub returns-in-Err-Write-clause-ends : goal.returns-in-Err-Write-clause-ends
returns-in-Err-Write-clause-ends g c = (
  lines_left c.in-Ok.report,
  is-report c.args.lab.now c.args.net.now (routes_of c.in-Ok.report.routes.items) c.requires.tells c.in-Ok.ensures.routes (lines_left c.in-Ok.report) c.in-Ok.ensures.text,
  c.in-Err-Write.ensures.begun,
)

pub returns-clause-ends : goal.returns-clause-ends
returns-clause-ends g c = inr (
  lines_left c.in-Ok.report,
  is-report c.args.lab.now c.args.net.now (routes_of c.in-Ok.report.routes.items) c.requires.tells c.in-Ok.ensures.routes (lines_left c.in-Ok.report) c.in-Ok.ensures.text,
  c.in-Err-OutOfMemory.ensures.begun,
)
