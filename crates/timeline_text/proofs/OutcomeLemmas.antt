-- The timeline of a script, or what its run comes to.
use Rattle.std.proofs.Common.{◌≡◌, ℕ, List, ◌++◌, Result, Ok, Err, IfOk, IfErr, sym, ap, ◌∙◌, subst}
use Rattle.model_network.specs.Networks.{Network}
use Rattle.lab_script.specs.declared.deeds.LabLine.{LabLine}
use Rattle.lab_script.specs.declared.reason.ScriptFault.{ScriptFault}
use Rattle.lab_script.specs.declared.reason.ScriptFault.TheVariants.{Refused, Limit, OutOfMemory}
use Rattle.lab_script.specs.LabScripts.{LabScript}
use Rattle.lab_script.specs.Scripts.{◌>>=◌}
use Rattle.lab_text.specs.Layouts.{laid_out, opened}
use Rattle.lab_text.specs.LabReports.{lab_outcome}
use Rattle.timeline_text.specs.Moments.{Moment, moments_of}
use Rattle.timeline_text.specs.TimelineText.{sum_words}
use Rattle.timeline_text.specs.Pages.{PageOf, new_page, AreAdded}
use Rattle.timeline_text.specs.Playing.{LinesEnd, PageEnds}
use Rattle.timeline_text.specs.Timelines.{Times}
use Rattle.timeline_text.proofs.PageLemmas.{whole-text}
use Rattle.timeline_text.proofs.MomentLemmas.{fault-of-run}

fault-of-script : (script : LabScript) (f : ScriptFault) → moments_of script ≡ Err f → lab_outcome script ≡ Err f
fault-of-script script f e =
    ap (λ (r : Result Network ScriptFault). r >>= λ (net : Network). Ok tt) (fault-of-run (opened (laid_out script)) script.lines f e)

pub fault-times : (script : LabScript) (address : ℕ) (fault : ScriptFault) → PageEnds address script.lines (opened (laid_out script)) (Err fault) → Times script address (Err fault)
fault-times script address (Refused line reason) h = fault-of-script script (Refused line reason) h
fault-times script address (Limit which) h = fault-of-script script (Limit which) h
fault-times script address OutOfMemory h = tt

pub finish-times : (script : LabScript) (address : ℕ) (page : PageOf) (result : Result (List ℕ) ScriptFault) → PageEnds address script.lines (opened (laid_out script)) (Ok page)
    → IfOk result (λ (text : List ℕ). text ≡ page.text ++ sum_words page.seconds page.sums) → IfErr result (λ (fault : ScriptFault). fault ≡ OutOfMemory)
    → Times script address result
finish-times script address page (Ok text) h text-is cause =
    let added : AreAdded address h.0 new_page page = h.2 in
    record {
      pairs = added.pairs;
      moments = h.1 ∙ ap (λ (ms : List Moment). Ok ms) (sym added.moments_are);
      tallies = added.tallies;
      text_is = text-is ∙ ap (λ (p : PageOf). p.text ++ sum_words p.seconds p.sums) added.page_is ∙ whole-text added.pairs;
    }
finish-times script address page (Err fault) h text-is cause =
    subst (λ (f : ScriptFault). Times script address (Err f)) (sym cause) tt

-- a fault's page doesn't count
pub page-of-fault : (address : ℕ) (lines : List LabLine) (net : Network) (old new : PageOf) (fault : ScriptFault) → LinesEnd address lines net old new (Err fault) → PageEnds address lines net (Err fault)
page-of-fault address lines net old new (Refused line reason) h = h
page-of-fault address lines net old new (Limit which) h = h
page-of-fault address lines net old new OutOfMemory h = tt

pub page-of : (address : ℕ) (lines : List LabLine) (net : Network) (old new : PageOf) → old ≡ new_page → LinesEnd address lines net old new (Ok tt) → PageEnds address lines net (Ok new)
page-of address lines net old new e h = subst (λ (p : PageOf). LinesEnd address lines net p new (Ok tt)) e h
