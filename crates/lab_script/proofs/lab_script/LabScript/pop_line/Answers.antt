use Rattle.std.proofs.Common.{List, arith, sym, ap, subst, ◌∙◌, append-nil}
use Rattle.std.proofs.lemmas.List.{nil_from_length}
use Rattle.lab_script.specs.declared.deeds.LabLine.{LabLine}
use Rattle.lab_script.specs.LabScripts.{LabScript}
use Rattle.lab_script.specs.LabSound.{IsSoundLab}
use Rattle.lab_script.proofs.LabLemmas.{IsSoundLab-front}
use Rattle.lab_script.proofs.lab_script.LabScript.pop_line.Goals as goal

pub invariant_of-self : goal.invariant_of-self
invariant_of-self c =
    let own = c.self.inside in
    let with-lines = λ (lines : List LabLine). (let x : LabScript = record { routers = own.routers; links = own.links; keys = own.keys.items; lines = lines } in x) in
    subst (λ (lines : List LabLine). IsSoundLab (with-lines lines)) (c.in_default.ensures.items ∙ append-nil c.pop.new.self.items) c.self.invariant

pub invariant_of-self-2 : goal.invariant_of-self-2
invariant_of-self-2 c =
    let own = c.self.inside in
    let with-lines = λ (lines : List LabLine). (let x : LabScript = record { routers = own.routers; links = own.links; keys = own.keys.items; lines = lines } in x) in
    IsSoundLab-front (with-lines c.pop.new.self.items) c.in-Some.line (subst (λ (lines : List LabLine). IsSoundLab (with-lines lines)) c.in-Some.ensures.items c.self.invariant)

pub returns : goal.returns
returns c =
    let own = c.self.inside in
    let with-lines = λ (lines : List LabLine). (let x : LabScript = record { routers = own.routers; links = own.links; keys = own.keys.items; lines = lines } in x) in
    sym c.self.view_is ∙ ap with-lines c.in-Some.ensures.items

pub returns-in_default : goal.returns-in_default
returns-in_default c =
    let own = c.self.inside in
    let with-lines = λ (lines : List LabLine). (let x : LabScript = record { routers = own.routers; links = own.links; keys = own.keys.items; lines = lines } in x) in
    let same = c.in_default.ensures.items ∙ append-nil c.pop.new.self.items in
    let none = same ∙ nil_from_length c.pop.new.self.items (omega (arith, c.in_default.ensures.cases.1, c.pop.new.self.ok.0)) in
    (ap with-lines (sym same) ∙ c.self.view_is, ap (λ (s : LabScript). s.lines) (sym c.self.view_is) ∙ none)
