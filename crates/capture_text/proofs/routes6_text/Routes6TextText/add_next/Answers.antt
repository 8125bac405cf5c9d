use Rattle.std.proofs.Common.{◌∙◌, ◌++◌, List, ℕ, Option, codes, sym, ap}
use Rattle.std.specs.List.{flat_map}
use Rattle.std.proofs.lemmas.List.{append_assoc}
use Rattle.capture_text.specs.declared.left.Counts.{Counts}
use Rattle.capture_text.specs.HeadText.{head_text}
use Rattle.capture_text.specs.Routes6Text.{route6_line}
use Rattle.capture_text.specs.Left.{head_left}
use Rattle.capture_text.proofs.routes6_text.Routes6TextText.add_next.Goals as goal

pub returns-in-Some-clause-adds : goal.returns-in-Some-clause-adds
returns-in-Some-clause-adds c =
    let counts = c.in-Some.counts in
    let name = codes "isis-routes6 1" in
    let behind = flat_map route6_line c.args.self.now.routes.now in
    ap (λ (text : List ℕ). text ++ behind) c.in_ok-add_head.ensures
    ∙ append_assoc c.args.page.now (head_text name counts.kept counts.skipped) behind
    ∙ ap (λ (head : Option Counts). c.args.page.now ++ (head_left name head ++ behind)) (sym c.in-Some.is)
