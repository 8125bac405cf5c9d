use Rattle.std.proofs.Common.{◌+◌, ◌++◌, List, ℕ, sym, ap, ◌∙◌}
use Rattle.router_core.specs.declared.reply.Reply.{Reply}
use Rattle.circuit_threads.specs.JournalText.{hex_text}
use Rattle.circuit_threads.specs.LineRests.{datagrams_from}
use Rattle.circuit_threads.proofs.LineLemmas.{datagram-parts, rest-at}
use Rattle.circuit_threads.proofs.line.LineRest.add_datagram.Goals as goal

pub returns-clause-text : goal.returns-clause-text
returns-clause-text c =
    let s = c.args.self.now in let r = c.requires in let ds = c.in-Send.datagrams in let n = c.args.count in
    ap (λ (x : Reply). c.add-2.new.self ++ (hex_text c.in-Some.datagram.now ++ datagrams_from x (n + 1))) c.in-Send.is
    ∙ (datagram-parts ds n c.in-Some.datagram.now c.args.page.now c.add-2.new.self (sym c.in-Some.ensures) c.add-2.ensures
    ∙ ap (λ (xs : List ℕ). c.args.page.now ++ xs) (sym (rest-at s ds n r.none r.stage c.in-Send.is)))
