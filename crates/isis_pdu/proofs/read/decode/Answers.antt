use Rattle.std.proofs.Common.{ℕ, ◌-◌, take, drop, Ok, Err, ◌∙◌, sym, ap}
use Rattle.std.proofs.lemmas.Result.{err_from_is_err_and}
use Rattle.isis_pdu.specs.Layout.{value_at}
use Rattle.isis_pdu.proofs.ReadLemmas.{start-fault, later-fault, refused, accepted, decoded-from}
use Rattle.isis_pdu.proofs.read.decode.Goals as goal

pub returns-in_err-kind-clause-ok : goal.returns-in_err-kind-clause-ok
returns-in_err-kind-clause-ok c =
    let p = err_from_is_err_and c.from_residual.result c.from_residual.ensures.1 in
    refused c.args.octets.now c.from_residual.result c.in_err-kind.field-0.0 (p.1 ∙ ap Err p.2)
    (start-fault c.args.octets.now c.in_err-kind.field-0.0 c.in_err-kind.ensures.fault)

pub returns-in_err-kind-clause-err : goal.returns-in_err-kind-clause-err
returns-in_err-kind-clause-err c =
    let p = err_from_is_err_and c.from_residual.result c.from_residual.ensures.1 in
    rw (p.1, p.2) (start-fault c.args.octets.now _ c.in_err-kind.ensures.fault)

pub returns-in_err-end-clause-ok : goal.returns-in_err-end-clause-ok
returns-in_err-end-clause-ok c =
    let p = err_from_is_err_and c.from_residual-in_err-end.result c.from_residual-in_err-end.ensures.1 in
    refused c.args.octets.now c.from_residual-in_err-end.result c.in_err-end.field-0.0 (p.1 ∙ ap Err p.2)
    (c.in_err-end.ensures.fault ∙ sym (later-fault c.args.octets.now c.in_ok-kind.kind c.in_ok-kind.ensures.kind c.in_ok-kind.ensures.fault))

pub returns-in_err-end-clause-err : goal.returns-in_err-end-clause-err
returns-in_err-end-clause-err c =
    let p = err_from_is_err_and c.from_residual-in_err-end.result c.from_residual-in_err-end.ensures.1 in
    rw (p.1, p.2) (c.in_err-end.ensures.fault ∙ sym (later-fault c.args.octets.now c.in_ok-kind.kind c.in_ok-kind.ensures.kind c.in_ok-kind.ensures.fault))

pub returns-clause-ok : goal.returns-clause-ok
returns-clause-ok c =
    accepted c.args.octets.now c.in_ok-kind.kind c.value_at-pdu.result c.in_ok-end.end c.in_ok-kind.ensures.kind c.in_ok-kind.ensures.fault c.in_ok-end.ensures.fault c.in_ok-end.ensures.size c.in_ok-end.ensures.most
    (c.value_at-pdu.ensures
    ∙ ap (λ (header : ℕ). value_at c.in_ok-kind.kind c.args.octets.now (take (c.in_ok-end.end - header) (drop header c.args.octets.now))) (c.from-header.ensures ∙ c.header_length.ensures))

pub returns-clause-err : goal.returns-clause-err
returns-clause-err c =
    c.in_ok-end.ensures.fault ∙ sym (later-fault c.args.octets.now c.in_ok-kind.kind c.in_ok-kind.ensures.kind c.in_ok-kind.ensures.fault)

pub returns-in_err-kind-clause-value : goal.returns-in_err-kind-clause-value
returns-in_err-kind-clause-value c =
    decoded-from c.args.octets.now c.from_residual.result (returns-in_err-kind-clause-ok c) (returns-in_err-kind-clause-err c)

pub returns-in_err-end-clause-value : goal.returns-in_err-end-clause-value
returns-in_err-end-clause-value c =
    decoded-from c.args.octets.now c.from_residual-in_err-end.result (returns-in_err-end-clause-ok c) (returns-in_err-end-clause-err c)

pub returns-clause-value : goal.returns-clause-value
returns-clause-value c =
    decoded-from c.args.octets.now (Ok (c.value_at-pdu.result, c.in_ok-end.end)) (returns-clause-ok c) (returns-clause-err c)
