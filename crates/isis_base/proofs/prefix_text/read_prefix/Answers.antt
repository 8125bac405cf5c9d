use Rattle.std.proofs.Common.{◌≡◌, ◌∙◌, ℕ, List, Some, None, option_and_then, length, get_or, take, sym, ap, subst, refl}
use Rattle.std.proofs.lemmas.List.{take_more}
use Rattle.isis_base.specs.Texts.{IsFaultAt}
use Rattle.isis_base.specs.PrefixFronts.{after_text, no_front, parts_of_front}
use Rattle.isis_base.specs.PrefixTexts.{SpellsPrefix, IsPrefixText}
use Rattle.isis_base.proofs.PrefixLemmas.{after_text-stuck, IsFaultAt-byte, IsFaultAt-end, prefix-from, after_text-push, SpellsPrefix-one, read-whole}
use Rattle.isis_base.proofs.prefix_text.read_prefix.Goals as goal

pub loop-place-init : goal.loop-place-init
unfolding after_text
loop-place-init c = ap Some (sym c.new-front.ensures)

pub returns-in-None-clause-err : goal.returns-in-None-clause-err
returns-in-None-clause-err c =
    let bytes = c.as_bytes-bytes.result.now in
    let place = c.loop-place.place in
    subst (λ (text : List ℕ). IsFaultAt IsPrefixText text place) c.as_bytes-bytes.ensures.value
    (IsFaultAt-byte bytes place (get_or bytes place 0) c.loop-place.front c.loop-place-test.true refl c.loop-place.invariant (sym c.in-None.ensures))

pub returns-in-None-clause-read : goal.returns-in-None-clause-read
returns-in-None-clause-read c = λ address long s. (returns-in-None-clause-err c).none (address, long, s)

pub loop-place-preserved : goal.loop-place-preserved
loop-place-preserved c =
    let bytes = c.as_bytes-bytes.result.now in
    let place = c.loop-place.place in
    ap (after_text no_front) (take_more bytes place 0 c.loop-place-test.true)
    ∙ after_text-push (take place bytes) (get_or bytes place 0) c.loop-place.front c.in-Some.next c.loop-place.invariant c.in-Some.ensures

pub returns-in-None-prefix-clause-err : goal.returns-in-None-prefix-clause-err
returns-in-None-prefix-clause-err c =
    let bytes = c.as_bytes-bytes.result.now in
    let f = c.loop-place.front in
    let whole = read-whole bytes c.loop-place.place f c.loop-place.auto.place-end c.loop-place-test.false c.loop-place.invariant in
    subst (λ (text : List ℕ). IsFaultAt IsPrefixText text (length bytes)) c.as_bytes-bytes.ensures.value
    (IsFaultAt-end bytes f whole (c.in-None-prefix.ensures.none refl))

pub returns-in-None-prefix-clause-read : goal.returns-in-None-prefix-clause-read
returns-in-None-prefix-clause-read c = λ address long s. (returns-in-None-prefix-clause-err c).none (address, long, s)

pub returns-in-Some-prefix-clause-ok : goal.returns-in-Some-prefix-clause-ok
returns-in-Some-prefix-clause-ok c =
    let bytes = c.as_bytes-bytes.result.now in
    let f = c.loop-place.front in
    let prefix = c.in-Some-prefix.prefix in
    let whole = read-whole bytes c.loop-place.place f c.loop-place.auto.place-end c.loop-place-test.false c.loop-place.invariant in
    let some = c.in-Some-prefix.ensures.some in
    let spells : SpellsPrefix bytes prefix.address prefix.length =
    subst (λ (address : ℕ). SpellsPrefix bytes address prefix.length) (sym some.1) (prefix-from bytes f prefix.length whole (sym some.2) some.0) in
    subst (λ (text : List ℕ). SpellsPrefix text prefix.address prefix.length) c.as_bytes-bytes.ensures.value spells

pub returns-in-Some-prefix-clause-read : goal.returns-in-Some-prefix-clause-read
returns-in-Some-prefix-clause-read c = λ address long s.
    SpellsPrefix-one c.args.text.now c.in-Some-prefix.prefix.address c.in-Some-prefix.prefix.length address long (returns-in-Some-prefix-clause-ok c) s

pub returns-in-None-clause-value : goal.returns-in-None-clause-value
returns-in-None-clause-value c =
    let bytes = c.as_bytes-bytes.result.now in
    let place = c.loop-place.place in
    let none : after_text no_front bytes ≡ None = after_text-stuck bytes place (get_or bytes place 0) c.loop-place.front c.loop-place-test.true refl c.loop-place.invariant (sym c.in-None.ensures) in
    sym (ap (λ (text : List ℕ). option_and_then parts_of_front (after_text no_front text)) (sym c.as_bytes-bytes.ensures.value) ∙ ap (option_and_then parts_of_front) none)
