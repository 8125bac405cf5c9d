use Rattle.std.proofs.Common.{◌≡◌, ℕ, ◌++◌, List, codes, decimal, sym, ap, ◌∙◌, subst, append_assoc}
use Rattle.isis_base.specs.PrefixTexts.{prefix_text}
use Rattle.router_desk.specs.declared.config.Change.{Change}
use Rattle.router_desk.specs.declared.config.Change.TheVariants as change
use Rattle.circuit_threads.specs.JournalText.{change_text, metric_text}
use Rattle.circuit_threads.proofs.LineLemmas.{text-two, text-three}
use Rattle.circuit_threads.proofs.words.add_change.Goals as goal

pub returns-in-Metric : goal.returns-in-Metric
returns-in-Metric c =
    let old = c.args.page.now in let new = c.add_number-in-Metric.new.self in
    let front : List ℕ = codes "change metric " ++ decimal c.in-Metric.circuit in
    let one : c.add_number.new.self ≡ old ++ front = c.add_number.ensures.text ∙ ap (λ n. old ++ (codes "change metric " ++ decimal n)) c.from.ensures in
    let two : new ≡ c.add_number.new.self ++ (codes " " ++ decimal c.in-Metric.metric) = c.add_number-in-Metric.ensures.text ∙ ap (λ n. c.add_number.new.self ++ (codes " " ++ decimal n)) c.from-in-Metric.ensures in
    let all = text-two old c.add_number.new.self new front (codes " " ++ decimal c.in-Metric.metric) one two in
    record { text = subst (λ (ch : Change). new ≡ old ++ change_text ch) (sym c.in-Metric.is) (all ∙ ap (λ (xs : List ℕ). old ++ xs) (append_assoc (codes "change metric ") (decimal c.in-Metric.circuit) (codes " " ++ decimal c.in-Metric.metric))) }

pub returns-in-Prefix : goal.returns-in-Prefix
returns-in-Prefix c =
    let old = c.args.page.now in let p = c.in-Prefix.prefix in
    record {
      text = subst (λ (ch : Change). c.add_metric.new.page ≡ old ++ change_text ch) (sym c.in-Prefix.is)
          (text-three old c.add.new.self c.add_prefix.new.self c.add_metric.new.page (codes "change prefix ") (prefix_text p.address p.length) (codes " " ++ metric_text c.in-Prefix.metric)
          c.add.ensures c.add_prefix.ensures.text c.add_metric.ensures.text);
    }

pub returns-in-Overload-true : goal.returns-in-Overload-true
returns-in-Overload-true c =
    let old = c.args.page.now in
    record { text = c.add-in-Overload-true.ensures ∙ ap (λ (ch : Change). old ++ change_text ch) (sym (c.in-Overload-true.is ∙ ap change.Overload c.in-Overload-true.on-test)) }

pub returns-in-Overload-false : goal.returns-in-Overload-false
returns-in-Overload-false c =
    let old = c.args.page.now in
    record { text = c.add-in-Overload-false.ensures ∙ ap (λ (ch : Change). old ++ change_text ch) (sym (c.in-Overload-false.is ∙ ap change.Overload c.in-Overload-false.on-test)) }
