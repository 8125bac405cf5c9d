use Rattle.std.proofs.Common.{◌∙◌, sym}
use Rattle.toml.specs.Data.{as_str}
use Rattle.toml.specs.View.{view}
use Rattle.daemon_config.proofs.ListLemmas.{few, many, fits}
use Rattle.daemon_config.proofs.lists.text_items.Goals as goal

pub returns-then-items-least : goal.returns-then-items-least
returns-then-items-least c =
    rw c.refused-then-items-least.ensures (sym (few as_str c.args.least c.args.most c.args.key (view c.args.value.now) c.in-Some.items.now c.in-Some.ensures (sym c.are_texts.ensures ∙ c.if-not-are_texts.false) c.if-items-least.true))

pub returns-then-most-items : goal.returns-then-most-items
returns-then-most-items c =
    rw c.refused-then-most-items.ensures (sym (many as_str c.args.least c.args.most c.args.key (view c.args.value.now) c.in-Some.items.now c.in-Some.ensures (sym c.are_texts.ensures ∙ c.if-not-are_texts.false) c.if-most-items.true))

pub returns : goal.returns
returns c =
    sym (fits as_str c.args.least c.args.most c.args.key (view c.args.value.now) c.in-Some.items.now c.in-Some.ensures (sym c.are_texts.ensures ∙ c.if-not-are_texts.false) c.if-items-least.false c.if-most-items.false)
