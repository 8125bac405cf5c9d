use Rattle.network_lab.proofs.SentLemmas.{send-ok, send-err, send-done, send-drop}
use Rattle.network_lab.proofs.taking.send.Goals as goal

pub returns-in-Some-Send-clause-ok : goal.returns-in-Some-Send-clause-ok
returns-in-Some-Send-clause-ok c =
    send-ok c.post.result c.args.sender c.in-Some-Send.link c.args.boot c.args.changes c.args.link c.args.reply c.in-Some-Send.datagrams c.into_items.result.items c.args.sent.now.items c.post.new.sent.items
    c.in-Some-Send.is-0 c.in-Some-Send.is-1 c.into_items.ensures c.post.ensures.ok

pub returns-in-Some-Send-clause-cause : goal.returns-in-Some-Send-clause-cause
returns-in-Some-Send-clause-cause c =
    send-err c.post.result c.args.sender c.in-Some-Send.link c.args.boot c.args.changes c.args.link c.args.reply c.in-Some-Send.datagrams c.into_items.result.items c.args.sent.now.items c.post.new.sent.items
    c.in-Some-Send.is-0 c.in-Some-Send.is-1 c.into_items.ensures c.post.ensures.cause

pub returns-in-Some-Done-clause-ok : goal.returns-in-Some-Done-clause-ok
returns-in-Some-Done-clause-ok c = send-done c.args.sender c.args.boot c.args.changes c.args.link c.args.reply c.args.sent.now.items c.in-Some-Done.is-1

pub returns-in-Some-Dropped-clause-ok : goal.returns-in-Some-Dropped-clause-ok
returns-in-Some-Dropped-clause-ok c = send-drop c.args.sender c.args.boot c.args.changes c.args.link c.args.reply _ c.args.sent.now.items c.in-Some-Dropped.is-1
