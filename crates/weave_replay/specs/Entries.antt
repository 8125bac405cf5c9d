-- The entries of a journal that was read, as entries of weave_model (own).
use Rattle.std.specs.Prelude.{List, map}
use Rattle.router_desk.specs.declared.config.Change.{Change}
use Rattle.router_desk.specs.declared.config.Change.TheVariants as change
use Rattle.isis_base.specs.Prefixes.{prefix_number}
use Rattle.journal_text.specs.declared.entry.WovenEntry.{WovenEntry}
use Rattle.journal_text.specs.declared.entry.WovenEvent.{WovenEvent}
use Rattle.journal_text.specs.declared.entry.WovenEvent.TheVariants as event
use Rattle.journal_text.specs.declared.entry.WovenReply.{WovenReply}
use Rattle.journal_text.specs.declared.entry.WovenReply.TheVariants as reply
use Rattle.weave_model.specs.Entries.{Deed, Second, Take, Pull, Metric, Overload, Prefix, Answer, Done, Dropped, Sends, Entry}
use Rattle.weave_replay.specs.declared.journal.WovenJournal.{WovenJournal}

abbrev pub change_deed : Change → Deed
change_deed (change.Metric circuit metric) = Metric circuit metric
change_deed (change.Prefix prefix metric) = Prefix (prefix_number prefix) metric
change_deed (change.Overload on) = Overload on

abbrev pub deed_of : WovenEvent → Deed
deed_of event.Second = Second
deed_of (event.Take circuit octets) = Take circuit octets
deed_of (event.Pull circuit) = Pull circuit
deed_of (event.Change changed) = change_deed changed

abbrev pub answer_of : WovenReply → Answer
answer_of reply.Done = Done
answer_of (reply.Dropped name) = Dropped name
answer_of (reply.Send datagrams) = Sends datagrams

abbrev pub entry_of : WovenEntry → Entry
entry_of e = record { deed = deed_of e.event; answer = answer_of e.reply }

-- the entries of a journal
abbrev pub entries_of : WovenJournal → List Entry
entries_of j = map entry_of j.entries.items
