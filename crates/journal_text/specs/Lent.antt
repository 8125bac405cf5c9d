-- An entry whose octets are lent, as the entry that it is (own).
use Rattle.journal_text.specs.declared.entry.WovenEntry.{WovenEntry}
use Rattle.journal_text.specs.declared.entry.WovenEvent.{WovenEvent}
use Rattle.journal_text.specs.declared.entry.WovenEvent.TheVariants as event
use Rattle.journal_text.specs.declared.entry.WovenReply.{WovenReply}
use Rattle.journal_text.specs.declared.entry.WovenReply.TheVariants as reply
use Rattle.journal_text.specs.declared.lent.LentEntry.{LentEntry}
use Rattle.journal_text.specs.declared.lent.LentEvent.{LentEvent}
use Rattle.journal_text.specs.declared.lent.LentEvent.TheVariants as lent
use Rattle.journal_text.specs.declared.lent.LentReply.{LentReply}
use Rattle.journal_text.specs.declared.lent.LentReply.TheVariants as answer

abbrev pub event_in : LentEvent → WovenEvent
event_in lent.Second = event.Second
event_in (lent.Take circuit octets) = event.Take circuit octets
event_in (lent.Pull circuit) = event.Pull circuit
event_in (lent.Change changed) = event.Change changed

abbrev pub reply_in : LentReply → WovenReply
reply_in answer.Done = reply.Done
reply_in (answer.Dropped name) = reply.Dropped name
reply_in (answer.Send datagrams) = reply.Send datagrams

abbrev pub entry_in : LentEntry → WovenEntry
entry_in e = record { event = event_in e.event; reply = reply_in e.reply }
