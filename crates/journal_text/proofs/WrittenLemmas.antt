-- What is written of a journal is read.
use Rattle.std.proofs.Common.{◌≡◌, ◌∙◌, ℕ, ◌+◌, ◌<◌, ◌^◌, Bool, true, false, cond, List, [], ◌∷◌, ◌++◌, map, Option, Some, None, refl, sym, ap, subst, arith}
use Rattle.std.specs.Prelude.{decimal, codes, flat_map, option_and_then, ◌==◌, IfSome}
use Rattle.std.specs.List.{AllByRecursion}
use Rattle.std.specs.Option.{option_map}
use Rattle.std.proofs.lemmas.Bool.{eq-eqb}
use Rattle.std.proofs.lemmas.List.{append_assoc, append-nil}
use Rattle.isis_base.specs.declared.prefix.Prefix.{Prefix}
use Rattle.isis_base.specs.PrefixTexts.{prefix_text}
use Rattle.model_router.specs.declared.drop_name.DropName.{DropName}
use Rattle.model_router.specs.declared.drop_name.DropName.TheVariants.{Frame, Version, Pdu, TooLong, WrongKind, WrongLevel, Auth, Value, ZeroNumber, BadChecksum, OwnId, OtherSnpa, OldBoot, NoLevel, NoArea, NoThreeWay, OtherNeighbour, TooMany, NoAdjacency, NotDesignated, StoreFull}
use Rattle.model_router.specs.Drops.{drop_word}
use Rattle.router_desk.specs.declared.config.Change.{Change}
use Rattle.router_desk.specs.declared.config.Change.TheVariants as change
use Rattle.router_core.specs.declared.event.NodeEvent.{NodeEvent}
use Rattle.router_core.specs.declared.event.NodeEvent.TheVariants as node
use Rattle.circuit_threads.specs.declared.entry.JournalEntry.{JournalEntry}
use Rattle.circuit_threads.specs.History.{ReplyView, Done, Dropped, Sent, reply_view}
use Rattle.circuit_threads.specs.JournalText.{hex_text, metric_text, change_text, event_text, datagram_text, reply_text, line_text, entry_text, entries_text, journal_text}
use Rattle.journal_text.specs.declared.entry.WovenEntry.{WovenEntry}
use Rattle.journal_text.specs.declared.entry.WovenEvent.{WovenEvent}
use Rattle.journal_text.specs.declared.entry.WovenEvent.TheVariants as event
use Rattle.journal_text.specs.declared.entry.WovenReply.{WovenReply}
use Rattle.journal_text.specs.declared.entry.WovenReply.TheVariants as reply
use Rattle.journal_text.specs.Entries.{drop_form, reply_form, answered, event_form, entry_of}
use Rattle.journal_text.specs.Fields.{this_number, pass_of, circuit_of, metric_of, prefix_metric_of}
use Rattle.journal_text.specs.Journals.{Journal, Good, or_faulty, with_entry, is_end, entries_from, journal_of}
use Rattle.journal_text.specs.Written.{event_read, reply_read, entry_read, IsChangeInRange, IsEventInRange, IsReplyInRange, IsInRange, AreNumbered}
use Rattle.line_cuts.specs.Fields.{prefix_of}
use Rattle.line_cuts.specs.Forms.{field, each}
use Rattle.line_cuts.specs.HexTexts.{AreOctets, octets_of}
use Rattle.line_cuts.specs.Words.{words_of, lines_of}
use Rattle.line_cuts.proofs.HexLemmas.{octets_of-hex_text}
use Rattle.line_cuts.proofs.NumberTexts.{numeral_of-decimal, number_to-decimal, decimal-none}
use Rattle.line_cuts.proofs.PrefixTexts.{prefix_of-written}
use Rattle.journal_text.proofs.WordLemmas.{IsPlain, IsInline, inline-both, inline-plain, decimal-plain, hex-plain, prefix-plain, words-next, words-last, words-two, lines-next}

-- ---- fields

this-read : (n : ℕ) → n < 2 ^ 128 → this_number n (decimal n) ≡ Some n
this-read n wide =
    ap (option_and_then (λ (k : ℕ). cond {A = Option ℕ} (k == n) (Some k) None)) (numeral_of-decimal n wide)
    ∙ ap (λ (t : Bool). cond {A = Option ℕ} t (Some n) None) (eq-eqb n n refl)

pass-read : (n : ℕ) → n < 2 ^ 64 → pass_of (decimal n) ≡ Some n
pass-read n h = number_to-decimal 18446744073709551615 n (omega (arith, h)) (omega (arith, h))

circuit-read : (n : ℕ) → n < 256 → circuit_of (decimal n) ≡ Some n
circuit-read n h = number_to-decimal 255 n (omega (arith, h)) (omega (arith, h))

metric-read : (n : ℕ) → n < 2 ^ 32 → metric_of (decimal n) ≡ Some n
metric-read n h = number_to-decimal 4294967295 n (omega (arith, h)) (omega (arith, h))

prefix_metric-read : (metric : Option ℕ) → IfSome metric (λ m. m < 2 ^ 32) → prefix_metric_of (metric_text metric) ≡ Some metric
prefix_metric-read None h = refl
prefix_metric-read (Some m) h =
    ap (λ (t : Bool). cond t (Some None) (option_map (λ metric. Some metric) (metric_of (decimal m)))) (decimal-none m (omega (arith, h)))
    ∙ ap (option_map (λ metric. Some metric)) (metric-read m h)

metric-plain : (metric : Option ℕ) → IfSome metric (λ m. m < 2 ^ 32) → IsPlain (metric_text metric)
metric-plain None h = refl
metric-plain (Some m) h = decimal-plain m (omega (arith, h))

-- ---- replies

-- the word of a cause is read as it, and is a word
drop-said : (name : DropName) → (drop_form (words_of (drop_word name)) ≡ Some (reply.Dropped name)) × IsInline (drop_word name)
drop-said Frame = (refl, refl)
drop-said Version = (refl, refl)
drop-said Pdu = (refl, refl)
drop-said TooLong = (refl, refl)
drop-said WrongKind = (refl, refl)
drop-said WrongLevel = (refl, refl)
drop-said Auth = (refl, refl)
drop-said Value = (refl, refl)
drop-said ZeroNumber = (refl, refl)
drop-said BadChecksum = (refl, refl)
drop-said OwnId = (refl, refl)
drop-said OtherSnpa = (refl, refl)
drop-said OldBoot = (refl, refl)
drop-said NoLevel = (refl, refl)
drop-said NoArea = (refl, refl)
drop-said NoThreeWay = (refl, refl)
drop-said OtherNeighbour = (refl, refl)
drop-said TooMany = (refl, refl)
drop-said NoAdjacency = (refl, refl)
drop-said NotDesignated = (refl, refl)
drop-said StoreFull = (refl, refl)

sent-words : (d : List ℕ) (ds : List (List ℕ)) → AreOctets d → AllByRecursion AreOctets ds → words_of (hex_text d ++ flat_map datagram_text ds) ≡ hex_text d ∷ map hex_text ds
sent-words d [] h k = ap words_of (append-nil (hex_text d)) ∙ words-last (hex_text d) (hex-plain d h)
sent-words d (e ∷ es) h k = words-next (hex_text d) (hex_text e ++ flat_map datagram_text es) (hex-plain d h) ∙ ap (λ (words : List (List ℕ)). hex_text d ∷ words) (sent-words e es k.0 k.1)

each-read : (datagrams : List (List ℕ)) → AllByRecursion AreOctets datagrams → each octets_of (map hex_text datagrams) ≡ Some datagrams
each-read [] h = refl
each-read (d ∷ ds) h =
    ap (λ (o : Option (List ℕ)). option_and_then (λ x. option_map (λ xs. x ∷ xs) (each octets_of (map hex_text ds))) o) (octets_of-hex_text d h.0)
    ∙ ap (option_map (λ xs. d ∷ xs)) (each-read ds h.1)

-- a reply is read behind its arrow
reply-said : (view : ReplyView) → IsReplyInRange view → reply_form (words_of (codes "-> " ++ reply_text view)) ≡ Some (reply_read view)
reply-said Done h = refl
reply-said (Dropped name) h = (drop-said name).0
reply-said (Sent []) h = refl
reply-said (Sent (d ∷ ds)) h =
    ap (λ (words : List (List ℕ)). option_map reply.Send (each octets_of words)) (sent-words d ds h.0 h.1)
    ∙ ap (option_map reply.Send) (each-read (d ∷ ds) h)

sent-inline : (datagrams : List (List ℕ)) → AllByRecursion AreOctets datagrams → IsInline (flat_map datagram_text datagrams)
sent-inline [] h = refl
sent-inline (d ∷ ds) h = inline-both (datagram_text d) (flat_map datagram_text ds) (inline-plain (hex_text d) (hex-plain d h.0)) (sent-inline ds h.1)

reply-inline : (view : ReplyView) → IsReplyInRange view → IsInline (reply_text view)
reply-inline Done h = refl
reply-inline (Dropped name) h = (drop-said name).1
reply-inline (Sent datagrams) h = sent-inline datagrams h

-- ---- events

answered-said : (happened : WovenEvent) (words : List (List ℕ)) (answer : WovenReply) → reply_form words ≡ Some answer → answered happened words ≡ Some (record { event = happened; reply = answer })
answered-said happened words answer h = ap (option_map (λ answer. record { event = happened; reply = answer })) h

-- a change is read before its reply
change-said : (changed : Change) (rest : List ℕ) (answer : WovenReply) → IsChangeInRange changed → reply_form (words_of rest) ≡ Some answer → event_form (words_of (change_text changed ++ 32 ∷ rest)) ≡ Some (record { event = event.Change changed; reply = answer })
change-said (change.Metric circuit metric) rest answer h k =
    let form = λ (words : List (List ℕ)). field circuit_of (λ c. field metric_of (λ m. answered (event.Change (change.Metric c m)))) words in
    ap form (words-two (decimal circuit) (decimal metric) rest (decimal-plain circuit (omega (arith, h.0))) (decimal-plain metric (omega (arith, h.1))))
    ∙ ap (λ (o : Option ℕ). option_and_then (λ c. field metric_of (λ m. answered (event.Change (change.Metric c m))) (decimal metric ∷ words_of rest)) o) (circuit-read circuit h.0)
    ∙ ap (λ (o : Option ℕ). option_and_then (λ m. answered (event.Change (change.Metric circuit m)) (words_of rest)) o) (metric-read metric h.1)
    ∙ answered-said (event.Change (change.Metric circuit metric)) (words_of rest) answer k
change-said (change.Prefix prefix metric) rest answer h k =
    let form = λ (words : List (List ℕ)). field prefix_of (λ p. field prefix_metric_of (λ m. answered (event.Change (change.Prefix p m)))) words in
    ap form (words-two (prefix_text prefix.address prefix.length) (metric_text metric) rest (prefix-plain prefix h.0) (metric-plain metric h.1))
    ∙ ap (λ (o : Option Prefix). option_and_then (λ p. field prefix_metric_of (λ m. answered (event.Change (change.Prefix p m))) (metric_text metric ∷ words_of rest)) o) (prefix_of-written prefix h.0)
    ∙ ap (λ (o : Option (Option ℕ)). option_and_then (λ m. answered (event.Change (change.Prefix prefix m)) (words_of rest)) o) (prefix_metric-read metric h.1)
    ∙ answered-said (event.Change (change.Prefix prefix metric)) (words_of rest) answer k
change-said (change.Overload true) rest answer h k = answered-said (event.Change (change.Overload true)) (words_of rest) answer k
change-said (change.Overload false) rest answer h k = answered-said (event.Change (change.Overload false)) (words_of rest) answer k

-- an event is read before its reply
event-said : (happened : NodeEvent) (rest : List ℕ) (answer : WovenReply) → IsEventInRange happened → reply_form (words_of rest) ≡ Some answer → event_form (words_of (event_text happened ++ 32 ∷ rest)) ≡ Some (record { event = event_read happened; reply = answer })
event-said node.Second rest answer h k = answered-said event.Second (words_of rest) answer k
event-said (node.Take opened) rest answer h k =
    let form = λ (words : List (List ℕ)). field circuit_of (λ c. field octets_of (λ o. answered (event.Take c o))) words in
    ap form (words-two (decimal opened.circuit) (hex_text opened.octets) rest (decimal-plain opened.circuit (omega (arith, h.0))) (hex-plain opened.octets h.1))
    ∙ ap (λ (o : Option ℕ). option_and_then (λ c. field octets_of (λ o. answered (event.Take c o)) (hex_text opened.octets ∷ words_of rest)) o) (circuit-read opened.circuit h.0)
    ∙ ap (λ (o : Option (List ℕ)). option_and_then (λ o. answered (event.Take opened.circuit o) (words_of rest)) o) (octets_of-hex_text opened.octets h.1)
    ∙ answered-said (event.Take opened.circuit opened.octets) (words_of rest) answer k
event-said (node.Pull circuit) rest answer h k =
    ap (λ (words : List (List ℕ)). field circuit_of (λ c. answered (event.Pull c)) words) (words-next (decimal circuit) rest (decimal-plain circuit (omega (arith, h))))
    ∙ ap (λ (o : Option ℕ). option_and_then (λ c. answered (event.Pull c) (words_of rest)) o) (circuit-read circuit h)
    ∙ answered-said (event.Pull circuit) (words_of rest) answer k
event-said (node.Change changed) rest answer h k = change-said changed rest answer h k

two-inline : (front a b : List ℕ) → IsInline front → IsPlain a → IsPlain b → IsInline (front ++ (a ++ 32 ∷ b))
two-inline front a b f h k = inline-both front (a ++ 32 ∷ b) f (inline-both a (32 ∷ b) (inline-plain a h) (inline-plain b k))

change-inline : (changed : Change) → IsChangeInRange changed → IsInline (change_text changed)
change-inline (change.Metric circuit metric) h = two-inline (codes "change metric ") (decimal circuit) (decimal metric) refl (decimal-plain circuit (omega (arith, h.0))) (decimal-plain metric (omega (arith, h.1)))
change-inline (change.Prefix prefix metric) h = two-inline (codes "change prefix ") (prefix_text prefix.address prefix.length) (metric_text metric) refl (prefix-plain prefix h.0) (metric-plain metric h.1)
change-inline (change.Overload true) h = refl
change-inline (change.Overload false) h = refl

event-inline : (happened : NodeEvent) → IsEventInRange happened → IsInline (event_text happened)
event-inline node.Second h = refl
event-inline (node.Take opened) h = two-inline (codes "take ") (decimal opened.circuit) (hex_text opened.octets) refl (decimal-plain opened.circuit (omega (arith, h.0))) (hex-plain opened.octets h.1)
event-inline (node.Pull circuit) h = inline-both (codes "pull ") (decimal circuit) refl (inline-plain (decimal circuit) (decimal-plain circuit (omega (arith, h))))
event-inline (node.Change changed) h = change-inline changed h

-- ---- lines

-- a line of four parts, with what follows the last
abbrev line_on : List ℕ → List ℕ → List ℕ → List ℕ → List ℕ → List ℕ
line_on n p v r end = n ++ 32 ∷ (p ++ 32 ∷ (v ++ 32 ∷ (codes "-> " ++ (r ++ end))))

on-append : (n p v r end more : List ℕ) → line_on n p v r end ++ more ≡ line_on n p v r (end ++ more)
on-append n p v r end more =
    append_assoc n (32 ∷ (p ++ 32 ∷ (v ++ 32 ∷ (codes "-> " ++ (r ++ end))))) more
    ∙ ap (λ (xs : List ℕ). n ++ 32 ∷ xs) (append_assoc p (32 ∷ (v ++ 32 ∷ (codes "-> " ++ (r ++ end)))) more
    ∙ ap (λ (xs : List ℕ). p ++ 32 ∷ xs) (append_assoc v (32 ∷ (codes "-> " ++ (r ++ end))) more
    ∙ ap (λ (xs : List ℕ). v ++ 32 ∷ (codes "-> " ++ xs)) (append_assoc r end more)))

-- the line of an entry, without its LF
abbrev line_in : JournalEntry → List ℕ
line_in e = line_on (decimal e.number) (decimal e.pass) (event_text e.event) (reply_text (reply_view e.reply)) []

line-cut : (e : JournalEntry) (more : List ℕ) → entry_text e ++ more ≡ line_in e ++ 10 ∷ more
unfolding line_text
line-cut e more =
    let n = decimal e.number in let p = decimal e.pass in let v = event_text e.event in let r = reply_text (reply_view e.reply) in
    on-append n p v r (codes "\n") more ∙ sym (on-append n p v r [] (10 ∷ more))

line-inline : (e : JournalEntry) → IsInRange e → IsInline (line_in e)
line-inline e h =
    let n = decimal e.number in let p = decimal e.pass in let v = event_text e.event in let r = reply_text (reply_view e.reply) in
    inline-both n (32 ∷ (p ++ 32 ∷ (v ++ 32 ∷ (codes "-> " ++ (r ++ []))))) (inline-plain n (decimal-plain e.number (omega (arith, h.number))))
    (inline-both p (32 ∷ (v ++ 32 ∷ (codes "-> " ++ (r ++ [])))) (inline-plain p (decimal-plain e.pass (omega (arith, h.pass))))
    (inline-both v (32 ∷ (codes "-> " ++ (r ++ []))) (event-inline e.event h.event)
    (inline-both r [] (reply-inline (reply_view e.reply) h.reply) refl)))

entry-said : (e : JournalEntry) → IsInRange e → entry_of e.number (words_of (line_in e)) ≡ Some (entry_read e)
entry-said e h =
    let n = decimal e.number in let p = decimal e.pass in let v = event_text e.event in let r = reply_text (reply_view e.reply) in
    let rest = codes "-> " ++ (r ++ []) in
    let behind = v ++ 32 ∷ rest in
    ap (entry_of e.number) (words-next n (p ++ 32 ∷ behind) (decimal-plain e.number (omega (arith, h.number))) ∙ ap (λ (words : List (List ℕ)). n ∷ words) (words-next p behind (decimal-plain e.pass (omega (arith, h.pass)))))
    ∙ ap (λ (o : Option ℕ). option_and_then (λ k. field pass_of (λ pass. event_form) (p ∷ words_of behind)) o) (this-read e.number (omega (arith, h.number)))
    ∙ ap (λ (o : Option ℕ). option_and_then (λ pass. event_form (words_of behind)) o) (pass-read e.pass h.pass)
    ∙ event-said e.event rest (reply_read (reply_view e.reply)) h.event
    (ap (λ (xs : List ℕ). reply_form (words_of (codes "-> " ++ xs))) (append-nil r) ∙ reply-said (reply_view e.reply) h.reply)

-- ---- texts

more-than-end : (word rest : List ℕ) (lines : List (List ℕ)) → is_end (word ++ 32 ∷ rest) lines ≡ false
more-than-end [] rest lines = refl
more-than-end (c ∷ word) rest lines = refl

next-said : (number : ℕ) (line : List ℕ) (lines : List (List ℕ)) (entry : WovenEntry) (entries : List WovenEntry) → is_end line lines ≡ false → entry_of number (words_of line) ≡ Some entry → entries_from (number + 1) lines ≡ Good entries → entries_from number (line ∷ lines) ≡ Good (entry ∷ entries)
unfolding entries_from
next-said number line lines entry entries more is rest =
    ap (λ (t : Bool). cond {A = Journal} t (Good []) (or_faulty number (entry_of number (words_of line)) (entries_from (number + 1) lines))) more
    ∙ ap (λ (o : Option WovenEntry). or_faulty number o (entries_from (number + 1) lines)) is
    ∙ ap (with_entry entry) rest

none-said : (number : ℕ) → entries_from number (lines_of []) ≡ Good []
unfolding entries_from
none-said number = refl

entries-said : (number : ℕ) (es : List JournalEntry) → AreNumbered number es → AllByRecursion IsInRange es → entries_from number (lines_of (entries_text es)) ≡ Good (map entry_read es)
entries-said number [] h k = none-said number
entries-said number (e ∷ es) h k =
    let behind = lines_of (entries_text es) in
    ap (λ (text : List ℕ). entries_from number (lines_of text)) (line-cut e (entries_text es))
    ∙ ap (entries_from number) (lines-next (line_in e) (entries_text es) (line-inline e k.0))
    ∙ next-said number (line_in e) behind (entry_read e) (map entry_read es)
    (more-than-end (decimal e.number) (decimal e.pass ++ 32 ∷ (event_text e.event ++ 32 ∷ (codes "-> " ++ (reply_text (reply_view e.reply) ++ [])))) behind)
    (subst (λ (n : ℕ). entry_of n (words_of (line_in e)) ≡ Some (entry_read e)) h.0 (entry-said e k.0))
    (entries-said (number + 1) es h.1 k.1)

-- what is written of a journal is read
pub journal-said : (es : List JournalEntry) → AreNumbered 1 es → AllByRecursion IsInRange es → journal_of (journal_text es) ≡ Good (map entry_read es)
journal-said es h k = entries-said 1 es h k
