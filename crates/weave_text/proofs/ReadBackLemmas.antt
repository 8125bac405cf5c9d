-- What is written of a schedule is read again.
use Rattle.std.proofs.Common.{◌≡◌, ℕ, suc, ◌+◌, ◌-◌, ◌<◌, ◌≤◌, ◌^◌, ◌==◌, ◌&&◌, not, nat_le, Bool, true, false, List, [], ◌∷◌, ◌++◌, map, length, codes, Option, Some, None, IfSome, Result, Ok, Err, if◌then◌else◌, refl, sym, ap, ◌∙◌, subst, arith}
use Rattle.std.specs.Char.{is_ascii_alphabetic, is_ascii_alphanumeric}
use Rattle.std.specs.List.{AllByRecursion, list_all, flat_map}
use Rattle.std.proofs.lemmas.Bool.{and_parts}
use Rattle.std.proofs.lemmas.Bool.Decides.{nat_tests}
use Rattle.std.proofs.lemmas.List.{append_assoc, append-nil}
use Rattle.std.proofs.lemmas.List.Concat.{flat_map-cons}
use Rattle.router_desk.specs.declared.config.Change.{Change}
use Rattle.router_desk.specs.declared.config.Change.TheVariants as change
use Rattle.journal_text.proofs.WordLemmas.{IsPlain, is_plain, IsInline, is_inline, inline-both, inline-plain, decimal-plain, prefix-plain, words-next, words-last}
use Rattle.std.specs.Option.{option_map}
use Rattle.std.specs.Prelude.{option_and_then, decimal, nat_lt}
use Rattle.isis_base.specs.PrefixTexts.{prefix_text}
use Rattle.line_cuts.specs.Fields.{prefix_of, on_of, on_text}
use Rattle.line_cuts.specs.Numerals.{number_to}
use Rattle.line_cuts.proofs.NumberTexts.{numeral_of-decimal, number_to-decimal, decimal-none}
use Rattle.line_cuts.proofs.PrefixTexts.{prefix_of-written}
use Rattle.line_cuts.specs.Words.{words_of}
use Rattle.network_lab.specs.Passed.{given}
use Rattle.model_network.specs.Networks.{Network}
use Rattle.model_network.specs.Runs as model
use Rattle.model_network.specs.Runs.{Happening, run}
use Rattle.model_network.proofs.LineLemmas.{run-append}
use Rattle.network_lab.specs.declared.event.LabEvent.{LabEvent}
use Rattle.network_lab.specs.declared.event.LabEvent.TheVariants as event
use Rattle.network_lab.specs.LabEvents.{happening_of}
use Rattle.network_lab.specs.LabNets.{Seen}
use Rattle.lab_script.specs.declared.deeds.LabDeed.{LabDeed}
use Rattle.lab_script.specs.declared.deeds.LabLine.{LabLine}
use Rattle.lab_script.specs.declared.reason.Reason.{Reason}
use Rattle.lab_script.specs.declared.reason.Reason.TheVariants.{Name, NotOn}
use Rattle.lab_script.specs.declared.reason.ScriptFault.{ScriptFault}
use Rattle.lab_script.specs.declared.script.Script.{Script}
use Rattle.lab_script.specs.declared.script.Script.TheVariants.{Lab}
use Rattle.lab_script.specs.Fields.{name_of, copy_of}
use Rattle.lab_script.specs.LabFields.{metric_of, prefix_metric_of}
use Rattle.lab_script.specs.LabJudged.{known, ◌then◌, router_at, link_at, circuit_at, where_known, with_form, with_words}
use Rattle.lab_script.specs.LabScripts.{LabScript, nothing_laid, router_names, link_names, place_at}
use Rattle.lab_script.specs.Printed.{IsName}
use Rattle.lab_script.specs.Scripts.{◌>>=◌, is_skipped, hear_words, hear_text, hear_lines, script_of_lines, script_of}
use Rattle.lab_text.specs.LabClaims.{events_of, lines_events, start_of, script_events}
use Rattle.lab_text.specs.Passed.{name_at}
use Rattle.weave.specs.Woven.{happenings_of}
use Rattle.weave_text.specs.Ahead.{script_text}
use Rattle.weave_text.specs.Lines.{text_of, IsUnbroken}
use Rattle.weave_text.specs.Named.{naming_in}
use Rattle.weave_text.specs.ReadBack.{IsNamed, HasRouter, HasCircuit, HasCircuitOf, HasChange, HasEvent, deed_of, lines_from, with_schedule}
use Rattle.weave_text.specs.Weavings.{script_in}
use Rattle.weave_text.specs.Written.{Naming, link_on, name_in, metric_word, event_words, change_words, behind_word, line_of_words, event_line, woven_text}
use Rattle.weave_text.proofs.AheadLemmas.{text-of_two}
use Rattle.weave_text.proofs.CutLemmas.{lines-of_text}

-- ---- words

letter-plain : (c : ℕ) → is_ascii_alphabetic c ≡ true → is_plain c ≡ true
letter-plain c h = grind (arith, nat_tests)

sign-plain : (c : ℕ) → is_ascii_alphanumeric c ≡ true → is_plain c ≡ true
sign-plain c h = grind (arith, nat_tests)

signs-plain : (word : List ℕ) → list_all is_ascii_alphanumeric word ≡ true → IsPlain word
signs-plain [] h = refl
signs-plain (c ∷ word) h =
    let p = and_parts (is_ascii_alphanumeric c) (list_all is_ascii_alphanumeric word) h in
    ap (λ (b : Bool). b && list_all is_plain word) (sign-plain c p.0) ∙ signs-plain word p.1

name-plain : (word : List ℕ) → IsName word → IsPlain word
name-plain [] h = refl
name-plain (c ∷ word) h =
    let both = and_parts (is_ascii_alphabetic c && nat_le (length word) 15) (list_all is_ascii_alphanumeric word) h in
    ap (λ (b : Bool). b && list_all is_plain word) (letter-plain c (and_parts (is_ascii_alphabetic c) (nat_le (length word) 15) both.0).0) ∙ signs-plain word both.1

-- words behind a blank each
abbrev behind : List (List ℕ) → List ℕ
behind [] = []
behind (word ∷ words) = 32 ∷ (word ++ behind words)

abbrev joined : List (List ℕ) → List ℕ
joined [] = []
joined (word ∷ words) = word ++ behind words

behind-is : (words : List (List ℕ)) → behind_word words ≡ behind words ++ 10 ∷ []
behind-is [] = refl
behind-is (word ∷ words) =
    ap (λ (t : List ℕ). 32 ∷ (word ++ t)) (behind-is words) ∙ ap (λ (t : List ℕ). 32 ∷ t) (sym (append_assoc word (behind words) (10 ∷ [])))

line-is : (words : List (List ℕ)) → line_of_words words ≡ joined words ++ 10 ∷ []
line-is [] = refl
line-is (word ∷ words) = ap (λ (t : List ℕ). word ++ t) (behind-is words) ∙ sym (append_assoc word (behind words) (10 ∷ []))

abbrev is_none : List (List ℕ) → Bool
is_none [] = true
is_none (word ∷ words) = false

words-cut : (words : List (List ℕ)) → is_none words ≡ false → AllByRecursion IsPlain words → words_of (joined words) ≡ words
words-cut [] some h = absurd (cc)
words-cut (word ∷ []) some h = ap words_of (append-nil word) ∙ words-last word h.0
words-cut (word ∷ next ∷ words) some h =
    words-next word (joined (next ∷ words)) h.0 ∙ ap (λ (ws : List (List ℕ)). word ∷ ws) (words-cut (next ∷ words) refl h.1)

behind-inline : (words : List (List ℕ)) → AllByRecursion IsPlain words → IsInline (behind words)
behind-inline [] h = refl
behind-inline (word ∷ words) h = inline-both word (behind words) (inline-plain word h.0) (behind-inline words h.1)

joined-inline : (words : List (List ℕ)) → AllByRecursion IsPlain words → IsInline (joined words)
joined-inline [] h = refl
joined-inline (word ∷ words) h = inline-both word (behind words) (inline-plain word h.0) (behind-inline words h.1)

not-true : (b : Bool) → not b ≡ true → b ≡ false
not-true true e = absurd (cc)
not-true false e = refl

unbroken : (text : List ℕ) → IsInline text → IsUnbroken text
unbroken [] h = tt
unbroken (c ∷ text) h =
    let p = and_parts (not (c == 10)) (list_all is_inline text) h in
    (not-true (c == 10) p.0, unbroken text p.1)

-- ---- the words of an event

abbrev names_of : LabScript → Naming
names_of b = naming_in (Lab b)

abbrev event_text : LabScript → Seen → LabEvent → List ℕ
event_text b s e = joined (event_words (names_of b) s e)

router-plain : (b : LabScript) (router : ℕ) → HasRouter b router → IsPlain (name_at (router_names b.routers) router)
router-plain b router h = name-plain (name_at (router_names b.routers) router) h.name

link-plain : (b : LabScript) (link : ℕ) → IsNamed (link_names b.links) link → IsPlain (name_at (link_names b.links) link)
link-plain b link h = name-plain (name_at (link_names b.links) link) h.name

on-plain : (b : LabScript) (s : Seen) (router circuit : ℕ) → HasCircuitOf b s router circuit → IsPlain (name_in (link_names b.links) (link_on s router circuit))
on-plain b s router circuit h =
    subst (λ (o : Option ℕ). IsPlain (name_in (link_names b.links) o)) (sym h.is) (link-plain b h.link h.has.link_named)

metric-plain : (metric : Option ℕ) → IfSome metric (λ m. m ≤ 4261412864) → IsPlain (metric_word metric)
metric-plain None h = refl
metric-plain (Some metric) h = decimal-plain metric (omega (arith, h))

on-off-plain : (on : Bool) → IsPlain (on_text on)
on-off-plain true = refl
on-off-plain false = refl

change-plain : (b : LabScript) (s : Seen) (router : ℕ) (c : Change) → HasChange b s router c → AllByRecursion IsPlain (change_words (names_of b) s router c)
change-plain b s router (change.Metric circuit metric) h =
    (refl, (router-plain b router h.0.has.router_named, (on-plain b s router circuit h.0, (decimal-plain metric (let m = h.1 in omega (arith, m)), tt))))
change-plain b s router (change.Prefix prefix metric) h =
    (refl, (router-plain b router h.0, (prefix-plain prefix h.1, (metric-plain metric h.2, tt))))
change-plain b s router (change.Overload on) h = (refl, (router-plain b router h, (on-off-plain on, tt)))

event-plain : (b : LabScript) (s : Seen) (e : LabEvent) → HasEvent b s e → AllByRecursion IsPlain (event_words (names_of b) s e)
event-plain b s (event.Tick router) h = (refl, (router-plain b router h, tt))
event-plain b s (event.Pull router link) h = (refl, (router-plain b router h.1.router_named, (link-plain b link h.1.link_named, tt)))
event-plain b s (event.Deliver datagram router) h = (refl, (decimal-plain datagram (let m = h.0 in omega (arith, m)), (router-plain b router h.1, tt)))
event-plain b s (event.Restart router) h = (refl, (router-plain b router h, tt))
event-plain b s (event.Change router c) h = change-plain b s router c h
event-plain b s (event.Inject router link octets) h = absurd h

change-some : (names : Naming) (s : Seen) (router : ℕ) (c : Change) → is_none (change_words names s router c) ≡ false
change-some names s router (change.Metric circuit metric) = refl
change-some names s router (change.Prefix prefix metric) = refl
change-some names s router (change.Overload on) = refl

some-words : (names : Naming) (s : Seen) (e : LabEvent) → is_none (event_words names s e) ≡ false
some-words names s (event.Tick router) = refl
some-words names s (event.Pull router link) = refl
some-words names s (event.Deliver datagram router) = refl
some-words names s (event.Restart router) = refl
some-words names s (event.Change router c) = change-some names s router c
some-words names s (event.Inject router link octets) = refl

change-heard : (names : Naming) (s : Seen) (router : ℕ) (c : Change) → is_skipped (joined (change_words names s router c)) ≡ false
change-heard names s router (change.Metric circuit metric) = refl
change-heard names s router (change.Prefix prefix metric) = refl
change-heard names s router (change.Overload on) = refl

not-skipped : (names : Naming) (s : Seen) (e : LabEvent) → is_skipped (joined (event_words names s e)) ≡ false
not-skipped names s (event.Tick router) = refl
not-skipped names s (event.Pull router link) = refl
not-skipped names s (event.Deliver datagram router) = refl
not-skipped names s (event.Restart router) = refl
not-skipped names s (event.Change router c) = change-heard names s router c
not-skipped names s (event.Inject router link octets) = refl

-- ---- what it names

router-found : (b : LabScript) (router : ℕ) → HasRouter b router → router_at b (name_at (router_names b.routers) router) ≡ Ok router
router-found b router h = ap (λ (o : Option ℕ). known o Name) h.found

link-found : (b : LabScript) (link : ℕ) → IsNamed (link_names b.links) link → link_at b (name_at (link_names b.links) link) ≡ Ok link
link-found b link h = ap (λ (o : Option ℕ). known o Name) h.found

bound : {A B : Type 0} (r : Result A Reason) (a : A) (f : A → Result B Reason) → r ≡ Ok a → (r then f) ≡ f a
bound r a f e = ap (λ x. x then f) e

circuit-found : (b : LabScript) (router link place : ℕ) → HasCircuit b router link place
    → circuit_at b (name_at (router_names b.routers) router) (name_at (link_names b.links) link) ≡ Ok (record { router = router; link = link; place = place })
circuit-found b router link place h =
    bound (router_at b (name_at (router_names b.routers) router)) router _ (router-found b router h.router_named)
    ∙ (bound (link_at b (name_at (link_names b.links) link)) link _ (link-found b link h.link_named)
    ∙ bound (known (place_at b.links link router) NotOn) place _ (ap (λ (o : Option ℕ). known o NotOn) h.on))

-- ---- fields

name-is : (word : List ℕ) → IsName word → name_of word ≡ Some word
name-is word h = ap (λ (t : Bool). if t then Some word else None) h

below : (n m : ℕ) → n < m → nat_lt n m ≡ true
below n m h = grind (arith, nat_tests)

copy-is : (n : ℕ) → n < 2 ^ 64 → copy_of (decimal n) ≡ Some n
copy-is n h =
    ap (λ (o : Option ℕ). option_map (λ k. if nat_lt k (2 ^ 64) then k else 0) o) (numeral_of-decimal n (omega (arith, h)))
    ∙ ap (λ (t : Bool). Some (if t then n else 0)) (below n (2 ^ 64) h)

metric-is : (n : ℕ) → n ≤ 16777215 → metric_of (decimal n) ≡ Some n
metric-is n h = number_to-decimal 16777215 n h (omega (arith, h))

prefix-metric-is : (metric : Option ℕ) → IfSome metric (λ m. m ≤ 4261412864) → prefix_metric_of (metric_word metric) ≡ Some metric
prefix-metric-is None h = refl
prefix-metric-is (Some metric) h =
    ap (λ (t : Bool). if t then Some None else option_map (λ m. Some m) (number_to 4261412864 (decimal metric))) (decimal-none metric (omega (arith, h)))
    ∙ ap (λ (o : Option ℕ). option_map (λ m. Some m) o) (number_to-decimal 4261412864 metric h (omega (arith, h)))

on-is : (on : Bool) → on_of (on_text on) ≡ Some on
on-is true = refl
on-is false = refl

-- ---- a line that is read

next : {X Y : Type 0} (read : Option Y → Result LabScript ScriptFault) (f : X → Option Y) (o : Option X) (x : X) → o ≡ Some x → read (option_and_then f o) ≡ read (f x)
next read f o x e = ap (λ p. read (option_and_then f p)) e

abbrev with_deed : LabScript → ℕ → LabDeed → LabScript
with_deed b number d = record b { lines = b.lines ++ record { line = number; deed = d } ∷ [] }

heard : {A : Type 0} (b : LabScript) (number : ℕ) (r : Result A Reason) (a : A) (f : A → Result LabDeed Reason) → r ≡ Ok a
    → where_known number (r then f) (λ told. Ok (with_deed b number told)) ≡ where_known number (f a) (λ told. Ok (with_deed b number told))
heard b number r a f e = ap (λ x. where_known number (x then f) (λ told. Ok (with_deed b number told))) e

change-read : (b : LabScript) (s : Seen) (number router : ℕ) (c : Change) → HasChange b s router c → with_words b number (change_words (names_of b) s router c) ≡ Ok (with_deed b number (deed_of (event.Change router c)))
change-read b s number router (change.Metric circuit metric) h =
    let name = name_at (router_names b.routers) router in
    let link = name_at (link_names b.links) h.0.link in
    ap (λ (o : Option ℕ). with_words b number (codes "metric" ∷ name ∷ name_in (link_names b.links) o ∷ decimal metric ∷ [])) h.0.is
    ∙ (next (with_form b number) _ (name_of name) name (name-is name h.0.has.router_named.name)
    ∙ (next (with_form b number) _ (name_of link) link (name-is link h.0.has.link_named.name)
    ∙ (next (with_form b number) _ (metric_of (decimal metric)) metric (metric-is metric h.1)
    ∙ heard b number (circuit_at b name link) _ _ (circuit-found b router h.0.link (circuit - 1) h.0.has))))
change-read b s number router (change.Prefix prefix metric) h =
    let name = name_at (router_names b.routers) router in
    next (with_form b number) _ (name_of name) name (name-is name h.0.name)
    ∙ (next (with_form b number) _ (prefix_of (prefix_text prefix.address prefix.length)) prefix (prefix_of-written prefix h.1)
    ∙ (next (with_form b number) _ (prefix_metric_of (metric_word metric)) metric (prefix-metric-is metric h.2)
    ∙ heard b number (router_at b name) router _ (router-found b router h.0)))
change-read b s number router (change.Overload on) h =
    let name = name_at (router_names b.routers) router in
    next (with_form b number) _ (name_of name) name (name-is name h.name)
    ∙ (next (with_form b number) _ (on_of (on_text on)) on (on-is on)
    ∙ heard b number (router_at b name) router _ (router-found b router h))

event-read : (b : LabScript) (s : Seen) (number : ℕ) (e : LabEvent) → HasEvent b s e → with_words b number (event_words (names_of b) s e) ≡ Ok (with_deed b number (deed_of e))
event-read b s number (event.Tick router) h =
    let name = name_at (router_names b.routers) router in
    next (with_form b number) _ (name_of name) name (name-is name h.name) ∙ heard b number (router_at b name) router _ (router-found b router h)
event-read b s number (event.Pull router link) h =
    let name = name_at (router_names b.routers) router in
    let on = name_at (link_names b.links) link in
    next (with_form b number) _ (name_of name) name (name-is name h.1.router_named.name)
    ∙ (next (with_form b number) _ (name_of on) on (name-is on h.1.link_named.name)
    ∙ heard b number (circuit_at b name on) _ _ (circuit-found b router link h.0 h.1))
event-read b s number (event.Deliver datagram router) h =
    let name = name_at (router_names b.routers) router in
    next (with_form b number) _ (copy_of (decimal datagram)) datagram (copy-is datagram h.0)
    ∙ (next (with_form b number) _ (name_of name) name (name-is name h.1.name)
    ∙ heard b number (router_at b name) router _ (router-found b router h.1))
event-read b s number (event.Restart router) h =
    let name = name_at (router_names b.routers) router in
    next (with_form b number) _ (name_of name) name (name-is name h.name) ∙ heard b number (router_at b name) router _ (router-found b router h)
event-read b s number (event.Change router c) h = change-read b s number router c h
event-read b s number (event.Inject router link octets) h = absurd h

-- ---- lines that are heard

event-heard : (b : LabScript) (s : Seen) (number : ℕ) (e : LabEvent) → HasEvent b s e → hear_text (Lab b) number (event_text b s e) ≡ Ok (Lab (with_deed b number (deed_of e)))
event-heard b s number e h =
    let words = event_words (names_of b) s e in
    ap (λ (t : Bool). if t then Ok (Lab b) else hear_words (Lab b) number (words_of (joined words))) (not-skipped (names_of b) s e)
    ∙ (ap (λ (ws : List (List ℕ)). hear_words (Lab b) number ws) (words-cut words (some-words (names_of b) s e) (event-plain b s e h))
    ∙ ap (λ (r : Result LabScript ScriptFault). r >>= (λ more. Ok (Lab more))) (event-read b s number e h))

-- what a script names, it names with other event lines
same-circuit : (b : LabScript) (lines : List LabLine) (router link place : ℕ) → HasCircuit b router link place → HasCircuit (record b { lines = lines }) router link place
same-circuit b lines router link place h = record { router_named = h.router_named; link_named = h.link_named; on = h.on }

same-change : (b : LabScript) (lines : List LabLine) (s : Seen) (router : ℕ) (c : Change) → HasChange b s router c → HasChange (record b { lines = lines }) s router c
same-change b lines s router (change.Metric circuit metric) h =
    (record { link = h.0.link; is = h.0.is; has = same-circuit b lines router h.0.link (circuit - 1) h.0.has }, h.1)
same-change b lines s router (change.Prefix prefix metric) h = h
same-change b lines s router (change.Overload on) h = h

same-event : (b : LabScript) (lines : List LabLine) (s : Seen) (e : LabEvent) → HasEvent b s e → HasEvent (record b { lines = lines }) s e
same-event b lines s (event.Tick router) h = h
same-event b lines s (event.Pull router link) h = (h.0, same-circuit b lines router link h.0 h.1)
same-event b lines s (event.Deliver datagram router) h = h
same-event b lines s (event.Restart router) h = h
same-event b lines s (event.Change router c) h = same-change b lines s router c h
same-event b lines s (event.Inject router link octets) h = absurd h

pub same-events : (es : List LabEvent) (b : LabScript) (lines : List LabLine) (s : Seen) → AllByRecursion (HasEvent b s) es → AllByRecursion (HasEvent (record b { lines = lines }) s) es
same-events [] b lines s h = tt
same-events (e ∷ es) b lines s h = (same-event b lines s e h.0, same-events es b lines s h.1)

all-heard : (es : List LabEvent) (b : LabScript) (s : Seen) (number : ℕ) → AllByRecursion (HasEvent b s) es
    → hear_lines (Lab b) number (map (event_text b s) es ++ [] ∷ []) ≡ Ok (Lab (with_schedule b number es))
unfolding hear_lines
all-heard [] b s number h = ap (λ ls. Ok (Lab (record b { lines = ls }))) (sym (append-nil b.lines))
all-heard (e ∷ es) b s number h =
    let next = record b { lines = b.lines ++ record { line = number; deed = deed_of e } ∷ [] } in
    ap (λ (r : Result Script ScriptFault). r >>= (λ more. hear_lines more (number + 1) (map (event_text b s) es ++ [] ∷ []))) (event-heard b s number e h.0)
    ∙ (all-heard es next s (number + 1) (same-events es b next.lines s h.1)
    ∙ ap (λ ls. Ok (Lab (record b { lines = ls }))) (append_assoc b.lines (record { line = number; deed = deed_of e } ∷ []) (lines_from (number + 1) es)))

plus-none : (n : ℕ) → n + 0 ≡ n
plus-none n = omega arith

plus-next : (n k : ℕ) → n + 1 + k ≡ n + suc k
plus-next n k = omega arith

pub hear-append : (so_far : Script) (number : ℕ) (xs ys : List (List ℕ)) → hear_lines so_far number (xs ++ ys) ≡ (hear_lines so_far number xs >>= λ more. hear_lines more (number + length xs) ys)
unfolding hear_lines
hear-append so_far number [] ys = ap (λ (n : ℕ). hear_lines so_far n ys) (sym (plus-none number))
hear-append so_far number (x ∷ xs) ys = by (hear_text so_far number x) (λ more. hear-append more (number + 1) xs ys)
  where
    by : (r : Result Script ScriptFault) → ((more : Script) → hear_lines more (number + 1) (xs ++ ys) ≡ (hear_lines more (number + 1) xs >>= λ last. hear_lines last (number + 1 + length xs) ys))
        → (r >>= λ more. hear_lines more (number + 1) (xs ++ ys)) ≡ ((r >>= λ more. hear_lines more (number + 1) xs) >>= λ more. hear_lines more (number + suc (length xs)) ys)
    by (Ok more) rest =
        rest more ∙ ap (λ (n : ℕ). hear_lines more (number + 1) xs >>= λ last. hear_lines last n ys) (plus-next number (length xs))
    by (Err fault) rest = refl

-- ---- the whole text

schedule-text : (b : LabScript) (s : Seen) (es : List LabEvent) → flat_map (event_line (names_of b) s) es ≡ text_of (map (event_text b s) es)
unfolding event_line
schedule-text b s [] = refl
schedule-text b s (e ∷ es) =
    let rest = flat_map (event_line (names_of b) s) es in
    flat_map-cons (event_line (names_of b) s) e es
    ∙ (ap (λ (t : List ℕ). t ++ rest) (line-is (event_words (names_of b) s e))
    ∙ (append_assoc (event_text b s e) (10 ∷ []) rest
    ∙ ap (λ (t : List ℕ). event_text b s e ++ 10 ∷ t) (schedule-text b s es)))

whole-text : (told : List (List ℕ)) (b : LabScript) (s : Seen) (es : List LabEvent) → woven_text told (names_of b) s es ≡ script_text (told ++ map (event_text b s) es)
unfolding woven_text
whole-text told b s es =
    append_assoc (codes "isis-lab 1\n") (text_of told) (flat_map (event_line (names_of b) s) es)
    ∙ ap (λ (t : List ℕ). codes "isis-lab 1\n" ++ t) (ap (λ (t : List ℕ). text_of told ++ t) (schedule-text b s es) ∙ sym (text-of_two told (map (event_text b s) es)))

all-both : (xs ys : List (List ℕ)) → AllByRecursion IsUnbroken xs → AllByRecursion IsUnbroken ys → AllByRecursion IsUnbroken (xs ++ ys)
all-both [] ys h k = k
all-both (x ∷ xs) ys h k = (h.0, all-both xs ys h.1 k)

events-unbroken : (b : LabScript) (s : Seen) (es : List LabEvent) → AllByRecursion (HasEvent b s) es → AllByRecursion IsUnbroken (map (event_text b s) es)
events-unbroken b s [] h = tt
events-unbroken b s (e ∷ es) h = (unbroken (event_text b s e) (joined-inline (event_words (names_of b) s e) (event-plain b s e h.0)), events-unbroken b s es h.1)

pub script-lines : (lines : List (List ℕ)) → AllByRecursion IsUnbroken lines → script_in lines ≡ hear_lines (Lab nothing_laid) 2 (lines ++ [] ∷ [])
script-lines lines h = ap script_of_lines (lines-of_text (codes "isis-lab 1" ∷ lines) (unbroken (codes "isis-lab 1") refl, h))

pub last-empty : (r : Result Script ScriptFault) (number : ℕ) → (r >>= λ more. hear_lines more number ([] ∷ [])) ≡ r
unfolding hear_lines
last-empty (Ok more) number = refl
last-empty (Err fault) number = refl

pub written-read : (told : List (List ℕ)) (base : LabScript) (s : Seen) (schedule : List LabEvent) → AllByRecursion IsUnbroken told → script_in told ≡ Ok (Lab base) → AllByRecursion (HasEvent base s) schedule
    → script_of (woven_text told (naming_in (Lab base)) s schedule) ≡ Ok (Lab (with_schedule base (2 + length told) schedule))
written-read told base s schedule whole read has =
    let events = map (event_text base s) schedule in
    let base_is : hear_lines (Lab nothing_laid) 2 told ≡ Ok (Lab base) =
    sym (last-empty (hear_lines (Lab nothing_laid) 2 told) (2 + length told))
    ∙ (sym (hear-append (Lab nothing_laid) 2 told ([] ∷ [])) ∙ (sym (script-lines told whole) ∙ read)) in
    ap script_of (whole-text told base s schedule)
    ∙ (script-lines (told ++ events) (all-both told events whole (events-unbroken base s schedule has))
    ∙ (ap (λ (ls : List (List ℕ)). hear_lines (Lab nothing_laid) 2 ls) (append_assoc told events ([] ∷ []))
    ∙ (hear-append (Lab nothing_laid) 2 told (events ++ [] ∷ [])
    ∙ (ap (λ (r : Result Script ScriptFault). r >>= λ more. hear_lines more (2 + length told) (events ++ [] ∷ [])) base_is
    ∙ all-heard schedule base s (2 + length told) has))))

-- ---- the events of what is read

one-less : (c : ℕ) → c - 1 + 1 - 1 ≡ c - 1
one-less c = omega arith

change-happens : (net : Network) (router : ℕ) (c : Change) → events_of net (deed_of (event.Change router c)) ≡ happening_of (event.Change router c) ∷ []
change-happens net router (change.Metric circuit metric) = ap (λ (place : ℕ). model.SetMetric router place metric ∷ []) (one-less circuit)
change-happens net router (change.Prefix prefix metric) = refl
change-happens net router (change.Overload on) = refl

event-happens : (net : Network) (e : LabEvent) → events_of net (deed_of e) ≡ happening_of e ∷ []
event-happens net (event.Tick router) = refl
event-happens net (event.Pull router link) = refl
event-happens net (event.Deliver datagram router) = refl
event-happens net (event.Restart router) = refl
event-happens net (event.Change router c) = change-happens net router c
event-happens net (event.Inject router link octets) = refl

schedule-happens : (es : List LabEvent) (number : ℕ) (net : Network) → lines_events net (lines_from number es) ≡ happenings_of es
schedule-happens [] number net = refl
schedule-happens (e ∷ es) number net =
    ap (λ (events : List Happening). events ++ lines_events (run given net events) (lines_from (number + 1) es)) (event-happens net e)
    ∙ ap (λ (events : List Happening). happening_of e ∷ events) (schedule-happens es (number + 1) (run given net (happening_of e ∷ [])))

lines-append : (xs ys : List LabLine) (net : Network) → lines_events net (xs ++ ys) ≡ lines_events net xs ++ lines_events (run given net (lines_events net xs)) ys
lines-append [] ys net = refl
lines-append (x ∷ xs) ys net =
    let events = events_of net x.deed in
    let more = lines_events (run given net events) xs in
    ap (λ (t : List Happening). events ++ t) (lines-append xs ys (run given net events))
    ∙ (sym (append_assoc events more (lines_events (run given (run given net events) more) ys))
    ∙ ap (λ (m : Network). (events ++ more) ++ lines_events m ys) (sym (run-append given net events more)))

pub written-start : (base : LabScript) (number : ℕ) (schedule : List LabEvent) → start_of (with_schedule base number schedule) ≡ start_of base
written-start base number schedule = refl

pub written-events : (base : LabScript) (number : ℕ) (schedule : List LabEvent) → script_events (with_schedule base number schedule) ≡ script_events base ++ happenings_of schedule
unfolding script_events
written-events base number schedule =
    let start = start_of base in
    lines-append base.lines (lines_from number schedule) start
    ∙ ap (λ (t : List Happening). lines_events start base.lines ++ t) (schedule-happens schedule number (run given start (lines_events start base.lines)))
