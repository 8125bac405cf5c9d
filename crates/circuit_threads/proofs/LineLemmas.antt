-- The text of a line, put together from its parts.
use Rattle.std.proofs.Common.{◌≡◌, ℕ, zero, suc, ◌+◌, ◌-◌, ◌≤◌, List, [], ◌∷◌, ◌++◌, length, take, drop, slice_get, Some, codes, decimal, flat_map, refl, sym, ap, ◌∙◌, arith, append_assoc, append-nil}
use Rattle.std.proofs.lemmas.Grind.{flat_map-append}
use Rattle.std.proofs.lemmas.List.{take-append-drop, take_rest}
use Rattle.isis_base.specs.Texts.{hex_pair}
use Rattle.circuit_threads.specs.declared.line.Stage.{Stage}
use Rattle.circuit_threads.specs.declared.line.Stage.TheVariants.{Datagrams}
use Rattle.circuit_threads.specs.declared.line.LineRest.{LineRest}
use Rattle.model_router.specs.declared.drop_name.DropName.{DropName}
use Rattle.model_router.specs.declared.drop_name.DropName.TheVariants as drop
use Rattle.model_router.specs.Drops.{drop_word}
use Rattle.router_core.specs.declared.event.NodeEvent.{NodeEvent}
use Rattle.router_core.specs.declared.event.NodeEvent.TheVariants as event
use Rattle.router_core.specs.declared.reply.Reply.{Reply}
use Rattle.router_core.specs.declared.reply.Reply.TheVariants as reply
use Rattle.circuit_threads.specs.declared.entry.JournalEntry.{JournalEntry}
use Rattle.circuit_threads.specs.History.{reply_view}
use Rattle.circuit_threads.specs.JournalText.{hex_text, datagram_text, event_text, reply_text, line_text, entry_text}
use Rattle.circuit_threads.specs.LineRests.{event_front, taken_octets, reply_front, datagrams_from, front_text, middle_on, text_from, rest_of}

pub word-short : (name : DropName) → length (drop_word name) ≤ 20
word-short drop.Frame = omega arith
word-short drop.Version = omega arith
word-short drop.Pdu = omega arith
word-short drop.TooLong = omega arith
word-short drop.WrongKind = omega arith
word-short drop.WrongLevel = omega arith
word-short drop.Auth = omega arith
word-short drop.Value = omega arith
word-short drop.ZeroNumber = omega arith
word-short drop.BadChecksum = omega arith
word-short drop.OwnId = omega arith
word-short drop.OtherSnpa = omega arith
word-short drop.OldBoot = omega arith
word-short drop.NoLevel = omega arith
word-short drop.NoArea = omega arith
word-short drop.NoThreeWay = omega arith
word-short drop.OtherNeighbour = omega arith
word-short drop.TooMany = omega arith
word-short drop.NoAdjacency = omega arith
word-short drop.NotDesignated = omega arith
word-short drop.StoreFull = omega arith

event-parts : (ev : NodeEvent) (rest : List ℕ) → event_front ev ++ (hex_text (taken_octets ev) ++ rest) ≡ event_text ev ++ rest
event-parts event.Second rest = refl
event-parts (event.Take opened) rest =
    let c = decimal opened.circuit in let h = hex_text opened.octets in
    ap (λ (xs : List ℕ). codes "take " ++ xs) (append_assoc c (codes " ") (h ++ rest) ∙ sym (append_assoc c (codes " " ++ h) rest))
event-parts (event.Pull circuit) rest = refl
event-parts (event.Change changed) rest = refl

reply-parts : (r : Reply) → reply_front r ++ datagrams_from r 0 ≡ codes " -> " ++ (reply_text (reply_view r) ++ codes "\n")
reply-parts reply.Done = refl
reply-parts (reply.Dropped cause) = append-nil (reply_front (reply.Dropped cause))
reply-parts (reply.Send datagrams) = refl

pub line-parts : (e : JournalEntry) → front_text e ++ (hex_text (taken_octets e.event) ++ middle_on e) ≡ entry_text e
unfolding front_text line_text
line-parts e =
    let n = decimal e.number in let p = decimal e.pass in let f = event_front e.event in
    let rest = hex_text (taken_octets e.event) ++ middle_on e in
    append_assoc n (codes " " ++ (p ++ (codes " " ++ f))) rest
    ∙ ap (λ (xs : List ℕ). n ++ (codes " " ++ xs)) (append_assoc p (codes " " ++ f) rest
    ∙ ap (λ (xs : List ℕ). p ++ (codes " " ++ xs)) (event-parts e.event (middle_on e) ∙ ap (λ (xs : List ℕ). event_text e.event ++ xs) (reply-parts e.reply)))

-- what is added in two and in three steps
pub text-two : (old mid new one two : List ℕ) → mid ≡ old ++ one → new ≡ mid ++ two → new ≡ old ++ (one ++ two)
text-two old mid new one two e f = f ∙ (ap (λ (xs : List ℕ). xs ++ two) e ∙ append_assoc old one two)

pub text-three : (old mid late new one two three : List ℕ) → mid ≡ old ++ one → late ≡ mid ++ two → new ≡ late ++ three → new ≡ old ++ (one ++ (two ++ three))
text-three old mid late new one two three e f g = text-two old mid new one (two ++ three) e (text-two mid late new two three f g)

-- ---- what is still to come

pub octets-parts : (old new octets text : List ℕ) (n : ℕ) → new ≡ old ++ hex_text (take n octets) → new ++ (hex_text (take (length octets - n) (drop n octets)) ++ text) ≡ old ++ (hex_text octets ++ text)
octets-parts old new octets text n e =
    let front = hex_text (take n octets) in let back = hex_text (drop n octets) in
    let all : front ++ back ≡ hex_text octets = sym (flat_map-append hex_pair (take n octets) (drop n octets)) ∙ ap hex_text (take-append-drop n octets) in
    ap (λ (xs : List ℕ). new ++ (hex_text xs ++ text)) (take_rest octets n)
    ∙ (ap (λ (xs : List ℕ). xs ++ (back ++ text)) e
    ∙ (append_assoc old front (back ++ text)
    ∙ ap (λ (xs : List ℕ). old ++ xs) (sym (append_assoc front back text) ∙ ap (λ (xs : List ℕ). xs ++ text) all)))

drop-at : {A : Type 0} (xs : List A) (n : ℕ) (x : A) → slice_get xs n ≡ Some x → drop n xs ≡ x ∷ drop (n + 1) xs
drop-at [] n x e = absurd (cc e)
drop-at (y ∷ xs) zero x e = ap (λ z. z ∷ xs) (same e)
  where
    same : Some y ≡ Some x → y ≡ x
    same e = cc e
drop-at (y ∷ xs) (suc n) x e = let k : suc (n + 1) ≡ suc n + 1 = omega arith in drop-at xs n x e ∙ ap (λ (m : ℕ). x ∷ drop m (y ∷ xs)) k

pub datagram-parts : (ds : List (List ℕ)) (n : ℕ) (d old new : List ℕ) → slice_get ds n ≡ Some d → new ≡ old ++ codes " "
    → new ++ (hex_text d ++ (flat_map datagram_text (drop (n + 1) ds) ++ codes "\n")) ≡ old ++ (flat_map datagram_text (drop n ds) ++ codes "\n")
datagram-parts ds n d old new at e =
    let rest = flat_map datagram_text (drop (n + 1) ds) in let end = codes "\n" in let h = hex_text d in
    ap (λ (xs : List ℕ). xs ++ (h ++ (rest ++ end))) e
    ∙ (append_assoc old (codes " ") (h ++ (rest ++ end))
    ∙ ap (λ (xs : List ℕ). old ++ xs) (ap (λ (xs : List ℕ). codes " " ++ xs) (sym (append_assoc h rest end)) ∙ ap (λ (ys : List (List ℕ)). flat_map datagram_text ys ++ end) (sym (drop-at ds n d at))))

pub end-parts : (ds : List (List ℕ)) (n : ℕ) (old new : List ℕ) → length ds ≤ n → new ≡ old ++ codes "\n" → new ++ [] ≡ old ++ (flat_map datagram_text (drop n ds) ++ codes "\n")
end-parts ds n old new over e =
    append-nil new ∙ (e ∙ ap (λ (ys : List (List ℕ)). old ++ (flat_map datagram_text ys ++ codes "\n")) (sym (drop-over ds n over)))
  where
    drop-over : (xs : List (List ℕ)) (n : ℕ) → length xs ≤ n → drop n xs ≡ []
    drop-over [] zero l = refl
    drop-over [] (suc n) l = refl
    drop-over (x ∷ xs) zero l = absurd (omega (arith, l))
    drop-over (x ∷ xs) (suc n) l = drop-over xs n (omega (arith, l))

-- behind the octets of an entry with these datagrams
pub rest-at : (l : LineRest) (ds : List (List ℕ)) (n : ℕ) → l.octets.now ≡ [] → l.stage ≡ Datagrams n → l.entry.now.reply ≡ reply.Send ds → rest_of l ≡ flat_map datagram_text (drop n ds) ++ codes "\n"
rest-at l ds n none stage send =
    ap (λ (xs : List ℕ). hex_text xs ++ text_from l.entry.now l.stage) none
    ∙ (ap (λ (s : Stage). text_from l.entry.now s) stage ∙ ap (λ (r : Reply). datagrams_from r n) send)
