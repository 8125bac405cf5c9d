-- What a router hears in a datagram are the ranges that it takes of it.
use Rattle.std.proofs.Common.{◌≡◌, ℕ, ◌+◌, ◌-◌, ◌<◌, ◌≤◌, ◌==◌, ◌&&◌, ◌||◌, not, is_none, Bool, true, false, List, [], ◌∷◌, length, Option, Some, None, Result, Ok, Err, IfSome, IfOk, if◌then◌else◌, refl, sym, ap, ◌∙◌, subst, arith}
use Rattle.std.specs.Option.{option_map}
use Rattle.std.specs.Prelude.{IsSomeAnd}
use Rattle.std.proofs.lemmas.Option.{slice_get-map}
use Rattle.isis_base.specs.declared.level.Level.{Level}
use Rattle.isis_base.specs.declared.level.Level.TheVariants as level
use Rattle.isis_base.specs.declared.level.CircuitKind.{CircuitKind}
use Rattle.isis_base.specs.Identifiers.{lsp_number}
use Rattle.isis_pdu.specs.Layout.{kind_of}
use Rattle.model_router.specs.declared.drop_name.DropName.{DropName}
use Rattle.model_router.specs.Both.{Both, at}
use Rattle.model_router.specs.Cells.{Cell}
use Rattle.model_router.specs.Places.{nth}
use Rattle.model_router.specs.SnpTable.{SnpEntry, is_missed}
use Rattle.model_router.specs.Configs.{Config}
use Rattle.model_router.specs.Routers.{Circuit, Router, book_of}
use Rattle.model_router.specs.Events.{Envelope, Message, Refused, PointHelloHeard, LanHelloHeard, LspHeard, SnpHeard, Take, Reply}
use Rattle.model_router.specs.Receiving.{drop_of, take_or_drop, take}
use Rattle.model_router.specs.Steps.{step}
use Rattle.model_datagram.specs.Reading.{read}
use Rattle.flag_sync.specs.Marks.{any_cell}
use Rattle.router_desk.specs.declared.desk_circuit.DeskCircuit.{DeskCircuit}
use Rattle.router_desk.specs.Desks as kind
use Rattle.router_desk.specs.Desks.{DeskView, circuit_at, desk_of}
use Rattle.router_desk.specs.Table.{tests_of, AllHold, is_run}
use Rattle.router_desk.specs.Opening.{SeenView, OpenedView, seen_at, message_of}
use Rattle.router_core.specs.Givens.{given}
use Rattle.router_core.specs.Events.{IsThere}
use Rattle.model_network.specs.Networks.{Datagram, octets_of, Taking}
use Rattle.model_network.specs.Runs.{read_on, taking, ranges_in}
use Rattle.model_network.specs.Takings.{misses_any, taking_of, heard_range, ranges_of}
use Rattle.network_lab.specs.declared.sent.SentDatagram.{SentDatagram}
use Rattle.network_lab.specs.declared.heard_range.CsnpRange.{CsnpRange}
use Rattle.network_lab.specs.declared.heard_range.HeardRange.{HeardRange}
use Rattle.network_lab.specs.LabNets.{counts_in, sent_of}
use Rattle.network_lab.specs.LabTakings.{is_taken, kept_ranges, IsHeard}
use Rattle.network_lab.specs.Hearing.{range_view, is_unflagged, unflagged_range, count_of, at_moment}
use Rattle.network_lab.proofs.PlaceLemmas.{some-same, nth-there, nth-slice_get, of-place, to-place}

-- ---- whether a sequence number PDU is dropped

snp-taken : (r : Router) (place : ℕ) (c : Circuit) (l : Level) (from : Envelope) (source : ℕ) (range : Option (ℕ × ℕ)) (entries : List SnpEntry) → nth r.circuits place ≡ Some c
    → is_taken (step given r (Take place (SnpHeard l from source range entries))).reply ≡ is_none (drop_of r place c (SnpHeard l from source range entries))
unfolding step
snp-taken r place c l from source range entries e =
    ap (λ (o : Option Circuit). is_taken (take given r place (SnpHeard l from source range entries) o).reply) e ∙ by (drop_of r place c (SnpHeard l from source range entries))
  where
    by : (o : Option DropName) → is_taken (take_or_drop given r place c (SnpHeard l from source range entries) o).reply ≡ is_none o
    by None = refl
    by (Some cause) = refl

-- so of every message that is one
abbrev Told : Router → ℕ → Circuit → Message → Reply → Type 0
Told r place c (Refused cause) reply = Unit {0}
Told r place c (PointHelloHeard h) reply = Unit {0}
Told r place c (LanHelloHeard l h) reply = Unit {0}
Told r place c (LspHeard l from h) reply = Unit {0}
Told r place c (SnpHeard l from source range entries) reply = is_taken reply ≡ is_none (drop_of r place c (SnpHeard l from source range entries))

told : (r : Router) (place : ℕ) (c : Circuit) (m : Message) → nth r.circuits place ≡ Some c → Told r place c m (step given r (Take place m)).reply
told r place c (Refused cause) e = tt
told r place c (PointHelloHeard h) e = tt
told r place c (LanHelloHeard l h) e = tt
told r place c (LspHeard l from h) e = tt
told r place c (SnpHeard l from source range entries) e = snp-taken r place c l from source range entries e

-- ---- a range with its moment

count-at : (b : Both ℕ) (l : Level) → count_of (counts_in b) l ≡ at b l
count-at b level.One = refl
count-at b level.Two = refl

-- what is kept of a range, by its numbers
kept-by : ℕ → Router → Router → Datagram → Reply → Level × (ℕ × ℕ) → List Taking
kept-by i r now x reply p =
    if is_taken reply && (book_of now p.0).changes == (book_of r p.0).changes
    then taking_of i r x p.0 p.1 ∷ [] else []

some-kept : (i : ℕ) (r now : Router) (x : Datagram) (reply : Reply) (y : CsnpRange)
    → kept_ranges (at_moment i r (sent_of x) (Some y)) (record { router = now; reply = reply }) ≡ kept-by i r now x reply (y.level, (lsp_number y.first, lsp_number y.last))
unfolding kept-by
some-kept i r now x reply y =
    ap (λ (k : ℕ). if is_taken reply && (book_of now y.level).changes == (book_of r y.level).changes
    then (record {
      member = i;
      boot = r.boot;
      changes = (book_of r y.level).changes;
      link = x.link;
      level = y.level;
      sender = x.sender;
      sent_boot = x.boot;
      sent_changes = k;
      first = lsp_number y.first;
      last = lsp_number y.last;
    }) ∷ [] else []) (count-at x.changes y.level)

none-range : (range : Option CsnpRange) → range_view range ≡ None → range ≡ None
none-range None e = refl
none-range (Some y) e = absurd (cc)

none-kept : (i : ℕ) (r now : Router) (x : Datagram) (reply : Reply) (range : Option CsnpRange) → range_view range ≡ None
    → [] ≡ kept_ranges (at_moment i r (sent_of x) range) (record { router = now; reply = reply })
none-kept i r now x reply range e = ap (λ (o : Option CsnpRange). kept_ranges (at_moment i r (sent_of x) o) (record { router = now; reply = reply })) (sym (none-range range e))

-- ---- what is heard of a message is what is taken of it

heard-is : (i : ℕ) (r now : Router) (place : ℕ) (c : Circuit) (x : Datagram) (m : Message) (reply : Reply) (range : Option CsnpRange) → range_view range ≡ unflagged_range r c m → Told r place c m reply
    → heard_range i r now place c x m ≡ kept_ranges (at_moment i r (sent_of x) range) (record { router = now; reply = reply })
unfolding kept-by
heard-is i r now place c x (Refused cause) reply range e t = none-kept i r now x reply range e
heard-is i r now place c x (PointHelloHeard h) reply range e t = none-kept i r now x reply range e
heard-is i r now place c x (LanHelloHeard l h) reply range e t = none-kept i r now x reply range e
heard-is i r now place c x (LspHeard l from h) reply range e t = none-kept i r now x reply range e
heard-is i r now place c x (SnpHeard l from source None entries) reply range e t = none-kept i r now x reply range e
heard-is i r now place c x (SnpHeard l from source (Some w) entries) reply range e t = by c.lan (is_unflagged (book_of r l) w.0 w.1 entries) range e
  where
    n : Bool
    n = is_none (drop_of r place c (SnpHeard l from source (Some w) entries))

    same : Bool
    same = (book_of now l).changes == (book_of r l).changes

    none : (b : Bool) → (if b && (false && same) then taking_of i r x l w ∷ [] else []) ≡ []
    none true = refl
    none false = refl

    by : (a u : Bool) (range : Option CsnpRange) → range_view range ≡ (if a && u then Some (l, w) else None)
        → (if (a && n) && (u && same) then taking_of i r x l w ∷ [] else []) ≡ kept_ranges (at_moment i r (sent_of x) range) (record { router = now; reply = reply })
    by false u range e = none-kept i r now x reply range e
    by true false range e = none n ∙ none-kept i r now x reply range e
    by true true None e = absurd (cc)
    by true true (Some y) e =
        ap (λ (b : Bool). if b && same then taking_of i r x l w ∷ [] else []) (sym t)
        ∙ (whole ∙ (ap (kept-by i r now x reply) (sym (some-same (y.level, (lsp_number y.first, lsp_number y.last)) (l, w) e)) ∙ sym (some-kept i r now x reply y)))
      where
        whole : (if is_taken reply && same then taking_of i r x l w ∷ [] else []) ≡ kept-by i r now x reply (l, w)
        whole = refl

one-heard : (i place : ℕ) (r : Router) (c : Circuit) (range : Option CsnpRange) (x : Datagram) → nth r.circuits place ≡ Some c → range_view range ≡ unflagged_range r c (read r.config c (octets_of x))
    → ranges_in given i r place x ≡ kept_ranges (at_moment i r (sent_of x) range) (step given r (taking r place (octets_of x)))
unfolding ranges_of
one-heard i place r c range x at e =
    let m = read r.config c (octets_of x) in
    ap (λ (o : Option Circuit). ranges_of i r (step given r (Take place (read_on r o (octets_of x)))).router place o x (read_on r o (octets_of x))) at
    ∙ (heard-is i r (step given r (Take place m)).router place c x m (step given r (Take place m)).reply range e (told r place c m at)
    ∙ sym (ap (λ (o : Option Circuit). kept_ranges (at_moment i r (sent_of x) range) (step given r (Take place (read_on r o (octets_of x))))) at))

hears : (i place : ℕ) (r : Router) (c : Circuit) (d : SentDatagram) (range : Option CsnpRange) → nth r.circuits place ≡ Some c → range_view range ≡ unflagged_range r c (read r.config c d.octets) → IsHeard i place r d (at_moment i r d range)
hears i place r c d range at e = record {
  each = λ x same. subst (λ (d : SentDatagram). range_view range ≡ unflagged_range r c (read r.config c d.octets) → ranges_in given i r place x ≡ kept_ranges (at_moment i r d range) (step given r (taking r place d.octets))) same (one-heard i place r c range x at) e;
}

-- ---- an opened datagram

abbrev Law : Type 0
Law = (config : Config) (circuits : List Circuit) (place : ℕ) (c : Circuit) (datagram : List ℕ) → nth circuits place ≡ Some c
    → message_of config.system (seen_at (desk_of config circuits) (place + 1) datagram) ≡ read config c datagram

message-is : Law → (r : Router) (circuit : ℕ) (c : Circuit) (opened : OpenedView) (octets : List ℕ) → 1 ≤ circuit → nth r.circuits (circuit - 1) ≡ Some c → opened.seen ≡ seen_at (desk_of r.config r.circuits) circuit octets
    → message_of r.config.system opened.seen ≡ read r.config c octets
message-is law r circuit c opened octets h at e =
    let back : circuit ≡ circuit - 1 + 1 = omega (arith, h) in
    ap (message_of r.config.system) (e ∙ ap (λ (k : ℕ). seen_at (desk_of r.config r.circuits) k octets) back) ∙ law r.config r.circuits (circuit - 1) c octets at

pub heard-by : Law → (i circuit : ℕ) (r : Router) (d : SentDatagram) (desk : DeskView) (opened : OpenedView) (octets : List ℕ) (range : Option CsnpRange) (heard : Option HeardRange) → IsThere r circuit → desk ≡ desk_of r.config r.circuits → octets ≡ d.octets
    → opened.circuit ≡ circuit → opened.seen ≡ seen_at desk circuit octets → IfSome (nth r.circuits (opened.circuit - 1)) (λ c. range_view range ≡ unflagged_range r c (message_of r.config.system opened.seen))
    → heard ≡ at_moment i r d range → IsHeard i (circuit - 1) r d heard
heard-by law i circuit r d desk opened octets range heard there is same on seen h e =
    subst (λ (x : Option HeardRange). IsHeard i (circuit - 1) r d x) (sym e) (hears i (circuit - 1) r found.0 d range found.1 (told_range ∙ ap (unflagged_range r found.0) (message-is law r circuit found.0 opened d.octets there.0 found.1 (seen ∙ (ap (λ (x : DeskView). seen_at x circuit octets) is ∙ ap (seen_at (desk_of r.config r.circuits) circuit) same)))))
  where
    inside : circuit - 1 < length r.circuits
    inside = let a = there.0 in let b = there.1 in omega (arith, a, b)

    found : (c : Circuit) × (nth r.circuits (circuit - 1) ≡ Some c)
    found = nth-there r.circuits (circuit - 1) inside

    told_range : range_view range ≡ unflagged_range r found.0 (message_of r.config.system opened.seen)
    told_range = of-place (λ c. range_view range ≡ unflagged_range r c (message_of r.config.system opened.seen)) (nth r.circuits (opened.circuit - 1)) found.0 (ap (λ (k : ℕ). nth r.circuits (k - 1)) on ∙ found.1) h

-- ---- what isn't heard

pub not-lan : (r : Router) (c : Circuit) (m : Message) → c.lan ≡ false → None ≡ unflagged_range r c m
not-lan r c (Refused cause) e = refl
not-lan r c (PointHelloHeard h) e = refl
not-lan r c (LanHelloHeard l h) e = refl
not-lan r c (LspHeard l from h) e = refl
not-lan r c (SnpHeard l from source None entries) e = refl
not-lan r c (SnpHeard l from source (Some w) entries) e = ap (λ (b : Bool). if b && is_unflagged (book_of r l) w.0 w.1 entries then Some (l, w) else None) (sym e)

lan-kind : (lan : Bool) → kind.is_lan (kind.kind_of_circuit lan) ≡ lan
lan-kind true = refl
lan-kind false = refl

-- whether the circuit of a number is a LAN, by the router's desk
pub lan-at : (r : Router) (circuit : ℕ) (c : Circuit) (desk : DeskView) (found : CircuitKind) (b : Bool) → nth r.circuits (circuit - 1) ≡ Some c → desk ≡ desk_of r.config r.circuits → option_map (λ (c : DeskCircuit). c.kind) (circuit_at desk circuit) ≡ Some found → b ≡ kind.is_lan found
    → b ≡ c.lan
lan-at r circuit c desk found b at d k p =
    p ∙ (ap kind.is_lan (sym (some-same (kind.kind_of_circuit c.lan) found (sym (ap (option_map (λ (c : DeskCircuit). c.kind)) shown) ∙ k))) ∙ lan-kind c.lan)
  where
    shown : circuit_at desk circuit ≡ Some (kind.desk_circuit c)
    shown = ap (λ (d : DeskView). circuit_at d circuit) d ∙ (slice_get-map kind.desk_circuit r.circuits (circuit - 1) ∙ ap (option_map kind.desk_circuit) (nth-slice_get r.circuits (circuit - 1) ∙ at))

-- the level of a PDU that passed the tests is run
pub level-run : (desk : DeskView) (number : ℕ) (view : SeenView) → IsSomeAnd (circuit_at desk number) (λ c. AllHold (tests_of desk c view.pdu view.octets)) → is_run desk.runs (kind_of view.pdu) ≡ true
level-run desk number view h = by (circuit_at desk number) h
  where
    by : (o : Option DeskCircuit) → IsSomeAnd o (λ c. AllHold (tests_of desk c view.pdu view.octets)) → is_run desk.runs (kind_of view.pdu) ≡ true
    by None h = absurd h
    by (Some c) h = h.1.1.0

-- what is heard of a PDU on a LAN, by the datagram that was opened
pub pdu-heard : {E : Type 0} (res : Result (Option CsnpRange) E) (r : Router) (place : ℕ) (m w : Message) → m ≡ w → ((c : Circuit) → nth r.circuits place ≡ Some c → c.lan ≡ true)
    → IfOk res (λ range. (c : Circuit) → c.lan ≡ true → range_view range ≡ unflagged_range r c w) → IfOk res (λ range. IfSome (nth r.circuits place) (λ c. range_view range ≡ unflagged_range r c m))
pdu-heard (Err e) r place m w same lan h = tt
pdu-heard (Ok range) r place m w same lan h = of (nth r.circuits place) refl
  where
    of : (o : Option Circuit) → nth r.circuits place ≡ o → IfSome o (λ c. range_view range ≡ unflagged_range r c m)
    of None e = tt
    of (Some c) e = h c (lan c e) ∙ ap (unflagged_range r c) (sym same)

-- of the item at a place
pub ok-place : {A E B : Type 0} (res : Result A E) (Q : B → A → Type 0) (o : Option B) (x : B) → o ≡ Some x → IfOk res (Q x) → IfOk res (λ h. IfSome o (λ r. Q r h))
ok-place (Err e) Q o x at h = tt
ok-place (Ok a) Q o x at h = to-place (λ r. Q r a) o x at h

-- ---- flags

pub missed-same : (first last : ℕ) (entries : List SnpEntry) (cells : List (ℕ × Cell)) → any_cell (is_missed first last entries) cells ≡ misses_any first last entries cells
missed-same first last entries [] = refl
missed-same first last entries (pair ∷ cells) = ap (λ (b : Bool). is_missed first last entries pair.0 pair.1 || b) (missed-same first last entries cells)

pub not-or : (a b : Bool) → not (a || b) ≡ (not a && not b)
not-or true b = refl
not-or false b = refl
