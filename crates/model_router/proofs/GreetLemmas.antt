-- What a router says of itself in its hellos: each carries the state and the neighbour that its circuit keeps.
use Rattle.std.proofs.Common.{◌≡◌, ℕ, ◌+◌, ◌==◌, ◌&&◌, List, [], ◌∷◌, length, nat_lt, Option, Some, None, refl, sym, ap, ◌∙◌}
use Rattle.std.specs.List.{AllByRecursion}
use Rattle.isis_base.specs.declared.level.Level.{Level}
use Rattle.isis_base.specs.declared.level.Level.TheVariants as level
use Rattle.model_router.specs.declared.drop_name.DropName.{DropName}
use Rattle.model_router.specs.Both.{at}
use Rattle.model_router.specs.Places.{nth}
use Rattle.model_router.specs.Sets.{has}
use Rattle.model_router.specs.Cells.{Cell, Heard}
use Rattle.model_router.specs.SnpTable.{SnpEntry}
use Rattle.model_router.specs.Routers.{Circuit, Router, book_of, extended_of}
use Rattle.model_router.specs.Givens.{Given}
use Rattle.model_router.specs.Datagrams.{Sent, PointHello, LanHello, Lsp, Csnp, Psnp}
use Rattle.model_router.specs.Pulls.{Sending, lan_hello, hellos, on_circuit, at_circuit, pull_hello, pull_csnp, pull_lsps, pull_psnp, pull_level, pull, is_csnp_due, due_lsps, srm_due}
use Rattle.model_router.specs.SnpLists.{owed, csnp_set, csnps, last_id, pieces, psnps}
use Rattle.model_router.specs.Events.{Done, Send, Message, Refused, PointHelloHeard, LanHelloHeard, LspHeard, SnpHeard, Event, Second, Take, Pull, Metric, Overload, Prefix, settled}
use Rattle.model_router.specs.Receiving.{taken, take_or_drop, drop_of, acks}
use Rattle.model_router.specs.Steps.{sent_all, step}
use Rattle.model_router.specs.AdjacencyLaws.{bond_of, Tie, place_of, IsGreeting, IsReplyGreeting}
use Rattle.model_router.specs.declared.lsp_case.LspCase.{LspCase}
use Rattle.model_router.specs.declared.lsp_case.LspCase.TheVariants as lsp
use Rattle.model_router.specs.Receiving as receiving
use Rattle.model_router.proofs.BookLemmas.{choose}
use Rattle.model_router.proofs.ListLemmas.{all-map, all-append}
use Rattle.model_router.proofs.BondLemmas.{Frame, pull-all}

csnps-greet : (r : Router) (place : ℕ) (l : Level) (start : ℕ) (p : List (List SnpEntry)) → AllByRecursion (IsGreeting r place) (csnps l start p)
csnps-greet r place l start [] = tt
csnps-greet r place l start (p ∷ []) = (tt, tt)
csnps-greet r place l start (p ∷ q ∷ rest) = (tt, csnps-greet r place l (last_id p + 1) (q ∷ rest))

psnps-greet : (r : Router) (place : ℕ) (l : Level) (p : List (List SnpEntry)) → AllByRecursion (IsGreeting r place) (psnps l p)
psnps-greet r place l [] = tt
psnps-greet r place l (p ∷ rest) = (tt, psnps-greet r place l rest)

lsps-greet : (r : Router) (place : ℕ) (l : Level) (cells : List (ℕ × Cell)) → AllByRecursion (IsGreeting r place) (due_lsps l place cells)
lsps-greet r place l [] = tt
lsps-greet r place l (pair ∷ cells) = choose (AllByRecursion (IsGreeting r place)) (srm_due place pair.1) (Lsp l pair.0 pair.1 ∷ due_lsps l place cells) (due_lsps l place cells)
    (λ _. (tt, lsps-greet r place l cells)) (λ _. lsps-greet r place l cells)

lan_hello-greets : (r : Router) (place : ℕ) (c : Circuit) (l : Level) → AllByRecursion (IsGreeting r place) (lan_hello r place c l)
lan_hello-greets r place c l = choose (AllByRecursion (IsGreeting r place)) (at r.config.runs l) _ [] (λ _. (tt, tt)) (λ _. tt)

hellos-greet : (r : Router) (place : ℕ) (c : Circuit) → nth r.circuits place ≡ Some c → AllByRecursion (IsGreeting r place) (hellos r place c)
hellos-greet r place c e = choose (AllByRecursion (IsGreeting r place)) c.lan _ _
    (λ _. all-append (IsGreeting r place) (lan_hello r place c level.One) (lan_hello r place c level.Two) (lan_hello-greets r place c level.One) (lan_hello-greets r place c level.Two))
    (λ _. ((ap bond_of e, refl), tt))

abbrev greet : Router → ℕ → Sending → Type 0
greet r place s = AllByRecursion (IsGreeting r place) s.out

at_circuit-greets : (r : Router) (q : ℕ) (s : Sending) (place : ℕ) (f : Circuit → Sending) → ((c : Circuit) → nth s.router.circuits place ≡ Some c → greet r q (f c)) → greet r q s → greet r q (at_circuit s place f)
at_circuit-greets r q s place f g a = on-it (nth s.router.circuits place) refl
  where
    on-it : (c : Option Circuit) → nth s.router.circuits place ≡ c → greet r q (on_circuit c s f)
    on-it None e = a
    on-it (Some c) e = g c e

pull_hello-greets : (r : Router) (place : ℕ) (c : Circuit) → nth r.circuits place ≡ Some c → greet r place (pull_hello (record { router = r; out = [] }) place c)
unfolding pull_hello
pull_hello-greets r place c e = choose (λ (u : Sending). greet r place u) (c.hello == 0) _ (record { router = r; out = [] })
    (λ _. hellos-greet r place c e) (λ _. tt)

pull_csnp-greets : (r : Router) (q : ℕ) (s : Sending) (place : ℕ) (l : Level) (c : Circuit) → greet r q s → greet r q (pull_csnp s place l c)
unfolding pull_csnp
pull_csnp-greets r q s place l c a = choose (λ (u : Sending). greet r q u) (is_csnp_due s.router.config place c l) _ s
    (λ _. all-append (IsGreeting r q) s.out (csnp_set l (book_of s.router l)) a (csnps-greet r q l 0 _)) (λ _. a)

pull_lsps-greets : (r : Router) (s : Sending) (place : ℕ) (l : Level) → greet r place s → greet r place (pull_lsps s place l)
unfolding pull_lsps
pull_lsps-greets r s place l a = all-append (IsGreeting r place) s.out _ a (lsps-greet r place l (book_of s.router l).cells)

pull_psnp-greets : (r : Router) (q : ℕ) (s : Sending) (place : ℕ) (l : Level) (c : Circuit) → greet r q s → greet r q (pull_psnp s place l c)
unfolding pull_psnp
pull_psnp-greets r q s place l c a = let entries = owed place (book_of s.router l) in
    choose (λ (u : Sending). greet r q u) (nat_lt 0 (length entries) && (at c.levels l).psnp == 0) _ s
    (λ _. all-append (IsGreeting r q) s.out (psnps l (pieces (length entries) entries)) a (psnps-greet r q l _)) (λ _. a)

pull_level-greets : (r : Router) (s : Sending) (place : ℕ) (l : Level) → greet r place s → greet r place (pull_level s place l)
unfolding pull_level
pull_level-greets r s place l a =
    let csnp = at_circuit s place (pull_csnp s place l) in
    let lsps = pull_lsps csnp place l in
    choose (λ (u : Sending). greet r place u) (has (book_of s.router l).opened place) (at_circuit lsps place (pull_psnp lsps place l)) s
    (λ _. let one = at_circuit-greets r place s place (pull_csnp s place l) (λ c e. pull_csnp-greets r place s place l c a) a in
    let two = pull_lsps-greets r csnp place l one in
    at_circuit-greets r place lsps place (pull_psnp lsps place l) (λ c e. pull_psnp-greets r place lsps place l c two) two)
    (λ _. a)

pull-greets : (r : Router) (place : ℕ) → greet r place (pull r place)
unfolding pull
pull-greets r place =
    let start : Sending = record { router = r; out = [] } in
    let one = at_circuit start place (pull_hello start place) in
    pull_level-greets r (pull_level one place level.One) place level.Two (pull_level-greets r one place level.One
    (at_circuit-greets r place start place (pull_hello start place) (λ c e. pull_hello-greets r place c e) tt))

greet-later : (r t : Router) (place : ℕ) → Frame r t → (s : Sent) → IsGreeting r place s → IsGreeting t place s
greet-later r t place f (PointHello state extended names) g = (ap (λ (x : Tie). x.bond) (f.bonds place) ∙ g.0, g.1 ∙ ap (λ (n : ℕ). extended_of n place) (sym f.boot))
greet-later r t place f (LanHello l lan snpas) g = tt
greet-later r t place f (Lsp l id cell) g = tt
greet-later r t place f (Csnp l start end entries) g = tt
greet-later r t place f (Psnp l entries) g = tt

acks-greet : (t : Router) (place : ℕ) (c : Circuit) (l : Level) (h : Heard) (row : LspCase) → IsReplyGreeting t place (acks c l h row)
acks-greet t place c l h lsp.AckPurge = choose (IsReplyGreeting t place) c.lan Done (Send _) (λ _. tt) (λ _. (tt, tt))
acks-greet t place c l h lsp.Outbid = tt
acks-greet t place c l h lsp.PurgedOwn = tt
acks-greet t place c l h lsp.Confused = tt
acks-greet t place c l h lsp.Stored = tt
acks-greet t place c l h lsp.Same = tt
acks-greet t place c l h lsp.Older = tt

taken-greets : (given : Given) (r t : Router) (place : ℕ) (c : Circuit) (m : Message) → IsReplyGreeting t place (taken given r place c m).reply
taken-greets given r t place c (Refused cause) = tt
taken-greets given r t place c (PointHelloHeard h) = tt
taken-greets given r t place c (LanHelloHeard l h) = tt
taken-greets given r t place c (LspHeard l snpa h) = acks-greet t place c l h _
taken-greets given r t place c (SnpHeard l snpa source range entries) = tt

take_or_drop-greets : (given : Given) (r t : Router) (place : ℕ) (c : Circuit) (m : Message) (drop : Option DropName) → IsReplyGreeting t place (take_or_drop given r place c m drop).reply
take_or_drop-greets given r t place c m (Some cause) = tt
take_or_drop-greets given r t place c m None = taken-greets given r t place c m

take-greets : (given : Given) (r t : Router) (place : ℕ) (m : Message) (c : Option Circuit) → IsReplyGreeting t place (receiving.take given r place m c).reply
take-greets given r t place m None = tt
take-greets given r t place m (Some c) = take_or_drop-greets given r t place c m (drop_of r place c m)

pub step-greets : (given : Given) (r : Router) (event : Event) → IsReplyGreeting (step given r event).router (place_of event) (step given r event).reply
unfolding step
step-greets given r Second = tt
step-greets given r (Take place m) = take-greets given r (step given r (Take place m)).router place m (nth r.circuits place)
step-greets given r (Pull place) = all-map (IsGreeting r place) (IsGreeting (settled (sent_all (pull r place))).router place) (pull r place).out (greet-later r (settled (sent_all (pull r place))).router place (pull-all r place)) (pull-greets r place)
step-greets given r (Metric place metric) = tt
step-greets given r (Overload on) = tt
step-greets given r (Prefix prefix metric) = tt
