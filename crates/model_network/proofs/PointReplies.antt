-- A LAN hello is sent on a LAN alone.
use Rattle.std.proofs.Common.{◌≡◌, ℕ, ◌+◌, ◌==◌, nat_lt, ◌&&◌, true, not, List, [], ◌∷◌, length, Option, Some, None, refl, sym, ap, ◌∙◌}
use Rattle.std.specs.List.{AllByRecursion}
use Rattle.isis_base.specs.declared.level.Level.{Level}
use Rattle.isis_base.specs.declared.level.Level.TheVariants as level
use Rattle.model_router.specs.declared.drop_name.DropName.{DropName}
use Rattle.model_router.specs.declared.lsp_case.LspCase.{LspCase}
use Rattle.model_router.specs.declared.lsp_case.LspCase.TheVariants as lsp
use Rattle.model_router.specs.Both.{at}
use Rattle.model_router.specs.Places.{nth}
use Rattle.model_router.specs.Sets.{has}
use Rattle.model_router.specs.Cells.{Cell, Heard}
use Rattle.model_router.specs.SnpTable.{SnpEntry}
use Rattle.model_router.specs.Routers.{Circuit, Router, book_of}
use Rattle.model_router.specs.Givens.{Given}
use Rattle.model_router.specs.Datagrams.{Sent, Lsp}
use Rattle.model_router.specs.SnpLists.{owed, csnp_set, csnps, last_id, pieces, psnps}
use Rattle.model_router.specs.Pulls.{Sending, hellos, on_circuit, at_circuit, pull_hello, pull_csnp, pull_lsps, pull_psnp, pull_level, pull, is_csnp_due, due_lsps, srm_due}
use Rattle.model_router.specs.Events.{Message, Refused, PointHelloHeard, LanHelloHeard, LspHeard, SnpHeard, Event, Second, Take, Pull, Metric, Overload, Prefix, Done, Send}
use Rattle.model_router.specs.Receiving.{taken, take_or_drop, drop_of, acks}
use Rattle.model_router.specs.Receiving as receiving
use Rattle.model_router.specs.Steps.{step}
use Rattle.model_router.specs.AdjacencyLaws.{is_point, place_of}
use Rattle.model_router.specs.ReplyLaws.{AllSent}
use Rattle.model_network.specs.Speakers.{NotLan}
use Rattle.model_router.proofs.BookLemmas.{choose}
use Rattle.model_router.proofs.ListLemmas.{all-append}

abbrev none : List Sent → Type 0
none out = AllByRecursion NotLan out

csnps-none : (l : Level) (start : ℕ) (p : List (List SnpEntry)) → none (csnps l start p)
csnps-none l start [] = tt
csnps-none l start (p ∷ []) = (tt, tt)
csnps-none l start (p ∷ q ∷ rest) = (tt, csnps-none l (last_id p + 1) (q ∷ rest))

psnps-none : (l : Level) (p : List (List SnpEntry)) → none (psnps l p)
psnps-none l [] = tt
psnps-none l (p ∷ rest) = (tt, psnps-none l rest)

lsps-none : (l : Level) (place : ℕ) (cells : List (ℕ × Cell)) → none (due_lsps l place cells)
lsps-none l place [] = tt
lsps-none l place (pair ∷ cells) = choose none (srm_due place pair.1) (Lsp l pair.0 pair.1 ∷ due_lsps l place cells) (due_lsps l place cells)
    (λ _. (tt, lsps-none l place cells)) (λ _. lsps-none l place cells)

hellos-none : (r : Router) (place : ℕ) (c : Circuit) → is_point (Some c) ≡ true → none (hellos r place c)
hellos-none r place c p = choose none c.lan _ _ (λ lan. absurd (let clash : not true ≡ true = sym (ap not lan) ∙ p in cc)) (λ _. (tt, tt))

at_circuit-none : (s : Sending) (place : ℕ) (f : Circuit → Sending) → ((c : Circuit) → nth s.router.circuits place ≡ Some c → none (f c).out) → none s.out → none (at_circuit s place f).out
at_circuit-none s place f g a = on-it (nth s.router.circuits place) refl
  where
    on-it : (c : Option Circuit) → nth s.router.circuits place ≡ c → none (on_circuit c s f).out
    on-it None e = a
    on-it (Some c) e = g c e

pull_hello-none : (r : Router) (place : ℕ) (c : Circuit) → is_point (Some c) ≡ true → none (pull_hello (record { router = r; out = [] }) place c).out
unfolding pull_hello
pull_hello-none r place c p = choose (λ (u : Sending). none u.out) (c.hello == 0) _ (record { router = r; out = [] }) (λ _. hellos-none r place c p) (λ _. tt)

pull_csnp-none : (s : Sending) (place : ℕ) (l : Level) (c : Circuit) → none s.out → none (pull_csnp s place l c).out
unfolding pull_csnp
pull_csnp-none s place l c a = choose (λ (u : Sending). none u.out) (is_csnp_due s.router.config place c l) _ s
    (λ _. all-append NotLan s.out (csnp_set l (book_of s.router l)) a (csnps-none l 0 _)) (λ _. a)

pull_lsps-none : (s : Sending) (place : ℕ) (l : Level) → none s.out → none (pull_lsps s place l).out
unfolding pull_lsps
pull_lsps-none s place l a = all-append NotLan s.out _ a (lsps-none l place (book_of s.router l).cells)

pull_psnp-none : (s : Sending) (place : ℕ) (l : Level) (c : Circuit) → none s.out → none (pull_psnp s place l c).out
unfolding pull_psnp
pull_psnp-none s place l c a = let entries = owed place (book_of s.router l) in
    choose (λ (u : Sending). none u.out) (nat_lt 0 (length entries) && (at c.levels l).psnp == 0) _ s
    (λ _. all-append NotLan s.out (psnps l (pieces (length entries) entries)) a (psnps-none l _)) (λ _. a)

pull_level-none : (s : Sending) (place : ℕ) (l : Level) → none s.out → none (pull_level s place l).out
unfolding pull_level
pull_level-none s place l a =
    let csnp = at_circuit s place (pull_csnp s place l) in
    let lsps = pull_lsps csnp place l in
    choose (λ (u : Sending). none u.out) (has (book_of s.router l).opened place) (at_circuit lsps place (pull_psnp lsps place l)) s
    (λ _. let one = at_circuit-none s place (pull_csnp s place l) (λ c e. pull_csnp-none s place l c a) a in
    let two = pull_lsps-none csnp place l one in
    at_circuit-none lsps place (pull_psnp lsps place l) (λ c e. pull_psnp-none lsps place l c two) two)
    (λ _. a)

pull-none : (r : Router) (place : ℕ) → is_point (nth r.circuits place) ≡ true → none (pull r place).out
unfolding pull
pull-none r place p =
    let start : Sending = record { router = r; out = [] } in
    let one = at_circuit start place (pull_hello start place) in
    pull_level-none (pull_level one place level.One) place level.Two (pull_level-none one place level.One
    (at_circuit-none start place (pull_hello start place) (λ c e. pull_hello-none r place c (sym (ap is_point e) ∙ p)) tt))

acks-none : (c : Circuit) (l : Level) (h : Heard) (row : LspCase) → AllSent NotLan (acks c l h row)
acks-none c l h lsp.AckPurge = choose (AllSent NotLan) c.lan Done (Send _) (λ _. tt) (λ _. (tt, tt))
acks-none c l h lsp.Outbid = tt
acks-none c l h lsp.PurgedOwn = tt
acks-none c l h lsp.Confused = tt
acks-none c l h lsp.Stored = tt
acks-none c l h lsp.Same = tt
acks-none c l h lsp.Older = tt

taken-none : (given : Given) (r : Router) (place : ℕ) (c : Circuit) (m : Message) → AllSent NotLan (taken given r place c m).reply
taken-none given r place c (Refused cause) = tt
taken-none given r place c (PointHelloHeard h) = tt
taken-none given r place c (LanHelloHeard l h) = tt
taken-none given r place c (LspHeard l snpa h) = acks-none c l h _
taken-none given r place c (SnpHeard l snpa source range entries) = tt

take_or_drop-none : (given : Given) (r : Router) (place : ℕ) (c : Circuit) (m : Message) (drop : Option DropName) → AllSent NotLan (take_or_drop given r place c m drop).reply
take_or_drop-none given r place c m (Some cause) = tt
take_or_drop-none given r place c m None = taken-none given r place c m

take-none : (given : Given) (r : Router) (place : ℕ) (m : Message) (c : Option Circuit) → AllSent NotLan (receiving.take given r place m c).reply
take-none given r place m None = tt
take-none given r place m (Some c) = take_or_drop-none given r place c m (drop_of r place c m)

pub point-reply : (given : Given) (r : Router) (event : Event) → is_point (nth r.circuits (place_of event)) ≡ true → AllSent NotLan (step given r event).reply
unfolding step
point-reply given r Second p = tt
point-reply given r (Take place m) p = take-none given r place m (nth r.circuits place)
point-reply given r (Pull place) p = pull-none r place p
point-reply given r (Metric place metric) p = tt
point-reply given r (Overload on) p = tt
point-reply given r (Prefix prefix metric) p = tt
