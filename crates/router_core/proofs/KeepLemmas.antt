-- What leaves all that own LSPs are made from.
use Rattle.std.proofs.Common.{◌≡◌, ℕ, zero, suc, ◌+◌, ◌==◌, nat_lt, Bool, true, false, not, ◌&&◌, ◌||◌, List, [], ◌∷◌, length, map, Option, Some, None, IfSome, if◌then◌else◌, option_map, refl, sym, ap, ◌∙◌, subst}
use Rattle.std.specs.List.{list_any}
use Rattle.isis_tlv.specs.declared.three_way.Adj.TheVariants.{Down}
use Rattle.isis_base.specs.declared.level.Level.{Level}
use Rattle.isis_base.specs.declared.level.Level.TheVariants as level
use Rattle.model_router.specs.Both.{Both, at}
use Rattle.model_router.specs.Places.{nth, with_nth}
use Rattle.model_router.specs.Sets.{has}
use Rattle.model_router.specs.Configs.{Config}
use Rattle.model_router.specs.Adjacencies.{Handshake, Hello, Neighbour, PointAdj, common_of, hear_point, is_same}
use Rattle.model_router.specs.Routers.{Circuit, CircuitLevel, LanNeighbour, LevelState, Router, book_of, with_level, with_circuit, level_of}
use Rattle.model_router.specs.Elections.{idle_all}
use Rattle.model_router.specs.Hellos.{follow, point_circuit, take_point}
use Rattle.model_router.specs.Events.{Envelope, Message, Refused, PointHelloHeard, LanHelloHeard, LspHeard, SnpHeard, Event, Second, Take, Pull, Metric, Overload, Prefix, Done, Outcome, settled}
use Rattle.model_router.specs.Seconds.{is_over, held_less, point_kept, point_less, point_over, heard_less, some_over, time_over}
use Rattle.model_router.specs.SnpLists.{owed}
use Rattle.model_router.specs.Pulls.{csnp_sent, Sending, on_circuit, at_circuit, pull_hello, pull_csnp, pull_lsps, pull_psnp, pull_level, pull, with_part, is_csnp_due}
use Rattle.model_router.specs.declared.whose.Whose.{Whose}
use Rattle.model_router.specs.declared.drop_name.DropName.{DropName}
use Rattle.model_router.specs.declared.lsp_case.LspCase.{LspCase}
use Rattle.model_router.specs.declared.lsp_case.LspCase.TheVariants as lsp
use Rattle.model_router.specs.declared.snp_case.SnpCase.{SnpCase}
use Rattle.model_router.specs.declared.snp_case.SnpCase.TheVariants as snp
use Rattle.model_router.specs.Cells.{Heard}
use Rattle.model_router.specs.Books.{cell_at}
use Rattle.model_router.specs.LspTable.{met}
use Rattle.model_router.specs.SnpTable.{SnpEntry, snp_case}
use Rattle.model_router.specs.Takes.{Scene, whose_of, lsp_taken, take_lsp, entry_taken, take_entry, take_entries, take_range, take_snp}
use Rattle.model_router.specs.Givens.{Given}
use Rattle.model_router.specs.Receiving.{scene_of, greeted, taken, take_or_drop, take, drop_of}
use Rattle.model_router.specs.Steps.{sent_all, step}
use Rattle.model_router.proofs.BookLemmas.{choose}
use Rattle.router_core.specs.Seconds.{later}
use Rattle.router_core.specs.Calm.{is_calm_row, is_calm_entry, AreClear, IsCalmMessage, IsCalm}
use Rattle.router_core.proofs.CalmLemmas.{take-face, clear-face}
use Rattle.router_core.specs.Settled.{lan_face, heard_face, level_face, neighbour_face, point_face, face, faces, IsAside, IsNoBid, IsNoHello, Keeps, LeavesFace}

true-false : true ≡ false → ⊥
true-false e = cc

pub keeps-refl : (r : Router) → Keeps r r
keeps-refl r = record { config = refl; circuits = refl; one = refl; two = refl }

pub keeps-trans : (r s t : Router) → Keeps r s → Keeps s t → Keeps r t
keeps-trans r s t f g = record { config = g.config ∙ f.config; circuits = g.circuits ∙ f.circuits; one = g.one ∙ f.one; two = g.two ∙ f.two }

pub keeps-level : (r : Router) (l : Level) (s : LevelState) → s.own ≡ (level_of r l).own → Keeps r (with_level r l s)
keeps-level r level.One s e = record { config = refl; circuits = refl; one = e; two = refl }
keeps-level r level.Two s e = record { config = refl; circuits = refl; one = refl; two = e }

-- a list in which one circuit is another of the same face
pub faces-with : (cs : List Circuit) (place : ℕ) (old c : Circuit) → nth cs place ≡ Some old → face c ≡ face old → faces (with_nth cs place c) ≡ faces cs
faces-with [] place old c e f = refl
faces-with (x ∷ cs) zero old c e f = ap (λ (y : Circuit). y ∷ faces cs) (f ∙ ap face (sym (same x old e)))
  where
    same : (x y : Circuit) → Some x ≡ Some y → x ≡ y
    same x y e = cc
faces-with (x ∷ cs) (suc place) old c e f = ap (λ (ys : List Circuit). face x ∷ ys) (faces-with cs place old c e f)

pub keeps-circuit : (r : Router) (place : ℕ) (old c : Circuit) → nth r.circuits place ≡ Some old → face c ≡ face old → Keeps r (with_circuit r place c)
keeps-circuit r place old c e f = record { config = refl; circuits = faces-with r.circuits place old c e f; one = refl; two = refl }

pub keeps-follow : (r : Router) (anew : Bool) (place : ℕ) (c : Circuit) → Keeps r (follow r anew place c)
keeps-follow r anew place c = record { config = refl; circuits = refl; one = refl; two = refl }

-- ---- the end of an event

pub idle-faces : (config : Config) (k : ℕ) (cs : List Circuit) → faces (idle_all config k cs) ≡ faces cs
idle-faces config k [] = refl
idle-faces config k (c ∷ cs) = ap (λ (ys : List Circuit). face c ∷ ys) (idle-faces config (k + 1) cs)

pub settled-keeps : (o : Outcome) → Keeps o.router (settled o).router
settled-keeps o = record { config = refl; circuits = idle-faces o.router.config 0 o.router.circuits; one = refl; two = refl }

-- ---- a pull

part-face : (c : Circuit) (l : Level) (part : CircuitLevel) → level_face part ≡ level_face (at c.levels l) → face (with_part c l part) ≡ face c
part-face c level.One part e = ap (λ (x : CircuitLevel). record (face c) { levels = record { one = x; two = level_face c.levels.two } }) e
part-face c level.Two part e = ap (λ (x : CircuitLevel). record (face c) { levels = record { one = level_face c.levels.one; two = x } }) e

hello-keeps : (s : Sending) (place : ℕ) (c : Circuit) → nth s.router.circuits place ≡ Some c → Keeps s.router (pull_hello s place c).router
unfolding pull_hello
hello-keeps s place c e = choose (λ (u : Sending). Keeps s.router u.router) (c.hello == 0) _ s
    (λ _. keeps-circuit s.router place c (record c { hello = 10 }) e refl) (λ _. keeps-refl s.router)

csnp-keeps : (s : Sending) (place : ℕ) (l : Level) (c : Circuit) → nth s.router.circuits place ≡ Some c → Keeps s.router (pull_csnp s place l c).router
unfolding pull_csnp
csnp-keeps s place l c e = choose (λ (u : Sending). Keeps s.router u.router) (is_csnp_due s.router.config place c l) _ s
    (λ _. keeps-circuit s.router place c (with_part c l (csnp_sent c.lan (at c.levels l))) e (part-face c l (csnp_sent c.lan (at c.levels l)) refl)) (λ _. keeps-refl s.router)

lsps-keeps : (s : Sending) (place : ℕ) (l : Level) → Keeps s.router (pull_lsps s place l).router
unfolding pull_lsps
lsps-keeps s place l = keeps-level s.router l _ refl

psnp-keeps : (s : Sending) (place : ℕ) (l : Level) (c : Circuit) → nth s.router.circuits place ≡ Some c → Keeps s.router (pull_psnp s place l c).router
unfolding pull_psnp
psnp-keeps s place l c e =
    let new = with_part c l (record (at c.levels l) { psnp = 2 }) in
    choose (λ (u : Sending). Keeps s.router u.router) (nat_lt 0 (length (owed place (book_of s.router l))) && (at c.levels l).psnp == 0) _ s
    (λ _. keeps-trans s.router (with_circuit s.router place new) _ (keeps-circuit s.router place c new e (part-face c l (record (at c.levels l) { psnp = 2 }) refl)) (keeps-level (with_circuit s.router place new) l _ refl)) (λ _. keeps-refl s.router)

at-keeps : (s : Sending) (place : ℕ) (f : Circuit → Sending) → ((c : Circuit) → nth s.router.circuits place ≡ Some c → Keeps s.router (f c).router) → Keeps s.router (at_circuit s place f).router
at-keeps s place f g = of (nth s.router.circuits place) refl
  where
    of : (c : Option Circuit) → nth s.router.circuits place ≡ c → Keeps s.router (on_circuit c s f).router
    of None e = keeps-refl s.router
    of (Some c) e = g c e

level-keeps : (s : Sending) (place : ℕ) (l : Level) → Keeps s.router (pull_level s place l).router
unfolding pull_level
level-keeps s place l =
    let csnp = at_circuit s place (pull_csnp s place l) in
    let lsps = pull_lsps csnp place l in
    choose (λ (u : Sending). Keeps s.router u.router) (has (book_of s.router l).opened place) (at_circuit lsps place (pull_psnp lsps place l)) s
    (λ _. keeps-trans s.router csnp.router _ (at-keeps s place (pull_csnp s place l) (λ c e. csnp-keeps s place l c e))
    (keeps-trans csnp.router lsps.router _ (lsps-keeps csnp place l) (at-keeps lsps place (pull_psnp lsps place l) (λ c e. psnp-keeps lsps place l c e))))
    (λ _. keeps-refl s.router)

pub pull-keeps : (r : Router) (place : ℕ) → Keeps r (pull r place).router
unfolding pull
pull-keeps r place =
    let start : Sending = record { router = r; out = [] } in
    let one = at_circuit start place (pull_hello start place) in
    let two = pull_level one place level.One in
    keeps-trans r one.router _ (at-keeps start place (pull_hello start place) (λ c e. hello-keeps start place c e))
    (keeps-trans one.router two.router _ (level-keeps one place level.One) (level-keeps two place level.Two))

-- ---- a second in which no holding time ends

-- of those heard all that counts stays
heard-less-face : (heard : List (ℕ × LanNeighbour)) → some_over heard ≡ false → heard_face (heard_less heard) ≡ heard_face heard
heard-less-face [] e = refl
heard-less-face (p ∷ heard) e = of (is_over p.1.neighbour) e (heard-less-face heard)
  where
    of : (t : Bool) → (t || some_over heard) ≡ false → (some_over heard ≡ false → heard_face (heard_less heard) ≡ heard_face heard)
        → heard_face (if t then heard_less heard else (p.0, record p.1 { neighbour = held_less p.1.neighbour }) ∷ heard_less heard) ≡ heard_face (p ∷ heard)
    of true e f = absurd (true-false e)
    of false e f = ap (λ (ys : List (ℕ × LanNeighbour)). (p.0, lan_face p.1) ∷ ys) (f e)

-- so does all that counts of a point-to-point neighbour
point-less-face : (p : PointAdj) → point_over p.neighbour ≡ false → point_face (point_less p) ≡ point_face p
point-less-face p e = of p.neighbour refl e
  where
    faced : Option Neighbour → PointAdj
    faced o = record { state = p.state; neighbour = option_map neighbour_face o }

    by-time : (n : Neighbour) (t : Bool) → p.neighbour ≡ Some n → t ≡ false
        → point_face (if t then record { state = Down; neighbour = None } else record p { neighbour = Some (held_less n) }) ≡ point_face p
    by-time n true f e = absurd (true-false e)
    by-time n false f e = ap (λ (o : Option Neighbour). faced o) (sym f)

    of : (o : Option Neighbour) → p.neighbour ≡ o → point_over o ≡ false → point_face (point_kept o p) ≡ point_face p
    of None f e = refl
    of (Some n) f e = by-time n (is_over n) f e

-- one circuit a second later
later-face : (c : Circuit) → time_over c ≡ false → face (later c) ≡ face c
later-face c e =
    let both = neither _ _ e in
    let point = neither _ _ both.0 in
    ap (λ (q : PointAdj). with-parts q (heard_face (heard_less c.levels.one.heard)) (heard_face (heard_less c.levels.two.heard))) (point-less-face c.point point.0)
    ∙ (ap (λ (h : List (ℕ × LanNeighbour)). with-parts (point_face c.point) h (heard_face (heard_less c.levels.two.heard))) (heard-less-face c.levels.one.heard point.1)
    ∙ ap (λ (h : List (ℕ × LanNeighbour)). with-parts (point_face c.point) (heard_face c.levels.one.heard) h) (heard-less-face c.levels.two.heard both.1))
  where
    with-parts : PointAdj → List (ℕ × LanNeighbour) → List (ℕ × LanNeighbour) → Circuit
    with-parts q one two = record (face c) {
      point = q;
      levels = record {
        one = record { heard = one; csnp = 0; psnp = 0; due = false };
        two = record { heard = two; csnp = 0; psnp = 0; due = false };
      };
    }

    neither : (a b : Bool) → (a || b) ≡ false → (a ≡ false) × (b ≡ false)
    neither true b e = absurd (true-false e)
    neither false b e = (refl, e)

-- all circuits
pub later-faces : (cs : List Circuit) → list_any time_over cs ≡ false → faces (map later cs) ≡ faces cs
later-faces [] e = refl
later-faces (c ∷ cs) e = of (time_over c) refl e (later-faces cs)
  where
    of : (t : Bool) → time_over c ≡ t → (t || list_any time_over cs) ≡ false → (list_any time_over cs ≡ false → faces (map later cs) ≡ faces cs) → faces (map later (c ∷ cs)) ≡ faces (c ∷ cs)
    of true f e rest = absurd (true-false e)
    of false f e rest = ap (λ (x : Circuit). x ∷ faces (map later cs)) (later-face c f) ∙ ap (λ (xs : List Circuit). face c ∷ xs) (rest e)

-- ---- a datagram that isn't a hello

lsp-own : (scene : Scene) (state : LevelState) (place : ℕ) (w : Whose) (h : Heard) (row : LspCase) → (row ≡ lsp.Outbid → ⊥) → (lsp_taken scene state place w h row).own ≡ state.own
lsp-own scene state place w h lsp.Outbid other = absurd (other refl)
lsp-own scene state place w h lsp.PurgedOwn other = refl
lsp-own scene state place w h lsp.AckPurge other = refl
lsp-own scene state place w h lsp.Confused other = refl
lsp-own scene state place w h lsp.Stored other = refl
lsp-own scene state place w h lsp.Same other = refl
lsp-own scene state place w h lsp.Older other = refl

calm-other : (row : LspCase) → is_calm_row row ≡ true → row ≡ lsp.Outbid → ⊥
calm-other row calm e = true-false (sym calm ∙ ap is_calm_row e)

take-own : (scene : Scene) (state : LevelState) (place : ℕ) (w : Whose) (h : Heard) → (met state.book w h ≡ lsp.Outbid → ⊥) → (take_lsp scene state place w h).own ≡ state.own
unfolding take_lsp
take-own scene state place w h other = lsp-own scene state place w h (met state.book w h) other

heard-keeps : (given : Given) (r : Router) (place : ℕ) (c : Circuit) (l : Level) (from : Envelope) (h : Heard) → IsNoBid r l h → Keeps r (taken given r place c (LspHeard l from h)).router
heard-keeps given r place c l from h other =
    let state = level_of r l in
    let w = whose_of r.config.system state h.id in
    keeps-level r l (take_lsp (scene_of given r l) state place w h) (take-own (scene_of given r l) state place w h other)

entry-own : (scene : Scene) (state : LevelState) (place : ℕ) (w : Whose) (h : SnpEntry) (row : SnpCase) → is_calm_entry row ≡ true → (entry_taken scene state place w h row).own ≡ state.own
entry-own scene state place w h snp.Nothing e = refl
entry-own scene state place w h snp.Outbid e = absurd (true-false (sym e))
entry-own scene state place w h snp.Confused e = refl
entry-own scene state place w h snp.Same e = refl
entry-own scene state place w h snp.Older e = refl
entry-own scene state place w h snp.Newer e = refl
entry-own scene state place w h snp.Asked e = refl
entry-own scene state place w h snp.Unasked e = refl

one-own : (scene : Scene) (state : LevelState) (system place : ℕ) (h : SnpEntry) → ((w : Whose) → is_calm_entry (snp_case w (cell_at state.book h.id) h) ≡ true) → (take_entry scene state system place h).own ≡ state.own
unfolding take_entry
one-own scene state system place h clear =
    let w = whose_of system state h.id in
    entry-own scene state place w h (snp_case w (cell_at state.book h.id) h) (clear w)

entries-own : (scene : Scene) (state : LevelState) (system place : ℕ) (entries : List SnpEntry) → AreClear state.book entries → (take_entries scene state system place entries).own ≡ state.own
entries-own scene state system place [] clear = refl
entries-own scene state system place (h ∷ entries) clear =
    let next = take_entry scene state system place h in
    entries-own scene next system place entries (clear-face state.book next.book entries (take-face scene state system place h clear.0) clear.1) ∙ one-own scene state system place h clear.0

range-own : (state : LevelState) (place : ℕ) (range : Option (ℕ × ℕ)) (entries : List SnpEntry) → (take_range state place range entries).own ≡ state.own
range-own state place None entries = refl
range-own state place (Some range) entries = refl

snp-own : (scene : Scene) (state : LevelState) (system place : ℕ) (range : Option (ℕ × ℕ)) (entries : List SnpEntry) → AreClear state.book entries → (take_snp scene state system place range entries).own ≡ state.own
unfolding take_snp
snp-own scene state system place range entries clear =
    range-own (take_entries scene state system place entries) place range entries ∙ entries-own scene state system place entries clear

taken-keeps : (given : Given) (r : Router) (place : ℕ) (c : Circuit) (m : Message) → IsCalmMessage r m → IsNoHello m → Keeps r (taken given r place c m).router
taken-keeps given r place c (Refused cause) calm aside = keeps-refl r
taken-keeps given r place c (PointHelloHeard h) calm aside = absurd aside
taken-keeps given r place c (LanHelloHeard l h) calm aside = absurd aside
taken-keeps given r place c (LspHeard l from h) calm aside = heard-keeps given r place c l from h (calm-other _ calm)
taken-keeps given r place c (SnpHeard l from source range entries) calm aside =
    keeps-level r l (take_snp (scene_of given r l) (level_of r l) r.config.system place range entries) (snp-own (scene_of given r l) (level_of r l) r.config.system place range entries calm)

drop-keeps : (given : Given) (r : Router) (place : ℕ) (c : Circuit) (m : Message) (o : Option DropName) → Keeps r (taken given r place c m).router → Keeps r (take_or_drop given r place c m o).router
drop-keeps given r place c m (Some cause) keeps = record { config = refl; circuits = refl; one = refl; two = refl }
drop-keeps given r place c m None keeps = keeps-trans r (taken given r place c m).router _ keeps (settled-keeps (taken given r place c m))

take-keeps : (given : Given) (r : Router) (place : ℕ) (m : Message) (o : Option Circuit) → ((c : Circuit) → Keeps r (taken given r place c m).router) → Keeps r (take given r place m o).router
take-keeps given r place m None keeps = keeps-refl r
take-keeps given r place m (Some c) keeps = drop-keeps given r place c m (drop_of r place c m) (keeps c)

-- what is calm and no hello, second or change leaves all that own LSPs are made from
pub step-keeps : (given : Given) (r : Router) (event : Event) → IsCalm r event → IsAside event → Keeps r (step given r event).router
unfolding step
step-keeps given r Second calm aside = absurd aside
step-keeps given r (Take place m) calm aside = take-keeps given r place m (nth r.circuits place) (λ c. taken-keeps given r place c m calm aside)
step-keeps given r (Pull place) calm aside = keeps-trans r (pull r place).router _ (pull-keeps r place) (settled-keeps (sent_all (pull r place)))
step-keeps given r (Metric place metric) calm aside = absurd aside
step-keeps given r (Overload on) calm aside = absurd aside
step-keeps given r (Prefix prefix metric) calm aside = absurd aside

-- so does an LSP by which no own one is outbid
pub lsp-keeps : (given : Given) (r : Router) (place : ℕ) (l : Level) (from : Envelope) (h : Heard) → IsNoBid r l h → Keeps r (step given r (Take place (LspHeard l from h))).router
unfolding step
lsp-keeps given r place l from h other = take-keeps given r place (LspHeard l from h) (nth r.circuits place) (λ c. heard-keeps given r place c l from h other)

-- ---- a point-to-point hello

greeted-face : (c : Circuit) (common : Both Bool) (h : Hello) (shake : Handshake) → point_face (point_circuit c common h shake).point ≡ point_face c.point → face (point_circuit c common h shake) ≡ face c
greeted-face c common h shake e = ap (λ (p : PointAdj). record (face c) { point = p }) e

greeted-keeps : (r : Router) (place : ℕ) (c : Circuit) (h : Hello) (o : Option Handshake) → nth r.circuits place ≡ Some c → IfSome o (λ shake. point_face (hear_point c.point (common_of r.config h) h shake) ≡ point_face c.point) → Keeps r (greeted r place c h o)
unfolding take_point
greeted-keeps r place c h None n e = keeps-refl r
greeted-keeps r place c h (Some shake) n e =
    let common = common_of r.config h in
    let new = point_circuit c common h shake in
    keeps-trans r (with_circuit r place new) _ (keeps-circuit r place c new n (greeted-face c common h shake e)) (keeps-follow (with_circuit r place new) (not (is_same c.point.neighbour common h shake.extended)) place new)

-- one that passes, and leaves what own LSPs look at of the adjacency, leaves all that they are made from
pub greeting-keeps : (given : Given) (r : Router) (place : ℕ) (c : Circuit) (h : Hello) → nth r.circuits place ≡ Some c → drop_of r place c (PointHelloHeard h) ≡ None → LeavesFace c r.config h → Keeps r (step given r (Take place (PointHelloHeard h))).router
unfolding step
greeting-keeps given r place c h n passes leaves =
    let to = greeted r place c h h.handshake in
    subst (λ (o : Option Circuit). Keeps r (take given r place (PointHelloHeard h) o).router) (sym n)
    (subst (λ (d : Option DropName). Keeps r (take_or_drop given r place c (PointHelloHeard h) d).router) (sym passes)
    (keeps-trans r to _ (greeted-keeps r place c h h.handshake n leaves) (settled-keeps (record { router = to; reply = Done }))))
