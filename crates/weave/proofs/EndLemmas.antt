-- Where rounds end: what is left there, what can be played, and what is told.
use Rattle.std.proofs.Common.{◌≡◌, ℕ, suc, ◌+◌, ◌-◌, ◌<◌, List, [], ◌∷◌, ◌++◌, map, take, length, Some, slice_get, refl, sym, ap, ◌∙◌, subst, arith}
use Rattle.std.proofs.lemmas.List.{length-append, append-nil}
use Rattle.std.specs.List.{AllByRecursion}
use Rattle.model_router.specs.Places.{nth}
use Rattle.model_router.specs.Givens.{Given}
use Rattle.model_router.specs.Routers.{Router}
use Rattle.router_core.specs.Givens.{given}
use Rattle.model_network.specs.declared.end.End.{End}
use Rattle.model_network.specs.Networks.{Datagram, Network}
use Rattle.model_network.specs.Links.{IsWired}
use Rattle.model_network.specs.Runs.{Happening}
use Rattle.network_lab.specs.declared.event.LabEvent.{LabEvent}
use Rattle.network_lab.specs.declared.sent.SentDatagram.{SentDatagram}
use Rattle.network_lab.specs.LabNets.{Seen, LabNet, StandsFor, sent_of}
use Rattle.network_lab.specs.Claims.{HaveOneLink, IsClaimed}
use Rattle.weave_core.specs.declared.moves.Turn.{Turn}
use Rattle.weave_core.specs.declared.moves.Move.{Move as CoreMove}
use Rattle.weave_core.specs.Codes.{code_of, IsCode}
use Rattle.weave_core.specs.Scenes.{Scene as CoreScene, start, IsEnd}
use Rattle.weave_model.specs.Weavings.{Move, Does, Restarts, track_of, Scene, Front, IsDone, IsFarthest}
use Rattle.weave_model.specs.Coding.{turn_for, Matches}
use Rattle.weave_model.proofs.PlaceLemmas.{There, there-too}
use Rattle.weave_replay.specs.declared.journal.WovenJournal.{WovenJournal}
use Rattle.weave_replay.specs.Entries.{entries_of}
use Rattle.weave_replay.specs.Replays.{journals_of, AreReplayed}
use Rattle.weave_replay.proofs.PlaceLemmas as placed
use Rattle.weave_replay.proofs.PlaceLemmas.{some-is, within}
use Rattle.weave.specs.Coded.{AreAllCoded}
use Rattle.weave.specs.Begins.{tracks_from, begin, IsAtStart}
use Rattle.weave.proofs.ItemLemmas.{all-at}
use Rattle.weave.specs.Woven.{IsUnbegun, AreRows, AreOfRounds, happenings_of, IsWoven}
use Rattle.weave.specs.Unreached.{moves_in, IsReached, IsFirstUnreached}
use Rattle.weave.specs.Counts.{AreCounted, with_restarts, IsMade, AreAllMade, IsFirstLeft}
use Rattle.weave.specs.Plays.{EndRounds, Plays}
use Rattle.weave.proofs.AlongLemmas.{claimed-none}
use Rattle.weave.proofs.ListLemmas.{nth-slice}
use Rattle.weave.proofs.PlanLemmas.{tracks-length, track-there}
use Rattle.weave.proofs.CountLemmas.{to-is}
use Rattle.weave.proofs.FrontLemmas.{IsBehind, front-size, front-behind, no-restart}
use Rattle.weave.proofs.PlaceLemmas.{IsAt, locate}

-- ---- the laws that are used

abbrev pub EndLaw : Type 0
EndLaw = (g : Given) (code : ℕ → List ℕ → ℕ) (count : ℕ) (links : List (List End)) (a : Scene) (s t : CoreScene) → IsCode code count → IsWired a.net → Matches g code count links a s → IsEnd s t
    → (hs : List Happening) × (b : Scene) × (t.told.turns ≡ s.told.turns ++ map turn_for hs) × Matches g code count links b t × IsFarthest g hs a b

abbrev pub LeftLaw : Type 0
LeftLaw = (g : Given) (code : ℕ → List ℕ → ℕ) (count : ℕ) (links : List (List End)) (b : Scene) (t : CoreScene) (router : ℕ) (left : List Move) (moves : List CoreMove)
    → Matches g code count links b t → slice_get b.tracks router ≡ Some left → slice_get t.tracks router ≡ Some moves → length left ≡ length moves

abbrev pub BeginLaw : Type 0
BeginLaw = (routers : List Router) (rows : List (List ℕ)) (journals : List WovenJournal) (wires : List (ℕ × List ℕ)) (tracks : List (List CoreMove)) (net : Network)
    → AreReplayed routers journals → AreAllCoded wires rows journals tracks → IsAtStart routers rows net → Matches given (code_of wires) (length wires) net.links (begin net journals) (start tracks)

abbrev pub CodeLaw : Type 0
CodeLaw = (wires : List (ℕ × List ℕ)) → IsCode (code_of wires) (length wires)

-- ---- where the rounds end

-- a front that goes farthest, which leaves as much as the rounds
pub record Ended (net : Network) (journals : List WovenJournal) (left : List (List CoreMove)) (hs : List Happening) (b : Scene) : Type 0 where
  pub far : IsFarthest given hs (begin net journals) b
  pub same : (router : ℕ) (l : List Move) (ms : List CoreMove) → slice_get b.tracks router ≡ Some l → nth left router ≡ Some ms → length l ≡ length ms
  pub size : length left ≡ length b.tracks

-- a network where the rounds end
pub record Ready (net : Network) (journals : List WovenJournal) (a : LabNet) (left : List (List CoreMove)) (turns : List Turn) : Type 0 where
  pub hs : List Happening
  pub b : Scene
  pub ended : Ended net journals left hs b
  pub plays : Plays net [] turns (tracks_from 0 (length a.seen.routers) journals) a hs b
  pub rounds : AreOfRounds net journals hs
  pub replayed : AreReplayed net.routers journals

none-sent : (ds : List Datagram) (sent : List SentDatagram) → map sent_of ds ≡ sent → sent ≡ [] → ds ≡ []
none-sent [] sent e n = refl
none-sent (d ∷ ds) sent e n = absurd (let l = ap length (e ∙ n) in omega (arith, l))

pub ready : EndLaw → LeftLaw → BeginLaw → CodeLaw → (a : LabNet) (journals : List WovenJournal) (left : List (List CoreMove)) (turns : List Turn) (net : Network) → IsUnbegun a → IsClaimed a.seen → HaveOneLink a.seen.links → EndRounds a.seen journals left turns → StandsFor net a → Ready net journals a left turns
ready end_law left_law begin_law code_law a journals left turns net begun claims wired rounds stands = on matches
  where
    routers : a.seen.routers ≡ net.routers
    routers = ap (λ (s : Seen). s.routers) (sym stands.seen)

    links : a.seen.links ≡ net.links
    links = ap (λ (s : Seen). s.links) (sym stands.seen)

    replayed : AreReplayed net.routers journals
    replayed = subst (λ (rs : List Router). AreReplayed rs journals) routers rounds.replayed

    rows : AreRows net.routers net.links rounds.rows
    rows = subst (λ (ls : List (List End)). AreRows net.routers ls rounds.rows) links (subst (λ (rs : List Router). AreRows rs a.seen.links rounds.rows) routers rounds.rows_are)

    at_start : IsAtStart net.routers rounds.rows net
    at_start = record {
      size = refl;
      rows_size = rows.size;
      opens = λ router first at. at ∙ ap Some (begun.opening router first (ap (λ (rs : List Router). nth rs router) routers ∙ at));
      ports = rows.ports;
      silent = none-sent net.datagrams a.seen.sent (ap (λ (s : Seen). s.sent) stands.seen) begun.silent;
    }

    matches : Matches given (code_of rounds.wires) (length rounds.wires) net.links (begin net journals) (start rounds.tracks)
    matches = begin_law net.routers rounds.rows journals rounds.wires rounds.tracks net replayed rounds.coded at_start

    is_wired : IsWired net
    is_wired = record { once = subst HaveOneLink links wired }

    on : Matches given (code_of rounds.wires) (length rounds.wires) net.links (begin net journals) (start rounds.tracks) → Ready net journals a left turns
    on m = by (end_law given (code_of rounds.wires) (length rounds.wires) net.links (begin net journals) (start rounds.tracks) rounds.last (code_law rounds.wires) is_wired m rounds.ends)
      where
        by : (hs : List Happening) × (b : Scene) × (rounds.last.told.turns ≡ map turn_for hs) × Matches given (code_of rounds.wires) (length rounds.wires) net.links b rounds.last × IsFarthest given hs (begin net journals) b → Ready net journals a left turns
        by e = record {
          hs = e.0;
          b = e.1;
          ended = record {
            far = e.4;
            same = λ router l ms at at_ms. left_law given (code_of rounds.wires) (length rounds.wires) net.links e.1 rounds.last router l ms e.3 at
                (nth-slice rounds.last.tracks router ∙ (ap (λ (ts : List (List CoreMove)). nth ts router) rounds.left_is ∙ at_ms));
            size = sym (e.3.size ∙ ap length rounds.left_is);
          };
          plays = record {
            here = begin net journals;
            rest = e.0;
            stands = record {
              tracks = ap (λ (rs : List Router). tracks_from 0 (length rs) journals) (sym routers);
              net = stands;
              code = code_of rounds.wires;
              count = length rounds.wires;
              links = net.links;
              letters = start rounds.tracks;
              alike = m;
            };
            front = e.4.front;
            turns_are = sym rounds.turns_are ∙ e.2;
            whole = refl;
            led = refl;
            claimed = claimed-none net (subst IsClaimed (sym stands.seen) claims);
          };
          rounds = record {
            wires = rounds.wires;
            rows = rounds.rows;
            tracks = rounds.tracks;
            last = rounds.last;
            rows_are = rows;
            coded = rounds.coded;
            ends = rounds.ends;
            turns = e.2;
          };
          replayed = replayed;
        }

-- ---- a network that it stands for

-- there is one, where nothing was sent
pub opening_net : LabNet → Network
opening_net a = record {
  routers = a.seen.routers;
  links = a.seen.links;
  datagrams = [];
  injected = a.seen.injected;
  past = a.seen.noted.past;
  takings = a.seen.noted.takings;
}

pub opening-stands : (a : LabNet) → IsUnbegun a → StandsFor (opening_net a) a
unfolding opening_net
opening-stands a begun = record { seen = ap (λ (sent : List SentDatagram). record a.seen { sent = sent }) (sym begun.silent) }

-- ---- what is reached

-- what is left of a router's track, and how many of its moves were made
record LeftOf (journals : List WovenJournal) (left : List (List CoreMove)) (made : List ℕ) (b : Scene) (router : ℕ) : Type 0 where
  l : List Move
  at : slice_get b.tracks router ≡ Some l
  count : ℕ
  counted : nth made router ≡ Some count
  count_is : count ≡ moves_in router journals - length l

begin-at : (net : Network) (journals : List WovenJournal) (router : ℕ) → router < length net.routers → slice_get (begin net journals).tracks router ≡ Some (track_of (journals_of router journals))
begin-at net journals router h = nth-slice (begin net journals).tracks router ∙ track-there (length net.routers) router journals h

left-of : (net : Network) (journals : List WovenJournal) (left : List (List CoreMove)) (hs : List Happening) (b : Scene) (made : List ℕ) (router : ℕ) → Ended net journals left hs b → AreCounted (tracks_from 0 (length net.routers) journals) left made → router < length net.routers → LeftOf journals left made b router
left-of net journals left hs b made router ended counts h =
    by (there-too (begin net journals).tracks b.tracks router _ (begin-at net journals router h) (front-size given hs (begin net journals) b ended.far.front))
    (placed.there made router (let s = counts.size in let t = tracks-length 0 (length net.routers) journals in omega (arith, h, s, t)))
  where
    by : There (slice_get b.tracks router) → placed.There (nth made router) → LeftOf journals left made b router
    by x m = of (placed.there left router (let i = within b.tracks router x.item (sym (nth-slice b.tracks router) ∙ x.there) in let s = ended.size in omega (arith, i, s)))
      where
        of : placed.There (nth left router) → LeftOf journals left made b router
        of y = record {
          l = x.item;
          at = x.there;
          count = m.item;
          counted = m.there;
          count_is =
              counts.counted router m.item (track_of (journals_of router journals)) y.item m.there (track-there (length net.routers) router journals h) y.there
              ∙ ap (λ (n : ℕ). moves_in router journals - n) (sym (ended.same router x.item y.item x.there y.there));
        }

-- an entry that was made is reached
made-reached : (net : Network) (journals before : List WovenJournal) (left : List (List CoreMove)) (hs : List Happening) (b : Scene) (made : List ℕ) (j : WovenJournal) (place : ℕ) → Ended net journals left hs b → LeftOf journals left made b j.router → place < length (entries_of j) → IsMade made before j (place + 1) → IsReached net journals before j (place + 1)
made-reached net journals before left hs b made j place ended x inside is = record {
  hs = hs;
  s = b;
  front = ended.far.front;
  reached = record {
    left = x.l;
    there = x.at;
    made =
        let m = is x.count x.counted in
        let c = x.count_is in
        let t = to-is before j (place + 1) (omega (arith, inside)) in
        omega (arith, m, c, t);
  };
}

pub first-unreached : (net : Network) (journals : List WovenJournal) (left : List (List CoreMove)) (hs : List Happening) (b : Scene) (made : List ℕ) (journal entry : ℕ) → Ended net journals left hs b → AreCounted (tracks_from 0 (length net.routers) journals) left made → AllByRecursion (λ (j : WovenJournal). j.router < length net.routers) journals → IsFirstLeft made journals journal entry → IsFirstUnreached net journals journal entry
first-unreached net journals left hs b made journal entry ended counts there x = record {
  place = x.place;
  counted = x.counted;
  j = x.j;
  at = x.at;
  of = router;
  first = x.first;
  numbered = x.numbered;
  there = x.in_it.there;
  unreached = never (left-of net journals left hs b made x.j.router ended counts router);
  earlier = λ other less.
      made-reached net journals (take x.place journals) left hs b made x.j other ended (left-of net journals left hs b made x.j.router ended counts router)
      (let i = x.in_it.there in omega (arith, less, i)) (x.in_it.earlier other less);
  journals_before = λ other k less at place inside.
      made-reached net journals (take other journals) left hs b made k place ended
      (left-of net journals left hs b made k.router ended counts (all-at (λ (j : WovenJournal). j.router < length net.routers) journals other k there at))
      inside (x.earlier other k less at place inside);
}
  where
    router : x.j.router < length net.routers
    router = all-at (λ (j : WovenJournal). j.router < length net.routers) journals x.place x.j there x.at

    never : LeftOf journals left made b x.j.router → IsReached net journals (take x.place journals) x.j (x.first + 1) → ⊥
    never l r =
        let less = ended.far.farthest r.s r.hs r.front x.j.router l.l r.reached.left l.at r.reached.there in
        let same : x.in_it.count ≡ l.count = some-is x.in_it.count l.count (sym x.in_it.counted ∙ l.counted) in
        let c = l.count_is in
        let over = x.in_it.behind in
        let reached = r.reached.made in
        omega (arith, less, same, c, over, reached)

-- ---- nothing is left

-- where all entries were made, nothing is left
pub none-left : (net : Network) (journals : List WovenJournal) (left : List (List CoreMove)) (hs : List Happening) (b : Scene) (made : List ℕ) → Ended net journals left hs b → AreCounted (tracks_from 0 (length net.routers) journals) left made → AreAllMade made journals (length journals) → IsDone b
none-left net journals left hs b made ended counts all router [] at = refl
none-left net journals left hs b made ended counts all router (Restarts ∷ more) at = absurd (no-restart given hs (begin net journals) b router more ended.far at)
none-left net journals left hs b made ended counts all router (Does e ∷ more) at = absurd (over (front-behind given hs (begin net journals) b ended.far.front router (track_of (journals_of router journals)) (Does e ∷ more) (begin-at net journals router inside) at))
  where
    inside : router < length net.routers
    inside =
        let w = within b.tracks router (Does e ∷ more) (sym (nth-slice b.tracks router) ∙ at) in
        let s = front-size given hs (begin net journals) b ended.far.front in
        let t = tracks-length 0 (length net.routers) journals in
        omega (arith, w, s, t)

    over : IsBehind (track_of (journals_of router journals)) (Does e ∷ more) → ⊥
    over x = of (locate journals router x.made more e x.whole_is)
      where
        of : IsAt router journals (length x.made) → ⊥
        of y = contra (left-of net journals left hs b made router ended counts inside)
          where
            contra : LeftOf journals left made b router → ⊥
            contra l =
                let m = all y.place y.j (within journals y.place y.j y.at) y.at y.entry y.inside l.count (ap (nth made) y.of ∙ l.counted) in
                let t = to-is (take y.place journals) y.j (y.entry + 1) (let i = y.inside in omega (arith, i)) in
                let w = y.counted in
                let c = l.count_is in
                let k : length l.l ≡ suc (length more) = ap length (some-is l.l (Does e ∷ more) (sym l.at ∙ at)) in
                let n = ap length x.whole_is ∙ length-append x.made (Does e ∷ more) in
                let r = ap (λ (k : ℕ). with_restarts (journals_of k (take y.place journals))) y.of in
                omega (arith, m, t, w, c, k, n, r)

-- ---- what is woven

abbrev no_turns : List Turn → ℕ
no_turns [] = 0
no_turns (t ∷ ts) = 1

nothing-more : (rest : List Happening) → [] ≡ map turn_for rest → rest ≡ []
nothing-more [] e = refl
nothing-more (h ∷ rest) e = absurd (let n : 0 ≡ 1 = ap no_turns e in omega (arith, n))

pub woven : (net : Network) (journals : List WovenJournal) (a after : LabNet) (left : List (List CoreMove)) (turns : List Turn) (schedule : List LabEvent) (plans : List (List Move)) → (r : Ready net journals a left turns) → Plays net (happenings_of schedule) [] plans after r.hs r.b → IsDone r.b → IsWoven net journals schedule after
woven net journals a after left turns schedule plans r p done = record {
  last = r.b;
  replayed = r.replayed;
  woven = record { front = subst (λ (hs : List Happening). Front given hs (begin net journals) r.b) same r.ended.far.front; done = done };
  stands = subst (λ (s : Scene). StandsFor s.net after) (sym at_end) p.stands.net;
  rounds = subst (λ (hs : List Happening). AreOfRounds net journals hs) same r.rounds;
  claimed = p.claimed;
}
  where
    none : p.rest ≡ []
    none = nothing-more p.rest p.turns_are

    at_end : r.b ≡ p.here
    at_end = subst (λ (hs : List Happening). Front given hs p.here r.b) none p.front

    same : r.hs ≡ happenings_of schedule
    same = p.whole ∙ (ap (λ (hs : List Happening). happenings_of schedule ++ hs) none ∙ append-nil (happenings_of schedule))
