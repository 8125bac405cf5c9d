-- A network and what is woven go on alike.
use Rattle.std.proofs.Common.{◌≡◌, ◌≢◌, ℕ, ◌-◌, ◌==◌, ◌⊎◌, inl, inr, true, false, List, [], ◌∷◌, ◌++◌, map, length, Option, Some, None, slice_get, set, refl, sym, ap, ◌∙◌, subst}
use Rattle.std.proofs.lemmas.List.{length-set, map-append}
use Rattle.std.proofs.lemmas.Bool.Decides.{eqb_tells}
use Rattle.model_router.specs.Places.{nth, with_nth}
use Rattle.model_router.specs.Givens.{Given}
use Rattle.model_router.specs.Routers.{Router}
use Rattle.model_network.specs.declared.end.End.{End}
use Rattle.model_network.specs.Networks.{octets_of, Network, place_in, numbered}
use Rattle.model_network.specs.Runs.{Happening, Tick, PullOn, Deliver, Restart, SetMetric, SetOverload, SetPrefix, apply}
use Rattle.weave_core.specs.declared.moves.Move.{Move as CoreMove}
use Rattle.weave_core.specs.declared.moves.Sent.{Sent as CoreSent}
use Rattle.weave_core.specs.declared.moves.Turn.{Turn}
use Rattle.weave_core.specs.Fits.{sent_by, turn_by}
use Rattle.weave_core.specs.Scenes.{Scene as CoreScene}
use Rattle.weave_core.specs.Fronts.{numbered as core_numbered, Takes, IsTurn, Goes as CoreGoes, Front as CoreFront}
use Rattle.weave_model.specs.Entries.{Deed, Second, Take, Pull, Metric, Overload, Prefix, Answer, Entry}
use Rattle.weave_model.specs.Weavings.{Move, Does, Restarts, Delivers, IsDeed, IsMove, Scene, Goes, Front}
use Rattle.weave_core.specs.Codes.{IsCode}
use Rattle.weave_model.specs.Coding.{IsTake, IsDeedCode, IsMoveCode, AreCodes, after_move, IsGoodTrack, letter_of, turn_for, IsPair, Matches}
use Rattle.model_network.proofs.ChangeLemmas.{nth-set, nth-other}
use Rattle.weave_core.proofs.PlaceLemmas.{slice_get-set, slice_get-set_other}
use Rattle.weave_core.proofs.FrontLemmas.{front-on as core-front-on}
use Rattle.weave_model.proofs.PlaceLemmas.{There, there-too, Image, image-numbered, numbered-image, Fitting, fitting-is, is-fitting}
use Rattle.weave_model.proofs.ApplyLemmas.{AreWired, Applied, move-applied}

list_of : {A : Type 0} → Option (List A) → List A
list_of None = []
list_of (Some list) = list

some-list : {A : Type 0} → (a b : List A) → Some a ≡ Some b → a ≡ b
unfolding list_of
some-list a b e = ap list_of e

-- both go on alike
matches-on : (given : Given) (code : ℕ → List ℕ → ℕ) (count : ℕ) (links : List (List End)) (a b : Scene) (s t : CoreScene) (i : ℕ) (move : Move) (more : List Move) (m : CoreMove) (ms : List CoreMove) (h : Happening) → AreWired links → Matches given code count links a s → slice_get a.tracks i ≡ Some (move ∷ more) → slice_get s.tracks i ≡ Some (m ∷ ms) → b.tracks ≡ set a.tracks i more → t.tracks ≡ set s.tracks i ms → b.net ≡ apply given a.net h → t.told.sent ≡ s.told.sent ++ sent_by i m.sends → IsMove a.net i move h → Matches given code count links b t
matches-on given code count links a b s t i move more m ms h wired mt at core btracks ttracks bnet tsent is =
    on (mt.pairs i (move ∷ more) (m ∷ ms) at core)
  where
    on : IsPair given code count links i a.net (move ∷ more) (m ∷ ms) → Matches given code count links b t
    on p = by (move-applied given code count links a.net i p.r move m h mt.links_are wired p.at is p.good.0 p.codes.0)
      where
        by : Applied code a.net (apply given a.net h) i (after_move given p.r move) m.sends → Matches given code count links b t
        by x = record {
          links_are = ap (λ (n : Network). n.links) bnet ∙ x.links ∙ mt.links_are;
          sent = tsent ∙ ap (λ (ss : List CoreSent). ss ++ sent_by i m.sends) mt.sent
              ∙ ap (λ (ss : List CoreSent). map (letter_of code) a.net.datagrams ++ ss) (sym x.sent)
              ∙ sym (map-append (letter_of code) a.net.datagrams x.new)
              ∙ ap (map (letter_of code)) (sym x.datagrams ∙ ap (λ (n : Network). n.datagrams) (sym bnet));
          pairs = λ q left ls e f. pair q left ls e f (eqb_tells q i);
          size = ap length btracks ∙ length-set a.tracks i more ∙ mt.size ∙ sym (length-set s.tracks i ms) ∙ ap length (sym ttracks);
        }
          where
            routers : b.net.routers ≡ with_nth a.net.routers i (after_move given p.r move)
            routers = ap (λ (n : Network). n.routers) bnet ∙ x.routers

            other : (q : ℕ) (left : List Move) (ls : List CoreMove) → q ≢ i → IsPair given code count links q a.net left ls → IsPair given code count links q b.net left ls
            other q left ls n y = record {
              r = y.r;
              at = ap (λ (rs : List Router). nth rs q) routers ∙ nth-other a.net.routers i (after_move given p.r move) q (λ (z : i ≡ q). n (sym z)) ∙ y.at;
              codes = y.codes;
              good = y.good;
            }

            own : (left : List Move) (ls : List CoreMove) → more ≡ left → ms ≡ ls → IsPair given code count links i b.net left ls
            own left ls d e = record {
              r = after_move given p.r move;
              at = ap (λ (rs : List Router). nth rs i) routers ∙ nth-set a.net.routers i p.r (after_move given p.r move) p.at;
              codes = subst (λ (y : List CoreMove). AreCodes code count links i left y) e (subst (λ (y : List Move). AreCodes code count links i y ms) d p.codes.1);
              good = subst (λ (y : List Move). IsGoodTrack given (after_move given p.r move) y) d p.good.1;
            }

            pair : (q : ℕ) (left : List Move) (ls : List CoreMove) → slice_get b.tracks q ≡ Some left → slice_get t.tracks q ≡ Some ls → (((q == i) ≡ true) × (q ≡ i)) ⊎ (((q == i) ≡ false) × (q ≢ i)) → IsPair given code count links q b.net left ls
            pair q left ls e f (inr n) =
                other q left ls n.1
                (mt.pairs q left ls
                (sym (ap (λ (ts : List (List Move)). slice_get ts q) btracks ∙ slice_get-set_other a.tracks i q more n.1) ∙ e)
                (sym (ap (λ (ts : List (List CoreMove)). slice_get ts q) ttracks ∙ slice_get-set_other s.tracks i q ms n.1) ∙ f))
            pair q left ls e f (inl n) =
                subst (λ (k : ℕ). IsPair given code count links k b.net left ls) (sym n.1)
                (own left ls
                (some-list more left (sym (ap (λ (ts : List (List Move)). slice_get ts i) btracks ∙ slice_get-set a.tracks i (move ∷ more) more at) ∙ subst (λ (k : ℕ). slice_get b.tracks k ≡ Some left) n.1 e))
                (some-list ms ls (sym (ap (λ (ts : List (List CoreMove)). slice_get ts i) ttracks ∙ slice_get-set s.tracks i (m ∷ ms) ms core) ∙ subst (λ (k : ℕ). slice_get t.tracks k ≡ Some ls) n.1 f)))

front-on : (given : Given) (first second : List Happening) (a b c : Scene) → Front given first a b → Front given second b c → Front given (first ++ second) a c
front-on given [] second a b c f g = subst (λ (s : Scene). Front given second s c) f g
front-on given (h ∷ first) second a b c f g = (f.0, f.1, front-on given first second f.0 b c f.2 g)

-- ---- from letters to the network

-- an event that is a router's move, in a turn
record Event (net : Network) (i : ℕ) (move : Move) (turn : Turn) : Type 0 where
  h : Happening
  says : IsMove net i move h
  turn_is : turn_for h ≡ turn

-- a turn with a move that needs nothing
free-turn : (i : ℕ) (needs : Option ℕ) (sent : List CoreSent) (turn : Turn) → needs ≡ None → IsTurn i needs sent turn → turn_by i None ≡ turn
free-turn i needs sent turn e t = sym (subst (λ (n : Option ℕ). IsTurn i n sent turn) e t)

-- of a take whose letter was sent
record Delivery (net : Network) (i place : ℕ) (octets : List ℕ) (turn : Turn) : Type 0 where
  h : Happening
  delivers : Delivers net i place octets h
  turn_is : turn_for h ≡ turn

take-event : (code : ℕ → List ℕ → ℕ) (count : ℕ) (links : List (List End)) (net : Network) (i place : ℕ) (octets : List ℕ) (answer : Answer) (m : CoreMove) (sent : List CoreSent) (turn : Turn) → IsCode code count → net.links ≡ links → sent ≡ map (letter_of code) net.datagrams → (c : IsTake code count links i place octets answer m) → Takes i (code c.on.link octets) sent turn → Delivery net i place octets turn
take-event code count links net i place octets answer m sent turn is_code same all c t =
    of (image-numbered (letter_of code) net.datagrams t.number t.letter_sent (subst (λ (ss : List CoreSent). core_numbered ss t.number ≡ Some t.letter_sent) all t.there)) (fitting-is i (code c.on.link octets) t.letter_sent t.fitting)
  where
    of : Image (letter_of code) (numbered net.datagrams t.number) t.letter_sent → Fitting i (code c.on.link octets) t.letter_sent → Delivery net i place octets turn
    of im f =
        let letter : code c.on.link octets ≡ code im.item.link (octets_of im.item) = sym (ap (λ (s : CoreSent). s.letter) im.image ∙ f.letter_is) in
        let told = is_code.tells c.on.link im.item.link octets (octets_of im.item) c.below letter in
        record {
          h = Deliver t.number i;
          delivers = record {
            number = t.number;
            d = im.item;
            there = im.there;
            other = λ (e : im.item.sender ≡ i). f.other (sym (ap (λ (s : CoreSent). s.sender) im.image) ∙ e);
            on = subst (λ (l : ℕ). place_in (nth net.links l) i ≡ Some place) told.0 (subst (λ (ls : List (List End)). place_in (nth ls c.on.link) i ≡ Some place) (sym same) c.on.on);
            octets_are = sym told.1;
            event = refl;
          };
          turn_is = sym t.turn_is;
        }

deed-event : (code : ℕ → List ℕ → ℕ) (count : ℕ) (links : List (List End)) (net : Network) (i : ℕ) (e : Entry) (deed : Deed) (m : CoreMove) (sent : List CoreSent) (turn : Turn) → IsCode code count → net.links ≡ links → sent ≡ map (letter_of code) net.datagrams → e.deed ≡ deed → IsDeedCode code count links i deed e.answer m → IsTurn i m.needs sent turn → Event net i (Does e) turn
deed-event code count links net i e Second m sent turn is_code same all d c t = record { h = Tick i; says = subst (λ (x : Deed). IsDeed net i x (Tick i)) (sym d) refl; turn_is = free-turn i m.needs sent turn c.needs_are t }
deed-event code count links net i e (Metric circuit metric) m sent turn is_code same all d c t = record { h = SetMetric i (circuit - 1) metric; says = subst (λ (x : Deed). IsDeed net i x (SetMetric i (circuit - 1) metric)) (sym d) refl; turn_is = free-turn i m.needs sent turn c.needs_are t }
deed-event code count links net i e (Overload on) m sent turn is_code same all d c t = record { h = SetOverload i on; says = subst (λ (x : Deed). IsDeed net i x (SetOverload i on)) (sym d) refl; turn_is = free-turn i m.needs sent turn c.needs_are t }
deed-event code count links net i e (Prefix prefix metric) m sent turn is_code same all d c t = record { h = SetPrefix i prefix metric; says = subst (λ (x : Deed). IsDeed net i x (SetPrefix i prefix metric)) (sym d) refl; turn_is = free-turn i m.needs sent turn c.needs_are t }
deed-event code count links net i e (Pull circuit) m sent turn is_code same all d c t =
    record {
      h = PullOn i c.link;
      says = subst (λ (x : Deed). IsDeed net i x (PullOn i c.link)) (sym d)
          (record { link = c.link; on = subst (λ (ls : List (List End)). place_in (nth ls c.link) i ≡ Some (circuit - 1)) (sym same) c.on; event = refl });
      turn_is = free-turn i m.needs sent turn c.needs_are t;
    }
deed-event code count links net i e (Take circuit octets) m sent turn is_code same all d c t =
    of (take-event code count links net i (circuit - 1) octets e.answer m sent turn is_code same all c (subst (λ (n : Option ℕ). IsTurn i n sent turn) c.on.needs_are t))
  where
    of : Delivery net i (circuit - 1) octets turn → Event net i (Does e) turn
    of x = record { h = x.h; says = subst (λ (y : Deed). IsDeed net i y x.h) (sym d) x.delivers; turn_is = x.turn_is }

move-event : (code : ℕ → List ℕ → ℕ) (count : ℕ) (links : List (List End)) (net : Network) (i : ℕ) (move : Move) (m : CoreMove) (sent : List CoreSent) (turn : Turn) → IsCode code count → net.links ≡ links → sent ≡ map (letter_of code) net.datagrams → IsMoveCode code count links i move m → IsTurn i m.needs sent turn → Event net i move turn
move-event code count links net i (Does e) m sent turn is_code same all c t = deed-event code count links net i e e.deed m sent turn is_code same all refl c t
move-event code count links net i Restarts m sent turn is_code same all c t = record { h = Restart i; says = refl; turn_is = free-turn i m.needs sent turn c.needs_are t }

-- a front of the network in these turns, and a scene that matches
pub record Ahead (given : Given) (code : ℕ → List ℕ → ℕ) (count : ℕ) (links : List (List End)) (a : Scene) (t : CoreScene) (turns : List Turn) : Type 0 where
  pub hs : List Happening
  pub b : Scene
  pub front : Front given hs a b
  pub turns_are : map turn_for hs ≡ turns
  pub alike : Matches given code count links b t

one-event : (given : Given) (code : ℕ → List ℕ → ℕ) (count : ℕ) (links : List (List End)) (a : Scene) (s t : CoreScene) (turn : Turn) → IsCode code count → AreWired links → Matches given code count links a s → CoreGoes turn s t → Ahead given code count links a t (turn ∷ [])
one-event given code count links a s t turn is_code wired mt g = with_left (there-too s.tracks a.tracks turn.party (g.next ∷ g.more) g.there mt.size)
  where
    put : (move : Move) (more : List Move) → slice_get a.tracks turn.party ≡ Some (move ∷ more) → Event a.net turn.party move turn → Ahead given code count links a t (turn ∷ [])
    put move more at e =
        let b : Scene = record { tracks = set a.tracks turn.party more; net = apply given a.net e.h } in
        record {
          hs = e.h ∷ [];
          b = b;
          front = (b, record { router = turn.party; move = move; more = more; there = at; says = e.says; tracks = refl; net = refl }, refl);
          turns_are = ap (λ (x : Turn). x ∷ []) e.turn_is;
          alike = matches-on given code count links a b s t turn.party move more g.next g.more e.h wired mt at g.there refl g.tracks refl g.sent e.says;
        }

    of : (left : List Move) → slice_get a.tracks turn.party ≡ Some left → AreCodes code count links turn.party left (g.next ∷ g.more) → Ahead given code count links a t (turn ∷ [])
    of [] at c = absurd c
    of (move ∷ more) at c = put move more at (move-event code count links a.net turn.party move g.next s.told.sent turn is_code mt.links_are mt.sent c.0 g.good)

    with_left : There (slice_get a.tracks turn.party) → Ahead given code count links a t (turn ∷ [])
    with_left x = of x.item x.there (mt.pairs turn.party x.item (g.next ∷ g.more) x.there g.there).codes

-- each front of letters is one of the network
pub events-of : (given : Given) (code : ℕ → List ℕ → ℕ) (count : ℕ) (links : List (List End)) (a : Scene) (s t : CoreScene) (turns : List Turn) → IsCode code count → AreWired links → Matches given code count links a s → CoreFront turns s t → Ahead given code count links a t turns
events-of given code count links a s t [] is_code wired mt f = record { hs = []; b = a; front = refl; turns_are = refl; alike = subst (λ (x : CoreScene). Matches given code count links a x) (sym f) mt }
events-of given code count links a s t (turn ∷ turns) is_code wired mt f =
    let one = one-event given code count links a s f.0 turn is_code wired mt f.1 in
    let rest = events-of given code count links one.b f.0 t turns is_code wired one.alike f.2 in
    record { hs = one.hs ++ rest.hs; b = rest.b; front = front-on given one.hs rest.hs a one.b rest.b one.front rest.front; turns_are = map-append turn_for one.hs rest.hs ∙ ap (λ (xs : List Turn). xs ++ map turn_for rest.hs) one.turns_are ∙ ap (λ (xs : List Turn). turn ∷ xs) rest.turns_are; alike = rest.alike }

-- ---- from the network to letters

-- a turn that is a move's
record Playing (i : ℕ) (m : CoreMove) (sent : List CoreSent) : Type 0 where
  turn : Turn
  by : turn.party ≡ i
  good : IsTurn turn.party m.needs sent turn

free : (i : ℕ) (m : CoreMove) (sent : List CoreSent) → m.needs ≡ None → Playing i m sent
free i m sent e = record { turn = turn_by i None; by = refl; good = subst (λ (n : Option ℕ). IsTurn i n sent (turn_by i None)) (sym e) refl }

deed-turn : (code : ℕ → List ℕ → ℕ) (count : ℕ) (links : List (List End)) (net : Network) (i : ℕ) (deed : Deed) (answer : Answer) (m : CoreMove) (sent : List CoreSent) (h : Happening) → AreWired links → net.links ≡ links → sent ≡ map (letter_of code) net.datagrams → IsDeedCode code count links i deed answer m → IsDeed net i deed h → Playing i m sent
deed-turn code count links net i Second answer m sent h wired same all c is = free i m sent c.needs_are
deed-turn code count links net i (Metric circuit metric) answer m sent h wired same all c is = free i m sent c.needs_are
deed-turn code count links net i (Overload on) answer m sent h wired same all c is = free i m sent c.needs_are
deed-turn code count links net i (Prefix prefix metric) answer m sent h wired same all c is = free i m sent c.needs_are
deed-turn code count links net i (Pull circuit) answer m sent h wired same all c is = free i m sent c.needs_are
deed-turn code count links net i (Take circuit octets) answer m sent h wired same all c is =
    let turn : Turn = turn_by i (Some is.number) in
    let link : is.d.link ≡ c.on.link = wired.once is.d.link c.on.link i (circuit - 1) (subst (λ (ls : List (List End)). place_in (nth ls is.d.link) i ≡ Some (circuit - 1)) same is.on) c.on.on in
    record {
      turn = turn;
      by = refl;
      good = subst (λ (n : Option ℕ). IsTurn i n sent turn) (sym c.on.needs_are)
          (record {
            number = is.number;
            letter_sent = letter_of code is.d;
            turn_is = refl;
            there = subst (λ (ss : List CoreSent). core_numbered ss is.number ≡ Some (letter_of code is.d)) (sym all) (numbered-image (letter_of code) net.datagrams is.number is.d is.there);
            fitting = is-fitting i (code c.on.link octets) (letter_of code is.d) (ap (λ (l : ℕ). code l (octets_of is.d)) link ∙ ap (code c.on.link) is.octets_are) is.other;
          });
    }

move-turn : (code : ℕ → List ℕ → ℕ) (count : ℕ) (links : List (List End)) (net : Network) (i : ℕ) (move : Move) (m : CoreMove) (sent : List CoreSent) (h : Happening) → AreWired links → net.links ≡ links → sent ≡ map (letter_of code) net.datagrams → IsMoveCode code count links i move m → IsMove net i move h → Playing i m sent
move-turn code count links net i (Does e) m sent h wired same all c is = deed-turn code count links net i e.deed e.answer m sent h wired same all c is
move-turn code count links net i Restarts m sent h wired same all c is = free i m sent c.needs_are

-- a front of letters, and a scene that matches
pub record Told (given : Given) (code : ℕ → List ℕ → ℕ) (count : ℕ) (links : List (List End)) (b : Scene) (s : CoreScene) : Type 0 where
  pub turns : List Turn
  pub t : CoreScene
  pub front : CoreFront turns s t
  pub alike : Matches given code count links b t

one-turn : (given : Given) (code : ℕ → List ℕ → ℕ) (count : ℕ) (links : List (List End)) (a b : Scene) (s : CoreScene) (h : Happening) → AreWired links → Matches given code count links a s → Goes given h a b → Told given code count links b s
one-turn given code count links a b s h wired mt g = with_left (there-too a.tracks s.tracks g.router (g.move ∷ g.more) g.there (sym mt.size))
  where
    put : (m : CoreMove) (ms : List CoreMove) → slice_get s.tracks g.router ≡ Some (m ∷ ms) → Playing g.router m s.told.sent → Told given code count links b s
    put m ms at p =
        let t : CoreScene = record { tracks = set s.tracks p.turn.party ms; told = record { sent = s.told.sent ++ sent_by p.turn.party m.sends; turns = s.told.turns ++ (p.turn ∷ []) } } in
        record {
          turns = p.turn ∷ [];
          t = t;
          front = (t, record { next = m; more = ms; there = ap (slice_get s.tracks) p.by ∙ at; good = p.good; tracks = refl; sent = refl; turns = refl }, refl);
          alike = matches-on given code count links a b s t g.router g.move g.more m ms h wired mt g.there at g.tracks (ap (λ (k : ℕ). set s.tracks k ms) p.by) g.net (ap (λ (k : ℕ). s.told.sent ++ sent_by k m.sends) p.by) g.says;
        }

    of : (ls : List CoreMove) → slice_get s.tracks g.router ≡ Some ls → AreCodes code count links g.router (g.move ∷ g.more) ls → Told given code count links b s
    of [] at c = absurd c
    of (m ∷ ms) at c = put m ms at (move-turn code count links a.net g.router g.move m s.told.sent h wired mt.links_are mt.sent c.0 g.says)

    with_left : There (slice_get s.tracks g.router) → Told given code count links b s
    with_left x = of x.item x.there (mt.pairs g.router (g.move ∷ g.more) x.item g.there x.there).codes

-- each front of the network is one of letters
pub turns-of : (given : Given) (code : ℕ → List ℕ → ℕ) (count : ℕ) (links : List (List End)) (a b : Scene) (s : CoreScene) (hs : List Happening) → AreWired links → Matches given code count links a s → Front given hs a b → Told given code count links b s
turns-of given code count links a b s [] wired mt f = record { turns = []; t = s; front = refl; alike = subst (λ (x : Scene). Matches given code count links x s) (sym f) mt }
turns-of given code count links a b s (h ∷ hs) wired mt f =
    let one = one-turn given code count links a f.0 s h wired mt f.1 in
    let rest = turns-of given code count links f.0 b one.t hs wired one.alike f.2 in
    record { turns = one.turns ++ rest.turns; t = rest.t; front = core-front-on one.turns rest.turns s one.t rest.t one.front rest.front; alike = rest.alike }
