-- Rounds are a front, and no front goes further.
use Rattle.std.proofs.Common.{◌≡◌, ◌≢◌, ℕ, zero, suc, ◌+◌, ◌==◌, ◌⊎◌, inl, inr, Bool, true, false, List, [], ◌∷◌, ◌++◌, length, Option, Some, None, slice_get, set, if◌then◌else◌, refl, sym, ap, ◌∙◌, subst, arith}
use Rattle.std.proofs.lemmas.List.{append_assoc, append-nil, length-append}
use Rattle.std.proofs.lemmas.Bool.Decides.{eqb_tells}
use Rattle.weave_core.specs.declared.moves.Move.{Move}
use Rattle.weave_core.specs.declared.moves.Sent.{Sent}
use Rattle.weave_core.specs.declared.moves.Turn.{Turn}
use Rattle.weave_core.specs.Fits.{fits, first_fit, turn_by, taking, turn_of, sent_by}
use Rattle.weave_core.specs.Scenes.{Told, Scene, Walk, as_far, round_from, round_of, rounds, IsEnd}
use Rattle.weave_core.specs.Fronts.{numbered, Takes, IsTurn, Goes, Front, IsRest, IsFarther}
use Rattle.weave_core.proofs.PlaceLemmas.{slice_get-set, slice_get-set_other}
use Rattle.weave_core.proofs.RoundLemmas.{walked, went, round-stuck}

-- ---- those sent

abbrev In : Sent → List Sent → Type 0
In s [] = ⊥
In s (x ∷ xs) = (s ≡ x) ⊎ In s xs

in-left : (s : Sent) (xs ys : List Sent) → In s xs → In s (xs ++ ys)
in-left s [] ys i = absurd i
in-left s (x ∷ xs) ys (inl e) = inl e
in-left s (x ∷ xs) ys (inr i) = inr (in-left s xs ys i)

in-right : (s : Sent) (xs ys : List Sent) → In s ys → In s (xs ++ ys)
in-right s [] ys i = i
in-right s (x ∷ xs) ys i = inr (in-right s xs ys i)

in-split : (s : Sent) (xs ys : List Sent) → In s (xs ++ ys) → In s xs ⊎ In s ys
in-split s [] ys i = inr i
in-split s (x ∷ xs) ys (inl e) = inl (inl e)
in-split s (x ∷ xs) ys (inr i) = sooner (in-split s xs ys i)
  where
    sooner : In s xs ⊎ In s ys → In s (x ∷ xs) ⊎ In s ys
    sooner (inl j) = inl (inr j)
    sooner (inr j) = inr j

in-nth : (sent : List Sent) (i : ℕ) (s : Sent) → slice_get sent i ≡ Some s → In s sent
in-nth [] i s e = absurd (cc)
in-nth (x ∷ sent) zero s e = inl (sym (ap (λ (o : Option Sent). or x o) e))
  where
    or : Sent → Option Sent → Sent
    or x None = x
    or x (Some y) = y
in-nth (x ∷ sent) (suc i) s e = inr (in-nth sent i s e)

in-numbered : (sent : List Sent) (n : ℕ) (s : Sent) → numbered sent n ≡ Some s → In s sent
in-numbered sent zero s e = absurd (cc)
in-numbered sent (suc i) s e = in-nth sent i s e

-- what fits was sent, so there is a first that fits
some-fit : (party letter count : ℕ) (sent : List Sent) (s : Sent) → In s sent → fits party letter s ≡ true → first_fit party letter count sent ≢ None
some-fit party letter count [] s i f = absurd i
some-fit party letter count (x ∷ sent) s (inl e) f =
    subst (λ (b : Bool). (if b then Some (count + 1) else first_fit party letter (count + 1) sent) ≢ None) (sym f ∙ ap (fits party letter) e) (λ (h : Some (count + 1) ≡ None). absurd (cc))
some-fit party letter count (x ∷ sent) s (inr i) f = by (fits party letter x) (some-fit party letter (count + 1) sent s i f)
  where
    by : (b : Bool) → first_fit party letter (count + 1) sent ≢ None → (if b then Some (count + 1) else first_fit party letter (count + 1) sent) ≢ None
    by true h = λ (e : Some (count + 1) ≡ None). absurd (cc)
    by false h = h

-- the first that fits is there, and fits
record Found (party letter count : ℕ) (sent : List Sent) (n : ℕ) : Type 0 where
  place : ℕ
  s : Sent
  number : n ≡ count + suc place
  there : slice_get sent place ≡ Some s
  fitting : fits party letter s ≡ true

first-found : (party letter count : ℕ) (sent : List Sent) (n : ℕ) → first_fit party letter count sent ≡ Some n → Found party letter count sent n
first-found party letter count [] n e = absurd (cc)
first-found party letter count (x ∷ sent) n e = by (fits party letter x) refl e (λ h. later (first-found party letter (count + 1) sent n h))
  where
    or : ℕ → Option ℕ → ℕ
    or d None = d
    or d (Some a) = a

    some-is : (a b : ℕ) → Some a ≡ Some b → b ≡ a
    some-is a b e = sym (ap (or a) e)

    later : Found party letter (count + 1) sent n → Found party letter count (x ∷ sent) n
    later f = record { place = suc f.place; s = f.s; number = omega (arith, f.number); there = f.there; fitting = f.fitting }

    by : (b : Bool) → fits party letter x ≡ b → (if b then Some (count + 1) else first_fit party letter (count + 1) sent) ≡ Some n → (first_fit party letter (count + 1) sent ≡ Some n → Found party letter count (x ∷ sent) n) → Found party letter count (x ∷ sent) n
    by true f e h = record { place = zero; s = x; number = some-is (count + 1) n e ∙ omega arith; there = refl; fitting = f }
    by false f e h = h e

-- ---- turns

taken-good : (party letter : ℕ) (sent : List Sent) (o : Option ℕ) (t : Turn) → taking party o ≡ Some t → ((n : ℕ) → o ≡ Some n → Found party letter 0 sent n) → Takes party letter sent t
taken-good party letter sent None t e h = absurd (cc)
taken-good party letter sent (Some n) t e h = of (h n refl)
  where
    or : Turn → Option Turn → Turn
    or d None = d
    or d (Some x) = x

    at : (f : Found party letter 0 sent n) → n ≡ suc f.place
    at f = omega (arith, f.number)

    of : Found party letter 0 sent n → Takes party letter sent t
    of f = record {
      number = n;
      letter_sent = f.s;
      turn_is = sym (ap (or t) e);
      there = subst (λ (k : ℕ). numbered sent k ≡ Some f.s) (sym (at f)) f.there;
      fitting = f.fitting;
    }

turn-good : (party : ℕ) (needs : Option ℕ) (sent : List Sent) (t : Turn) → turn_of party needs sent ≡ Some t → IsTurn party needs sent t
turn-good party None sent t e = sym (ap (or t) e)
  where
    or : Turn → Option Turn → Turn
    or d None = d
    or d (Some x) = x
turn-good party (Some letter) sent t e = taken-good party letter sent (first_fit party letter 0 sent) t e (λ n f. first-found party letter 0 sent n f)

turn-party : (party : ℕ) (needs : Option ℕ) (sent : List Sent) (t : Turn) → turn_of party needs sent ≡ Some t → t.party ≡ party
turn-party party None sent t e = ap (λ (o : Option Turn). of o) (sym e)
  where
    of : Option Turn → ℕ
    of None = party
    of (Some x) = x.party
turn-party party (Some letter) sent t e = by (first_fit party letter 0 sent) e
  where
    of : Option Turn → ℕ
    of None = party
    of (Some x) = x.party

    by : (o : Option ℕ) → taking party o ≡ Some t → t.party ≡ party
    by None e = absurd (cc)
    by (Some n) e = ap of (sym e)

-- a good turn by some of those sent can be made where no fewer were sent
no-turn : (party : ℕ) (needs : Option ℕ) (few many : List Sent) (t : Turn) → ((s : Sent) → In s few → In s many) → IsTurn party needs few t → turn_of party needs many ≢ None
no-turn party None few many t within g = λ (e : Some (turn_by party None) ≡ None). absurd (cc)
no-turn party (Some letter) few many t within g =
    by (first_fit party letter 0 many) (some-fit party letter 0 many g.letter_sent (within g.letter_sent (in-numbered few g.number g.letter_sent g.there)) g.fitting)
  where
    by : (o : Option ℕ) → o ≢ None → taking party o ≢ None
    by None n = absurd (n refl)
    by (Some k) n = λ (e : Some (turn_by party (Some k)) ≡ None). absurd (cc)

-- ---- rounds are a front

-- turns that lead from one scene to another
record Leads (a b : Scene) : Type 0 where
  turns : List Turn
  told : b.told.turns ≡ a.told.turns ++ turns
  front : Front turns a b

leads-nowhere : (a : Scene) → Leads a a
leads-nowhere a = record { turns = []; told = sym (append-nil a.told.turns); front = refl }

pub front-on : (first second : List Turn) (a b c : Scene) → Front first a b → Front second b c → Front (first ++ second) a c
front-on [] second a b c f g = subst (λ (s : Scene). Front second s c) f g
front-on (t ∷ first) second a b c f g = (f.0, f.1, front-on first second f.0 b c f.2 g)

leads-on : (a b c : Scene) → Leads a b → Leads b c → Leads a c
leads-on a b c f g = record {
  turns = f.turns ++ g.turns;
  told = g.told ∙ ap (λ (ts : List Turn). ts ++ g.turns) f.told ∙ append_assoc a.told.turns f.turns g.turns;
  front = front-on f.turns g.turns a b c f.front g.front;
}

leads-by : (t : Turn) (a b : Scene) → Goes t a b → Leads a b
leads-by t a b g = record { turns = t ∷ []; told = g.turns; front = (b, g, refl) }

nth-middle : (done : List (List Move)) (x : List Move) (more : List (List Move)) → slice_get (done ++ x ∷ more) (length done) ≡ Some x
nth-middle [] x more = refl
nth-middle (d ∷ done) x more = nth-middle done x more

with-middle : (done : List (List Move)) (x y : List Move) (more : List (List Move)) → set (done ++ x ∷ more) (length done) y ≡ done ++ y ∷ more
with-middle [] x y more = refl
with-middle (d ∷ done) x y more = ap (λ (ts : List (List Move)). d ∷ ts) (with-middle done x y more)

-- a scene in which one party stands behind those that are done
abbrev among : List (List Move) → List (List Move) → Walk → Scene
among done more w = record { tracks = done ++ w.left ∷ more; told = w.told }

one-goes : (done more : List (List Move)) (m : Move) (left : List Move) (told : Told) (t : Turn) → turn_of (length done) m.needs told.sent ≡ Some t → Goes t (among done more (record { left = m ∷ left; told = told })) (among done more (record { left = left; told = went (length done) m told t }))
one-goes done more m left told t e =
    let by : t.party ≡ length done = turn-party (length done) m.needs told.sent t e in
    record {
      next = m;
      more = left;
      there = ap (slice_get (done ++ (m ∷ left) ∷ more)) by ∙ nth-middle done (m ∷ left) more;
      good = subst (λ (p : ℕ). IsTurn p m.needs told.sent t) (sym by) (turn-good (length done) m.needs told.sent t e);
      tracks = sym (ap (λ (p : ℕ). set (done ++ (m ∷ left) ∷ more) p left) by ∙ with-middle done (m ∷ left) left more);
      sent = ap (λ (p : ℕ). told.sent ++ sent_by p m.sends) (sym by);
      turns = refl;
    }

walk-leads : (done more : List (List Move)) (left : List Move) (told : Told) → Leads (among done more (record { left = left; told = told })) (among done more (as_far (length done) left told))
walk-leads done more [] told = leads-nowhere _
walk-leads done more (m ∷ left) told = by (turn_of (length done) m.needs told.sent) refl (λ t. walk-leads done more left (went (length done) m told t))
  where
    by : (o : Option Turn) → turn_of (length done) m.needs told.sent ≡ o → ((t : Turn) → Leads (among done more (record { left = left; told = went (length done) m told t })) (among done more (as_far (length done) left (went (length done) m told t)))) → Leads (among done more (record { left = m ∷ left; told = told })) (among done more (walked (length done) m left told o))
    by None e h = leads-nowhere _
    by (Some t) e h = leads-on _ _ _ (leads-by t _ _ (one-goes done more m left told t e)) (h t)

-- a scene in which parties stand behind those that are done
abbrev behind : List (List Move) → Scene → Scene
behind done s = record { tracks = done ++ s.tracks; told = s.told }

round-leads : (done tracks : List (List Move)) (told : Told) → Leads (behind done (record { tracks = tracks; told = told })) (behind done (round_from (length done) tracks told))
round-leads done [] told = leads-nowhere _
round-leads done (track ∷ tracks) told =
    let w = as_far (length done) track told in
    let rest = round-leads (done ++ w.left ∷ []) tracks w.told in
    leads-on _ _ _ (walk-leads done tracks track told)
    (subst (λ (s : Scene). Leads s (behind done (round_from (length done) (track ∷ tracks) told)))
    (ap (λ (ts : List (List Move)). record { tracks = ts; told = w.told }) (append_assoc done (w.left ∷ []) tracks))
    (subst (λ (s : Scene). Leads (behind (done ++ w.left ∷ []) (record { tracks = tracks; told = w.told })) s)
    (ap (λ (n : ℕ). record { tracks = done ++ w.left ∷ [] ++ (round_from n tracks w.told).tracks; told = (round_from n tracks w.told).told }) (length-append done (w.left ∷ []))
    ∙ ap (λ (ts : List (List Move)). record { tracks = ts; told = (round_from (length done + 1) tracks w.told).told }) (append_assoc done (w.left ∷ []) (round_from (length done + 1) tracks w.told).tracks))
    rest))

rounds-lead : (count : ℕ) (a b : Scene) → rounds count a ≡ b → Leads a b
rounds-lead zero a b e = subst (λ (s : Scene). Leads a s) e (leads-nowhere a)
rounds-lead (suc count) a b e = leads-on a (round_of a) b (round-leads [] a.tracks a.told) (rounds-lead count (round_of a) b e)

pub end-front : (a b : Scene) → IsEnd a b → (turns : List Turn) × (b.told.turns ≡ a.told.turns ++ turns) × Front turns a b
end-front a b end = let l = rounds-lead end.led.count a b end.led.reached in (l.turns, l.told, l.front)

-- ---- no front goes further

-- of some moves all that was sent was sent in a scene
abbrev AllSent : Scene → ℕ → List Move → Type 0
AllSent q party [] = Unit {0}
AllSent q party (m ∷ made) = ((s : Sent) → In s (sent_by party m.sends) → In s q.told.sent) × AllSent q party made

-- a scene is ahead of a track: less is left, and what the moves between sent was sent
record Ahead (q : Scene) (party : ℕ) (long : List Move) : Type 0 where
  short : List Move
  made : List Move
  whole : long ≡ made ++ short
  there : slice_get q.tracks party ≡ Some short
  told : AllSent q party made

-- a scene q is ahead of p
record Behind (q p : Scene) : Type 0 where
  within : (s : Sent) → In s p.told.sent → In s q.told.sent
  rest : (party : ℕ) (long : List Move) → slice_get p.tracks party ≡ Some long → Ahead q party long

behind-itself : (q : Scene) → Behind q q
behind-itself q = record {
  within = λ s i. i;
  rest = λ party long e. record { short = long; made = []; whole = refl; there = e; told = tt };
}

list_of : Option (List Move) → List Move
list_of None = []
list_of (Some list) = list

some-list : (a b : List Move) → Some a ≡ Some b → a ≡ b
unfolding list_of
some-list a b e = ap list_of e

-- whoever is ahead after a turn is ahead before it
behind-sooner : (q p r : Scene) (t : Turn) → Goes t p r → Behind q r → Behind q p
behind-sooner q p r t g b = record {
  within = λ s i. b.within s (subst (λ (xs : List Sent). In s xs) (sym g.sent) (in-left s p.told.sent (sent_by t.party g.next.sends) i));
  rest = λ party long e. by party long e (eqb_tells party t.party);
}
  where
    own : (long : List Move) → slice_get p.tracks t.party ≡ Some long → Ahead q t.party g.more → Ahead q t.party long
    own long e h = record {
      short = h.short;
      made = g.next ∷ h.made;
      whole = some-list long (g.next ∷ g.more) (sym e ∙ g.there) ∙ ap (λ (xs : List Move). g.next ∷ xs) h.whole;
      there = h.there;
      told = ((λ s i. b.within s (subst (λ (xs : List Sent). In s xs) (sym g.sent) (in-right s p.told.sent (sent_by t.party g.next.sends) i))), h.told);
    }

    by : (party : ℕ) (long : List Move) → slice_get p.tracks party ≡ Some long → (((party == t.party) ≡ true) × (party ≡ t.party)) ⊎ (((party == t.party) ≡ false) × (party ≢ t.party)) → Ahead q party long
    by party long e (inl h) =
        subst (λ (n : ℕ). Ahead q n long) (sym h.1)
        (own long (subst (λ (n : ℕ). slice_get p.tracks n ≡ Some long) h.1 e)
        (b.rest t.party g.more (ap (λ (ts : List (List Move)). slice_get ts t.party) g.tracks ∙ slice_get-set p.tracks t.party (g.next ∷ g.more) g.more g.there)))
    by party long e (inr h) = b.rest party long (ap (λ (ts : List (List Move)). slice_get ts party) g.tracks ∙ slice_get-set_other p.tracks t.party party g.more h.1 ∙ e)

head_of : Move → List Move → Move
head_of d [] = d
head_of d (x ∷ xs) = x

tail_of : List Move → List Move
tail_of [] = []
tail_of (x ∷ xs) = xs

-- nobody can go
abbrev IsStuck : Scene → Type 0
IsStuck q = (party : ℕ) (m : Move) (more : List Move) → slice_get q.tracks party ≡ Some (m ∷ more) → turn_of party m.needs q.told.sent ≡ None

-- whoever is ahead and stuck stays ahead after any turn
behind-later : (q p r : Scene) (t : Turn) → IsStuck q → Goes t p r → Behind q p → Behind q r
unfolding tail_of head_of
behind-later q p r t stuck g b = after (b.rest t.party (g.next ∷ g.more) g.there)
  where
    others : (party : ℕ) (long : List Move) → slice_get r.tracks party ≡ Some long → party ≢ t.party → Ahead q party long
    others party long e n = b.rest party long (sym (ap (λ (ts : List (List Move)). slice_get ts party) g.tracks ∙ slice_get-set_other p.tracks t.party party g.more n) ∙ e)

    split : (s : Sent) → ((x : Sent) → In x (sent_by t.party g.next.sends) → In x q.told.sent) → In s p.told.sent ⊎ In s (sent_by t.party g.next.sends) → In s q.told.sent
    split s new (inl i) = b.within s i
    split s new (inr i) = new s i

    ahead : Ahead q t.party g.more → ((x : Sent) → In x (sent_by t.party g.next.sends) → In x q.told.sent) → Behind q r
    ahead own new = record {
      within = λ s i. split s new (in-split s p.told.sent (sent_by t.party g.next.sends) (subst (λ (xs : List Sent). In s xs) g.sent i));
      rest = λ party long e. by party long e (eqb_tells party t.party);
    }
      where
        by : (party : ℕ) (long : List Move) → slice_get r.tracks party ≡ Some long → (((party == t.party) ≡ true) × (party ≡ t.party)) ⊎ (((party == t.party) ≡ false) × (party ≢ t.party)) → Ahead q party long
        by party long e (inr h) = others party long e h.1
        by party long e (inl h) =
            subst (λ (n : ℕ). Ahead q n long) (sym h.1)
            (subst (λ (xs : List Move). Ahead q t.party xs)
            (some-list g.more long (sym (slice_get-set p.tracks t.party (g.next ∷ g.more) g.more g.there) ∙ sym (ap (λ (ts : List (List Move)). slice_get ts t.party) g.tracks) ∙ subst (λ (n : ℕ). slice_get r.tracks n ≡ Some long) h.1 e))
            own)

    after : Ahead q t.party (g.next ∷ g.more) → Behind q r
    after h = of h.made h.whole h.told
      where
        of : (made : List Move) → (g.next ∷ g.more) ≡ made ++ h.short → AllSent q t.party made → Behind q r
        of [] whole told =
            absurd (no-turn t.party g.next.needs p.told.sent q.told.sent t b.within g.good
            (stuck t.party g.next g.more (h.there ∙ ap Some (sym whole))))
        of (m ∷ made) whole told =
            ahead (record { short = h.short; made = made; whole = ap tail_of whole; there = h.there; told = told.1 })
            (subst (λ (x : Move). (s : Sent) → In s (sent_by t.party x.sends) → In s q.told.sent) (sym (ap (head_of m) whole)) told.0)

front-back : (turns : List Turn) (q p : Scene) → Front turns p q → Behind q p
front-back [] q p f = subst (λ (s : Scene). Behind q s) f (behind-itself q)
front-back (t ∷ turns) q p f = behind-sooner q p f.0 t f.1 (front-back turns q f.0 f.2)

front-ahead : (turns : List Turn) (q p r : Scene) → IsStuck q → Front turns p r → Behind q p → Behind q r
front-ahead [] q p r stuck f b = subst (λ (s : Scene). Behind q s) (sym f) b
front-ahead (t ∷ turns) q p r stuck f b = front-ahead turns q f.0 r stuck f.2 (behind-later q p f.0 t stuck f.1 b)

end-stuck : (a b : Scene) → IsEnd a b → IsStuck b
end-stuck a b end = λ party m more e. subst (λ (n : ℕ). turn_of n m.needs b.told.sent ≡ None) (zero-plus party) (round-stuck 0 b.tracks b.told party m more (ap (λ (s : Scene). length s.told.turns) end.still) e)
  where
    zero-plus : (n : ℕ) → 0 + n ≡ n
    zero-plus n = omega arith

-- what is left in a scene that is ahead is what is left elsewhere behind some moves
pub end-farthest : (a b c : Scene) (turns : List Turn) → IsEnd a b → Front turns a c → IsFarther b c
end-farthest a b c turns end front =
    let l = rounds-lead end.led.count a b end.led.reached in
    let h = front-ahead turns b a c (end-stuck a b end) front (front-back l.turns b a l.front) in
    λ party long e. of party long (h.rest party long e)
  where
    of : (party : ℕ) (long : List Move) → Ahead b party long → (short : List Move) × (slice_get b.tracks party ≡ Some short) × IsRest long short
    of party long x = (x.short, x.there, record { made = x.made; whole = x.whole })
