-- Rounds: how far they go, and what a round that goes nowhere says.
use Rattle.std.proofs.Common.{◌≡◌, ◌≢◌, ℕ, zero, suc, ◌+◌, ◌<◌, ◌≤◌, List, [], ◌∷◌, ◌++◌, length, take, drop, get_or, set, slice_get, is_some, Option, Some, None, if◌then◌else◌, refl, sym, ap, ◌∙◌, subst, arith}
use Rattle.std.proofs.lemmas.List.{length-append}
use Rattle.weave_core.specs.declared.moves.Move.{Move}
use Rattle.weave_core.specs.declared.moves.Turn.{Turn}
use Rattle.weave_core.specs.Fits.{turn_of, sent_by}
use Rattle.weave_core.specs.Scenes.{Told, Scene, Walk, with_turn, as_far, round_from, round_of, rounds, AreRounds, IsEnd}

-- ---- one party

-- what a party's walk is where its turn is this
abbrev pub walked : ℕ → Move → List Move → Told → Option Turn → Walk
walked party m left told o =
    if is_some o then as_far party left (record { sent = told.sent ++ sent_by party m.sends; turns = with_turn o told.turns })
    else record { left = m ∷ left; told = told }

one-more : (xs : List Turn) (t : Turn) → length (xs ++ t ∷ []) ≡ length xs + 1
one-more xs t = length-append xs (t ∷ [])

-- what is told after a turn with a move
abbrev pub went : ℕ → Move → Told → Turn → Told
went party m told t = record { sent = told.sent ++ sent_by party m.sends; turns = told.turns ++ t ∷ [] }

walk-count : (party : ℕ) (left : List Move) (told : Told) → length (as_far party left told).left + length (as_far party left told).told.turns ≡ length left + length told.turns
walk-count party [] told = refl
walk-count party (m ∷ left) told = by (turn_of party m.needs told.sent) (λ t. walk-count party left (went party m told t))
  where
    by : (o : Option Turn) → ((t : Turn) → length (as_far party left (went party m told t)).left + length (as_far party left (went party m told t)).told.turns ≡ length left + length (told.turns ++ t ∷ [])) → length (walked party m left told o).left + length (walked party m left told o).told.turns ≡ suc (length left) + length told.turns
    by None h = refl
    by (Some t) h = omega (arith, h t, one-more told.turns t)

walk-grows : (party : ℕ) (left : List Move) (told : Told) → length told.turns ≤ length (as_far party left told).told.turns
walk-grows party [] told = omega arith
walk-grows party (m ∷ left) told = by (turn_of party m.needs told.sent) (λ t. walk-grows party left (went party m told t))
  where
    by : (o : Option Turn) → ((t : Turn) → length (told.turns ++ t ∷ []) ≤ length (as_far party left (went party m told t)).told.turns) → length told.turns ≤ length (walked party m left told o).told.turns
    by None h = omega arith
    by (Some t) h = omega (arith, h t, one-more told.turns t)

-- a walk without a turn changes nothing
walk-still : (party : ℕ) (left : List Move) (told : Told) → length (as_far party left told).told.turns ≡ length told.turns → as_far party left told ≡ record { left = left; told = told }
walk-still party [] told e = refl
walk-still party (m ∷ left) told e = by (turn_of party m.needs told.sent) e
  where
    by : (o : Option Turn) → length (walked party m left told o).told.turns ≡ length told.turns → walked party m left told o ≡ record { left = m ∷ left; told = told }
    by None e = refl
    by (Some t) e = absurd (let h = walk-grows party left (went party m told t) in omega (arith, h, one-more told.turns t, e))

-- and so nothing fits the next move
walk-stuck : (party : ℕ) (m : Move) (left : List Move) (told : Told) → length (as_far party (m ∷ left) told).told.turns ≡ length told.turns → turn_of party m.needs told.sent ≡ None
walk-stuck party m left told e = by (turn_of party m.needs told.sent) e
  where
    by : (o : Option Turn) → length (walked party m left told o).told.turns ≡ length told.turns → o ≡ None
    by None e = refl
    by (Some t) e = absurd (let h = walk-grows party left (went party m told t) in omega (arith, h, one-more told.turns t, e))

-- ---- a round

-- how many moves are left on all tracks
abbrev pub total : List (List Move) → ℕ
total [] = 0
total (track ∷ tracks) = length track + total tracks

pub round-count : (party : ℕ) (tracks : List (List Move)) (told : Told) → total (round_from party tracks told).tracks + length (round_from party tracks told).told.turns ≡ total tracks + length told.turns
round-count party [] told = refl
round-count party (track ∷ tracks) told =
    let one = walk-count party track told in
    let rest = round-count (party + 1) tracks (as_far party track told).told in
    omega (arith, one, rest)

pub round-grows : (party : ℕ) (tracks : List (List Move)) (told : Told) → length told.turns ≤ length (round_from party tracks told).told.turns
round-grows party [] told = omega arith
round-grows party (track ∷ tracks) told =
    let one = walk-grows party track told in
    let rest = round-grows (party + 1) tracks (as_far party track told).told in
    omega (arith, one, rest)

-- in a round without a turn no party has one
first-still : (party : ℕ) (track : List Move) (tracks : List (List Move)) (told : Told) → length (round_from party (track ∷ tracks) told).told.turns ≡ length told.turns → length (as_far party track told).told.turns ≡ length told.turns
first-still party track tracks told e =
    let one = walk-grows party track told in
    let rest = round-grows (party + 1) tracks (as_far party track told).told in
    omega (arith, one, rest, e)

rest-still : (party : ℕ) (track : List Move) (tracks : List (List Move)) (told : Told) → length (round_from party (track ∷ tracks) told).told.turns ≡ length told.turns → length (round_from (party + 1) tracks told).told.turns ≡ length told.turns
rest-still party track tracks told e =
    subst (λ (w : Walk). length (round_from (party + 1) tracks w.told).told.turns ≡ length told.turns) (walk-still party track told (first-still party track tracks told e)) e

pub round-still : (party : ℕ) (tracks : List (List Move)) (told : Told) → length (round_from party tracks told).told.turns ≡ length told.turns → round_from party tracks told ≡ record { tracks = tracks; told = told }
round-still party [] told e = refl
round-still party (track ∷ tracks) told e =
    ap (λ (w : Walk). let rest = round_from (party + 1) tracks w.told in record { tracks = w.left ∷ rest.tracks; told = rest.told }) (walk-still party track told (first-still party track tracks told e))
    ∙ ap (λ (s : Scene). record { tracks = track ∷ s.tracks; told = s.told }) (round-still (party + 1) tracks told (rest-still party track tracks told e))

pub round-stuck : (party : ℕ) (tracks : List (List Move)) (told : Told) (i : ℕ) (m : Move) (more : List Move) → length (round_from party tracks told).told.turns ≡ length told.turns → slice_get tracks i ≡ Some (m ∷ more) → turn_of (party + i) m.needs told.sent ≡ None
round-stuck party [] told i m more e at = absurd (cc)
round-stuck party (track ∷ tracks) told zero m more e at =
    subst (λ (p : ℕ). turn_of p m.needs told.sent ≡ None) (omega arith)
    (walk-stuck party m more told (subst (λ (o : Option (List Move)). length (as_far party (list_of o) told).told.turns ≡ length told.turns) at (first-still party track tracks told e)))
  where
    list_of : Option (List Move) → List Move
    list_of None = []
    list_of (Some list) = list
round-stuck party (track ∷ tracks) told (suc i) m more e at =
    subst (λ (p : ℕ). turn_of p m.needs told.sent ≡ None) (omega arith)
    (round-stuck (party + 1) tracks told i m more (rest-still party track tracks told e) at)

-- ---- rounds

pub rounds-more : (count : ℕ) (a : Scene) → rounds (suc count) a ≡ round_of (rounds count a)
rounds-more zero a = refl
rounds-more (suc count) a = rounds-more count (round_of a)

pub one-round : (a b c : Scene) → AreRounds a b → round_of b ≡ c → AreRounds a c
one-round a b c led e = record { count = suc led.count; reached = rounds-more led.count a ∙ ap round_of led.reached ∙ e }

pub no-round : (a : Scene) → AreRounds a a
no-round a = record { count = zero; reached = refl }

-- a round without a turn is the end
pub end-here : (a b c : Scene) → AreRounds a b → round_of b ≡ c → length c.told.turns ≡ length b.told.turns → IsEnd a c
end-here a b c led e same =
    let still = round-still 0 b.tracks b.told (ap (λ (s : Scene). length s.told.turns) e ∙ same) in
    subst (λ (s : Scene). IsEnd a s) (sym still ∙ e) (record { led = led; still = still })

-- a round with a turn leaves less
pub less-left : (b c : Scene) → round_of b ≡ c → length c.told.turns ≢ length b.told.turns → total c.tracks < total b.tracks
less-left b c e other =
    subst (λ (s : Scene). length s.told.turns ≢ length b.told.turns → total s.tracks < total b.tracks) e
    (λ (n : length (round_of b).told.turns ≢ length b.told.turns). omega (arith, round-count 0 b.tracks b.told, round-grows 0 b.tracks b.told, n)) other

-- ---- a round as a loop

-- what is done of a round, and what is still to be done
abbrev pub joined : List (List Move) → Scene → Scene
joined front s = record { tracks = front ++ s.tracks; told = s.told }

pub turn-one : (ts : List (List Move)) (i party : ℕ) (old new : List Move) (told later : Told) → i < length ts → old ≡ get_or ts i old → as_far party old told ≡ record { left = new; told = later } → joined (take i ts) (round_from party (drop i ts) told) ≡ joined (take (suc i) (set ts i new)) (round_from (party + 1) (drop (suc i) (set ts i new)) later)
turn-one [] i party old new told later within at e = absurd (omega (arith, within))
turn-one (t ∷ ts) zero party old new told later within at e =
    ap (λ (w : Walk). let rest = round_from (party + 1) ts w.told in record { tracks = w.left ∷ rest.tracks; told = rest.told }) (ap (λ (x : List Move). as_far party x told) (sym at) ∙ e)
turn-one (t ∷ ts) (suc i) party old new told later within at e =
    ap (λ (s : Scene). record { tracks = t ∷ s.tracks; told = s.told }) (turn-one ts i party old new told later (omega (arith, within)) at e)
