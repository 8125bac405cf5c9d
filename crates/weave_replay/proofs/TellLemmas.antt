-- One thing at most applies to journals; and where nothing does, all are good, one behind the other.
use Rattle.std.proofs.Common.{◌≡◌, ◌≢◌, ℕ, ◌+◌, ◌==◌, ◌<◌, ◌⊎◌, inl, inr, true, false, Bool, List, [], ◌∷◌, ◌++◌, length, take, Some, refl, sym, ap, ◌∙◌, subst, arith}
use Rattle.std.proofs.lemmas.Bool.{cases_order}
use Rattle.std.proofs.lemmas.Bool.Decides.{eqb_tells}
use Rattle.std.proofs.lemmas.List.{length-append, append_assoc}
use Rattle.model_router.specs.Places.{nth}
use Rattle.model_router.specs.Routers.{Router}
use Rattle.router_core.specs.Givens.{given}
use Rattle.lab_keys.specs.declared.faults.LimitName.{LimitName}
use Rattle.lab_keys.specs.declared.faults.LimitName.TheVariants as limit
use Rattle.weave_model.specs.Entries.{Entry}
use Rattle.weave_model.specs.Faults.{AreGood, AreGoodAll, Fault, OfEvent, OfReply, IsFirstFault, opening}
use Rattle.weave_model.proofs.FaultLemmas.{no-fault, first-once}
use Rattle.weave_replay.specs.declared.journal.WovenJournal.{WovenJournal}
use Rattle.weave_replay.specs.declared.fault.ReplayFault.{ReplayFault}
use Rattle.weave_replay.specs.declared.fault.ReplayFault.TheVariants.{Event, Reply, Limit, OutOfMemory}
use Rattle.weave_replay.specs.Entries.{entries_of}
use Rattle.weave_replay.specs.Replays.{journals_of, in_first_boot, Opens, IsFaultless, HasFault, AreFaultless, IsFirstOfAll, AreManyBoots, AreFewBoots, no_memory, IsPassed, IsTold, AreReplayed}
use Rattle.weave_replay.proofs.PlaceLemmas.{some-is, nth-take, take-take}
use Rattle.weave_replay.proofs.JournalLemmas.{journals-append, own-first, other-first, own-more, other-more, opening-more}
use Rattle.weave_replay.proofs.BehindLemmas.{faultless-between}

-- ---- once

same-opening : (routers : List Router) (before : List WovenJournal) (j : WovenJournal) (r s : Router) → Opens routers before j r → Opens routers before j s → r ≡ s
same-opening routers before j r s a b =
    a.state
    ∙ ap (λ (x : Router). opening given (in_first_boot x) (journals_of j.router before)) (some-is a.first b.first (sym a.of ∙ b.of))
    ∙ sym b.state

faultless-contra : (routers : List Router) (before : List WovenJournal) (j : WovenJournal) (entry : ℕ) (fault : Fault) → IsFaultless routers before j → HasFault routers before j entry fault → ⊥
faultless-contra routers before j entry fault good f = no-fault given f.r (entries_of j) f.faulty.before fault (good f.r f.opens) f.faulty.first

pub none-first : (routers : List Router) (js : List WovenJournal) (journal entry : ℕ) (fault : Fault) → AreFaultless routers js → IsFirstOfAll routers js journal entry fault → ⊥
none-first routers js journal entry fault all f = faultless-contra routers (take f.place js) f.j entry fault (all f.place f.j f.at) f.faulty

not-before : (routers : List Router) (js : List WovenJournal) (a b c d : ℕ) (one two : Fault) → (f : IsFirstOfAll routers js a b one) (g : IsFirstOfAll routers js c d two) → f.place < g.place → ⊥
not-before routers js a b c d one two f g lt =
    faultless-contra routers (take f.place js) f.j b one
    (subst (λ (xs : List WovenJournal). IsFaultless routers xs f.j) (take-take js g.place f.place (omega (arith, lt)))
    (g.earlier f.place f.j (nth-take js g.place f.place lt ∙ f.at)))
    f.faulty

-- the same fault, at the same entry
pub record AreOne (a b c d : ℕ) (one two : Fault) : Type 0 where
  pub journal : a ≡ c
  pub entry : b ≡ d
  pub fault : one ≡ two

pub first-of-all-once : (routers : List Router) (js : List WovenJournal) (a b c d : ℕ) (one two : Fault) → IsFirstOfAll routers js a b one → IsFirstOfAll routers js c d two → AreOne a b c d one two
first-of-all-once routers js a b c d one two f g = by (cases_order f.place g.place)
  where
    here : f.place ≡ g.place → AreOne a b c d one two
    here e =
        let j-same : f.j ≡ g.j = some-is f.j g.j (sym f.at ∙ ap (nth js) e ∙ g.at) in
        let moved : HasFault routers (take g.place js) g.j b one =
        subst (λ (x : WovenJournal). HasFault routers (take g.place js) x b one) j-same
        (subst (λ (n : ℕ). HasFault routers (take n js) f.j b one) e f.faulty) in
        let r-same : moved.r ≡ g.faulty.r = same-opening routers (take g.place js) g.j moved.r g.faulty.r moved.opens g.faulty.opens in
        let once = first-once given g.faulty.r (entries_of g.j) moved.faulty.before g.faulty.faulty.before one two
        (subst (λ (r : Router). IsFirstFault given r (entries_of g.j) moved.faulty.before one) r-same moved.faulty.first) g.faulty.faulty.first in
        record {
          journal = f.counted ∙ ap (λ (n : ℕ). n + 1) e ∙ sym g.counted;
          entry = moved.faulty.counted ∙ ap (λ (n : ℕ). n + 1) once.0 ∙ sym g.faulty.faulty.counted;
          fault = once.1;
        }

    by : (f.place ≡ g.place) ⊎ ((f.place < g.place) ⊎ (g.place < f.place)) → AreOne a b c d one two
    by (inl e) = here e
    by (inr (inl lt)) = absurd (not-before routers js a b c d one two f g lt)
    by (inr (inr lt)) = absurd (not-before routers js c d a b two one g f lt)

two-faults : OfEvent ≡ OfReply → ⊥
two-faults e = contra (ap is_event e)
  where
    is_event : Fault → Bool
    is_event OfEvent = true
    is_event OfReply = false

    contra : true ≡ false → ⊥
    contra x = cc

many-few : (js : List WovenJournal) → AreManyBoots js → AreFewBoots js → ⊥
many-few js many few = let a = many.many in let b = few many.router in omega (arith, a, b)

pub told-once : (routers : List Router) (js : List WovenJournal) (one two : ReplayFault) → IsTold routers js one → IsTold routers js two → one ≢ no_memory → two ≢ no_memory → one ≡ two
told-once routers js (Event a b) (Event c d) f g x y = let s = first-of-all-once routers js a b c d OfEvent OfEvent f g in ap (λ (n : ℕ). Event n b) s.journal ∙ ap (λ (n : ℕ). Event c n) s.entry
told-once routers js (Event a b) (Reply c d) f g x y = let s = first-of-all-once routers js a b c d OfEvent OfReply f g in absurd (two-faults s.fault)
told-once routers js (Event a b) (Limit name) f g x y = absurd (none-first routers js a b OfEvent g.0 f)
told-once routers js (Event a b) OutOfMemory f g x y = absurd (y refl)
told-once routers js (Reply a b) (Event c d) f g x y = let s = first-of-all-once routers js a b c d OfReply OfEvent f g in absurd (two-faults (sym s.fault))
told-once routers js (Reply a b) (Reply c d) f g x y = let s = first-of-all-once routers js a b c d OfReply OfReply f g in ap (λ (n : ℕ). Reply n b) s.journal ∙ ap (λ (n : ℕ). Reply c n) s.entry
told-once routers js (Reply a b) (Limit name) f g x y = absurd (none-first routers js a b OfReply g.0 f)
told-once routers js (Reply a b) OutOfMemory f g x y = absurd (y refl)
told-once routers js (Limit name) (Event c d) f g x y = absurd (none-first routers js c d OfEvent f.0 g)
told-once routers js (Limit name) (Reply c d) f g x y = absurd (none-first routers js c d OfReply f.0 g)
told-once routers js (Limit name) (Limit other) f g x y = ap (λ (n : LimitName). Limit n) (by name other f.1 g.1)
  where
    by : (m n : LimitName) → IsPassed js m → IsPassed js n → m ≡ n
    by limit.Boots limit.Boots p q = refl
    by limit.Boots limit.Datagrams p q = absurd (many-few js p q.0)
    by limit.Datagrams limit.Boots p q = absurd (many-few js q p.0)
    by limit.Datagrams limit.Datagrams p q = refl
    by limit.Boots limit.Routers p q = absurd q
    by limit.Boots limit.Links p q = absurd q
    by limit.Boots limit.Circuits p q = absurd q
    by limit.Boots limit.Prefixes p q = absurd q
    by limit.Datagrams limit.Routers p q = absurd q
    by limit.Datagrams limit.Links p q = absurd q
    by limit.Datagrams limit.Circuits p q = absurd q
    by limit.Datagrams limit.Prefixes p q = absurd q
    by limit.Routers n p q = absurd p
    by limit.Links n p q = absurd p
    by limit.Circuits n p q = absurd p
    by limit.Prefixes n p q = absurd p
told-once routers js (Limit name) OutOfMemory f g x y = absurd (y refl)
told-once routers js OutOfMemory two f g x y = absurd (x refl)

pub told-none : (routers : List Router) (js : List WovenJournal) (fault : ReplayFault) → AreReplayed routers js → IsTold routers js fault → fault ≡ no_memory
told-none routers js (Event a b) all f = absurd (none-first routers js a b OfEvent all.faultless f)
told-none routers js (Reply a b) all f = absurd (none-first routers js a b OfReply all.faultless f)
told-none routers js (Limit name) all f = absurd (by name f.1)
  where
    by : (name : LimitName) → IsPassed js name → ⊥
    by limit.Boots p = many-few js p all.boots
    by limit.Datagrams p = let a = p.1 in let b = all.datagrams in omega (arith, a, b)
    by limit.Routers p = p
    by limit.Links p = p
    by limit.Circuits p = p
    by limit.Prefixes p = p
told-none routers js OutOfMemory all f = refl

-- ---- good, one behind the other

good-from : (routers : List Router) (js : List WovenJournal) (router : ℕ) (first : Router) → AreFaultless routers js → AreFewBoots js → nth routers router ≡ Some first → (before rest : List WovenJournal) → before ++ rest ≡ js → AreGoodAll given (opening given (in_first_boot first) (journals_of router before)) (journals_of router rest)
good-from routers js router first all few at before [] e = tt
good-from routers js router first all few at before (j ∷ rest) e =
    by (eqb_tells j.router router) (good-from routers js router first all few at (before ++ j ∷ []) rest (append_assoc before (j ∷ []) rest ∙ e))
  where
    here : IsFaultless routers before j
    here = faultless-between routers before j rest (subst (λ (xs : List WovenJournal). AreFaultless routers xs) (sym e) all)

    size : j.router ≡ router → length (journals_of j.router before) < 16777215
    size same =
        let most = few j.router in
        let parts = ap (λ (xs : List WovenJournal). length (journals_of j.router xs)) (sym e) ∙ ap length (journals-append j.router before (j ∷ rest)) ∙ length-append (journals_of j.router before) (journals_of j.router (j ∷ rest)) in
        let own = ap length (own-first j rest) in
        omega (arith, most, parts, own)

    by : (((j.router == router) ≡ true) × (j.router ≡ router)) ⊎ (((j.router == router) ≡ false) × (j.router ≢ router)) → AreGoodAll given (opening given (in_first_boot first) (journals_of router (before ++ j ∷ []))) (journals_of router rest) → AreGoodAll given (opening given (in_first_boot first) (journals_of router before)) (journals_of router (j ∷ rest))
    by (inl same) more =
        let opened = subst (λ (i : ℕ). opening given (in_first_boot first) (journals_of i (before ++ j ∷ [])) ≡ opening given (in_first_boot first) (journals_of i before ++ entries_of j ∷ [])) same.1 (ap (opening given (in_first_boot first)) (own-more before j)) ∙ opening-more (in_first_boot first) (journals_of router before) (entries_of j) in
        let good = here (opening given (in_first_boot first) (journals_of j.router before)) (record { first = first; of = ap (nth routers) same.1 ∙ at; state = refl; boot = size same.1 }) in
        subst (λ (xs : List (List Entry)). AreGoodAll given (opening given (in_first_boot first) (journals_of router before)) xs)
        (subst (λ (i : ℕ). entries_of j ∷ journals_of i rest ≡ journals_of i (j ∷ rest)) same.1 (sym (own-first j rest))) (
          subst (λ (i : ℕ). AreGood given (opening given (in_first_boot first) (journals_of i before)) (entries_of j)) same.1 good,
          subst (λ (r : Router). AreGoodAll given r (journals_of router rest)) opened more,
        )
    by (inr other) more =
        subst (λ (xs : List (List Entry)). AreGoodAll given (opening given (in_first_boot first) (journals_of router before)) xs) (sym (other-first router j rest other.1))
        (subst (λ (xs : List (List Entry)). AreGoodAll given (opening given (in_first_boot first) xs) (journals_of router rest)) (other-more router before j other.1) more)

pub all-good : (routers : List Router) (js : List WovenJournal) (router : ℕ) (first : Router) → AreReplayed routers js → nth routers router ≡ Some first → AreGoodAll given (in_first_boot first) (journals_of router js)
all-good routers js router first all at = good-from routers js router first all.faultless all.boots at [] js refl
