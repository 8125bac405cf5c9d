-- What follows for journals that are woven, and for those that aren't.
use Rattle.std.proofs.Common.{◌≡◌, ◌≢◌, ℕ, zero, suc, ◌+◌, ◌<◌, ◌⊎◌, inl, inr, List, take, length, slice_get, refl, sym, ap, ◌∙◌, subst, arith}
use Rattle.model_router.specs.Places.{nth}
use Rattle.model_router.specs.Routers.{Router}
use Rattle.router_core.specs.Givens.{given}
use Rattle.model_network.specs.Networks.{Network}
use Rattle.model_network.specs.Runs.{Happening, run}
use Rattle.network_lab.specs.declared.event.LabEvent.{LabEvent}
use Rattle.network_lab.specs.LabNets.{LabNet, StandsFor}
use Rattle.weave_model.specs.Weavings.{track_of, Scene, IsWeaving}
use Rattle.weave_model.proofs.PlaceLemmas.{There, there-too}
use Rattle.weave_replay.specs.declared.journal.WovenJournal.{WovenJournal}
use Rattle.weave_replay.specs.declared.fault.ReplayFault.{ReplayFault}
use Rattle.weave_replay.specs.declared.fault.ReplayFault.TheVariants as replay
use Rattle.weave_replay.specs.Replays as told
use Rattle.weave_replay.specs.Replays.{journals_of, IsTold, AreReplayed}
use Rattle.weave_replay.proofs.PlaceLemmas.{some-is}
use Rattle.weave.specs.Begins.{begin}
use Rattle.weave.specs.declared.fault.WeaveFault.{WeaveFault}
use Rattle.weave.specs.declared.fault.WeaveFault.TheVariants as fault
use Rattle.weave.specs.Woven.{happenings_of, IsWoven}
use Rattle.weave.specs.Unreached.{IsReached, IsFirstUnreached}
use Rattle.weave.specs.Faults.{no_memory, IsToldOf}
use Rattle.weave.proofs.ListLemmas.{nth-slice}
use Rattle.weave.proofs.PlanLemmas.{track-there}
use Rattle.weave.proofs.CountLemmas.{to-within}
use Rattle.weave.proofs.FrontLemmas.{front-size, front-run}

-- ---- no schedule is a weaving

pub no-weaving : (net : Network) (journals : List WovenJournal) (journal entry : ℕ) (hs : List Happening) (s : Scene) → IsFirstUnreached net journals journal entry → IsWeaving given hs (begin net journals) s → ⊥
no-weaving net journals journal entry hs s x w =
    by (there-too (begin net journals).tracks s.tracks x.j.router (track_of (journals_of x.j.router journals))
    (nth-slice (begin net journals).tracks x.j.router ∙ track-there (length net.routers) x.j.router journals x.of) (front-size given hs (begin net journals) s w.front))
  where
    by : There (slice_get s.tracks x.j.router) → ⊥
    by l = x.unreached (record {
      hs = hs;
      s = s;
      front = w.front;
      reached = record {
        left = l.item;
        there = l.there;
        made =
            let n = ap length (w.done x.j.router l.item l.there) in
            let m = to-within journals x.place x.j (x.first + 1) x.at (let t = x.there in omega (arith, t)) in
            omega (arith, n, m);
      };
    })

-- ---- one thing is told

-- what is told of replaying, as a fault of weaving
abbrev of_replay : ReplayFault → WeaveFault
of_replay (replay.Event journal entry) = fault.Event journal entry
of_replay (replay.Reply journal entry) = fault.Reply journal entry
of_replay (replay.Limit name) = fault.Limit name
of_replay replay.OutOfMemory = fault.OutOfMemory

-- a fault is one of replaying, or what no front reaches
data Kind (net : Network) (journals : List WovenJournal) (f : WeaveFault) : Type 0 where
  OfReplay : (x : ReplayFault) → f ≡ of_replay x → IsTold net.routers journals x → x ≢ told.no_memory → Kind net journals f
  OfStuck : (journal entry : ℕ) → f ≡ fault.Stuck journal entry → AreReplayed net.routers journals → IsFirstUnreached net journals journal entry → Kind net journals f

kind : (net : Network) (journals : List WovenJournal) (f : WeaveFault) → IsToldOf net journals f → f ≢ no_memory → Kind net journals f
kind net journals (fault.Event journal entry) t n = OfReplay (replay.Event journal entry) refl t (λ e. absurd (cc))
kind net journals (fault.Reply journal entry) t n = OfReplay (replay.Reply journal entry) refl t (λ e. absurd (cc))
kind net journals (fault.Limit name) t n = OfReplay (replay.Limit name) refl t (λ e. absurd (cc))
kind net journals (fault.Stuck journal entry) t n = OfStuck journal entry refl t.0 t.1
kind net journals fault.OutOfMemory t n = absurd (n refl)

abbrev pub ToldOnce : Type 0
ToldOnce = (routers : List Router) (journals : List WovenJournal) (one two : ReplayFault) → IsTold routers journals one → IsTold routers journals two → one ≢ told.no_memory → two ≢ told.no_memory → one ≡ two

abbrev pub ToldNone : Type 0
ToldNone = (routers : List Router) (journals : List WovenJournal) (f : ReplayFault) → AreReplayed routers journals → IsTold routers journals f → f ≡ told.no_memory

order : (m n : ℕ) → (m < n) ⊎ ((m ≡ n) ⊎ (n < m))
order zero zero = inr (inl refl)
order zero (suc n) = inl (omega arith)
order (suc m) zero = inr (inr (omega arith))
order (suc m) (suc n) = up (order m n)
  where
    up : (m < n) ⊎ ((m ≡ n) ⊎ (n < m)) → (suc m < suc n) ⊎ ((suc m ≡ suc n) ⊎ (suc n < suc m))
    up (inl l) = inl (omega (arith, l))
    up (inr (inl e)) = inr (inl (ap suc e))
    up (inr (inr g)) = inr (inr (omega (arith, g)))

-- the first that isn't reached is one
unreached-once : (net : Network) (journals : List WovenJournal) (journal entry other later : ℕ) → IsFirstUnreached net journals journal entry → IsFirstUnreached net journals other later → (journal ≡ other) × (entry ≡ later)
unreached-once net journals journal entry other later x y = by (order x.place y.place)
  where
    before : (a b : ℕ) (c d : ℕ) (p : IsFirstUnreached net journals a b) (q : IsFirstUnreached net journals c d) → p.place < q.place → ⊥
    before a b c d p q less = p.unreached (q.journals_before p.place p.j less p.at p.first p.there)

    same : x.place ≡ y.place → (journal ≡ other) × (entry ≡ later)
    same e = of (order x.first y.first)
      where
        j : x.j ≡ y.j
        j = some-is x.j y.j (sym x.at ∙ (ap (nth journals) e ∙ y.at))

        there : (n : ℕ) → IsReached net journals (take x.place journals) x.j n → IsReached net journals (take y.place journals) y.j n
        there n r = subst (λ (k : WovenJournal). IsReached net journals (take y.place journals) k n) j (subst (λ (i : ℕ). IsReached net journals (take i journals) x.j n) e r)

        back : (n : ℕ) → IsReached net journals (take y.place journals) y.j n → IsReached net journals (take x.place journals) x.j n
        back n r = subst (λ (k : WovenJournal). IsReached net journals (take x.place journals) k n) (sym j) (subst (λ (i : ℕ). IsReached net journals (take i journals) y.j n) (sym e) r)

        of : (x.first < y.first) ⊎ ((x.first ≡ y.first) ⊎ (y.first < x.first)) → (journal ≡ other) × (entry ≡ later)
        of (inl l) = absurd (x.unreached (back (x.first + 1) (y.earlier x.first l)))
        of (inr (inr g)) = absurd (y.unreached (there (y.first + 1) (x.earlier y.first g)))
        of (inr (inl f)) = (x.counted ∙ (ap (λ (n : ℕ). n + 1) e ∙ sym y.counted), x.numbered ∙ (ap (λ (n : ℕ). n + 1) f ∙ sym y.numbered))

    by : (x.place < y.place) ⊎ ((x.place ≡ y.place) ⊎ (y.place < x.place)) → (journal ≡ other) × (entry ≡ later)
    by (inl l) = absurd (before journal entry other later x y l)
    by (inr (inr g)) = absurd (before other later journal entry y x g)
    by (inr (inl e)) = same e

pub told-once : ToldOnce → ToldNone → (net : Network) (journals : List WovenJournal) (one two : WeaveFault) → IsToldOf net journals one → IsToldOf net journals two → one ≢ no_memory → two ≢ no_memory → one ≡ two
told-once once none net journals one two t u n m = by (kind net journals one t n) (kind net journals two u m)
  where
    by : Kind net journals one → Kind net journals two → one ≡ two
    by (OfReplay x e a p) (OfReplay y f b q) = e ∙ (ap of_replay (once net.routers journals x y a b p q) ∙ sym f)
    by (OfReplay x e a p) (OfStuck journal entry f r b) = absurd (p (none net.routers journals x r a))
    by (OfStuck journal entry e r a) (OfReplay y f b q) = absurd (q (none net.routers journals y r b))
    by (OfStuck journal entry e r a) (OfStuck other later f s b) =
        let same = unreached-once net journals journal entry other later a b in
        e ∙ (ap (λ (n : ℕ). fault.Stuck n entry) same.0 ∙ (ap (λ (n : ℕ). fault.Stuck other n) same.1 ∙ sym f))

-- ---- nothing is told of journals that are woven

pub told-none : ToldNone → (net : Network) (journals : List WovenJournal) (schedule : List LabEvent) (after : LabNet) (f : WeaveFault) → IsWoven net journals schedule after → IsToldOf net journals f → f ≡ no_memory
told-none none net journals schedule after (fault.Event journal entry) w t = ap of_replay (none net.routers journals (replay.Event journal entry) w.replayed t)
told-none none net journals schedule after (fault.Reply journal entry) w t = ap of_replay (none net.routers journals (replay.Reply journal entry) w.replayed t)
told-none none net journals schedule after (fault.Limit name) w t = ap of_replay (none net.routers journals (replay.Limit name) w.replayed t)
told-none none net journals schedule after (fault.Stuck journal entry) w t = absurd (no-weaving net journals journal entry (happenings_of schedule) w.last t.1 w.woven)
told-none none net journals schedule after fault.OutOfMemory w t = refl

-- ---- the network behind a schedule

pub net-run : (net : Network) (journals : List WovenJournal) (schedule : List LabEvent) (after : LabNet) → IsWoven net journals schedule after → StandsFor (run given net (happenings_of schedule)) after
net-run net journals schedule after w = subst (λ (n : Network). StandsFor n after) (front-run given (happenings_of schedule) (begin net journals) w.last w.woven.front) w.stands
