-- The moments of a script: seconds of a line `run` one by one, and lines one after another.
use Rattle.std.proofs.Common.{◌≡◌, ℕ, zero, suc, ◌+◌, ◌-◌, ◌<◌, ◌≤◌, nat_lt, Bool, true, false, List, [], ◌∷◌, ◌++◌, length, get_or, drop, Option, Some, None, Result, Ok, Err, OnOk, IfErr, if◌then◌else◌, refl, sym, ap, ◌∙◌, subst, arith, append_assoc, append-nil, length-append}
use Rattle.std.proofs.lemmas.Bool.Decides.{nat_tests}
use Rattle.std.proofs.lemmas.List.{at_drop_more, at_drop_all, length-map}
use Rattle.std.proofs.lemmas.List.FromFn.{map-range_with_len_more}
use Rattle.model_network.specs.Networks.{Network}
use Rattle.model_network.specs.RunLines.{run_second}
use Rattle.network_lab.specs.Passed.{given}
use Rattle.network_lab.specs.LabNets.{LabNet, Seen, StandsFor, sent_of}
use Rattle.network_lab.proofs.RunLemmas.{line-grows}
use Rattle.lab_keys.specs.declared.faults.LimitName.TheVariants as limit
use Rattle.lab_script.specs.declared.deeds.LabDeed.{LabDeed}
use Rattle.lab_script.specs.declared.deeds.LabDeed.TheVariants as deed
use Rattle.lab_script.specs.declared.deeds.LabLine.{LabLine}
use Rattle.lab_script.specs.declared.reason.ScriptFault.{ScriptFault}
use Rattle.lab_script.specs.declared.reason.ScriptFault.TheVariants.{Refused, Limit, OutOfMemory}
use Rattle.lab_text.specs.LabRuns.{play_deed, play_all, within, ◌>>=◌}
use Rattle.timeline_text.specs.declared.moments.RunLine.{RunLine}
use Rattle.timeline_text.specs.Moments.{Moment, second_of, seconds_of, event_of, moments_at, moments_from}
use Rattle.timeline_text.specs.Pages.{PageOf, with_moment, AreAdded}
use Rattle.timeline_text.specs.Playing.{run_of, run_by, LineEnds, SecondEnds, LinesEnd}
use Rattle.timeline_text.specs.declared.tally.Tally.{Tally}
use Rattle.timeline_text.specs.Tallies.{IsTallyOf}
use Rattle.timeline_text.proofs.PageLemmas.{both-added, are-these, noted}

-- ---- seconds of a line `run`

one-more : (n : ℕ) → n + 1 ≡ suc n
one-more n = omega arith

second-later : (run : RunLine) (k : ℕ) (net : Network) → run_by run k (run_second given run.without run.except net) ≡ run_second given run.without run.except (run_by run k net)
second-later run zero net = refl
second-later run (suc k) net = second-later run k (run_second given run.without run.except net)

pub one-later : (run : RunLine) (k : ℕ) (net : Network) → run_by run 1 (run_by run k net) ≡ run_by run (k + 1) net
one-later run k net = sym (second-later run k net) ∙ ap (λ (n : ℕ). run_by run n net) (sym (one-more k))

in-parts : (run : RunLine) (a b : ℕ) (net : Network) → run_by run b (run_by run a net) ≡ run_by run (a + b) net
in-parts run zero b net = ap (λ (n : ℕ). run_by run n net) (zero-and b)
  where
    zero-and : (n : ℕ) → n ≡ 0 + n
    zero-and n = omega arith
in-parts run (suc a) b net = in-parts run a b (run_second given run.without run.except net) ∙ ap (λ (n : ℕ). run_by run n net) (suc-and a b)
  where
    suc-and : (a b : ℕ) → suc (a + b) ≡ suc a + b
    suc-and a b = omega arith

-- ---- the limit of datagrams

pub in-within : (net : Network) → length net.datagrams ≤ 262144 → within net ≡ Ok net
in-within net h =
    let t : nat_lt 262144 (length net.datagrams) ≡ false = grind (arith, nat_tests, h) in
    ap (λ (b : Bool). let r : Result Network ScriptFault = if b then Err (Limit limit.Datagrams) else Ok net in r) t

past-within : (net : Network) → 262144 < length net.datagrams → within net ≡ Err (Limit limit.Datagrams)
past-within net h =
    let t : nat_lt 262144 (length net.datagrams) ≡ true = grind (arith, nat_tests, h) in
    ap (λ (b : Bool). let r : Result Network ScriptFault = if b then Err (Limit limit.Datagrams) else Ok net in r) t

pub few-sent : (net : Network) (a : LabNet) → StandsFor net a → length a.seen.sent ≤ 262144 → length net.datagrams ≤ 262144
few-sent net a s h =
    let e = ap (λ (seen : Seen). length seen.sent) s.seen in
    let f = length-map net.datagrams sent_of in
    omega (arith, e, f, h)

pub too-many : (run : RunLine) (k : ℕ) (net : Network) → k < run.seconds → 262144 < length (run_by run 1 (run_by run k net)).datagrams → within (run_by run run.seconds net) ≡ Err (Limit limit.Datagrams)
too-many run k net h many =
    let rest : ℕ = run.seconds - (k + 1) in
    let whole : (k + 1) + rest ≡ run.seconds = omega (arith, h) in
    let mid : Network = run_by run (k + 1) net in
    let grows = line-grows given run.without run.except rest mid in
    let e = ap (λ (n : Network). length n.datagrams) (one-later run k net) in
    let f = ap (λ (n : Network). length n.datagrams) (in-parts run (k + 1) rest net ∙ ap (λ (n : ℕ). run_by run n net) whole) in
    let g = ap length grows.is in
    let l = length-append mid.datagrams grows.rest in
    past-within (run_by run run.seconds net) (omega (arith, many, e, f, g, l))

pub seconds-more : (line : ℕ) (run : RunLine) (k : ℕ) (net : Network) → seconds_of line run.without run.except (k + 1) net ≡ seconds_of line run.without run.except k net ++ second_of line run.without run.except net (k + 1) ∷ []
seconds-more line run k net = map-range_with_len_more (second_of line run.without run.except net) 1 k (k + 1) (omega arith)

-- ---- the moments of a line

pub event-moments : (line : ℕ) (d : LabDeed) (net next : Network) → run_of d ≡ None → moments_at line d net next ≡ event_of line next ∷ []
event-moments line (deed.Tick router) net next e = refl
event-moments line (deed.Pull router link) net next e = refl
event-moments line (deed.Deliver datagram router) net next e = refl
event-moments line (deed.Restart router) net next e = refl
event-moments line (deed.Prefix router prefix metric) net next e = refl
event-moments line (deed.Metric router place metric) net next e = refl
event-moments line (deed.Overload router on) net next e = refl
event-moments line (deed.Inject router link octets) net next e = refl
event-moments line (deed.Dump datagram) net next e = refl
event-moments line (deed.Run seconds without except) net next e = absurd (cc)

some-same : {A : Type 0} (a b : A) → Some a ≡ Some b → a ≡ b
some-same a b e = cc

pub run-deed : (d : LabDeed) (run : RunLine) → run_of d ≡ Some run → d ≡ deed.Run run.seconds run.without run.except
run-deed (deed.Tick router) run e = absurd (cc)
run-deed (deed.Pull router link) run e = absurd (cc)
run-deed (deed.Deliver datagram router) run e = absurd (cc)
run-deed (deed.Restart router) run e = absurd (cc)
run-deed (deed.Prefix router prefix metric) run e = absurd (cc)
run-deed (deed.Metric router place metric) run e = absurd (cc)
run-deed (deed.Overload router on) run e = absurd (cc)
run-deed (deed.Inject router link octets) run e = absurd (cc)
run-deed (deed.Dump datagram) run e = absurd (cc)
run-deed (deed.Run seconds without except) run e =
    ap (λ (r : RunLine). deed.Run r.seconds r.without r.except) (some-same _ run e)

-- ---- a moment is added, or memory is wanting

-- what is counted of a network was added to a page
abbrev pub Noted : ℕ → ℕ → ℕ → Option ℕ → LabNet → PageOf → PageOf → Type 0
Noted address line second except after old new = (tally : Tally) × IsTallyOf after.seen address except tally × (new ≡ with_moment old line second tally)

pub event-ends : (address line : ℕ) (d : LabDeed) (net : Network) (after : LabNet) (old new : PageOf) (result : Result (Unit {0}) ScriptFault) → run_of d ≡ None
    → (there : Network) → play_deed net line d ≡ Ok there → StandsFor there after
    → OnOk result (Noted address line 0 None after old new) → IfErr result (λ (fault : ScriptFault). fault ≡ OutOfMemory)
    → LineEnds address line d net after old new result
event-ends address line d net after old new (Ok done) event there played stands added cause = (
  there,
  played,
  stands,
  are-these address _ (moments_at line d net there) old new (sym (event-moments line d net there event))
      (noted address line 0 None (event_of line there) after old new refl refl refl stands added),
)
event-ends address line d net after old new (Err fault) event there played stands added cause =
    subst (λ (f : ScriptFault). LineEnds address line d net after old new (Err f)) (sym cause) tt

pub second-ends : (address line : ℕ) (run : RunLine) (second : ℕ) (net : Network) (after : LabNet) (old new : PageOf) (result : Result (Unit {0}) ScriptFault) → StandsFor (run_by run 1 net) after
    → OnOk result (Noted address line second run.except after old new) → IfErr result (λ (fault : ScriptFault). fault ≡ OutOfMemory)
    → SecondEnds address line run second net after old new result
second-ends address line run second net after old new (Ok done) stands added cause =
    (stands, noted address line second run.except (record { line = line; second = second; except = run.except; net = run_by run 1 net }) after old new refl refl refl stands added)
second-ends address line run second net after old new (Err fault) stands added cause =
    subst (λ (f : ScriptFault). SecondEnds address line run second net after old new (Err f)) (sym cause) tt

-- ---- lines one after another

-- moments before those of more lines
abbrev pub with_before : List Moment → Result (List Moment) ScriptFault → Result (List Moment) ScriptFault
with_before moments (Ok later) = Ok (moments ++ later)
with_before moments (Err fault) = Err fault

-- wherever the lines led, those that are left lead there too, with the moments so far
abbrev pub Leads : ℕ → LabNet → List LabLine → LabNet → List LabLine → PageOf → PageOf → Type 0
Leads address start lines now left old new = (net : Network) → StandsFor net start
    → (next : Network) × (moments : List Moment) × (moments_from net lines ≡ with_before moments (moments_from next left)) × StandsFor next now × AreAdded address moments old new

with-none : (r : Result (List Moment) ScriptFault) → r ≡ with_before [] r
with-none (Ok later) = refl
with-none (Err fault) = refl

pub start-leads : (address : ℕ) (start : LabNet) (lines : List LabLine) (page : PageOf) → AreAdded address [] page page → Leads address start lines start lines page page
start-leads address start lines page none = λ net s. (net, [], with-none (moments_from net lines), s, none)

with-both : (ms ns : List Moment) (r : Result (List Moment) ScriptFault) → with_before ms (with_before ns r) ≡ with_before (ms ++ ns) r
with-both ms ns (Ok later) = ap (λ (xs : List Moment). Ok xs) (sym (append_assoc ms ns later))
with-both ms ns (Err fault) = refl

as-before : (ms : List Moment) (r : Result (List Moment) ScriptFault) → (r >>= λ (later : List Moment). Ok (ms ++ later)) ≡ with_before ms r
as-before ms (Ok later) = refl
as-before ms (Err fault) = refl

from-at : (lines : List LabLine) (net : Network) (k : ℕ) (told : LabLine) → k < length lines → told ≡ get_or lines k told
    → moments_from net (drop k lines) ≡ (play_deed net told.line told.deed >>= λ (next : Network). moments_from next (drop (k + 1) lines) >>= λ (later : List Moment). Ok (moments_at told.line told.deed net next ++ later))
unfolding moments_from
from-at lines net k told lt e =
    at_drop_more (moments_from net) lines k told lt
    ∙ ap (λ (x : LabLine). play_deed net x.line x.deed >>= λ (next : Network). moments_from next (drop (k + 1) lines) >>= λ (later : List Moment). Ok (moments_at x.line x.deed net next ++ later)) (sym e)

pub leads-on : (address : ℕ) (start : LabNet) (lines : List LabLine) (now after : LabNet) (k : ℕ) (told : LabLine) (old mid new : PageOf) → k < length lines → told ≡ get_or lines k told
    → Leads address start lines now (drop k lines) old mid
    → ((net : Network) → StandsFor net now → LineEnds address told.line told.deed net after mid new (Ok tt))
    → Leads address start lines after (drop (k + 1) lines) old new
leads-on address start lines now after k told old mid new lt e h line = λ net s.
    let at = h net s in
    let here : Network = at.0 in
    let ms : List Moment = at.1 in
    let end = line here at.3 in
    let there : Network = end.0 in
    let ns : List Moment = moments_at told.line told.deed here there in
    let rest : Result (List Moment) ScriptFault = moments_from there (drop (k + 1) lines) in (
      there,
      ms ++ ns,
      at.2
          ∙ ap (with_before ms) (from-at lines here k told lt e
          ∙ ap (λ (r : Result Network ScriptFault). r >>= λ (next : Network). moments_from next (drop (k + 1) lines) >>= λ (later : List Moment). Ok (moments_at told.line told.deed here next ++ later)) end.1
          ∙ as-before ns rest)
          ∙ with-both ms ns rest,
      end.2,
      both-added address ms ns old mid new at.4 end.3,
    )

from-none : (net : Network) → moments_from net [] ≡ Ok []
unfolding moments_from
from-none net = refl

pub leads-to-end : (address : ℕ) (start : LabNet) (lines : List LabLine) (now : LabNet) (k : ℕ) (old new : PageOf) → length lines ≤ k
    → Leads address start lines now (drop k lines) old new
    → (net : Network) → StandsFor net start → LinesEnd address lines net old new (Ok tt)
leads-to-end address start lines now k old new past h net s =
    let at = h net s in
    let ms : List Moment = at.1 in (
      ms,
      at.2
          ∙ ap (with_before ms) (at_drop_all (moments_from at.0) lines k past ∙ from-none at.0)
          ∙ ap (λ (xs : List Moment). Ok xs) (append-nil ms),
      at.4,
    )

fault-leads : (fault : ScriptFault) (ms : List Moment) (r : Result Network ScriptFault) (next : Network → Result (List Moment) ScriptFault) (whole : Result (List Moment) ScriptFault)
    → whole ≡ with_before ms (r >>= next) → r ≡ Err fault → whole ≡ Err fault
fault-leads fault ms r next whole e f = e ∙ ap (λ (x : Result Network ScriptFault). with_before ms (x >>= next)) f

pub leads-to-fault : (address : ℕ) (start : LabNet) (lines : List LabLine) (now after : LabNet) (k : ℕ) (told : LabLine) (old mid new : PageOf) (fault : ScriptFault) → k < length lines → told ≡ get_or lines k told
    → Leads address start lines now (drop k lines) old mid
    → ((net : Network) → StandsFor net now → LineEnds address told.line told.deed net after mid new (Err fault))
    → (net : Network) → StandsFor net start → LinesEnd address lines net old new (Err fault)
leads-to-fault address start lines now after k told old mid new OutOfMemory lt e h line net s = tt
leads-to-fault address start lines now after k told old mid new (Refused number reason) lt e h line net s =
    let at = h net s in
    fault-leads (Refused number reason) at.1 (play_deed at.0 told.line told.deed) _ (moments_from net lines) (at.2 ∙ ap (with_before at.1) (from-at lines at.0 k told lt e)) (line at.0 at.3)
leads-to-fault address start lines now after k told old mid new (Limit which) lt e h line net s =
    let at = h net s in
    fault-leads (Limit which) at.1 (play_deed at.0 told.line told.deed) _ (moments_from net lines) (at.2 ∙ ap (with_before at.1) (from-at lines at.0 k told lt e)) (line at.0 at.3)

-- ---- a fault of moments is that of the run

err-same : {A : Type 0} (f g : ScriptFault) → ◌≡◌ {A = Result A ScriptFault} (Err f) (Err g) → f ≡ g
err-same f g e = cc

inner-fault : (ms : List Moment) (r : Result (List Moment) ScriptFault) (f : ScriptFault) → (r >>= λ (later : List Moment). Ok (ms ++ later)) ≡ Err f → r ≡ Err f
inner-fault ms (Ok later) f e = absurd (cc)
inner-fault ms (Err g) f e = e

pub fault-of-run : (net : Network) (lines : List LabLine) (f : ScriptFault) → moments_from net lines ≡ Err f → play_all net lines ≡ Err f
unfolding moments_from play_all
fault-of-run net [] f e = absurd (cc)
fault-of-run net (line ∷ lines) f e = by-deed (λ there h. fault-of-run there lines f h) (play_deed net line.line line.deed) e
  where
    by-deed : ((there : Network) → moments_from there lines ≡ Err f → play_all there lines ≡ Err f) → (r : Result Network ScriptFault) → (r >>= λ (next : Network). moments_from next lines >>= λ (later : List Moment). Ok (moments_at line.line line.deed net next ++ later)) ≡ Err f → (r >>= λ (more : Network). play_all more lines) ≡ Err f
    by-deed further (Ok there) h = further there (inner-fault (moments_at line.line line.deed net there) (moments_from there lines) f h)
    by-deed further (Err g) h = ap (λ (x : ScriptFault). Err x) (err-same g f h)

-- ---- the seconds of a line, one more and all

pub second-added : (address line : ℕ) (run : RunLine) (k : ℕ) (m : Network) (old mid new : PageOf) → AreAdded address (seconds_of line run.without run.except k m) old mid
    → AreAdded address (record { line = line; second = k + 1; except = run.except; net = run_by run 1 (run_by run k m) } ∷ []) mid new
    → AreAdded address (seconds_of line run.without run.except (k + 1) m) old new
second-added address line run k m old mid new h this =
    are-these address _ (seconds_of line run.without run.except (k + 1) m) old new
    (ap (λ (n : Network). seconds_of line run.without run.except k m ++ record { line = line; second = k + 1; except = run.except; net = n } ∷ []) (one-later run k m) ∙ sym (seconds-more line run k m))
    (both-added address (seconds_of line run.without run.except k m) (record { line = line; second = k + 1; except = run.except; net = run_by run 1 (run_by run k m) } ∷ []) old mid new h this)

pub seconds-end : (address line : ℕ) (run : RunLine) (k : ℕ) (m : Network) (after : LabNet) (old new : PageOf) → k ≡ run.seconds → length after.seen.sent ≤ 262144
    → StandsFor (run_by run k m) after → AreAdded address (seconds_of line run.without run.except k m) old new
    → LineEnds address line (deed.Run run.seconds run.without run.except) m after old new (Ok tt)
seconds-end address line run k m after old new e few stands added =
    let there : StandsFor (run_by run run.seconds m) after = subst (λ (n : ℕ). StandsFor (run_by run n m) after) e stands in (
      run_by run run.seconds m,
      in-within (run_by run run.seconds m) (few-sent (run_by run run.seconds m) after there few),
      there,
      subst (λ (n : ℕ). AreAdded address (seconds_of line run.without run.except n m) old new) e added,
    )

pub seconds-fault : (address line : ℕ) (run : RunLine) (k second : ℕ) (m : Network) (after : LabNet) (old mid new : PageOf) (fault : ScriptFault) → k < run.seconds
    → SecondEnds address line run second (run_by run k m) after mid new (Err fault)
    → LineEnds address line (deed.Run run.seconds run.without run.except) m after old new (Err fault)
seconds-fault address line run k second m after old mid new OutOfMemory lt h = tt
seconds-fault address line run k second m after old mid new (Refused number reason) lt h = absurd h
seconds-fault address line run k second m after old mid new (Limit limit.Datagrams) lt h = too-many run k m lt h
seconds-fault address line run k second m after old mid new (Limit limit.Routers) lt h = absurd h
seconds-fault address line run k second m after old mid new (Limit limit.Links) lt h = absurd h
seconds-fault address line run k second m after old mid new (Limit limit.Circuits) lt h = absurd h
seconds-fault address line run k second m after old mid new (Limit limit.Prefixes) lt h = absurd h
seconds-fault address line run k second m after old mid new (Limit limit.Boots) lt h = absurd h
