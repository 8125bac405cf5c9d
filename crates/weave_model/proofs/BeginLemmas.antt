-- A router that was changed before all other events is at its start with the changed configuration.
use Rattle.std.proofs.Common.{◌≡◌, ℕ, zero, suc, ◌+◌, Bool, true, false, List, [], ◌∷◌, map, Option, Some, None, if◌then◌else◌, refl, sym, ap, ◌∙◌}
use Rattle.model_router.specs.Sets.{with_one}
use Rattle.model_router.specs.Places.{nth, with_nth}
use Rattle.model_router.specs.Maps.{set_at}
use Rattle.model_router.specs.Givens.{Given}
use Rattle.model_router.specs.Configs.{Config}
use Rattle.model_router.specs.Routers.{Circuit, CircuitLevel, Router}
use Rattle.model_router.specs.Elections.{idle, idle_level, idle_all, is_designated}
use Rattle.model_router.specs.Starts.{start, started, quiet, points_of, empty_level}
use Rattle.model_router.specs.Steps.{step, with_metric}
use Rattle.model_router.specs.Events.{Event, Second, Take, Pull, Metric, Overload, Prefix}
use Rattle.isis_base.specs.declared.level.Level.TheVariants as level
use Rattle.weave_model.specs.Begins.{metric_in, started_with, IsChange}
use Rattle.weave_model.specs.Entries.{Entry, next, replay}
use Rattle.weave_model.specs.Faults.{AreGood, AreGoodAll}
use Rattle.weave_model.specs.Weavings.{Move, Restarts, entries_before, behind_restart, track_of}
use Rattle.weave_model.specs.Coding.{IsGoodTrack}
use Rattle.model_network.specs.Networks.{restarted}

quiet-level : (own : Bool) → idle_level own quiet ≡ quiet
quiet-level true = refl
quiet-level false = refl

idle-started : (config : Config) (place : ℕ) (c : Circuit) → idle config place (started c) ≡ started c
idle-started config place c =
    ap (λ (part : CircuitLevel). record (started c) { levels = record { one = part; two = idle_level (is_designated config place (started c) level.Two) quiet } }) (quiet-level (is_designated config place (started c) level.One))
    ∙ ap (λ (part : CircuitLevel). record (started c) { levels = record { one = quiet; two = part } }) (quiet-level (is_designated config place (started c) level.Two))

idle-starts : (config : Config) (place : ℕ) (circuits : List Circuit) → idle_all config place (map started circuits) ≡ map started circuits
idle-starts config place [] = refl
idle-starts config place (c ∷ circuits) =
    ap (λ (x : Circuit). x ∷ idle_all config (place + 1) (map started circuits)) (idle-started config place c)
    ∙ ap (λ (xs : List Circuit). started c ∷ xs) (idle-starts config (place + 1) circuits)

starts : Option Circuit → Option Circuit
starts None = None
starts (Some c) = Some (started c)

nth-started : (circuits : List Circuit) (place : ℕ) → nth (map started circuits) place ≡ starts (nth circuits place)
unfolding starts
nth-started [] place = refl
nth-started (c ∷ circuits) zero = refl
nth-started (c ∷ circuits) (suc place) = nth-started circuits place

with-started : (circuits : List Circuit) (place : ℕ) (c : Circuit) → with_nth (map started circuits) place (started c) ≡ map started (with_nth circuits place c)
with-started [] place c = refl
with-started (x ∷ circuits) zero c = refl
with-started (x ∷ circuits) (suc place) c = ap (λ (xs : List Circuit). started x ∷ xs) (with-started circuits place c)

-- a metric doesn't change of which kind circuits are
points-with : (from : ℕ) (circuits : List Circuit) (place metric : ℕ) (c : Circuit) → nth circuits place ≡ Some c → points_of from (with_nth circuits place (record c { metric = metric })) ≡ points_of from circuits
points-with from [] place metric c e = refl
points-with from (x ∷ circuits) zero metric c e = ap (λ (o : Option Circuit). points_of from (of o ∷ circuits)) (sym e)
  where
    of : Option Circuit → Circuit
    of None = record c { metric = metric }
    of (Some y) = y
points-with from (x ∷ circuits) (suc place) metric c e = ap (λ (n : ℕ). if x.lan then n else with_one n from) (points-with (from + 1) circuits place metric c e)

settled-starts : (config : Config) (boot : ℕ) (circuits : List Circuit) → record (start config boot circuits) { circuits = idle_all config 0 (map started circuits) } ≡ start config boot circuits
settled-starts config boot circuits = ap (λ (cs : List Circuit). record (start config boot circuits) { circuits = cs }) (idle-starts config 0 circuits)

metric-starts : (given : Given) (config : Config) (boot : ℕ) (circuits : List Circuit) (place metric : ℕ) (o : Option Circuit) → nth circuits place ≡ o → record (with_metric (start config boot circuits) place metric (starts o)) { circuits = idle_all (with_metric (start config boot circuits) place metric (starts o)).config 0 (with_metric (start config boot circuits) place metric (starts o)).circuits } ≡ start config boot (metric_in circuits place metric o)
unfolding starts
metric-starts given config boot circuits place metric None e = settled-starts config boot circuits
metric-starts given config boot circuits place metric (Some c) e =
    ap (λ (cs : List Circuit). record (start config boot circuits) { circuits = cs })
    (ap (idle_all config 0) (with-started circuits place (record c { metric = metric })) ∙ idle-starts config 0 (with_nth circuits place (record c { metric = metric })))
    ∙ ap (λ (n : ℕ). record (start config boot circuits) {
      circuits = map started (with_nth circuits place (record c { metric = metric }));
      levels = record { one = empty_level n; two = empty_level n };
    }) (sym (points-with 0 circuits place metric c e))

pub change-starts : (given : Given) (config : Config) (boot : ℕ) (circuits : List Circuit) (event : Event) → IsChange event → (step given (start config boot circuits) event).router ≡ started_with config boot circuits event
unfolding step
change-starts given config boot circuits Second h = absurd h
change-starts given config boot circuits (Take place message) h = absurd h
change-starts given config boot circuits (Pull place) h = absurd h
change-starts given config boot circuits (Metric place metric) h =
    ap (λ (o : Option Circuit). record (with_metric (start config boot circuits) place metric o) { circuits = idle_all (with_metric (start config boot circuits) place metric o).config 0 (with_metric (start config boot circuits) place metric o).circuits }) (nth-started circuits place)
    ∙ metric-starts given config boot circuits place metric (nth circuits place) refl
change-starts given config boot circuits (Overload on) h = settled-starts (record config { overload = on }) boot circuits
change-starts given config boot circuits (Prefix prefix metric) h = settled-starts (record config { prefixes = set_at config.prefixes prefix metric }) boot circuits

-- ---- a router's journals as a track

good-before : (given : Given) (r : Router) (es : List Entry) (rest : List Move) → AreGood given r es → IsGoodTrack given (replay given r es) rest → IsGoodTrack given r (entries_before es rest)
good-before given r [] rest g h = h
good-before given r (e ∷ es) rest g h = (g.0, good-before given (next given r e.deed) es rest g.1 h)

good-behind : (given : Given) (r : Router) (j : List Entry) (js : List (List Entry)) → AreGood given r j → AreGoodAll given (restarted (replay given r j)) js → IsGoodTrack given r (behind_restart j js)
good-behind given r j [] g h = good-before given r j [] g tt
good-behind given r j (k ∷ ks) g h = good-before given r j (Restarts ∷ behind_restart k ks) g (tt, good-behind given (restarted (replay given r j)) k ks h.0 h.1)

pub good-track : (given : Given) (r : Router) (js : List (List Entry)) → AreGoodAll given r js → IsGoodTrack given r (track_of js)
good-track given r [] g = tt
good-track given r (j ∷ js) g = good-behind given r j js g.0 g.1
