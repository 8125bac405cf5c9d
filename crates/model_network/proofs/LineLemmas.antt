-- The events of a line `run` make of a network what the line does.
use Rattle.std.proofs.Common.{◌≡◌, ℕ, zero, suc, ◌+◌, ◌==◌, ◌||◌, Bool, true, false, List, [], ◌∷◌, ◌++◌, length, Option, Some, None, if◌then◌else◌, refl, ap, ◌∙◌}
use Rattle.std.specs.List.{AllByRecursion}
use Rattle.model_router.specs.Places.{nth}
use Rattle.model_router.specs.Givens.{Given}
use Rattle.model_router.proofs.ListLemmas.{all-append}
use Rattle.model_network.specs.declared.word.PduWord.{PduWord}
use Rattle.model_network.specs.declared.end.End.{End}
use Rattle.model_network.specs.Networks.{Datagram, octets_of, Network}
use Rattle.model_network.specs.Runs.{Happening, Tick, PullOn, Deliver, apply, run}
use Rattle.model_network.specs.RunLines as line
use Rattle.model_network.specs.LineEvents.{unless, each_events, one_events, found_events, behind_events, tick_events, pull_events, links_events, pulls_events, second_events, line_events, IsOfLine}

pub run-append : (g : Given) (net : Network) (xs ys : List Happening) → run g net (xs ++ ys) ≡ run g (run g net xs) ys
run-append g net [] ys = refl
run-append g net (x ∷ xs) ys = run-append g (apply g net x) xs ys

-- one part of events and then another
joined : (g : Given) (net : Network) (xs ys : List Happening) (mid end : Network) → run g net xs ≡ mid → run g mid ys ≡ end → run g net (xs ++ ys) ≡ end
joined g net xs ys mid end e f = run-append g net xs ys ∙ (ap (λ (m : Network). run g m ys) e ∙ f)

unless-run : (g : Given) (out : Bool) (h : Happening) (more : List Happening) (net : Network) (rest : Network → Network) → ((m : Network) → run g m more ≡ rest m) → run g net (unless out h more) ≡ rest (if out then net else apply g net h)
unless-run g true h more net rest f = f net
unless-run g false h more net rest f = f (apply g net h)

each-run : (g : Given) (except : Option ℕ) (number sender : ℕ) (ends : List End) (net : Network) → run g net (each_events except number sender ends) ≡ line.deliver_each g except number sender ends net
each-run g except number sender [] net = refl
each-run g except number sender (e ∷ ends) net =
    unless-run g (e.router == sender || line.is_excepted except e.router) (Deliver number e.router) (each_events except number sender ends) net (line.deliver_each g except number sender ends) (each-run g except number sender ends)

one-run : (g : Given) (without : Option PduWord) (except : Option ℕ) (number : ℕ) (d : Datagram) (net : Network) → run g net (one_events without except number d net) ≡ line.deliver_one g without except number d net
one-run g without except number d net = by (line.is_left_out without (octets_of d))
  where
    ends : List End
    ends = line.by_router (line.ends_of (nth net.links d.link))

    by : (out : Bool) → run g net (if out then [] else each_events except number d.sender ends) ≡ (if out then net else line.deliver_each g except number d.sender ends net)
    by true = refl
    by false = each-run g except number d.sender ends net

behind-run : (g : Given) (without : Option PduWord) (except : Option ℕ) (most count : ℕ) (net : Network) → run g net (behind_events g without except most count net) ≡ line.deliver_behind g without except most count net
behind-run g without except zero count net = refl
behind-run g without except (suc most) count net = of (nth net.datagrams count) (λ m. behind-run g without except most (count + 1) m)
  where
    of : (o : Option Datagram) → ((m : Network) → run g m (behind_events g without except most (count + 1) m) ≡ line.deliver_behind g without except most (count + 1) m) → run g net (found_events o (λ d. one_events without except (count + 1) d net ++ behind_events g without except most (count + 1) (line.deliver_one g without except (count + 1) d net)))
        ≡ line.where_found o net (λ d. line.deliver_behind g without except most (count + 1) (line.deliver_one g without except (count + 1) d net))
    of None rest = refl
    of (Some d) rest = joined g net (one_events without except (count + 1) d net) (behind_events g without except most (count + 1) (line.deliver_one g without except (count + 1) d net)) (line.deliver_one g without except (count + 1) d net) _
        (one-run g without except (count + 1) d net) (rest (line.deliver_one g without except (count + 1) d net))

ticks-run : (g : Given) (except : Option ℕ) (router count : ℕ) (net : Network) → run g net (tick_events except router count) ≡ line.tick_each g except router count net
ticks-run g except router zero net = refl
ticks-run g except router (suc count) net =
    unless-run g (line.is_excepted except router) (Tick router) (tick_events except (router + 1) count) net (line.tick_each g except (router + 1) count) (ticks-run g except (router + 1) count)

links-run : (g : Given) (without : Option PduWord) (except : Option ℕ) (router : ℕ) (links : List ℕ) (net : Network) → run g net (links_events g without except router links net) ≡ line.pull_links g without except router links net
links-run g without except router [] net = refl
links-run g without except router (link ∷ links) net =
    joined g net (pull_events g without except router link net) (links_events g without except router links (line.pull_one g without except router link net)) (line.pull_one g without except router link net) _
    (behind-run g without except line.datagram_limit (length net.datagrams) (apply g net (PullOn router link)))
    (links-run g without except router links (line.pull_one g without except router link net))

pulls-run : (g : Given) (without : Option PduWord) (except : Option ℕ) (router count : ℕ) (net : Network) → run g net (pulls_events g without except router count net) ≡ line.pull_each g without except router count net
pulls-run g without except router zero net = refl
pulls-run g without except router (suc count) net = by (line.is_excepted except router) (λ m. pulls-run g without except (router + 1) count m)
  where
    there : Network
    there = line.pull_links g without except router (line.links_at net router) net

    by : (out : Bool) → ((m : Network) → run g m (pulls_events g without except (router + 1) count m) ≡ line.pull_each g without except (router + 1) count m) → run g net (if out then pulls_events g without except (router + 1) count net else links_events g without except router (line.links_at net router) net ++ pulls_events g without except (router + 1) count there)
        ≡ line.pull_each g without except (router + 1) count (if out then net else there)
    by true rest = rest net
    by false rest = joined g net (links_events g without except router (line.links_at net router) net) (pulls_events g without except (router + 1) count there) there _
        (links-run g without except router (line.links_at net router) net) (rest there)

second-run : (g : Given) (without : Option PduWord) (except : Option ℕ) (net : Network) → run g net (second_events g without except net) ≡ line.run_second g without except net
second-run g without except net =
    joined g net (tick_events except 0 (length net.routers)) (pulls_events g without except 0 (length net.routers) (line.tick_each g except 0 (length net.routers) net)) (line.tick_each g except 0 (length net.routers) net) _
    (ticks-run g except 0 (length net.routers) net) (pulls-run g without except 0 (length net.routers) (line.tick_each g except 0 (length net.routers) net))

pub line-run : (g : Given) (without : Option PduWord) (except : Option ℕ) (seconds : ℕ) (net : Network) → run g net (line_events g without except seconds net) ≡ line.run_line g without except seconds net
line-run g without except zero net = refl
line-run g without except (suc seconds) net =
    joined g net (second_events g without except net) (line_events g without except seconds (line.run_second g without except net)) (line.run_second g without except net) _
    (second-run g without except net) (line-run g without except seconds (line.run_second g without except net))

-- ---- they are seconds, pulls and deliveries

unless-all : (out : Bool) (h : Happening) (more : List Happening) → IsOfLine h → AllByRecursion IsOfLine more → AllByRecursion IsOfLine (unless out h more)
unless-all true h more x all = all
unless-all false h more x all = (x, all)

each-all : (except : Option ℕ) (number sender : ℕ) (ends : List End) → AllByRecursion IsOfLine (each_events except number sender ends)
each-all except number sender [] = tt
each-all except number sender (e ∷ ends) = unless-all (e.router == sender || line.is_excepted except e.router) (Deliver number e.router) (each_events except number sender ends) tt (each-all except number sender ends)

one-all : (without : Option PduWord) (except : Option ℕ) (number : ℕ) (d : Datagram) (net : Network) → AllByRecursion IsOfLine (one_events without except number d net)
one-all without except number d net = by (line.is_left_out without (octets_of d))
  where
    by : (out : Bool) → AllByRecursion IsOfLine (if out then [] else each_events except number d.sender (line.by_router (line.ends_of (nth net.links d.link))))
    by true = tt
    by false = each-all except number d.sender (line.by_router (line.ends_of (nth net.links d.link)))

behind-all : (g : Given) (without : Option PduWord) (except : Option ℕ) (most count : ℕ) (net : Network) → AllByRecursion IsOfLine (behind_events g without except most count net)
behind-all g without except zero count net = tt
behind-all g without except (suc most) count net = of (nth net.datagrams count) (λ m. behind-all g without except most (count + 1) m)
  where
    of : (o : Option Datagram) → ((m : Network) → AllByRecursion IsOfLine (behind_events g without except most (count + 1) m)) → AllByRecursion IsOfLine (found_events o (λ d. one_events without except (count + 1) d net ++ behind_events g without except most (count + 1) (line.deliver_one g without except (count + 1) d net)))
    of None rest = tt
    of (Some d) rest = all-append IsOfLine (one_events without except (count + 1) d net) (behind_events g without except most (count + 1) (line.deliver_one g without except (count + 1) d net))
        (one-all without except (count + 1) d net) (rest (line.deliver_one g without except (count + 1) d net))

ticks-all : (except : Option ℕ) (router count : ℕ) → AllByRecursion IsOfLine (tick_events except router count)
ticks-all except router zero = tt
ticks-all except router (suc count) = unless-all (line.is_excepted except router) (Tick router) (tick_events except (router + 1) count) tt (ticks-all except (router + 1) count)

links-all : (g : Given) (without : Option PduWord) (except : Option ℕ) (router : ℕ) (links : List ℕ) (net : Network) → AllByRecursion IsOfLine (links_events g without except router links net)
links-all g without except router [] net = tt
links-all g without except router (link ∷ links) net =
    all-append IsOfLine (pull_events g without except router link net) (links_events g without except router links (line.pull_one g without except router link net))
    (tt, behind-all g without except line.datagram_limit (length net.datagrams) (apply g net (PullOn router link))) (links-all g without except router links (line.pull_one g without except router link net))

pulls-all : (g : Given) (without : Option PduWord) (except : Option ℕ) (router count : ℕ) (net : Network) → AllByRecursion IsOfLine (pulls_events g without except router count net)
pulls-all g without except router zero net = tt
pulls-all g without except router (suc count) net = by (line.is_excepted except router) (λ m. pulls-all g without except (router + 1) count m)
  where
    there : Network
    there = line.pull_links g without except router (line.links_at net router) net

    by : (out : Bool) → ((m : Network) → AllByRecursion IsOfLine (pulls_events g without except (router + 1) count m)) → AllByRecursion IsOfLine (if out then pulls_events g without except (router + 1) count net else links_events g without except router (line.links_at net router) net ++ pulls_events g without except (router + 1) count there)
    by true rest = rest net
    by false rest = all-append IsOfLine (links_events g without except router (line.links_at net router) net) (pulls_events g without except (router + 1) count there)
        (links-all g without except router (line.links_at net router) net) (rest there)

pub line-all : (g : Given) (without : Option PduWord) (except : Option ℕ) (seconds : ℕ) (net : Network) → AllByRecursion IsOfLine (line_events g without except seconds net)
line-all g without except zero net = tt
line-all g without except (suc seconds) net =
    all-append IsOfLine (second_events g without except net) (line_events g without except seconds (line.run_second g without except net))
    (all-append IsOfLine (tick_events except 0 (length net.routers)) (pulls_events g without except 0 (length net.routers) (line.tick_each g except 0 (length net.routers) net))
    (ticks-all except 0 (length net.routers)) (pulls-all g without except 0 (length net.routers) (line.tick_each g except 0 (length net.routers) net)))
    (line-all g without except seconds (line.run_second g without except net))
