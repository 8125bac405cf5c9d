-- A turn of each loop that lays a network out.
use Rattle.std.proofs.Common.{◌≡◌, ℕ, ◌+◌, ◌<◌, ◌≤◌, true, List, [], ◌∷◌, ◌++◌, length, take, drop, get_or, refl, sym, ap, ◌∙◌, subst, arith}
use Rattle.std.proofs.lemmas.List.{drop_more, at_drop_more, take_more}
use Rattle.std.specs.List.{AllByRecursion}
use Rattle.network_lab.specs.LabNets.{LabNet, with_router, next_place}
use Rattle.lab_script.specs.declared.setup.KeyScope.{KeyScope}
use Rattle.lab_script.specs.declared.setup.KeyScope.TheVariants as scope
use Rattle.lab_script.specs.declared.setup.LabKey.{LabKey}
use Rattle.lab_script.specs.declared.setup.LabLink.{LabLink}
use Rattle.lab_script.specs.declared.setup.LabRouter.{LabRouter}
use Rattle.lab_script.specs.LabScripts.{LabScript, is_end, circuit_count}
use Rattle.lab_script.specs.LabSound.{IsLaidLink, IsKeyScope, IsSoundLab}
use Rattle.lab_text.specs.Layouts.{config_of, with_routers, with_laid, with_links, with_scope, with_keys}
use Rattle.lab_text.specs.Setups.{HasRouters, HasLinks, HasScope, IsNextLink}
use Rattle.lab_text.proofs.SetupLemmas.{router-more, laid-more, next-link, room-at, key-more, circuit-has}

-- ---- routers

pub routers-at : (keys : List LabKey) (number : ℕ) (routers : List LabRouter) (a : LabNet) (i : ℕ) (told : LabRouter) → i < length routers → told ≡ get_or routers i told
    → with_routers keys number (drop i routers) a ≡ with_routers keys (number + 1) (drop (i + 1) routers) (with_router a (config_of keys number told))
routers-at keys number routers a i told lt is =
    at_drop_more (λ (rs : List LabRouter). with_routers keys number rs a) routers i told lt
    ∙ ap (λ (x : LabRouter). with_routers keys (number + 1) (drop (i + 1) routers) (with_router a (config_of keys number x))) (sym is)

pub routers-turn : (keys : List LabKey) (number : ℕ) (routers : List LabRouter) (a : LabNet) (i : ℕ) (told : LabRouter) → i < length routers → told ≡ get_or routers i told
    → HasRouters (take i routers) a → HasRouters (take (i + 1) routers) (with_router a (config_of keys number told))
routers-turn keys number routers a i told lt is has =
    subst (λ (rs : List LabRouter). HasRouters rs (with_router a (config_of keys number told)))
    (sym (take_more routers i told lt ∙ ap (λ (x : LabRouter). take i routers ++ x ∷ []) (sym is)))
    (router-more (take i routers) a told (config_of keys number told) refl refl has)

-- ---- links

pub links-at : (routers : List LabRouter) (links : List LabLink) (a : LabNet) (i : ℕ) (told : LabLink) → i < length links → told ≡ get_or links i told
    → with_links routers (drop i links) a ≡ with_links routers (drop (i + 1) links) (with_laid routers told a)
links-at routers links a i told lt is =
    at_drop_more (λ (ls : List LabLink). with_links routers ls a) links i told lt
    ∙ ap (λ (x : LabLink). with_links routers (drop (i + 1) links) (with_laid routers x a)) (sym is)

pub laid-at : (script : LabScript) (links : List LabLink) (i : ℕ) (told : LabLink) → IsSoundLab script → links ≡ script.links → i < length links → told ≡ get_or links i told
    → IsLaidLink (length script.routers) (take i links) told
laid-at script links i told sound same =
    subst (λ (ls : List LabLink). i < length ls → told ≡ get_or ls i told → IsLaidLink (length script.routers) (take i ls) told) (sym same)
    (λ lt is. subst (λ (x : LabLink). IsLaidLink (length script.routers) (take i script.links) x) (sym is) (sound.laid i told lt))

pub links-turn : (count : ℕ) (routers : List LabRouter) (links : List LabLink) (a : LabNet) (i : ℕ) (told : LabLink) → i < length links → told ≡ get_or links i told
    → IsNextLink a told → HasLinks count (take i links) a → HasLinks count (take (i + 1) links) (with_laid routers told a)
links-turn count routers links a i told lt is next has =
    subst (λ (ls : List LabLink). HasLinks count ls (with_laid routers told a))
    (sym (take_more links i told lt ∙ ap (λ (x : LabLink). take i links ++ x ∷ []) (sym is)))
    (laid-more count (take i links) routers a told next has)

-- an end of the link that is added has room for a circuit
room-for : (script : LabScript) (links : List LabLink) (a : LabNet) (i : ℕ) (told : LabLink) (router : ℕ) → IsSoundLab script → links ≡ script.links → i < length links → told ≡ get_or links i told
    → is_end told router ≡ true → HasLinks (length script.routers) (take i links) a → next_place a router < 64
room-for script links a i told router sound same lt is end has =
    subst (λ (n : ℕ). n < 64) (sym (has.places router))
    (room-at links i told router lt is end (subst (λ (ls : List LabLink). circuit_count ls router ≤ 64) (sym same) (sound.circuits router)))

pub next-for : (script : LabScript) (links : List LabLink) (a : LabNet) (i : ℕ) (told : LabLink) → IsSoundLab script → links ≡ script.links → i < length links → told ≡ get_or links i told
    → HasLinks (length script.routers) (take i links) a → IsNextLink a told
next-for script links a i told sound same lt is has =
    next-link (length script.routers) (take i links) a told (laid-at script links i told sound same lt is) has (λ router end. room-for script links a i told router sound same lt is end has)

-- ---- keys

pub keys-at : (keys : List LabKey) (a : LabNet) (i : ℕ) (told : LabKey) → i < length keys → told ≡ get_or keys i told
    → with_keys (drop i keys) a ≡ with_keys (drop (i + 1) keys) (with_scope told.router told.scope told.key a)
keys-at keys a i told lt is =
    at_drop_more (λ (ks : List LabKey). with_keys ks a) keys i told lt
    ∙ ap (λ (x : LabKey). with_keys (drop (i + 1) keys) (with_scope x.router x.scope x.key a)) (sym is)

pub keys-turn : (count : ℕ) (links : List LabLink) (a : LabNet) (router : ℕ) (s : KeyScope) (key : List ℕ) → HasLinks count links a → HasLinks count links (with_scope router s key a)
keys-turn count links a router scope.Area key has = has
keys-turn count links a router scope.Domain key has = has
keys-turn count links a router (scope.Circuit place) key has = key-more count links a router (place + 1) key has

-- what holds of the keys that are left, of the first of them, and of those behind it
pub key-left : (P : LabKey → Type 0) (keys : List LabKey) (i : ℕ) (told : LabKey) → i < length keys → told ≡ get_or keys i told → AllByRecursion P (drop i keys)
    → P told × AllByRecursion P (drop (i + 1) keys)
key-left P keys i told lt is all =
    let left = subst (λ (ks : List LabKey). AllByRecursion P ks) (drop_more keys i told lt) all in
    (subst P (sym is) left.0, left.1)

pub scope-there : (script : LabScript) (a : LabNet) (router : ℕ) (s : KeyScope) → IsSoundLab script → HasLinks (length script.routers) script.links a → IsKeyScope (length script.routers) script.links router s → HasScope a router s
scope-there script a router scope.Area sound has there = tt
scope-there script a router scope.Domain sound has there = tt
scope-there script a router (scope.Circuit place) sound has there =
    let few = sound.circuits router in
    (circuit-has a router place (subst (λ (n : ℕ). router < n) (sym has.count_is) there.0) (subst (λ (n : ℕ). place < n) (sym (has.places router)) there.1), omega (arith, few, there.1))
