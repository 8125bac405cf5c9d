-- What a router answers, as datagrams.
use Rattle.std.proofs.Common.{◌≡◌, ℕ, ◌+◌, ◌-◌, ◌<◌, ◌≤◌, List, [], ◌∷◌, ◌++◌, map, take, length, Option, Some, None, Result, Ok, Err, IfErr, OnOk, append-nil, length-append, refl, sym, ap, ◌∙◌, subst, arith}
use Rattle.std.proofs.lemmas.List.{length-map, take-map}
use Rattle.std.proofs.Math.Seq.{take-append-add}
use Rattle.model_router.specs.Places.{nth}
use Rattle.model_router.specs.Routers.{Circuit, Router}
use Rattle.model_router.specs.Datagrams.{Sent}
use Rattle.model_router.specs.Events as model
use Rattle.model_network.specs.Runs.{changes_of, posts, posted}
use Rattle.model_network.specs.Runs.{post as post_of}
use Rattle.router_core.specs.Replies.{datagrams_on, Answers}
use Rattle.router_desk.specs.declared.cause.DropCause.{DropCause}
use Rattle.router_core.specs.declared.reply.Reply.{Reply}
use Rattle.router_core.specs.declared.reply.Reply.TheVariants as reply
use Rattle.network_lab.specs.declared.sent.Changes.{Changes}
use Rattle.network_lab.specs.LabNets.{counts_in, sent_of}
use Rattle.network_lab.specs.declared.sent.SentDatagram.{SentDatagram}
use Rattle.lab_keys.specs.declared.faults.LabFault.{LabFault}
use Rattle.network_lab.specs.LabSteps.{sent_by, StopCause}
use Rattle.network_lab.specs.LabCauses.{IsPast}

each-sent : (i link : ℕ) (t : Router) (place : ℕ) (c : Circuit) (out : List Sent) → map sent_of (map (post_of i link t place c) out) ≡ map (sent_by i t.boot (counts_in (changes_of t)) link) (datagrams_on t place (Some c) out)
each-sent i link t place c [] = refl
each-sent i link t place c (s ∷ out) = ap (λ (ds : _). sent_of (post_of i link t place c s) ∷ ds) (each-sent i link t place c out)

on-sent : (i link : ℕ) (t : Router) (place : ℕ) (c : Option Circuit) (out : List Sent) → map sent_of (posts i link t place c out) ≡ map (sent_by i t.boot (counts_in (changes_of t)) link) (datagrams_on t place c out)
on-sent i link t place None out = refl
on-sent i link t place (Some c) out = each-sent i link t place c out

not-drop : (ds : List (List ℕ)) (cause : DropCause) → reply.Send ds ≡ reply.Dropped cause → ⊥
not-drop ds cause e = cc

same-send : (a b : List (List ℕ)) → reply.Send a ≡ reply.Send b → a ≡ b
same-send a b e = cc

-- an answer that sends
pub sends : (i link : ℕ) (t : Router) (place : ℕ) (m : model.Reply) (ds : List (List ℕ)) → Answers t place m (reply.Send ds) → map sent_of (posted i (Some link) t place m) ≡ map (sent_by i t.boot (counts_in (changes_of t)) link) ds
sends i link t place model.Done ds e = absurd (cc)
sends i link t place (model.Dropped cause) ds e = absurd (not-drop ds e.0 e.1)
sends i link t place (model.Send out) ds e = on-sent i link t place (nth t.circuits place) out ∙ ap (λ (xs : List (List ℕ)). map (sent_by i t.boot (counts_in (changes_of t)) link) xs) (sym (same-send ds _ e))

-- an answer that sends nothing
pub done-sends : (i link : ℕ) (t : Router) (place : ℕ) (m : model.Reply) → Answers t place m reply.Done → map sent_of (posted i (Some link) t place m) ≡ []
done-sends i link t place model.Done e = refl
done-sends i link t place (model.Dropped cause) e = refl
done-sends i link t place (model.Send out) e = absurd (cc)

pub drop-sends : (i link : ℕ) (t : Router) (place : ℕ) (m : model.Reply) (cause : DropCause) → Answers t place m (reply.Dropped cause) → map sent_of (posted i (Some link) t place m) ≡ []
drop-sends i link t place model.Done cause e = refl
drop-sends i link t place (model.Dropped name) cause e = refl
drop-sends i link t place (model.Send out) cause e = absurd (cc)

-- ---- whatever the link

sent-is : (sender link boot : ℕ) (changes : Changes) (lk : Option ℕ) (answer : Reply) (ds items : List (List ℕ)) (r : Router) (place : ℕ) (m : model.Reply) → lk ≡ Some link → answer ≡ reply.Send ds → items ≡ ds → Answers r place m answer → boot ≡ r.boot → changes ≡ counts_in (changes_of r) → map sent_of (posted sender lk r place m) ≡ map (sent_by sender boot changes link) items
sent-is sender link boot changes lk answer ds items r place m on is same ans at counts =
    ap (λ (o : Option ℕ). map sent_of (posted sender o r place m)) on
    ∙ (sends sender link r place m ds (subst (λ (a : Reply). Answers r place m a) is ans)
    ∙ (ap (λ (b : ℕ). map (sent_by sender b (counts_in (changes_of r)) link) ds) (sym at)
    ∙ (ap (λ (cs : Changes). map (sent_by sender boot cs link) ds) (sym counts) ∙ ap (λ (xs : List (List ℕ)). map (sent_by sender boot changes link) xs) (sym same))))

pub send-ok : {U E : Type 0} (res : Result U E) (sender link boot : ℕ) (changes : Changes) (lk : Option ℕ) (answer : Reply) (ds items : List (List ℕ)) (sent new : List SentDatagram) → lk ≡ Some link → answer ≡ reply.Send ds → items ≡ ds → OnOk res (new ≡ sent ++ map (sent_by sender boot changes link) items)
    → OnOk res ((r : Router) (place : ℕ) (m : model.Reply) → Answers r place m answer → boot ≡ r.boot → changes ≡ counts_in (changes_of r) → new ≡ sent ++ map sent_of (posted sender lk r place m))
send-ok (Err e) sender link boot changes lk answer ds items sent new on is same h = tt
send-ok (Ok u) sender link boot changes lk answer ds items sent new on is same h = λ r place m ans at counts. h ∙ ap (λ (xs : List SentDatagram). sent ++ xs) (sym (sent-is sender link boot changes lk answer ds items r place m on is same ans at counts))

pub send-err : {U : Type 0} (res : Result U LabFault) (sender link boot : ℕ) (changes : Changes) (lk : Option ℕ) (answer : Reply) (ds items : List (List ℕ)) (sent new : List SentDatagram) → lk ≡ Some link → answer ≡ reply.Send ds → items ≡ ds → IfErr res (StopCause (sent ++ map (sent_by sender boot changes link) items) new)
    → IfErr res (λ fault. (r : Router) (place : ℕ) (m : model.Reply) → Answers r place m answer → boot ≡ r.boot → changes ≡ counts_in (changes_of r) → StopCause (sent ++ map sent_of (posted sender lk r place m)) new fault)
send-err (Ok u) sender link boot changes lk answer ds items sent new on is same h = tt
send-err (Err f) sender link boot changes lk answer ds items sent new on is same h = λ r place m ans at counts. subst (λ (xs : List SentDatagram). StopCause (sent ++ xs) new f) (sym (sent-is sender link boot changes lk answer ds items r place m on is same ans at counts)) h

pub send-done : (sender boot : ℕ) (changes : Changes) (lk : Option ℕ) (answer : Reply) (sent : List SentDatagram) → answer ≡ reply.Done → (r : Router) (place : ℕ) (m : model.Reply) → Answers r place m answer → boot ≡ r.boot → changes ≡ counts_in (changes_of r) → sent ≡ sent ++ map sent_of (posted sender lk r place m)
send-done sender boot changes None answer sent is r place m ans at counts = sym (append-nil sent)
send-done sender boot changes (Some link) answer sent is r place m ans at counts = sym (append-nil sent) ∙ ap (λ (xs : List SentDatagram). sent ++ xs) (sym (done-sends sender link r place m (subst (λ (a : Reply). Answers r place m a) is ans)))

pub send-drop : (sender boot : ℕ) (changes : Changes) (lk : Option ℕ) (answer : Reply) (cause : DropCause) (sent : List SentDatagram) → answer ≡ reply.Dropped cause → (r : Router) (place : ℕ) (m : model.Reply) → Answers r place m answer → boot ≡ r.boot → changes ≡ counts_in (changes_of r) → sent ≡ sent ++ map sent_of (posted sender lk r place m)
send-drop sender boot changes None answer cause sent is r place m ans at counts = sym (append-nil sent)
send-drop sender boot changes (Some link) answer cause sent is r place m ans at counts = sym (append-nil sent) ∙ ap (λ (xs : List SentDatagram). sent ++ xs) (sym (drop-sends sender link r place m cause (subst (λ (a : Reply). Answers r place m a) is ans)))

-- ---- past the limit

pub first-kept : (f : List ℕ → SentDatagram) (sent new : List SentDatagram) (items kept : List (List ℕ)) (room : ℕ) → length sent ≤ 262144 → room ≡ 262144 - length sent → room < length items → kept ≡ take room items → new ≡ sent ++ map f kept → IsPast (sent ++ map f items) new
first-kept f sent new items kept room few is past first now = (
  let a = length-append sent (map f items) in let b = length-map items f in omega (arith, a, b, few, is, past),
  now ∙ (ap (λ (xs : List (List ℕ)). sent ++ map f xs) first ∙ (ap (λ (xs : List SentDatagram). sent ++ xs) (sym (take-map f room items)) ∙ (sym (take-append-add sent (map f items) room) ∙ ap (λ (n : ℕ). take n (sent ++ map f items)) whole))),
)
  where
    whole : length sent + room ≡ 262144
    whole = omega (arith, few, is)
