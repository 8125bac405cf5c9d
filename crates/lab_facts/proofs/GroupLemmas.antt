-- Groups by labels are the groups that chains of pairs connect.
use Rattle.std.proofs.Common.{◌≡◌, ℕ, ◌+◌, ◌≤◌, ⊎_elim, inl, inr, Bool, true, List, [], ◌∷◌, length, map, slice_index, refl, sym, ap, ◌∙◌, subst, arith}
use Rattle.lab_facts.specs.Joined.{In, TakesPart, Leads, Rises, AreOrdered, AreGroups}
use Rattle.lab_facts.specs.Parents.{AreLabels}
use Rattle.lab_facts.specs.Tags.{is_on, has_label, labelled, firsts, labelled_groups, AreTags}
use Rattle.lab_facts.proofs.LabelLemmas.{part-from, part-within, leads-on, leads-back, leads-part, leads-same}
use Rattle.lab_facts.proofs.TagLemmas.{rises-in, label-on, label-is, label-from, in-labelled, labelled-in, rises-labelled, in-firsts, firsts-in, rises-firsts}

-- ---- labels

label-same : (runs : List Bool) (ps : List (ℕ × ℕ)) (labels : List ℕ) (r : ℕ) → AreLabels runs ps labels → TakesPart runs r → slice_index labels (slice_index labels r) ≡ slice_index labels r
label-same runs ps labels r l t = sym (leads-same runs ps labels r (slice_index labels r) l (l.leads r (part-within runs r t)))

label-part : (runs : List Bool) (ps : List (ℕ × ℕ)) (labels : List ℕ) (r : ℕ) → AreLabels runs ps labels → TakesPart runs r → TakesPart runs (slice_index labels r)
label-part runs ps labels r l t = leads-part runs ps r (slice_index labels r) (l.leads r (part-within runs r t)) t

own-label : (runs : List Bool) (ps : List (ℕ × ℕ)) (labels : List ℕ) (r : ℕ) → AreLabels runs ps labels → TakesPart runs r → has_label runs labels (slice_index labels r) (slice_index labels r) ≡ true
own-label runs ps labels r l t =
    label-from runs labels (slice_index labels r) (slice_index labels r) (ap is_on (label-part runs ps labels r l t)) (label-same runs ps labels r l t)

pub labels-tags : (runs : List Bool) (ps : List (ℕ × ℕ)) (labels : List ℕ) → AreLabels runs ps labels → AreTags runs labels
labels-tags runs ps labels l = record {
  size = l.size;
  below = l.below;
  own = λ r on. own-label runs ps labels r l (part-from runs r on);
}

-- ---- order

-- a list of which the least is n
data Starts (n : ℕ) (xs : List ℕ) : Type 0 where
  Start : (more : List ℕ) → xs ≡ n ∷ more → Rises (n + 1) more → Starts n xs

starts-from : (n : ℕ) (xs : List ℕ) → Rises 0 xs → In n xs → ((x : ℕ) → In x xs → n ≤ x) → Starts n xs
starts-from n [] rises i least = absurd i
starts-from n (x ∷ xs) rises i least = ⊎_elim
    (λ (e : n ≡ x). Start xs (ap (λ (y : ℕ). y ∷ xs) (sym e)) (subst (λ (y : ℕ). Rises (y + 1) xs) (sym e) rises.1))
    (λ (j : In n xs). absurd (let up = rises-in (x + 1) xs n rises.1 j in omega (arith, up, least x (inl refl))))
    i

ordered-map : (f : ℕ → List ℕ) (least : ℕ) (xs : List ℕ) → Rises least xs → ((x : ℕ) → In x xs → Starts x (f x)) → AreOrdered least (map f xs)
ordered-map f least [] h s = tt
ordered-map f least (x ∷ xs) h s = put (s x (inl refl)) (ordered-map f (x + 1) xs h.1 (λ y i. s y (inr i)))
  where
    put : Starts x (f x) → AreOrdered (x + 1) (map f xs) → AreOrdered least (f x ∷ map f xs)
    put (Start more e rises) rest = subst (λ (g : List ℕ). AreOrdered least (g ∷ map f xs)) (sym e) (h.0, rises, rest)

starts-labelled : (runs : List Bool) (labels : List ℕ) (n x : ℕ) → AreTags runs labels → n ≡ length runs → In x (firsts runs labels n) → Starts x (labelled runs labels x n)
starts-labelled runs labels n x tags size i =
    let own = in-firsts runs labels n x i in
    starts-from x (labelled runs labels x n) (rises-labelled runs labels x n) (labelled-in runs labels x n x own.0 own.1)
    (λ y j. let h = in-labelled runs labels x n y j in omega (arith, label-is runs labels x y h.1, tags.below y (omega (arith, h.0, size))))

-- ---- groups

-- a group is that of one of the labels
data IsOf (f : ℕ → List ℕ) (xs : List ℕ) (group : List ℕ) : Type 0 where
  Of : (x : ℕ) → In x xs → group ≡ f x → IsOf f xs group

in-map : (f : ℕ → List ℕ) (xs : List ℕ) (group : List ℕ) → In group (map f xs) → IsOf f xs group
in-map f [] group i = absurd i
in-map f (x ∷ xs) group i = ⊎_elim (λ (e : group ≡ f x). Of x (inl refl) e) (λ (j : In group (map f xs)). more (in-map f xs group j)) i
  where
    more : IsOf f xs group → IsOf f (x ∷ xs) group
    more (Of y k e) = Of y (inr k) e

map-in : (f : ℕ → List ℕ) (xs : List ℕ) (x : ℕ) → In x xs → In (f x) (map f xs)
map-in f [] x i = absurd i
map-in f (y ∷ xs) x i = ⊎_elim (λ (e : x ≡ y). inl (ap f e)) (λ (j : In x xs). inr (map-in f xs x j)) i

pub groups-are : (runs : List Bool) (ps : List (ℕ × ℕ)) (labels : List ℕ) → AreLabels runs ps labels → AreGroups runs ps (labelled_groups runs labels (length runs))
groups-are runs ps labels l = record {
  order = ordered-map of-label 0 (firsts runs labels (length runs)) (rises-firsts runs labels (length runs)) (λ x i. starts-labelled runs labels (length runs) x (labels-tags runs ps labels l) refl i);
  members = λ group r i j. part group r (in-map of-label (firsts runs labels (length runs)) group i) j;
  all = λ r t. (of-label (slice_index labels r), map-in of-label (firsts runs labels (length runs)) (slice_index labels r) (firsts-in runs labels (length runs) (slice_index labels r) (part-within runs (slice_index labels r) (label-part runs ps labels r l t)) (own-label runs ps labels r l t)), labelled-in runs labels (slice_index labels r) (length runs) r (part-within runs r t) (label-from runs labels (slice_index labels r) r (ap is_on t) refl));
  led = λ group a b i j k. across group a b (in-map of-label (firsts runs labels (length runs)) group i) j k;
  largest = λ group a b i j h. stays group a b (in-map of-label (firsts runs labels (length runs)) group i) j h;
}
  where
    of-label : ℕ → List ℕ
    of-label = λ (x : ℕ). labelled runs labels x (length runs)

    found : (group : List ℕ) (x r : ℕ) → group ≡ of-label x → In r group → has_label runs labels x r ≡ true
    found group x r e j = (in-labelled runs labels x (length runs) r (subst (λ (g : List ℕ). In r g) e j)).1

    part : (group : List ℕ) (r : ℕ) → IsOf of-label (firsts runs labels (length runs)) group → In r group → TakesPart runs r
    part group r (Of x i e) j = part-from runs r (label-on runs labels x r (found group x r e j))

    to-label : (group : List ℕ) (x r : ℕ) → group ≡ of-label x → In r group → Leads runs ps r x
    to-label group x r e j = subst (λ (y : ℕ). Leads runs ps r y) (label-is runs labels x r (found group x r e j)) (l.leads r (part-within runs r (part-from runs r (label-on runs labels x r (found group x r e j)))))

    across : (group : List ℕ) (a b : ℕ) → IsOf of-label (firsts runs labels (length runs)) group → In a group → In b group → Leads runs ps a b
    across group a b (Of x i e) j k = leads-on runs ps a x b (to-label group x a e j) (leads-back runs ps b x (to-label group x b e k))

    stays : (group : List ℕ) (a b : ℕ) → IsOf of-label (firsts runs labels (length runs)) group → In a group → Leads runs ps a b → In b group
    stays group a b (Of x i e) j h =
        let in-a = part-from runs a (label-on runs labels x a (found group x a e j)) in
        let in-b = leads-part runs ps a b h in-a in
        subst (λ (g : List ℕ). In b g) (sym e) (labelled-in runs labels x (length runs) b (part-within runs b in-b) (label-from runs labels x b (ap is_on in-b) (sym (leads-same runs ps labels a b l h) ∙ label-is runs labels x a (found group x a e j))))
