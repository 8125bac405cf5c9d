-- The routers and links of a script of setup and change lines have names by which they are found.
use Rattle.std.proofs.Common.{◌≡◌, ℕ, zero, suc, ◌+◌, ◌<◌, ◌||◌, nat_lt, nat_le, is_some, Bool, true, false, cond, List, [], ◌∷◌, ◌++◌, length, codes, Option, Some, None, IfOk, Result, Ok, Err, inl, inr, if◌then◌else◌, refl, sym, ap, ◌∙◌, subst, arith}
use Rattle.std.specs.Prelude.{option_and_then}
use Rattle.std.specs.Option.{option_map}
use Rattle.std.specs.List.{AllByRecursion}
use Rattle.std.specs.Str.{bytes_eq}
use Rattle.std.proofs.lemmas.List.{length-append, map-append}
use Rattle.std.proofs.lemmas.Result.{IfOk-at_ok}
use Rattle.std.proofs.lemmas.Slice.Eq.{bytes_eq-Decides}
use Rattle.isis_base.specs.declared.level.CircuitKind.{CircuitKind}
use Rattle.isis_base.specs.declared.level.CircuitKind.TheVariants as kind
use Rattle.lab_keys.specs.declared.net.TheConstants.{ROUTER_LIMIT, LINK_LIMIT}
use Rattle.line_cuts.specs.Forms.{Form, field, done, marked}
use Rattle.line_cuts.specs.Words.{words_of}
use Rattle.model_router.specs.Places.{nth}
use Rattle.lab_script.specs.declared.reason.Reason.{Reason}
use Rattle.lab_script.specs.declared.reason.ScriptFault.{ScriptFault}
use Rattle.lab_script.specs.declared.script.Script.{Script}
use Rattle.lab_script.specs.declared.script.Script.TheVariants.{Keys, Lab}
use Rattle.lab_script.specs.declared.setup.LabRouter.{LabRouter}
use Rattle.lab_script.specs.declared.setup.LabLink.{LabLink}
use Rattle.lab_script.specs.Counts.{has_twice}
use Rattle.lab_script.specs.Fields.{is_name, name_of}
use Rattle.lab_script.specs.LabJudged.{◌then◌, is_given, with_router, is_some_full, with_link, ends_at, routers_at, scope_at, router_at, circuit_at, where_known, has_begun, with_form, with_words}
use Rattle.lab_script.specs.LabLines.{members_form, priority_form}
use Rattle.lab_script.specs.LabScripts.{LabScript, nothing_laid, router_names, link_names, has_system, link_between}
use Rattle.lab_script.specs.Names.{number_of_name}
use Rattle.lab_script.specs.Printed.{IsName}
use Rattle.lab_script.specs.Scripts.{◌>>=◌, is_skipped, hear_words, hear_text, hear_lines}
use Rattle.lab_script.proofs.NameLemmas.{number_of_name-push}
use Rattle.lab_script.proofs.LabLemmas.{none-first}
use Rattle.lab_text.specs.Passed.{name_at}
use Rattle.weave_text.specs.Ahead.{is_layout, is_ahead}
use Rattle.weave_text.specs.Lines.{IsUnbroken}
use Rattle.weave_text.specs.ReadBack.{HasNames, IsNamed, AreNamed}
use Rattle.weave_text.specs.Weavings.{script_in}
use Rattle.weave_text.proofs.AlikeLemmas.{script-is}
use Rattle.weave_text.proofs.ChangeLemmas.{AreAhead, either}

-- ---- a name more

nth-first : (names more : List (List ℕ)) (n : ℕ) → n < length names → nth (names ++ more) n ≡ nth names n
nth-first [] more n h = absurd (omega (arith, h))
nth-first (x ∷ names) more zero h = refl
nth-first (x ∷ names) more (suc n) h = nth-first names more n (omega (arith, h))

nth-last : (names : List (List ℕ)) (new : List ℕ) → nth (names ++ new ∷ []) (length names) ≡ Some new
nth-last [] new = refl
nth-last (x ∷ names) new = nth-last names new

name-first : (names : List (List ℕ)) (new : List ℕ) (n : ℕ) → n < length names → name_at (names ++ new ∷ []) n ≡ name_at names n
unfolding name_at
name-first names new n h = rw (nth-first names (new ∷ []) n h)

name-last : (names : List (List ℕ)) (new : List ℕ) → name_at (names ++ new ∷ []) (length names) ≡ new
unfolding name_at
name-last names new = rw (nth-last names new)

named-none : AreNamed []
named-none n h = absurd (omega (arith, h))

named-push : (names : List (List ℕ)) (new : List ℕ) → AreNamed names → IsName new → number_of_name names new ≡ None → AreNamed (names ++ new ∷ [])
named-push names new are name none n less = by (nat_lt n (length names)) refl
  where
    old : n < length names → IsNamed (names ++ new ∷ []) n
    old l =
        let o = are n l in
        let same = name-first names new n l in
        record {
          name = subst IsName (sym same) o.name;
          found =
              ap (number_of_name (names ++ new ∷ [])) same
              ∙ (number_of_name-push names new (name_at names n) none
              ∙ (ap (λ (b : Bool). cond b (Some (length names)) (number_of_name names (name_at names n))) (apart (bytes_eq new (name_at names n)) refl o.found) ∙ o.found));
        }
      where
        apart : (b : Bool) → bytes_eq new (name_at names n) ≡ b → number_of_name names (name_at names n) ≡ Some n → bytes_eq new (name_at names n) ≡ false
        apart false q f = q
        apart true q f =
            let e : new ≡ name_at names n = (bytes_eq-Decides new (name_at names n)).0 q in
            absurd (let x : None ≡ Some n = sym none ∙ (ap (number_of_name names) e ∙ f) in cc)

    last : n ≡ length names → IsNamed (names ++ new ∷ []) n
    last e = subst (λ (k : ℕ). IsNamed (names ++ new ∷ []) k) (sym e) (record {
      name = subst IsName (sym (name-last names new)) name;
      found =
          ap (number_of_name (names ++ new ∷ [])) (name-last names new)
          ∙ (number_of_name-push names new new none
          ∙ ap (λ (b : Bool). cond b (Some (length names)) (number_of_name names new)) ((bytes_eq-Decides new new).1 refl));
    })

    by : (b : Bool) → nat_lt n (length names) ≡ b → IsNamed (names ++ new ∷ []) n
    by true q = old (grind (arith, q))
    by false q = last (let s = length-append names (new ∷ []) in grind (arith, q, s, less))

-- ---- what a line leaves of a script's names

abbrev HaveNames : LabScript → Type 0
HaveNames a = AreNamed (router_names a.routers) × AreNamed (link_names a.links)

pass : (b : Bool) (f : ScriptFault) (r : Result LabScript ScriptFault) → (b ≡ false → IfOk r HaveNames) → IfOk (if b then Err f else r) HaveNames
pass true f r h = tt
pass false f r h = h refl

is-none : (o : Option ℕ) → is_some o ≡ false → o ≡ None
is-none None e = refl
is-none (Some n) e = absurd (cc)

known-named : {A : Type 0} (n : ℕ) (r : Result A Reason) (f : A → Result LabScript ScriptFault) → ((x : A) → IfOk (f x) HaveNames) → IfOk (where_known n r f) HaveNames
known-named n (Ok x) f h = h x
known-named n (Err why) f h = tt

router-named : (a : LabScript) (n : ℕ) (router : LabRouter) → IsName router.name → HaveNames a → IfOk (with_router a n router) HaveNames
router-named a n router name h =
    pass (is_given a router) _ _ λ fresh. pass (nat_le ROUTER_LIMIT (length a.routers)) _ (Ok _) λ few. (
      subst AreNamed (sym (map-append (λ (r : LabRouter). r.name) a.routers (router ∷ [])))
          (named-push (router_names a.routers) router.name h.0 name
          (is-none (number_of_name (router_names a.routers) router.name) (none-first (is_some (number_of_name (router_names a.routers) router.name)) (has_system a.routers router.system) fresh))),
      h.1,
    )

link-named : (a : LabScript) (n : ℕ) (name : List ℕ) (k : CircuitKind) (routers : List ℕ) (metric : ℕ) → IsName name → HaveNames a → IfOk (with_link a n name k routers metric) HaveNames
link-named a n name k routers metric is h =
    pass (is_some (number_of_name (link_names a.links) name) || has_twice routers) _ _ λ fresh. pass (nat_le LINK_LIMIT (length a.links)) _ _ λ few. pass (is_some_full a.links routers) _ (Ok _) λ room. (
      h.0,
      subst AreNamed (sym (map-append (λ (l : LabLink). l.name) a.links (link_between a.links name k routers metric ∷ [])))
          (named-push (link_names a.links) name h.1 is
          (is-none (number_of_name (link_names a.links) name) (none-first (is_some (number_of_name (link_names a.links) name)) (has_twice routers) fresh))),
    )

-- ---- by the forms of setup and change lines

name-read : (word name : List ℕ) → name_of word ≡ Some name → IsName name
name-read word name e = by (is_name word) refl e
  where
    same : (x y : List ℕ) → Some x ≡ Some y → x ≡ y
    same x y e = cc

    by : (b : Bool) → is_name word ≡ b → ◌≡◌ {A = Option (List ℕ)} (if b then Some word else None) (Some name) → IsName name
    by true q e = subst IsName (same word name e) q
    by false q e = absurd (cc)

mapped : {X Y : Type 0} (read : Option Y → Result LabScript ScriptFault) (f : X → Y) (o : Option X) → IfOk (read None) HaveNames → ((x : X) → IfOk (read (Some (f x))) HaveNames) → IfOk (read (option_map f o)) HaveNames
mapped read f None none h = none
mapped read f (Some x) none h = h x

and-then : {X Y : Type 0} (read : Option Y → Result LabScript ScriptFault) (f : X → Option Y) (o : Option X) → IfOk (read None) HaveNames → ((x : X) → IfOk (read (f x)) HaveNames) → IfOk (read (option_and_then f o)) HaveNames
and-then read f None none h = none
and-then read f (Some x) none h = h x

of-field : {X Y : Type 0} (read : Option Y → Result LabScript ScriptFault) (of : List ℕ → Option X) (rest : X → Form Y) (words : List (List ℕ)) → IfOk (read None) HaveNames → ((x : X) (more : List (List ℕ)) → IfOk (read (rest x more)) HaveNames) → IfOk (read (field of rest words)) HaveNames
of-field read of rest [] none h = none
of-field read of rest (word ∷ words) none h = and-then read (λ x. rest x words) (of word) none (λ x. h x words)

of-name : {Y : Type 0} (read : Option Y → Result LabScript ScriptFault) (rest : List ℕ → Form Y) (words : List (List ℕ)) → IfOk (read None) HaveNames
    → ((name : List ℕ) (more : List (List ℕ)) → IsName name → IfOk (read (rest name more)) HaveNames) → IfOk (read (field name_of rest words)) HaveNames
of-name read rest [] none h = none
of-name read rest (word ∷ words) none h = by (name_of word) (λ name q. h name words (name-read word name q))
  where
    by : (o : Option (List ℕ)) → ((name : List ℕ) → o ≡ Some name → IfOk (read (rest name words)) HaveNames) → IfOk (read (option_and_then (λ name. rest name words) o)) HaveNames
    by None k = none
    by (Some name) k = k name refl

of-done : {Y : Type 0} (read : Option Y → Result LabScript ScriptFault) (y : Y) (words : List (List ℕ)) → IfOk (read None) HaveNames → IfOk (read (Some y)) HaveNames → IfOk (read (done y words)) HaveNames
of-done read y [] none h = h
of-done read y (word ∷ words) none h = none

abbrev Leaves : LabScript → ℕ → List (List ℕ) → Type 0
Leaves a n words = IfOk (with_words a n words) HaveNames

of-router : (a : LabScript) (n : ℕ) (words : List (List ℕ)) → HaveNames a → Leaves a n (codes "router" ∷ words)
of-router a n words h =
    of-name (with_form a n) _ words tt λ name more is. of-field (with_form a n) _ _ more tt λ system more.
    of-field (with_form a n) _ _ more tt λ area more. of-field (with_form a n) _ _ more tt λ levels more.
    mapped (with_form a n) _ (priority_form (marked (codes "leak") more).1) tt (λ priority. pass (has_begun a) _ _ (λ early. router-named a n _ is h))

of-link : (a : LabScript) (n : ℕ) (words : List (List ℕ)) → HaveNames a → Leaves a n (codes "link" ∷ words)
of-link a n words h =
    of-name (with_form a n) _ words tt λ name more is. of-field (with_form a n) _ _ more tt λ first more.
    of-field (with_form a n) _ _ more tt λ second more. of-field (with_form a n) _ _ more tt λ metric more.
    of-done (with_form a n) _ more tt (pass (has_begun a) _ _ (λ early. known-named n (ends_at a first second) _
    (λ ends. link-named a n name kind.PointToPoint (ends.0 ∷ ends.1 ∷ []) metric is h)))

of-lan : (a : LabScript) (n : ℕ) (words : List (List ℕ)) → HaveNames a → Leaves a n (codes "lan" ∷ words)
of-lan a n words h =
    of-name (with_form a n) _ words tt λ name more is. of-field (with_form a n) _ _ more tt λ metric more.
    mapped (with_form a n) _ (members_form more) tt (λ members. pass (has_begun a) _ _ (λ early. known-named n (routers_at a members) _
    (λ routers. link-named a n name kind.Lan routers metric is h)))

of-key : (a : LabScript) (n : ℕ) (words : List (List ℕ)) → HaveNames a → Leaves a n (codes "key" ∷ words)
of-key a n words h =
    of-field (with_form a n) _ _ words tt λ router more. of-field (with_form a n) _ _ more tt λ scope more.
    of-field (with_form a n) _ _ more tt λ key more.
    of-done (with_form a n) _ more tt (pass (has_begun a) _ _ (λ early. known-named n (scope_at a router scope) _ (λ at. h)))

of-prefix : (a : LabScript) (n : ℕ) (words : List (List ℕ)) → HaveNames a → Leaves a n (codes "prefix" ∷ words)
of-prefix a n words h =
    of-field (with_form a n) _ _ words tt λ router more. of-field (with_form a n) _ _ more tt λ prefix more.
    of-field (with_form a n) _ _ more tt λ metric more.
    of-done (with_form a n) _ more tt (known-named n (router_at a router then _) _ (λ told. h))

of-metric : (a : LabScript) (n : ℕ) (words : List (List ℕ)) → HaveNames a → Leaves a n (codes "metric" ∷ words)
of-metric a n words h =
    of-field (with_form a n) _ _ words tt λ router more. of-field (with_form a n) _ _ more tt λ link more.
    of-field (with_form a n) _ _ more tt λ metric more.
    of-done (with_form a n) _ more tt (known-named n (circuit_at a router link then _) _ (λ told. h))

of-overload : (a : LabScript) (n : ℕ) (words : List (List ℕ)) → HaveNames a → Leaves a n (codes "overload" ∷ words)
of-overload a n words h =
    of-field (with_form a n) _ _ words tt λ router more. of-field (with_form a n) _ _ more tt λ on more.
    of-done (with_form a n) _ more tt (known-named n (router_at a router then _) _ (λ told. h))

by-word : (a : LabScript) (n : ℕ) (first word : List ℕ) (words : List (List ℕ)) → bytes_eq first word ≡ true → Leaves a n (word ∷ words) → Leaves a n (first ∷ words)
by-word a n first word words e h = subst (λ (w : List ℕ). Leaves a n (w ∷ words)) (sym ((bytes_eq-Decides first word).0 e)) h

words-named : (a : LabScript) (n : ℕ) (words : List (List ℕ)) → is_layout words ≡ true → HaveNames a → Leaves a n words
words-named a n [] e k = tt
words-named a n (first ∷ words) e k = elim (either (bytes_eq first (codes "router")) _ e) [
  | inl h ↦ by-word a n first (codes "router") words h (of-router a n words k)
  | inr e ↦ (elim (either (bytes_eq first (codes "link")) _ e) [
    | inl h ↦ by-word a n first (codes "link") words h (of-link a n words k)
    | inr e ↦ (elim (either (bytes_eq first (codes "lan")) _ e) [
      | inl h ↦ by-word a n first (codes "lan") words h (of-lan a n words k)
      | inr e ↦ (elim (either (bytes_eq first (codes "key")) _ e) [
        | inl h ↦ by-word a n first (codes "key") words h (of-key a n words k)
        | inr e ↦ (elim (either (bytes_eq first (codes "prefix")) _ e) [
          | inl h ↦ by-word a n first (codes "prefix") words h (of-prefix a n words k)
          | inr e ↦ (elim (either (bytes_eq first (codes "metric")) _ e) [
            | inl h ↦ by-word a n first (codes "metric") words h (of-metric a n words k)
            | inr e ↦ (elim (either (bytes_eq first (codes "overload")) false e) [
              | inl h ↦ by-word a n first (codes "overload") words h (of-overload a n words k)
              | inr e ↦ absurd (cc e)
            ])
          ])
        ])
      ])
    ])
  ])
]

-- ---- all lines

abbrev HaveNamesIn : Script → Type 0
HaveNamesIn (Keys script) = ⊥
HaveNamesIn (Lab script) = HaveNames script

bind : {A B : Type 0} (r : Result A ScriptFault) (f : A → Result B ScriptFault) (P : A → Type 0) (Q : B → Type 0) → IfOk r P → ((a : A) → P a → IfOk (f a) Q) → IfOk (r >>= f) Q
bind (Ok a) f P Q h next = next a h
bind (Err fault) f P Q h next = tt

text-named : (script : Script) (n : ℕ) (line : List ℕ) → is_ahead line ≡ true → HaveNamesIn script → IfOk (hear_text script n line) HaveNamesIn
text-named (Keys s) n line ahead h = absurd h
text-named (Lab s) n line ahead h = by (is_skipped line) refl
  where
    by : (b : Bool) → is_skipped line ≡ b → IfOk (if b then Ok (Lab s) else hear_words (Lab s) n (words_of line)) HaveNamesIn
    by true e = h
    by false e =
        bind (with_words s n (words_of line)) (λ more. Ok (Lab more)) HaveNames HaveNamesIn
        (words-named s n (words_of line) (sym (ap (λ (b : Bool). b || is_layout (words_of line)) e) ∙ ahead) h) (λ more k. k)

lines-named : (script : Script) (n : ℕ) (lines : List (List ℕ)) → AreAhead lines → HaveNamesIn script → IfOk (hear_lines script n lines) HaveNamesIn
unfolding hear_lines
lines-named script n [] ahead h = h
lines-named script n (line ∷ lines) ahead h =
    bind (hear_text script n line) (λ more. hear_lines more (n + 1) lines) HaveNamesIn HaveNamesIn (text-named script n line ahead.0 h)
    (λ more k. lines-named more (n + 1) lines ahead.1 k)

pub names-found : (lines : List (List ℕ)) (script : LabScript) → AllByRecursion IsUnbroken lines → AreAhead lines → script_in lines ≡ Ok (Lab script) → AreNamed (router_names script.routers) × AreNamed (link_names script.links)
names-found lines script whole ahead e =
    IfOk-at_ok HaveNamesIn (sym (script-is lines whole) ∙ e) (lines-named (Lab nothing_laid) 2 lines ahead (named-none, named-none))

-- what the lines ahead are read as has names
pub has-names : (lines : List (List ℕ)) (script : Script) → AllByRecursion IsUnbroken lines → AreAhead lines → script_in lines ≡ Ok script → HasNames script
has-names lines (Keys script) whole ahead e = tt
has-names lines (Lab script) whole ahead e = names-found lines script whole ahead e
