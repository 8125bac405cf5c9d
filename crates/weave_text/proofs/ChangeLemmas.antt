-- The lines ahead of blocks are setup and change lines, so a script of them has no other events than changes.
use Rattle.std.proofs.Common.{◌≡◌, ◌∙◌, ◌⊎◌, inl, inr, ℕ, suc, ◌+◌, ◌||◌, nat_le, Bool, true, false, cond, List, [], ◌∷◌, ◌++◌, take, length, Option, Some, None, IfOk, Result, Ok, Err, codes, option_and_then, refl, sym, ap, subst, arith}
use Rattle.std.specs.List.{AllByRecursion}
use Rattle.std.specs.Option.{option_map}
use Rattle.std.specs.Str.{bytes_eq}
use Rattle.std.proofs.lemmas.Result.{IfOk-at_ok}
use Rattle.std.proofs.lemmas.Slice.Eq.{bytes_eq-Decides}
use Rattle.isis_base.specs.declared.level.CircuitKind.{CircuitKind}
use Rattle.isis_base.specs.declared.level.CircuitKind.TheVariants as kind
use Rattle.line_cuts.specs.Forms.{Form, field, done, marked}
use Rattle.line_cuts.specs.Words.{words_of}
use Rattle.lab_script.specs.declared.reason.Reason.{Reason}
use Rattle.lab_script.specs.declared.reason.ScriptFault.{ScriptFault}
use Rattle.lab_keys.specs.declared.net.TheConstants.{ROUTER_LIMIT, LINK_LIMIT}
use Rattle.lab_script.specs.declared.deeds.LabDeed.{LabDeed}
use Rattle.lab_script.specs.declared.deeds.LabLine.{LabLine}
use Rattle.lab_script.specs.declared.script.Script.{Script}
use Rattle.lab_script.specs.declared.script.Script.TheVariants.{Keys, Lab}
use Rattle.lab_script.specs.declared.setup.LabRouter.{LabRouter}
use Rattle.lab_script.specs.LabJudged.{◌then◌, router_at, circuit_at, is_given, with_router, is_some_full, with_link, ends_at, routers_at, scope_at, where_known, has_begun, with_form, with_words}
use Rattle.lab_script.specs.LabLines.{members_form, priority_form}
use Rattle.lab_script.specs.LabScripts.{LabScript, nothing_laid}
use Rattle.lab_script.specs.Scripts.{◌>>=◌, is_skipped, hear_words, hear_text, hear_lines, script_of_lines}
use Rattle.lab_script.proofs.LabLemmas.{all-push}
use Rattle.weave_text.specs.Ahead.{is_layout, is_ahead, ahead_count}
use Rattle.weave_text.specs.Lines.{IsUnbroken}
use Rattle.weave_text.proofs.CutLemmas.{lines-of_text}
use Rattle.weave_text.specs.Weavings.{script_in}
use Rattle.weave_text.proofs.FreshLemmas.{IsChangeDeed, AreChanges}

-- ---- what such a line leaves of a script

abbrev pub HasChanges : LabScript → Type 0
HasChanges script = AreChanges script.lines

bind : {A B : Type 0} (r : Result A ScriptFault) (f : A → Result B ScriptFault) (P : A → Type 0) (Q : B → Type 0) → IfOk r P → ((a : A) → P a → IfOk (f a) Q) → IfOk (r >>= f) Q
bind (Ok a) f P Q h next = next a h
bind (Err fault) f P Q h next = tt

where-known : {A : Type 0} (number : ℕ) (r : Result A Reason) (f : A → Result LabScript ScriptFault) (P : A → Type 0) → IfOk r P → ((a : A) → P a → IfOk (f a) HasChanges) → IfOk (where_known number r f) HasChanges
where-known number (Ok a) f P h next = next a h
where-known number (Err why) f P h next = tt

any : {A : Type 0} (r : Result A Reason) → IfOk r (λ a. Unit {0})
any (Ok a) = tt
any (Err why) = tt

unless : (b : Bool) (fault : ScriptFault) (r : Result LabScript ScriptFault) → IfOk r HasChanges → IfOk (cond b (Err fault) r) HasChanges
unless true fault r h = tt
unless false fault r h = h

router-changes : (s : LabScript) (number : ℕ) (router : LabRouter) → HasChanges s → IfOk (with_router s number router) HasChanges
router-changes s number router h = unless (is_given s router) _ _ (unless (nat_le ROUTER_LIMIT (length s.routers)) _ (Ok _) h)

link-changes : (s : LabScript) (number : ℕ) (name : List ℕ) (k : CircuitKind) (routers : List ℕ) (metric : ℕ) → HasChanges s → IfOk (with_link s number name k routers metric) HasChanges
link-changes s number name k routers metric h =
    unless _ _ _ (unless (nat_le LINK_LIMIT (length s.links)) _ _ (unless (is_some_full s.links routers) _ (Ok _) h))

then-some : {A B : Type 0} (r : Result A Reason) (f : A → Result B Reason) (P : B → Type 0) → ((a : A) → IfOk (f a) P) → IfOk (r then f) P
then-some (Ok a) f P h = h a
then-some (Err why) f P h = tt

told-changes : (s : LabScript) (number : ℕ) (d : Result LabDeed Reason) → HasChanges s → IfOk d IsChangeDeed → IfOk (where_known number d (λ told. Ok (record s { lines = s.lines ++ record { line = number; deed = told } ∷ [] }))) HasChanges
told-changes s number d h is =
    where-known number d _ IsChangeDeed is
    (λ told is_change. all-push (λ (line : LabLine). IsChangeDeed line.deed) s.lines (record { line = number; deed = told }) h is_change)

-- ---- by the forms of setup and change lines

and-then : {X Y : Type 0} (read : Option Y → Result LabScript ScriptFault) (f : X → Option Y) (o : Option X) → IfOk (read None) HasChanges → ((x : X) → IfOk (read (f x)) HasChanges) → IfOk (read (option_and_then f o)) HasChanges
and-then read f None none h = none
and-then read f (Some x) none h = h x

mapped : {X Y : Type 0} (read : Option Y → Result LabScript ScriptFault) (f : X → Y) (o : Option X) → IfOk (read None) HasChanges → ((x : X) → IfOk (read (Some (f x))) HasChanges) → IfOk (read (option_map f o)) HasChanges
mapped read f None none h = none
mapped read f (Some x) none h = h x

of-field : {X Y : Type 0} (read : Option Y → Result LabScript ScriptFault) (of : List ℕ → Option X) (rest : X → Form Y) (words : List (List ℕ)) → IfOk (read None) HasChanges → ((x : X) (more : List (List ℕ)) → IfOk (read (rest x more)) HasChanges) → IfOk (read (field of rest words)) HasChanges
of-field read of rest [] none h = none
of-field read of rest (word ∷ words) none h = and-then read (λ x. rest x words) (of word) none (λ x. h x words)

of-done : {Y : Type 0} (read : Option Y → Result LabScript ScriptFault) (y : Y) (words : List (List ℕ)) → IfOk (read None) HasChanges → IfOk (read (Some y)) HasChanges → IfOk (read (done y words)) HasChanges
of-done read y [] none h = h
of-done read y (word ∷ words) none h = none

-- a script with a line more, whose words are these
abbrev pub Leaves : LabScript → ℕ → List (List ℕ) → Type 0
Leaves s number words = IfOk (with_words s number words) HasChanges

of-router : (s : LabScript) (number : ℕ) (words : List (List ℕ)) → HasChanges s → Leaves s number (codes "router" ∷ words)
of-router s number words h =
    of-field (with_form s number) _ _ words tt λ name more. of-field (with_form s number) _ _ more tt λ system more.
    of-field (with_form s number) _ _ more tt λ area more. of-field (with_form s number) _ _ more tt λ levels more.
    mapped (with_form s number) _ (priority_form (marked (codes "leak") more).1) tt (λ priority. unless (has_begun s) _ _ (router-changes s number _ h))

of-link : (s : LabScript) (number : ℕ) (words : List (List ℕ)) → HasChanges s → Leaves s number (codes "link" ∷ words)
of-link s number words h =
    of-field (with_form s number) _ _ words tt λ name more. of-field (with_form s number) _ _ more tt λ first more.
    of-field (with_form s number) _ _ more tt λ second more. of-field (with_form s number) _ _ more tt λ metric more.
    of-done (with_form s number) _ more tt (unless (has_begun s) _ _ (where-known number (ends_at s first second) _ (λ a. Unit {0}) (any (ends_at s first second))
    (λ ends u. link-changes s number name kind.PointToPoint (ends.0 ∷ ends.1 ∷ []) metric h)))

of-lan : (s : LabScript) (number : ℕ) (words : List (List ℕ)) → HasChanges s → Leaves s number (codes "lan" ∷ words)
of-lan s number words h =
    of-field (with_form s number) _ _ words tt λ name more. of-field (with_form s number) _ _ more tt λ metric more.
    mapped (with_form s number) _ (members_form more) tt (λ members. unless (has_begun s) _ _ (where-known number (routers_at s members) _ (λ a. Unit {0}) (any (routers_at s members))
    (λ routers u. link-changes s number name kind.Lan routers metric h)))

of-key : (s : LabScript) (number : ℕ) (words : List (List ℕ)) → HasChanges s → Leaves s number (codes "key" ∷ words)
of-key s number words h =
    of-field (with_form s number) _ _ words tt λ router more. of-field (with_form s number) _ _ more tt λ scope more.
    of-field (with_form s number) _ _ more tt λ key more.
    of-done (with_form s number) _ more tt (unless (has_begun s) _ _ (where-known number (scope_at s router scope) _ (λ a. Unit {0}) (any (scope_at s router scope)) (λ at u. h)))

of-prefix : (s : LabScript) (number : ℕ) (words : List (List ℕ)) → HasChanges s → Leaves s number (codes "prefix" ∷ words)
of-prefix s number words h =
    of-field (with_form s number) _ _ words tt λ router more. of-field (with_form s number) _ _ more tt λ prefix more.
    of-field (with_form s number) _ _ more tt λ metric more.
    of-done (with_form s number) _ more tt (told-changes s number _ h (then-some (router_at s router) _ IsChangeDeed (λ r. tt)))

of-metric : (s : LabScript) (number : ℕ) (words : List (List ℕ)) → HasChanges s → Leaves s number (codes "metric" ∷ words)
of-metric s number words h =
    of-field (with_form s number) _ _ words tt λ router more. of-field (with_form s number) _ _ more tt λ link more.
    of-field (with_form s number) _ _ more tt λ metric more.
    of-done (with_form s number) _ more tt (told-changes s number _ h (then-some (circuit_at s router link) _ IsChangeDeed (λ c. tt)))

of-overload : (s : LabScript) (number : ℕ) (words : List (List ℕ)) → HasChanges s → Leaves s number (codes "overload" ∷ words)
of-overload s number words h =
    of-field (with_form s number) _ _ words tt λ router more. of-field (with_form s number) _ _ more tt λ on more.
    of-done (with_form s number) _ more tt (told-changes s number _ h (then-some (router_at s router) _ IsChangeDeed (λ r. tt)))

-- one of two
pub either : (a b : Bool) → (a || b) ≡ true → (a ≡ true) ⊎ (b ≡ true)
either true b e = inl refl
either false b e = inr e

-- the line of a first word
by-word : (s : LabScript) (number : ℕ) (first word : List ℕ) (words : List (List ℕ)) → bytes_eq first word ≡ true → Leaves s number (word ∷ words) → Leaves s number (first ∷ words)
by-word s number first word words e h = subst (λ (w : List ℕ). Leaves s number (w ∷ words)) (sym ((bytes_eq-Decides first word).0 e)) h

-- words whose first is that of a setup or change line leave no other events
words-changes : (s : LabScript) (number : ℕ) (words : List (List ℕ)) → is_layout words ≡ true → HasChanges s → Leaves s number words
words-changes s number [] e k = tt
words-changes s number (first ∷ words) e k = elim (either (bytes_eq first (codes "router")) _ e) [
  | inl h ↦ by-word s number first (codes "router") words h (of-router s number words k)
  | inr e ↦ (elim (either (bytes_eq first (codes "link")) _ e) [
    | inl h ↦ by-word s number first (codes "link") words h (of-link s number words k)
    | inr e ↦ (elim (either (bytes_eq first (codes "lan")) _ e) [
      | inl h ↦ by-word s number first (codes "lan") words h (of-lan s number words k)
      | inr e ↦ (elim (either (bytes_eq first (codes "key")) _ e) [
        | inl h ↦ by-word s number first (codes "key") words h (of-key s number words k)
        | inr e ↦ (elim (either (bytes_eq first (codes "prefix")) _ e) [
          | inl h ↦ by-word s number first (codes "prefix") words h (of-prefix s number words k)
          | inr e ↦ (elim (either (bytes_eq first (codes "metric")) _ e) [
            | inl h ↦ by-word s number first (codes "metric") words h (of-metric s number words k)
            | inr e ↦ (elim (either (bytes_eq first (codes "overload")) false e) [
              | inl h ↦ by-word s number first (codes "overload") words h (of-overload s number words k)
              | inr e ↦ absurd (cc e)
            ])
          ])
        ])
      ])
    ])
  ])
]

-- ---- a script of lines ahead

abbrev pub HasChangesIn : Script → Type 0
HasChangesIn (Keys script) = ⊥
HasChangesIn (Lab script) = HasChanges script

text-changes : (script : Script) (number : ℕ) (line : List ℕ) → is_ahead line ≡ true → HasChangesIn script → IfOk (hear_text script number line) HasChangesIn
text-changes (Keys s) number line ahead h = absurd h
text-changes (Lab s) number line ahead h = by (is_skipped line) refl
  where
    by : (b : Bool) → is_skipped line ≡ b → IfOk (cond b (Ok (Lab s)) (hear_words (Lab s) number (words_of line))) HasChangesIn
    by true e = h
    by false e =
        bind (with_words s number (words_of line)) (λ more. Ok (Lab more)) HasChanges HasChangesIn
        (words-changes s number (words_of line) (sym (ap (λ (b : Bool). b || is_layout (words_of line)) e) ∙ ahead) h)
        (λ more k. k)

abbrev pub AreAhead : List (List ℕ) → Type 0
AreAhead lines = AllByRecursion (λ line. is_ahead line ≡ true) lines

lines-changes : (script : Script) (number : ℕ) (lines : List (List ℕ)) → AreAhead lines → HasChangesIn script → IfOk (hear_lines script number lines) HasChangesIn
unfolding hear_lines
lines-changes script number [] ahead h = h
lines-changes script number (line ∷ lines) ahead h =
    bind (hear_text script number line) (λ more. hear_lines more (number + 1) lines) HasChangesIn HasChangesIn (text-changes script number line ahead.0 h)
    (λ more k. lines-changes more (number + 1) lines ahead.1 k)

one : (count : ℕ) → suc count ≡ 1 + count
one count = omega arith

-- the lines ahead are such lines
pub ahead-ahead : (lines : List (List ℕ)) → AreAhead (take (ahead_count lines) lines)
unfolding ahead_count
ahead-ahead [] = tt
ahead-ahead (line ∷ lines) = by (is_ahead line) refl (ahead_count lines) (ahead-ahead lines)
  where
    by : (b : Bool) → is_ahead line ≡ b → (count : ℕ) → AreAhead (take count lines) → AreAhead (take (cond b (1 + count) 0) (line ∷ lines))
    by true e count h = subst (λ (n : ℕ). AreAhead (take n (line ∷ lines))) (one count) (e, h)
    by false e count h = tt

empty-behind : (lines : List (List ℕ)) → AreAhead lines → AreAhead (lines ++ [] ∷ [])
empty-behind [] h = (refl, tt)
empty-behind (line ∷ lines) h = (h.0, empty-behind lines h.1)

head-unbroken : IsUnbroken (codes "isis-lab 1")
head-unbroken = (refl, (refl, (refl, (refl, (refl, (refl, (refl, (refl, (refl, (refl, tt))))))))))

-- a script of lines ahead has no other events than changes
pub script-changes : (lines : List (List ℕ)) (script : Script) → AllByRecursion IsUnbroken lines → AreAhead lines → script_in lines ≡ Ok script → HasChangesIn script
script-changes lines script whole ahead e =
    IfOk-at_ok HasChangesIn (sym heard ∙ e) (lines-changes (Lab nothing_laid) 2 (lines ++ [] ∷ []) (empty-behind lines ahead) tt)
  where
    heard : script_in lines ≡ hear_lines (Lab nothing_laid) 2 (lines ++ [] ∷ [])
    heard = ap script_of_lines (lines-of_text (codes "isis-lab 1" ∷ lines) (head-unbroken, whole))
