-- Without the lines that are skipped, setup and change lines are the same script but for the numbers of its event lines.
use Rattle.std.proofs.Common.{◌≡◌, ℕ, ◌+◌, ◌||◌, nat_le, is_some, Bool, true, false, List, [], ◌∷◌, ◌++◌, map, length, codes, Option, Some, None, Result, Ok, Err, inl, inr, if◌then◌else◌, refl, sym, ap, ◌∙◌, subst}
use Rattle.std.specs.Prelude.{option_and_then}
use Rattle.std.specs.Option.{option_map}
use Rattle.std.specs.List.{AllByRecursion}
use Rattle.std.specs.Str.{bytes_eq}
use Rattle.std.proofs.lemmas.List.{length-map, map-append}
use Rattle.std.proofs.lemmas.List.Concat.{flat_map-cons}
use Rattle.std.proofs.lemmas.Slice.Eq.{bytes_eq-Decides}
use Rattle.isis_base.specs.declared.level.CircuitKind.{CircuitKind}
use Rattle.isis_base.specs.declared.level.CircuitKind.TheVariants as kind
use Rattle.lab_keys.specs.declared.net.TheConstants.{ROUTER_LIMIT, LINK_LIMIT}
use Rattle.line_cuts.specs.Forms.{Form, field, done, marked}
use Rattle.line_cuts.specs.Words.{words_of}
use Rattle.lab_script.specs.declared.deeds.LabDeed.{LabDeed}
use Rattle.lab_script.specs.declared.deeds.LabLine.{LabLine}
use Rattle.lab_script.specs.declared.reason.Reason.{Reason}
use Rattle.lab_script.specs.declared.reason.ScriptFault.{ScriptFault}
use Rattle.lab_script.specs.declared.script.Script.{Script}
use Rattle.lab_script.specs.declared.script.Script.TheVariants.{Lab}
use Rattle.lab_script.specs.declared.setup.LabRouter.{LabRouter}
use Rattle.lab_script.specs.Counts.{has_twice}
use Rattle.lab_script.specs.LabJudged.{◌then◌, is_given, with_router, is_some_full, with_link, ends_at, routers_at, scope_at, router_at, circuit_at, where_known, has_begun, unless_late, with_form, with_words}
use Rattle.lab_script.specs.LabLines.{members_form, priority_form}
use Rattle.lab_script.specs.LabScripts.{LabScript, nothing_laid, link_names}
use Rattle.lab_script.specs.Names.{number_of_name}
use Rattle.lab_script.specs.Scripts.{◌>>=◌, is_skipped, hear_words, hear_text, hear_lines}
use Rattle.weave_text.specs.Ahead.{is_layout, is_ahead, told_of, told_in}
use Rattle.weave_text.specs.Lines.{IsUnbroken}
use Rattle.weave_text.specs.ReadBack.{AreAlike}
use Rattle.weave_text.specs.Weavings.{script_in}
use Rattle.weave_text.proofs.ChangeLemmas.{AreAhead, either}
use Rattle.weave_text.proofs.ReadBackLemmas.{hear-append, script-lines, last-empty}

-- ---- the same script with other lines

abbrev deeds_of : List LabLine → List LabDeed
deeds_of lines = map (λ line. line.deed) lines

abbrev relined : LabScript → List LabLine → LabScript
relined a lines = record a { lines = lines }

-- where a script came, the other comes to the same with other lines
record Again (r : Result LabScript ScriptFault) (new : LabScript) : Type 0 where
  lines : List LabLine
  is : r ≡ Ok (relined new lines)
  deeds : deeds_of lines ≡ deeds_of new.lines

abbrev Follows : Result LabScript ScriptFault → Result LabScript ScriptFault → Type 0
Follows r other = (new : LabScript) → r ≡ Ok new → Again other new

after-err : (f : ScriptFault) (other : Result LabScript ScriptFault) → Follows (Err f) other
after-err f other new e = absurd (cc)

after-ok : (x : LabScript) (lines : List LabLine) → deeds_of lines ≡ deeds_of x.lines → Follows (Ok x) (Ok (relined x lines))
after-ok x lines same new e = subst (λ (y : LabScript). Again (Ok (relined x lines)) y) (is x new e) (record { lines = lines; is = refl; deeds = same })
  where
    is : (x y : LabScript) → ◌≡◌ {A = Result LabScript ScriptFault} (Ok x) (Ok y) → x ≡ y
    is x y e = cc

after-if : (t : Bool) (f g : ScriptFault) (r other : Result LabScript ScriptFault) → Follows r other → Follows (if t then Err f else r) (if t then Err g else other)
after-if true f g r other h new e = absurd (cc)
after-if false f g r other h new e = h new e

after-two : (t u : Bool) (f g : ScriptFault) (r other : Result LabScript ScriptFault) → u ≡ t → Follows r other → Follows (if t then Err f else r) (if u then Err g else other)
after-two t u f g r other same h new e = subst (λ (v : Bool). Again (if v then Err g else other) new) (sym same) (after-if t f g r other h new e)

after-known : {A : Type 0} (n m : ℕ) (r : Result A Reason) (f g : A → Result LabScript ScriptFault) → ((x : A) → Follows (f x) (g x)) → Follows (where_known n r f) (where_known m r g)
after-known n m (Ok x) f g h new e = h x new e
after-known n m (Err why) f g h new e = absurd (cc)

begun-same : (a : LabScript) (lines : List LabLine) → deeds_of lines ≡ deeds_of a.lines → has_begun (relined a lines) ≡ has_begun a
begun-same a lines same =
    ap (nat_le 1) (sym (length-map lines (λ (line : LabLine). line.deed)) ∙ (ap length same ∙ length-map a.lines (λ (line : LabLine). line.deed)))

router-again : (a : LabScript) (lines : List LabLine) (n m : ℕ) (router : LabRouter) → deeds_of lines ≡ deeds_of a.lines → Follows (with_router a n router) (with_router (relined a lines) m router)
router-again a lines n m router same =
    after-if (is_given a router) _ _ _ _ (after-if (nat_le ROUTER_LIMIT (length a.routers)) _ _ (Ok (record a { routers = a.routers ++ router ∷ [] })) _
    (after-ok (record a { routers = a.routers ++ router ∷ [] }) lines same))

link-again : (a : LabScript) (lines : List LabLine) (n m : ℕ) (name : List ℕ) (k : CircuitKind) (routers : List ℕ) (metric : ℕ) → deeds_of lines ≡ deeds_of a.lines → Follows (with_link a n name k routers metric) (with_link (relined a lines) m name k routers metric)
link-again a lines n m name k routers metric same =
    after-if (is_some (number_of_name (link_names a.links) name) || has_twice routers) _ _ _ _ (after-if (nat_le LINK_LIMIT (length a.links)) _ _ _ _ (after-if (is_some_full a.links routers) _ _ (Ok _) _
    (after-ok _ lines same)))

event-again : (a : LabScript) (lines : List LabLine) (n m : ℕ) (d : Result LabDeed Reason) → deeds_of lines ≡ deeds_of a.lines
    → Follows (where_known n d (λ told. Ok (record a { lines = a.lines ++ record { line = n; deed = told } ∷ [] })))
    (where_known m d (λ told. Ok (record a { lines = lines ++ record { line = m; deed = told } ∷ [] })))
event-again a lines n m d same =
    after-known n m d _ _ (λ told. after-ok (record a { lines = a.lines ++ record { line = n; deed = told } ∷ [] }) (lines ++ record { line = m; deed = told } ∷ [])
    (map-append (λ (line : LabLine). line.deed) lines (record { line = m; deed = told } ∷ [])
    ∙ (ap (λ (ds : List LabDeed). ds ++ told ∷ []) same ∙ sym (map-append (λ (line : LabLine). line.deed) a.lines (record { line = n; deed = told } ∷ [])))))

-- ---- by the forms of setup and change lines

abbrev Both : {Y : Type 0} → (Option Y → Result LabScript ScriptFault) → (Option Y → Result LabScript ScriptFault) → Option Y → Type 0
Both read other o = Follows (read o) (other o)

and-then : {X Y : Type 0} (read other : Option Y → Result LabScript ScriptFault) (f : X → Option Y) (o : Option X) → Both read other None → ((x : X) → Both read other (f x)) → Both read other (option_and_then f o)
and-then read other f None none h = none
and-then read other f (Some x) none h = h x

mapped : {X Y : Type 0} (read other : Option Y → Result LabScript ScriptFault) (f : X → Y) (o : Option X) → Both read other None → ((x : X) → Both read other (Some (f x))) → Both read other (option_map f o)
mapped read other f None none h = none
mapped read other f (Some x) none h = h x

of-field : {X Y : Type 0} (read other : Option Y → Result LabScript ScriptFault) (of : List ℕ → Option X) (rest : X → Form Y) (words : List (List ℕ)) → Both read other None → ((x : X) (more : List (List ℕ)) → Both read other (rest x more)) → Both read other (field of rest words)
of-field read other of rest [] none h = none
of-field read other of rest (word ∷ words) none h = and-then read other (λ x. rest x words) (of word) none (λ x. h x words)

of-done : {Y : Type 0} (read other : Option Y → Result LabScript ScriptFault) (y : Y) (words : List (List ℕ)) → Both read other None → Both read other (Some y) → Both read other (done y words)
of-done read other y [] none h = h
of-done read other y (word ∷ words) none h = none

-- words leave the same of both scripts
abbrev Repeats : LabScript → List LabLine → ℕ → ℕ → List (List ℕ) → Type 0
Repeats a lines n m words = Follows (with_words a n words) (with_words (relined a lines) m words)

no-form : (a : LabScript) (lines : List LabLine) (n m : ℕ) → Follows (with_form a n None) (with_form (relined a lines) m None)
no-form a lines n m = after-err _ _

setup-again : (a : LabScript) (lines : List LabLine) (n m : ℕ) (r other : Result LabScript ScriptFault) → deeds_of lines ≡ deeds_of a.lines → Follows r other → Follows (unless_late a n r) (unless_late (relined a lines) m other)
setup-again a lines n m r other same h = after-two (has_begun a) (has_begun (relined a lines)) _ _ r other (begun-same a lines same) h

of-router : (a : LabScript) (lines : List LabLine) (n m : ℕ) (words : List (List ℕ)) → deeds_of lines ≡ deeds_of a.lines → Repeats a lines n m (codes "router" ∷ words)
of-router a lines n m words same =
    let none = no-form a lines n m in
    of-field (with_form a n) (with_form (relined a lines) m) _ _ words none λ name more. of-field (with_form a n) (with_form (relined a lines) m) _ _ more none λ system more.
    of-field (with_form a n) (with_form (relined a lines) m) _ _ more none λ area more. of-field (with_form a n) (with_form (relined a lines) m) _ _ more none λ levels more.
    mapped (with_form a n) (with_form (relined a lines) m) _ (priority_form (marked (codes "leak") more).1) none (λ priority. setup-again a lines n m _ _ same (router-again a lines n m _ same))

of-link : (a : LabScript) (lines : List LabLine) (n m : ℕ) (words : List (List ℕ)) → deeds_of lines ≡ deeds_of a.lines → Repeats a lines n m (codes "link" ∷ words)
of-link a lines n m words same =
    let none = no-form a lines n m in
    of-field (with_form a n) (with_form (relined a lines) m) _ _ words none λ name more. of-field (with_form a n) (with_form (relined a lines) m) _ _ more none λ first more.
    of-field (with_form a n) (with_form (relined a lines) m) _ _ more none λ second more. of-field (with_form a n) (with_form (relined a lines) m) _ _ more none λ metric more.
    of-done (with_form a n) (with_form (relined a lines) m) _ more none (setup-again a lines n m _ _ same (after-known n m (ends_at a first second) _ _
    (λ ends. link-again a lines n m name kind.PointToPoint (ends.0 ∷ ends.1 ∷ []) metric same)))

same-members : (a : LabScript) (lines : List LabLine) (names : List (List ℕ)) → routers_at a names ≡ routers_at (relined a lines) names
same-members a lines [] = refl
same-members a lines (name ∷ names) = ap (λ rs. router_at a name then λ r. rs then λ more. Ok (r ∷ more)) (same-members a lines names)

of-lan : (a : LabScript) (lines : List LabLine) (n m : ℕ) (words : List (List ℕ)) → deeds_of lines ≡ deeds_of a.lines → Repeats a lines n m (codes "lan" ∷ words)
of-lan a lines n m words same =
    let none = no-form a lines n m in
    of-field (with_form a n) (with_form (relined a lines) m) _ _ words none λ name more. of-field (with_form a n) (with_form (relined a lines) m) _ _ more none λ metric more.
    mapped (with_form a n) (with_form (relined a lines) m) _ (members_form more) none (λ members. setup-again a lines n m _ _ same
    (subst (λ (r : Result (List ℕ) Reason). Follows (where_known n (routers_at a members) (λ routers. with_link a n name kind.Lan routers metric)) (where_known m r (λ routers. with_link (relined a lines) m name kind.Lan routers metric)))
    (same-members a lines members) (after-known n m (routers_at a members) _ _ (λ routers. link-again a lines n m name kind.Lan routers metric same))))

of-key : (a : LabScript) (lines : List LabLine) (n m : ℕ) (words : List (List ℕ)) → deeds_of lines ≡ deeds_of a.lines → Repeats a lines n m (codes "key" ∷ words)
of-key a lines n m words same =
    let none = no-form a lines n m in
    of-field (with_form a n) (with_form (relined a lines) m) _ _ words none λ router more. of-field (with_form a n) (with_form (relined a lines) m) _ _ more none λ scope more.
    of-field (with_form a n) (with_form (relined a lines) m) _ _ more none λ key more.
    of-done (with_form a n) (with_form (relined a lines) m) _ more none (setup-again a lines n m _ _ same (after-known n m (scope_at a router scope) _ _ (λ at. after-ok _ lines same)))

of-prefix : (a : LabScript) (lines : List LabLine) (n m : ℕ) (words : List (List ℕ)) → deeds_of lines ≡ deeds_of a.lines → Repeats a lines n m (codes "prefix" ∷ words)
of-prefix a lines n m words same =
    let none = no-form a lines n m in
    of-field (with_form a n) (with_form (relined a lines) m) _ _ words none λ router more. of-field (with_form a n) (with_form (relined a lines) m) _ _ more none λ prefix more.
    of-field (with_form a n) (with_form (relined a lines) m) _ _ more none λ metric more.
    of-done (with_form a n) (with_form (relined a lines) m) _ more none (event-again a lines n m (router_at a router then _) same)

of-metric : (a : LabScript) (lines : List LabLine) (n m : ℕ) (words : List (List ℕ)) → deeds_of lines ≡ deeds_of a.lines → Repeats a lines n m (codes "metric" ∷ words)
of-metric a lines n m words same =
    let none = no-form a lines n m in
    of-field (with_form a n) (with_form (relined a lines) m) _ _ words none λ router more. of-field (with_form a n) (with_form (relined a lines) m) _ _ more none λ link more.
    of-field (with_form a n) (with_form (relined a lines) m) _ _ more none λ metric more.
    of-done (with_form a n) (with_form (relined a lines) m) _ more none (event-again a lines n m (circuit_at a router link then _) same)

of-overload : (a : LabScript) (lines : List LabLine) (n m : ℕ) (words : List (List ℕ)) → deeds_of lines ≡ deeds_of a.lines → Repeats a lines n m (codes "overload" ∷ words)
of-overload a lines n m words same =
    let none = no-form a lines n m in
    of-field (with_form a n) (with_form (relined a lines) m) _ _ words none λ router more. of-field (with_form a n) (with_form (relined a lines) m) _ _ more none λ on more.
    of-done (with_form a n) (with_form (relined a lines) m) _ more none (event-again a lines n m (router_at a router then _) same)

-- the line of a first word
by-word : (a : LabScript) (lines : List LabLine) (n m : ℕ) (first word : List ℕ) (words : List (List ℕ)) → bytes_eq first word ≡ true → Repeats a lines n m (word ∷ words) → Repeats a lines n m (first ∷ words)
by-word a lines n m first word words e h = subst (λ (w : List ℕ). Repeats a lines n m (w ∷ words)) (sym ((bytes_eq-Decides first word).0 e)) h

words-again : (a : LabScript) (lines : List LabLine) (n m : ℕ) (words : List (List ℕ)) → is_layout words ≡ true → deeds_of lines ≡ deeds_of a.lines → Repeats a lines n m words
words-again a lines n m [] e k = no-form a lines n m
words-again a lines n m (first ∷ words) e k = elim (either (bytes_eq first (codes "router")) _ e) [
  | inl h ↦ by-word a lines n m first (codes "router") words h (of-router a lines n m words k)
  | inr e ↦ (elim (either (bytes_eq first (codes "link")) _ e) [
    | inl h ↦ by-word a lines n m first (codes "link") words h (of-link a lines n m words k)
    | inr e ↦ (elim (either (bytes_eq first (codes "lan")) _ e) [
      | inl h ↦ by-word a lines n m first (codes "lan") words h (of-lan a lines n m words k)
      | inr e ↦ (elim (either (bytes_eq first (codes "key")) _ e) [
        | inl h ↦ by-word a lines n m first (codes "key") words h (of-key a lines n m words k)
        | inr e ↦ (elim (either (bytes_eq first (codes "prefix")) _ e) [
          | inl h ↦ by-word a lines n m first (codes "prefix") words h (of-prefix a lines n m words k)
          | inr e ↦ (elim (either (bytes_eq first (codes "metric")) _ e) [
            | inl h ↦ by-word a lines n m first (codes "metric") words h (of-metric a lines n m words k)
            | inr e ↦ (elim (either (bytes_eq first (codes "overload")) false e) [
              | inl h ↦ by-word a lines n m first (codes "overload") words h (of-overload a lines n m words k)
              | inr e ↦ absurd (cc e)
            ])
          ])
        ])
      ])
    ])
  ])
]

-- ---- all lines

record Heard (r : Result Script ScriptFault) (new : LabScript) : Type 0 where
  lines : List LabLine
  is : r ≡ Ok (Lab (relined new lines))
  deeds : deeds_of lines ≡ deeds_of new.lines

lab-is : (a b : LabScript) → ◌≡◌ {A = Result Script ScriptFault} (Ok (Lab a)) (Ok (Lab b)) → a ≡ b
lab-is a b e = cc

abbrev AllHeard : List (List ℕ) → Type 0
AllHeard texts = (a : LabScript) (lines : List LabLine) (n m : ℕ) (new : LabScript) → deeds_of lines ≡ deeds_of a.lines → hear_lines (Lab a) n texts ≡ Ok (Lab new) → Heard (hear_lines (Lab (relined a lines)) m (told_in texts)) new

line-heard : (text : List ℕ) (texts : List (List ℕ)) (a : LabScript) (lines : List LabLine) (n m : ℕ) (new : LabScript) → is_ahead text ≡ true → AllHeard texts → deeds_of lines ≡ deeds_of a.lines
    → (hear_text (Lab a) n text >>= λ more. hear_lines more (n + 1) texts) ≡ Ok (Lab new) → Heard (hear_lines (Lab (relined a lines)) m (told_of text ++ told_in texts)) new
unfolding hear_lines
line-heard text texts a lines n m new ahead rest same e = by (is_skipped text) refl
  where
    step : is_skipped text ≡ false → (r : Result LabScript ScriptFault) → with_words a n (words_of text) ≡ r → ((r >>= λ more. Ok (Lab more)) >>= λ more. hear_lines more (n + 1) texts) ≡ Ok (Lab new)
        → Heard (hear_lines (Lab (relined a lines)) m (text ∷ told_in texts)) new
    step q (Err f) w x = absurd (cc)
    step q (Ok b) w x =
        let again = words-again a lines n m (words_of text) (sym (ap (λ (t : Bool). t || is_layout (words_of text)) q) ∙ ahead) same b w in
        let last = rest b again.lines (n + 1) (m + 1) new again.deeds x in
        record {
          lines = last.lines;
          is =
              ap (λ (t : Bool). (if t then Ok (Lab (relined a lines)) else hear_words (Lab (relined a lines)) m (words_of text)) >>= λ more. hear_lines more (m + 1) (told_in texts)) q
              ∙ (ap (λ (r : Result LabScript ScriptFault). (r >>= λ more. Ok (Lab more)) >>= λ more. hear_lines more (m + 1) (told_in texts)) again.is ∙ last.is);
          deeds = last.deeds;
        }

    by : (t : Bool) → is_skipped text ≡ t → Heard (hear_lines (Lab (relined a lines)) m (told_of text ++ told_in texts)) new
    by true q =
        subst (λ (t : Bool). Heard (hear_lines (Lab (relined a lines)) m ((if t then [] else text ∷ []) ++ told_in texts)) new) (sym q)
        (rest a lines (n + 1) m new same (sym (ap (λ (t : Bool). (if t then Ok (Lab a) else hear_words (Lab a) n (words_of text)) >>= λ more. hear_lines more (n + 1) texts) q) ∙ e))
    by false q =
        subst (λ (t : Bool). Heard (hear_lines (Lab (relined a lines)) m ((if t then [] else text ∷ []) ++ told_in texts)) new) (sym q)
        (step q (with_words a n (words_of text)) refl (sym (ap (λ (t : Bool). (if t then Ok (Lab a) else hear_words (Lab a) n (words_of text)) >>= λ more. hear_lines more (n + 1) texts) q) ∙ e))

lines-heard : (texts : List (List ℕ)) → AreAhead texts → AllHeard texts
unfolding hear_lines
lines-heard [] ahead a lines n m new same e =
    subst (λ (x : LabScript). Heard (Ok (Lab (relined a lines))) x) (lab-is a new e) (record { lines = lines; is = refl; deeds = same })
lines-heard (text ∷ texts) ahead a lines n m new same e =
    subst (λ (ts : List (List ℕ)). Heard (hear_lines (Lab (relined a lines)) m ts) new) (sym (flat_map-cons told_of text texts))
    (line-heard text texts a lines n m new ahead.0 (lines-heard texts ahead.1) same e)

-- ---- as a script

pub script-is : (lines : List (List ℕ)) → AllByRecursion IsUnbroken lines → script_in lines ≡ hear_lines (Lab nothing_laid) 2 lines
script-is lines h =
    script-lines lines h ∙ (hear-append (Lab nothing_laid) 2 lines ([] ∷ []) ∙ last-empty (hear_lines (Lab nothing_laid) 2 lines) (2 + length lines))

pub told-whole : (lines : List (List ℕ)) → AllByRecursion IsUnbroken lines → AllByRecursion IsUnbroken (told_in lines)
told-whole [] h = tt
told-whole (line ∷ lines) h =
    subst (λ (ts : List (List ℕ)). AllByRecursion IsUnbroken ts) (sym (flat_map-cons told_of line lines)) (by (is_skipped line) (told-whole lines h.1))
  where
    by : (t : Bool) → AllByRecursion IsUnbroken (told_in lines) → AllByRecursion IsUnbroken ((if t then [] else line ∷ []) ++ told_in lines)
    by true rest = rest
    by false rest = (h.0, rest)

pub told-read : (lines : List (List ℕ)) (script : LabScript) → AllByRecursion IsUnbroken lines → AreAhead lines → script_in lines ≡ Ok (Lab script) → (base : LabScript) × (script_in (told_in lines) ≡ Ok (Lab base)) × AreAlike script base
told-read lines script whole ahead e =
    let h = lines-heard lines ahead nothing_laid [] 2 2 script refl (sym (script-is lines whole) ∙ e) in
    (relined script h.lines, script-is (told_in lines) (told-whole lines whole) ∙ h.is, record { routers = refl; links = refl; keys = refl; deeds = h.deeds })
