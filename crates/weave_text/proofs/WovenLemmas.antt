-- What a text says, as it is read, played and woven.
use Rattle.std.proofs.Common.{◌≡◌, ◌∙◌, inl, inr, ℕ, zero, suc, ◌<◌, ◌≤◌, List, [], ◌∷◌, map, take, min, None, Result, Ok, Err, true, false, ⊎_elim, refl, sym, ap, subst, arith}
use Rattle.std.specs.Prelude.{leb}
use Rattle.std.proofs.lemmas.Bool.Decides.{leb_tells}
use Rattle.std.specs.List.{AllByRecursion}
use Rattle.std.proofs.lemmas.List.{take-take}
use Rattle.model_router.proofs.ListLemmas.{all-take}
use Rattle.lab_keys.specs.declared.faults.LimitName.{LimitName}
use Rattle.model_network.specs.Networks.{Network}
use Rattle.network_lab.specs.declared.event.LabEvent.{LabEvent}
use Rattle.network_lab.specs.LabNets.{LabNet, StandsFor}
use Rattle.lab_script.specs.declared.reason.Reason.{Reason}
use Rattle.lab_script.specs.declared.reason.ScriptFault.{ScriptFault}
use Rattle.lab_script.specs.declared.reason.ScriptFault.TheVariants.{Refused, Limit, OutOfMemory}
use Rattle.lab_script.specs.declared.script.Script.{Script}
use Rattle.lab_script.specs.declared.script.Script.TheVariants.{Keys, Lab}
use Rattle.lab_script.specs.Gives.{Answers}
use Rattle.lab_script.specs.Scripts.{◌>>=◌, script_of, names_in}
use Rattle.weave_replay.specs.declared.journal.WovenJournal.{WovenJournal}
use Rattle.weave_text.specs.Ahead.{ahead_count, behind_many, script_text, told_in}
use Rattle.weave_text.specs.Blocks.{Block, block_of, blocks_in, IsFaultOf}
use Rattle.weave_text.specs.Lines.{Left, IsUnbroken}
use Rattle.weave.specs.declared.fault.WeaveFault.{WeaveFault}
use Rattle.weave.specs.declared.fault.WeaveFault.TheVariants as weave
use Rattle.weave.specs.Faults.{IsToldOf}
use Rattle.weave.specs.Woven.{IsUnbegun, IsWoven}
use Rattle.weave_text.specs.declared.fault.WeaveTextFault.{WeaveTextFault}
use Rattle.weave_text.specs.declared.fault.WeaveTextFault.TheVariants as failed
use Rattle.weave_text.specs.Answers.{IsRefusedBy, PlaysTo, Weaves}
use Rattle.weave_text.specs.Faults.{script_fault, weave_fault}
use Rattle.weave_text.specs.Named.{naming_in}
use Rattle.weave_text.specs.ReadBack.{HasSchedule, IsReadAs}
use Rattle.weave_text.specs.Weaves.{IsNotWoven, HasNoWeaving}
use Rattle.weave_text.specs.Weavings.{Laid, Weaving, end_in, script_in, limit_before, unless_limited, laid_by, laid_out, with_blocks, said_by, said_in}
use Rattle.weave_text.specs.Written.{woven_text}
use Rattle.weave_text.proofs.ChangeLemmas.{AreAhead, ahead-ahead, script-changes}
use Rattle.weave_text.proofs.FreshLemmas.{uninjected, unbegun}
use Rattle.weave_text.proofs.WovenReadLemmas.{SaidOf, said-read}

-- ---- the part ahead is refused

abbrev behind : ℕ → Left → Laid → Result Weaving ScriptFault
behind count left laid = with_blocks laid (take count left.lines) (blocks_in (names_in laid.script) (behind_many count left))

pub said-err : (count : ℕ) (left : Left) (fault : ScriptFault) → laid_out (take count left.lines) ≡ Err fault → said_by count left ≡ Err fault
said-err count left fault e = ap (λ (r : Result Laid ScriptFault). r >>= behind count left) e

pub refused-weaves : (said : Result Weaving ScriptFault) (fault : ScriptFault) (result : WeaveTextFault) → said ≡ Err fault → IsRefusedBy fault result → Weaves said (Err result)
refused-weaves said fault (failed.Refused line reason) e is = e ∙ ap (λ (f : ScriptFault). Err f) is
refused-weaves said fault (failed.Limit which) e is = inl (e ∙ ap (λ (f : ScriptFault). Err f) is)
refused-weaves said fault (failed.NotWoven journal entry why) e is = absurd is
refused-weaves said fault failed.Write e is = absurd is
refused-weaves said fault failed.OutOfMemory e is = tt

pub refused-at : (count : ℕ) (left : Left) (line : ℕ) (reason : Reason) (result : WeaveTextFault) → script_in (take count left.lines) ≡ Err (Refused line reason) → IsRefusedBy (unless_limited (limit_before line (take count left.lines)) line reason) result → Weaves (said_by count left) (Err result)
refused-at count left line reason result e is =
    refused-weaves (said_by count left) (unless_limited (limit_before line (take count left.lines)) line reason) result
    (said-err count left _ (ap (laid_by (take count left.lines)) e)) is

pub limited-at : (count : ℕ) (left : Left) (which : LimitName) → script_in (take count left.lines) ≡ Err (Limit which) → Weaves (said_by count left) (Err (failed.Limit which))
limited-at count left which e = inl (said-err count left (Limit which) (ap (laid_by (take count left.lines)) e))

-- ---- a script that was read

read : (count : ℕ) (left : Left) (script : Script) → script_in (take count left.lines) ≡ Ok script → laid_out (take count left.lines) ≡ (end_in script >>= (λ net. Ok (record { script = script; net = net })))
read count left script e = ap (laid_by (take count left.lines)) e

pub unplayed : (count : ℕ) (left : Left) (script : Script) (result : WeaveTextFault) → script_in (take count left.lines) ≡ Ok script → PlaysTo (end_in script) (Err result) → Weaves (said_by count left) (Err result)
unplayed count left script (failed.Refused line reason) e plays =
    said-err count left (Refused line reason) (read count left script e ∙ ap (λ (r : Result Network ScriptFault). r >>= (λ net. Ok (record { script = script; net = net }))) plays)
unplayed count left script (failed.Limit which) e plays =
    inl (said-err count left (Limit which) (read count left script e ∙ ap (λ (r : Result Network ScriptFault). r >>= (λ net. Ok (record { script = script; net = net }))) plays))
unplayed count left script (failed.NotWoven journal entry why) e plays = absurd plays
unplayed count left script failed.Write e plays = absurd plays
unplayed count left script failed.OutOfMemory e plays = tt

-- ---- a network at its end

pub record IsPlayed (count : ℕ) (left : Left) (script : Script) (net : Network) : Type 0 where
  pub read : script_in (take count left.lines) ≡ Ok script
  pub ends : end_in script ≡ Ok net

said-blocks : (count : ℕ) (left : Left) (script : Script) (net : Network) → IsPlayed count left script net → said_by count left ≡ with_blocks (record { script = script; net = net }) (take count left.lines) (blocks_in (names_in script) (behind_many count left))
said-blocks count left script net h =
    ap (λ (r : Result Laid ScriptFault). r >>= behind count left) (read count left script h.read ∙ ap (λ (r : Result Network ScriptFault). r >>= (λ net. Ok (record { script = script; net = net }))) h.ends)

pub blocks-refused : (count : ℕ) (left : Left) (script : Script) (net : Network) (fault : ScriptFault) → IsPlayed count left script net → IsFaultOf (blocks_in (names_in script) (behind_many count left)) fault → Weaves (said_by count left) (Err (script_fault fault))
blocks-refused count left script net (Refused line reason) h is =
    said-blocks count left script net h ∙ ap (with_blocks (record { script = script; net = net }) (take count left.lines)) is
blocks-refused count left script net (Limit which) h is =
    inl (said-blocks count left script net h ∙ ap (with_blocks (record { script = script; net = net }) (take count left.lines)) is)
blocks-refused count left script net OutOfMemory h is = tt

abbrev weaving_by : ℕ → Left → Script → Network → List Block → Weaving
weaving_by count left script net blocks = record { script = script; net = net; told = told_in (take count left.lines); blocks = blocks }

said-all : (count : ℕ) (left : Left) (script : Script) (net : Network) (blocks : List Block) → IsPlayed count left script net → blocks_in (names_in script) (behind_many count left) ≡ Ok blocks → said_by count left ≡ Ok (weaving_by count left script net blocks)
said-all count left script net blocks h e =
    said-blocks count left script net h ∙ ap (with_blocks (record { script = script; net = net }) (take count left.lines)) e

not-woven : (said : Result Weaving ScriptFault) (weaving : Weaving) (fault : WeaveFault) → said ≡ Ok weaving → IsNotWoven weaving fault → HasNoWeaving said fault
not-woven said weaving fault e is = subst (λ (r : Result Weaving ScriptFault). HasNoWeaving r fault) (sym e) is

pub unwoven : (count : ℕ) (left : Left) (script : Script) (net : Network) (journals : List WovenJournal) (fault : WeaveFault) → IsPlayed count left script net → blocks_in (names_in script) (behind_many count left) ≡ Ok (map block_of journals) → IsToldOf net journals fault → Weaves (said_by count left) (Err (weave_fault fault))
unwoven count left script net journals fault h e told = by fault (not-woven (said_by count left) (weaving_by count left script net (map block_of journals)) fault (said-all count left script net (map block_of journals) h e) (record { journals = journals; are = refl; told = told }))
  where
    by : (f : WeaveFault) → HasNoWeaving (said_by count left) f → Weaves (said_by count left) (Err (weave_fault f))
    by (weave.Event journal entry) is = is
    by (weave.Reply journal entry) is = is
    by (weave.Limit which) is = inr is
    by (weave.Stuck journal entry) is = is
    by weave.OutOfMemory is = tt

-- the lines ahead of it
said-of : (count : ℕ) (left : Left) (script : Script) (net : Network) (blocks : List Block) → count ≡ ahead_count left.lines → AllByRecursion IsUnbroken left.lines → script_in (take count left.lines) ≡ Ok script → SaidOf (weaving_by count left script net blocks)
said-of count left script net blocks counted whole e = record {
  lines = take count left.lines;
  whole = all-take IsUnbroken count left.lines whole;
  ahead = subst (λ (n : ℕ). AreAhead (take n left.lines)) (sym counted) (ahead-ahead left.lines);
  read = e;
  told = refl;
}

pub woven : (count : ℕ) (left : Left) (script : Script) (net : Network) (journals : List WovenJournal) (schedule : List LabEvent) (after : LabNet) (text : List ℕ) → SaidOf (weaving_by count left script net (map block_of journals)) → IsPlayed count left script net → net.injected ≡ 0 → blocks_in (names_in script) (behind_many count left) ≡ Ok (map block_of journals) → IsWoven net journals schedule after → HasSchedule script after.seen schedule → text ≡ woven_text (told_in (take count left.lines)) (naming_in script) after.seen schedule → Weaves (said_by count left) (Ok text)
woven count left script net journals schedule after text of h clean e is has t =
    let weaving = weaving_by count left script net (map block_of journals) in
    subst (λ (r : Result Weaving ScriptFault). Weaves r (Ok text)) (sym (said-all count left script net (map block_of journals) h e))
    (record {
      journals = journals;
      are = refl;
      clean = clean;
      schedule = schedule;
      after = after;
      woven = is;
      text_is = t;
      reads = subst (λ (u : List ℕ). IsReadAs weaving schedule u) (sym t) (said-read weaving after.seen schedule of has);
    })

-- ---- weaving may begin

begun-from : (lines : List (List ℕ)) (script : Script) (net : Network) (a : LabNet) → AllByRecursion IsUnbroken lines → AreAhead lines → script_in lines ≡ Ok script → end_in script ≡ Ok net → StandsFor net a → a.stopped ≡ None → IsUnbegun a
begun-from lines (Keys script) net a whole ahead e ends stands running = absurd (script-changes lines (Keys script) whole ahead e)
begun-from lines (Lab script) net a whole ahead e ends stands running = unbegun script net a (script-changes lines (Lab script) whole ahead e) ends stands running

clean-from : (lines : List (List ℕ)) (script : Script) (net : Network) → AllByRecursion IsUnbroken lines → AreAhead lines → script_in lines ≡ Ok script → end_in script ≡ Ok net → net.injected ≡ 0
clean-from lines (Keys script) net whole ahead e ends = absurd (script-changes lines (Keys script) whole ahead e)
clean-from lines (Lab script) net whole ahead e ends = uninjected script net (script-changes lines (Lab script) whole ahead e) ends

clean : (count : ℕ) (left : Left) (script : Script) (net : Network) → count ≡ ahead_count left.lines → AllByRecursion IsUnbroken left.lines → IsPlayed count left script net → net.injected ≡ 0
clean count left script net counted whole h =
    clean-from (take count left.lines) script net (all-take IsUnbroken count left.lines whole)
    (subst (λ (n : ℕ). AreAhead (take n left.lines)) (sym counted) (ahead-ahead left.lines)) h.read h.ends

pub begun : (count : ℕ) (left : Left) (script : Script) (net : Network) (a : LabNet) → count ≡ ahead_count left.lines → AllByRecursion IsUnbroken left.lines → IsPlayed count left script net → StandsFor net a → a.stopped ≡ None → IsUnbegun a
begun count left script net a counted whole h stands running =
    begun-from (take count left.lines) script net a (all-take IsUnbroken count left.lines whole)
    (subst (λ (n : ℕ). AreAhead (take n left.lines)) (sym counted) (ahead-ahead left.lines)) h.read h.ends stands running

pub there : (few many : ℕ) (journals : List WovenJournal) → many ≡ few → AllByRecursion (λ j. j.router < few) journals → AllByRecursion (λ j. j.router < many) journals
there few many journals e h = subst (λ (n : ℕ). AllByRecursion (λ (j : WovenJournal). j.router < n) journals) (sym e) h

-- ---- with a network that stands for the one at the script's end

-- a network was played to a script's end, whose lines are the first so many
pub record IsReady (count : ℕ) (left : Left) (script : Script) (a : LabNet) : Type 0 where
  pub read : script_in (take count left.lines) ≡ Ok script
  pub plays : PlaysTo (end_in script) (Ok a)

played : (count : ℕ) (left : Left) (script : Script) (a : LabNet) (h : IsReady count left script a) → IsPlayed count left script h.plays.0
played count left script a h = record { read = h.read; ends = h.plays.1 }

pub begun-after : (count : ℕ) (left : Left) (script : Script) (a : LabNet) → count ≡ ahead_count left.lines → AllByRecursion IsUnbroken left.lines → IsReady count left script a → IsUnbegun a
begun-after count left script a counted whole h = begun count left script h.plays.0 a counted whole (played count left script a h) h.plays.2 h.plays.3

pub blocks-after : (count : ℕ) (left : Left) (script : Script) (a : LabNet) (fault : ScriptFault) → IsReady count left script a → IsFaultOf (blocks_in (names_in script) (behind_many count left)) fault → Weaves (said_by count left) (Err (script_fault fault))
blocks-after count left script a fault h is = blocks-refused count left script h.plays.0 fault (played count left script a h) is

pub unwoven-after : (count : ℕ) (left : Left) (script : Script) (a : LabNet) (journals : List WovenJournal) (fault : WeaveFault) → IsReady count left script a → blocks_in (names_in script) (behind_many count left) ≡ Ok (map block_of journals) → ((net : Network) → StandsFor net a → IsToldOf net journals fault) → Weaves (said_by count left) (Err (weave_fault fault))
unwoven-after count left script a journals fault h e told =
    unwoven count left script h.plays.0 journals fault (played count left script a h) e (told h.plays.0 h.plays.2)

pub woven-after : (count : ℕ) (left : Left) (script : Script) (a : LabNet) (journals : List WovenJournal) (schedule : List LabEvent) (after : LabNet) (text : List ℕ) → count ≡ ahead_count left.lines → AllByRecursion IsUnbroken left.lines → IsReady count left script a → blocks_in (names_in script) (behind_many count left) ≡ Ok (map block_of journals) → ((net : Network) → StandsFor net a → IsWoven net journals schedule after) → HasSchedule script after.seen schedule → text ≡ woven_text (told_in (take count left.lines)) (naming_in script) after.seen schedule → Weaves (said_by count left) (Ok text)
woven-after count left script a journals schedule after text counted whole h e is has t =
    woven count left script h.plays.0 journals schedule after text (said-of count left script h.plays.0 (map block_of journals) counted whole h.read) (played count left script a h) (clean count left script h.plays.0 counted whole (played count left script a h)) e
    (is h.plays.0 h.plays.2) has t

-- ---- texts of scripts

-- what a call answered that can't be read
pub answers-fault : {X : Type 0} (said : Result X ScriptFault) (fault : ScriptFault) → Answers (Err fault) said → IsFaultOf said fault
answers-fault said (Refused line reason) h = h
answers-fault said (Limit which) h = h
answers-fault said OutOfMemory h = h

-- the same of lines whose text this is
pub lines-fault : (lines : List (List ℕ)) (text : List ℕ) (fault : ScriptFault) → text ≡ script_text lines → Answers (Err fault) (script_of text) → IsFaultOf (script_in lines) fault
lines-fault lines text fault e h = subst (λ (t : List ℕ). IsFaultOf (script_of t) fault) e (answers-fault (script_of text) fault h)

pub fault-is : (lines : List (List ℕ)) (fault other : ScriptFault) → fault ≡ other → IsFaultOf (script_in lines) fault → IsFaultOf (script_in lines) other
fault-is lines fault other e h = subst (λ (f : ScriptFault). IsFaultOf (script_in lines) f) e h

pub said-in : (left : Left) (count : ℕ) (result : Result (List ℕ) WeaveTextFault) → count ≡ ahead_count left.lines → Weaves (said_by count left) result → Weaves (said_in left) result
unfolding said_in
said-in left count result e h = subst (λ (n : ℕ). Weaves (said_by n left) result) e h

-- ---- so many of so many lines

take-none : (n : ℕ) → take {A = List ℕ} n [] ≡ []
take-none zero = refl
take-none (suc n) = refl

past : (n count : ℕ) (lines : List (List ℕ)) → count ≤ n → take n (take count lines) ≡ take count lines
past n zero lines h = take-none n
past zero (suc count) lines h = absurd (omega (arith, h))
past (suc n) (suc count) [] h = refl
past (suc n) (suc count) (line ∷ lines) h = ap (λ (ls : List (List ℕ)). line ∷ ls) (past n count lines (omega (arith, h)))

pub taken : (count n least : ℕ) (lines : List (List ℕ)) → least ≡ min count n → take least lines ≡ take n (take count lines)
taken count n least lines is = ⊎_elim
    (λ (t : (leb count n ≡ true) × (count ≤ n)). let e : least ≡ count = omega (arith, is, t.1) in
    ap (λ (m : ℕ). take m lines) e ∙ sym (past n count lines t.1))
    (λ (t : (leb count n ≡ false) × (n < count)). let e : least ≡ n = omega (arith, is, t.1) in
    ap (λ (m : ℕ). take m lines) e ∙ sym (take-take n count lines (omega (arith, t.1))))
    (leb_tells count n)
