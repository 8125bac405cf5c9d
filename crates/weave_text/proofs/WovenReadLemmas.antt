-- The text of a weaving is read again.
use Rattle.std.proofs.Common.{◌≡◌, ℕ, ◌+◌, Bool, true, false, List, [], ◌∷◌, ◌++◌, map, take, length, codes, Some, None, Result, Ok, Err, if◌then◌else◌, refl, sym, ap, ◌∙◌}
use Rattle.std.specs.List.{AllByRecursion}
use Rattle.std.specs.Str.{bytes_eq}
use Rattle.model_router.proofs.ListLemmas.{all-take}
use Rattle.network_lab.specs.Passed.{given}
use Rattle.model_network.specs.Networks.{Network}
use Rattle.model_network.specs.Runs.{Happening, run}
use Rattle.network_lab.specs.declared.event.LabEvent.{LabEvent}
use Rattle.network_lab.specs.LabNets.{Seen}
use Rattle.lab_script.specs.declared.deeds.LabDeed.{LabDeed}
use Rattle.lab_script.specs.declared.deeds.LabLine.{LabLine}
use Rattle.lab_script.specs.declared.reason.ScriptFault.{ScriptFault}
use Rattle.lab_script.specs.declared.reason.ScriptFault.TheVariants.{Refused, Limit, OutOfMemory}
use Rattle.lab_script.specs.declared.script.Script.{Script}
use Rattle.lab_script.specs.declared.script.Script.TheVariants.{Keys, Lab}
use Rattle.lab_script.specs.LabScripts.{LabScript}
use Rattle.lab_script.specs.Scripts.{◌>>=◌, script_of}
use Rattle.lab_text.specs.LabClaims.{events_of, lines_events, start_of, script_events}
use Rattle.weave.specs.Woven.{happenings_of}
use Rattle.weave_text.specs.Ahead.{behind_head, ahead_count, behind_many, told_in}
use Rattle.weave_text.specs.Blocks.{Block, blocks_in}
use Rattle.weave_text.specs.Lines.{Left, lines_in, all_of, IsUnbroken}
use Rattle.weave_text.specs.Named.{naming_in}
use Rattle.weave_text.specs.ReadBack.{with_schedule, AreAlike, HasSchedule, IsReadAs}
use Rattle.weave_text.specs.Weavings.{Laid, Weaving, end_in, script_in, laid_by, laid_out, with_blocks, said_in, said_behind, weaving_of}
use Rattle.weave_text.specs.Written.{woven_text}
use Rattle.weave_text.proofs.AlikeLemmas.{told-whole, told-read}
use Rattle.weave_text.proofs.ChangeLemmas.{AreAhead, ahead-ahead}
use Rattle.weave_text.proofs.CutLemmas.{all-unbroken, whole-unbroken}
use Rattle.weave_text.proofs.ReadBackLemmas.{same-events, written-read, written-events}
use Rattle.line_cuts.specs.Words.{lines_of}
use Rattle.lab_script.specs.Scripts.{names_in}

-- ---- the lines ahead of a weaving

-- the lines ahead of the blocks, of which a weaving has the script
pub record SaidOf (said : Weaving) : Type 0 where
  pub lines : List (List ℕ)
  pub whole : AllByRecursion IsUnbroken lines
  pub ahead : AreAhead lines
  pub read : script_in lines ≡ Ok said.script
  pub told : said.told ≡ told_in lines

laid-read : (lines : List (List ℕ)) (laid : Laid) (r : Result Script ScriptFault) → laid_by lines r ≡ Ok laid → r ≡ Ok laid.script
laid-read lines laid (Ok script) e = by (end_in script) e
  where
    same : (x y : Laid) → ◌≡◌ {A = Result Laid ScriptFault} (Ok x) (Ok y) → x ≡ y
    same x y e = cc

    by : (r : Result Network ScriptFault) → (r >>= λ net. Ok (record { script = script; net = net })) ≡ Ok laid → ◌≡◌ {A = Result Script ScriptFault} (Ok script) (Ok laid.script)
    by (Ok net) e = ap (λ (x : Laid). Ok x.script) (same (record { script = script; net = net }) laid e)
    by (Err f) e = absurd (cc)
laid-read lines laid (Err (Refused line reason)) e = absurd (cc)
laid-read lines laid (Err (Limit which)) e = absurd (cc)
laid-read lines laid (Err OutOfMemory) e = absurd (cc)

blocks-said : (laid : Laid) (ahead : List (List ℕ)) (said : Weaving) (r : Result (List Block) ScriptFault) → with_blocks laid ahead r ≡ Ok said → (said.script ≡ laid.script) × (said.told ≡ told_in ahead)
blocks-said laid ahead said (Ok blocks) e = of (same (record { script = laid.script; net = laid.net; told = told_in ahead; blocks = blocks }) said e)
  where
    same : (x y : Weaving) → ◌≡◌ {A = Result Weaving ScriptFault} (Ok x) (Ok y) → x ≡ y
    same x y e = cc

    of : ◌≡◌ {A = Weaving} (record { script = laid.script; net = laid.net; told = told_in ahead; blocks = blocks }) said → (said.script ≡ laid.script) × (said.told ≡ told_in ahead)
    of q = (ap (λ (x : Weaving). x.script) (sym q), ap (λ (x : Weaving). x.told) (sym q))
blocks-said laid ahead said (Err f) e = absurd (cc)

said-lines : (left : Left) (said : Weaving) → AllByRecursion IsUnbroken left.lines → said_in left ≡ Ok said → SaidOf said
unfolding said_in
said-lines left said whole e = by (laid_out (take count left.lines)) refl e
  where
    count : ℕ
    count = ahead_count left.lines

    by : (r : Result Laid ScriptFault) → laid_out (take count left.lines) ≡ r → (r >>= λ laid. with_blocks laid (take count left.lines) (blocks_in (names_in laid.script) (behind_many count left))) ≡ Ok said → SaidOf said
    by (Err f) q e = absurd (cc)
    by (Ok laid) q e =
        let b = blocks-said laid (take count left.lines) said (blocks_in (names_in laid.script) (behind_many count left)) e in
        record {
          lines = take count left.lines;
          whole = all-take IsUnbroken count left.lines whole;
          ahead = ahead-ahead left.lines;
          read = laid-read (take count left.lines) laid (script_in (take count left.lines)) q ∙ ap (λ (s : Script). Ok s) (sym b.0);
          told = b.1;
        }

head-said : (left : Left) (lines : List (List ℕ)) (said : Weaving) → AllByRecursion IsUnbroken lines → said_behind (behind_head left lines) ≡ Ok said → SaidOf said
head-said left [] said whole e = absurd (cc)
head-said left (head ∷ lines) said whole e = by (bytes_eq head (codes "isis-weave 1")) e
  where
    by : (t : Bool) → said_behind (if t then Some (record { number = left.number + 1; lines = lines }) else None) ≡ Ok said → SaidOf said
    by true e = said-lines (record { number = left.number + 1; lines = lines }) said whole.1 e
    by false e = absurd (cc)

said-of : (input : List ℕ) (said : Weaving) → weaving_of input ≡ Ok said → SaidOf said
said-of input said e = head-said (all_of input) (lines_in input) said (whole-unbroken (lines_of input) (all-unbroken input)) e

-- ---- scripts that differ in the numbers of their lines

alike-is : (a b : LabScript) → AreAlike a b → b ≡ record a { lines = b.lines }
alike-is a b h =
    ap (λ routers. record b { routers = routers }) h.routers
    ∙ (ap (λ links. record b { routers = a.routers; links = links }) h.links
    ∙ ap (λ keys. record b { routers = a.routers; links = a.links; keys = keys }) h.keys)

deed-is : (d e : LabDeed) (ds es : List LabDeed) → d ∷ ds ≡ e ∷ es → d ≡ e
deed-is d e ds es q = cc

deeds-are : (d e : LabDeed) (ds es : List LabDeed) → d ∷ ds ≡ e ∷ es → ds ≡ es
deeds-are d e ds es q = cc

lines-same : (xs ys : List LabLine) (net : Network) → map (λ (line : LabLine). line.deed) xs ≡ map (λ (line : LabLine). line.deed) ys → lines_events net xs ≡ lines_events net ys
lines-same [] [] net e = refl
lines-same [] (y ∷ ys) net e = absurd (cc)
lines-same (x ∷ xs) [] net e = absurd (cc)
lines-same (x ∷ xs) (y ∷ ys) net e =
    let deeds = λ (lines : List LabLine). map (λ (line : LabLine). line.deed) lines in
    ap (λ (d : LabDeed). events_of net d ++ lines_events (run given net (events_of net d)) xs) (deed-is x.deed y.deed (deeds xs) (deeds ys) e)
    ∙ ap (λ (t : List Happening). events_of net y.deed ++ t) (lines-same xs ys (run given net (events_of net y.deed)) (deeds-are x.deed y.deed (deeds xs) (deeds ys) e))

events-same : (script : LabScript) (lines : List LabLine) → map (λ (line : LabLine). line.deed) lines ≡ map (λ (line : LabLine). line.deed) script.lines → script_events (record script { lines = lines }) ≡ script_events script
unfolding script_events
events-same script lines e = lines-same lines script.lines (start_of script) e

-- ---- the text

pub said-read : (said : Weaving) (s : Seen) (schedule : List LabEvent) → SaidOf said → HasSchedule said.script s schedule → IsReadAs said schedule (woven_text said.told (naming_in said.script) s schedule)
said-read said s schedule x has = by said.script refl has x
  where
    by : (script : Script) → said.script ≡ script → HasSchedule script s schedule → SaidOf said → IsReadAs said schedule (woven_text said.told (naming_in said.script) s schedule)
    by (Keys script) q has x = absurd has
    by (Lab script) q has x = of (told-read x.lines script x.whole x.ahead (x.read ∙ ap (λ (s : Script). Ok s) q))
      where
        of : (base : LabScript) × (script_in (told_in x.lines) ≡ Ok (Lab base)) × AreAlike script base → IsReadAs said schedule (woven_text said.told (naming_in said.script) s schedule)
        of t =
            let again = record script { lines = t.0.lines } in
            let number = 2 + length (told_in x.lines) in
            record {
              ahead = script;
              is = q;
              script = with_schedule again number schedule;
              read =
                  ap (λ (n : Script). script_of (woven_text said.told (naming_in n) s schedule)) q
                  ∙ (ap (λ (ts : List (List ℕ)). script_of (woven_text ts (naming_in (Lab script)) s schedule)) x.told
                  ∙ written-read (told_in x.lines) again s schedule (told-whole x.lines x.whole)
                  (t.1 ∙ ap (λ (b : LabScript). Ok (Lab b)) (alike-is script t.0 t.2)) (same-events schedule script t.0.lines s has));
              start = refl;
              events = written-events again number schedule ∙ ap (λ (xs : List Happening). xs ++ happenings_of schedule) (events-same script t.0.lines t.2.deeds);
            }

pub woven-read : (input : List ℕ) (said : Weaving) (s : Seen) (schedule : List LabEvent) → weaving_of input ≡ Ok said → HasSchedule said.script s schedule → IsReadAs said schedule (woven_text said.told (naming_in said.script) s schedule)
woven-read input said s schedule e has = said-read said s schedule (said-of input said e) has
