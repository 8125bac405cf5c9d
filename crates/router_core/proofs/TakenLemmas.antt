-- What is taken at a level is the model's outcome.
use Rattle.std.proofs.Common.{◌≡◌, ℕ, Option, Some, None, Bool, true, false, not, is_some, is_none, IfSome, Result, Ok, Err, IfOk, OnOk, refl, sym, ap, ◌∙◌, subst}
use Rattle.isis_base.specs.declared.level.Level.{Level}
use Rattle.isis_base.specs.declared.identifiers.LspId.{LspId}
use Rattle.isis_base.specs.declared.memory.OutOfMemory.{OutOfMemory}
use Rattle.model_router.specs.Cells.{Heard}
use Rattle.model_router.specs.LspTable.{met}
use Rattle.model_router.specs.Places.{nth}
use Rattle.model_router.specs.Takes.{take_lsp, whose_of}
use Rattle.model_router.specs.declared.drop_name.DropName.{DropName}
use Rattle.model_router.specs.AdjacencyLaws.{AreIdle}
use Rattle.model_router.specs.Events as model
use Rattle.model_router.specs.Events.{Envelope, Message, Outcome, settled}
use Rattle.model_router.specs.Receiving.{acks, drop_of, lsp_drop, scene_of, taken, take_or_drop}
use Rattle.model_router.specs.Routers.{Circuit, LevelState, Router, level_of, with_level}
use Rattle.router_levels.specs.Drafts as levels
use Rattle.router_desk.specs.Heard as reading
use Rattle.router_core.specs.declared.reply.Reply.{Reply}
use Rattle.router_core.specs.Givens.{given}
use Rattle.router_core.specs.Replies.{Answers, IsTaken, outcome}
use Rattle.router_core.proofs.IdleLemmas.{each-some, from-some, settled-same}

answers-level : (r : Router) (place : ℕ) (level : Level) (st : LevelState) (q : model.Reply) (a : Reply) → Answers r place q a → Answers (with_level r level st) place q a
answers-level r place level st model.Done a h = h
answers-level r place level st (model.Dropped cause) a h = h
answers-level r place level st (model.Send out) a h = h

pub level-taken : (r t : Router) (place : ℕ) (x : Circuit) (m : Message) (level : Level) (st : LevelState) (q : model.Reply) (a : Reply) → AreIdle r → drop_of r place x m ≡ None → taken given r place x m ≡ record { router = with_level r level st; reply = q } → t ≡ with_level r level st → Answers r place q a → (t ≡ (outcome r place x m).router) × Answers t place (outcome r place x m).reply a
level-taken r t place x m level st q a idle d is e h =
    subst (λ (o : Outcome). (t ≡ o.router) × Answers t place o.reply a) (sym whole)
    (e ∙ sym (settled-same r (with_level r level st) q idle refl refl), subst (λ (s : Router). Answers s place q a) (sym e) (answers-level r place level st q a h))
  where
    whole : outcome r place x m ≡ settled (record { router = with_level r level st; reply = q })
    whole = ap (λ (o : Option DropName). take_or_drop given r place x m o) d ∙ ap settled is

-- ---- a CSNP's range in both words

pub range-same : (range : Option (LspId × LspId)) → levels.range_of range ≡ reading.range_of range
range-same None = refl
range-same (Some range) = refl

pub none-same : (range : Option (LspId × LspId)) (b : Bool) → is_some range ≡ not b → b ≡ is_none (reading.range_of range)
none-same None true e = refl
none-same None false e = absurd (no e)
  where
    no : false ≡ true → ⊥
    no e = cc
none-same (Some range) true e = absurd (no e)
  where
    no : true ≡ false → ⊥
    no e = cc
none-same (Some range) false e = refl

-- ---- an LSP

pub lsp-taken : (r t : Router) (place : ℕ) (level : Level) (from : Envelope) (h : Heard) (q : Result Reply OutOfMemory) → AreIdle r → IfSome (nth r.circuits place) (λ x. None ≡ lsp_drop r place x level from h)
    → OnOk q (t ≡ with_level r level (take_lsp (scene_of given r level) (level_of r level) place (whose_of r.config.system (level_of r level) h.id) h))
    → IfOk q (λ a. IfSome (nth r.circuits place) (λ x. Answers r place (acks x level h (met (level_of r level).book (whose_of r.config.system (level_of r level) h.id) h)) a))
    → IfOk q (λ a. IsTaken r place (model.LspHeard level from h) t a)
lsp-taken r t place level from h (Err b) idle d e f = f
lsp-taken r t place level from h (Ok a) idle d e f =
    each-some (nth r.circuits place) (λ x. (t ≡ (outcome r place x (model.LspHeard level from h)).router) × Answers t place (outcome r place x (model.LspHeard level from h)).reply a)
    (λ x n. level-taken r t place x (model.LspHeard level from h) level (take_lsp (scene_of given r level) (level_of r level) place (whose_of r.config.system (level_of r level) h.id) h)
    (acks x level h (met (level_of r level).book (whose_of r.config.system (level_of r level) h.id) h)) a idle
    (sym (from-some (λ y. None ≡ lsp_drop r place y level from h) (nth r.circuits place) x n d)) refl e
    (from-some (λ y. Answers r place (acks y level h (met (level_of r level).book (whose_of r.config.system (level_of r level) h.id) h)) a) (nth r.circuits place) x n f))
