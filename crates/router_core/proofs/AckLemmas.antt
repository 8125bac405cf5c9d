-- What is answered to an LSP that meets a row.
use Rattle.std.proofs.Common.{◌≡◌, ℕ, ◌+◌, ◌*◌, ◌%◌, ◌==◌, nat_lt, ◌&&◌, ◌||◌, Bool, true, false, not, if◌then◌else◌, Option, [], ◌∷◌, refl, sym, ap, subst, arith}
use Rattle.isis_base.specs.declared.level.Level.{Level}
use Rattle.isis_base.specs.declared.entry.LspEntry.{LspEntry}
use Rattle.isis_base.specs.Keys.{entry_rank}
use Rattle.model_router.specs.Cells.{Cell, Heard}
use Rattle.model_router.specs.Books.{Book, cell_at, rank_of}
use Rattle.model_router.specs.Datagrams.{Psnp}
use Rattle.model_router.specs.Events as model
use Rattle.model_router.specs.LspTable.{lsp_case, met, is_issued, is_unissued, is_newer, differs}
use Rattle.model_router.specs.Ranks.{is_purge, is_live}
use Rattle.model_router.specs.Receiving.{acks}
use Rattle.model_router.specs.Routers.{Circuit, Router}
use Rattle.model_router.specs.declared.lsp_case.LspCase.{LspCase}
use Rattle.model_router.specs.declared.lsp_case.LspCase.TheVariants as case
use Rattle.model_router.specs.declared.whose.Whose.{Whose}
use Rattle.flag_sync.specs.declared.heard.LspHeard.{LspHeard}
use Rattle.flag_sync.specs.declared.heard.LspAnswer.TheVariants as answer
use Rattle.flag_sync.specs.Heard.{answer_of}
use Rattle.router_core.specs.declared.reply.Reply.{Reply}
use Rattle.router_core.specs.declared.reply.Reply.TheVariants as reply
use Rattle.router_core.specs.Replies.{Answers, datagrams_of}

-- the row that this answer is for
pub row-is : (row : LspCase) (l : LspHeard) → answer_of row l ≡ answer.AckPurge → row ≡ case.AckPurge
row-is case.Outbid l e = absurd (of e)
  where
    of : answer_of case.Outbid l ≡ answer.AckPurge → ⊥
    of e = cc
row-is case.PurgedOwn l e = absurd (of e)
  where
    of : answer_of case.PurgedOwn l ≡ answer.AckPurge → ⊥
    of e = cc
row-is case.AckPurge l e = refl
row-is case.Confused l e = absurd (of e)
  where
    of : answer_of case.Confused l ≡ answer.AckPurge → ⊥
    of e = cc
row-is case.Stored l e = absurd (of e)
  where
    of : answer_of case.Stored l ≡ answer.AckPurge → ⊥
    of e = cc
row-is case.Same l e = absurd (of e)
  where
    of : answer_of case.Same l ≡ answer.AckPurge → ⊥
    of e = cc
row-is case.Older l e = absurd (of e)
  where
    of : answer_of case.Older l ≡ answer.AckPurge → ⊥
    of e = cc

-- a purge that isn't held is a purge
rows : (a b p n d k s : Bool) → (if a then case.Outbid else (if b then case.PurgedOwn else (if p && n then case.AckPurge else (if d then case.Confused else (if k then case.Stored else (if s then case.Same else case.Older)))))) ≡ case.AckPurge → p ≡ true
rows true b p n d k s e = absurd (of e)
  where
    of : case.Outbid ≡ case.AckPurge → ⊥
    of e = cc
rows false true p n d k s e = absurd (of e)
  where
    of : case.PurgedOwn ≡ case.AckPurge → ⊥
    of e = cc
rows false false true n d k s e = refl
rows false false false n true k s e = absurd (of e)
  where
    of : case.Confused ≡ case.AckPurge → ⊥
    of e = cc
rows false false false n false true s e = absurd (of e)
  where
    of : case.Stored ≡ case.AckPurge → ⊥
    of e = cc
rows false false false n false false true e = absurd (of e)
  where
    of : case.Same ≡ case.AckPurge → ⊥
    of e = cc
rows false false false n false false false e = absurd (of e)
  where
    of : case.Older ≡ case.AckPurge → ⊥
    of e = cc

pub ack-purge : (w : Whose) (held : Option Cell) (h : Heard) → lsp_case w held h ≡ case.AckPurge → is_purge h.rank ≡ true
unfolding lsp_case
ack-purge w held h e = rows (is_issued w && (is_newer held h.rank || differs held h.rank h.checksum)) (is_unissued w && is_newer held h.rank && is_live h.rank) (is_purge h.rank) (rank_of held == 0) (differs held h.rank h.checksum) (is_newer held h.rank) (rank_of held == h.rank) e

-- a purge's rank is that of lifetime 0
pub purge-rank : (e : LspEntry) → is_purge (entry_rank e) ≡ true → entry_rank (record e { lifetime = 0; checksum = 0 }) ≡ entry_rank e
purge-rank e = of (nat_lt 0 e.number) (nat_lt 0 e.lifetime)
  where
    even : (n : ℕ) → ((2 * n + 0) % 2 == 1) ≡ true → ⊥
    even n h = no (subst (λ (m : ℕ). (m == 1) ≡ true) two h)
      where
        two : (2 * n + 0) % 2 ≡ 0
        two = omega arith

        no : (0 == 1) ≡ true → ⊥
        no e = cc

    of : (b c : Bool) → is_purge (if b then 2 * e.number + (if c then 0 else 1) else 0) ≡ true → (if b then 2 * e.number + 1 else 0) ≡ (if b then 2 * e.number + (if c then 0 else 1) else 0)
    of true true h = absurd (even e.number h)
    of true false h = refl
    of false c h = refl

pub acknowledges : (r : Router) (place : ℕ) (c : Circuit) (l : Level) (h : Heard) (row : LspCase) (rank : ℕ) → row ≡ case.AckPurge → true ≡ not c.lan → rank ≡ h.rank → Answers r place (acks c l h row) (reply.Send (datagrams_of r place (Psnp l (record { id = h.id; rank = rank; lifetime = 0; checksum = 0 } ∷ []) ∷ [])))
acknowledges r place c l h row rank e p k = subst (λ (q : LspCase). Answers r place (acks c l h q) answered) (sym e)
    (of c.lan p)
  where
    answered : Reply
    answered = reply.Send (datagrams_of r place (Psnp l (record { id = h.id; rank = rank; lifetime = 0; checksum = 0 } ∷ []) ∷ []))

    of : (b : Bool) → true ≡ not b → Answers r place (if b then model.Done else model.Send (Psnp l (record { id = h.id; rank = h.rank; lifetime = 0; checksum = 0 } ∷ []) ∷ [])) answered
    of true e = absurd (no e)
      where
        no : true ≡ false → ⊥
        no e = cc
    of false e = ap (λ (n : ℕ). reply.Send (datagrams_of r place (Psnp l (record { id = h.id; rank = n; lifetime = 0; checksum = 0 } ∷ []) ∷ []))) k

pub done : (r : Router) (place : ℕ) (c : Circuit) (l : Level) (h : Heard) (row : LspCase) → (row ≡ case.AckPurge → c.lan ≡ true) → Answers r place (acks c l h row) reply.Done
done r place c l h case.Outbid f = refl
done r place c l h case.PurgedOwn f = refl
done r place c l h case.AckPurge f = subst (λ (b : Bool). Answers r place (if b then model.Done else model.Send (Psnp l (record { id = h.id; rank = h.rank; lifetime = 0; checksum = 0 } ∷ []) ∷ [])) reply.Done) (sym (f refl)) refl
done r place c l h case.Confused f = refl
done r place c l h case.Stored f = refl
done r place c l h case.Same f = refl
done r place c l h case.Older f = refl

pub met-purge : (b : Book) (w : Whose) (h : Heard) → met b w h ≡ case.AckPurge → is_purge h.rank ≡ true
met-purge b w h e = ack-purge w (cell_at b h.id) h e

-- the answer of this row
pub row-answer : (row : LspCase) (l : LspHeard) → row ≡ case.AckPurge → answer_of row l ≡ answer.AckPurge
row-answer row l e = ap (λ (q : LspCase). answer_of q l) e

pub not-false : (b : Bool) → false ≡ not b → b ≡ true
not-false true e = refl
not-false false e = absurd (no e)
  where
    no : false ≡ true → ⊥
    no e = cc
