use Rattle.std.proofs.Common.{◌≡◌, List, ap, sym, ◌∙◌, subst, get_or}
use Rattle.weave_core.specs.Fits.{turn_of, taking}
use Rattle.weave_core.specs.Scenes.{Told}
use Rattle.weave_core.specs.Posts.{pick}
use Rattle.weave_core.specs.declared.posts.Post.{Post}
use Rattle.weave_core.specs.declared.posts.Post.TheVariants as post
use Rattle.weave_core.proofs.PostLemmas.{turn-found}
use Rattle.weave_core.proofs.medium.Medium.turn_of.Goals as goal

pub returns-in-Some-pick : goal.returns-in-Some-pick
returns-in-Some-pick c =
    sym (subst (λ (t : Told). turn_of c.args.party c.args.needs t.sent ≡ taking c.args.party c.pick.result) c.self.view_is
    (turn-found c.self.inside.posts.items c.self.inside.sent.items c.args.party c.in-Some.letter c.args.needs c.self.invariant c.in-Some.is
    ∙ ap (λ (ps : List Post). taking c.args.party (pick c.args.party (get_or ps c.in-Some.letter post.Nobody))) (sym c.deref.ensures.value)
    ∙ ap (λ (p : Post). taking c.args.party (pick c.args.party p)) (sym c.post_at.ensures)
    ∙ ap (taking c.args.party) (sym c.pick.ensures)) ∙ ap (taking c.args.party) c.in-Some-pick.is)

pub returns-in-None : goal.returns-in-None
returns-in-None c =
    sym (subst (λ (t : Told). turn_of c.args.party c.args.needs t.sent ≡ taking c.args.party c.pick.result) c.self.view_is
    (turn-found c.self.inside.posts.items c.self.inside.sent.items c.args.party c.in-Some.letter c.args.needs c.self.invariant c.in-Some.is
    ∙ ap (λ (ps : List Post). taking c.args.party (pick c.args.party (get_or ps c.in-Some.letter post.Nobody))) (sym c.deref.ensures.value)
    ∙ ap (λ (p : Post). taking c.args.party (pick c.args.party p)) (sym c.post_at.ensures)
    ∙ ap (taking c.args.party) (sym c.pick.ensures)) ∙ ap (taking c.args.party) c.in-None.is)
