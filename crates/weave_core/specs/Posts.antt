-- What is kept of all sendings of one letter (own).
use Rattle.std.specs.Prelude.{◌≡◌, ℕ, ◌+◌, ◌==◌, List, [], ◌∷◌, get_or, Option, Some, None, if◌then◌else◌}
use Rattle.weave_core.specs.declared.moves.Sent.{Sent}
use Rattle.weave_core.specs.declared.posts.Post.{Post}
use Rattle.weave_core.specs.declared.posts.Post.TheVariants as post

-- a sending more, of this number, by this party (own)
abbrev pub with_sending : Post → ℕ → ℕ → Post
with_sending post.Nobody number sender = post.One number sender
with_sending (post.One first by) number sender =
    if by == sender then post.One first by else post.Two first by number
with_sending (post.Two first by other) number sender = post.Two first by other

-- the first that fits a party (own)
abbrev pub pick : ℕ → Post → Option ℕ
pick party post.Nobody = None
pick party (post.One first by) = if by == party then None else Some first
pick party (post.Two first by other) = if by == party then Some other else Some first

-- what is kept of a letter behind those sent, where so many were sent before (own)
abbrev pub post_after : ℕ → ℕ → Post → List Sent → Post
post_after letter count kept [] = kept
post_after letter count kept (s ∷ sent) =
    post_after letter (count + 1)
    (if s.letter == letter then with_sending kept (count + 1) s.sender else kept) sent

-- own
abbrev pub post_of : ℕ → List Sent → Post
post_of letter sent = post_after letter 0 post.Nobody sent

-- each letter's post is kept; past the end nobody sent it (own)
pub record AreKept (posts : List Post) (sent : List Sent) : Type 0 where
  pub kept : (letter : ℕ) → get_or posts letter post.Nobody ≡ post_of letter sent
