-- How links lie in memory: a list, and an index of it (own).
use Rattle.std.specs.Prelude.{◌≡◌, ℕ, ◌==◌, ◌&&◌, is_some}
use Rattle.std.specs.HashMap.{get_by}
use Rattle.lab_script.specs.declared.links.Links.TheInside.{Inside}
use Rattle.lab_script.specs.Links.{has_link}

-- the index finds each link
pub record IsLinkIndex (a : Inside) : Type 0 where
  pub finds : (ends : ℕ × ℕ)
      → is_some (get_by (λ (other : ℕ × ℕ). ends.0 == other.0 && ends.1 == other.1) a.index)
      ≡ has_link a.list.items ends
