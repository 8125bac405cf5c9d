-- How the links of a lab script lie in memory: a list, an index of their names, and how many
-- circuits each router has (own).
use Rattle.std.specs.Prelude.{◌≡◌, ℕ, slice_index_or}
use Rattle.lab_script.specs.declared.lab_links.LabLinks.TheInside.{Inside}
use Rattle.lab_script.specs.LabScripts.{link_names, circuit_count}

pub record AreLinksIndexed (a : Inside) : Type 0 where
  pub named : a.names ≡ link_names a.list.items
  pub counted : (router : ℕ)
      → slice_index_or a.circuits.items router 0 ≡ circuit_count a.list.items router
