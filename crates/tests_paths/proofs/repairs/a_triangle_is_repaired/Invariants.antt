use Rattle.tests_paths.proofs.repairs.a_triangle_is_repaired.Given as goal

abbrev pub ghosts-triangle : goal.ghosts-triangle
ghosts-triangle g a = record { name = a.blank.name; parts = a.blank.parts }
