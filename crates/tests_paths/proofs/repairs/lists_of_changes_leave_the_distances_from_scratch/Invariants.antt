use Rattle.tests_paths.proofs.repairs.lists_of_changes_leave_the_distances_from_scratch.Given as goal

abbrev pub ghosts-wrong_list : goal.ghosts-wrong_list
ghosts-wrong_list g a = record { name = a.blank.name; parts = a.blank.parts }
