use Rattle.constraint_tree.proofs.print.+write_places.Given as goal

abbrev pub decreases-write_places : goal.decreases-write_places
decreases-write_places l = l.places
