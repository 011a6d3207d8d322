use Rattle.mdl_library.proofs.library.Library.+source_sizes.Given as goal

abbrev pub decreases-source_sizes : goal.decreases-source_sizes
decreases-source_sizes l = l.depth
