use Rattle.std.proofs.Common.{length}
use Rattle.c_resolver.proofs.calls.+are_cast.Given as goal

abbrev pub decreases-are_cast : goal.decreases-are_cast
decreases-are_cast l = length l.params.now
