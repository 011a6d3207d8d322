use Rattle.std.proofs.Common.{length}
use Rattle.modules_interfaces.proofs.needs.+need_of.Given as goal

abbrev pub decreases-need_of : goal.decreases-need_of
decreases-need_of l = length l.functions.now
