-- Why a diagram has no file.
use Rattle.std.specs.Prelude.{◌≡◌, None, Some}
use Rattle.diagram_meaning.specs.Diagram.{Diagram}
use Rattle.lustre_right.specs.LongDelays.{long_delay}
use Rattle.lustre_emitter.specs.declared.fault.LusOfFault.{LusOfFault}
use Rattle.lustre_emitter.specs.declared.fault.LusOfFault.TheVariants.{LongDelay, Memory}

-- it has a delay that is too long, of which this is the first place; or it has none, and there was
-- no memory
abbrev pub IsFaultOf : Diagram → LusOfFault → Type 0
IsFaultOf d (LongDelay place) = long_delay d ≡ Some place
IsFaultOf d Memory = long_delay d ≡ None
