-- The laws of the order of a system's equations, whatever it means that a name is known.
use Rattle.diagram_meaning.specs.ResolvedTree.{diagram_of}
use Rattle.lustre_system.specs.RowEquations.{samples}
use Rattle.lustre_right.specs.ReadLaws.{ActivityIsInOrder, TriggersAreInOrder, SamplesAreInOrder, TakingIsInOrder, ValuesAreInOrder}
use Rattle.lustre_order.proofs.Activity.{activity-in-order, trigger-in-order}
use Rattle.lustre_order.proofs.Rows.{samples-in-order, taking-in-order, value-in-order}

pub activity_is_in_order : ActivityIsInOrder
activity_is_in_order r s known resolved system around = activity-in-order (diagram_of r) s known around

pub triggers_are_in_order : TriggersAreInOrder
triggers_are_in_order r s known = trigger-in-order (diagram_of r) s known

pub samples_are_in_order : SamplesAreInOrder
samples_are_in_order r s b known = samples-in-order (diagram_of r) s b known (samples (diagram_of r) s b)

pub taking_is_in_order : TakingIsInOrder
taking_is_in_order r s b known row = taking-in-order (diagram_of r) s b known row.active row.around.now

pub values_are_in_order : ValuesAreInOrder
values_are_in_order r s b known row valued inputs = value-in-order (diagram_of r) s b known row.around row.active inputs
