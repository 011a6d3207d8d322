use Rattle.std.proofs.Common.{sym, ◌∙◌, ap, Some, true, false}
use Rattle.c_checked.specs.Checked.{fix_type}
use Rattle.c_outputs.proofs.RootLaws.{type-same}
use Rattle.c_outputs.proofs.interface.fix_type.Goals as goal

pub returns-in-I8 : goal.returns-in-I8
returns-in-I8 c = ap Some (type-same true 8 0 _ _) ∙ ap fix_type (sym c.in-I8.is)

pub returns-in-U8 : goal.returns-in-U8
returns-in-U8 c = ap Some (type-same false 8 0 _ _) ∙ ap fix_type (sym c.in-U8.is)

pub returns-in-I16 : goal.returns-in-I16
returns-in-I16 c = ap Some (type-same true 16 0 _ _) ∙ ap fix_type (sym c.in-I16.is)

pub returns-in-U16 : goal.returns-in-U16
returns-in-U16 c = ap Some (type-same false 16 0 _ _) ∙ ap fix_type (sym c.in-U16.is)

pub returns-in-I32 : goal.returns-in-I32
returns-in-I32 c = ap Some (type-same true 32 0 _ _) ∙ ap fix_type (sym c.in-I32.is)

pub returns-in-U32 : goal.returns-in-U32
returns-in-U32 c = ap Some (type-same false 32 0 _ _) ∙ ap fix_type (sym c.in-U32.is)
