use Rattle.std.proofs.Common.{refl}
use Rattle.tool_endings.specs.declared.ending.Ending.TheVariants.{ReadFault, WriteFault, PutFault}
use Rattle.tool_entry.proofs.Endings.{said_found}
use Rattle.tool_entry.proofs.finishing.finish.Goals as goal

pub returns-in-PutFault : goal.returns-in-PutFault
returns-in-PutFault g c =
    said_found c.args.ending PutFault 7 _ _ _ _ c.in-PutFault.is refl refl c.put_text.ensures

pub returns-in-ReadFault : goal.returns-in-ReadFault
returns-in-ReadFault g c =
    said_found c.args.ending ReadFault 5 _ _ _ _ c.in-ReadFault.is refl refl c.put_text-in-ReadFault.ensures

pub returns-in-WriteFault : goal.returns-in-WriteFault
returns-in-WriteFault g c =
    said_found c.args.ending WriteFault 6 _ _ _ _ c.in-WriteFault.is refl refl c.put_text-in-WriteFault.ensures
