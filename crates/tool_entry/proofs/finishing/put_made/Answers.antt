use Rattle.std.proofs.Common.{refl}
use Rattle.tool_entry.proofs.Endings.{said_no_memory}
use Rattle.tool_entry.proofs.finishing.put_made.Goals as goal

pub returns-in-Err : goal.returns-in-Err
returns-in-Err g c = said_no_memory c.args.ending 10 _ _ _ _ c.requires refl refl c.put_text-in-Err.ensures
