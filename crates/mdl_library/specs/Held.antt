-- A library in memory, as a plain one.
use Rattle.std.specs.Prelude.{ℕ, Vec, map}
use Rattle.std.specs.Option.{option_copied}
use Rattle.std.specs.declared.alloc.Global.{Global}
use denote.Ref.{Bor}
use Rattle.mdl_tree.specs.declared.tree.Section.{Section}
use Rattle.mdl_tree.specs.Values.{section_tree}
use Rattle.mdl_params.specs.Defaults.{parameter_text}
use Rattle.mdl_library.specs.Given.{Given}
use Rattle.mdl_library.specs.Library.{Library, Source}
use Rattle.mdl_library.specs.declared.given.Given as held_given
use Rattle.mdl_library.specs.declared.library.Library as held_library

-- what a file gives
abbrev pub given_seen : held_given.Given → Given
given_seen given =
    record { parameter = parameter_text given.defaults; source = option_copied given.source }

-- a source with its text
abbrev pub source_seen : Vec ℕ Global × Bor Section → Source
source_seen entry = (entry.0.items, section_tree entry.1.now)

-- a library
abbrev pub library_seen : held_library.Library → Library
library_seen library =
    record {
      given = given_seen library.given;
      system = section_tree library.system.now;
      sources = map source_seen library.sources.entries;
    }
