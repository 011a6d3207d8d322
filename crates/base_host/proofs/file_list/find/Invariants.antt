use Rattle.std.proofs.Common.{◌≡◌, drop}
use Rattle.base_host.specs.Files.{lookup}
use Rattle.base_host.specs.Fakes.{files_of}
use Rattle.base_host.proofs.file_list.find.Given as goal

-- no file so far has the name
abbrev pub invariant-loop-i : goal.invariant-loop-i
invariant-loop-i l = lookup l.name (files_of l.files) ≡ lookup l.name (files_of (drop l.i l.files))
