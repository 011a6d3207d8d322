-- How a read of a whole file ends.
use Rattle.std.specs.Prelude.{ℕ, List, Option, Result, Ok, Err, Vec}
use Rattle.std.specs.declared.alloc.Global.{Global}
use Rattle.base_host.specs.declared.whole.ReadAllFault.{ReadAllFault}
use Rattle.base_host.specs.declared.whole.ReadAllFault.TheVariants.{Read, TooLong, Memory}
use Rattle.base_host.specs.Files.{File}
use Rattle.base_host.specs.Reading.{Source, ReadsFront, ReadsWhole, ReadsTooLong, StopsReading}

-- The file of this name was read whole, with at most so many bytes; or reading it stopped with an
-- error; or it has more bytes; or memory ran out after a front of it.
abbrev pub ReadsFile : Result (Vec ℕ Global) ReadAllFault → (most : ℕ) → Option (List File) →
    (name : List ℕ) → Source → Source → Type 0
ReadsFile (Ok v) most files name s s' = ReadsWhole most files name v.items s s'
ReadsFile (Err Read) most files name s s' = StopsReading files name s s'
ReadsFile (Err TooLong) most files name s s' = ReadsTooLong most files name s s'
ReadsFile (Err Memory) most files name s s' = ReadsFront files name s s'
