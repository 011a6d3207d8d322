-- Bytes that wait between a file and its reader, or between a writer and what the bytes are written to.
use Rattle.std.specs.Prelude.{◌≡◌, ℕ, List, ◌++◌, length, Option}
use Rattle.std.specs.Io.KnownBytes.{append_known}
use Rattle.base_host.specs.Reading.{Source, HasRead}

-- a front of this text was written after what was there, and the rest of it is held
pub record PutsAllBut (held : List ℕ) (text : List ℕ) (old new : Option (List ℕ)) : Type 0 where
  pub gone : List ℕ
  pub parts : text ≡ gone ++ held
  pub put : new ≡ append_known old gone

-- so many bytes were read after those that were there
pub record ReadsOn (count : ℕ) (old new : List ℕ) (s s' : Source) : Type 0 where
  pub piece : List ℕ
  pub size : length piece ≡ count
  pub bytes : new ≡ old ++ piece
  pub read : HasRead piece s s'

-- bytes that were read and are not yet taken, with room for so many after them
pub record ReadAhead : Type 0 where
  pub bytes : List ℕ
  pub room : ℕ
