-- What reads of files come to: what is left of the open file, and how many bytes were given.
use Rattle.std.specs.Prelude.{◌≡◌, ◌⊎◌, ℕ, ◌+◌, ◌-◌, ◌^◌, ◌<◌, ◌≤◌, min, List, [], length, Option, Some, option_map}
use Rattle.std.specs.Io.KnownBytes.{prepend_known, IsAtEnd}
use Rattle.base_host.specs.Files.{File, OnFile}

-- the count rose by n, up to the greatest value of a u64
abbrev pub RoseBy : ℕ → ℕ → ℕ → Type 0
RoseBy n before now = min now (2 ^ 64 - 1) ≡ min (before + n) (2 ^ 64 - 1)

-- what is left of the open file, where that is known, and how many bytes reads have given so far
pub record Source : Type 0 where
  pub rest : Option (List ℕ)
  pub given : ℕ

abbrev pub source : Option (List ℕ) → ℕ → Source
source rest given = record { rest = rest; given = given }

-- these bytes of the open file were read, and nothing else
pub record HasRead (bytes : List ℕ) (s s' : Source) : Type 0 where
  pub front : s.rest ≡ prepend_known bytes s'.rest
  pub count : RoseBy (length bytes) s.given s'.given

-- of the file of this name a front was read, and nothing else: what is left is the rest of it
pub record ReadsFront (files : Option (List File)) (name : List ℕ) (s s' : Source) : Type 0 where
  pub taken : List ℕ
  pub file : OnFile files s.rest name (λ bytes. Some bytes ≡ prepend_known taken s'.rest)
  pub count : RoseBy (length taken) s.given s'.given

-- of the file of this name all bytes were read, and no more than so many: they are these, and nothing
-- is left
pub record ReadsWhole (most : ℕ) (files : Option (List File)) (name bytes : List ℕ)
    (s s' : Source) : Type 0 where
  pub file : OnFile files s.rest name (λ told. Some told ≡ prepend_known bytes s'.rest)
  pub end : IsAtEnd s'.rest
  pub count : RoseBy (length bytes) s.given s'.given
  pub fits : length bytes ≤ most

-- the file of this name has more bytes than so many, and a front of it was read
pub record ReadsTooLong (most : ℕ) (files : Option (List File)) (name : List ℕ)
    (s s' : Source) : Type 0 where
  pub long : OnFile files s.rest name (λ told. most < length told)
  pub front : ReadsFront files name s s'

-- no file was opened: nothing was read, and nothing is left
pub record OpensNone (s s' : Source) : Type 0 where
  pub rest : s'.rest ≡ option_map (λ _. []) s.rest
  pub given : s'.given ≡ s.given

-- a file of this name couldn't be opened, or not read on after a front of it
abbrev pub StopsReading : Option (List File) → List ℕ → Source → Source → Type 0
StopsReading files name s s' = OpensNone s s' ⊎ ReadsFront files name s s'

-- a host is only read from: its files, those that were written and its count of errors of writing stay
-- as they were
pub record OnlyReads {H : Type 0} (told kept : H → Option (List File)) (errors : H → ℕ)
    (old new : H) : Type 0 where
  pub files : told new ≡ told old
  pub written : kept new ≡ kept old
  pub write_faults : errors new ≡ errors old
