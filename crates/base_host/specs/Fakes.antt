-- What the fakes hold in memory.
use Rattle.std.specs.Prelude.{ℕ, zero, suc, ◌+◌, ◌-◌, ◌^◌, min, List, [], ◌∷◌, map, String, Vec, string_bytes}
use Rattle.std.specs.declared.alloc.Global.{Global}
use Rattle.base_host.specs.Files.{File}

-- a host in memory
pub record HostState : Type 0 where
  pub files : List File
  pub rest : List ℕ
  pub written : List File
  -- the numbers of the calls that are to fail, and the number of the next call
  pub fails : List ℕ
  pub calls : ℕ
  -- how many bytes a call moves at most
  pub piece : ℕ
  -- how many bytes reads have given
  pub given : ℕ
  pub read_faults : ℕ
  pub write_faults : ℕ
  -- how many calls failed because memory ran out
  pub refused : ℕ

-- a sink in memory
pub record SinkState : Type 0 where
  pub bytes : List ℕ
  pub fails : List ℕ
  pub calls : ℕ
  pub piece : ℕ
  pub faults : ℕ
  pub refused : ℕ

-- a count goes up, and stays the same at the greatest value of a u64
abbrev pub next_count : ℕ → ℕ
next_count n = min (n + 1) (2 ^ 64 - 1)

-- a count grows by so many, and stays the same at that value
abbrev pub count_on : ℕ → ℕ → ℕ
count_on n more = min (n + more) (2 ^ 64 - 1)

-- a pair of a text and bytes as a file
abbrev pub file_of : String Global × Vec ℕ Global → File
file_of f = record { name = string_bytes f.0; bytes = f.1.items }

-- the same of each
abbrev pub files_of : List (String Global × Vec ℕ Global) → List File
files_of fs = map file_of fs

-- the bytes of file i, and none past the last
abbrev pub bytes_at : List File → ℕ → List ℕ
bytes_at [] i = []
bytes_at (f ∷ fs) zero = f.bytes
bytes_at (f ∷ fs) (suc i) = bytes_at fs i

-- a host that writes without fail, and reads every file that it has
pub record SureHostState : Type 0 where
  pub files : List File
  pub rest : List ℕ
  -- how many bytes reads have given
  pub given : ℕ
  pub read_faults : ℕ
  -- how many bytes were written
  pub taken : ℕ
