-- What a host and a sink report at a moment.
use Rattle.std.specs.Prelude.{◌≡◌, ℕ, Bool, List, Option}
use Rattle.base_host.specs.Files.{File, add_file}
use Rattle.base_host.specs.Reading.{Source, source, ReadsFront}

-- what a host reports
pub record HostTold : Type 0 where
  -- the files that can be read, and what is unread of the one that is being read
  pub files : Option (List File)
  pub rest : Option (List ℕ)
  -- how many bytes reads have given
  pub given : ℕ
  -- the files that were written
  pub written : Option (List File)
  -- which files it is sure to read without an error
  pub sure : List ℕ → Bool
  pub read_faults : ℕ
  pub write_faults : ℕ

-- what a sink reports
pub record SinkTold : Type 0 where
  pub bytes : Option (List ℕ)
  pub faults : ℕ

-- by the meanings of a host, and of a sink
abbrev pub told : {H : Type 0} (files : H → Option (List File)) (rest : H → Option (List ℕ))
    (given : H → ℕ) (written : H → Option (List File)) (sure : H → List ℕ → Bool) (read_faults write_faults : H →
    ℕ) → H → HostTold
told files rest given written sure read_faults write_faults h =
    record {
      files = files h;
      rest = rest h;
      given = given h;
      written = written h;
      sure = sure h;
      read_faults = read_faults h;
      write_faults = write_faults h;
    }

abbrev pub sink_told : {S : Type 0} (bytes : S → Option (List ℕ)) (faults : S → ℕ) → S → SinkTold
sink_told bytes faults s = record { bytes = bytes s; faults = faults s }

-- what it reports of the file that is being read, and of all reads
abbrev pub source_of : HostTold → Source
source_of h = source h.rest h.given

-- of the file of this name a front was read, and no other file: what is left is the rest of it
abbrev pub ReadsAlone : (name : List ℕ) → HostTold → HostTold → Type 0
ReadsAlone name h h' = ReadsFront h.files name (source_of h) (source_of h')

-- no file was opened to be read
abbrev pub ReadsNone : HostTold → HostTold → Type 0
ReadsNone h h' = source_of h' ≡ source_of h

-- no count of errors of the host has risen
pub record NoFault (h h' : HostTold) : Type 0 where
  pub read : h'.read_faults ≡ h.read_faults
  pub write : h'.write_faults ≡ h.write_faults

-- what a host reports with one more file written
abbrev pub with_file : HostTold → (name bytes : List ℕ) → HostTold
with_file h name bytes = record h { written = add_file h.written name bytes }
