-- Two files of a host, one read after the other.
use Rattle.std.proofs.Common.{◌≡◌, ℕ, ◌+◌, ◌⊎◌, inl, inr, List, [], length, subst, ◌∙◌, arith}
use Rattle.std.specs.Prelude.{Option, Some, None, IsSomeAnd}
use Rattle.std.specs.Io.KnownBytes.{prepend_known}
use Rattle.base_fixed_point.specs.declared.types.FixType.{FixType}
use Rattle.base_host.specs.Files.{File, OnFile, lookup}
use Rattle.base_host.specs.Reading.{RoseBy}
use Rattle.c_syntax.specs.Tree.{ProgramTree}
use Rattle.tool_endings.specs.Told.{HostTold, SinkTold}
use Rattle.tool_endings.specs.Runs.{RunsTaken}
use Rattle.tool_endings.specs.EndingsOfModels.{OnNamed, OnBytes, OpensNothing, LeavesHost}
use Rattle.tool_endings.specs.EndingsOfRuns.{TakesFile}

-- what is known of a file where nothing is left of an earlier one is known of it from the first
untold : (files : Option (List File)) (rest later : Option (List ℕ)) (first name : List ℕ) (P : List ℕ → Type 0) →
    OnFile files rest first (λ _. later ≡ Some []) → OnFile files later name P → OnFile files rest name P
untold None rest later first name P told h = tt
untold (Some fs) None later first name P told h = tt
untold (Some fs) (Some xs) later first name P told h = by (lookup first fs) told
  where
    by : (o : Option (List ℕ)) → IsSomeAnd o (λ _. later ≡ Some []) → IsSomeAnd (lookup name fs) P
    by None absent = absurd absent
    by (Some bytes) empty = subst (λ (r : Option (List ℕ)). OnFile (Some fs) r name P) empty h

-- the host h1 has the files of h, of which the first was read to its end
pub retold : (first name : List ℕ) (h h1 : HostTold) (P : List ℕ → Type 0) → OnNamed h first (λ _. h1.rest ≡ Some []) →
    h1.files ≡ h.files → OnNamed h1 name P → OnNamed h name P
retold first name h h1 P told files known =
    untold h.files h.rest h1.rest first name P told (subst (λ (fs : Option (List File)). OnFile fs h1.rest name P) files known)

pub on-bytes : (first name : List ℕ) (h h1 : HostTold) (P Q : List ℕ → Type 0) →
    OnNamed h first (λ _. h1.rest ≡ Some []) → h1.files ≡ h.files → ((bytes : List ℕ) → P bytes → Q bytes) →
    OnBytes h1 name P → OnBytes h name Q
on-bytes first name h h1 P Q told files q known = record {
  bytes = known.bytes;
  file = retold first name h h1 (λ x. x ≡ known.bytes) told files known.file;
  holds = q known.bytes known.holds;
}

-- so many bytes were given, and then more
pub rose_behind : (n more before between now : ℕ) → RoseBy n before between → RoseBy (0 + more) between now →
    RoseBy (n + more) before now
rose_behind n more before between now rose again = omega (arith, rose, again)

-- the second file couldn't be opened
pub unopened_behind : (n : ℕ) (h h1 h' : HostTold) (b b' : SinkTold) → RoseBy n h.given h1.given → OpensNothing 0 h1 h' b b' →
    OpensNothing n h h' b b'
unopened_behind n h h1 h' b b' rose unopened = record {
  end = unopened.end;
  given = let again = unopened.given in omega (arith, rose, again);
  silent = unopened.silent;
}

-- what was printed of a trace that was lost after so many bytes of the first file
pub lost : (first name : List ℕ) (n : ℕ) (h h1 h' : HostTold) (b b' : SinkTold) (p q : ProgramTree) (types others : List FixType) →
    OnNamed h first (λ _. h1.rest ≡ Some []) → h1.files ≡ h.files → RoseBy n h.given h1.given →
    ((taken : List ℕ) → RunsTaken p types taken b b' → RunsTaken q others taken b b') →
    OpensNothing 0 h1 h' b b' ⊎ TakesFile 0 p types name h1 h' b b' → OpensNothing n h h' b b' ⊎ TakesFile n q others name h h' b b'
lost first name n h h1 h' b b' p q types others told files rose moved (inl unopened) = inl (unopened_behind n h h1 h' b b' rose unopened)
lost first name n h h1 h' b b' p q types others told files rose moved (inr takes) = inr (record {
  taken = takes.taken;
  file = retold first name h h1 (λ x. Some x ≡ prepend_known takes.taken h'.rest) told files takes.file;
  given = rose_behind n (length takes.taken) h.given h1.given h'.given rose takes.given;
  lines = moved takes.taken takes.lines;
})

-- a host that was left as it was, twice
pub left-twice : (h h1 h' : HostTold) → LeavesHost h h1 → LeavesHost h1 h' → LeavesHost h h'
left-twice h h1 h' a b = record {
  written = b.written ∙ a.written;
  no_fault = record { read = b.no_fault.read ∙ a.no_fault.read; write = b.no_fault.write ∙ a.no_fault.write };
}
