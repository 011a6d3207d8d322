-- What holds of each call of the tool that ended in some way.
use Rattle.std.specs.Prelude.{◌≡◌, ◌≢◌, ℕ, Bool, List, Option, Some, None, is_some}
use Rattle.base_host.specs.Faults.{IsCalm}
use Rattle.base_host.specs.Fakes.{SureHostState}
use Rattle.base_host.specs.Files.{File, lookup}
use Rattle.tool_words.specs.Words.{Asked}
use Rattle.tool_endings.specs.declared.ending.Ending.{Ending}
use Rattle.tool_endings.specs.declared.ending.Ending.TheVariants.{ReadFault}
use Rattle.tool_endings.specs.Told.{HostTold, SinkTold}
use Rattle.tool_endings.specs.Endings.{EndsAt, IsSaidOf, Puts}
use Rattle.tool_endings.specs.Statuses.{TellsNoFault, IsExactly, Comes, ComesExactly, OnTold, IsDone}
use Rattle.tool_endings.specs.Headline.{WritesNothing, DoesRight}
use Rattle.tool_endings.specs.Completeness.{CanDo, IsComplete, IsSureOf, LacksOne}
use Rattle.tool_endings.specs.Calls.{EachIsExact, CountsErrors, KeepsCounts}

-- so it is with the status of each call, what was asked for, and what the host and the sink reported
-- before it and after it
abbrev pub OnEach :
    (ℕ → Option Asked → HostTold → HostTold → SinkTold → SinkTold → Type 0) → Type 0
OnEach Holds =
    (status : ℕ) (asked : Option Asked) (before after : HostTold) (put_before put_after : SinkTold) →
    EndsAt status asked before after put_before put_after →
    Holds status asked before after put_before put_after

-- what is done is right
abbrev pub DoRight : Type 0
DoRight = OnEach DoesRight

-- nothing is written by a command that only reads, of a model that is refused, or of one with a delay
-- that is too long for a file of Lustre
abbrev pub NothingIsWritten : Type 0
NothingIsWritten = OnEach (λ s a h h' b b'. WritesNothing s a → h'.written ≡ h.written)

-- ---- When each status comes

-- status 2 comes of words that ask for nothing
abbrev pub UsageIsExact : Type 0
UsageIsExact = OnEach (λ s a h h' b b'. IsExactly 2 s (a ≡ None))

-- the status is that to which what is asked for comes
abbrev pub StatusesAreExact : Type 0
StatusesAreExact = OnEach (λ s a h h' b b'. OnTold a h (ComesExactly s))

-- and each that no error gives comes exactly where what is asked for comes to it
abbrev pub EachComesExactly : Type 0
EachComesExactly = OnEach (λ s a h h' b b'. EachIsExact s a h)

-- status 5 is given only where the ending that was found is an error of reading
abbrev pub FiveIsReadFault : Type 0
FiveIsReadFault = (found said : Ending) (s : ℕ) (b b' : SinkTold) → IsSaidOf said found →
    Puts said s b b' → s ≡ 5 → found ≡ ReadFault

-- the host is sure of a file just where it is among these
abbrev pub SureOfThere : HostTold → List File → Type 0
SureOfThere h fs = (name : List ℕ) → h.sure name ≡ is_some (lookup name fs)

-- if one of the files that are read isn't there, it is needed: what is asked for comes to no status
abbrev pub IsNeeded : Asked → List File → Type 0
IsNeeded a fs = LacksOne a fs → (n : ℕ) → Comes a fs n → ⊥

-- over such a host, status 5 is given only where that file is needed
abbrev pub FiveIsNeeded : Type 0
FiveIsNeeded = OnEach (λ s a h h' b b'. OnTold a h (λ a fs. s ≡ 5 → SureOfThere h fs →
    IsNeeded a fs))

-- ---- Counts of errors

-- a status that reports an error comes with one that was counted
abbrev pub FaultsAreCounted : Type 0
FaultsAreCounted = OnEach (λ s a h h' b b'. CountsErrors s h h' b b')

-- and with one that reports none no count rose
abbrev pub FaultlessIsCalm : Type 0
FaultlessIsCalm = OnEach (λ s a h h' b b'. TellsNoFault s → KeepsCounts h h' b b')

-- ---- What can be done

-- it is done, unless memory runs out, where no count rises
abbrev pub AreComplete : Type 0
AreComplete = OnEach IsComplete

-- the same where only that of reading may rise, and the status reports no error of reading
abbrev pub SureAreDone : Type 0
SureAreDone = OnEach (λ s a h h' b b'. OnTold a h (λ a fs. s ≢ 5 →
    IsCalm h.write_faults h'.write_faults → IsCalm b.faults b'.faults → CanDo a fs → IsDone s))

-- the files of a host in memory that doesn't fail, and those of which it is sure
abbrev pub told_files : SureHostState → Option (List File)
told_files h = Some h.files

abbrev pub has_file : SureHostState → List ℕ → Bool
has_file h name = is_some (lookup name h.files)

-- such a host is sure of the files that are read where what is asked for can be done
abbrev pub SureHostsAreSure : Type 0
SureHostsAreSure = (h : SureHostState) (a : Asked) → CanDo a h.files →
    IsSureOf told_files has_file h a
