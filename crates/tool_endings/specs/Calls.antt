-- What holds of each call of the tool: of its status, of what was asked for, and of what the host and
-- the sink reported before it and after it.
use Rattle.std.specs.Prelude.{◌≡◌, ℕ, Bool, List, Option, None, IfSome}
use Rattle.base_host.specs.Faults.{Rose, IsCalm}
use Rattle.base_host.specs.Files.{File}
use Rattle.tool_words.specs.Words.{Asked}
use Rattle.tool_endings.specs.Told.{HostTold, SinkTold, NoFault}
use Rattle.tool_endings.specs.Endings.{EndsAt}
use Rattle.tool_endings.specs.Statuses.{TellsNoFault, IsExactly, Comes, ComesExactly, OnTold, IsDone}
use Rattle.tool_endings.specs.Headline.{WritesNothing, DoesRight}
use Rattle.tool_endings.specs.Completeness.{CanDo, IsComplete, IsSureOf, IsUnsureOf}

-- ---- When each status comes

-- the status is n exactly where what is asked for comes to n
abbrev pub IsExactAt : (n s : ℕ) → Option Asked → HostTold → Type 0
IsExactAt n s a h = OnTold a h (λ a fs. IsExactly n s (Comes a fs n))

-- a model that is refused, a bad line of a trace or a script, code that is no program, code or flows
-- that are stuck, and a file that is none of Lustre or can't be one
pub record EachIsExact (s : ℕ) (a : Option Asked) (h : HostTold) : Type 0 where
  pub refused : IsExactAt 3 s a h
  pub bad_line : IsExactAt 4 s a h
  pub no_program : IsExactAt 8 s a h
  pub stuck : IsExactAt 9 s a h
  pub no_lustre : IsExactAt 11 s a h

-- statuses 5, 6 and 7 come only with an error of reading, writing or printing that was counted
pub record CountsErrors (s : ℕ) (h h' : HostTold) (b b' : SinkTold) : Type 0 where
  pub read : s ≡ 5 → Rose h.read_faults h'.read_faults
  pub write : s ≡ 6 → Rose h.write_faults h'.write_faults
  pub put : s ≡ 7 → Rose b.faults b'.faults

-- words that ask for nothing give status 2; except for errors and running out of memory, the status
-- is that to which what is asked for comes
pub record HasStatus (s : ℕ) (a : Option Asked) (h h' : HostTold) (b b' : SinkTold) : Type 0 where
  pub usage : IsExactly 2 s (a ≡ None)
  pub comes : OnTold a h (ComesExactly s)
  pub each : EachIsExact s a h
  pub errors : CountsErrors s h h' b b'

-- ---- What stays as it was

-- no count of errors has risen
pub record KeepsCounts (h h' : HostTold) (b b' : SinkTold) : Type 0 where
  pub host : NoFault h h'
  pub puts : b'.faults ≡ b.faults

-- Whatever the status, a command that only reads writes nothing, and nor does any where the model is
-- refused or has a delay that is too long for a file of Lustre. Where a count of errors rose, the
-- status is 5, 6 or 7, and not 10.
pub record KeepsOthers (s : ℕ) (a : Option Asked) (h h' : HostTold) (b b' : SinkTold) : Type 0 where
  pub unwritten : WritesNothing s a → h'.written ≡ h.written
  pub counts : TellsNoFault s → KeepsCounts h h' b b'

-- ---- The whole call

-- what is done with what was asked for is right; what was found, written and printed; the status; what
-- stays as it was; and what can be done is done, unless memory runs out, where no count of errors rises
pub record IsCall (s : ℕ) (a : Option Asked) (h h' : HostTold) (b b' : SinkTold) : Type 0 where
  pub right : DoesRight s a h h' b b'
  pub ended : EndsAt s a h h' b b'
  pub status : HasStatus s a h h' b b'
  pub others : KeepsOthers s a h h' b b'
  pub complete : IsComplete s a h h' b b'

-- By a host that is sure of the files that are read, what can be done is done, unless memory runs out,
-- whatever its count of reads that failed. An error of reading comes only from one that is not.
pub record IsSureCall {H : Type 0} (files : H → Option (List File)) (sure : H → List ℕ → Bool) (x : H)
    (s : ℕ) (a : Option Asked) (h h' : HostTold) (b b' : SinkTold) : Type 0 where
  pub done : OnTold a h (λ a fs. IsSureOf files sure x a → IsCalm h.write_faults h'.write_faults →
      IsCalm b.faults b'.faults → CanDo a fs → IsDone s)
  pub unsure : IfSome a (λ a. s ≡ 5 → IsUnsureOf files sure x a)
