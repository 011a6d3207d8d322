-- What a walk over the lines of a file comes to.
use Rattle.std.specs.Prelude.{◌≡◌, ℕ, List, ◌++◌, IfSome, Result, MatchResult}
use Rattle.std.specs.Str.Lines.{lines}
use Rattle.base_host.specs.Reading.{Source, HasRead}
use Rattle.tool_traces.specs.Lines.{whole_lines}
use Rattle.tool_stream.specs.declared.fault.StreamFault.{StreamFault}
use Rattle.tool_stream.specs.declared.fault.StreamFault.TheVariants as fault
use Rattle.tool_stream.specs.Walks.{Place, WalksAll, StopsOver}

-- a file in two parts: what was taken of it, and what is left
pub record Parts : Type 0 where
  pub taken : List ℕ
  pub left : List ℕ

-- the lines of a file
abbrev pub file_lines : Parts → List (List ℕ)
file_lines parts = lines (parts.taken ++ parts.left)

-- What a walk over a file is stopped by. Where it can't be read on, each whole line among what was
-- taken was walked over.
abbrev pub StopsReading : {A E : Type 0} (steps : A → List ℕ → A → Type 0) (said : A → List ℕ)
    (stops : A → List ℕ → E → A → Type 0) → StreamFault E → Parts → Place A → Place A → Type 0
StopsReading steps said stops fault.Read parts s s' =
    WalksAll steps said (whole_lines parts.taken) s s'
StopsReading steps said stops fault.Put parts s s' =
    StopsOver steps said stops fault.Put (file_lines parts) s s'
StopsReading steps said stops (fault.Line stop) parts s s' =
    StopsOver steps said stops (fault.Line stop) (file_lines parts) s s'

-- what was taken of a file in the call, what is left of it where that is reported, and what the walk
-- over its lines comes to
pub record WalksFile {A E : Type 0} (steps : A → List ℕ → A → Type 0) (said : A → List ℕ)
    (stops : A → List ℕ → E → A → Type 0) (result : Result (Unit {0}) (StreamFault E))
    (from to : Source) (s s' : Place A) : Type 0 where
  pub parts : Parts
  pub took : HasRead parts.taken from to
  pub left : IfSome to.rest (λ told. told ≡ parts.left)
  pub ends : MatchResult result (λ _. WalksAll steps said (file_lines parts) s s')
      (λ fault. StopsReading steps said stops fault parts s s')
