-- What a walk over lines comes to. What a line does is said by `steps` and `stops`, and its output
-- by `said`.
use Rattle.std.specs.Prelude.{◌≡◌, ◌⊎◌, ℕ, ◌≤◌, List, [], ◌∷◌, ◌++◌, length, take, drop, Option, Result, MatchResult}
use Rattle.std.specs.Str.Lines.{lines}
use Rattle.base_host.specs.Files.{PutsFront}
use Rattle.base_host.specs.Buffers.{PutsAllBut}
use Rattle.tool_traces.specs.Lines.{whole_lines}
use Rattle.tool_traces.specs.Pieces.{BeginsLine}
use Rattle.tool_stream.specs.declared.fault.StreamFault.{StreamFault}
use Rattle.tool_stream.specs.declared.fault.StreamFault.TheVariants as fault

-- where a walk is: its state, what was printed, where the sink reports it, and the text that waits
-- to be printed
pub record Place (A : Type 0) : Type 0 where
  pub at : A
  pub put : Option (List ℕ)
  pub waiting : List ℕ

abbrev pub place : {A : Type 0} → A → Option (List ℕ) → List ℕ → Place A
place at put waiting = record { at = at; put = put; waiting = waiting }

-- this text is printed, or waits after what waited
abbrev pub Takes : {A : Type 0} → List ℕ → Place A → Place A → Type 0
Takes text s s' = PutsAllBut s'.waiting (s.waiting ++ text) s.put s'.put

-- a front was printed of what waited and this text
abbrev pub Cuts : {A : Type 0} → List ℕ → Place A → Place A → Type 0
Cuts text s s' = PutsFront s.put s'.put (s.waiting ++ text)

-- ---- Lines one after another

-- these lines were walked over, and gave this text
abbrev pub Walked : {A : Type 0} (steps : A → List ℕ → A → Type 0) (said : A → List ℕ) →
    List (List ℕ) → (text : List ℕ) → A → A → Type 0
Walked steps said [] text a a' = (text ≡ []) × (a' ≡ a)
Walked {A} steps said (line ∷ lines) text a a' =
    (next : A) × (more : List ℕ) × steps a line next × (text ≡ said next ++ more)
    × Walked steps said lines more next a'

-- these lines were walked over, and their text is printed or waits
pub record WalksAll {A : Type 0} (steps : A → List ℕ → A → Type 0) (said : A → List ℕ)
    (lines : List (List ℕ)) (s s' : Place A) : Type 0 where
  pub text : List ℕ
  pub walked : Walked steps said lines text s.at s'.at
  pub takes : Takes text s s'

-- some first lines were walked over
pub record Front {A : Type 0} (steps : A → List ℕ → A → Type 0) (said : A → List ℕ)
    (lines : List (List ℕ)) (a : A) : Type 0 where
  pub before : List (List ℕ)
  pub behind : List (List ℕ)
  pub parts : lines ≡ before ++ behind
  pub text : List ℕ
  pub last : A
  pub walked : Walked steps said before text a last

-- the first of these lines ends a walk
pub record StopsFirst {A E : Type 0} (stops : A → List ℕ → E → A → Type 0) (stop : E)
    (lines : List (List ℕ)) (a a' : A) : Type 0 where
  pub line : List ℕ
  pub behind : List (List ℕ)
  pub parts : lines ≡ line ∷ behind
  pub ends : stops a line stop a'

-- one of these lines ends the walk, and the text of those before it is printed or waits
pub record StopsAt {A E : Type 0} (steps : A → List ℕ → A → Type 0) (said : A → List ℕ)
    (stops : A → List ℕ → E → A → Type 0) (stop : E) (lines : List (List ℕ))
    (s s' : Place A) : Type 0 where
  pub front : Front steps said lines s.at
  pub first : StopsFirst stops stop front.behind front.last s'.at
  pub takes : Takes front.text s s'

-- some first of these lines were walked over, the one after them may end the walk, and a front was
-- printed of their text
pub record CutAfter {A E : Type 0} (steps : A → List ℕ → A → Type 0) (said : A → List ℕ)
    (stops : A → List ℕ → E → A → Type 0) (lines : List (List ℕ)) (s s' : Place A) : Type 0 where
  pub front : Front steps said lines s.at
  pub last : (s'.at ≡ front.last)
      ⊎ ((stop : E) × StopsFirst stops stop front.behind front.last s'.at)
  pub cuts : Cuts front.text s s'

-- what a walk over these lines is stopped by
abbrev pub StopsOver : {A E : Type 0} (steps : A → List ℕ → A → Type 0) (said : A → List ℕ)
    (stops : A → List ℕ → E → A → Type 0) → StreamFault E → (lines : List (List ℕ)) →
    Place A → Place A → Type 0
StopsOver steps said stops fault.Read lines s s' = ⊥
StopsOver steps said stops fault.Put lines s s' = CutAfter steps said stops lines s s'
StopsOver steps said stops (fault.Line stop) lines s s' = StopsAt steps said stops stop lines s s'

-- what a walk over these lines comes to, by its result
abbrev pub WalksOver : {T A E : Type 0} (steps : A → List ℕ → A → Type 0) (said : A → List ℕ)
    (stops : A → List ℕ → E → A → Type 0) → Result T (StreamFault E) → (lines : List (List ℕ)) →
    Place A → Place A → Type 0
WalksOver steps said stops result lines s s' =
    MatchResult result (λ _. WalksAll steps said lines s s')
    (λ fault. StopsOver steps said stops fault lines s s')

-- what a walk over one line comes to, by its result: it is stopped there whatever follows
abbrev pub WalksLine : {A E : Type 0} (steps : A → List ℕ → A → Type 0) (said : A → List ℕ)
    (stops : A → List ℕ → E → A → Type 0) → Result (Unit {0}) (StreamFault E) → (line : List ℕ) →
    Place A → Place A → Type 0
WalksLine steps said stops result line s s' =
    MatchResult result (λ _. WalksAll steps said (line ∷ []) s s')
    (λ fault. (behind : List (List ℕ)) → StopsOver steps said stops fault (line ∷ behind) s s')

-- ---- The whole lines of a text

-- the text is these whole lines, whatever follows
pub record IsWhole (text : List ℕ) (whole : List (List ℕ)) : Type 0 where
  pub all : (behind : List ℕ) → lines (text ++ behind) ≡ whole ++ lines behind
  pub ended : (behind : List ℕ) → whole_lines (text ++ behind) ≡ whole ++ whole_lines behind

-- so many bytes of a text are whole lines, which were walked over
pub record WalksUpTo {A : Type 0} (steps : A → List ℕ → A → Type 0) (said : A → List ℕ)
    (done : ℕ) (text : List ℕ) (s s' : Place A) : Type 0 where
  pub within : done ≤ length text
  pub whole : List (List ℕ)
  pub is_whole : IsWhole (take done text) whole
  pub walks : WalksAll steps said whole s s'

-- so many bytes of a text are its whole lines, which were walked over
pub record WalksWhole {A : Type 0} (steps : A → List ℕ → A → Type 0) (said : A → List ℕ)
    (done : ℕ) (text : List ℕ) (s s' : Place A) : Type 0 where
  pub up_to : WalksUpTo steps said done text s s'
  pub rest : BeginsLine (drop done text)

-- what a walk over the whole lines of a text comes to, by its result: it is stopped there whatever
-- follows
abbrev pub WalksText : {A E : Type 0} (steps : A → List ℕ → A → Type 0) (said : A → List ℕ)
    (stops : A → List ℕ → E → A → Type 0) → Result ℕ (StreamFault E) → (text : List ℕ) →
    Place A → Place A → Type 0
WalksText steps said stops result text s s' =
    MatchResult result (λ done. WalksWhole steps said done text s s')
    (λ fault. (behind : List ℕ) → StopsOver steps said stops fault (lines (text ++ behind)) s s')
