-- Runs over a script's file, which is read in pieces.
use Rattle.std.proofs.Common.{◌≡◌, ◌≢◌, refl, sym, ◌∙◌, ap, subst, ℕ, List, [], ◌++◌, length, take, drop, append_assoc, arith}
use Rattle.std.specs.Prelude.{None, Result, Ok, Err, MatchResult}
use Rattle.std.specs.Io.KnownBytes.{IsAtEnd}
use Rattle.std.proofs.lemmas.List.{append-nil, take-append-drop}
use Rattle.base_host.specs.Files.{PutsFront}
use Rattle.base_host.specs.Reading.{Source, HasRead}
use Rattle.base_host.specs.Buffers.{ReadsOn}
use Rattle.base_host.proofs.lemmas.ReadLaws.{read_nothing, read_both}
use Rattle.tool_runner.specs.Runs.{Parts}
use Rattle.tool_stream.proofs.lemmas.Waiting.{all_put}
use Rattle.tool_stream.proofs.lemmas.FilePieces.{left_of, is_left, none_left}
use Rattle.tool_traces.specs.Pieces.{BeginsLine}
use Rattle.tool_driver.specs.Counts.{input_counts}
use Rattle.tool_driver.specs.Shapes.{inputs_of}
use Rattle.tool_scripts.specs.Scripts.{Script, whole_calls_of}
use Rattle.tool_scripts.specs.Pieces.{calls_after}
use Rattle.tool_scripts.proofs.lemmas.PieceLaws.{whole_calls_are}
use Rattle.tool_script_runner.specs.declared.outcome.ScriptFault.{ScriptFault}
use Rattle.tool_script_runner.specs.declared.outcome.ScriptFault.TheVariants.{Read, Out, Line as BadScript, Call as Refused, Memory}
use Rattle.tool_script_runner.specs.Answers.{Answered, calls_in}
use Rattle.tool_script_runner.specs.Texts.{answers_text}
use Rattle.tool_script_runner.specs.Standings.{Standing, standing, HasRun, script_for}
use Rattle.tool_script_runner.specs.Runs.{RanWhole, file_script, StoppedReading, RunsOver}
use Rattle.tool_script_runner.specs.Walks.{Runs, RunsThrough, RunsLines, RunsToEnd, RunsTo}
use Rattle.tool_script_runner.proofs.Walks.{EndsLast, none_through, both_through, stops_in, ends_in}

-- ---- Where nothing waits

-- the same place, with nothing that waits
abbrev pub clear : Standing → Standing
clear s = standing s.driver s.totals s.put

runs_clear : (xs : List Answered) (s s' : Standing) → s.waiting ≡ [] → s'.waiting ≡ [] → Runs xs s s' → HasRun xs (clear s) (clear s')
runs_clear xs s s' none none' runs = record {
  answered = record { answered = runs.answered.answered; totals = runs.answered.totals };
  put = all_put s.waiting s'.waiting (answers_text xs) s.put s'.put none none' runs.lines;
}

end_clear : (script : Script) (s s' : Standing) → s.waiting ≡ [] → s'.waiting ≡ [] → RunsToEnd script s s' →
    RanWhole script (clear s) (clear s')
end_clear script s s' none none' end =
    record { calls_only = end.calls_only; answers = end.answers; calls = end.calls; run = runs_clear end.answers s s' none none' end.runs }

-- what a run from the first line on is stopped by, over what was taken of a file and what is left
stop_clear : (fault : ScriptFault) (parts : Parts) (s s' : Standing) → s.waiting ≡ [] → (fault ≢ Out → s'.waiting ≡ []) →
    RunsTo fault 0 (file_script parts s.driver) s s' →
    StoppedReading fault parts (clear s) (clear s')
stop_clear Read parts s s' none none' stop = absurd stop
stop_clear Out parts s s' none none' stop = record {
  front = stop.front;
  before = stop.before;
  answered = record { answered = stop.answered.answered; totals = stop.answered.totals };
  last = stop.last;
  put = subst (λ w. PutsFront s.put s'.put (w ++ answers_text stop.front.answers)) none stop.put;
}
stop_clear (BadScript bad) parts s s' none none' stop = record {
  first_bad = stop.first_bad;
  answers = stop.answers;
  calls = stop.calls;
  run = runs_clear stop.answers s s' none (none' (λ e. cc)) stop.runs;
}
stop_clear (Refused refused) parts s s' none none' stop = record {
  front = stop.front;
  line = omega (arith, stop.line);
  before = stop.before;
  run = runs_clear stop.front.answers s (record s' { driver = stop.before }) none (none' (λ e. cc)) stop.runs;
  refuses = stop.refuses;
}
stop_clear Memory parts s s' none none' stop = absurd stop

-- how a run from the first line on ends, over what was taken of a file and what is left
abbrev Ends : Result (Unit {0}) ScriptFault → Parts → Standing → Standing → Type 0
Ends result parts s s' = MatchResult result (λ _. RanWhole (file_script parts s.driver) s s') (λ fault. StoppedReading fault parts s s')

ends_clear : (result : Result (Unit {0}) ScriptFault) (parts : Parts) (s s' : Standing) → s.waiting ≡ [] →
    (result ≢ Err Out → s'.waiting ≡ []) →
    EndsLast result 0 (file_script parts s.driver) s s' → Ends result parts (clear s) (clear s')
ends_clear (Ok value) parts s s' none none' ends = end_clear (file_script parts s.driver) s s' none (none' (λ e. cc)) ends
ends_clear (Err fault) parts s s' none none' ends =
    stop_clear fault parts s s' none (λ other. none' (λ e. let same : fault ≡ Out = cc in other same)) ends

-- a last line after whole lines, as a run over both
both_end : (result : Result (Unit {0}) ScriptFault) (head text counts : List ℕ) (all n n' : ℕ) (s s' s'' : Standing) →
    RunsThrough head counts all n n' s s' →
    EndsLast result n' (calls_after n' counts all text) s' s'' → EndsLast result n (calls_after n counts all (head ++ text)) s s''
both_end (Ok value) head text counts all n n' s s' s'' through ends = ends_in head text counts all n n' s s' s'' through ends
both_end (Err fault) head text counts all n n' s s' s'' through ends = stops_in fault head text counts all n n' s s' s'' through ends

-- ---- Pieces of a file

-- a run that has taken some of a file: whole lines from the first on, whose calls were answered, and these bytes
pub record Reads (counts : List ℕ) (all n : ℕ) (bytes : List ℕ) (rest rest' : Source) (s s' : Standing) : Type 0 where
  pub head : List ℕ
  pub took : HasRead (head ++ bytes) rest rest'
  pub through : RunsThrough head counts all 0 n s s'

pub reads_none : (counts : List ℕ) (all n : ℕ) (bytes : List ℕ) (rest : Source) (s : Standing) → n ≡ 0 → bytes ≡ [] →
    Reads counts all n bytes rest rest s s
reads_none counts all n bytes rest s start none = record {
  head = [];
  took = subst (λ b. HasRead b rest rest) (sym none) (read_nothing rest);
  through = subst (λ k. RunsThrough [] counts all 0 k s s) (sym start) (none_through counts all 0 s);
}

pub reads_on : (counts : List ℕ) (all n count : ℕ) (bytes bytes' : List ℕ) (rest rest' rest'' : Source) (s s' : Standing) →
    Reads counts all n bytes rest rest' s s' →
    ReadsOn count bytes bytes' rest' rest'' → Reads counts all n bytes' rest rest'' s s'
reads_on counts all n count bytes bytes' rest rest' rest'' s s' so_far more = record {
  head = so_far.head;
  took =
      subst (λ b. HasRead b rest rest'') (append_assoc so_far.head bytes more.piece ∙ ap (λ b. so_far.head ++ b) (sym more.bytes))
      (read_both (so_far.head ++ bytes) more.piece rest rest' rest'' so_far.took more.read);
  through = so_far.through;
}

pub lines_read : (counts : List ℕ) (all n n' done : ℕ) (bytes : List ℕ) (rest rest' : Source) (s s' s'' : Standing) →
    Reads counts all n bytes rest rest' s s' →
    RunsLines done bytes counts all n n' s' s'' → Reads counts all n' (drop done bytes) rest rest' s s''
lines_read counts all n n' done bytes rest rest' s s' s'' so_far lines = record {
  head = so_far.head ++ take done bytes;
  took =
      subst (λ b. HasRead b rest rest') (ap (λ b. so_far.head ++ b) (sym (take-append-drop done bytes))
      ∙ sym (append_assoc so_far.head (take done bytes) (drop done bytes))) so_far.took;
  through = both_through so_far.head (take done bytes) counts all 0 n n' s s' s'' so_far.through lines.through;
}

-- the script of a driver whose functions take so many inputs
script_is : (s : Standing) (counts text : List ℕ) → counts ≡ input_counts s.driver.shape →
    calls_after 0 counts (length (inputs_of s.driver.shape)) text ≡ script_for s.driver text
script_is s counts text are = ap (λ c. calls_after 0 c (length (inputs_of s.driver.shape)) text) are

-- the file can't be read on
pub read_stops : (counts : List ℕ) (n : ℕ) (bytes : List ℕ) (rest rest' : Source) (s s' : Standing) →
    counts ≡ input_counts s.driver.shape → s.waiting ≡ [] → s'.waiting ≡ [] →
    BeginsLine bytes → Reads counts (length (inputs_of s.driver.shape)) n bytes rest rest' s s' →
    RunsOver (Err Read) rest rest' (clear s) (clear s')
read_stops counts n bytes rest rest' s s' are none none' begins reads =
    let answers = reads.through.answers in
    let all = length (inputs_of s.driver.shape) in
    let whole : whole_calls_of (input_counts s.driver.shape) all (reads.head ++ bytes) ≡ record { calls = calls_in answers; bad = None } =
    ap (λ c. whole_calls_of c all (reads.head ++ bytes)) (sym are)
    ∙ whole_calls_are reads.head bytes counts all (calls_in answers) reads.through.writes begins in
    record {
      parts = record { taken = reads.head ++ bytes; left = left_of rest'.rest };
      took = reads.took;
      left = is_left rest'.rest;
      ends = record {
        calls_only = ap (λ (t : Script). t.bad) whole;
        answers = answers;
        calls = ap (λ (t : Script). t.calls) whole;
        run = runs_clear answers s s' none none' reads.through.runs;
      };
    }

-- a line of a piece ends the run
pub lines_stop : (result : Result (Unit {0}) ScriptFault) (fault : ScriptFault) (counts : List ℕ) (n : ℕ) (bytes : List ℕ)
    (rest rest' : Source) (s s' s'' : Standing) →
    result ≡ Err fault → counts ≡ input_counts s.driver.shape → s.waiting ≡ [] → (fault ≢ Out → s''.waiting ≡ []) →
    Reads counts (length (inputs_of s.driver.shape)) n bytes rest rest' s s' →
    ((behind : List ℕ) → RunsTo fault n (calls_after n counts (length (inputs_of s.driver.shape)) (bytes ++ behind)) s' s'') →
    RunsOver result rest rest' (clear s) (clear s'')
lines_stop result fault counts n bytes rest rest' s s' s'' is are none none' reads stop =
    let left = left_of rest'.rest in
    let parts : Parts = record { taken = reads.head ++ bytes; left = left } in
    let all = length (inputs_of s.driver.shape) in
    let here = stops_in fault reads.head (bytes ++ left) counts all 0 n s s' s'' reads.through (stop left) in
    let whole : calls_after 0 counts all (reads.head ++ (bytes ++ left)) ≡ file_script parts s.driver =
    ap (calls_after 0 counts all) (sym (append_assoc reads.head bytes left)) ∙ script_is s counts ((reads.head ++ bytes) ++ left) are in
    subst (λ (r : Result (Unit {0}) ScriptFault). RunsOver r rest rest' (clear s) (clear s'')) (sym is)
    (record {
      parts = parts;
      took = reads.took;
      left = is_left rest'.rest;
      ends = stop_clear fault parts s s'' none none' (subst (λ t. RunsTo fault 0 t s s'') whole here);
    })

-- the last line ends the run
pub file_ends : (result : Result (Unit {0}) ScriptFault) (counts : List ℕ) (n : ℕ) (bytes : List ℕ) (rest rest' : Source)
    (s s' s'' : Standing) →
    counts ≡ input_counts s.driver.shape → s.waiting ≡ [] → (result ≢ Err Out → s''.waiting ≡ []) → IsAtEnd rest'.rest →
    Reads counts (length (inputs_of s.driver.shape)) n bytes rest rest' s s' →
    EndsLast result n (calls_after n counts (length (inputs_of s.driver.shape)) bytes) s' s'' →
    RunsOver result rest rest' (clear s) (clear s'')
file_ends result counts n bytes rest rest' s s' s'' are none none' end reads last =
    let parts : Parts = record { taken = reads.head ++ bytes; left = left_of rest'.rest } in
    let all = length (inputs_of s.driver.shape) in
    let here = both_end result reads.head bytes counts all 0 n s s' s'' reads.through last in
    let whole : calls_after 0 counts all (reads.head ++ bytes) ≡ file_script parts s.driver =
    script_is s counts (reads.head ++ bytes) are
    ∙ ap (script_for s.driver) (sym (ap (λ l. (reads.head ++ bytes) ++ l) (none_left rest'.rest end) ∙ append-nil (reads.head ++ bytes))) in
    record {
      parts = parts;
      took = reads.took;
      left = is_left rest'.rest;
      ends = ends_clear result parts s s'' none none' (subst (λ t. EndsLast result 0 t s s'') whole here);
    }

-- nothing was read
pub nothing_read : (rest : Source) (s : Standing) → RunsOver (Err Memory) rest rest s s
nothing_read rest s = record {
  parts = record { taken = []; left = left_of rest.rest };
  took = read_nothing rest;
  left = is_left rest.rest;
  ends = (refl, refl);
}

pub never_read : (result : Result (Unit {0}) ScriptFault) (fault : ScriptFault) (n : ℕ) (script : Script) (s s' : Standing) →
    result ≡ Err fault → RunsTo fault n script s s' → result ≢ Err Read
never_read result Read n script s s' is stop = absurd stop
never_read result Out n script s s' is stop = λ e. cc
never_read result (BadScript bad) n script s s' is stop = λ e. cc
never_read result (Refused refused) n script s s' is stop = λ e. cc
never_read result Memory n script s s' is stop = absurd stop
