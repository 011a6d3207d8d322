use Rattle.std.proofs.Common.{◌≡◌, [], ◌++◌, ◌∙◌, refl, ap, sym, subst, length}
use Rattle.std.specs.Prelude.{Err}
use Rattle.std.proofs.lemmas.Result.{err_from_is_err_and}
use Rattle.base_host.specs.Reading.{source}
use Rattle.tool_stream.proofs.lemmas.FilePieces.{begins_none}
use Rattle.tool_traces.specs.Pieces.{BeginsLine}
use Rattle.tool_driver.specs.Shapes.{Shape, inputs_of}
use Rattle.tool_scripts.specs.Pieces.{calls_after}
use Rattle.tool_script_runner.specs.declared.outcome.ScriptFault.TheVariants.{Read, Out}
use Rattle.tool_script_runner.specs.Runs.{RunsOver}
use Rattle.tool_script_runner.specs.Standings.{standing}
use Rattle.tool_script_runner.specs.Walks.{inside, RunsLines, RunsTo}
use Rattle.tool_script_runner.proofs.Walks.{EndsLast}
use Rattle.tool_script_runner.proofs.Files.{Reads, reads_none, reads_on, lines_read, read_stops, lines_stop, file_ends, never_read}
use Rattle.tool_script_runner.proofs.script_file.run_pieces.Goals as goal

pub loop-count-init : goal.loop-count-init
loop-count-init g c = record {
  reads =
      reads_none c.args.counts.now (length (inputs_of c.args.driver.now.shape)) c.args.run.now.done c.args.read.now.bytes _
      (inside c.args.driver.now c.args.run.now (g.S.Sink.bytes c.args.sink.now))
      c.requires.start c.requires.unread;
  begins = begins_none c.args.read.now.bytes c.requires.unread;
  room = c.requires.room;
  empty = c.requires.empty;
  shape = refl;
  sure = λ sure. sure;
  read_calm = refl;
  put_calm = refl;
  files = refl;
  written = refl;
  write_faults = refl;
}

pub returns-in_default-clause-ran : goal.returns-in_default-clause-ran
returns-in_default-clause-ran g c =
    let s = inside c.args.driver.now c.args.run.now (g.S.Sink.bytes c.args.sink.now) in
    let s' = inside c.loop-count.driver c.loop-count.run (g.S.Sink.bytes c.loop-count.sink) in
    subst (λ r. RunsOver (Err Read) (source (g.H.Host.rest c.args.host.now) (g.H.Host.given c.args.host.now)) r
    (standing c.args.driver.now c.args.run.now.totals (g.S.Sink.bytes c.args.sink.now))
    (standing c.loop-count.driver c.loop-count.run.totals (g.S.Sink.bytes c.loop-count.sink)))
    (sym c.in_default.ensures.unread)
    (read_stops c.args.counts.now c.loop-count.run.done c.loop-count.read.bytes (source (g.H.Host.rest c.args.host.now) (g.H.Host.given c.args.host.now))
    (source (g.H.Host.rest c.loop-count.host) (g.H.Host.given c.loop-count.host)) s s' c.requires.counts.are c.requires.empty c.loop-count.invariant.empty
    c.loop-count.invariant.begins c.loop-count.invariant.reads)

pub returns-then-count-eq0-clause-ran : goal.returns-then-count-eq0-clause-ran
returns-then-count-eq0-clause-ran g c =
    let all = length (inputs_of c.args.driver.now.shape) in
    let s = inside c.args.driver.now c.args.run.now (g.S.Sink.bytes c.args.sink.now) in
    let s' = inside c.loop-count.driver c.loop-count.run (g.S.Sink.bytes c.loop-count.sink) in
    let s'' = inside c.run_last.new.driver c.run_last.new.run (g.S.Sink.bytes c.run_last.new.sink) in
    let reads =
    reads_on c.args.counts.now all c.loop-count.run.done c.in-Ok.count c.loop-count.read.bytes c.fill.new.self.bytes _ _ _ s s'
    c.loop-count.invariant.reads c.in-Ok.ensures.more in
    file_ends c.run_last.result c.args.counts.now c.loop-count.run.done c.fill.new.self.bytes (source (g.H.Host.rest c.args.host.now) (g.H.Host.given c.args.host.now))
    (source (g.H.Host.rest c.fill.new.host) (g.H.Host.given c.fill.new.host)) s s' s'' c.requires.counts.are c.requires.empty
    c.run_last.ensures.empty (c.in-Ok.ensures.end c.if-count-eq0.true) reads
    (subst (λ (shape : Shape). EndsLast c.run_last.result c.loop-count.run.done
    (calls_after c.loop-count.run.done c.args.counts.now (length (inputs_of shape)) c.fill.new.self.bytes) s' s'')
    c.loop-count.invariant.shape
    (subst (λ t. EndsLast c.run_last.result c.loop-count.run.done
    (calls_after c.loop-count.run.done c.args.counts.now (length (inputs_of c.loop-count.driver.shape)) t) s' s'')
    c.bytes.ensures c.run_last.ensures.ran))

pub returns-in_err-done-clause-ran : goal.returns-in_err-done-clause-ran
returns-in_err-done-clause-ran g c =
    let p = err_from_is_err_and c.from_residual.result c.from_residual.ensures.1 in
    let fault = c.in_err-done.field-0.0 in
    let all = length (inputs_of c.args.driver.now.shape) in
    let s = inside c.args.driver.now c.args.run.now (g.S.Sink.bytes c.args.sink.now) in
    let s' = inside c.loop-count.driver c.loop-count.run (g.S.Sink.bytes c.loop-count.sink) in
    let s'' = inside c.run_lines.new.driver c.run_lines.new.run (g.S.Sink.bytes c.run_lines.new.sink) in
    let reads =
    reads_on c.args.counts.now all c.loop-count.run.done c.in-Ok.count c.loop-count.read.bytes c.fill.new.self.bytes _ _ _ s s'
    c.loop-count.invariant.reads c.in-Ok.ensures.more in
    lines_stop c.from_residual.result fault c.args.counts.now c.loop-count.run.done c.fill.new.self.bytes (source (g.H.Host.rest c.args.host.now) (g.H.Host.given c.args.host.now))
    (source (g.H.Host.rest c.fill.new.host) (g.H.Host.given c.fill.new.host)) s s' s''
    (p.1 ∙ ap (λ f. Err f) p.2) c.requires.counts.are c.requires.empty
    (λ other. c.in_err-done.ensures.empty (λ e. let same : fault ≡ Out = cc in other same)) reads
    (λ behind.
    subst (λ (shape : Shape). RunsTo fault c.loop-count.run.done
    (calls_after c.loop-count.run.done c.args.counts.now (length (inputs_of shape)) (c.fill.new.self.bytes ++ behind)) s' s'')
    c.loop-count.invariant.shape
    (subst (λ t. RunsTo fault c.loop-count.run.done
    (calls_after c.loop-count.run.done c.args.counts.now (length (inputs_of c.loop-count.driver.shape)) (t ++ behind)) s' s'')
    c.bytes-in-loop-count.ensures (c.in_err-done.ensures.ran behind)))

pub returns-in_err-done-clause-read_cause : goal.returns-in_err-done-clause-read_cause
returns-in_err-done-clause-read_cause g c = λ read.
    let p = err_from_is_err_and c.from_residual.result c.from_residual.ensures.1 in
    absurd (never_read c.from_residual.result c.in_err-done.field-0.0 _ _ _ _ (p.1 ∙ ap (λ f. Err f) p.2)
    (c.in_err-done.ensures.ran []) read)

pub returns-in_err-done-clause-unsure : goal.returns-in_err-done-clause-unsure
returns-in_err-done-clause-unsure g c = λ read.
    let p = err_from_is_err_and c.from_residual.result c.from_residual.ensures.1 in
    absurd (never_read c.from_residual.result c.in_err-done.field-0.0 _ _ _ _ (p.1 ∙ ap (λ f. Err f) p.2)
    (c.in_err-done.ensures.ran []) read)

pub loop-count-preserved : goal.loop-count-preserved
loop-count-preserved g c =
    let all = length (inputs_of c.args.driver.now.shape) in
    let s = inside c.args.driver.now c.args.run.now (g.S.Sink.bytes c.args.sink.now) in
    let s' = inside c.loop-count.driver c.loop-count.run (g.S.Sink.bytes c.loop-count.sink) in
    let s'' = inside c.run_lines.new.driver c.run_lines.new.run (g.S.Sink.bytes c.run_lines.new.sink) in
    let i = c.loop-count.invariant in
    let done = c.in_ok-done.done in
    let reads =
    reads_on c.args.counts.now all c.loop-count.run.done c.in-Ok.count c.loop-count.read.bytes c.fill.new.self.bytes _ _ _ s s' i.reads
    c.in-Ok.ensures.more in
    let lines =
    subst (λ (shape : Shape). RunsLines done c.fill.new.self.bytes c.args.counts.now
    (length (inputs_of shape)) c.loop-count.run.done c.run_lines.new.run.done s' s'')
    i.shape
    (subst (λ t. RunsLines done t c.args.counts.now
    (length (inputs_of c.loop-count.driver.shape)) c.loop-count.run.done c.run_lines.new.run.done s' s'')
    c.bytes-in-loop-count.ensures c.in_ok-done.ensures.ran) in
    record {
      reads =
          subst (λ b. Reads c.args.counts.now all c.run_lines.new.run.done b (source (g.H.Host.rest c.args.host.now) (g.H.Host.given c.args.host.now))
          (source (g.H.Host.rest c.fill.new.host) (g.H.Host.given c.fill.new.host)) s s'')
          (sym c.take.ensures)
          (lines_read c.args.counts.now all c.loop-count.run.done c.run_lines.new.run.done done c.fill.new.self.bytes
          (source (g.H.Host.rest c.args.host.now) (g.H.Host.given c.args.host.now)) (source (g.H.Host.rest c.fill.new.host) (g.H.Host.given c.fill.new.host)) s s' s'' reads lines);
      begins = subst BeginsLine (sym c.take.ensures) lines.rest;
      room = c.run_lines.ensures.room;
      empty = c.in_ok-done.ensures.empty (λ e. cc);
      shape = c.run_lines.ensures.shape ∙ i.shape;
      sure = λ sure. (c.fill.ensures.sure (i.sure sure)).1;
      read_calm = c.in-Ok.ensures.cause.calm ∙ i.read_calm;
      put_calm = c.in_ok-done.ensures.calm (λ e. cc) ∙ i.put_calm;
      files = c.fill.ensures.files ∙ i.files;
      written = c.fill.ensures.written ∙ i.written;
      write_faults = c.fill.ensures.write_faults ∙ i.write_faults;
    }
