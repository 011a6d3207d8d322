use Rattle.std.proofs.Common.{◌≡◌, refl, ap, sym, subst, ◌∙◌, [], List, ℕ, ◌++◌}
use Rattle.std.specs.Prelude.{Err}
use Rattle.std.specs.Str.Lines.{lines}
use Rattle.std.proofs.lemmas.Result.{err_from_is_err_and}
use Rattle.base_host.specs.Reading.{source}
use Rattle.tool_traces.specs.Pieces.{BeginsLine}
use Rattle.tool_stream.specs.declared.fault.StreamFault.TheVariants.{Read, Put}
use Rattle.tool_stream.specs.Walks.{place, StopsOver, WalksOver, WalksWhole}
use Rattle.tool_stream.specs.Files.{WalksFile}
use Rattle.tool_stream.proofs.lemmas.FilePieces.{begins_none}
use Rattle.tool_stream.proofs.Files.{Reads, reads_none, reads_on, lines_read, read_stops, lines_stop, last_over, over_handed}
use Rattle.tool_stream.proofs.stream.Stream.walk_file.Goals as goal

pub loop-count-init : goal.loop-count-init
loop-count-init g c = record {
  reads =
      reads_none g.W.LineWalk.steps (λ a. g.W.LineWalk.said a.0) g.W.LineWalk.stops c.args.self.now.read.bytes _
      (c.args.walk.now, c.args.machine.now) (g.S.Sink.bytes c.args.sink.now) c.args.self.now.waiting c.requires.unread c.requires.empty;
  begins = begins_none c.args.self.now.read.bytes c.requires.unread;
  ready = c.requires.ready;
  few = c.requires.few;
  empty = c.requires.empty;
  sure = λ sure. sure;
  read_calm = refl;
  put_calm = refl;
  only_reads = record { files = refl; written = refl; write_faults = refl };
}

pub returns-in_default-clause-walked : goal.returns-in_default-clause-walked
returns-in_default-clause-walked g c =
    let s = place (c.args.walk.now, c.args.machine.now) (g.S.Sink.bytes c.args.sink.now) [] in
    let from = source (g.H.Host.rest c.args.host.now) (g.H.Host.given c.args.host.now) in
    subst (λ to. WalksFile g.W.LineWalk.steps (λ a. g.W.LineWalk.said a.0) g.W.LineWalk.stops (Err Read) from to s
    (place (c.loop-count.walk, c.loop-count.machine) (g.S.Sink.bytes c.loop-count.sink) []))
    (sym c.in_default.ensures.unread)
    (read_stops g.W.LineWalk.steps (λ a. g.W.LineWalk.said a.0) g.W.LineWalk.stops c.loop-count.self.read.bytes from
    (source (g.H.Host.rest c.loop-count.host) (g.H.Host.given c.loop-count.host)) s (c.loop-count.walk, c.loop-count.machine)
    (g.S.Sink.bytes c.loop-count.sink) c.loop-count.self.waiting c.loop-count.invariant.empty c.loop-count.invariant.begins
    c.loop-count.invariant.reads)

pub returns-then-count-eq0-clause-walked : goal.returns-then-count-eq0-clause-walked
returns-then-count-eq0-clause-walked g c =
    let s = place (c.args.walk.now, c.args.machine.now) (g.S.Sink.bytes c.args.sink.now) [] in
    let s' = place (c.loop-count.walk, c.loop-count.machine) (g.S.Sink.bytes c.loop-count.sink) c.loop-count.self.waiting in
    let put = g.S.Sink.bytes c.walk_last.new.sink in
    let reads =
    reads_on g.W.LineWalk.steps (λ a. g.W.LineWalk.said a.0) g.W.LineWalk.stops c.in-Ok.count c.loop-count.self.read.bytes
    c.fill.new.self.bytes _ _ _ s s' c.loop-count.invariant.reads c.in-Ok.ensures.more in
    last_over g.W.LineWalk.steps (λ a. g.W.LineWalk.said a.0) g.W.LineWalk.stops c.walk_last.result c.fill.new.self.bytes _
    (source (g.H.Host.rest c.fill.new.host) (g.H.Host.given c.fill.new.host)) s s'
    (c.walk_last.new.walk, c.walk_last.new.machine) put c.walk_last.new.waiting c.walk_last.ensures.empty
    (c.in-Ok.ensures.end c.if-count-eq0.true) reads
    (subst (λ t. WalksOver g.W.LineWalk.steps (λ a. g.W.LineWalk.said a.0) g.W.LineWalk.stops c.walk_last.result (lines t) s'
    (place (c.walk_last.new.walk, c.walk_last.new.machine) put c.walk_last.new.waiting)) c.bytes.ensures c.walk_last.ensures.walked)

pub returns-in_err-done-clause-walked : goal.returns-in_err-done-clause-walked
returns-in_err-done-clause-walked g c =
    let p = err_from_is_err_and c.from_residual.result c.from_residual.ensures.1 in
    let fault = c.in_err-done.field-0.0 in
    let s = place (c.args.walk.now, c.args.machine.now) (g.S.Sink.bytes c.args.sink.now) [] in
    let s' = place (c.loop-count.walk, c.loop-count.machine) (g.S.Sink.bytes c.loop-count.sink) c.loop-count.self.waiting in
    let put = g.S.Sink.bytes c.walk_lines.new.sink in
    let reads =
    reads_on g.W.LineWalk.steps (λ a. g.W.LineWalk.said a.0) g.W.LineWalk.stops c.in-Ok.count c.loop-count.self.read.bytes
    c.fill.new.self.bytes _ _ _ s s' c.loop-count.invariant.reads c.in-Ok.ensures.more in
    over_handed g.W.LineWalk.steps (λ a. g.W.LineWalk.said a.0) g.W.LineWalk.stops c.from_residual.result fault _ _ s _
    (p.1 ∙ ap (λ f. Err f) p.2)
    (lines_stop g.W.LineWalk.steps (λ a. g.W.LineWalk.said a.0) g.W.LineWalk.stops fault c.fill.new.self.bytes _
    (source (g.H.Host.rest c.fill.new.host) (g.H.Host.given c.fill.new.host)) s s'
    (c.walk_lines.new.walk, c.walk_lines.new.machine) put c.walk_lines.new.waiting
    (λ other. c.in_err-done.ensures.empty (λ e. let same : fault ≡ Put = cc in other same)) reads
    (subst (λ t. (behind : List ℕ) → StopsOver g.W.LineWalk.steps (λ a. g.W.LineWalk.said a.0) g.W.LineWalk.stops fault
    (lines (t ++ behind)) s' (place (c.walk_lines.new.walk, c.walk_lines.new.machine) put c.walk_lines.new.waiting))
    c.bytes-in-loop-count.ensures c.in_err-done.ensures.walked))

pub loop-count-preserved : goal.loop-count-preserved
loop-count-preserved g c =
    let s = place (c.args.walk.now, c.args.machine.now) (g.S.Sink.bytes c.args.sink.now) [] in
    let from = source (g.H.Host.rest c.args.host.now) (g.H.Host.given c.args.host.now) in
    let to = source (g.H.Host.rest c.fill.new.host) (g.H.Host.given c.fill.new.host) in
    let s' = place (c.loop-count.walk, c.loop-count.machine) (g.S.Sink.bytes c.loop-count.sink) c.loop-count.self.waiting in
    let s'' = place (c.walk_lines.new.walk, c.walk_lines.new.machine) (g.S.Sink.bytes c.walk_lines.new.sink) c.walk_lines.new.waiting in
    let i = c.loop-count.invariant in
    let done = c.in_ok-done.done in
    let reads =
    reads_on g.W.LineWalk.steps (λ a. g.W.LineWalk.said a.0) g.W.LineWalk.stops c.in-Ok.count c.loop-count.self.read.bytes
    c.fill.new.self.bytes from _ to s s' i.reads c.in-Ok.ensures.more in
    let lines = subst (λ t. WalksWhole g.W.LineWalk.steps (λ a. g.W.LineWalk.said a.0) done t s' s'') c.bytes-in-loop-count.ensures
    c.in_ok-done.ensures.walked in
    record {
      reads =
          subst (λ b. Reads g.W.LineWalk.steps (λ a. g.W.LineWalk.said a.0) g.W.LineWalk.stops b from to s s'') (sym c.take.ensures)
          (lines_read g.W.LineWalk.steps (λ a. g.W.LineWalk.said a.0) g.W.LineWalk.stops done c.fill.new.self.bytes from to s s' s'' reads
          lines);
      begins = subst BeginsLine (sym c.take.ensures) lines.rest;
      ready = c.in_ok-done.ensures.ready;
      few = c.in_ok-done.ensures.few;
      empty = c.in_ok-done.ensures.empty (λ e. cc);
      sure = λ sure. (c.fill.ensures.sure (i.sure sure)).1;
      read_calm = c.in-Ok.ensures.cause.calm ∙ i.read_calm;
      put_calm = c.in_ok-done.ensures.cause.calm (λ e. cc) ∙ i.put_calm;
      only_reads = record {
        files = c.fill.ensures.files ∙ i.only_reads.files;
        written = c.fill.ensures.written ∙ i.only_reads.written;
        write_faults = c.fill.ensures.write_faults ∙ i.only_reads.write_faults;
      };
    }
