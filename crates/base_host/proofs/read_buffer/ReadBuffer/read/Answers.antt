use Rattle.std.proofs.Common.{◌-◌, ◌++◌, take, drop, ap, ◌∙◌, arith, rules}
use Rattle.base_host.specs.Buffers.{ReadAhead}
use Rattle.base_host.proofs.Buffers.{kept_before, grown, on_error}
use Rattle.base_host.proofs.lemmas.ReadLaws.{rose_by_taken}
use Rattle.base_host.proofs.read_buffer.ReadBuffer.read.Goals as goal

pub returns-in_err-count-clause-kept : goal.returns-in_err-count-clause-kept
returns-in_err-count-clause-kept g c =
    let b = c.self.inside in
    on_error c.from_residual.result (
    kept_before c.deref_mut.result.now c.read.new.into _ _ b.bytes.len b.start b.end (omega arith) (search rules) (search rules)
    ∙ ap (λ xs. take (b.end - b.start) (drop b.start xs)) c.deref_mut.ensures.value ∙ ap (λ (s : ReadAhead). s.bytes) c.self.view_is
    )

pub returns-clause-more : goal.returns-clause-more
returns-clause-more g c =
    let b = c.self.inside in
    let n = c.in_ok-count.count in
    record {
      piece = take n c.read.new.into;
      size = search rules;
      bytes =
          grown c.deref_mut.result.now c.read.new.into _ _ b.bytes.len b.start b.end n (omega arith) (search rules)
          (search rules) (search rules)
          ∙ ap (λ xs. take (b.end - b.start) (drop b.start xs) ++ take n c.read.new.into) c.deref_mut.ensures.value
          ∙ ap (λ (s : ReadAhead). s.bytes ++ take n c.read.new.into) c.self.view_is;
      read = record {
        front = c.in_ok-count.ensures.bytes;
        count = rose_by_taken _ _ n c.read.new.into (search rules) c.in_ok-count.ensures.given;
      };
    }
