use Rattle.std.proofs.Common.{◌≡◌, ◌++◌, ◌∷◌, take}
use Rattle.std.specs.Prelude.{flat_map}
use Rattle.std.specs.Fmt.{signed_decimal}
use Rattle.base_host.specs.Buffers.{PutsAllBut}
use Rattle.tool_runner.proofs.outputs.put_others.Given as goal

-- the texts of the numbers so far are printed or wait
abbrev pub invariant-loop-number : goal.invariant-loop-number
invariant-loop-number g l = record {
  taken : PutsAllBut l.lines (l.fn.lines ++ flat_map (λ n. 32 ∷ signed_decimal n) (take l.number-index l.numbers))
      (g.S.Sink.bytes l.fn.sink) (g.S.Sink.bytes l.sink);
  calm : g.S.Sink.faults l.sink ≡ g.S.Sink.faults l.fn.sink;
}
