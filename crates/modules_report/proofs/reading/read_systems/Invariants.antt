use Rattle.std.proofs.Common.{◌≡◌, ◌+◌, ◌≤◌, ◌++◌, length}
use Rattle.std.specs.Prelude.{All, flat_map}
use Rattle.modules_report.specs.Reading.{IsSystemReport}
use Rattle.modules_report.specs.Texts.{system_text}
use Rattle.modules_report.proofs.reading.read_systems.Given as goal

abbrev pub invariant-loop : goal.invariant-loop
invariant-loop l = record {
  text : l.bytes ≡ flat_map system_text l.reports.items ++ l.rest;
  each : All IsSystemReport l.reports.items;
  number : length l.reports.items ≡ l.counter;
  short : length l.rest + l.counter ≤ length l.bytes;
}
