-- Where nothing was called, nothing counts.
use Rattle.std.specs.Prelude.{◌≡◌, ℕ, suc, ◌&&◌, if◌then◌else◌, List, bytes_eq, length, pos}
use Rattle.std.specs.List.{list_any, range_with_len}
use Rattle.std.proofs.Common.{sym, ap, true≢false}
use Rattle.modules_schedule.specs.SystemSchedule.{SystemSchedule}
use Rattle.emit_shape.specs.Names.{counter_name}
use Rattle.right_relation.specs.Instances.{none_called}
use Rattle.emit_system_spec.specs.Fields.{shared_groups}
use Rattle.right_system_ticks.specs.Holding.{calls_group, done_by, counted}
use Rattle.right_system_ticks.proofs.Tests.{any-of, both-true, not-true}

pub nothing-counted : (schedule : SystemSchedule) (name : List ℕ) → counted schedule none_called name ≡ pos 0
nothing-counted schedule name =
    ap (λ t. if t then pos 1 else pos 0)
    (not-true (list_any (λ g. done_by schedule none_called g && bytes_eq (counter_name (suc g)) name) (shared_groups schedule)) (λ some.
    let g = any-of (λ g. done_by schedule none_called g && bytes_eq (counter_name (suc g)) name) (shared_groups schedule) some in
    let done = (both-true (done_by schedule none_called g.0) (bytes_eq (counter_name (suc g.0)) name) g.2).0 in
    let j = any-of (λ j. none_called j && calls_group schedule j g.0) (range_with_len 1 (length schedule.functions)) done in
    true≢false (sym (both-true (none_called j.0) (calls_group schedule j.0 g.0) j.2).0)))
