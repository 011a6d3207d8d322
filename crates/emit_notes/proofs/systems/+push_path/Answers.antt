use Rattle.std.proofs.Common.{◌<◌, arith}
use Rattle.std.proofs.lemmas.Result.{IfOk-equal}
use Rattle.emit_notes.proofs.PathLemmas.{path-inside}
use Rattle.emit_notes.proofs.systems.+push_path.Goals as goal

pub returns-in_ok-push_bytes-in-Some-owner : goal.returns-in_ok-push_bytes-in-Some-owner
returns-in_ok-push_bytes-in-Some-owner t c =
    let some : 0 < c.args.most = omega arith in
    IfOk-equal c.push_bytes-in-Some-owner.result _ _ _ c.push_bytes-in-Some-owner.ensures
    (path-inside c.args.labels.now c.args.most c.args.row c.in-Some-owner.owner c.in-Some.label.now c.args.out.now.items
    c.push_path.new.out.items c.push_bytes.new.out.items c.bytes.result.now some c.in-Some.ensures c.in-Some-owner.is
    c.in_ok-push_path-in-Some-owner.ensures c.in_ok-push_bytes-in-Some-owner.ensures c.bytes.ensures)
