use Rattle.std.proofs.Common.{refl, ap}
use Rattle.lustre_syntax.specs.Plain.{declared_names}
use Rattle.lustre_system.specs.Functions.{int_name}
use Rattle.lustre_emitter.proofs.Lists.{with-one}
use Rattle.lustre_emitter.proofs.Roots.{numbered-next}
use Rattle.lustre_emitter.proofs.root.push_numbered.Goals as goal

pub loop-k-preserved : goal.loop-k-preserved
loop-k-preserved c =
    let t = c.in_ok-numbered_text.field-0 in
    numbered-next int_name c.args.outputs c.loop-k.k (declared_names c.args.names.now.items) (declared_names c.loop-k.names.items)
    (declared_names c.push.new.self.items) (int_name t) c.loop-k.invariant
    (with-one (λ x. record { text = x.0; type = x.1 }) c.loop-k.names.items c.push.new.self.items _ (int_name t)
    c.in_ok-push.ensures.items refl)
    (ap int_name c.in_ok-numbered_text.ensures)
