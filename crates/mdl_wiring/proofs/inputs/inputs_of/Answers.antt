use Rattle.std.proofs.Common.{sym, ◌∙◌, ap, subst, take, ◌++◌, ◌∷◌, [], is_some}
use Rattle.mdl_wiring.specs.Held.{AreInputsOf, end_seen, ends_seen}
use Rattle.mdl_wiring.proofs.PassLemmas.{items-more, as-many}
use Rattle.mdl_wiring.proofs.InputLemmas.{inputs-none, inputs-known, inputs-new, copied_None, copied_some}
use Rattle.mdl_wiring.proofs.inputs.inputs_of.Goals as goal
use Rattle.mdl_wiring.proofs.inputs.inputs_of.Goals.{in-Some+then-is_none+in_ok-insert, in-Some+else-is_none, in_default}

pub loop-place-preserved : goal.loop-place-preserved
loop-place-preserved c =
    let ends = c.args.ends.now in
    let i = c.loop-place.place in
    let olds = ends_seen (take i ends) in
    let before = c.loop-place.inputs in
    let h = c.loop-place-test.true in
    subst (λ xs. AreInputsOf xs c.match-input_at.inputs) (items-more end_seen ends i _ h) (elim c.match-input_at.branch [
      | in-Some+then-is_none+in_ok-insert w ↦ subst (AreInputsOf (olds ++ end_seen _ ∷ [])) (sym w.inputs-is)
          (inputs-new olds (end_seen _) before w.insert.new.self w.in-Some.input i c.loop-place.invariant
          (sym w.in-Some.is ∙ c.input_at.ensures) (sym w.get.ensures.value ∙ copied_None _ w.if-is_none.ensures)
          (as-many end_seen ends i h) w.in_ok-insert.ensures.updates)
      | in-Some+else-is_none w ↦ subst (AreInputsOf (olds ++ end_seen _ ∷ [])) (sym w.inputs-is)
          (inputs-known olds (end_seen _) before w.in-Some.input c.loop-place.invariant (sym w.in-Some.is
          ∙ c.input_at.ensures) (ap is_some (sym w.get.ensures.value) ∙ copied_some _ ∙ w.if-is_none.ensures))
      | in_default w ↦ subst (AreInputsOf (olds ++ end_seen _ ∷ [])) (sym w.inputs-is)
          (inputs-none olds (end_seen _) before c.loop-place.invariant (sym w.in_default.is ∙ c.input_at.ensures))
    ])
