use Rattle.std.proofs.Common.{◌≡◌, sym, ◌∙◌, ap, subst, length, take, drop, map, Option, Some, None, arith, true}
use Rattle.std.specs.Vec.{with_items}
use Rattle.std.proofs.lemmas.List.{with_items_is}
use Rattle.lustre_syntax.specs.declared.file.LusFile.{LusFile}
use Rattle.lustre_syntax.specs.Plain.{file_tree}
use Rattle.lustre_flows.specs.declared.stuck.LusStuck.{LusStuck}
use Rattle.lustre_flows.specs.Ticks.{last_node}
use Rattle.lustre_evaluation.specs.declared.frames.Frame.{Frame}
use Rattle.lustre_solver.specs.Searching.{searching}
use Rattle.lustre_interpreter.specs.States.{FlowState, root_of, IsTicked}
use Rattle.lustre_interpreter.specs.Tables.{IsRun}
use Rattle.lustre_interpreter.proofs.Runs.{ports_fit, ticked_run}
use Rattle.lustre_interpreter.proofs.flows.Flows.tick.Goals as goal

pub put_outputs-requires : goal.put_outputs-requires
put_outputs-requires c =
    let inside = c.self.inside in
    let inputs = ap (λ (x : LusFile). (last_node (file_tree x)).inputs) c.file-2.ensures in
    let outputs = c.requires.outputs ∙ ap (λ (s : FlowState). (root_of s).outputs) (sym c.self.view_is) in
    let sources = ap length c.self.invariant.sources_are in
    let ports = ports_fit (file_tree inside.file) c.self.invariant.lawful in
    let size = c.deref-4.ensures.len in
    let items = inside.before.ok.0 in
    omega (arith, c.self.invariant.values)

pub returns-clause-ticked : goal.returns-clause-ticked
returns-clause-ticked c =
    let inside = c.self.inside in
    let row = c.args.inputs.now in
    let now = (searching c.run_tick.new.search).now in
    let new = (with_items inside.before c.keep.new.into).items in
    let frame : Frame = record { file = c.file.result; sources = c.deref.result; begun = inside.begun; before = c.deref-2.result } in
    let outputs = c.put_outputs.new.outputs in
    let free : inside.stuck ≡ None = grind arith in
    let none : c.run_tick.result ≡ None = grind arith in
    let run : IsRun frame row now None = subst (IsRun frame row now) none c.run_tick.ensures.run in
    let new-is : new ≡ c.keep.new.into = with_items_is inside.before c.keep.new.into (c.keep.auto.into ∙ c.deref_mut.ensures.len) in
    let kept : map Some new ≡ now = ap (map Some) new-is ∙ c.keep.ensures ∙ c.values.ensures in
    let room : length c.args.outputs.now ≡ (last_node (file_tree inside.file)).outputs =
    c.requires.outputs ∙ ap (λ (s : FlowState). (root_of s).outputs) (sym c.self.view_is) in
    let put : outputs ≡ take (length c.args.outputs.now) (drop (last_node (file_tree inside.file)).inputs new) =
    c.put_outputs.ensures
    ∙ ap (λ (x : LusFile). take (length c.args.outputs.now) (drop (last_node (file_tree x)).inputs c.deref-4.result.now)) c.file-2.ensures
    ∙ ap (λ vs. take (length c.args.outputs.now) (drop (last_node (file_tree inside.file)).inputs vs)) c.deref-4.ensures.value in
    let ticked = ticked_run frame inside.file inside.before.items row now c.file.ensures c.deref-2.ensures.value new outputs
    (length c.args.outputs.now) run c.self.invariant.lawful kept room put in
    let before-is : record { file = inside.file; begun = inside.begun; values = inside.before.items; stuck_place = None } ≡ c.args.self.now =
    ap (λ (o : Option LusStuck). record { file = inside.file; begun = inside.begun; values = inside.before.items; stuck_place = o }) (sym free)
    ∙ c.self.view_is in
    subst (λ (o : Option LusStuck). IsTicked c.args.self.now (record { file = inside.file; begun = true; values = new; stuck_place = o }) row outputs)
    (sym free)
    (subst (λ (s : FlowState). IsTicked s (record { file = inside.file; begun = true; values = new; stuck_place = None }) row outputs) before-is ticked)
