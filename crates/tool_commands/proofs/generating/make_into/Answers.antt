use Rattle.std.proofs.Common.{rules, ◌≡◌, refl, List, ℕ, subst}
use Rattle.base_host.specs.Faults.{Rose}
use Rattle.diagram_verdict.specs.declared.fault.ModelFault.TheVariants as fault
use Rattle.diagram_verdict.specs.Faults.{IsFaultOf}
use Rattle.tool_compiled.specs.Compilation.{Compilation, IsCompiledFrom}
use Rattle.tool_generator.specs.Models.{model_text}
use Rattle.tool_endings.specs.Told.{HostTold, told}
use Rattle.tool_endings.specs.EndingsOfModels.{LeavesHost}
use Rattle.tool_endings.specs.EndingsOfGenerating.{WritesFrontOfTwo}
use Rattle.tool_commands.proofs.MadeLaws.{unmade_refused, unmade_written}
use Rattle.tool_commands.proofs.generating.make_into.Goals as goal

pub returns-in-Err-Refused-clause-ended : goal.returns-in-Err-Refused-clause-ended
returns-in-Err-Refused-clause-ended g c =
    let before : HostTold =
    told g.H.Host.files g.H.Host.rest g.H.Host.given g.H.Host.written g.H.Host.sure g.H.Host.read_faults g.H.Host.write_faults
    c.args.host.now in
    let same : c.deref.result.now ≡ model_text c.args.start c.args.size = search rules in
    let why : IsFaultOf c.deref.result.now (fault.Refused c.in-Err-Refused.refusal) = search rules in
    let left : LeavesHost before before = record { written = refl; no_fault = record { read = refl; write = refl } } in
    unmade_refused c.in-Err-Refused.refusal c.args.start c.args.size c.args.model.now c.args.code.now before before
    (subst (λ (x : List ℕ). IsFaultOf x (fault.Refused c.in-Err-Refused.refusal)) same why) refl left

pub returns-clause-ended : goal.returns-clause-ended
returns-clause-ended g c =
    let before : HostTold =
    told g.H.Host.files g.H.Host.rest g.H.Host.given g.H.Host.written g.H.Host.sure g.H.Host.read_faults g.H.Host.write_faults
    c.args.host.now in
    let after : HostTold =
    told g.H.Host.files g.H.Host.rest g.H.Host.given g.H.Host.written g.H.Host.sure g.H.Host.read_faults g.H.Host.write_faults
    c.write_both.new.host in
    let compiled : Compilation = c.in-Ok-compile.compiled in
    let text : List ℕ = model_text c.args.start c.args.size in
    let same : c.deref.result.now ≡ text = search rules in
    let also : c.deref-2.result.now ≡ text = search rules in
    let code : c.deref-3.result.now ≡ compiled.code = search rules in
    let from : IsCompiledFrom text compiled = subst (λ (x : List ℕ). IsCompiledFrom x compiled) same (search rules) in
    let front : WritesFrontOfTwo before.written after.written c.args.model.now c.deref-2.result.now c.args.code.now
    c.deref-3.result.now = search rules in
    let rose : Rose before.write_faults after.write_faults = search rules in
    unmade_written compiled c.args.start c.args.size c.args.model.now c.args.code.now before after from rose
    (subst (λ (x : List ℕ). WritesFrontOfTwo before.written after.written c.args.model.now text c.args.code.now x) code
    (subst (λ (x : List ℕ). WritesFrontOfTwo before.written after.written c.args.model.now x c.args.code.now
    c.deref-3.result.now) also front))
