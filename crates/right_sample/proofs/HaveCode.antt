-- The program of a model is put together from the codes of its systems.
use Rattle.std.specs.Prelude.{ℕ}
use Rattle.std.proofs.Common.{subst}
use Rattle.diagram_meaning.specs.ResolvedTree.{ResolvedTree}
use Rattle.emit_system_spec.specs.EmittedCode.{system_code}
use Rattle.right_linking.specs.Parts.{Parts, program_of}
use Rattle.right_linking.specs.Whole.{IsAssembled, AssembledIsCode}
use Rattle.right_any_model.specs.AnyModel.{AreOk, ModelsHaveParts}
use Rattle.right_sample_model.specs.RichModel.{RichModel}
use Rattle.right_sample.specs.Samples.{EachModelHasCode, RichModelHasCode}

pub each_has_code : ModelsHaveParts → AreOk system_code → ((a : Parts) → AssembledIsCode a) → EachModelHasCode
each_has_code have ok assembled r resolved none =
    let made = have system_code ok r resolved none in
    let program = program_of made.parts in (
      program,
      subst (λ (hyper : ℕ). IsAssembled r hyper program) made.is_cycle
          (subst (λ (m : ResolvedTree). IsAssembled m made.parts.hyper program) made.is_model (assembled made.parts)),
    )

pub rich_has_code : EachModelHasCode → RichModel → RichModelHasCode
rich_has_code each rich = let code = each rich.model rich.is_resolved rich.no_loop in (rich, code.0, code.1)
