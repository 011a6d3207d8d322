-- A uniform program is uniform without the pure functions that it doesn't need.
use Rattle.std.specs.Prelude.{◌≡◌, ℕ, List, [], ◌∷◌, map}
use Rattle.std.proofs.Common.{refl, sym, subst, ◌∙◌}
use Rattle.c_syntax.specs.Tree.{PureTree, ProcedureTree, ProgramTree}
use Rattle.c_syntax.specs.Lawful.{procedure_without_lines, without_lines}
use Rattle.emit_pruned.specs.Needed.{is_needed}
use Rattle.emit_pruned.specs.Pruned.{renumbered_stmts, renumbered_procedure, kept_before, pruned}
use Rattle.emit_uniform.specs.Turned.{Turn}
use Rattle.emit_uniform.specs.Uniform.{AreTurned, turn_of}
use Rattle.right_uniform.specs.Laws.{PrunedIsUniform}
use Rattle.right_uniform.proofs.Renamings.{stmts-twice}
use Rattle.right_uniform.proofs.Lines.{stmts-renamed}
use Rattle.right_uniform.proofs.TurnedBodies.{bodies-turned}

module _ (place : ℕ → ℕ) where
  procedures-aside : (qs : List ProcedureTree) →
      map (renumbered_procedure place) (map procedure_without_lines qs)
      ≡ map procedure_without_lines (map (renumbered_procedure place) qs)
  procedures-aside [] = refl
  procedures-aside (q ∷ qs) =
      let body = sym (stmts-renamed (λ leaf. leaf) place (λ k. k) q.body) in
      let rest = procedures-aside qs in
      (λ i. record { name = q.name; private = q.private; of = q.of; params = q.params; body = body i } ∷ rest i)

  renumbered-turned : (pures : List PureTree) (p : ProgramTree) (t : Turn) (e f : ℕ) → AreTurned (without_lines p) t e f →
      AreTurned (record {
        pures = pures;
        structs = p.structs;
        procedures = map procedure_without_lines (map (renumbered_procedure place) p.procedures);
      }) t e f
  renumbered-turned pures p t e f h = subst (λ qs. AreTurned (record { pures = pures; structs = p.structs; procedures = qs }) t e f)
      (procedures-aside p.procedures)
      (bodies-turned (renumbered_stmts place)
      (λ number ss. stmts-twice (λ leaf. leaf) (λ leaf. leaf) (λ k. k) number place (λ k. k) ss
      ∙ sym (stmts-twice (λ leaf. leaf) (λ leaf. leaf) place (λ k. k) (λ k. k) number ss))
      pures (without_lines p) t e f h)

pub pruned_is_uniform : PrunedIsUniform
pruned_is_uniform p d uniform e f is_e is_f same =
    renumbered-turned (kept_before (is_needed p)) (without_lines (pruned p)).pures p (turn_of d.rows e f) e f (uniform e f is_e is_f same)
