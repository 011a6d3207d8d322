-- A program with other pure functions: its procedures have the positions that they had, and it does what it did.
use Rattle.std.specs.Prelude.{◌≡◌, ℕ, suc, ◌+◌, cond, ◌||◌, List, [], ◌∷◌, map, length, Option, Some, unwrap_or, bytes_eq}
use Rattle.std.specs.List.{position_from, list_any, prefix_len, range_with_len}
use Rattle.std.proofs.Common.{refl, sym, ap}
use Rattle.c_syntax.specs.Tree.{PureTree, ProcedureTree, ProgramTree}
use Rattle.c_semantics.specs.LinesAside.{outcome_aside, rows_aside}
use Rattle.emit_pruned.specs.Laws.{RunsAs}
use Rattle.emit_pruned.specs.Pruned.{renumbered_procedure}
use Rattle.emit_shape.specs.Names.{out_name}
use Rattle.emit_shape.specs.Programs.{procedure_place}
use Rattle.emit_shape.specs.Faces.{out_places}
use Rattle.right_claim.proofs.lemmas.AlikePrograms.{AreAlike}

-- ---- Places of procedures

module _ (place : ℕ → ℕ) where
  place-moved : (name : List ℕ) (n : ℕ) (qs : List ProcedureTree) →
      position_from (λ q. bytes_eq q.name name) n (map (renumbered_procedure place) qs) ≡ position_from (λ q. bytes_eq q.name name) n qs
  place-moved name n [] = refl
  place-moved name n (q ∷ qs) = ap (λ rest. cond (bytes_eq q.name name) (Some n) rest) (place-moved name (n + 1) qs)

  any-moved : (name : List ℕ) (qs : List ProcedureTree) →
      list_any (λ q. bytes_eq q.name name) (map (renumbered_procedure place) qs)
      ≡ list_any (λ q. bytes_eq q.name name) qs
  any-moved name [] = refl
  any-moved name (q ∷ qs) = ap (λ rest. bytes_eq q.name name || rest) (any-moved name qs)

  length-moved : (qs : List ProcedureTree) → length (map (renumbered_procedure place) qs) ≡ length qs
  length-moved [] = refl
  length-moved (q ∷ qs) = ap suc (length-moved qs)

-- a program with other pure functions, by whose positions its procedures call
module _ (place : ℕ → ℕ) (pures : List PureTree) (p : ProgramTree) where
  abbrev pub q : ProgramTree
  q = record { pures = pures; structs = p.structs; procedures = map (renumbered_procedure place) p.procedures }

  pub same-place : (name : List ℕ) → procedure_place q name ≡ procedure_place p name
  same-place name = ap (λ k. unwrap_or k 0) (place-moved place name 0 p.procedures)

  pub same-outs : (s : Option ℕ) → out_places q s ≡ out_places p s
  same-outs s =
      (λ i. map (λ j. unwrap_or (place-moved place (out_name s j) 0 p.procedures i) 0)
      (range_with_len 1
      (prefix_len (λ j. any-moved place (out_name s j) p.procedures i)
      (range_with_len 1 (length-moved place p.procedures i)))))

  -- both do the same
  pub are-alike : RunsAs q p → AreAlike p q
  are-alike runs = record {
    structs = refl;
    places = λ name. sym (same-place name);
    outs = λ s. sym (same-outs s);
    runs = record {
      calls = λ k path values cells. ap outcome_aside (sym (runs.calls k path values cells));
      start = ap outcome_aside (sym runs.start);
      rows = λ trace. ap rows_aside (sym (runs.rows trace));
    };
  }
