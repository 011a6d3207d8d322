-- What a program does over traces, scripts, starts and resets means nothing by its lines.
use Rattle.std.specs.Prelude.{◌≡◌, ℕ, suc, ◌+◌, cond, ◌||◌, List, [], ◌∷◌, map, length, Option, Some, unwrap_or, bytes_eq}
use Rattle.std.specs.List.{position_from, list_any, prefix_len, range_with_len}
use Rattle.std.proofs.Common.{refl, sym, ap, ◌∙◌}
use Rattle.diagram_meaning.specs.Run.{outs}
use Rattle.c_syntax.specs.Tree.{ProcedureTree, ProgramTree}
use Rattle.c_syntax.specs.Lawful.{procedure_without_lines, without_lines}
use Rattle.c_semantics.specs.LinesAside.{LinesMeanNothing}
use Rattle.emit_shape.specs.Names.{out_name}
use Rattle.emit_shape.specs.Programs.{procedure_place}
use Rattle.emit_shape.specs.Faces.{out_places}
use Rattle.right_claim.specs.LineLaws.{RowsMeanNoLines, RenewalsMeanNoLines}
use Rattle.right_claim.proofs.lemmas.AlikePrograms.{AreAlike, outputs-alike, bounded-alike, rows-alike, answers-alike, renewed-alike, restarted-alike}

-- ---- A program and the same without lines

place-aside : (name : List ℕ) (n : ℕ) (ps : List ProcedureTree) →
    position_from (λ q. bytes_eq q.name name) n (map procedure_without_lines ps) ≡ position_from (λ q. bytes_eq q.name name) n ps
place-aside name n [] = refl
place-aside name n (p ∷ ps) = ap (λ rest. cond (bytes_eq p.name name) (Some n) rest) (place-aside name (n + 1) ps)

pub procedure_place-aside : (p : ProgramTree) (name : List ℕ) → procedure_place (without_lines p) name ≡ procedure_place p name
procedure_place-aside p name = ap (λ k. unwrap_or k 0) (place-aside name 0 p.procedures)

any-aside : (name : List ℕ) (ps : List ProcedureTree) →
    list_any (λ q. bytes_eq q.name name) (map procedure_without_lines ps) ≡ list_any (λ q. bytes_eq q.name name) ps
any-aside name [] = refl
any-aside name (p ∷ ps) = ap (λ rest. bytes_eq p.name name || rest) (any-aside name ps)

length-aside : (ps : List ProcedureTree) → length (map procedure_without_lines ps) ≡ length ps
length-aside [] = refl
length-aside (p ∷ ps) = ap suc (length-aside ps)

pub out_places-aside : (p : ProgramTree) (s : Option ℕ) → out_places (without_lines p) s ≡ out_places p s
out_places-aside p s =
    (λ i. map (λ j. unwrap_or (place-aside (out_name s j) 0 p.procedures i) 0)
    (range_with_len 1 (prefix_len (λ j. any-aside (out_name s j) p.procedures i) (range_with_len 1 (length-aside p.procedures i)))))

alike : LinesMeanNothing → (p q : ProgramTree) → without_lines p ≡ without_lines q → AreAlike p q
alike lines p q same = record {
  structs = ap (λ (x : ProgramTree). x.structs) same;
  places = λ name. sym (procedure_place-aside p name) ∙ ap (λ x. procedure_place x name) same ∙ procedure_place-aside q name;
  outs = λ s. sym (out_places-aside p s) ∙ ap (λ x. out_places x s) same ∙ out_places-aside q s;
  runs = lines p q same;
}

-- ---- The laws

pub rows_mean_no_lines : LinesMeanNothing → RowsMeanNoLines
rows_mean_no_lines lines = record {
  outputs = λ d xs p q same h. outputs-alike p q (alike lines p q same) d xs h;
  bounded = λ d xs p q same h. bounded-alike p q (alike lines p q same) d xs h;
  ticks = λ d p q same h. rows-alike p q (alike lines p q same) d h;
  any_order = λ d hyper s p q same h. answers-alike p q (alike lines p q same) d hyper s h;
}

pub renewals_mean_no_lines : LinesMeanNothing → RenewalsMeanNoLines
renewals_mean_no_lines lines = record {
  renewed = λ d hyper s p q same h. renewed-alike p q (alike lines p q same) d hyper s h;
  restarted = λ d hyper p q same h. restarted-alike p q (alike lines p q same) d hyper h;
}
