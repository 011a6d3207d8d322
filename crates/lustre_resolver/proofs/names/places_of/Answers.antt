use Rattle.std.proofs.Common.{◌≡◌, sym, ◌∙◌, ap, map, length, drop, reverse, get_or, ◌+◌, ◌++◌, ◌∷◌, [], Err, refl, List, ℕ, false, arith}
use Rattle.c_rules.specs.Resolve.{check_params}
use Rattle.c_rules.proofs.lemmas.ParamLaws.{param-passes, param-fails, from_place_or, from_end, up_to_or}
use Rattle.lustre_grammar.specs.declared.written.LusWrittenDecl.{LusWrittenDecl}
use Rattle.lustre_resolver.specs.Scopes.{line_and_text}
use Rattle.lustre_resolver.proofs.names.places_of.Goals as goal

abbrev no_name : LusWrittenDecl
no_name = record { line = 0; name = record { ref_ptr = (0, 0); now = [] }; is_bool = false }

pub returns-then-contains-clause-checked : goal.returns-then-contains-clause-checked
returns-then-contains-clause-checked c =
    let i = c.loop-d.d-index in
    let p = line_and_text (get_or c.args.declared.now i no_name) in
    c.loop-d.invariant.checked
    ∙ ap (check_params [] (reverse c.loop-d.places))
    (from_place_or line_and_text c.args.declared.now i no_name c.loop-d-test.true)
    ∙ param-fails [] c.loop-d.places p (map line_and_text (drop (i + 1) c.args.declared.now))
    (sym c.contains.ensures ∙ c.if-contains.true) ∙ ap Err (sym c.fault_at.ensures)

pub loop-d-preserved : goal.loop-d-preserved
loop-d-preserved c =
    let i = c.loop-d.d-index in
    let p = line_and_text (get_or c.args.declared.now i no_name) in
    let new = sym c.contains.ensures ∙ c.if-contains.false in
    let more = c.in_ok-push.ensures.new new in
    let rest = map line_and_text (drop (i + 1) c.args.declared.now) in
    record {
      named = more ∙ ap (λ (ns : List (List ℕ)). ns ++ p.1 ∷ []) c.loop-d.invariant.named
          ∙ up_to_or (λ (d : LusWrittenDecl). d.name.now) c.args.declared.now i no_name c.loop-d-test.true;
      checked = c.loop-d.invariant.checked
          ∙ ap (check_params [] (reverse c.loop-d.places))
          (from_place_or line_and_text c.args.declared.now i no_name c.loop-d-test.true)
          ∙ param-passes [] c.loop-d.places p rest refl new ∙ ap (λ names. check_params [] (reverse names) rest) (sym more);
    }

pub returns-clause-checked : goal.returns-clause-checked
returns-clause-checked c =
    let all : length c.args.declared.now ≡ c.loop-d.d-index =
    omega (arith, c.loop-d-test.false, c.loop-d.auto.d-index-end) in
    c.loop-d.invariant.checked
    ∙ ap (check_params [] (reverse c.loop-d.places)) (from_end line_and_text c.args.declared.now c.loop-d.d-index all)
