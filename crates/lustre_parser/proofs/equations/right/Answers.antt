use Rattle.std.proofs.Common.{◌≡◌, sym, ◌∙◌, ap, subst, map, length, List, ℕ, Bor, arith}
use Rattle.std.proofs.lemmas.List.{length-map}
use Rattle.c_expressions.specs.Gives.{Gives}
use Rattle.lustre_grammar.specs.WrittenTrees.{equation_of}
use Rattle.lustre_grammar.specs.Parsing.{parse_call}
use Rattle.lustre_parser.proofs.RightSides.{right-more}
use Rattle.lustre_parser.proofs.equations.right.Goals as goal

pub returns : goal.returns
returns c =
    let shown : List (Bor (List ℕ)) → List (List ℕ) = map (λ text. text.now) in
    let others = c.args.others in
    let size : others.len ≡ length (shown others.items) =
    omega (arith, others.ok.0, length-map others.items (λ (text : Bor (List ℕ)). text.now)) in
    subst (Gives equation_of c.call.result)
    (ap (λ texts. parse_call c.args.reader.last c.args.line texts c.args.tokens.now) (ap shown c.in_ok-insert.ensures.items)
    ∙ sym (right-more c.args.reader.last c.args.line c.args.first.now (shown others.items) c.args.tokens.now others.len
    c.is_empty.result size c.is_empty.ensures c.if-is_empty.false))
    c.call.ensures
