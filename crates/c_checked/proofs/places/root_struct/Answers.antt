use Rattle.std.proofs.Common.{sym, ◌∙◌, ap, position, unwrap_or, bytes_eq, codes, Option, ℕ}
use Rattle.std.proofs.lemmas.Iterator.Adapters.{position_from-zero}
use Rattle.c_syntax.specs.Tree.{StructTree}
use Rattle.c_checked.proofs.places.root_struct.Goals as goal

pub returns-in-Some : goal.returns-in-Some
returns-in-Some c =
    ap (λ (o : Option ℕ). unwrap_or o 0) (sym c.in-Some.is ∙ c.position_of_struct.ensures
    ∙ ap (position (λ (d : StructTree). bytes_eq d.name (codes "root"))) c.as_slice.ensures.value
    ∙ position_from-zero (λ (d : StructTree). bytes_eq d.name (codes "root")) c.args.program.now.structs.items)

pub returns-in-None : goal.returns-in-None
returns-in-None c =
    ap (λ (o : Option ℕ). unwrap_or o 0) (sym c.in-None.is ∙ c.position_of_struct.ensures
    ∙ ap (position (λ (d : StructTree). bytes_eq d.name (codes "root"))) c.as_slice.ensures.value
    ∙ position_from-zero (λ (d : StructTree). bytes_eq d.name (codes "root")) c.args.program.now.structs.items)
