use Rattle.std.proofs.Common.{sym, subst, ◌∷◌, ◌+◌, arith}
use Rattle.c_tokens.specs.declared.bytes.Piece.TheVariants.{Comment, Token}
use Rattle.c_tokens.specs.Pieces.{IsPiece}
use Rattle.c_tokens.proofs.Pieces.{comment-fits, comment-piece, open-comment-piece, double-piece, sign-piece}
use Rattle.c_tokens.proofs.bytes.sign_piece.Goals as goal

pub overflow_add-result : goal.overflow_add-result
overflow_add-result c =
    omega (
      arith,
      comment-fits c.in-Some-comment_end.len c.in-Some.behind.now c.in-Some-comment_end.ensures,
      c.in-Some.ensures.cases.1,
    )

pub returns-in-Some-comment_end : goal.returns-in-Some-comment_end
returns-in-Some-comment_end c =
    subst (λ rest. IsPiece (Comment (2 + c.in-Some-comment_end.len)) (c.args.first ∷ rest))
    (sym c.in-Some.ensures.cases.0)
    (comment-piece c.args.first c.in-Some.second.now c.in-Some-comment_end.len c.in-Some.behind.now c.requires
    c.if-opens_comment.ensures c.in-Some-comment_end.ensures)

pub returns-in-None : goal.returns-in-None
returns-in-None c =
    subst (λ rest. IsPiece (Token 2) (c.args.first ∷ rest)) (sym c.in-Some.ensures.cases.0)
    (open-comment-piece c.args.first c.in-Some.second.now c.in-Some.behind.now c.requires c.if-opens_comment.ensures
    c.in-None.ensures)

pub returns-then-is_double_sign : goal.returns-then-is_double_sign
returns-then-is_double_sign c =
    subst (λ rest. IsPiece (Token 2) (c.args.first ∷ rest)) (sym c.in-Some.ensures.cases.0)
    (double-piece c.args.first c.in-Some.second.now c.in-Some.behind.now c.requires c.if-opens_comment.ensures
    c.if-is_double_sign.ensures)

pub returns-else-is_double_sign : goal.returns-else-is_double_sign
returns-else-is_double_sign c =
    subst (λ rest. IsPiece (Token 1) (c.args.first ∷ rest)) (sym c.in-Some.ensures.cases.0)
    (sign-piece c.args.first c.in-Some.second.now c.in-Some.behind.now c.requires c.if-opens_comment.ensures
    c.if-is_double_sign.ensures)
