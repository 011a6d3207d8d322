-- Where each body is changed in one way, whatever numbers the procedures have that it calls, what was turned still is.
use Rattle.std.specs.Prelude.{◌≡◌, ℕ, zero, suc, ◌==◌, Bool, true, false, cond, List, [], ◌∷◌, map, filter, slice_index_or, Some}
use Rattle.std.proofs.Common.{refl, sym, ap, ◌∙◌}
use Rattle.c_syntax.specs.Tree.{StmtTrees, PureTree, ProcedureTree, ProgramTree}
use Rattle.c_syntax.specs.Lawful.{stmts_without_lines, pure_without_lines, without_lines}
use Rattle.emit_shape.specs.Programs.{no_procedure, struct_at, struct_place, procedures_of}
use Rattle.emit_uniform.specs.Turned.{Turn, place_among, turned_name, turned_stmts, turned_place, turned_number, turned_procedure}
use Rattle.emit_uniform.specs.Uniform.{AreTurned}
use Rattle.right_uniform.proofs.Lines.{stmts-renamed}

module _ (change : StmtTrees → StmtTrees) where
  -- a procedure with its body changed
  abbrev pub with_body : ProcedureTree → ProcedureTree
  with_body q = record { name = q.name; private = q.private; of = q.of; params = q.params; body = change q.body }

  -- a program with each so, and with these pure functions
  abbrev pub with_bodies : List PureTree → ProgramTree → ProgramTree
  with_bodies pures p = record { pures = pures; structs = p.structs; procedures = map with_body p.procedures }

  -- ---- What stays

  names-kept : (qs : List ProcedureTree) → map (λ q. q.name) (map with_body qs) ≡ map (λ q. q.name) qs
  names-kept [] = refl
  names-kept (q ∷ qs) = ap (λ names. q.name ∷ names) (names-kept qs)

  name-kept : (qs : List ProcedureTree) (k : ℕ) →
      (slice_index_or (map with_body qs) k no_procedure).name ≡ (slice_index_or qs k no_procedure).name
  name-kept [] k = refl
  name-kept (q ∷ qs) zero = refl
  name-kept (q ∷ qs) (suc k) = name-kept qs k

  of-kept : (qs : List ProcedureTree) (k : ℕ) →
      (slice_index_or (map with_body qs) k no_procedure).of ≡ (slice_index_or qs k no_procedure).of
  of-kept [] k = refl
  of-kept (q ∷ qs) zero = refl
  of-kept (q ∷ qs) (suc k) = of-kept qs k

  own-kept : (of : ℕ) (qs : List ProcedureTree) →
      filter (λ q. q.of == of) (map with_body qs) ≡ map with_body (filter (λ q. q.of == of) qs)
  own-kept of [] = refl
  own-kept of (q ∷ qs) = by (q.of == of) (own-kept of qs)
    where
      by : (b : Bool) → filter (λ x. x.of == of) (map with_body qs) ≡ map with_body (filter (λ x. x.of == of) qs) →
          cond b (with_body q ∷ filter (λ x. x.of == of) (map with_body qs)) (filter (λ x. x.of == of) (map with_body qs))
          ≡ map with_body (cond b (q ∷ filter (λ x. x.of == of) qs) (filter (λ x. x.of == of) qs))
      by true rest = ap (λ xs. with_body q ∷ xs) rest
      by false rest = rest

  -- ---- What is turned

  module _ (commutes : (number : ℕ → ℕ) (ss : StmtTrees) → change (turned_stmts number ss) ≡ turned_stmts number (change ss))
      (pures : List PureTree) (p : ProgramTree) (t : Turn) where
    numbers-kept : turned_number p t ≡ turned_number (with_bodies pures p) t
    numbers-kept = λ i k. place_among (sym (names-kept p.procedures) i)
        (turned_name t (struct_at p (sym (of-kept p.procedures k) i)).name (sym (name-kept p.procedures k) i))

    procedure-turned : (q : ProcedureTree) →
        with_body (turned_procedure p t q) ≡ turned_procedure (with_bodies pures p) t (with_body q)
    procedure-turned q =
        let body = commutes (turned_number p t) q.body ∙ ap (λ n. turned_stmts n (change q.body)) numbers-kept in
        (λ i. record {
          name = turned_name t (struct_at p q.of).name q.name;
          private = q.private;
          of = turned_place p t q.of;
          params = q.params;
          body = body i;
        })

    procedures-turned : (qs : List ProcedureTree) →
        map with_body (map (turned_procedure p t) qs) ≡ map (turned_procedure (with_bodies pures p) t) (map with_body qs)
    procedures-turned [] = refl
    procedures-turned (q ∷ qs) = λ i. procedure-turned q i ∷ procedures-turned qs i

    pub bodies-turned : (e f : ℕ) → AreTurned p t e f → AreTurned (with_bodies pures p) t e f
    bodies-turned e f h = record {
      struct = h.struct;
      procedures = own-kept (struct_place p (Some f)) p.procedures ∙ ap (map with_body) h.procedures
          ∙ procedures-turned (procedures_of p (struct_place p (Some e)))
          ∙ ap (map (turned_procedure (with_bodies pures p) t)) (sym (own-kept (struct_place p (Some e)) p.procedures));
    }

-- so it is without lines
pub lines-turned : (p : ProgramTree) (t : Turn) (e f : ℕ) → AreTurned p t e f → AreTurned (without_lines p) t e f
lines-turned p t e f h =
    bodies-turned stmts_without_lines (λ number ss. stmts-renamed (λ leaf. leaf) (λ k. k) number ss)
    (map pure_without_lines p.pures) p t e f h
