-- The shape of a program in which helpers' bodies are in place of their calls.
use Rattle.std.specs.Prelude.{◌≡◌, ℕ, suc, ◌+◌, ◌==◌, not, Bool, true, false, if◌then◌else◌, cond, List, [], ◌∷◌, ◌++◌, map, filter, IsPermutation, Option, Some, slice_get}
use Rattle.std.proofs.Common.{refl, sym, ap, subst, ◌∙◌, arith}
use Rattle.std.proofs.lemmas.Bool.{eqb-true}
use Rattle.diagram_meaning.specs.Diagram.{Diagram}
use Rattle.modules_profile.specs.Systems.{systems}
use Rattle.modules_profile.specs.Locals.{own_header}
use Rattle.modules_profile.proofs.lemmas.Members.{at-in, of-filter}
use Rattle.c_syntax.specs.Tree.{ProcedureTree, ProgramTree}
use Rattle.c_syntax.specs.Lawful.{IsLawful}
use Rattle.emit_shape.specs.Heads.{Head, head_of, public_heads}
use Rattle.emit_shape.specs.Rules.{KeepsRules}
use Rattle.emit_shape.specs.Slots.{counters_in}
use Rattle.emit_shape.specs.Programs.{names_in, procedures_of, struct_place, struct_at}
use Rattle.emit_shape.specs.ProgramShape.{viewed, HasSystemShape, HasShape}
use Rattle.emit_pruned.proofs.lemmas.Numbers.{each-then}
use Rattle.emit_inlined.specs.Inlined.{stays, kept_from, inlined_procedure, inlined}
use Rattle.emit_inlined.proofs.lemmas.CallCounts.{inlined-is}
use Rattle.emit_inlined.proofs.lemmas.Staying.{procedure-at, was}
use Rattle.right_fused.proofs.lemmas.Lists.{each-in}
use Rattle.right_inlined.proofs.InlinedOnce.{once-inlined, used-inlined}
use Rattle.right_inlined.proofs.InlinedRoot.{fields-same, root-inlined}
use Rattle.right_inlined.proofs.InlinedRules.{keeps-inlined}

-- ---- Heads

-- the heads of the public procedures of a struct
abbrev public_in : ℕ → List ProcedureTree → List Head
public_in of xs = filter (λ (h : Head). not h.private) (map head_of (filter (λ (x : ProcedureTree). x.of == of) xs))

public-more : (of : ℕ) (x y : ProcedureTree) (xs ys : List ProcedureTree) → head_of y ≡ head_of x → y.of ≡ x.of →
    public_in of ys ≡ public_in of xs → public_in of (y ∷ ys) ≡ public_in of (x ∷ xs)
public-more of x y xs ys head same rest =
    ap (λ o. filter (λ (h : Head). not h.private) (map head_of (cond (o == of) (y ∷ filter in_struct ys) (filter in_struct ys)))) same
    ∙ by (x.of == of)
  where
    in_struct : ProcedureTree → Bool
    in_struct z = z.of == of

    by : (b : Bool) → filter (λ (h : Head). not h.private) (map head_of (cond b (y ∷ filter in_struct ys) (filter in_struct ys)))
        ≡ filter (λ (h : Head). not h.private) (map head_of (cond b (x ∷ filter in_struct xs) (filter in_struct xs)))
    by true = λ i. cond (not (head i).private) (head i ∷ rest i) (rest i)
    by false = rest

-- a private one is none of them
public-less : (of : ℕ) (x : ProcedureTree) (xs : List ProcedureTree) → x.private ≡ true → public_in of (x ∷ xs) ≡ public_in of xs
public-less of x xs private = by (x.of == of)
  where
    by : (b : Bool) →
        filter (λ (h : Head). not h.private)
        (map head_of (cond b (x ∷ filter (λ (w : ProcedureTree). w.of == of) xs) (filter (λ (w : ProcedureTree). w.of == of) xs)))
        ≡ public_in of xs
    by true = ap (λ b. cond (not b) (head_of x ∷ public_in of xs) (public_in of xs)) private
    by false = refl

module _ (p : ProgramTree) where
  -- what doesn't stay is private
  dropped-private : (k : ℕ) (x : ProcedureTree) → slice_get p.procedures k ≡ Some x → stays p k ≡ false → x.private ≡ true
  dropped-private k x there dropped =
      ap (λ (y : ProcedureTree). y.private) (sym (procedure-at p k x there)) ∙ (inlined-is p k dropped).private

  public-from : (of n : ℕ) (xs : List ProcedureTree) →
      ((k : ℕ) (x : ProcedureTree) → slice_get xs k ≡ Some x → stays p (n + k) ≡ false → x.private ≡ true) →
      public_in of (map (inlined_procedure p) (kept_from (stays p) n xs)) ≡ public_in of xs
  public-from of n [] private = refl
  public-from of n (x ∷ xs) private =
      by (stays p n) refl
      (public-from of (suc n) xs
      (λ k y there dropped. private (suc k) y there (ap (stays p) (let next : n + suc k ≡ suc n + k = omega arith in next) ∙ dropped)))
    where
      by : (b : Bool) → stays p n ≡ b → public_in of (map (inlined_procedure p) (kept_from (stays p) (suc n) xs)) ≡ public_in of xs →
          public_in of (map (inlined_procedure p) ((if b then x ∷ [] else []) ++ kept_from (stays p) (suc n) xs)) ≡ public_in of (x ∷ xs)
      by true is rest =
          public-more of x (inlined_procedure p x) xs (map (inlined_procedure p) (kept_from (stays p) (suc n) xs)) refl refl rest
      by false is rest =
          rest ∙ sym (public-less of x xs (private 0 x refl (ap (stays p) (let here : n + 0 ≡ n = omega arith in here) ∙ is)))

  public-inlined : (of : ℕ) → public_in of (inlined p).procedures ≡ public_in of p.procedures
  public-inlined of =
      public-from of 0 p.procedures
      (λ k x there dropped. dropped-private k x there (ap (stays p) (let same : k ≡ 0 + k = omega arith in same) ∙ dropped))

  -- ---- The code of one system

  pub system-inlined : IsLawful p → (d : Diagram) (delays : List Bool) (s : Option ℕ) → HasSystemShape p d delays s →
      HasSystemShape (inlined p) d delays s
  system-inlined lawful d delays s h =
      let local = viewed h.view in
      let of = struct_place p s in
      let counters = counters_in h.fields.slots in
      let m = names_in (inlined p) of in record {
        view = h.view;
        struct_there = h.struct_there;
        fields =
            record {
              slots = h.fields.slots;
              are_slots = h.fields.are_slots;
              are_fields = h.fields.are_fields ∙ fields-same p of (struct_at p of).fields;
            };
        heads = subst (IsPermutation (public_heads (own_header local h.view.profile))) (sym (public-inlined of)) h.heads;
        rules = each-in (KeepsRules m local counters) (procedures_of (inlined p) of)
            (λ y has.
            let found = of-filter (λ (x : ProcedureTree). x.of == of) (inlined p).procedures y has in
            let at = at-in (inlined p).procedures y found.0 in
            let w = was p at.0 y at.1 in
            subst (KeepsRules m local counters) w.is
            (keeps-inlined p lawful.procedures of local counters h.rules w.position w.procedure w.there
            (eqb-true w.procedure.of of (ap (λ (x : ProcedureTree). x.of == of) w.is ∙ found.1))));
        once = once-inlined p lawful.procedures of local counters h.rules h.once;
        used = used-inlined p lawful.procedures of local counters h.rules lawful.functions h.used;
      }

  pub shape-inlined : IsLawful p → (d : Diagram) (delays : List Bool) (hyper : ℕ) → HasShape p d delays hyper →
      HasShape (inlined p) d delays hyper
  shape-inlined lawful d delays hyper h = record {
    pures = h.pures;
    structs = h.structs;
    each = each-then (HasSystemShape p d delays) (HasSystemShape (inlined p) d delays) (systems d.rows)
        (λ s one. system-inlined lawful d delays s one) h.each;
    root = root-inlined p lawful d hyper h.root;
  }
