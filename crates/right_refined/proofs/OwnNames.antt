-- The names of a system's procedures: each begins with the name of the system, and none is that of one function more.
use Rattle.std.specs.Prelude.{◌≡◌, ◌≢◌, ◌⊎◌, ℕ, ◌+◌, ◌<◌, ◌≤◌, Bool, true, false, not, MatchBool, List, [], ◌∷◌, ◌++◌, map, Contains, Option, codes, decimal, refl, ⊤}
use Rattle.std.specs.List.{range_with_len}
use Rattle.std.proofs.Common.{sym, ap, ◌∙◌, arith, inl, inr}
use Rattle.std.proofs.lemmas.Fmt.{decimal_injective}
use Rattle.std.proofs.lemmas.List.{append_assoc, append_cancel_left}
use Rattle.std.proofs.lemmas.List.Elements.{Contains-append_cases}
use Rattle.std.proofs.lemmas.List.Sorted.{Contains-permutation, IsPermutation-sym}
use Rattle.diagram_meaning.specs.Diagram.{Diagram}
use Rattle.modules_profile.specs.SystemHeader.{SystemHeader}
use Rattle.modules_profile.specs.Systems.{system_name, systems}
use Rattle.modules_profile.proofs.lemmas.Members.{in-none, in-cases, in-map, of-map, in-filter, of-range}
use Rattle.c_syntax.specs.Tree.{ProcedureTree, ProgramTree}
use Rattle.emit_shape.specs.Names.{group_name}
use Rattle.emit_shape.specs.Heads.{Head, head_of, public_heads, out_head, out_heads, update_head, start_head, reset_head}
use Rattle.right_refined.proofs.Lists.{member}
use Rattle.right_refined.proofs.PublicProcedures.{IsShaped, system, header, count, few, own, shown, rest}

-- the first letter
abbrev first : List ℕ → ℕ
first [] = 0
first (b ∷ bs) = b

-- the own procedures of a system
module _ (p : ProgramTree) (d : Diagram) (shaped : IsShaped p d) (s : Option ℕ) (has : Contains (systems d.rows) s) where
  abbrev many : ℕ
  many = count p d shaped s has

  abbrev top : SystemHeader
  top = header p d shaped s has

  abbrev procedures : List ProcedureTree
  procedures = own p d shaped s has

  abbrev heads : List Head
  heads = shown p d shaped s has

  -- the heads that aren't those of functions
  abbrev others : List Head
  others = rest p d shaped s has

  -- after the name of the struct: that of a function, or of something else
  abbrev OwnName : List ℕ → Type 0
  OwnName name =
      ((j : ℕ) × (1 ≤ j) × (j < 1 + many) × (name ≡ system_name s ++ 95 ∷ (codes "out" ++ decimal j)))
      ⊎ ((more : List ℕ) × (name ≡ system_name s ++ 95 ∷ more) × (first more ≢ 111))

  pub split : (middle end : List ℕ) → system_name s ++ (95 ∷ middle) ++ end ≡ system_name s ++ 95 ∷ (middle ++ end)
  split middle end = append_assoc (system_name s) (95 ∷ middle) end

  of-head : (head : Head) → Contains (public_heads top) head → OwnName head.name
  of-head head among = elim (Contains-append_cases (out_heads top) others head among) [
    | inl out ↦
        let made = of-map (out_head top) (range_with_len 1 many) head out in
        let within = of-range 1 many made.0 made.1 in
        inl (made.0, within.0, within.1, sym (ap (λ (z : Head). z.name) made.2) ∙ split (codes "out") (decimal made.0))
    | inr other ↦ elim (in-cases (update_head top) head (start_head top ∷ reset_head top ∷ []) other) [
      | inl is ↦ inr (codes "update", sym (ap (λ (z : Head). z.name) is), λ e. omega (arith, e))
      | inr more ↦ elim (in-cases (start_head top) head (reset_head top ∷ []) more) [
        | inl is ↦ inr (codes "start", sym (ap (λ (z : Head). z.name) is), λ e. omega (arith, e))
        | inr last ↦ elim (in-cases (reset_head top) head [] last) [
          | inl is ↦ inr (codes "reset", sym (ap (λ (z : Head). z.name) is), λ e. omega (arith, e))
          | inr none ↦ absurd (in-none head none)
        ]
      ]
    ]
  ]

  own-name : (h : ProcedureTree) → Contains procedures h → OwnName h.name
  own-name h inside = by h.private refl (member _ procedures h (system p d shaped s has).rules inside).private_name
    where
      by : (t : Bool) → h.private ≡ t → MatchBool t ((g : ℕ) × (h.name ≡ group_name s g)) ⊤ → OwnName h.name
      by true e named = inr (103 ∷ decimal named.0, named.1 ∙ split (codes "g") (decimal named.0), λ same. omega (arith, same))
      by false e named =
          of-head (head_of h)
          (Contains-permutation heads (public_heads top) (head_of h)
          (IsPermutation-sym (public_heads top) heads (system p d shaped s has).heads)
          (in-filter (λ (z : Head). not z.private) (map head_of procedures) (head_of h) (in-map head_of procedures h inside) (ap not e)))

  -- so it begins with the name of the struct
  pub own-front : (h : ProcedureTree) → Contains procedures h → (more : List ℕ) × (h.name ≡ system_name s ++ 95 ∷ more)
  own-front h inside = elim (own-name h inside) [
    | inl out ↦ (codes "out" ++ decimal out.0, out.3)
    | inr other ↦ (other.0, other.1)
  ]

  -- none has the name of one function more
  pub own-apart : (h : ProcedureTree) → Contains procedures h → h.name ≡ system_name s ++ 95 ∷ (codes "out" ++ decimal (1 + many)) → ⊥
  own-apart h inside same = elim (own-name h inside) [
    | inl out ↦
        let digits : decimal out.0 ≡ decimal (1 + many) =
        append_cancel_left (codes "out") (decimal out.0) (decimal (1 + many))
        (append_cancel_left (95 ∷ []) (codes "out" ++ decimal out.0) (codes "out" ++ decimal (1 + many))
        (append_cancel_left (system_name s) (95 ∷ (codes "out" ++ decimal out.0)) (95 ∷ (codes "out" ++ decimal (1 + many)))
        (sym out.3 ∙ same))) in
        let high = out.2 in
        let fits = few p d shaped s has in
        let equal = decimal_injective out.0 (1 + many) (omega (arith, high, fits)) (omega (arith, fits)) digits in
        omega (arith, equal, high)
    | inr other ↦
        other.2
        (ap first
        (append_cancel_left (95 ∷ []) other.0 (codes "out" ++ decimal (1 + many))
        (append_cancel_left (system_name s) (95 ∷ other.0) (95 ∷ (codes "out" ++ decimal (1 + many))) (sym other.1 ∙ same))))
  ]
