-- The names of a system's procedures and of those of its children are names, and differ.
use Rattle.std.specs.Prelude.{◌≡◌, ℕ, suc, ◌+◌, ◌^◌, ◌<◌, ◌≤◌, Bool, true, false, ◌||◌, ◌==◌, List, [], ◌∷◌, ◌++◌, map, flat_map, length, Contains, Option, Some, None, codes, decimal}
use Rattle.std.specs.List.{AllByRecursion, enumerate_from, range_with_len}
use Rattle.std.proofs.Common.{refl, sym, ap, ap₂, subst, ◌∙◌, arith, true≢false}
use Rattle.std.proofs.lemmas.Bool.{and_from}
use Rattle.std.proofs.lemmas.Fmt.{decimal_injective}
use Rattle.std.proofs.lemmas.List.{map-append, append_assoc}
use Rattle.std.proofs.lemmas.List.Elements.{All-contains}
use Rattle.modules_profile.specs.declared.local.ChildUse.{ChildUse}
use Rattle.modules_profile.specs.LocalSystem.{LocalSystem}
use Rattle.modules_profile.specs.SystemHeader.{SystemHeader}
use Rattle.modules_profile.specs.SystemProfile.{SystemProfile}
use Rattle.modules_profile.specs.Headers.{header_functions}
use Rattle.modules_profile.specs.LawfulLocals.{IsChild}
use Rattle.modules_profile.specs.Locals.{own_header}
use Rattle.modules_profile.specs.Systems.{system_name}
use Rattle.modules_profile.proofs.lemmas.Members.{in-first, in-rest, of-range, of-filter}
use Rattle.modules_schedule.specs.SystemSchedule.{SystemSchedule}
use Rattle.c_syntax.specs.Names.{is_name}
use Rattle.c_syntax.specs.Tree.{PureTree, ProcedureTree}
use Rattle.c_syntax.specs.Lawful.{AreDistinct, pure_names, procedure_names}
use Rattle.emit_prelude.specs.Rules.{IsPrelude}
use Rattle.emit_shape.specs.Names.{out_name, group_name}
use Rattle.emit_shape.specs.Heads.{out_head, update_head, start_head, reset_head, public_heads}
use Rattle.emit_shape.specs.Relocation.{Relocation, moved_procedure}
use Rattle.right_claim.specs.Alone.{bare_procedure, bare_procedures, behind_bare, alone}
use Rattle.emit_system_spec.specs.EmittedCode.{with_body, group_procedure, function_procedure, update_body, system_procedures, system_code}
use Rattle.emit_system_spec.specs.Groups.{has_some, group_nodes, code_groups, own_count}
use Rattle.emit_system_spec.specs.Renewing.{start_body, reset_body}
use Rattle.c_syntax.specs.Tree.{stmts_of_list}
use Rattle.right_system_rules.proofs.NameTexts.{IsSuffix, inner-name, top-name, numbered-suffix, update-suffix, start-suffix, reset-suffix, no_bar, parts-equal, decimal-no_bar}
use Rattle.right_system_rules.proofs.Lists.{Apart, apart-some, apart-filter, each-mapped, of-each}
use Rattle.right_system_rules.proofs.Different.{apart-by, distinct-append, all-append}
use Rattle.right_system_rules.proofs.DifferentNames.{distinct-map, apart-append, apart-map, apart-range}
use Rattle.right_system_rules.proofs.ParamNames.{is_far}
use Rattle.right_system_rules.proofs.SystemFacts.{SystemFacts, ChildFacts, systems-apart}
use Rattle.std.specs.List.{list_all}

-- ---- After a system's name

abbrev pub behind : Option ℕ → List ℕ → List ℕ
behind s suffix = system_name s ++ 95 ∷ suffix

behind-name : (s : Option ℕ) (suffix : List ℕ) → IsSuffix suffix → is_name (behind s suffix) ≡ true
behind-name None suffix is = top-name suffix is
behind-name (Some e) suffix is = inner-name e suffix is

system-no_bar : (s : Option ℕ) → list_all no_bar (system_name s) ≡ true
system-no_bar None = refl
system-no_bar (Some e) = and_from _ _ refl (decimal-no_bar e)

behind-equal : (s t : Option ℕ) (x y : List ℕ) → behind s x ≡ behind t y → (system_name s ≡ system_name t) × (x ≡ y)
behind-equal s t x y same = parts-equal (system_name s) (system_name t) x y (system-no_bar s) (system-no_bar t) same

abbrev IsBehind : Option ℕ → List ℕ → Type 0
IsBehind s name = (suffix : List ℕ) × (name ≡ behind s suffix)

-- ---- Suffixes

abbrev out_suffix : ℕ → List ℕ
out_suffix j = codes "out" ++ decimal j

abbrev group_suffix : ℕ → List ℕ
group_suffix g = codes "g" ++ decimal (suc g)

out-is : (s : Option ℕ) (j : ℕ) → out_name s j ≡ behind s (out_suffix j)
out-is s j = append_assoc (system_name s) (codes "_out") (decimal j)

group-is : (s : Option ℕ) (g : ℕ) → group_name s (suc g) ≡ behind s (group_suffix g)
group-is s g = append_assoc (system_name s) (codes "_g") (decimal (suc g))

abbrev last_suffixes : List (List ℕ)
last_suffixes = codes "update" ∷ codes "start" ∷ codes "reset" ∷ []

abbrev head_suffixes : ℕ → List (List ℕ)
head_suffixes n = map out_suffix (range_with_len 1 n) ++ last_suffixes

abbrev first : List ℕ → ℕ
first [] = 0
first (b ∷ bs) = b

abbrev same_text : List ℕ → List ℕ
same_text x = x

-- texts that begin with this letter, and others that don't
letters-apart : (letter : ℕ) (xs ys : List (List ℕ)) → AllByRecursion (λ x. first x ≡ letter) xs →
    AllByRecursion (λ y. first y ≡ letter → ⊥) ys →
    (x y : List ℕ) → Contains xs x → Contains ys y → x ≡ y → ⊥
letters-apart letter xs ys is other x y h k same =
    of-each (λ y. first y ≡ letter → ⊥) ys y other k (ap first (sym same) ∙ of-each (λ x. first x ≡ letter) xs x is h)

last-apart : Apart same_text last_suffixes
last-apart = (
  λ y h same. of-each (λ y. first y ≡ 117 →
      ⊥) (codes "start" ∷ codes "reset" ∷ []) y ((λ e. omega arith), ((λ e. omega arith), tt)) h (ap first (sym same)),
  (
    λ y h same. of-each (λ y. first y ≡ 115 → ⊥) (codes "reset" ∷ []) y ((λ e. omega arith), tt) h (ap first (sym same)),
    (λ y h same. of-each (λ y. ⊥) [] y tt h, tt),
  ),
)

heads-apart : (n : ℕ) → n ≤ 32 → Apart same_text (head_suffixes n)
heads-apart n few =
    apart-append same_text (map out_suffix (range_with_len 1 n)) last_suffixes
    (apart-map (λ (k : ℕ). k) same_text out_suffix (range_with_len 1 n)
    (λ i j h k same.
    let low = (of-range 1 n i h).1 in
    let high = (of-range 1 n j k).1 in
    decimal_injective i j (omega (arith, low, few)) (omega (arith, high, few)) (let rest : decimal i ≡ decimal j = cc same in rest))
    (apart-range 1 n))
    last-apart
    (letters-apart 111 (map out_suffix (range_with_len 1 n)) last_suffixes
    (each-mapped (λ x. first x ≡ 111) out_suffix (range_with_len 1 n) (λ j h. refl))
    ((λ e. omega arith), ((λ e. omega arith), ((λ e. omega arith), tt))))

heads-are : (n : ℕ) → AllByRecursion IsSuffix (head_suffixes n)
heads-are n =
    all-append IsSuffix (map out_suffix (range_with_len 1 n)) last_suffixes
    (each-mapped IsSuffix out_suffix (range_with_len 1 n) (λ j h. numbered-suffix (codes "out") j refl))
    (update-suffix, (start-suffix, (reset-suffix, tt)))

suffixes-distinct : (s : Option ℕ) (suffixes : List (List ℕ)) → AllByRecursion IsSuffix suffixes → Apart same_text suffixes →
    AreDistinct (map (behind s) suffixes)
suffixes-distinct s suffixes are apart =
    distinct-map same_text (behind s) suffixes (λ x h. behind-name s x (of-each IsSuffix suffixes x are h))
    (λ x y h k same. (behind-equal s s x y same).1) apart

-- ---- Children

abbrev head_names : SystemHeader → List (List ℕ)
head_names h = map (behind h.row) (head_suffixes (length (header_functions h)))

heads-named : (h : SystemHeader) (ks : List ℕ) (k : ℕ) →
    map (λ (p : ProcedureTree). p.name) (map (bare_procedure k) (map (out_head h) ks ++ update_head h ∷ start_head h ∷ reset_head h ∷ []))
    ≡ map (behind h.row) (map out_suffix ks ++ last_suffixes)
heads-named h [] k = refl
heads-named h (j ∷ ks) k = ap₂ ◌∷◌ (out-is h.row j) (heads-named h ks k)

children-named : (n : ℕ) (us : List ChildUse) →
    map (λ (p : ProcedureTree). p.name)
    (flat_map (λ (e : ℕ × ChildUse). map (bare_procedure e.0) (public_heads e.1.header)) (enumerate_from n us))
    ≡ flat_map (λ (u : ChildUse). head_names u.header) us
children-named n [] = refl
children-named n (u ∷ us) =
    map-append (λ (p : ProcedureTree). p.name) (map (bare_procedure n) (public_heads u.header))
    (flat_map (λ (e : ℕ × ChildUse). map (bare_procedure e.0) (public_heads e.1.header)) (enumerate_from (n + 1) us))
    ∙ ap₂ ◌++◌ (heads-named u.header (range_with_len 1 (length (header_functions u.header))) n) (children-named (n + 1) us)

abbrev IsOfSome : List ChildUse → List ℕ → Type 0
IsOfSome us name = (u : ChildUse) × Contains us u × IsBehind u.header.row name

of-some : (us more : List ChildUse) → ((u : ChildUse) → Contains us u → Contains more u) →
    AllByRecursion (IsOfSome more) (flat_map (λ (u : ChildUse). head_names u.header) us)
of-some [] more inside = tt
of-some (u ∷ us) more inside =
    all-append (IsOfSome more) (head_names u.header) (flat_map (λ (v : ChildUse). head_names v.header) us)
    (each-mapped (IsOfSome more) (behind u.header.row) (head_suffixes (length (header_functions u.header)))
    (λ x h. (u, inside u (in-first u us), (x, refl))))
    (of-some us more (λ v h. inside v (in-rest u v us h)))

module _ (local : LocalSystem) where
  children-distinct : (us : List ChildUse) → ((u : ChildUse) → Contains us u → ChildFacts local u × IsChild u) →
      Apart (λ (u : ChildUse). u.header.row) us →
      AreDistinct (flat_map (λ (u : ChildUse). head_names u.header) us)
  children-distinct [] facts apart = tt
  children-distinct (u ∷ us) facts apart =
      let here = facts u (in-first u us) in
      let n = length (header_functions u.header) in
      distinct-append (head_names u.header) (flat_map (λ (v : ChildUse). head_names v.header) us)
      (suffixes-distinct u.header.row (head_suffixes n) (heads-are n) (heads-apart n here.1.functions))
      (children-distinct us (λ v h. facts v (in-rest u v us h)) apart.1)
      (apart-by (IsBehind u.header.row) (IsOfSome us)
      (λ a b is of same.
      let v = of.0 in
      let there = (facts v (in-rest u v us of.1)).0 in
      let names : system_name u.header.row ≡ system_name v.header.row =
      (behind-equal u.header.row v.header.row is.0 of.2.0 (sym is.1 ∙ same ∙ of.2.1)).0 in
      let equal : here.0.row ≡ there.row =
      systems-apart here.0.row there.row here.0.small there.small
      (ap system_name (sym here.0.is_row) ∙ names ∙ ap system_name there.is_row) in
      apart.0 v of.1 (here.0.is_row ∙ ap Some equal ∙ sym there.is_row))
      (head_names u.header) (flat_map (λ (v : ChildUse). head_names v.header) us)
      (each-mapped (IsBehind u.header.row) (behind u.header.row) (head_suffixes n) (λ x h. (x, refl))) (of-some us us (λ v h. h)))

-- ---- Own procedures

module _ (local : LocalSystem) (profile : SystemProfile) (schedule : SystemSchedule) (facts : SystemFacts local profile schedule) where
  abbrev suffixes : List (List ℕ)
  suffixes = map group_suffix (code_groups schedule) ++ head_suffixes (length schedule.functions)

  abbrev last : List ProcedureTree
  last =
      let h = own_header local profile in
      with_body (update_head h) (update_body local profile schedule (update_head h).params)
      ∷ with_body (start_head h) (stmts_of_list (start_body local (own_count schedule) schedule))
      ∷ with_body (reset_head h) (stmts_of_list (reset_body local (own_count schedule))) ∷ []

  functions-named : (m : Relocation) (n : ℕ) (fs : List (List ℕ)) →
      procedure_names (map (moved_procedure m) (map (function_procedure local profile schedule) (enumerate_from n fs) ++ last))
      ≡ map (behind local.row) (map out_suffix (range_with_len n (length fs)) ++ last_suffixes)
  functions-named m n [] = refl
  functions-named m n (f ∷ fs) = ap₂ ◌∷◌ (out-is local.row n) (functions-named m (n + 1) fs)

  groups-named : (m : Relocation) (gs : List ℕ) →
      procedure_names (map (moved_procedure m)
      (map (group_procedure local profile schedule) gs ++ map (function_procedure local profile schedule)
      (enumerate_from 1 schedule.functions) ++ last))
      ≡ map (behind local.row) (map group_suffix gs ++ head_suffixes (length schedule.functions))
  groups-named m [] = functions-named m 1 schedule.functions
  groups-named m (g ∷ gs) = ap₂ ◌∷◌ (group-is local.row g) (groups-named m gs)

  own-apart : Apart same_text suffixes
  own-apart =
      let few = facts.emittable.groups in
      let functions = facts.functions in
      let most = facts.few_functions in
      let all = range_with_len 0 (length schedule.groups) in
      let test = λ (g : ℕ). has_some (group_nodes schedule g) in
      let below : (g : ℕ) → Contains (code_groups schedule) g → suc g < 2 ^ 64 =
      λ g h. (let high = (of-range 0 (length schedule.groups) g (of-filter test all g h).0).1 in omega (arith, few, high)) in
      apart-append same_text (map group_suffix (code_groups schedule)) (head_suffixes (length schedule.functions))
      (apart-map (λ (k : ℕ). k) same_text group_suffix (code_groups schedule)
      (λ g k h i same.
      let equal : suc g ≡ suc k =
      decimal_injective (suc g) (suc k) (below g h) (below k i) (let rest : decimal (suc g) ≡ decimal (suc k) = cc same in rest) in
      omega (arith, equal))
      (apart-filter (λ (k : ℕ). k) test all (apart-range 0 (length schedule.groups))))
      (heads-apart (length schedule.functions) (omega (arith, functions, most)))
      (letters-apart 103 (map group_suffix (code_groups schedule)) (head_suffixes (length schedule.functions))
      (each-mapped (λ x. first x ≡ 103) group_suffix (code_groups schedule) (λ g h. refl))
      (all-append (λ y. first y ≡ 103 → ⊥) (map out_suffix (range_with_len 1 (length schedule.functions))) last_suffixes
      (each-mapped (λ y. first y ≡ 103 → ⊥) out_suffix (range_with_len 1 (length schedule.functions)) (λ j h e. omega arith))
      ((λ e. omega arith), ((λ e. omega arith), ((λ e. omega arith), tt)))))

  own-are : AllByRecursion IsSuffix suffixes
  own-are =
      all-append IsSuffix (map group_suffix (code_groups schedule)) (head_suffixes (length schedule.functions))
      (each-mapped IsSuffix group_suffix (code_groups schedule) (λ g h. numbered-suffix (codes "g") (suc g) refl))
      (heads-are (length schedule.functions))

  -- ---- All procedures

  abbrev children_names : List (List ℕ)
  children_names = flat_map (λ (u : ChildUse). head_names u.header) local.children

  abbrev own_names : List (List ℕ)
  own_names = map (behind local.row) suffixes

  names-are : (m : Relocation) →
      procedure_names (bare_procedures local ++ map (moved_procedure m) (system_procedures local profile schedule))
      ≡ children_names ++ own_names
  names-are m =
      map-append (λ (p : ProcedureTree). p.name) (bare_procedures local)
      (map (moved_procedure m) (system_procedures local profile schedule))
      ∙ ap₂ ◌++◌ (children-named 0 local.children) (groups-named m (code_groups schedule))

  all-distinct : AreDistinct (children_names ++ own_names)
  all-distinct =
      distinct-append children_names own_names
      (children-distinct local local.children
      (λ u h. (facts.children u h, All-contains IsChild local.children u facts.lawful.are_children h))
      (apart-some (λ (u : ChildUse). u.header.row) local.children facts.lawful.numbers facts.lawful.have_numbers
      facts.lawful.children_differ))
      (suffixes-distinct local.row suffixes own-are own-apart)
      (apart-by (IsOfSome local.children) (IsBehind local.row)
      (λ a b of is same. (facts.children of.0 of.1).not_own
      (behind-equal of.0.header.row local.row of.2.0 is.0 (sym of.2.1 ∙ same ∙ is.1)).0)
      children_names own_names (of-some local.children local.children (λ v h. h))
      (each-mapped (IsBehind local.row) (behind local.row) suffixes (λ x h. (x, refl))))

  -- ---- Those of the prelude

  abbrev of_system : List ℕ → Bool
  of_system [] = false
  of_system (b ∷ bs) = (b == 115) || (b == 116)

  behind-system : (s : Option ℕ) (suffix : List ℕ) → of_system (behind s suffix) ≡ true
  behind-system None suffix = refl
  behind-system (Some e) suffix = refl

  all-behind : (P : List ℕ → Type 0) → ((s : Option ℕ) (suffix : List ℕ) → P (behind s suffix)) →
      AllByRecursion P (children_names ++ own_names)
  all-behind P holds =
      all-append P children_names own_names (some local.children) (each-mapped P (behind local.row) suffixes (λ x h. holds local.row x))
    where
      some : (us : List ChildUse) → AllByRecursion P (flat_map (λ (u : ChildUse). head_names u.header) us)
      some [] = tt
      some (u ∷ us) =
          all-append P (head_names u.header) (flat_map (λ (v : ChildUse). head_names v.header) us)
          (each-mapped P (behind u.header.row) (head_suffixes (length (header_functions u.header))) (λ x h. holds u.header.row x)) (some us)

  pub names_differ : (pures : List PureTree) → IsPrelude pures →
      AreDistinct (pure_names pures ++ procedure_names (alone local (system_code local profile schedule) pures).procedures)
  names_differ pures prelude =
      subst (λ names. AreDistinct (pure_names pures ++ names)) (sym (names-are (behind_bare local (system_code local profile schedule))))
      (distinct-append (pure_names pures) (children_names ++ own_names) prelude.distinct all-distinct
      (apart-by (λ a. of_system a ≡ false) (λ b. of_system b ≡ true) (λ a b p q same. true≢false (sym q ∙ ap of_system (sym same) ∙ p))
      (pure_names pures) (children_names ++ own_names)
      (subst (AllByRecursion (λ a. of_system a ≡ false)) (sym prelude.named)
      (refl, (refl, (refl, (refl, (refl, (refl, (refl, (refl, tt)))))))))
      (all-behind (λ b. of_system b ≡ true) behind-system)))

pub prelude-far : (pures : List PureTree) → IsPrelude pures → AllByRecursion (λ b. is_far b ≡ true) (pure_names pures)
prelude-far pures prelude =
    subst (AllByRecursion (λ b. is_far b ≡ true)) (sym prelude.named) (refl, (refl, (refl, (refl, (refl, (refl, (refl, (refl, tt))))))))
