-- Calls of groups whose parameters are in a list by their numbers, and the functions that consist of them.
use Rattle.std.specs.List.{range_with_len}
use Rattle.std.proofs.Common.{◌≡◌, refl, ap, ap₂, ◌∙◌, ℕ, ◌<◌, List, [], ◌∷◌, map, length, All, get_or, slice_index_or, false, zero-add, arith}
use Rattle.std.proofs.lemmas.List.{get_or-map}
use Rattle.std.proofs.lemmas.List.Elements.{All-head, All-tail}
use Rattle.std.proofs.lemmas.List.FromFn.{get_or-range_with_len, length-map-range_with_len, length-range_with_len}
use Rattle.modules_profile.specs.LocalSystem.{LocalSystem}
use Rattle.modules_profile.specs.SystemProfile.{SystemProfile}
use Rattle.modules_profile.specs.Locals.{own_header}
use Rattle.modules_schedule.specs.SystemSchedule.{SystemSchedule}
use Rattle.c_syntax.specs.Tree.{StmtTree, ParamTree, ProcedureTree, stmts_of_list}
use Rattle.emit_shape.specs.Heads.{out_head}
use Rattle.emit_shape.specs.Names.{out_name}
use Rattle.emit_system_spec.specs.EmittedCode.{with_body, own_call, group_params, function_procedure}

-- what is at a number is what was made for it
pub get_or_mapped_range : {A : Type 0} (f : ℕ → A) (n k : ℕ) (d : A) → k < n → get_or (map f (range_with_len 0 n)) k d ≡ f k
get_or_mapped_range f n k d inside =
    let within : k < length (range_with_len 0 n) = let l = length-range_with_len 0 n in omega (arith, l, inside) in
    get_or-map f (range_with_len 0 n) k 0 d within ∙ ap f (get_or-range_with_len 0 n k 0 inside ∙ zero-add k)

-- what is taken from the list is what the list was made by
taken_from_range : {A B : Type 0} (made : ℕ → A → B) (f : ℕ → A) (n : ℕ) (list : List A) (d : A) (called : List ℕ) →
    list ≡ map f (range_with_len 0 n) → All (λ g. g < n) called →
    map (λ g. made g (slice_index_or list g d)) called ≡ map (λ g. made g (f g)) called
taken_from_range made f n list d [] is low = refl
taken_from_range made f n list d (g ∷ called) is low =
    ap₂ (λ y ys. y ∷ ys)
    (ap (made g) (ap (λ xs. slice_index_or xs g d) is ∙ get_or_mapped_range f n g d (All-head (λ k. k < n) g called low)))
    (taken_from_range made f n list d called is (All-tail (λ k. k < n) g called low))

-- the list has them all
pub low_in_range : {A : Type 0} (f : ℕ → A) (n : ℕ) (list : List A) (called : List ℕ) → list ≡ map f (range_with_len 0 n) →
    All (λ g. g < n) called → All (λ g. g < length list) called
low_in_range f n list called is low k d below =
    let many = ap length is ∙ length-map-range_with_len f 0 n in let h = low k d below in omega (arith, many, h)

pub function_is : (local : LocalSystem) (profile : SystemProfile) (schedule : SystemSchedule) (j : ℕ) (name : List ℕ)
    (params given : List ParamTree) (body : List StmtTree) (wanted : List (List ParamTree)) (called : List ℕ) (made : ProcedureTree) →
    made ≡ with_body (record { name = name; private = false; params = given }) (stmts_of_list body) →
    name ≡ out_name local.row j → given ≡ params → params ≡ (out_head (own_header local profile) j).params →
    body ≡ map (λ g. own_call params g (slice_index_or wanted g [])) called →
    wanted ≡ map (group_params local profile schedule) (range_with_len 0 (length schedule.groups)) →
    All (λ g. g < length schedule.groups) called → made ≡ function_procedure local profile schedule (j, called)
function_is local profile schedule j name params given body wanted called made made_is name_is given_is params_is body_is wanted_is low =
    let calls = body_is ∙ taken_from_range (own_call params) (group_params local profile schedule) (length schedule.groups) wanted [] called
    wanted_is low ∙ ap (λ (ps : List ParamTree). map (λ g. own_call ps g (group_params local profile schedule g)) called) params_is in
    let all = given_is ∙ params_is in
    made_is ∙ (λ i. with_body (record { name = name_is i; private = false; params = all i }) (stmts_of_list (calls i)))
