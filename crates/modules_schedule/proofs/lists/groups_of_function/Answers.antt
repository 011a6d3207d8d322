use Rattle.std.proofs.Common.{◌≡◌, ℕ, ◌^◌, ◌+◌, ◌*◌, ◌%◌, ◌∷◌, [], ◌++◌, refl, ◌<◌, not, eqb, filter, length, get_or, bit_and, sym, ap, ◌∙◌, arith}
use Rattle.std.specs.List.{range_with_len}
use Rattle.std.proofs.lemmas.Bool.{eq-eqb, ne_eqb}
use Rattle.std.proofs.lemmas.List.{take_all}
use Rattle.std.proofs.lemmas.Grind.{one_shifted}
use Rattle.std.proofs.lemmas.List.FromFn.{length-range_with_len, get_or-range_with_len}
use Rattle.modules_schedule.proofs.ListSteps.{kept, passed_over}
use Rattle.modules_schedule.proofs.lists.groups_of_function.Goals as goal
use Rattle.modules_schedule.proofs.lists.groups_of_function.Goals.{then-holds-group-ne0+in_ok-push, else-holds-group-ne0}

-- a bit of a mask of 64, as the code shifts it
shifted_one : (j : ℕ) → j < 32 → 1 * 2 ^ j % 2 ^ 64 ≡ 2 ^ j
shifted_one j low = (one_shifted j 18446744073709551615 refl (omega arith)).0

pub loop-group-preserved : goal.loop-group-preserved
loop-group-preserved c =
    let all = range_with_len 0 (length c.args.holds.now) in
    let within : c.loop-group.group < length all =
    (let e = length-range_with_len 0 (length c.args.holds.now) in let t = c.loop-group-test.true in omega arith) in
    let here : c.loop-group.group ≡ get_or all c.loop-group.group 0 =
    sym (get_or-range_with_len 0 (length c.args.holds.now) c.loop-group.group 0 c.loop-group-test.true
    ∙ (let e : 0 + c.loop-group.group ≡ c.loop-group.group = omega arith in e)) in
    let holding = λ (g : ℕ). not (eqb (bit_and (get_or c.args.holds.now g 0) (2 ^ c.args.j)) 0) in
    let shifted : bit_and (get_or c.args.holds.now c.loop-group.group 0) (1 * 2 ^ c.args.j % 2 ^ 64)
    ≡ bit_and (get_or c.args.holds.now c.loop-group.group 0) (2 ^ c.args.j) =
    ap (bit_and (get_or c.args.holds.now c.loop-group.group 0)) (shifted_one c.args.j c.requires.function) in
    elim c.if-holds-group-ne0.branch [
      | then-holds-group-ne0+in_ok-push w ↦
          w.list-is ∙ w.in_ok-push.ensures ∙ ap (λ front. front ++ c.loop-group.group ∷ []) c.loop-group.invariant
          ∙ kept holding all c.loop-group.group c.loop-group.group within here
          (ap holding (sym here)
          ∙ ap not (ne_eqb (bit_and (get_or c.args.holds.now c.loop-group.group 0) (2 ^ c.args.j)) 0
          (λ e. w.if-holds-group-ne0.true (shifted ∙ e))))
      | else-holds-group-ne0 w ↦
          w.list-is ∙ c.loop-group.invariant
          ∙ passed_over holding all c.loop-group.group within
          (ap holding (sym here)
          ∙ ap not (eq-eqb (bit_and (get_or c.args.holds.now c.loop-group.group 0) (2 ^ c.args.j)) 0 (sym shifted
          ∙ w.if-holds-group-ne0.false)))
    ]

pub returns : goal.returns
returns c = c.loop-group.invariant ∙ ap (filter (λ g. not (eqb (bit_and (get_or c.args.holds.now g 0) (2 ^ c.args.j)) 0)))
    (take_all c.loop-group.group (range_with_len 0 (length c.args.holds.now))
    (let e = length-range_with_len 0 (length c.args.holds.now) in let t = c.loop-group-test.false in omega arith))
