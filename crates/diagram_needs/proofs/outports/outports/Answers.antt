use Rattle.std.proofs.Common.{◌≡◌, ◌∙◌, ◌+◌, ◌<◌, ◌==◌, ◌++◌, ℕ, List, Option, All, find, length, ap, sym, subst, arith}
use Rattle.std.specs.List.{filter_map, range_with_len}
use Rattle.std.specs.Option.{option_to_list}
use Rattle.std.proofs.lemmas.List.{append-nil}
use Rattle.diagram_meaning.specs.Rows.{row_at}
use Rattle.diagram_blocks.specs.Kinds.{port_of}
use Rattle.diagram_needs.proofs.OutportSteps.{own-inside, found-more, none-from}
use Rattle.diagram_needs.proofs.outports.outports.Goals as goal
use Rattle.diagram_needs.proofs.outports.outports.Goals.{in-Some+in_ok-push, in_default}

pub row_with_port-requires : goal.row_with_port-requires
row_with_port-requires c =
    subst (All (λ b. b < length c.args.rows.now)) (sym (c.deref.ensures.value ∙ c.in_ok-own.ensures))
    (own-inside c.args.rows.now c.args.system)

pub loop-k-preserved : goal.loop-k-preserved
loop-k-preserved c =
    let with : List ℕ → ℕ → Option ℕ = λ own q. find (λ b. port_of (row_at c.args.rows.now b).kind == q) own in
    let told = c.row_with_port.ensures ∙ ap (λ l. with l (c.loop-k.k + 1)) c.deref.ensures.value in
    let step =
    ap (λ l. l ++ option_to_list c.row_with_port.result) c.loop-k.invariant
    ∙ ap (λ o. filter_map (with c.in_ok-own.own.items) (range_with_len 1 c.loop-k.k) ++ option_to_list o) told
    ∙ sym (found-more (with c.in_ok-own.own.items) c.loop-k.k) in
    elim c.match-row_with_port.branch [
      | in-Some+in_ok-push w ↦ ap (λ v. v.items) w.found-is ∙ w.in_ok-push.ensures.items
          ∙ ap (λ o. c.loop-k.found.items ++ option_to_list o) (sym w.in-Some.is) ∙ step
      | in_default w ↦
          ap (λ v. v.items) w.found-is ∙ sym (append-nil c.loop-k.found.items)
          ∙ ap (λ o. c.loop-k.found.items ++ option_to_list o) (sym (none-from c.row_with_port.result w.in_default.not-Some)) ∙ step
    ]

pub returns : goal.returns
returns c =
    let with : List ℕ → ℕ → Option ℕ = λ own q. find (λ b. port_of (row_at c.args.rows.now b).kind == q) own in
    let low = c.loop-k-test.false in
    let high = c.loop-k.auto.k-end in
    let read = c.len-k-end.ensures in
    let ok = c.in_ok-own.own.ok.0 in
    let all : c.loop-k.k ≡ length c.in_ok-own.own.items = omega (arith, low, high, read, ok) in
    c.loop-k.invariant
    ∙ ap (λ n. filter_map (with c.in_ok-own.own.items) (range_with_len 1 n)) all
    ∙ ap (λ l. filter_map (with l) (range_with_len 1 (length l))) c.in_ok-own.ensures
