-- The lines of a trace, one after another through the flows.
use Rattle.std.proofs.Common.{◌≡◌, sym, ◌∙◌, ap, subst, ℕ, ◌+◌, List, [], ◌∷◌, ◌++◌, length, append_assoc, arith}
use Rattle.std.specs.Prelude.{ℤ}
use Rattle.std.proofs.lemmas.List.{append-nil, length-append}
use Rattle.lustre_syntax.specs.Tree.{FileTree}
use Rattle.lustre_flows.specs.Ticks.{last_node}
use Rattle.lustre_interpreter.specs.States.{FlowState, root_of}
use Rattle.tool_traces.specs.Pieces.{with_rows}
use Rattle.tool_runner.specs.Texts.{outputs_line}
use Rattle.tool_plain_rows.specs.PlainRows.{plain_rows_after}
use Rattle.tool_plain_rows.specs.Lines.{IsRow}
use Rattle.tool_stream.specs.Walks.{Walked}
use Rattle.tool_flow_runner.specs.declared.walk.Walk.{Walk}
use Rattle.tool_flow_runner.specs.FlowTraces.{row_size, flow_lines}
use Rattle.tool_flow_runner.specs.Lines.{Ticks}
use Rattle.tool_flow_runner.proofs.FlowLaws.{IsAfter, next_after, next_lines}

-- a walk with its flows
abbrev pub Place : Type 0
Place = Walk × FlowState

-- what a line does, and what it gives to print
abbrev pub steps : Place → List ℕ → Place → Type 0
steps at line at' = Ticks line at.0 at'.0 at.1 at'.1

abbrev pub said : Place → List ℕ
said at = outputs_line at.0.outputs.items

-- these rows have ticked, and were counted
pub record HasTicked (f : FileTree) (rows : List (List ℤ)) (at : Place) : Type 0 where
  pub after : IsAfter f rows at.1
  pub count : at.0.ticks ≡ length rows

-- after some rows lines are further ones that have ticked, and this is the text of their outputs
pub record TicksOn (f : FileTree) (rows : List (List ℤ)) (lines : List (List ℕ)) (text : List ℕ) (at at' : Place) : Type 0 where
  pub more : List (List ℤ)
  pub reads : (behind : List (List ℕ)) → plain_rows_after at.0.ticks (row_size f) (lines ++ behind)
      ≡ with_rows more (plain_rows_after at'.0.ticks (row_size f) behind)
  pub ticked : HasTicked f (rows ++ more) at'
  pub printed : flow_lines f (rows ++ more) ≡ flow_lines f rows ++ text

-- a row has as many numbers as the file says
pub sized : (f : FileTree) (rows : List (List ℤ)) (s : FlowState) (row : List ℤ) (line : List ℕ) (count : ℕ) → IsAfter f rows s →
    IsRow row line count (root_of s).inputs → IsRow row line count (row_size f)
sized f rows s row line count after is = subst (λ g. IsRow row line count (last_node g).inputs) after.tree is

-- one line
one_ticked : (f : FileTree) (rows : List (List ℤ)) (at at' : Place) (line : List ℕ) (step : steps at line at') → HasTicked f rows at →
    HasTicked f (rows ++ step.row ∷ []) at'
one_ticked f rows at at' line step ticked = record {
  after = next_after f rows at.1 at'.1 step.row at'.0.outputs.items ticked.after step.tick step.file;
  count =
      let size : length (rows ++ step.row ∷ []) ≡ length rows + 1 = length-append rows (step.row ∷ []) in
      let now = step.count in
      let before = ticked.count in
      omega (arith, size, now, before);
}

pub all_ticked : (f : FileTree) (rows : List (List ℤ)) (lines : List (List ℕ)) (text : List ℕ) (at at' : Place) → HasTicked f rows at →
    Walked steps said lines text at at' → TicksOn f rows lines text at at'
all_ticked f rows [] text at at' ticked walked =
    let same = walked.1 in
    record {
      more = [];
      reads = λ behind. ap (λ (a : Place). plain_rows_after a.0.ticks (row_size f) behind) (sym same);
      ticked = subst (λ rs. HasTicked f rs at') (sym (append-nil rows)) (subst (HasTicked f rows) (sym same) ticked);
      printed =
          ap (flow_lines f) (append-nil rows) ∙ sym (append-nil (flow_lines f rows)) ∙ ap (λ t. flow_lines f rows ++ t) (sym walked.0);
    }
all_ticked f rows (line ∷ lines) text at at' ticked walked =
    let next = walked.0 in
    let step = walked.2 in
    let row = step.row in
    let others = all_ticked f (rows ++ row ∷ []) lines walked.1 next at' (one_ticked f rows at next line step ticked) walked.4 in
    let is_row = sized f rows at.1 row line at.0.ticks ticked.after step.is_row in
    record {
      more = row ∷ others.more;
      reads = λ behind.
          is_row.reads (lines ++ behind)
          ∙ ap (λ n. with_rows (row ∷ []) (plain_rows_after n (row_size f) (lines ++ behind))) (sym step.count)
          ∙ ap (with_rows (row ∷ [])) (others.reads behind);
      ticked = subst (λ rs. HasTicked f rs at') (append_assoc rows (row ∷ []) others.more) others.ticked;
      printed =
          ap (flow_lines f) (sym (append_assoc rows (row ∷ []) others.more)) ∙ others.printed
          ∙ ap (λ t. t ++ walked.1)
          (sym (next_lines f rows at.1 next.1 row next.0.outputs.items ticked.after step.tick step.file))
          ∙ append_assoc (flow_lines f rows) (said next) walked.1
          ∙ ap (λ t. flow_lines f rows ++ t) (sym walked.3);
    }
