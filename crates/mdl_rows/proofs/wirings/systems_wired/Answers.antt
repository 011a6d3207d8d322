use Rattle.std.proofs.Common.{sym, ◌∙◌, ap, subst, ◌<◌, ◌≤◌, List, ◌++◌, length, slice_index_or}
use Rattle.std.specs.Prelude.{filter_map}
use Rattle.std.specs.List.{AllZip}
use Rattle.base_refusals.specs.FirstRefusal.{as_plain}
use Rattle.base_refusals.specs.Order.{first_of}
use Rattle.mdl_rows.specs.declared.blocks.NumberedBlock.{NumberedBlock}
use Rattle.mdl_rows.specs.Models.{inner_system}
use Rattle.mdl_rows.specs.Refusals.{first_in, system_refusal}
use Rattle.mdl_rows.specs.Held.{IsInnerWired, seen}
use Rattle.mdl_rows.specs.HeldModels.{model_of}
use Rattle.mdl_rows.proofs.BlockLemmas.{item-among}
use Rattle.mdl_rows.proofs.FirstLemmas.{first-at, first-end}
use Rattle.mdl_rows.proofs.PassLemmas.{zip-at, zip-end}
use Rattle.mdl_rows.proofs.ModelLemmas.{inner_refusal, inner-first}
use Rattle.mdl_rows.proofs.wirings.systems_wired.Goals as goal

pub loop-block-init : goal.loop-block-init
loop-block-init c =
    let m = model_of c.args.model.now in
    let found = c.in_ok-refusal.ensures in record {
      root = found.wiring;
      refusal =
          ap (first_of (as_plain c.in_ok-refusal.field-0.refusal)) (inner-first m m.blocks)
          ∙ ap (λ o. first_of o (first_in (system_refusal m) (filter_map inner_system m.blocks))) found.refusal;
      inner = λ rest zip. subst (λ ys. AllZip (IsInnerWired m) m.blocks (ys ++ rest)) (sym c.in_ok-inner.ensures.items) zip;
    }

pub inner_wired-requires-clause-among : goal.inner_wired-requires-clause-among
inner_wired-requires-clause-among c =
    let same = c.as_slice-block-items.ensures.value in
    let b = c.block-item.result in
    item-among c.args.model.now.blocks.items c.loop-block.block-index b c.requires.blocks.numbers
    (subst (λ (bs : List NumberedBlock). c.loop-block.block-index < length bs) same c.loop-block-test.true)
    (c.block-item.is ∙ ap (λ bs. slice_index_or bs c.loop-block.block-index b) same)

pub loop-block-preserved : goal.loop-block-preserved
loop-block-preserved c =
    let m = model_of c.args.model.now in
    let same = c.as_slice-block-items.ensures.value in
    let blocks = c.args.model.now.blocks.items in
    let i = c.loop-block.block-index in
    let b = c.block-item.result in
    let h = subst (λ (bs : List NumberedBlock). i < length bs) same c.loop-block-test.true in
    let at = c.block-item.is ∙ ap (λ bs. slice_index_or bs i b) same in
    let found = c.in_ok-refusal-2.ensures in record {
      root = c.loop-block.invariant.root;
      refusal =
          first-at (inner_refusal m) seen blocks i b (as_plain c.loop-block.least) (as_plain c.first_refusal-least.result) _ h
          (c.first_refusal-least.ensures
          ∙ ap (first_of (as_plain c.loop-block.least)) (found.refusal ∙ ap (λ x. inner_refusal m (seen x)) at))
          c.loop-block.invariant.refusal;
      inner =
          zip-at (IsInnerWired m) seen blocks i b c.loop-block.inner.items c.push.new.self.items c.in_ok-refusal-2.field-0.wiring m.blocks h
          (subst (λ x. IsInnerWired m (seen x) c.in_ok-refusal-2.field-0.wiring) at found.wiring)
          c.in_ok-push.ensures.items c.loop-block.invariant.inner;
    }

pub returns-clause-refusal : goal.returns-clause-refusal
returns-clause-refusal c =
    let m = model_of c.args.model.now in
    let end =
    subst (λ (bs : List NumberedBlock). length bs ≤ c.loop-block.block-index) c.as_slice-block-items.ensures.value
    c.loop-block-test.false in
    first-end (inner_refusal m) seen c.args.model.now.blocks.items c.loop-block.block-index
    (as_plain c.loop-block.least) _ end c.loop-block.invariant.refusal

pub returns-clause-wirings : goal.returns-clause-wirings
returns-clause-wirings c =
    let m = model_of c.args.model.now in
    let end =
    subst (λ (bs : List NumberedBlock). length bs ≤ c.loop-block.block-index) c.as_slice-block-items.ensures.value
    c.loop-block-test.false in record {
      root = c.loop-block.invariant.root;
      inner = zip-end (IsInnerWired m) seen c.args.model.now.blocks.items c.loop-block.block-index
          c.loop-block.inner.items m.blocks end c.loop-block.invariant.inner;
    }
