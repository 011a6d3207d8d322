use Rattle.std.proofs.Common.{◌≡◌, List, Option, ◌++◌, drop}
use Rattle.std.specs.List.{AllZip}
use Rattle.base_refusals.specs.FirstRefusal.{as_plain}
use Rattle.mdl_wiring.specs.declared.wiring.Wiring.{Wiring}
use Rattle.base_refusals.specs.Order.{first_of}
use Rattle.mdl_rows.specs.Models.{root_system}
use Rattle.mdl_rows.specs.Refusals.{first_in, systems_refusal}
use Rattle.mdl_rows.specs.Held.{IsInnerWired, IsSystemWired, all_seen}
use Rattle.mdl_rows.specs.HeldModels.{model_of}
use Rattle.mdl_rows.proofs.ModelLemmas.{inner_refusal}
use Rattle.mdl_rows.proofs.wirings.systems_wired.Given as goal

abbrev pub invariant-loop-block : goal.invariant-loop-block
invariant-loop-block l =
    let m = model_of l.fn.model in
    let left = all_seen (drop l.block-index l.model.blocks.items) in record {
      root : IsSystemWired m (root_system m) l.root;
      refusal : first_of (as_plain l.least) (first_in (inner_refusal m) left) ≡ systems_refusal m;
      inner : (rest : List (Option Wiring)) → AllZip (IsInnerWired m) left rest → AllZip (IsInnerWired m) m.blocks (l.inner.items ++ rest);
    }
