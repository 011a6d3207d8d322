use Rattle.std.proofs.Common.{◌≡◌, refl, sym, ap, ◌∙◌, subst, Ok, Err, [], append-nil, drop_of_length-le}
use Rattle.std.specs.Result.{result_map_both}
use Rattle.std.specs.List.{AllZip}
use Rattle.base_refusals.specs.FirstRefusal.{as_plain, earlier_of}
use Rattle.mdl_blocks.specs.Held.{block_text}
use Rattle.mdl_systems.specs.Refusals.{read, unread_at, misformed_at, unread, misformed}
use Rattle.mdl_systems.specs.Reading.{IsRead}
use Rattle.mdl_systems.specs.Held.{seen, all_seen}
use Rattle.mdl_systems.proofs.PassLemmas.{least-at}
use Rattle.mdl_systems.proofs.ReadLemmas.{none-read, some-told, read-more}
use Rattle.mdl_systems.proofs.blocks.read_outlines.Goals as goal
use Rattle.mdl_systems.proofs.blocks.read_outlines.Goals.{in-Ok+in_ok-push-in-Ok, in-Err}

pub loop-outline-preserved : goal.loop-outline-preserved
loop-outline-preserved c =
    let d = c.args.defaults.now in
    let outlines = c.args.outlines.now in
    let i = c.loop-outline.outline-index in
    let o = c.outline-item.result in
    let h = c.loop-outline-test.true in
    let old = c.loop-outline.faults in
    let new = c.match-read_block.faults in
    let plain = result_map_both block_text (λ fault. fault) in
    elim c.match-read_block.branch [
      | in-Ok+in_ok-push-in-Ok w ↦
          let is : read d (seen o) ≡ Ok (block_text w.in-Ok.block) = sym c.read_block.ensures ∙ ap plain w.in-Ok.is in
          record {
            unread = least-at (unread d) seen outlines i o (as_plain old.unread) (as_plain new.unread) _ h
                (ap (λ f. as_plain f.unread) w.faults-is
                ∙ none-read o.section.now.line unread_at (block_text w.in-Ok.block) (read d (seen o))
                (as_plain old.unread) is refl
                ∙ ap (λ x. earlier_of (as_plain old.unread) (unread d (seen x))) c.outline-item.is) c.loop-outline.invariant.unread;
            misformed = least-at (misformed d) seen outlines i o (as_plain old.misformed) (as_plain new.misformed) _ h
                (ap (λ f. as_plain f.misformed) w.faults-is
                ∙ none-read o.section.now.line misformed_at (block_text w.in-Ok.block) (read d (seen o))
                (as_plain old.misformed) is refl
                ∙ ap (λ x. earlier_of (as_plain old.misformed) (misformed d (seen x))) c.outline-item.is)
                c.loop-outline.invariant.misformed;
            blocks = λ none. read-more d outlines i o c.loop-outline.blocks.items c.match-read_block.blocks.items
                (record { owner = o.owner; block = w.in-Ok.block }) h c.outline-item.is
                (record { owner = refl; block = is }) (ap (λ v. v.items) w.blocks-is ∙ w.in_ok-push-in-Ok.ensures.items)
                (c.loop-outline.invariant.blocks (
                  sym (ap (λ f. as_plain f.unread) w.faults-is) ∙ none.0,
                  sym (ap (λ f. as_plain f.misformed) w.faults-is) ∙ none.1,
                ));
          }
      | in-Err w ↦
          let is : read d (seen o) ≡ Err w.in-Err.fault = sym c.read_block.ensures ∙ ap plain w.in-Err.is in
          let u : as_plain new.unread ≡ earlier_of (as_plain old.unread) (unread_at o.section.now.line (Err w.in-Err.fault)) =
          ap (λ f. as_plain f.unread) w.faults-is ∙ w.with-faults.ensures.unread in
          let m : as_plain new.misformed ≡ earlier_of (as_plain old.misformed) (misformed_at o.section.now.line (Err w.in-Err.fault)) =
          ap (λ f. as_plain f.misformed) w.faults-is ∙ w.with-faults.ensures.misformed in
          record {
            unread = least-at (unread d) seen outlines i o (as_plain old.unread) (as_plain new.unread) _ h
                (u ∙ ap (λ r. earlier_of (as_plain old.unread) (unread_at o.section.now.line r)) (sym is)
                ∙ ap (λ x. earlier_of (as_plain old.unread) (unread d (seen x))) c.outline-item.is) c.loop-outline.invariant.unread;
            misformed = least-at (misformed d) seen outlines i o (as_plain old.misformed) (as_plain new.misformed) _ h
                (m ∙ ap (λ r. earlier_of (as_plain old.misformed) (misformed_at o.section.now.line r)) (sym is)
                ∙ ap (λ x. earlier_of (as_plain old.misformed) (misformed d (seen x))) c.outline-item.is)
                c.loop-outline.invariant.misformed;
            blocks =
                λ none. absurd
                (some-told o.section.now.line w.in-Err.fault (as_plain old.unread) (as_plain old.misformed) (sym u
                ∙ none.0) (sym m ∙ none.1));
          }
    ]

pub returns-clause-blocks : goal.returns-clause-blocks
returns-clause-blocks c =
    let d = c.args.defaults.now in
    let outlines = c.args.outlines.now in
    λ none. subst (λ xs. AllZip (IsRead d) (all_seen outlines) xs) (append-nil c.loop-outline.blocks.items)
    (c.loop-outline.invariant.blocks none []
    (subst (λ xs. AllZip (IsRead d) (all_seen xs) []) (sym (drop_of_length-le outlines c.loop-outline-test.false)) tt))
