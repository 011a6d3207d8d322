use Rattle.std.proofs.Common.{◌<◌, length, arith}
use Rattle.std.proofs.lemmas.List.{length-map}
use Rattle.mdl_library.specs.Held.{library_seen, source_seen}
use Rattle.mdl_library.proofs.SizeLemmas.{sizes_more}
use Rattle.mdl_library.proofs.library.Library.next_sizes.Goals as goal

pub loop-place-preserved : goal.loop-place-preserved
loop-place-preserved c = λ before e.
    let library = library_seen c.args.self.now in
    let len = length-map c.args.self.now.sources.entries source_seen in
    let h : c.loop-place.place < length library.sources = omega (arith, c.loop-place-test.true, c.len-place-end.ensures.len, len) in
    sizes_more library.sources library.given before c.loop-place.place h c.loop-place.next.items c.push.new.self.items c.in_ok-size.size
    c.in_ok-push.ensures.items (c.in_ok-size.ensures before e) (c.loop-place.invariant before e)
