-- The heads of a child's code, the place of its output around it, and the steps of a start and of a
-- tick.
use Rattle.std.specs.Prelude.{◌≡◌, refl, not, [], ◌∷◌, map, filter, None, codes}
use Rattle.std.specs.Fmt.{digits}
use Rattle.modules_profile.specs.LocalSamples.{shared_child, inner_header, outer_local, outer_profile}
use Rattle.modules_profile.specs.SystemHeader.{SystemHeader}
use Rattle.modules_profile.specs.Headers.{header_of}
use Rattle.emit_shape.specs.NamedLeaf.{child}
use Rattle.emit_shape.specs.Heads.{head_of, out_head, update_head, start_head, public_heads}
use Rattle.emit_shape.specs.RootCode.{calls, copies, moves_on, start_steps, tick_steps}
use Rattle.emit_shape.specs.Rules.{wire_place}
use Rattle.emit_shape.specs.TinySamples.{inner_procedures}

-- its public procedures have the heads of the header
heads : public_heads inner_header ≡ filter (λ h. not h.private) (map head_of inner_procedures)
unfolding digits
heads = refl

-- in the root, the place of the child's output is a field of the child
inner_place : wire_place outer_local 4 ≡ child (codes "s2") (codes "v4")
unfolding digits
inner_place = refl

-- a tick around it calls both functions of `top` by number, and copies both outputs by port
abbrev top_header : SystemHeader
top_header = header_of shared_child None outer_profile

in_order : tick_steps shared_child top_header
    ≡ calls (out_head top_header 1) ∷ calls (out_head top_header 2) ∷ calls (update_head top_header)
    ∷ copies 1 6 ∷ copies 2 7 ∷ moves_on ∷ []
in_order = refl

-- a start starts it, and copies both outputs
begun : start_steps shared_child top_header ≡ calls (start_head top_header) ∷ copies 1 6 ∷ copies 2 7 ∷ []
begun = refl
