-- A file with too many bytes is refused for that.
use Rattle.std.proofs.Common.{ℕ, ◌<◌, inl, List, length, refl}
use Rattle.base_refusals.specs.Refusals.{TooLong}
use Rattle.diagram_verdict.specs.Verdict.{HasVerdict, Refused as IsRefused}
use Rattle.tool_endings.specs.Told.{HostTold}
use Rattle.tool_endings.specs.EndingsOfModels.{OnNamed, OnBytes}
use Rattle.tool_endings.proofs.lemmas.Files.{longer_than}

pub long-file : (h : HostTold) (name : List ℕ) → OnNamed h name (λ x. 16_777_216 < length x) →
    OnBytes h name (λ x. HasVerdict x (IsRefused TooLong))
long-file h name long =
    let known : OnBytes h name (λ x. 16_777_216 < length x) = longer_than h name 16_777_216 long in
    record { bytes = known.bytes; file = known.file; holds = inl (inl (known.holds, refl)) }
