use Rattle.std.proofs.Common.{◌≡◌, ◌++◌, drop}
use Rattle.c_printer.specs.Comments.{shown_after}
use Rattle.c_printer.proofs.printing.comments.put_shown.Given as goal

abbrev pub invariant-loop-byte : goal.invariant-loop-byte
invariant-loop-byte l =
    l.out.items ++ shown_after l.in_utf8 l.last (drop l.byte-index l.text)
    ≡ l.initial.out.items ++ shown_after l.in_utf8 32 l.text
