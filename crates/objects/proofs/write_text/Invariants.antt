use mathlib.Core.Path.{◌≡◌}
use Prim.Native.Nat.{◌≤◌}
use lib.ListN.{length, take}
use Rattle.definition_lines.specs.Lines.{escaped_text}
use Rattle.objects.specs.Written.{Adds}
use Rattle.objects.proofs.write_text.Given as goal

abbrev pub invariant-loop-byte : goal.invariant-loop-byte
invariant-loop-byte l = (l.byte-index ≤ length l.text) × (length l.out ≡ length l.initial.out) × Adds (escaped_text (take l.byte-index l.text)) l.initial.out l.used l.out l.to
