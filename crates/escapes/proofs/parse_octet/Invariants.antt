use Rattle.std.proofs.Common.{◌≡◌, ◌+◌, ◌-◌, ◌<◌, ◌^◌}
use Rattle.definition.specs.Escapes.{octal_from}
use Rattle.escapes.proofs.parse_octet.Given as goal

abbrev pub invariant-loop-done : goal.invariant-loop-done
invariant-loop-done l = (l.p < 8 ^ (l._done + 1)) × (octal_from 2 l.first l.s l.initial.cursor.at ≡ octal_from (2 - l._done) l.p l.s l.cursor.at)
