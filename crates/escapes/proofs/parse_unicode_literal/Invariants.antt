use Rattle.std.proofs.Common.{◌≡◌, ◌-◌, ◌<◌, ◌^◌}
use Rattle.definition.specs.Escapes.{hex_from}
use Rattle.escapes.proofs.parse_unicode_literal.Given as goal

abbrev pub invariant-loop-done : goal.invariant-loop-done
invariant-loop-done l = (l.p < 16 ^ l._done) × (hex_from l.digits 0 l.s l.letter l.letter ≡ hex_from (l.digits - l._done) l.p l.s l.cursor.at l.letter)
