use Rattle.std.proofs.Common.{sym}
use Rattle.definition.specs.Chars.{ascii}
use Rattle.held.proofs.Names.{of_length, chosen, held_of, none_of, code_one, code_two, code_three}
use Rattle.held.proofs.code_of.Goals as goal

pub returns-in-10-clause-code : goal.returns-in-10-clause-code
unfolding ascii of_length chosen
returns-in-10-clause-code c = rw (c.code_if-in-10.ensures, code_one, held_of 10 _ c.in-10.is)

pub returns-in-11-clause-code : goal.returns-in-11-clause-code
unfolding ascii of_length chosen
returns-in-11-clause-code c = rw (c.code_if-in-11.ensures, code_one, held_of 11 _ c.in-11.is)

pub returns-in-13-clause-code : goal.returns-in-13-clause-code
unfolding ascii of_length chosen
returns-in-13-clause-code c = rw (c.code_if-in-13.ensures, code_one, held_of 13 _ c.in-13.is)

pub returns-in-19-clause-code : goal.returns-in-19-clause-code
unfolding ascii of_length chosen
returns-in-19-clause-code c = rw (c.code_if-in-19.ensures, code_one, held_of 19 _ c.in-19.is)

pub returns-in-24-clause-code : goal.returns-in-24-clause-code
unfolding ascii of_length chosen
returns-in-24-clause-code c = rw (c.code_if-in-24.ensures, code_one, held_of 24 _ c.in-24.is)

pub returns-in-8-clause-code : goal.returns-in-8-clause-code
unfolding ascii of_length chosen
returns-in-8-clause-code c = rw (c.or.ensures, c.code_if.ensures, c.code_if-in-8.ensures, code_two, held_of 8 _ c.in-8.is)

pub returns-in-21-clause-code : goal.returns-in-21-clause-code
unfolding ascii of_length chosen
returns-in-21-clause-code c = rw (c.or-in-21.ensures, c.code_if-in-21.ensures, c.code_if-in-21-2.ensures, code_two, held_of 21 _ c.in-21.is)

pub returns-in-26-clause-code : goal.returns-in-26-clause-code
unfolding ascii of_length chosen
returns-in-26-clause-code c = rw (c.or-in-26.ensures, c.code_if-in-26.ensures, c.code_if-in-26-2.ensures, code_two, held_of 26 _ c.in-26.is)

pub returns-in-15-clause-code : goal.returns-in-15-clause-code
unfolding ascii of_length chosen
returns-in-15-clause-code c =
    rw (c.or-in-15-2.ensures, c.or-in-15.ensures, c.code_if-in-15.ensures, c.code_if-in-15-2.ensures, c.code_if-in-15-3.ensures, code_three, held_of 15 _ c.in-15.is)

pub returns-in_default-clause-code : goal.returns-in_default-clause-code
unfolding ascii of_length chosen
returns-in_default-clause-code c = let m = c.in_default.in_default-own.rest in sym (none_of _ (m.0.0.0.0.0.0.1, (m.0.0.0.0.1, (m.0.0.0.0.1, (m.0.0.0.0.0.0.0.1, (m.0.0.0.1, (m.0.0.0.0.0.1, (m.1, (m.1, (m.0.0.1, (m.0.0.0.0.0.0.0.0.1, (m.0.0.0.0.0.0.0.0.1, (m.0.0.0.0.1, (m.0.0.1, (m.0.1, tt)))))))))))))))
