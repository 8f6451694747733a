use native.Mathlib.Omega.{arith}
use borrow.Author.Tests.{lt-leb}
use lib.Dec.{ltb, eqb}
use Prim.Native.Nat.{ℕ, ◌+◌}
use mathlib.Core.Path.{◌≡◌, refl, sym, ap, ap₂, ◌∙◌}
use mathlib.Core.Bool.{false}
use Rattle.definition.specs.Body.{field_case, conversion_move, open_move, close_move, quote_move, field_move}
use Rattle.utf8.specs.declared.Cursor.{Cursor}
use Rattle.utf8.proofs.Steps.{Stepped, step_char, step_end}
use Rattle.marks.specs.Marks.{case_is}
use Rattle.heads.specs.declared.State.{State}
use Rattle.heads.specs.FieldTurns.{first_of, Fits}
use Rattle.heads.proofs.FieldLaws.{ahead, changed, first_in_lem, keeps, skips, past_end, pair_in, opener_in, formats_out, closes_out, pair_goes, plain_goes, documents_goes, space_goes, backslash_stops, stray_stops, formats_calls, closes_ends, converts_is, opener_is, closer_is, quote_is, turned, stopped}
use Rattle.heads.proofs.read_turn.Goals as goal
use Rattle.heads.proofs.read_turn.Goals.{After-class_of-class, After-struct_known-2-1}

-- the cursor after the character at the state's place
abbrev after : After-class_of-class → Cursor
after c = c.in-Char.after

stepped : (c : After-struct_known-2-1) → Stepped c.args.s.now c.args.f.at c.in-Char.c c.in-Char.after
stepped c = step_char _ _ _ _ (sym c.next_char.ensures ∙ c.in-Char.is)

fits : (c : After-class_of-class) → Fits c.args.s.now c.args.f c.in-Char.c (after c)
fits c = record { room = c.requires.0; here = stepped (record { before = c.before.before; type_inv = record { text = c.type_inv.text; s = c.type_inv.s } }) }

-- the character's class is the definition's case
told : (c : After-class_of-class) → let f = c.args.f in case_is c.class_of-class.result ≡ field_case c.args.s.now f.at (eqb f.depth 0) (ltb 0 f.equals)
unfolding field_case
told c = let h = stepped (record { before = c.before.before; type_inv = record { text = c.type_inv.text; s = c.type_inv.s } }) in rw (lt-leb _ _ h.there, h.code_is, h.next_is) c.class_of-class.ensures

pub returns-in_default : goal.returns-in_default
returns-in_default c = let end = step_end _ _ (sym c.next_char.ensures ∙ c.in_default.is) in rw c.unclosed_brace.ensures (refl, λ e. past_end _ _ _ end)

pub overflow_add-to : goal.overflow_add-to
overflow_add-to c = let p = fits (goal.at.overflow_add-to c).After-class_of-class in let t = rw c.in-Pair.is at (told (goal.at.overflow_add-to c).After-class_of-class) in let l = (pair_in p t).0 in omega arith

pub convert-requires : goal.convert-requires
convert-requires c = let p = fits (goal.at.convert-requires c).After-class_of-class in record { room = p.room; here = record { there = p.here.there; code_is = refl; next_is = p.here.next_is } }

pub skip-g-requires : goal.skip-g-requires
skip-g-requires c = let l = (fits (goal.at.skip-g-requires c).After-class_of-class).here.there in (c.requires.0, omega arith)

pub skip-requires : goal.skip-requires
skip-requires c = let l = (fits (goal.at.skip-requires c).After-class_of-class).here.there in (c.requires.0, omega arith)

pub open_bracket-requires : goal.open_bracket-requires
open_bracket-requires c = let p = fits (goal.at.open_bracket-requires c).After-class_of-class in let t = rw c.in-Opener.is at (told (goal.at.open_bracket-requires c).After-class_of-class) in (c.requires.1, opener_in p t, omega (arith, (ahead p.here).1, p.room.small))

pub skip-requires-in-Closes : goal.skip-requires-in-Closes
skip-requires-in-Closes c = let l = (fits (goal.at.skip-requires-in-Closes c).After-class_of-class).here.there in (c.requires.0, omega arith)

pub close_bracket-requires : goal.close_bracket-requires
close_bracket-requires c = c.requires.0.deep

pub quoted-requires : goal.quoted-requires
quoted-requires c = fits (goal.at.quoted-requires c).After-class_of-class

pub skip-g-requires-in-Space : goal.skip-g-requires-in-Space
skip-g-requires-in-Space c = let l = (fits (goal.at.skip-g-requires-in-Space c).After-class_of-class).here.there in (c.requires.0, omega arith)

pub overflow_add-g : goal.overflow_add-g
overflow_add-g c = let r = c.requires.0 in let l = (fits (goal.at.overflow_add-g c).After-class_of-class).here.there in let n = ap (λ (x : State). x.spaces) c.skip-g-in-Space.ensures.0 in omega arith

pub returns-in-Pair : goal.returns-in-Pair
returns-in-Pair c = let p = fits (goal.at.returns-in-Pair c).After-class_of-class in let t = rw c.in-Pair.is at (told (goal.at.returns-in-Pair c).After-class_of-class) in let a = (ahead p.here).0 in keeps p.room _ ((after (goal.at.returns-in-Pair c).After-class_of-class).at + 1) _ false (omega arith) p.room.deep refl c.kept.ensures (λ e. pair_goes p _ e t)

pub returns-in-Converts : goal.returns-in-Converts
returns-in-Converts c = let p = fits (goal.at.returns-in-Converts c).After-class_of-class in let t = rw c.in-Converts.is at (told (goal.at.returns-in-Converts c).After-class_of-class) in turned p conversion_move field_move _ _ _ _ c.convert.result (λ e. converts_is p _ e t) (c.convert.ensures _)

pub returns-in-Documents : goal.returns-in-Documents
returns-in-Documents c = let p = fits (goal.at.returns-in-Documents c).After-class_of-class in let t = rw c.in-Documents.is at (told (goal.at.returns-in-Documents c).After-class_of-class) in skips p.room (after (goal.at.returns-in-Documents c).After-class_of-class).at c.args.f.spaces c.args.f.conversion (first_of c.args.f.equals (after (goal.at.returns-in-Documents c).After-class_of-class).at) c.args.f.bang (first_in_lem c.args.f.equals (after (goal.at.returns-in-Documents c).After-class_of-class).at (after (goal.at.returns-in-Documents c).After-class_of-class).at (omega (arith, p.room.equals_in, (ahead p.here).0)) (omega arith), omega (arith, p.room.bang_in, (ahead p.here).0)) c.skip-g.ensures.1 (ap₂ (λ (n : ℕ) (x : State). changed x.spaces x.conversion n x.bang x) (c.first_of.ensures) c.skip-g.ensures.0) (λ e. documents_goes p _ e t)

pub returns-in-Formats : goal.returns-in-Formats
returns-in-Formats c = let p = fits (goal.at.returns-in-Formats c).After-class_of-class in let t = rw c.in-Formats.is at (told (goal.at.returns-in-Formats c).After-class_of-class) in stopped p (formats_out p t) c.skip.ensures.0 c.skip.ensures.1 c.head_of.ensures (λ e. formats_calls p _ e t)

pub returns-in-Opener : goal.returns-in-Opener
returns-in-Opener c = let p = fits (goal.at.returns-in-Opener c).After-class_of-class in let t = rw c.in-Opener.is at (told (goal.at.returns-in-Opener c).After-class_of-class) in turned p open_move field_move _ _ _ _ c.open_bracket.result (λ e. opener_is p _ e t) (c.open_bracket.ensures _ _ p)

pub returns-in-Closes : goal.returns-in-Closes
returns-in-Closes c = let p = fits (goal.at.returns-in-Closes c).After-class_of-class in let t = rw c.in-Closes.is at (told (goal.at.returns-in-Closes c).After-class_of-class) in stopped p (closes_out p t) c.skip-in-Closes.ensures.0 c.skip-in-Closes.ensures.1 c.head_of-in-Closes.ensures (λ e. closes_ends p _ e t)

pub returns-in-Closer : goal.returns-in-Closer
returns-in-Closer c = let p = fits (goal.at.returns-in-Closer c).After-class_of-class in let t = rw c.in-Closer.is at (told (goal.at.returns-in-Closer c).After-class_of-class) in turned p close_move field_move _ _ _ _ c.close_bracket.result (λ e. closer_is p _ e t) (c.close_bracket.ensures _ _ p)

pub returns-in-Quote : goal.returns-in-Quote
returns-in-Quote c = let p = fits (goal.at.returns-in-Quote c).After-class_of-class in let t = rw c.in-Quote.is at (told (goal.at.returns-in-Quote c).After-class_of-class) in turned p quote_move field_move _ _ _ _ c.quoted.result (λ e. quote_is p _ e t) (c.quoted.ensures _ _)

pub returns-in-Space : goal.returns-in-Space
returns-in-Space c = let p = fits (goal.at.returns-in-Space c).After-class_of-class in let t = rw c.in-Space.is at (told (goal.at.returns-in-Space c).After-class_of-class) in skips p.room (after (goal.at.returns-in-Space c).After-class_of-class).at (c.args.f.spaces + 1) c.args.f.conversion c.args.f.equals c.args.f.bang (omega (arith, p.room.equals_in, (ahead p.here).0), omega (arith, p.room.bang_in, (ahead p.here).0)) c.skip-g-in-Space.ensures.1 (ap (λ (x : State). changed (x.spaces + 1) x.conversion x.equals x.bang x) c.skip-g-in-Space.ensures.0) (λ e. space_goes p _ e t)

pub returns-in-Backslash : goal.returns-in-Backslash
returns-in-Backslash c = let p = fits (goal.at.returns-in-Backslash c).After-class_of-class in let t = rw c.in-Backslash.is at (told (goal.at.returns-in-Backslash c).After-class_of-class) in rw c.refused_at.ensures (refl, λ e. backslash_stops p _ e t)

pub returns-in-Stray : goal.returns-in-Stray
returns-in-Stray c = let p = fits (goal.at.returns-in-Stray c).After-class_of-class in let t = rw c.in-Stray.is at (told (goal.at.returns-in-Stray c).After-class_of-class) in rw c.unclosed_brace-in-Stray.ensures (refl, λ e. stray_stops p _ e t)

pub returns-in-Plain : goal.returns-in-Plain
returns-in-Plain c = let p = fits (goal.at.returns-in-Plain c).After-class_of-class in let t = rw c.in-Plain.is at (told (goal.at.returns-in-Plain c).After-class_of-class) in keeps p.room _ (after (goal.at.returns-in-Plain c).After-class_of-class).at _ c.still_blank.result (omega (arith, (ahead p.here).0)) p.room.deep refl c.kept-in-Plain.ensures (λ e. plain_goes p _ e t c.still_blank.ensures)
