-- The list as it is written, and what a call answers. Assumes nothing.
use mathlib.Core.Path.{◌≡◌, refl, sym, subst, ◌∙◌, ap}
use mathlib.Core.List.{List, [], ◌∷◌, ◌++◌, append-nil}
use Prim.Native.Nat.{ℕ, ◌+◌, ◌*◌, ◌≤◌, ◌<◌}
use native.Mathlib.Omega.{arith}
use Rattle.std.specs.Prelude.{Bool, true, false, ltb, Result, Ok, Err, is_err}
use borrow.Author.Tests.{lt-ltb, le-ltb, ltb-true, ltb-false}
use lib.ListN.{length, replicate, length-append}
use Rattle.definition.specs.Entry.{Literal, refusal}
use Rattle.definition.specs.Entry as d
use Rattle.definition.specs.Reading.{Outcome, accepts, refuses, last_end, zeros}
use Rattle.definition_scripts.specs.Opening.{no_kind, opens}
use Rattle.definition_scripts.specs.Literals.{literal_at, passed, Run, run, flat, Listing, refused, fitting, listed, list_after, list_into, list_numbers}
use Rattle.definition_scripts.specs.IsCut.{Ending, reaches_end, breaks_off}
use Rattle.definition_scripts.specs.Cut.{cut, cut_from, first_cut}
use Rattle.definition_scripts.specs.Listing.{reached}
use Rattle.definition_scripts.specs.CutList.{ended_by, cut_fitting, cut_listed}
use Rattle.definition_laws.proofs.Join.JoinLaw.{end_append}
use Rattle.definition_scripts_laws.proofs.Literals.OpeningLaws.{opens_in}
use Rattle.definition_scripts_laws.proofs.Literals.LiteralFound.{LiteralAt, literal_at_lem, literal_lies}
use Rattle.definition_scripts_laws.proofs.Literals.RunLaws.{passed_over, passed_ahead}
use Rattle.definition_scripts_laws.proofs.Literals.LiteralSteps.{run_ends, run_refuses, run_goes, run_after, run_after_lem}
use Rattle.definition_scripts_laws.proofs.Literals.ListLaw.{flat_length}
use Rattle.definition_scripts_laws.proofs.Cut.CutLaws.{Meets, cut_is}
use Rattle.definition_scripts_laws.proofs.Cut.CutSteps.{cut_after, cut_after_lem}
use Rattle.definition_scripts_laws.proofs.Cut.CutListLaws.{cut_short}
use Rattle.buffers.specs.Over.{over}
use Rattle.buffers.proofs.Over.{over_nil, over_append, length_over, over_front}
use Rattle.literals.specs.declared.Listed as code
use Rattle.found.specs.declared.Refusal as code-refusal
use Rattle.found.specs.declared.Broken.{Broken}
use Rattle.found.specs.declared.Broken.TheVariants as broken
use Rattle.found.specs.Found.{refusal_of, refused_by, HereIs}
use Rattle.literals.specs.declared.Unlisted.TheVariants.{Refused, Short}
use Rattle.literals.specs.Answers.{Wrote, RanIs, fitted, CallIs}

flat_append : (ls ms : List Literal) → flat (ls ++ ms) ≡ flat ls ++ flat ms
unfolding flat
flat_append [] ms = refl
flat_append (l ∷ ls) ms = rw (flat_append ls ms)

-- LITERALS WRITTEN ONE BY ONE, those that lie before a place
pub record Puts (s : List ℕ) (ls : List Literal) (buffer buffer' : List ℕ) (count at : ℕ) : Type 0 where
  pub within : at ≤ length s
  pub counted : count ≡ length ls
  pub few : count ≤ at
  pub wrote : buffer' ≡ over buffer 0 (flat ls)

pub puts_none : (s buffer : List ℕ) (at : ℕ) → at ≤ length s → Puts s [] buffer buffer 0 at
unfolding flat
puts_none s buffer at h = record { within = h; counted = refl; few = omega arith; wrote = sym (over_nil buffer 0) }

module _ (s : List ℕ) (ls : List Literal) (buffer buffer' : List ℕ) (count at : ℕ) (k : Puts s ls buffer buffer' count at) where
  pub puts_one : (l : Literal) (buffer'' : List ℕ) (to : ℕ) → at < to → to ≤ length s → buffer'' ≡ over buffer' (count * 6) (flat (l ∷ [])) → Puts s (ls ++ l ∷ []) buffer buffer'' (count + 1) to
  puts_one l buffer'' to a h g =
      let c = k.counted in
      let n = k.few in
      let m : count * 6 ≡ 0 + length (flat ls) = omega (arith, flat_length ls) in
      record { within = h; counted = omega (arith, length-append ls (l ∷ [])); few = omega arith; wrote = g ∙ rw (k.wrote, m, over_append, flat_append) }

  pub puts_all : (in_room : ℕ → Listing) (to more : ℕ) → length s ≤ 1048576 → ((room : ℕ) → in_room room ≡ fitting room ls to more) → (count ≤ 1048576) × Wrote in_room buffer buffer' (record { count = count; to = to; more = more })
  puts_all in_room to more short t =
      let f = k.few in
      let w = k.within in
      (omega arith, record { literals = ls; tells = t; counted = k.counted; wrote = k.wrote })

-- THE LOOP over a run: the literals that are listed, in front of what there is from here on
pub record Running (s : List ℕ) (from : ℕ) (buffer buffer' : List ℕ) (count end at : ℕ) : Type 0 where
  pub literals : List Literal
  pub puts : Puts s literals buffer buffer' count at
  pub same : run s from ≡ run_after literals (run s at)
  pub ends : end ≡ last_end 0 literals

pub running_starts : (s : List ℕ) (from : ℕ) (buffer : List ℕ) → from ≤ length s → Running s from buffer buffer 0 0 from
unfolding last_end
running_starts s from buffer h = record { literals = []; puts = puts_none s buffer from h; same = none_before (run s from); ends = refl }
  where
    none_before : (o : Outcome Run) → o ≡ run_after [] o
    none_before (refuses r) = refl
    none_before (accepts x) = refl

module _ (s : List ℕ) (from : ℕ) (buffer buffer' : List ℕ) (count end at : ℕ) (k : Running s from buffer buffer' count end at) (short : length s ≤ 1048576) where
  pub running_ends : no_kind ≤ opens s at → (count ≤ 1048576) × Wrote (λ room. listed room (run s from)) buffer buffer' (record { count = count; to = end; more = at })
  unfolding listed
  running_ends h =
      let e : run s from ≡ accepts (record { literals = k.literals; stop = at }) = k.same ∙ rw (run_ends s at h, append-nil) in
      puts_all s k.literals buffer buffer' count at k.puts _ end at short (λ room. ap (listed room) e ∙ ap (λ n. fitting room k.literals n at) (sym k.ends))

  -- at a literal
  module _ (kind : ℕ) (e : kind ≡ opens s at) (h : kind ≤ 6) where
    known : opens s at ≤ 6
    known = subst (λ (n : ℕ). n ≤ 6) e h

    pub running_refuses : (r : d.Refusal) → refuses r ≡ literal_at s at → (room : ℕ) → listed room (run s from) ≡ refused r
    unfolding listed
    running_refuses r f room = let e : run s from ≡ refuses r = k.same ∙ rw (run_refuses s at known r (sym f)) in ap (listed room) e

    module _ (l : Literal) (f : accepts l ≡ literal_at s at) where
      is_literal : LiteralAt s at (accepts l)
      is_literal = rw (← f) at (literal_at_lem s at known)

      pub literal_in : l.end ≤ length s
      literal_in = (literal_lies s l is_literal.1).within

      pub running_goes : (buffer'' : List ℕ) (to : ℕ) → buffer'' ≡ over buffer' (count * 6) (flat (l ∷ [])) → to ≡ passed s l.end → (at < to) × Running s from buffer buffer'' (count + 1) l.end to
      unfolding last_end
      running_goes buffer'' to g p =
          let i = is_literal.0 in
          let a = (literal_lies s l is_literal.1).ahead in
          let b = passed_ahead s (passed_over s l.end) literal_in in
          let m : at < to = omega arith in (
            m,
            record {
              literals = k.literals ++ l ∷ [];
              puts = puts_one s k.literals buffer buffer' count at k.puts l buffer'' to m (omega arith) g;
              same = k.same ∙ rw (run_goes s at known l (sym f), p) (run_after_lem k.literals l (run s (passed s l.end)));
              ends = sym (end_append 0 k.literals l []);
            },
          )

  -- at what breaks
  pub running_broken : (e : Broken) → HereIs s at (Err e) → (room : ℕ) → listed room (run s from) ≡ refused (refusal_of (refused_by e))
  running_broken (broken.Literal r) h = running_refuses (opens s at) refl h.1 (refusal_of r) h.2
  running_broken broken.TooLong h = absurd (omega arith)

-- THE LOOP over a whole cut
pub record Cutting (s buffer buffer' : List ℕ) (count at : ℕ) : Type 0 where
  pub literals : List Literal
  pub puts : Puts s literals buffer buffer' count at
  pub same : cut s ≡ cut_after literals (cut_from s at)

pub cutting_starts : (s buffer : List ℕ) → Cutting s buffer buffer 0 0
unfolding cut cut_after
cutting_starts s buffer = record { literals = []; puts = puts_none s buffer 0 (omega arith); same = refl }

module _ (s buffer buffer' : List ℕ) (count at : ℕ) (k : Cutting s buffer buffer' count at) (short : length s ≤ 1048576) where
  cutting_ends : (ending : Ending) → cut_from s at ≡ record { literals = []; ending = ending } → (count ≤ 1048576) × Wrote (cut_listed s) buffer buffer' (record { count = count; to = reached (length s) ending; more = ended_by ending })
  unfolding cut_after cut_fitting
  cutting_ends ending e =
      let f : cut s ≡ record { literals = k.literals; ending = ending } = k.same ∙ rw (e, append-nil) in
      puts_all s k.literals buffer buffer' count at k.puts (cut_listed s) _ _ short (λ room. cut_short s room short ∙ ap (cut_fitting room (length s)) f)

  pub cutting_ended : cut_from s at ≡ record { literals = []; ending = reaches_end } → (count ≤ 1048576) × Wrote (cut_listed s) buffer buffer' (record { count = count; to = length s; more = 0 })
  unfolding reached ended_by
  cutting_ended e = cutting_ends reaches_end e

  pub cutting_broken : (number place : ℕ) → cut_from s at ≡ record { literals = []; ending = breaks_off number place } → (count ≤ 1048576) × Wrote (cut_listed s) buffer buffer' (record { count = count; to = place; more = number })
  unfolding reached ended_by
  cutting_broken number place e = cutting_ends (breaks_off number place) e

  -- one literal more
  pub cutting_more : (l : Literal) (buffer'' : List ℕ) → cut_from s at ≡ first_cut l (cut_from s l.end) → buffer'' ≡ over buffer' (count * 6) (flat (l ∷ [])) → (at < l.end) × Cutting s buffer buffer'' (count + 1) l.end
  unfolding first_cut
  cutting_more l buffer'' e g =
      let p : Meets s at (first_cut l (cut_from s l.end)) = rw e at (cut_is s at k.puts.within) in
      let w = literal_lies s l p.1 in
      let a = w.ahead in
      let b = p.0.after in
      let m : at < l.end = omega arith in (
        m,
        record {
          literals = k.literals ++ l ∷ [];
          puts = puts_one s k.literals buffer buffer' count at k.puts l buffer'' l.end m w.within g;
          same = k.same ∙ ap (cut_after k.literals) e ∙ cut_after_lem k.literals l (cut_from s l.end);
        },
      )

-- WHAT WAS WRITTEN, by the room that there was
module _ (in_room : ℕ → Listing) (buffer buffer' : List ℕ) (x : code.Listed) (w : Wrote in_room buffer buffer' x) where
  same_length : length buffer' ≡ length buffer
  same_length = rw w.wrote (length_over buffer 0 (flat w.literals))

  is_needed : x.count * 6 ≡ 6 * length w.literals
  is_needed = omega (arith, w.counted)

  pub ends_short : (left : List ℕ) → left ≡ zeros buffer' → length buffer' < x.count * 6 → CallIs (list_into (in_room (length buffer)) buffer) left (Err (Short (x.count * 6)))
  unfolding fitting list_into list_after list_numbers
  ends_short left e h =
      rw (w.tells (length buffer), lt-ltb (length buffer) (6 * length w.literals) (omega (arith, same_length, is_needed)), is_needed)
      (record { answer = refl; left = e ∙ rw same_length })

  pub ends_listed : x.count * 6 ≤ length buffer' → CallIs (list_into (in_room (length buffer)) buffer) buffer' (Ok x)
  unfolding fitting list_into list_after list_numbers
  ends_listed h =
      rw (w.tells (length buffer), le-ltb (length buffer) (6 * length w.literals) (omega (arith, same_length, is_needed)))
      (record {
        answer = rw w.counted;
        left = w.wrote ∙ over_front buffer (flat w.literals) (omega (arith, same_length, is_needed, flat_length w.literals));
      })

pub opens_there : (s : List ℕ) (i kind : ℕ) → kind ≡ opens s i → kind < no_kind → (opens s i ≤ 6) × (i < length s)
opens_there s i kind e h = let k : opens s i ≤ 6 = omega arith in (k, opens_in s i k)

-- A CALL that refuses, and one whose list was written
ends_refused : (l : Listing) (buffer left : List ℕ) (r : code-refusal.Refusal) → l ≡ refused (refusal_of r) → left ≡ zeros buffer → CallIs (list_into l buffer) left (Err (Refused r))
unfolding list_into list_after list_numbers refusal
ends_refused l buffer left r e z = rw e (record { answer = refl; left = z })

pub finished : (in_room : ℕ → Listing) (buffer buffer' left : List ℕ) (r : Result code.Listed code-refusal.Refusal) → length buffer' ≡ length buffer → RanIs in_room buffer buffer' r
    → (is_err (fitted (length buffer') r) ≡ true → left ≡ zeros buffer') → (is_err (fitted (length buffer') r) ≡ false → left ≡ buffer') → CallIs (list_into (in_room (length buffer)) buffer) left (fitted (length buffer') r)
finished in_room buffer buffer' left (Err r) h p t f = ends_refused (in_room (length buffer)) buffer left r (p (length buffer)) (t refl ∙ ap (λ n. replicate n 0) h)
finished in_room buffer buffer' left (Ok x) h w t f = go (ltb (length buffer') (x.count * 6)) refl
  where
    go : (b : Bool) → ltb (length buffer') (x.count * 6) ≡ b → CallIs (list_into (in_room (length buffer)) buffer) left (fitted (length buffer') (Ok x))
    go true e = let g = rw e at t in rw e (ends_short in_room buffer buffer' x w left (g refl) (ltb-true _ _ e))
    go false e = let g = rw e at f in rw (e, g refl) (ends_listed in_room buffer buffer' x w (ltb-false _ _ e))
