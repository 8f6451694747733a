-- What an acceptance comes from: items in order (RULES 5.3). Assumes nothing.
use mathlib.Core.Path.{◌≡◌, refl, sym}
use mathlib.Core.Bool.{Bool, true, false, ◌||◌, true≢false, false≢true}
use mathlib.Core.List.{List, [], ◌∷◌, ◌++◌, map}
use mathlib.Core.Option.{Option, none, some}
use Prim.Native.Nat.{ℕ, suc}
use native.Mathlib.Omega.{arith}
use lib.Dec.{eqb}
use borrow.Author.Tests.{eqb-true}
use Rattle.definition.specs.Numbers.{is_fstring, is_bytes}
use Rattle.definition.specs.Escapes.{Naming, Read, got, refused}
use Rattle.definition.specs.Body.{Piece, literal, string_n, enough, alone, read_body}
use Rattle.definition.specs.Records.{Item, item_of, Answer, answer_of}
use Rattle.definition.specs.Entry.{Literal, place_of, body, Refusal, all_utf8, any_of, first_start, entry}
use Rattle.definition.specs.Reading.{Outcome, accepts, refuses, read_literal, and_then, read_from, sort_of, u_mark, last_end, all_chars, answered, read}
use Rattle.definition.proofs.Moves.CharLaws.{Utf8}
use Rattle.definition_laws.proofs.Join.EntrySplit.{Each, utf8_each}
use Rattle.definition_laws.proofs.Formed.Grammar.{Parts, flat, All}
use Rattle.definition_laws.proofs.Formed.FieldState.{Had, body_had}
use Rattle.definition_laws.proofs.Formed.Runs.{Run, run_append, run_top, run_alone}

-- AN ACCEPTANCE: the entry checks pass, and the answer is laid out from the items of all literals
pub record From (look : Naming) (script : List ℕ) (ls : List Literal) (x : Answer) : Type 0 where
  pub items : List Item
  pub passed : entry script ls ≡ none
  pub reads : read_from look script 0 ls ≡ accepts items
  pub is : x ≡ answer_of (sort_of ls) (u_mark ls) (first_start ls) (last_end 0 ls) (all_chars script ls) items

no_refusal : {P : Type 0} (r : Refusal) (x : Answer) → ◌≡◌ {A = Outcome Answer} (refuses r) (accepts x) → P
no_refusal r x e = let z : ◌≡◌ {A = ℕ} 0 1 = cc in absurd (omega arith)

same_answer : (x y : Answer) → ◌≡◌ {A = Outcome Answer} (accepts x) (accepts y) → x ≡ y
same_answer x y e = cc

pub accepted : (look : Naming) → (script : List ℕ) (ls : List Literal) (x : Answer) → read look script ls ≡ accepts x → From look script ls x
unfolding read answered
accepted look script ls x h = go (entry script ls) refl (read_from look script 0 ls) refl
  where
    go : (c : Option Refusal) → entry script ls ≡ c → (o : Outcome (List Item)) → read_from look script 0 ls ≡ o → From look script ls x
    go (some r) e o f = no_refusal r x (rw (e, read) at h)
    go none e (refuses r) f = no_refusal _ x (rw (e, f, read) at h)
    go none e (accepts xs) f = record { items = xs; passed = e; reads = f; is = sym (same_answer _ x (rw (e, f, read) at h)) }

pub neither : (a b : Bool) → a || b ≡ false → (a ≡ false) × (b ≡ false)
neither true b e = absurd (true≢false e)
neither false b e = (refl, e)

-- the items of all literals, by those of one
module _ (look : Naming) (Q : List Item → Type 0) (nothing : Q []) (both : (xs ys : List Item) → Q xs → Q ys → Q (xs ++ ys)) where
  abbrev pub Holds : Outcome (List Item) → Type 0
  Holds (accepts xs) = Q xs
  Holds (refuses r) = Unit {0}

  then_holds : (o p : Outcome (List Item)) → Holds o → Holds p → Holds (and_then o p)
  unfolding and_then
  then_holds (refuses r) p h k = tt
  then_holds (accepts xs) (refuses r) h k = tt
  then_holds (accepts xs) (accepts ys) h k = both xs ys h k

  from_holds : (P : Literal → Type 0) (script : List ℕ) → ((i : ℕ) (l : Literal) → P l → Holds (read_literal look script i l))
      → (i : ℕ) (ls : List Literal) → Each P ls → Holds (read_from look script i ls)
  unfolding read_from
  from_holds P script one i [] h = nothing
  from_holds P script one i (l ∷ ls) h = then_holds (read_literal look script i l) (read_from look script (suc i) ls) (one i l h.0) (from_holds P script one (suc i) ls h.1)

  pub each_holds : (P : Literal → Type 0) (script : List ℕ) → ((i : ℕ) (l : Literal) → P l → Holds (read_literal look script i l))
      → (ls : List Literal) (xs : List Item) → Each P ls → read_from look script 0 ls ≡ accepts xs → Q xs
  each_holds P script one ls xs h e = rw e at (from_holds P script one 0 ls h)

  -- by a test of the kinds that no literal passes
  pub all_hold : (test : ℕ → Bool) (script : List ℕ) → ((i : ℕ) (l : Literal) → test l.kind ≡ false → Holds (read_literal look script i l))
      → (ls : List Literal) (xs : List Item) → any_of test ls ≡ false → read_from look script 0 ls ≡ accepts xs → Q xs
  unfolding any_of
  all_hold test script one ls xs h e = each_holds (λ l. test l.kind ≡ false) script one ls xs (none_of ls h) e
    where
      none_of : (ls : List Literal) → any_of test ls ≡ false → Each (λ l. test l.kind ≡ false) ls
      none_of [] h = tt
      none_of (l ∷ ls) h = let n = neither (test l.kind) (any_of test ls) h in (n.0, none_of ls n.1)

  -- one literal, by its body's reading
  pub literal_holds : (script : List ℕ) (i : ℕ) (l : Literal)
      → ((ps : List Piece) (j : ℕ) → read_body look l.kind (body script l) ≡ got ps j → Q (map (item_of l.kind l.start l.end (place_of l 0)) ps)) → Holds (read_literal look script i l)
  unfolding read_literal
  literal_holds script i l h = go (read_body look l.kind (body script l)) refl
    where
      go : (r : Read (List Piece)) → read_body look l.kind (body script l) ≡ r → Holds (read_literal look script i l)
      go (got ps j) e = rw (e, read_literal) (h ps j e)
      go (refused x) e = rw (e, read_literal) tt

-- an f-string is no bytes literal
pub f_no_bytes : (kind : ℕ) → is_fstring kind ≡ true → is_bytes kind ≡ false
f_no_bytes kind h = go (eqb kind 1) refl (eqb kind 4) refl h
  where
    go : (a : Bool) → eqb kind 1 ≡ a → (b : Bool) → eqb kind 4 ≡ b → a || b ≡ true → is_bytes kind ≡ false
    go true e b f h = rw (eqb-true kind 1 e) refl
    go false e true f h = rw (eqb-true kind 4 f) refl
    go false e false f h = absurd (false≢true h)

-- without an f-string there is one piece
pub alone_piece : (look : Naming) → (kind : ℕ) (s : List ℕ) (ps : List Piece) (j : ℕ) → is_fstring kind ≡ false → read_body look kind s ≡ got ps j → (t : List ℕ) × (ps ≡ literal 0 t ∷ [])
unfolding read_body alone
alone_piece look kind s ps j h e = go (string_n look (enough s) kind s 0 []) (rw (h, read_body) at e)
  where
    go : (r : Read (List ℕ)) → alone r ≡ got ps j → (t : List ℕ) × (ps ≡ literal 0 t ∷ [])
    go (got t k) f = (t, cc)
    go (refused x) f = let z : ◌≡◌ {A = ℕ} 0 1 = cc in absurd (omega arith)

-- THE ITEMS KEEP ORDER AND RANGES (RULES 5.3, 5.5), and each field has what it must
literal_run : (look : Naming) → (script : List ℕ) (i : ℕ) (l : Literal) → Utf8 (body script l) → Holds look (Run false [] 0 0) (refl, refl) (run_append false [] 0 0) (read_literal look script i l)
literal_run look script i l utf8 = literal_holds look (Run false [] 0 0) (refl, refl) (run_append false [] 0 0) script i l (λ ps j e. go (is_fstring l.kind) refl ps j e)
  where
    I : Piece → Item
    I = item_of l.kind l.start l.end (place_of l 0)

    tree : (ps : List Piece) → (p : Parts) → ps ≡ flat 0 p [] → All Had 0 p → is_bytes l.kind ≡ false → Run false [] 0 0 (map I ps)
    tree ps p e all b = rw e (run_top l.kind l.start l.end (place_of l 0) b 0 0 p [] all (refl, refl))

    go : (t : Bool) → is_fstring l.kind ≡ t → (ps : List Piece) (j : ℕ) → read_body look l.kind (body script l) ≡ got ps j → Run false [] 0 0 (map I ps)
    go true f ps j e = let t = rw e at (body_had look l.kind (body script l) utf8 f) in tree ps t.0 t.1 t.2 (f_no_bytes l.kind f)
    go false f ps j e = let t = alone_piece look l.kind (body script l) ps j f e in rw t.1 (run_alone l.kind l.start l.end (place_of l 0) t.0)

pub items_run : (look : Naming) → (script : List ℕ) (ls : List Literal) (xs : List Item) → all_utf8 script ls ≡ none → read_from look script 0 ls ≡ accepts xs → Run false [] 0 0 xs
items_run look script ls xs u e =
    each_holds look (Run false [] 0 0) (refl, refl) (run_append false [] 0 0) (λ l. Utf8 (body script l)) script (literal_run look script) ls xs (utf8_each script ls u) e
