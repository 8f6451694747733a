-- Two calls that leave the same twelve numbers, words and text have one outcome; and so have two that leave the same list of literals, the same rows of a
-- script, the same lines of a trace, or the same comparison.
-- Assumes nothing.
use mathlib.Core.Path.{◌≡◌, refl, sym, ◌∙◌, ap}
use mathlib.Core.List.{List, [], ◌∷◌, ◌++◌}
use Prim.Native.Nat.{ℕ, zero, suc, ◌-◌}
use lib.ListN.{length, replicate}
use Rattle.definition.specs.Escapes.{Naming}
use Rattle.definition.specs.Reading.{numbers, Call, read_numbers}
use Rattle.definition.specs.Words.{word}
use Rattle.definition_scripts.specs.Literals.{literals_into, list_numbers}
use Rattle.definition_scripts.specs.CutList.{cut_into}
use Rattle.definition_scripts.specs.Listing.{fields_into, fields_numbers}
use Rattle.definition_laws.proofs.Formed.Held.{numbers_one}
use Rattle.definition_scripts_laws.proofs.Literals.ListOne.{list_one}
use Rattle.definition_scripts_laws.proofs.Cut.CutListLaws.{cut_one}
use Rattle.definition_scripts_laws.proofs.Listing.ListingOne.{fields_one}
use Rattle.definition_replay.specs.Replay.{replay_numbers, replay_numbers_of}
use Rattle.definition_replay_laws.proofs.Replay.ReplayOne.{replay_one}
use Rattle.definition_formed.specs.Formed.{Lent}
use Rattle.definition_revisions.specs.Revisions.{compare_into, compare_numbers}
use Rattle.definition_revisions.proofs.Laws.Told.{compare_one}
use Rattle.answers.specs.Twelve.{twelve}
use Rattle.stumpgarret.specs.Calls.{CallIs, ListIs, FieldsIs, ReplayIs, CompareIs}

zeros_word : (n k : ℕ) → word (replicate n 0) k ≡ 0
zeros_word zero k = refl
zeros_word (suc n) zero = refl
zeros_word (suc n) (suc k) = zeros_word n k

word_front : (ns : List ℕ) (n k : ℕ) → word (ns ++ replicate n 0) k ≡ word ns k
word_front [] n k = zeros_word n k
word_front (x ∷ ns) n zero = refl
word_front (x ∷ ns) n (suc k) = word_front ns n k

twelve_word : (ns : List ℕ) (k : ℕ) → word (twelve ns) k ≡ word ns k
unfolding twelve
twelve_word ns k = word_front ns (12 - length ns) k

pub calls_one : (look look' : Naming) (script ns words text script' ns' words' text' answer left-words left-text : List ℕ)
    → CallIs (read_numbers look script ns words text) answer left-words left-text → CallIs (read_numbers look' script' ns' words' text') answer left-words left-text
    → (read_numbers look script ns words text).outcome ≡ (read_numbers look' script' ns' words' text').outcome
calls_one look look' script ns words text script' ns' words' text' answer left-words left-text c c' =
    numbers_one look look' script ns words text script' ns' words' text' (
      λ k. sym (twelve_word (numbers (read_numbers look script ns words text).outcome) k)
          ∙ ap (λ l. word l k) (sym c.numbered ∙ c'.numbered)
          ∙ twelve_word (numbers (read_numbers look' script' ns' words' text').outcome) k,
      sym c.words_left ∙ c'.words_left,
      sym c.text_left ∙ c'.text_left,
    )

pub lists_one : (script : List ℕ) (offset : ℕ) (buffer script' : List ℕ) (offset' : ℕ) (buffer' answer left : List ℕ)
    → ListIs (literals_into script offset buffer) answer left → ListIs (literals_into script' offset' buffer') answer left
    → (literals_into script offset buffer).listing ≡ (literals_into script' offset' buffer').listing
lists_one script offset buffer script' offset' buffer' answer left c c' =
    list_one script offset buffer script' offset' buffer'
    (λ k. sym (twelve_word (list_numbers (literals_into script offset buffer).listing) k)
    ∙ ap (λ l. word l k) (sym c.numbered ∙ c'.numbered)
    ∙ twelve_word (list_numbers (literals_into script' offset' buffer').listing) k)
    (sym c.list_left ∙ c'.list_left)

pub cuts_one : (script buffer script' buffer' answer left : List ℕ) → ListIs (cut_into script buffer) answer left → ListIs (cut_into script' buffer') answer left
    → (cut_into script buffer).listing ≡ (cut_into script' buffer').listing
cuts_one script buffer script' buffer' answer left c c' =
    cut_one script buffer script' buffer'
    (λ k. sym (twelve_word (list_numbers (cut_into script buffer).listing) k)
    ∙ ap (λ l. word l k) (sym c.numbered ∙ c'.numbered)
    ∙ twelve_word (list_numbers (cut_into script' buffer').listing) k)
    (sym c.list_left ∙ c'.list_left)

pub scripts_one : (look look' : Naming) (script buffer script' buffer' answer left : List ℕ) → FieldsIs (fields_into look script buffer) answer left → FieldsIs (fields_into look' script' buffer') answer left
    → (fields_into look script buffer).listed ≡ (fields_into look' script' buffer').listed
scripts_one look look' script buffer script' buffer' answer left c c' =
    fields_one look look' script buffer script' buffer'
    (λ k. sym (twelve_word (fields_numbers (fields_into look script buffer).listed) k)
    ∙ ap (λ l. word l k) (sym c.numbered ∙ c'.numbered)
    ∙ twelve_word (fields_numbers (fields_into look' script' buffer').listed) k)
    (sym c.rows_left_lem ∙ c'.rows_left_lem)

pub replays_one : (look look' : Naming) (script ns trace words text output script' ns' trace' words' text' output' answer left-words left-text left-output : List ℕ)
    → ReplayIs (replay_numbers look script ns trace words text output) answer left-words left-text left-output
    → ReplayIs (replay_numbers look' script' ns' trace' words' text' output') answer left-words left-text left-output
    → (replay_numbers look script ns trace words text output).result ≡ (replay_numbers look' script' ns' trace' words' text' output').result
replays_one look look' script ns trace words text output script' ns' trace' words' text' output' answer left-words left-text left-output c c' =
    replay_one look look' script ns trace words text output script' ns' trace' words' text' output' (
      λ k. sym (twelve_word (replay_numbers_of (replay_numbers look script ns trace words text output).result) k)
          ∙ ap (λ l. word l k) (sym c.numbered ∙ c'.numbered)
          ∙ twelve_word (replay_numbers_of (replay_numbers look' script' ns' trace' words' text' output').result) k,
      sym c.words_left ∙ c'.words_left,
      sym c.text_left ∙ c'.text_left,
      sym c.output_left ∙ c'.output_left,
    )

pub comparisons_one : (x y x' y' : Lent) (buffer buffer' answer left : List ℕ) → CompareIs (compare_into x y buffer) answer left → CompareIs (compare_into x' y' buffer') answer left
    → (compare_into x y buffer).outcome ≡ (compare_into x' y' buffer').outcome
comparisons_one x y x' y' buffer buffer' answer left c c' =
    compare_one x y x' y' buffer buffer'
    (λ k. sym (twelve_word (compare_numbers (compare_into x y buffer).outcome) k)
    ∙ ap (λ l. word l k) (sym c.numbered ∙ c'.numbered)
    ∙ twelve_word (compare_numbers (compare_into x' y' buffer').outcome) k)
