use Rattle.std.proofs.Common.{◌∙◌, ◌∷◌, ℕ, List, sym, ap, arith}
use Rattle.std.proofs.lemmas.List.{nil_from_length}
use Rattle.log_replay.proofs.WordLemmas.{words_in, words_in-nil, first_is, has_bytes, has_none}
use Rattle.log_replay.proofs.WordSteps.{a_word, no_word}
use Rattle.log_replay.proofs.words.next_word.Goals as goal

pub str_of-requires : goal.str_of-requires
str_of-requires c = ((first_is c.loop-rest.rest.now _ c.split.ensures).utf8 c.loop-rest.invariant.utf8).0

pub returns-then-not-is_empty-clause-first : goal.returns-then-not-is_empty-clause-first
returns-then-not-is_empty-clause-first c =
    let first = first_is c.loop-rest.rest.now _ c.split.ensures in
    a_word c.args.text.now c.loop-rest.rest.now _ _ c.loop-rest.invariant.words first (has_bytes _ _ c.is_empty.ensures c.if-not-is_empty.true)
    ∙ ap (λ (word : List ℕ). word ∷ words_in c.split.result.1.now) (sym c.str_of.ensures)

pub returns-then-not-is_empty-clause-utf8 : goal.returns-then-not-is_empty-clause-utf8
returns-then-not-is_empty-clause-utf8 c = ((first_is c.loop-rest.rest.now _ c.split.ensures).utf8 c.loop-rest.invariant.utf8).1

pub returns-then-not-is_empty-clause-shorter : goal.returns-then-not-is_empty-clause-shorter
returns-then-not-is_empty-clause-shorter c =
    let less = (first_is c.loop-rest.rest.now _ c.split.ensures).smaller (omega (arith, c.loop-rest-test.true)) in
    let within = c.loop-rest.invariant.within in
    omega (arith, less, within)

pub loop-rest-smaller : goal.loop-rest-smaller
loop-rest-smaller c = (first_is c.loop-rest.rest.now _ c.split.ensures).smaller (omega (arith, c.loop-rest-test.true))

pub loop-rest-preserved : goal.loop-rest-preserved
loop-rest-preserved c =
    let first = first_is c.loop-rest.rest.now _ c.split.ensures in
    let less = first.smaller (omega (arith, c.loop-rest-test.true)) in
    let within = c.loop-rest.invariant.within in
    record {
      utf8 = (first.utf8 c.loop-rest.invariant.utf8).1;
      words = no_word c.args.text.now c.loop-rest.rest.now _ _ c.loop-rest.invariant.words first (has_none _ _ c.is_empty.ensures c.if-not-is_empty.false);
      within = omega (arith, less, within);
    }

pub returns-clause-none : goal.returns-clause-none
returns-clause-none c none =
    c.loop-rest.invariant.words ∙ ap words_in (nil_from_length c.loop-rest.rest.now (omega (arith, c.loop-rest-test.false))) ∙ words_in-nil
