use Rattle.std.proofs.Common.{◌≡◌, ℕ, List, [], ◌∷◌, ◌++◌, refl, sym, ap, subst, ◌∙◌, arith}
use Rattle.std.specs.Prelude.{flat_map}
use Rattle.store_open.specs.declared.settings.Choice.{Choice}
use Rattle.store_open.specs.Options.{texts_of, word_of, written, IsFree}
use Rattle.store_open.proofs.WordLemmas.{empty, differs}
use Rattle.store_open.proofs.OptionLemmas.{one_name, wrong_first, wrong_name, missing_value, wrong_value, reads_more}
use Rattle.store_open.proofs.options.read_options.Goals as goal

pub returns-in_default-clause-wrong : goal.returns-in_default-clause-wrong
returns-in_default-clause-wrong c = wrong_first _ _ (λ x is. let none = empty _ c.in_default.ensures.cases in cc)

pub returns-then-ne-clause-wrong : goal.returns-then-ne-clause-wrong
returns-then-ne-clause-wrong c = wrong_first _ _ (λ x is.
    let first = ap texts_of c.in-Some.ensures.cases.0 in
    let named = c.word.ensures in
    let same : c.in-Some.word.now.now ≡ c.word.result.now = cc in
    differs _ _ _ c.ne.ensures c.if-ne.true same)

pub returns-in_default-read_choice-clause-wrong : goal.returns-in_default-read_choice-clause-wrong
returns-in_default-read_choice-clause-wrong c =
    let so_far = c.loop-name.invariant in
    let cut = ap texts_of c.in-Some-split_first.ensures.cases.0 in
    let words = so_far.words_are ∙ ap (λ (rest : List (List ℕ)). word_of c.args.verb ∷ (flat_map written so_far.said ++ rest)) cut in
    wrong_name _ so_far.said _ _ _ _ _ so_far.placed so_far.fit so_far.once words (λ k offered is free. c.in_default-read_choice.ensures.none refl k offered is)

pub returns-then-not-is_free-clause-wrong : goal.returns-then-not-is_free-clause-wrong
returns-then-not-is_free-clause-wrong c =
    let so_far = c.loop-name.invariant in
    let cut = ap texts_of c.in-Some-split_first.ensures.cases.0 in
    let words = so_far.words_are ∙ ap (λ (rest : List (List ℕ)). word_of c.args.verb ∷ (flat_map written so_far.said ++ rest)) cut in
    let found = c.in-Some-read_choice.ensures.found in
    wrong_name _ so_far.said _ _ _ _ _ so_far.placed so_far.fit so_far.once words (λ k offered is free.
    let same = one_name k c.in-Some-read_choice.choice (sym is ∙ found) in
    let set = c.is_free.ensures.1 (subst (λ (j : Choice). IsFree j c.loop-name.settings) same free) in
    let clear = c.if-not-is_free.true in
    cc)

pub returns-in_default-split_first-2-clause-wrong : goal.returns-in_default-split_first-2-clause-wrong
returns-in_default-split_first-2-clause-wrong c =
    let so_far = c.loop-name.invariant in
    let cut = ap texts_of c.in-Some-split_first.ensures.cases.0 in
    let words = so_far.words_are ∙ ap (λ (rest : List (List ℕ)). word_of c.args.verb ∷ (flat_map written so_far.said ++ rest)) cut in
    let found = c.in-Some-read_choice.ensures.found in
    let end = ap (λ (rest : List (List ℕ)). word_of c.args.verb ∷ (flat_map written so_far.said ++ (c.in-Some-split_first.name.now.now ∷ rest))) (empty _ c.in_default-split_first-2.ensures.cases) in
    let named = ap (λ (name : List ℕ). word_of c.args.verb ∷ (flat_map written so_far.said ++ (name ∷ []))) found in
    let free = c.is_free.ensures.0 c.if-not-is_free.false in
    missing_value _ so_far.said _ c.in-Some-read_choice.choice _ _ (omega (arith, so_far.placed)) c.in-Some-read_choice.ensures.offered so_far.fit so_far.once free (words ∙ end ∙ named)

pub returns-in_default-read_setting-clause-wrong : goal.returns-in_default-read_setting-clause-wrong
returns-in_default-read_setting-clause-wrong c =
    let so_far = c.loop-name.invariant in
    let cut = ap texts_of c.in-Some-split_first.ensures.cases.0 in
    let words = so_far.words_are ∙ ap (λ (rest : List (List ℕ)). word_of c.args.verb ∷ (flat_map written so_far.said ++ rest)) cut in
    let found = c.in-Some-read_choice.ensures.found in
    let valued = ap (λ (rest : List (List ℕ)). word_of c.args.verb ∷ (flat_map written so_far.said ++ (c.in-Some-split_first.name.now.now ∷ rest))) (ap texts_of c.in-Some-split_first-2.ensures.cases.0) in
    let named = ap (λ (name : List ℕ). word_of c.args.verb ∷ (flat_map written so_far.said ++ (name ∷ c.in-Some-split_first-2.value.now.now ∷ texts_of c.in-Some-split_first-2.more.now))) found in
    let free = c.is_free.ensures.0 c.if-not-is_free.false in
    wrong_value _ so_far.said _ c.in-Some-read_choice.choice _ _ _ _ (omega (arith, so_far.placed)) c.in-Some-read_choice.ensures.offered so_far.fit so_far.once free (words ∙ valued ∙ named)
    (λ t within is. c.in_default-read_setting.ensures.none refl t within is)

pub loop-name-preserved : goal.loop-name-preserved
loop-name-preserved c =
    reads_more _ _ _ _ _ _ _ _ _ _ _ _ c.loop-name.invariant c.in-Some-split_first.ensures.cases.0 c.in-Some-split_first-2.ensures.cases.0
    c.in-Some-read_choice.ensures.found c.in-Some-read_choice.ensures.offered c.in-Some-read_setting.ensures.found c.in-Some-read_setting.ensures.within c.put.ensures
