use Rattle.std.proofs.Common.{◌∙◌, ◌++◌, sym, ap, map, List, rules}
use Rattle.mq_bytes.specs.Hashes.{java_hash}
use Rattle.log_model.specs.Pulls.{words_in}
use Rattle.queue_view.specs.Subscriptions.{word_in}
use Rattle.queue_view.proofs.TagLemmas.{first_word, last_word, codes_more}
use Rattle.queue_view.proofs.tags.hash_words.Goals as goal

pub loop-word-preserved : goal.loop-word-preserved
loop-word-preserved c =
    let cut = c.in-Some.ensures.cases in
    let words = first_word c.loop-word.rest.now c.in-Some.word.now c.in-Some.behind.now cut.0 cut.1 cut.2 cut.3 cut.4 cut.6 in (
      search rules,
      codes_more c.loop-word.codes.items c.hash_word.new.codes.items _ java_hash (words_in c.loop-word.rest.now) (word_in c.in-Some.word.now) (words_in c.in-Some.behind.now)
          c.loop-word.invariant.1 words (c.in_ok-hash_word.ensures),
    )

pub returns : goal.returns
returns c =
    let words = last_word c.loop-word.rest.now c.in_default.ensures.cases in
    c.in_ok-hash_word-2.ensures ∙ ap (λ (ws : List _). c.loop-word.codes.items ++ map java_hash ws) (sym words) ∙ c.loop-word.invariant.1
