use Rattle.std.proofs.Common.{◌∙◌, ◌++◌, ap, map, rules, List}
use Rattle.mq_bytes.specs.Hashes.{java_hash}
use Rattle.log_model.specs.Pulls.{words_in}
use Rattle.queue_view.proofs.TagLemmas.{read_takes}
use Rattle.queue_view.proofs.tags.Tags.read.Goals as goal

pub returns : goal.returns
returns c =
    read_takes c.args.text.now c.hash_words.new.codes.items (search rules)
    (c.in_ok-hash_words.ensures ∙ ap (λ (codes : List _). codes ++ map java_hash (words_in c.args.text.now)) c.new-codes.ensures.items)
