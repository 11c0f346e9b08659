use Rattle.std.proofs.Common.{◌≡◌, ◌%◌, ◌^◌, ℕ, List, ap, sym, ◌∙◌}
use Rattle.std.specs.List.{flat_map}
use Rattle.std.specs.Int.Digits.{number_from_digits_after}
use Rattle.std.specs.Char.Escape.{encode_utf16}
use Rattle.std.specs.Str.{chars}
use Rattle.std.proofs.lemmas.Iterator.{YieldsList-from_chars}
use Rattle.std.proofs.lemmas.Iterator.Consumers.{YieldsList-end}
use Rattle.std.proofs.lemmas.List.{map-id}
use Rattle.mq_bytes.proofs.HashLemmas.{one_more}
use Rattle.mq_bytes.proofs.hashes.after_text.Goals as goal

pub loop-c-preserved : goal.loop-c-preserved
loop-c-preserved c = one_more c.args.start c.loop-c.yielded c.in-Some.c c.loop-c.hash c.after_char-hash.result c.loop-c.invariant c.after_char-hash.ensures

pub returns : goal.returns
returns c =
    let ended = YieldsList-end (YieldsList-from_chars c.args.text.now c.utf8.text cc) c.loop-c.yielded _ c.loop-c.yielded_by _ _ c.in-None.is c.next.ensures.steps in
    let all : c.loop-c.yielded ≡ chars c.args.text.now = sym (map-id c.loop-c.yielded) ∙ ended.0 in
    c.loop-c.invariant ∙ ap (λ (cs : List ℕ). number_from_digits_after 31 c.args.start (flat_map encode_utf16 cs) % 2 ^ 32) all
