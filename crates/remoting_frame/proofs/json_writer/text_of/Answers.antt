use Rattle.std.proofs.Common.{◌≡◌, ◌++◌, [], FitsSigned, ap, ◌∙◌, rules}
use Rattle.std.specs.Int.{w32}
use Rattle.json.specs.Print.{print}
use Rattle.remoting_frame.proofs.HeaderTexts.{has_32_bits}
use Rattle.remoting_frame.proofs.HeaderTokens.{all_put, text_is, text_again}
use Rattle.remoting_frame.proofs.TextLengths.{length-json_text}
use Rattle.remoting_frame.proofs.json_writer.text_of.Goals as goal

pub returns-clause-text : goal.returns-clause-text
returns-clause-text c =
    let h = c.args.header.now in
    let ts = c.put_last.new.out.tokens in
    let all = all_put h _ _ ts c.new-out.ensures.tokens c.in_ok-put_first.ensures.ok c.in_ok-put_last.ensures.ok in
    let none : c.put_last.new.out.before ≡ [] = search rules in
    c.into_inner.ensures.items ∙ ap (λ before. before ++ print ts) none ∙ text_is h ts all

pub returns-clause-again : goal.returns-clause-again
returns-clause-again c =
    let h = c.args.header.now in
    let ts = c.put_last.new.out.tokens in
    let all = all_put h _ _ ts c.new-out.ensures.tokens c.in_ok-put_first.ensures.ok c.in_ok-put_last.ensures.ok in
    let code : FitsSigned w32 h.code = search rules in
    let version : FitsSigned w32 h.version = search rules in
    let opaque : FitsSigned w32 h.opaque = search rules in
    let flag : FitsSigned w32 h.flag = search rules in
    text_again h ts (has_32_bits h code version opaque flag) (search rules) all c.into_inner.ensures.reads_back c.into_inner.ensures.utf8

pub returns-clause-short : goal.returns-clause-short
returns-clause-short c =
    let h = c.args.header.now in
    let code : FitsSigned w32 h.code = search rules in
    let version : FitsSigned w32 h.version = search rules in
    let opaque : FitsSigned w32 h.opaque = search rules in
    let flag : FitsSigned w32 h.flag = search rules in
    length-json_text h (has_32_bits h code version opaque flag)
