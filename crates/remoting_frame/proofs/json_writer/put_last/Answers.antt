use Rattle.std.proofs.Common.{◌≡◌, ◌++◌, ◌∷◌, [], codes, rules}
use Rattle.std.proofs.lemmas.Result.{on_ok_weaker}
use Rattle.json.specs.Token.{key, string, number}
use Rattle.serde_json.specs.Find.{of_integer}
use Rattle.serde_json.specs.Written.{number_text}
use Rattle.remoting_frame.specs.Tokens.{remark_tokens}
use Rattle.remoting_frame.proofs.HeaderTokens.{last_put}
use Rattle.remoting_frame.proofs.json_writer.put_last.Goals as goal

pub returns-clause-ok : goal.returns-clause-ok
returns-clause-ok c =
    let h = c.args.header.now in
    let t1 = c.put_remark.new.out.tokens in
    let t2 = c.put_text.new.out.tokens in
    let t3 = c.put_number.new.out.tokens in
    let remark : t1 ≡ c.args.out.now.tokens ++ remark_tokens h.remark = search rules in
    let form : t2 ≡ t1 ++ key (codes "serializeTypeCurrentRPC") ∷ string (codes "JSON") ∷ [] = search rules in
    let version : t3 ≡ t2 ++ key (codes "version") ∷ number (number_text (of_integer h.version)) ∷ [] = search rules in
    on_ok_weaker c.end_object.result (λ ended. last_put h c.args.out.now.tokens t1 t2 t3 _ remark form version ended) c.end_object.ensures.ok
