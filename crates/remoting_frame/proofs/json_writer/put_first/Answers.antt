use Rattle.std.proofs.Common.{◌≡◌, ◌++◌, ◌∷◌, [], codes, rules}
use Rattle.std.proofs.lemmas.Result.{on_ok_weaker}
use Rattle.json.specs.Token.{begin_object, key, string, number}
use Rattle.json.specs.Tree.{members_tokens}
use Rattle.serde_json.specs.Find.{of_integer}
use Rattle.serde_json.specs.Written.{number_text, members_outline}
use Rattle.remoting_frame.specs.Written.{texts}
use Rattle.remoting_frame.proofs.HeaderTokens.{first_put}
use Rattle.remoting_frame.proofs.json_writer.put_first.Goals as goal

pub returns-clause-ok : goal.returns-clause-ok
returns-clause-ok c =
    let h = c.args.header.now in
    let t1 = c.begin_object.new.self.tokens in
    let t2 = c.put_number.new.out.tokens in
    let t3 = c.key.new.self.tokens in
    let t4 = c.put_texts.new.out.tokens in
    let t5 = c.put_number-2.new.out.tokens in
    let t6 = c.put_text.new.out.tokens in
    let opened : t1 ≡ c.args.out.now.tokens ++ begin_object ∷ [] = search rules in
    let code : t2 ≡ t1 ++ key (codes "code") ∷ number (number_text (of_integer h.code)) ∷ [] = search rules in
    let named : t3 ≡ t2 ++ key (codes "extFields") ∷ [] = c.in_ok-key.ensures.ok in
    let fields : t4 ≡ t3 ++ begin_object ∷ members_tokens (members_outline (texts h.ext)) = search rules in
    let flag : t5 ≡ t4 ++ key (codes "flag") ∷ number (number_text (of_integer h.flag)) ∷ [] = search rules in
    let language : t6 ≡ t5 ++ key (codes "language") ∷ string (codes "OTHER") ∷ [] = search rules in
    on_ok_weaker c.put_number-3.result
    (λ opaque. first_put h c.args.out.now.tokens t1 t2 t3 t4 t5 t6 _ opened code named fields flag language (search (rules, opaque)))
    c.put_number-3.ensures.ok
