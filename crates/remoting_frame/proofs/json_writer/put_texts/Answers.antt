use Rattle.std.proofs.Common.{◌≡◌, ◌++◌, ◌∷◌, [], ◌∙◌, ap, arith, rules}
use Rattle.std.proofs.lemmas.Result.{on_ok_weaker}
use Rattle.json.specs.Token.{end_object, key, string}
use Rattle.remoting_frame.proofs.HeaderTokens.{pair_tokens-next, texts_ended}
use Rattle.remoting_frame.proofs.json_writer.put_texts.Goals as goal

pub loop-index-preserved : goal.loop-index-preserved
loop-index-preserved c =
    let name = c.at.result.0.now in
    let text = c.at.result.1.now in
    let put : c.put_text.new.out.tokens ≡ c.loop-index.out.tokens ++ key name ∷ string text ∷ [] = search rules in (
      search rules,
      put ∙ ap (λ ts. ts ++ key name ∷ string text ∷ []) c.loop-index.invariant.1
          ∙ pair_tokens-next c.args.out.now.tokens c.args.pairs.now c.loop-index.index (name, text) c.at.ensures.field (omega arith),
    )

pub returns-clause-ok : goal.returns-clause-ok
returns-clause-ok c =
    on_ok_weaker c.end_object.result
    (λ e. e ∙ ap (λ ts. ts ++ end_object ∷ []) c.loop-index.invariant.1 ∙ texts_ended c.args.out.now.tokens c.args.pairs.now c.loop-index.index (omega arith))
    c.end_object.ensures.ok
