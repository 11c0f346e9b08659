use Rattle.std.proofs.Common.{◌≡◌, ◌∙◌, ◌++◌, ◌∷◌, [], List, ℕ, ap, append_assoc}
use Rattle.mq_bytes.specs.Decimal.{digits_of}
use Rattle.record_codec.specs.Layout.{size}
use Rattle.tool_run.proofs.texts.push_record.Goals as goal

-- a piece more
onto : (out so_far piece before after : List ℕ) → before ≡ out ++ so_far → after ≡ before ++ piece → after ≡ out ++ (so_far ++ piece)
onto out so_far piece before after is step = step ∙ ap (λ (l : List ℕ). l ++ piece) is ∙ append_assoc out so_far piece

pieces : (a b c d e : List ℕ) → ((((((a ++ 32 ∷ []) ++ b) ++ 32 ∷ []) ++ (c ++ 32 ∷ [])) ++ (d ++ 32 ∷ [])) ++ e) ++ 10 ∷ []
    ≡ a ++ (32 ∷ (b ++ (32 ∷ (c ++ (32 ∷ (d ++ (32 ∷ (e ++ (10 ∷ [])))))))))
pieces a b c d e = simp append_assoc

pub returns : goal.returns
returns c =
    let out : List ℕ = c.args.out.now.items in
    let r = c.args.view.now in
    let field : (n : ℕ) → List ℕ = λ n. digits_of n ++ 32 ∷ [] in
    let one : c.push_field.new.out.items ≡ out ++ field r.offset = c.in_ok-push_field.ensures ∙ ap (λ (n : ℕ). out ++ field n) c.offset.ensures.value in
    let two = onto out (field r.offset) r.topic _ c.extend_from_slice.new.self.items one
    (c.in_ok-extend_from_slice.ensures.items ∙ ap (λ (l : List ℕ). c.push_field.new.out.items ++ l) (c.as_bytes.ensures.value ∙ c.topic.ensures)) in
    let three = onto out (field r.offset ++ r.topic) (32 ∷ []) _ c.push.new.self.items two c.in_ok-push.ensures.items in
    let four = onto out ((field r.offset ++ r.topic) ++ 32 ∷ []) (field r.queue) _ c.push_field-2.new.out.items three
    (c.in_ok-push_field-2.ensures ∙ ap (λ (n : ℕ). c.push.new.self.items ++ field n) (c.from.ensures ∙ c.queue.ensures)) in
    let five = onto out (((field r.offset ++ r.topic) ++ 32 ∷ []) ++ field r.queue) (field r.queue_offset) _ c.push_field-3.new.out.items four
    (c.in_ok-push_field-3.ensures ∙ ap (λ (n : ℕ). c.push_field-2.new.out.items ++ field n) c.queue_offset.ensures.value) in
    let six = onto out ((((field r.offset ++ r.topic) ++ 32 ∷ []) ++ field r.queue) ++ field r.queue_offset) (digits_of (size r)) _ c.write_number.new.out.items five
    (c.in_ok-write_number.ensures.ok ∙ ap (λ (n : ℕ). c.push_field-3.new.out.items ++ digits_of n) (c.from-2.ensures ∙ c.size.ensures)) in
    onto out (((((field r.offset ++ r.topic) ++ 32 ∷ []) ++ field r.queue) ++ field r.queue_offset) ++ digits_of (size r)) (10 ∷ []) _ c.push-2.new.self.items six c.in_ok-push-2.ensures.items
    ∙ ap (λ (l : List ℕ). out ++ l) (pieces (digits_of r.offset) r.topic (digits_of r.queue) (digits_of r.queue_offset) (digits_of (size r)))
