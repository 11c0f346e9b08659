use Rattle.std.proofs.Common.{◌≡◌, ◌∙◌, ap, subst, ℕ, ℤ, List, IfOk, Vec, rules, w64, w32}
use mir.Val.{to_z, of_z}
use Rattle.std.proofs.lemmas.Int.{to_z-of_z}
use Rattle.std.specs.declared.alloc.Global.{Global}
use Rattle.log_model.specs.Keys.{hash_of}
use Rattle.key_view.specs.Entries.{newest_records}
use Rattle.request_fields.specs.Requests.{QuerySaid}
use Rattle.broker_core.specs.Queries.{places_of}
use Rattle.broker_core.proofs.QueryLemmas.{keyed_are, rises}
use Rattle.broker_core.proofs.query.keyed.Goals as goal

pub returns : goal.returns
returns c s are =
    let core = c.args.parts.now in
    let q = c.args.asked.now in
    let topic : c.as_str.result.now ≡ q.topic = c.as_str.ensures.value ∙ ap (λ (x : QuerySaid). x.topic) c.asked.view_is in
    let key : c.as_str-2.result.now ≡ q.key = c.as_str-2.ensures.value ∙ ap (λ (x : QuerySaid). x.key) c.asked.view_is in
    let hash = c.key_hash-hash.ensures ∙ ap (λ (t : List ℕ). hash_of t c.as_str-2.result.now) topic ∙ ap (λ (t : List ℕ). hash_of q.topic t) key in
    let from = to_z-of_z w64 c.asked.inside.from (search rules) ∙ ap (λ (x : QuerySaid). x.from) c.asked.view_is in
    let to = to_z-of_z w64 c.asked.inside.to (search rules) ∙ ap (λ (x : QuerySaid). x.to) c.asked.view_is in
    let most = to_z-of_z w32 c.asked.inside.most (search rules) ∙ ap (λ (x : QuerySaid). x.most) c.asked.view_is in
    let end = c.seen_end-end.result in
    let told = c.query.ensures.records s.log.records are.keys (rises core s are) in
    keyed_are s c.key_hash-hash.result end q.from q.to q.most q.topic q.key c.query.result hash (c.seen_end-end.ensures s are)
    (subst (λ (z : ℤ). IfOk c.query.result (λ (places : Vec ℕ Global). places.items ≡ places_of (newest_records c.key_hash-hash.result q.from q.to z end s.log.records))) most
    (subst (λ (z : ℤ). IfOk c.query.result (λ (places : Vec ℕ Global). places.items ≡ places_of (newest_records c.key_hash-hash.result q.from z (to_z w32 (of_z w32 c.asked.inside.most)) end s.log.records))) to
    (subst (λ (z : ℤ). IfOk c.query.result (λ (places : Vec ℕ Global). places.items ≡ places_of (newest_records c.key_hash-hash.result z (to_z w64 (of_z w64 c.asked.inside.to)) (to_z w32 (of_z w32 c.asked.inside.most)) end s.log.records))) from told)))
