-- The draft of a send is the model's, by its kind.
use Rattle.std.proofs.Common.{◌≡◌, refl, ℕ, Bool, true, false, cond, List, Option, Some, None}
use Rattle.request_fields.specs.Requests.{SendSaid}
use Rattle.broker_model.specs.Sends.{send_draft, plain_draft, is_half_send, level_of, half_draft, delayed_or_plain}
use Rattle.record_codec.specs.declared.draft.Draft.{Draft}
use Rattle.broker_core.specs.Kinds.{kind_in, kind_of, draft_by}

-- a message is stored by its kind
by_kind : (half : Bool) (o : Option ℕ) (group : List ℕ) (d : Draft) → cond half (half_draft group d) (delayed_or_plain o d) ≡ draft_by (kind_in half o) group d
by_kind true o group d = refl
by_kind false None group d = refl
by_kind false (Some level) group d = refl

pub kept_is : (store_host born_host : List ℕ) (send : SendSaid) → send_draft store_host born_host send ≡ draft_by (kind_of send) send.group (plain_draft store_host born_host send)
kept_is store_host born_host send = by_kind (is_half_send send) (level_of send) send.group (plain_draft store_host born_host send)
