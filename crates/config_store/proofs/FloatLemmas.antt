-- The tables have no number with a point.
use Rattle.std.proofs.Common.{◌≡◌, ℕ, List, [], ◌∷◌, false, Option, Some, None, Ordering, Less, Equal, Greater, nat_cmp, refl, sym, ap, ◌∙◌, option_and_then}
use Rattle.std.specs.Prelude.{unwrap_or}
use Rattle.std.specs.Cmp.Lexicographic.{slice_cmp}
use Rattle.std.specs.Ordering.{match_ordering}
use Rattle.std.proofs.lemmas.Bool.{or_parts}
use Rattle.broker_model.specs.Tables.{OffsetRow, TopicRow}
use Rattle.mq_bytes.specs.Decimal.{digits_of}
use Rattle.serde_json.specs.Data.{Data, number, unsigned, null, boolean, string, array, object, Members, no_members, member, put}
use Rattle.serde_json.specs.Find.{get_member, as_object}
use Rattle.serde_json.specs.Written.{has_float, members_have_float}
use Rattle.config_store.specs.Texts.{key_of, members_at, offset_members, topic_members}

put_at : (o : Ordering) (k l : List ℕ) (d e : Data) (ms : Members) → has_float d ≡ false → members_have_float (member l e ms) ≡ false
    → members_have_float (put k d ms) ≡ false
    → members_have_float (match_ordering o (member k d (member l e ms)) (member l d ms) (member l e (put k d ms))) ≡ false
put_at Less k l d e ms ok all more = rw ok all
put_at Equal k l d e ms ok all more = let parts = or_parts (has_float e) _ all in rw ok parts.1
put_at Greater k l d e ms ok all more = let parts = or_parts (has_float e) _ all in rw parts.0 more

put_without : (k : List ℕ) (d : Data) (ms : Members) → has_float d ≡ false → members_have_float ms ≡ false → members_have_float (put k d ms) ≡ false
put_without k d no_members ok all = rw ok refl
put_without k d (member l e ms) ok all =
    let parts = or_parts (has_float e) _ all in
    put_at (slice_cmp nat_cmp k l) k l d e ms ok all (put_without k d ms ok parts.1)

members_without : (o : Option Data) → ((d : Data) → o ≡ Some d → has_float d ≡ false) → members_have_float (unwrap_or (option_and_then as_object o) no_members) ≡ false
members_without None each = refl
members_without (Some null) each = refl
members_without (Some (boolean b)) each = refl
members_without (Some (number n)) each = refl
members_without (Some (string s)) each = refl
members_without (Some (array ds)) each = refl
members_without (Some (object ms)) each = each (object ms) refl

get_at : (o : Ordering) (k : List ℕ) (d e : Data) (ms : Members) → has_float e ≡ false → (get_member k ms ≡ Some d → has_float d ≡ false)
    → match_ordering o (get_member k ms) (Some e) (get_member k ms) ≡ Some d → has_float d ≡ false
get_at Less k d e ms ok more found = more found
get_at Equal k d e ms ok more found = let same : e ≡ d = cc in ap has_float (sym same) ∙ ok
get_at Greater k d e ms ok more found = more found

get_without : (k : List ℕ) (d : Data) (ms : Members) → members_have_float ms ≡ false → get_member k ms ≡ Some d → has_float d ≡ false
get_without k d no_members all found = absurd cc
get_without k d (member l e ms) all found =
    let parts = or_parts (has_float e) _ all in
    get_at (slice_cmp nat_cmp k l) k d e ms parts.0 (get_without k d ms parts.1) found

pub offsets_without : (rows : List OffsetRow) → members_have_float (offset_members rows) ≡ false
offsets_without [] = refl
offsets_without (row ∷ rows) =
    let ms = offset_members rows in
    let key = key_of row.topic row.group in
    let all = offsets_without rows in
    put_without key _ ms
    (put_without (digits_of row.queue) (number (unsigned row.offset)) (members_at key ms) refl (members_without (get_member key ms) (λ d found. get_without key d ms all found))) all

pub topics_without : (rows : List TopicRow) → members_have_float (topic_members rows) ≡ false
topics_without [] = refl
topics_without (row ∷ rows) = put_without row.topic _ (topic_members rows) refl (topics_without rows)
