-- An object is taken out of a map.
use Rattle.std.proofs.Common.{◌≡◌, ℕ, List, Option, String, Global, string_bytes, string_cmp, nat_cmp, option_map, option_and_then, ap, ◌∙◌}
use Rattle.std.specs.Prelude.{unwrap_or}
use Rattle.std.specs.BTreeMap.{is_at}
use Rattle.std.specs.Cmp.Lexicographic.{slice_cmp}
use Rattle.std.specs.List.Sorted.{IsStrictlySortedBy}
use Rattle.std.specs.Map.{keys_of, lookup}
use Rattle.serde_json.specs.Data.{Data, no_members, put}
use Rattle.serde_json.specs.Find.{as_object}
use Rattle.serde_json.specs.View.{view, members_view}
use Rattle.serde_json.specs.declared.value.Value.{Value}
use Rattle.serde_json.proofs.Views.{Entry, view-lookup}
use Rattle.config_store.specs.Texts.{members_at}
use Rattle.config_store.proofs.MapLemmas.{without, put_back}

-- what stood there is taken
pub taken : (k : List ℕ) (es : List Entry) (r : Option Value) → r ≡ lookup (is_at (λ (key : String Global). slice_cmp nat_cmp k (string_bytes key))) es
    → unwrap_or (option_and_then as_object (option_map view r)) no_members ≡ members_at k (members_view es)
taken k es r is = let found = ap (option_map view) is ∙ view-lookup k es in ap (λ (o : Option Data). unwrap_or (option_and_then as_object o) no_members) found

pub put_there : (k : List ℕ) (d : Data) (es new : List Entry) → IsStrictlySortedBy string_cmp (keys_of es) → new ≡ without k es
    → put k d (members_view new) ≡ put k d (members_view es)
put_there k d es new sorted is = ap (λ (entries : List Entry). put k d (members_view entries)) is ∙ put_back k d es sorted
