-- Spans in a text that grows at its end.
use Rattle.std.proofs.Common.{◌≡◌, ℕ, ◌+◌, ◌-◌, ◌≤◌, List, [], ◌∷◌, ◌++◌, length, take, drop, inl, inr, refl, sym, ap, ◌∙◌, subst, append_assoc, arith, length-append, length-drop}
use Rattle.std.specs.Prelude.{All}
use Rattle.std.specs.Str.{IsUtf8, IsCharBoundary}
use Rattle.std.proofs.lemmas.Bool.{cases_lt}
use Rattle.std.proofs.lemmas.List.{drop-append-le, take-append-le, drop_at, take_at, take_all, get_or_append_left, map_push, map-append, take-map, drop-map}
use Rattle.std.proofs.lemmas.List.Elements.{All-append, All-cons, All-drop, All-push, All-take, All-weaker, All-head, All-tail}
use Rattle.std.proofs.lemmas.Str.{IsUtf8-append, IsCharBoundary-at_seam, IsCharBoundary-end}
use Rattle.remoting_frame.specs.Fields.{part, field_at, fields_at, IsSpan, span_behind}
use Rattle.remoting_frame.specs.declared.fields.Span.{Span}

-- ---- the spans so far

boundary-append : (text more : List ℕ) (i : ℕ) → IsUtf8 more → IsCharBoundary text i → IsCharBoundary (text ++ more) i
boundary-append text more i utf8 boundary =
    elim (cases_lt i (length text)) [
      | inl below ↦
          let same = get_or_append_left text more 0 i below in
          (omega (arith, length-append text more), λ within high. rw same (boundary.1 below (rw same at high)))
      | inr from ↦
          let end : length text ≡ i = omega (arith, boundary.0) in
          subst (IsCharBoundary (text ++ more)) end (IsCharBoundary-at_seam (text ++ more) text more refl utf8)
    ]

span-append : (text more : List ℕ) (p : Span) → IsUtf8 more → IsSpan text p → IsSpan (text ++ more) p
span-append text more p utf8 is = record {
  name = is.name;
  value = is.value;
  before_name = boundary-append text more p.name utf8 is.before_name;
  before_value = boundary-append text more p.value utf8 is.before_value;
  behind = boundary-append text more p.end utf8 is.behind;
}

part-append : (text more : List ℕ) (from to : ℕ) → from ≤ to → to ≤ length text → part (text ++ more) from to ≡ part text from to
part-append text more from to le within =
    ap (λ (l : List ℕ). take (to - from) l) (drop-append-le from text more (omega arith)) ∙ take-append-le (to - from) (drop from text) more (omega (arith, length-drop from text))

pub fields-append : (text more : List ℕ) (spans : List Span) → All (IsSpan text) spans → fields_at (text ++ more) spans ≡ fields_at text spans
fields-append text more [] all = refl
fields-append text more (p ∷ spans) all =
    let is = All-head (IsSpan text) p spans all in
    let name = part-append text more p.name p.value is.name (omega (arith, is.before_value.0)) in
    let value = part-append text more p.value p.end is.value is.behind.0 in
    let others = fields-append text more spans (All-tail (IsSpan text) p spans all) in
    rw (name, value, others) refl

-- ---- one more

module _ (text name value : List ℕ) where
  span_new : IsUtf8 name → IsUtf8 value → IsSpan (text ++ (name ++ value)) (span_behind (length text) name value)
  span_new name_utf8 value_utf8 =
      let all = text ++ (name ++ value) in
      let joined : length all ≡ length text + length name + length value = omega (arith, length-append text (name ++ value), length-append name value) in
      record {
        name = omega arith;
        value = omega arith;
        before_name = IsCharBoundary-at_seam all text (name ++ value) refl (IsUtf8-append name value name_utf8 value_utf8);
        before_value = subst (IsCharBoundary all) (length-append text name) (IsCharBoundary-at_seam all (text ++ name) value (sym (append_assoc text name value)) value_utf8);
        behind = subst (IsCharBoundary all) joined (IsCharBoundary-end all);
      }

  field_new : field_at (text ++ (name ++ value)) (span_behind (length text) name value) ≡ (name, value)
  field_new =
      let n = length text in
      let k = length name in
      let long : k ≡ n + k - n = omega arith in
      let wide : length value ≤ n + k + length value - (n + k) = omega arith in
      let front = drop_at text (name ++ value) n refl in
      let back = drop_at (text ++ name) value (n + k) (length-append text name) in
      rw (front, sym (append_assoc text name value), back, take_at name value (n + k - n) long, take_all (n + k + length value - (n + k)) value wide) refl

  pub all_kept : (spans : List Span) → IsUtf8 name → IsUtf8 value → All (IsSpan text) spans → All (IsSpan (text ++ (name ++ value))) spans
  all_kept spans name_utf8 value_utf8 all =
      let utf8 = IsUtf8-append name value name_utf8 value_utf8 in
      All-weaker (IsSpan text) (IsSpan (text ++ (name ++ value))) (λ q at. span-append text (name ++ value) q utf8 at) spans all

  pub all_pushed : (spans : List Span) (p : Span) → p ≡ span_behind (length text) name value → IsUtf8 name → IsUtf8 value → All (IsSpan text) spans → All (IsSpan (text ++ (name ++ value))) (spans ++ p ∷ [])
  all_pushed spans p is name_utf8 value_utf8 all =
      let kept = all_kept spans name_utf8 value_utf8 all in
      All-push (IsSpan (text ++ (name ++ value))) spans p kept (subst (IsSpan (text ++ (name ++ value))) (sym is) (span_new name_utf8 value_utf8))

  pub fields_pushed : (spans : List Span) (p : Span) → p ≡ span_behind (length text) name value → All (IsSpan text) spans → fields_at (text ++ (name ++ value)) (spans ++ p ∷ []) ≡ fields_at text spans ++ (name, value) ∷ []
  fields_pushed spans p is all =
      map_push (field_at (text ++ (name ++ value))) spans p ∙ rw (fields-append text (name ++ value) spans all, is, field_new) refl

  -- among others
  pub all_put : (spans : List Span) (from to : ℕ) (p : Span) → p ≡ span_behind (length text) name value → IsUtf8 name → IsUtf8 value → All (IsSpan text) spans → All (IsSpan (text ++ (name ++ value))) (take from spans ++ p ∷ drop to spans)
  all_put spans from to p is name_utf8 value_utf8 all =
      let more = text ++ (name ++ value) in
      let kept = all_kept spans name_utf8 value_utf8 all in
      let one = subst (IsSpan more) (sym is) (span_new name_utf8 value_utf8) in
      All-append (IsSpan more) (take from spans) (p ∷ drop to spans) (All-take (IsSpan more) from spans kept) (All-cons (IsSpan more) p (drop to spans) one (All-drop (IsSpan more) to spans kept))

  pub fields_put : (spans : List Span) (from to : ℕ) (p : Span) → p ≡ span_behind (length text) name value → All (IsSpan text) spans → fields_at (text ++ (name ++ value)) (take from spans ++ p ∷ drop to spans) ≡ take from (fields_at text spans) ++ (name, value) ∷ drop to (fields_at text spans)
  fields_put spans from to p is all =
      let f = field_at (text ++ (name ++ value)) in
      let same = fields-append text (name ++ value) spans all in
      map-append f (take from spans) (p ∷ drop to spans) ∙ rw (sym (take-map f from spans), sym (drop-map f to spans), same, is, field_new) refl
