-- Lists of properties, and reading them pair by pair.
use Rattle.std.proofs.Common.{◌≡◌, ℕ, ◌<◌, ◌++◌, List, [], ◌∷◌, length, Some, None, refl, sym, ap, subst, ◌∙◌, append_assoc, arith}
use Rattle.std.specs.Str.{IsUtf8}
use Rattle.std.proofs.lemmas.List.{append-nil}
use Rattle.std.proofs.lemmas.Str.{is_utf8-from_IsUtf8, IsUtf8-from_is_utf8, IsUtf8-nil}
use Rattle.record_codec.specs.Props.{written, until, next_pair, pairs_in, AreProps, IsWritten}
use Rattle.record_codec.proofs.PairTexts.{pairs_take}
use Rattle.record_codec.proofs.ScanLemmas.{goes, goes_some, stuck_none, nothing_some}
use Rattle.record_codec.proofs.TextLemmas.{IsUtf8-pair}

pub AreProps-nil : AreProps []
AreProps-nil = record { pairs = refl; distinct = refl; utf8 = is_utf8-from_IsUtf8 [] IsUtf8-nil }

-- the text of these pairs was read up to a rest, whose pairs are these
pub record IsTaken (text rest : List ℕ) (taken left : List (List ℕ × List ℕ)) : Type 0 where
  pub rest_is : pairs_in (length rest) rest ≡ Some left
  pub whole : pairs_in (length text) text ≡ Some (taken ++ left)
  pub props : AreProps (taken ++ left)
  pub utf8 : IsUtf8 rest

pub nothing_taken : (text : List ℕ) (taken : List (List ℕ × List ℕ)) → taken ≡ [] → IsWritten text → (left : List (List ℕ × List ℕ)) × IsTaken text text taken left
nothing_taken text taken none w =
    let is = (pairs_take (length text) text w.0 w.1).0 in
    let all : w.0 ≡ taken ++ w.0 = ap (λ (t : List (List ℕ × List ℕ)). t ++ w.0) (sym none) in (
      w.0,
      record {
        rest_is = w.1;
        whole = w.1 ∙ ap (λ (t : List (List ℕ × List ℕ)). Some t) all;
        props = subst AreProps all w.2;
        utf8 = subst IsUtf8 (sym is) (IsUtf8-from_is_utf8 (written w.0) w.2.utf8);
      },
    )

next_of_some : (t : List ℕ) (r : List ℕ × List ℕ × List ℕ) → next_pair t ≡ Some r → 0 < length t
unfolding next_pair until
next_of_some [] r h = absurd cc
next_of_some (b ∷ t) r h = omega arith

pub record Next (text rest : List ℕ) (taken : List (List ℕ × List ℕ)) (r : List ℕ × List ℕ × List ℕ) : Type 0 where
  pub smaller : length r.2 < length rest
  pub name : IsUtf8 r.0
  pub value : IsUtf8 r.1
  pub left : List (List ℕ × List ℕ)
  pub is : IsTaken text r.2 (taken ++ (r.0, r.1) ∷ []) left

pub taken_next : (text rest : List ℕ) (taken left : List (List ℕ × List ℕ)) (r : List ℕ × List ℕ × List ℕ) → next_pair rest ≡ Some r → IsTaken text rest taken left → Next text rest taken r
taken_next text rest taken left r h t =
    let some = next_of_some rest r h in
    let s = goes_some rest r left some h t.rest_is in
    let all : taken ++ left ≡ (taken ++ (r.0, r.1) ∷ []) ++ s.0 = ap (λ (w : List (List ℕ × List ℕ)). taken ++ w) s.2 ∙ sym (append_assoc taken ((r.0, r.1) ∷ []) s.0) in
    let is = (pairs_take (length rest) rest left t.rest_is).0 ∙ ap written s.2 in
    let parts = IsUtf8-pair (r.0, r.1) (written s.0) (subst IsUtf8 is t.utf8) in
    let after = (pairs_take (length r.2) r.2 s.0 s.1).0 in
    record {
      smaller = (goes rest r some h).1;
      name = parts.0;
      value = parts.1;
      left = s.0;
      is = record {
        rest_is = s.1;
        whole = t.whole ∙ ap (λ (w : List (List ℕ × List ℕ)). Some w) all;
        props = subst AreProps all t.props;
        utf8 = subst IsUtf8 (sym after) parts.2;
      };
    }

none_left : (rest : List ℕ) (left : List (List ℕ × List ℕ)) → next_pair rest ≡ None → pairs_in (length rest) rest ≡ Some left → left ≡ []
none_left [] left h e = nothing_some [] left refl e
none_left (b ∷ t) left h e = absurd (stuck_none (b ∷ t) left (omega arith) h e)

-- all was taken
pub taken_all : (text rest : List ℕ) (taken left : List (List ℕ × List ℕ)) → next_pair rest ≡ None → IsTaken text rest taken left → (pairs_in (length text) text ≡ Some taken) × AreProps taken
taken_all text rest taken left h t =
    let none = none_left rest left h t.rest_is in
    let all : taken ++ left ≡ taken = ap (λ (w : List (List ℕ × List ℕ)). taken ++ w) none ∙ append-nil taken in
    (t.whole ∙ ap (λ (w : List (List ℕ × List ℕ)). Some w) all, subst AreProps all t.props)
