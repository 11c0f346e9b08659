-- What a view shows.
use Rattle.std.proofs.Common.{◌≡◌, ℕ, ◌+◌, ◌≤◌, List, length, take, drop, Some, refl, sym, ap, subst, ◌∙◌, arith, length-drop}
use Rattle.std.proofs.lemmas.List.{length-take}
use Rattle.record_codec.specs.Entry.{Entry}
use Rattle.record_codec.specs.Props.{written, pairs_in, IsWritten}
use Rattle.record_codec.specs.Layout.{size}
use Rattle.record_codec.specs.Parsed.{◌>>=◌, n32, Lengths, end_of, lengths_in, entry_in, entry_at, parsed}
use Rattle.record_codec.specs.Views.{or_blank, IsView}
use Rattle.record_codec.proofs.InPlaceLemmas.{props_of, length-props_of}
use Rattle.record_codec.proofs.PairTexts.{bind_some, some_is, pairs_take}
use Rattle.record_codec.proofs.Records.{lengths_facts, entry_facts, EntryFacts, said}

pub record Shows (b : List ℕ) (l : Lengths) (r : Entry) : Type 0 where
  pub within : end_of l ≤ length b
  pub first : n32 b 0 ≡ size r
  pub props : List (List ℕ × List ℕ)
  pub entry : r ≡ entry_in b l props
  pub pairs : pairs_in (length (props_of b l)) (props_of b l) ≡ Some r.props
  pub facts : EntryFacts r

-- of the entry in these places
shows_in : (b : List ℕ) (l : Lengths) (ps : List (List ℕ × List ℕ)) → lengths_in b ≡ Some l → pairs_in l.props (props_of b l) ≡ Some ps → entry_at b l ps ≡ Some (entry_in b l ps) → Shows b l (entry_in b l ps)
shows_in b l ps lengths pairs entry =
    let f = lengths_facts b l lengths in
    let within = f.within in
    let text = length-props_of b l within in
    let written_is = (pairs_take l.props (props_of b l) ps pairs).0 in
    let props_len : length (written ps) ≡ l.props = ap (λ (x : List ℕ). length x) (sym written_is) ∙ text in
    let body_len : length (take l.body (drop 88 b)) ≡ l.body = omega (arith, length-take l.body (drop 88 b), length-drop 88 b) in
    let topic_len : length (take l.topic (drop (89 + l.body) b)) ≡ l.topic = omega (arith, length-take l.topic (drop (89 + l.body) b), length-drop (89 + l.body) b) in
    record {
      within = within;
      first = omega (arith, f.size, body_len, topic_len, props_len);
      props = ps;
      entry = refl;
      pairs = ap (λ (n : ℕ). pairs_in n (props_of b l)) text ∙ pairs;
      facts = said (entry_in b l ps) (entry_facts b l ps (entry_in b l ps) entry).0;
    }

shows_parts : (b : List ℕ) (l : Lengths) (r : Entry) → lengths_in b ≡ Some l → parsed b ≡ Some r → Shows b l r
unfolding parsed
shows_parts b l r lengths h =
    let found = bind_some (lengths_in b) (λ l. pairs_in l.props (props_of b l) >>= λ ps. entry_at b l ps) r h in
    let pairs = bind_some (pairs_in found.0.props (props_of b found.0)) (λ ps. entry_at b found.0 ps) r found.2 in
    let is = (entry_facts b found.0 pairs.0 r pairs.2).2 in
    let there = shows_in b found.0 pairs.0 found.1 pairs.1 (pairs.2 ∙ ap (λ (x : Entry). Some x) (sym is)) in
    let same : found.0 ≡ l = some_is found.0 l (sym found.1 ∙ lengths) in
    subst (λ (x : Lengths). Shows b x r) same (subst (Shows b found.0) is there)

pub shows : (b : List ℕ) (l : Lengths) → IsView b l → Shows b l (or_blank (parsed b))
shows b l v =
    let s = shows_parts b l v.record_is.0 v.lengths v.record_is.1 in
    subst (Shows b l) (sym (ap or_blank v.record_is.1)) s

pub IsWritten-from : (b : List ℕ) (l : Lengths) (r : Entry) → Shows b l r → IsWritten (props_of b l)
IsWritten-from b l r s = (r.props, s.pairs, record { pairs = s.facts.pairs; distinct = s.facts.distinct; utf8 = s.facts.utf8 })
