-- Whole records among bytes: what is seen of one in front, and that more steps than bytes change nothing.
use Rattle.std.proofs.Common.{◌≡◌, ℕ, zero, suc, ◌+◌, ◌-◌, ◌≤◌, ◌<◌, List, [], length, take, drop, Option, Some, None, false, true, inl, inr, is_some, drop-drop, eqb, eq-eqb, refl, sym, ap, subst, ◌∙◌, arith, length-append}
use Rattle.std.proofs.Math.Seq.{take-length}
use Rattle.std.proofs.Math.ListN.{drop_of_length-le}
use Rattle.std.proofs.lemmas.Bool.{ne_eqb, true≢false}
use Rattle.std.proofs.lemmas.Bool.Decides.{eqb_tells}
use Rattle.record_codec.proofs.LayoutLengths.{length-layout}
use Rattle.mq_bytes.specs.Bytes.{AreBytes}
use Rattle.record_codec.specs.Entry.{Entry}
use Rattle.record_codec.specs.Layout.{layout, size}
use Rattle.record_codec.specs.Fronts.{front_size}
use Rattle.record_codec.specs.Parsed.{◌>>=◌, n64, Lengths, lengths_in, entry_at, parsed}
use Rattle.record_codec.specs.Views.{or_blank}
use Rattle.record_codec.specs.Wholes.{size_placed, size_at, counted, stride, wholes_in, wholes}
use Rattle.record_codec.specs.Props.{pairs_in}
use Rattle.record_codec.proofs.FrontLemmas.{said_by}
use Rattle.record_codec.proofs.InPlaceLemmas.{props_of}
use Rattle.record_codec.proofs.PairTexts.{bind_some}
use Rattle.record_codec.proofs.Records.{parsed_takes}
use Rattle.record_codec.proofs.Views.{Shows, shows}

pub lengths_of_found : (b : List ℕ) (r : Entry) → parsed b ≡ Some r → (l : Lengths) × (lengths_in b ≡ Some l)
unfolding parsed
lengths_of_found b r h =
    let found = bind_some (lengths_in b) (λ l. pairs_in l.props (props_of b l) >>= λ ps. entry_at b l ps) r h in
    (found.0, found.1)

pub offset_of_found : (b : List ℕ) (r : Entry) → parsed b ≡ Some r → (36 ≤ length b) × (r.offset ≡ n64 b 28)
offset_of_found b r h =
    let l = lengths_of_found b r h in
    let s : Shows b l.0 (or_blank (parsed b)) = shows b l.0 (record { lengths = l.1; record_is = (r, h) }) in
    let is : or_blank (parsed b) ≡ r = ap or_blank h in
    (omega (arith, s.within), ap (λ (x : Entry). x.offset) (sym is ∙ s.entry))

-- the front of a record that is there says its size
pub says_size : (b : List ℕ) (r : Entry) (o : Option ℕ) → AreBytes b → o ≡ front_size b → parsed b ≡ Some r → o ≡ Some (size r)
says_size b r o are says h =
    let t = parsed_takes b r are h in
    let f = offset_of_found b r h in
    said_by b o says r (drop (size r) b) (length b) t.0 (omega (arith, f.0)) (sym (take-length b) ∙ ap (take (length b)) t.1)

-- ---- a record in front, and its place

pub behind_is : (own place far : ℕ) → place ≤ own → eqb (own - place) far ≡ eqb own (place + far)
behind_is own place far low = elim (eqb_tells own (place + far)) [
  | inl w ↦ let at : own - place ≡ far = omega (arith, w.1, low) in eq-eqb (own - place) far at ∙ sym w.0
  | inr w ↦ ne_eqb (own - place) far (λ at. w.1 (omega (arith, at, low))) ∙ sym w.0
]

pub before_is : (own place far : ℕ) → own < place → false ≡ eqb own (place + far)
before_is own place far low = sym (ne_eqb own (place + far) (λ at. omega (arith, at, low)))

placed_none : (o : Option Entry) (place : ℕ) → ((r : Entry) → o ≡ Some r → eqb r.offset place ≡ false) → size_placed o place ≡ None
placed_none None place off_it = refl
placed_none (Some r) place off_it = let off : eqb r.offset place ≡ false = off_it r refl in rw off refl

pub not_placed : (b : List ℕ) (place : ℕ) → ((r : Entry) → parsed b ≡ Some r → eqb r.offset place ≡ false) → size_at b place ≡ None
unfolding size_at
not_placed b place off_it = placed_none (parsed b) place off_it

pub placed : (b : List ℕ) (place : ℕ) (r : Entry) → parsed b ≡ Some r → eqb r.offset place ≡ true → size_at b place ≡ Some (size r)
unfolding size_at
placed b place r h at = rw (h, at) refl

-- ---- steps

-- what is left to be looked at from here on, after so many records
pub record Left (bytes : List ℕ) (place count at : ℕ) : Type 0 where
  pub steps : ℕ
  pub enough : length bytes ≤ at + steps
  pub sum : count + wholes_in steps (drop at bytes) (place + at) ≡ wholes bytes place
  pub few : count ≤ at
  pub within : at ≤ length bytes

pub left_first : (bytes : List ℕ) (place : ℕ) → Left bytes place 0 0
unfolding wholes
left_first bytes place = record {
  steps = length bytes;
  enough = omega arith;
  sum = let here : place + 0 ≡ place = omega arith in omega (arith, ap (λ (p : ℕ). wholes_in (length bytes) bytes p) here);
  few = omega arith;
  within = omega arith;
}

one_step : (steps : ℕ) (rest : List ℕ) (p : ℕ) (o : Option ℕ) → size_at rest p ≡ o → 1 ≤ steps → wholes_in steps rest p ≡ counted o + wholes_in (steps - 1) (drop (stride o) rest) (p + stride o)
one_step zero rest p o is low = absurd (omega (arith, low))
one_step (suc m) rest p o is low =
    let k : m ≡ suc m - 1 = omega arith in
    subst (λ (x : Option ℕ). counted (size_at rest p) + wholes_in m (drop (stride (size_at rest p)) rest) (p + stride (size_at rest p)) ≡ counted x + wholes_in m (drop (stride x) rest) (p + stride x)) is refl
    ∙ ap (λ (j : ℕ). counted o + wholes_in j (drop (stride o) rest) (p + stride o)) k

pub left_next : (bytes : List ℕ) (place count at : ℕ) (o : Option ℕ) → Left bytes place count at → at < length bytes → size_at (drop at bytes) (place + at) ≡ o
    → 1 ≤ stride o → at + stride o ≤ length bytes → counted o ≤ 1 → Left bytes place (count + counted o) (at + stride o)
left_next bytes place count at o l more is far fits one =
    let low : 1 ≤ l.steps = omega (arith, l.enough, more) in
    let step = one_step l.steps (drop at bytes) (place + at) o is low in
    let rest : wholes_in (l.steps - 1) (drop (at + stride o) bytes) (place + (at + stride o)) ≡ wholes_in (l.steps - 1) (drop (stride o) (drop at bytes)) (place + at + stride o)
    = ap (λ (b : List ℕ). wholes_in (l.steps - 1) b (place + (at + stride o))) (sym (drop-drop (stride o) at bytes))
    ∙ ap (wholes_in (l.steps - 1) (drop (stride o) (drop at bytes))) (omega arith) in
    record {
      steps = l.steps - 1;
      enough = omega (arith, l.enough, far, low);
      sum = omega (arith, rest, step, l.sum);
      few = omega (arith, l.few, far, one);
      within = fits;
    }

nothing_in_none : (place : ℕ) → size_at [] place ≡ None
nothing_in_none place = not_placed [] place (λ r h. absurd (omega (arith, (offset_of_found [] r h).0)))

none_left : (steps place : ℕ) → wholes_in steps [] place ≡ 0
none_left zero place = refl
none_left (suc m) place = one_step (suc m) [] place None (nothing_in_none place) (omega arith) ∙ (let k : suc m - 1 ≡ m = omega arith in let rest = ap (λ (j : ℕ). wholes_in j [] (place + 1)) k in omega (arith, rest, none_left m (place + 1)))

pub left_last : (bytes : List ℕ) (place count at : ℕ) → Left bytes place count at → length bytes ≤ at → count ≡ wholes bytes place
left_last bytes place count at l done =
    let gone : drop at bytes ≡ [] = drop_of_length-le bytes done in
    let none : wholes_in l.steps (drop at bytes) (place + at) ≡ 0 = ap (λ (b : List ℕ). wholes_in l.steps b (place + at)) gone ∙ none_left l.steps (place + at) in
    omega (arith, none, l.sum)

-- a record in front is no longer than the bytes
pub size_within : (b : List ℕ) (r : Entry) → AreBytes b → parsed b ≡ Some r → size r ≤ length b
size_within b r are h =
    let t = parsed_takes b r are h in
    let long = ap (λ (x : List ℕ). length x) t.1 in
    omega (arith, long, length-append (layout r) (drop (size r) b), length-layout r)

-- so bytes whose front says no size have no record in front
pub nothing_said : (b : List ℕ) (r : Entry) (o : Option ℕ) → AreBytes b → o ≡ front_size b → parsed b ≡ Some r → is_some o ≡ false → ⊥
nothing_said b r o are says h none = true≢false (sym (ap is_some (says_size b r o are says h)) ∙ none)

pub found_none : (b : List ℕ) (place : ℕ) → parsed b ≡ None → size_at b place ≡ None
unfolding size_at
found_none b place h = rw h refl
