-- What the window shows of a file.
use Rattle.std.proofs.Common.{◌≡◌, ⊎_elim, ℕ, ◌+◌, ◌-◌, ◌<◌, ◌≤◌, min, Bool, true, false, List, [], ◌++◌, length, take, drop, Option, Some, refl, sym, ◌∙◌, ap, arith, append_assoc, append-nil, length-append, take-append-drop}
use Rattle.std.proofs.lemmas.Bool.{cases_lt}
use Rattle.std.proofs.lemmas.List.{drop-take, drop-drop, drop_all, length-drop, length-take, take_at, take_all, take-take, drop_at}
use Rattle.record_codec.specs.Entry.{Entry}
use Rattle.record_codec.specs.Layout.{layout, size, IsRecord}
use Rattle.record_codec.specs.Blanks.{blank_front}
use Rattle.log_model.specs.Bases.{Geometry}
use Rattle.log_model.specs.Segments.{layouts}
use Rattle.log_model.specs.Store.{StartsWith, EndsInBlank}
use Rattle.record_codec.proofs.LayoutLengths.{length-layout}
use Rattle.log_recovery.specs.declared.window.Window.{Window}
use Rattle.log_recovery.specs.Scan.{Shows}

-- what a window that is empty shows
pub shows_none : (window : Window) (bytes : List ℕ) → window.held ≡ 0 → Shows window bytes
shows_none window bytes none = record {
  same = (λ i. take (none i) window.buffer.items) ∙ sym (λ i. take (none i) (drop window.from bytes));
  within = omega (arith, none);
}

-- and one that was just read
pub shows_read : (window : Window) (bytes : List ℕ) (at wide : ℕ) → window.from ≡ at → window.held ≡ min wide (length bytes - at)
    → take window.held window.buffer.items ≡ take window.held (drop at bytes) → Shows window bytes
shows_read window bytes at wide from held same = record {
  same = same ∙ ap (λ (k : ℕ). take window.held (drop k bytes)) (sym from);
  within = omega (arith, from, held);
}

-- the front at a place of the file
pub front_is : (window : Window) (bytes : List ℕ) (at : ℕ) → Shows window bytes → window.from ≤ at
    → drop (at - window.from) (take window.held window.buffer.items) ≡ take (window.held - (at - window.from)) (drop at bytes)
front_is window bytes at shows low =
    let k : ℕ = at - window.from in
    let here : window.from + k ≡ at = omega (arith, low) in
    ap (λ (l : List ℕ). drop k l) shows.same ∙ ⊎_elim
    (λ (less : k < window.held).
    let whole : k + (window.held - k) ≡ window.held = omega (arith, less) in
    ap (λ (n : ℕ). drop k (take n (drop window.from bytes))) (sym whole) ∙ drop-take k (window.held - k) (drop window.from bytes)
    ∙ ap (λ (l : List ℕ). take (window.held - k) l) (drop-drop k window.from bytes) ∙ ap (λ (n : ℕ). take (window.held - k) (drop n bytes)) here)
    (λ (more : window.held ≤ k).
    let none : window.held - k ≡ 0 = omega (arith, more) in
    drop_all k (take window.held (drop window.from bytes)) (omega (arith, length-take window.held (drop window.from bytes), more))
    ∙ sym (ap (λ (n : ℕ). take n (drop at bytes)) none))
    (cases_lt k window.held)

-- a record that stands at a place ends in the file
pub ends_inside : (bytes : List ℕ) (at : ℕ) (r : Entry) (rest : List ℕ) → drop at bytes ≡ layout r ++ rest → at + size r ≤ length bytes
ends_inside bytes at r rest stands = omega (arith, ap length stands, length-append (layout r) rest, length-layout r, length-drop at bytes)

-- ---- what is tested

-- a record in front of the window stands in the file
pub starts_there : (bytes : List ℕ) (at m : ℕ) (r : Entry) (rest : List ℕ) → IsRecord r → take m (drop at bytes) ≡ layout r ++ rest → StartsWith (drop at bytes) r
starts_there bytes at m r rest is stands = record {
  is = is;
  rest = rest ++ drop m (drop at bytes);
  split = sym (take-append-drop m (drop at bytes)) ∙ ap (λ (l : List ℕ). l ++ drop m (drop at bytes)) stands ∙ append_assoc (layout r) rest (drop m (drop at bytes));
}

-- and a record of the file that ends in the window stands in front of it
pub stands_there : (bytes : List ℕ) (at m : ℕ) (r : Entry) → StartsWith (drop at bytes) r → size r ≤ m → (rest : List ℕ) × (take m (drop at bytes) ≡ layout r ++ rest)
stands_there bytes at m r starts low =
    let whole : size r + (m - size r) ≡ m = omega (arith, low) in
    let back : List ℕ = drop (size r) (take m (drop at bytes)) in
    let first : take (size r) (take m (drop at bytes)) ≡ layout r =
    take-take (size r) m (drop at bytes) low ∙ ap (λ (l : List ℕ). take (size r) l) starts.split ∙ take_at (layout r) starts.rest (size r) (length-layout r) in
    (back, sym (take-append-drop (size r) (take m (drop at bytes))) ∙ ap (λ (l : List ℕ). l ++ back) first)

-- the size that the front of the window tells is that of the record that stands there
pub size_shown : (window : Window) (bytes shown : List ℕ) (at : ℕ) (found : Option ℕ) (r : Entry) (rest : List ℕ) → Shows window bytes → window.from ≤ at
    → (at + 8 ≤ length bytes → at + 8 ≤ window.from + window.held) → shown ≡ drop (at - window.from) (take window.held window.buffer.items) → drop at bytes ≡ layout r ++ rest
    → ((n : ℕ) → 8 ≤ n → shown ≡ take n (layout r ++ rest) → found ≡ Some (size r)) → found ≡ Some (size r)
size_shown window bytes shown at found r rest shows low front is stands enough =
    let inside = front (omega (arith, ends_inside bytes at r rest stands)) in
    let n : ℕ = window.held - (at - window.from) in
    enough n (omega (arith, low, inside)) (is ∙ front_is window bytes at shows low ∙ ap (take n) stands)

pub long_enough : (r : Entry) → 105 ≤ size r
long_enough r = omega arith

-- ---- the blank that ends a segment

-- the front that was read of a file
read_front_is : (bytes got : List ℕ) (at n : ℕ) → n ≡ min 8 (length bytes - at) → take n got ≡ take n (drop at bytes) → take n got ≡ take 8 (drop at bytes)
read_front_is bytes got at n is same = ⊎_elim
    (λ (short : length bytes - at < 8).
    let all : n ≡ length (drop at bytes) = omega (arith, is, short, length-drop at bytes) in
    same ∙ take_all n (drop at bytes) (omega (arith, all)) ∙ sym (take_all 8 (drop at bytes) (omega (arith, short, length-drop at bytes))))
    (λ (long : 8 ≤ length bytes - at). let eight : n ≡ 8 = omega (arith, is, long) in same ∙ ap (λ (k : ℕ). take k (drop at bytes)) eight)
    (cases_lt (length bytes - at) 8)

pub blank_ends : (S : Geometry) (at n : ℕ) (bytes got : List ℕ) (records : List Entry) (blank : Bool) → length bytes ≡ S.size → at ≡ length (layouts records) → at + 8 ≤ S.size → take at bytes ≡ layouts records
    → n ≡ min 8 (length bytes - at) → take n got ≡ take n (drop at bytes)
    → (blank ≡ true → (rest : List ℕ) × (take n got ≡ blank_front (S.size - at) ++ rest)) → (blank ≡ false → (rest : List ℕ) → take n got ≡ blank_front (S.size - at) ++ rest → ⊥)
    → (blank ≡ true → EndsInBlank S records bytes) × (blank ≡ false → EndsInBlank S records bytes → ⊥)
blank_ends S at n bytes got records blank long here room begins is same holds fails =
    let read : take n got ≡ take 8 (drop at bytes) = read_front_is bytes got at n is same in
    let size_is : S.size - at ≡ S.size - length (layouts records) = ap (λ (k : ℕ). S.size - k) here in (
      λ (yes_is : blank ≡ true).
          let found = holds yes_is in
          let tail : List ℕ = found.0 ++ drop 8 (drop at bytes) in
          record {
            rest = tail;
            split = sym (take-append-drop at bytes) ∙ ap (λ (l : List ℕ). l ++ drop at bytes) begins
                ∙ ap (λ (l : List ℕ). layouts records ++ l) (sym (take-append-drop 8 (drop at bytes)) ∙ ap (λ (l : List ℕ). l ++ drop 8 (drop at bytes)) (sym read ∙ found.1)
                ∙ append_assoc (blank_front (S.size - at)) found.0 (drop 8 (drop at bytes)) ∙ ap (λ (k : ℕ). blank_front k ++ tail) size_is);
            long = long;
          },
      λ (no_is : blank ≡ false) (ends : EndsInBlank S records bytes).
          let behind : drop at bytes ≡ blank_front (S.size - at) ++ ends.rest =
          ap (λ (l : List ℕ). drop at l) ends.split ∙ drop_at (layouts records) _ at (sym here) ∙ ap (λ (k : ℕ). blank_front k ++ ends.rest) (sym size_is) in
          fails no_is [] (read ∙ ap (λ (l : List ℕ). take 8 l) behind ∙ take_at (blank_front (S.size - at)) ends.rest 8 refl ∙ sym (append-nil (blank_front (S.size - at)))),
    )

-- a file of another length doesn't end so
pub blank_not : (S : Geometry) (bytes : List ℕ) (records : List Entry) → (length bytes ≡ S.size → ⊥) → (false ≡ true → EndsInBlank S records bytes) × (false ≡ false → EndsInBlank S records bytes → ⊥)
blank_not S bytes records apart = (λ (is : false ≡ true). absurd (cc), λ is ends. apart ends.long)
