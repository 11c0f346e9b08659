use Rattle.std.proofs.Common.{◌≡◌, ◌++◌, ℕ, List, [], ◌∷◌, length, take, drop, refl, ap, ◌∙◌, arith, length-append}
use Rattle.std.proofs.lemmas.List.{take_at, drop_all, drop-drop, append-nil}
use borrow.Rule.Slice.PartMut.{put_mid}
use Rattle.mq_bytes.proofs.ids.bytes_of.Goals as goal

-- the second half of 16 bytes written over
halves : (host zeros place : List ℕ) → length host ≡ 8 → length zeros ≡ 8 → put_mid 8 8 (host ++ zeros) place ≡ host ++ place
halves host zeros place first second =
    let front : take 8 (host ++ zeros) ≡ host = take_at host zeros 8 first in
    let behind : drop 16 (host ++ zeros) ≡ [] = drop_all 16 (host ++ zeros) (omega (arith, length-append host zeros)) in
    rw (front, drop-drop 8 8 (host ++ zeros), behind, append-nil) refl

pub returns : goal.returns
returns c =
    halves c.copy_from_slice.new.self (0 ∷ 0 ∷ 0 ∷ 0 ∷ 0 ∷ 0 ∷ 0 ∷ 0 ∷ []) c.copy_from_slice-2.new.self c.copy_from_slice.ensures.len refl
    ∙ ap (λ (h : List ℕ). h ++ c.copy_from_slice-2.new.self) c.copy_from_slice.ensures.after
    ∙ ap (λ (p : List ℕ). c.args.host ++ p) (c.copy_from_slice-2.ensures.after ∙ c.to_be_bytes.ensures)
