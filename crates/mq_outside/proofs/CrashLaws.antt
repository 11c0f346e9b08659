-- What a crash may do to a disk in memory: that the images are not too few. Each law is of any list of earlier calls.
use Rattle.std.proofs.Common.{◌≡◌, ◌≢◌, ℕ, zero, suc, ◌≤◌, List, ◌∷◌, length, take, drop, Option, Some, inr, refl, sym, ◌∙◌, ap, subst, arith}
use Rattle.std.proofs.lemmas.List.{take_all}
use Rattle.mq_outside.specs.Files.{Files, At, Torn, Shortened, bytes_in, overwritten}
use Rattle.mq_outside.specs.Disk.{AgreesOn}
use Rattle.mq_outside.specs.Calls.{Event, AreFresh, image_after, reads_after, put_file}
use Rattle.mq_outside.proofs.Replay.{put_here, put_other, torn_done}

-- one file changed so
put_changes : (name : List ℕ) (change : Option (List ℕ) → Option (List ℕ) → Type 0) (files : Files) (bytes : Option (List ℕ)) → change (files name) bytes
    → At name change files (put_file name bytes files)
put_changes name change files bytes changed = record {
  here = subst (λ (b : Option (List ℕ)). change (files name) b) (sym (put_here name bytes files)) changed;
  others = λ other apart. put_other name other bytes files apart;
}

-- a write may be undone as a whole, so a file that was never synced may be absent
pub write_may_be_undone : (base : Files) (earlier : List Event) (files : Files) (name piece : List ℕ) (at : ℕ)
    → image_after base earlier files → image_after base (Event.Wrote name at piece ∷ earlier) files
write_may_be_undone base earlier files name piece at image = inr (
  files,
  image,
  record { here = record { there = λ there. there; before = refl; after = refl; no_shorter = omega arith; no_longer = omega arith }; others = λ other apart. refl },
)

-- a write may leave of its file all that a torn write may
pub write_may_be_torn : (base : Files) (earlier : List Event) (files : Files) (name piece : List ℕ) (at : ℕ) (torn : Option (List ℕ))
    → image_after base earlier files → Torn at (length piece) (files name) torn → image_after base (Event.Wrote name at piece ∷ earlier) (put_file name torn files)
write_may_be_torn base earlier files name piece at torn image left = inr (files, image, put_changes name (Torn at (length piece)) files torn left)

-- a write may leave any bytes in its range
pub write_may_leave_any_bytes : (base : Files) (earlier : List Event) (files : Files) (name piece torn : List ℕ) (at : ℕ)
    → image_after base earlier files → length torn ≡ length piece → at ≤ length (bytes_in (files name))
    → image_after base (Event.Wrote name at piece ∷ earlier) (put_file name (Some (overwritten at torn (bytes_in (files name)))) files)
write_may_leave_any_bytes base earlier files name piece torn at image same within =
    let left : Option (List ℕ) = Some (overwritten at torn (bytes_in (files name))) in
    write_may_be_torn base earlier files name piece at left image (subst (λ (n : ℕ). Torn at n (files name) left) same (torn_done at torn (files name) within))

-- a cut may be undone
pub cut_may_be_undone : (base : Files) (earlier : List Event) (files : Files) (name : List ℕ) (len : ℕ)
    → image_after base earlier files → image_after base (Event.Cut name len ∷ earlier) files
cut_may_be_undone base earlier files name len image = inr (
  files,
  image,
  record {
    here = record { there = ((λ there. there), (λ there. there)); no_shorter = omega arith; front = take_all (length (bytes_in (files name))) (bytes_in (files name)) (omega arith) };
    others = λ other apart. refl;
  },
)

-- a cut may leave any length between
pub cut_may_be_shortened : (base : Files) (earlier : List Event) (files : Files) (name : List ℕ) (len : ℕ) (short : Option (List ℕ))
    → image_after base earlier files → Shortened len (files name) short → image_after base (Event.Cut name len ∷ earlier) (put_file name short files)
cut_may_be_shortened base earlier files name len short image left = inr (files, image, put_changes name (Shortened len) files short left)

-- a sync of one file leaves the others as they may have been
pub sync_keeps_others : (base : Files) (earlier : List Event) (files : Files) (name : List ℕ)
    → image_after base earlier files → files name ≡ reads_after base earlier name → image_after base (Event.Synced name ∷ earlier) files
sync_keeps_others base earlier files name image synced =
    inr (files, image, (refl, λ from n fresh. ap (λ (o : Option (List ℕ)). take n (drop from (bytes_in o))) synced))

-- so what a write of one file may leave, it may still leave after a sync of another
pub write_may_be_undone_past_another_sync : (base : Files) (earlier : List Event) (files : Files) (name other piece : List ℕ) (at : ℕ) → other ≢ name
    → image_after base earlier files → files other ≡ reads_after base earlier other → image_after base (Event.Synced other ∷ Event.Wrote name at piece ∷ earlier) files
write_may_be_undone_past_another_sync base earlier files name other piece at apart image same =
    let read = reads_after base earlier in
    sync_keeps_others base (Event.Wrote name at piece ∷ earlier) files other (write_may_be_undone base earlier files name piece at image)
    (same ∙ sym (put_other name other (Some (overwritten at piece (bytes_in (read name)))) read apart))

-- nothing of a file is fresh after a sync of it that failed
none_fresh : (earlier : List Event) (name : List ℕ) (from n : ℕ) → AreFresh (Event.Missed name ∷ earlier) name from n → n ≡ 0
none_fresh earlier name from zero fresh = refl
none_fresh earlier name from (suc n) fresh = absurd ((fresh from (omega arith) (omega arith)).0 refl)

-- What was written before a sync that failed may be undone although a later sync answered Ok, unless it was written again.
pub write_may_be_undone_past_a_failed_sync : (base : Files) (earlier : List Event) (files : Files) (name piece : List ℕ) (at : ℕ)
    → image_after base earlier files → image_after base (Event.Synced name ∷ Event.Missed name ∷ Event.Wrote name at piece ∷ earlier) files
write_may_be_undone_past_a_failed_sync base earlier files name piece at image =
    let written : List Event = Event.Wrote name at piece ∷ earlier in
    let missed : image_after base (Event.Missed name ∷ written) files = inr (files, write_may_be_undone base earlier files name piece at image, refl) in
    inr (
      files,
      missed,
      (
        refl,
        λ from n fresh.
            let none : n ≡ 0 = none_fresh written name from n fresh in
            subst (λ (k : ℕ). AgreesOn name from k (reads_after base written) files) (sym none) refl,
      ),
    )
