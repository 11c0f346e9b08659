-- What a crash leaves of the keep: the format as it was, or the right one.
use Rattle.std.proofs.Common.{◌≡◌, inl, inr, ℕ, ◌≤◌, List, Option, Some, None, refl, sym, subst, ◌∙◌, arith}
use Rattle.std.specs.Prelude.{unwrap_or, IfSome}
use Rattle.mq_outside.specs.Files.{Files, HasNoFile, OldOrNew}
use Rattle.mq_outside.specs.Disk.{DiskState, EachImage, IsCrashImage}
use Rattle.log_model.specs.Log.{IsSegmentSize}
use Rattle.store_open.specs.declared.format.Sizes.{Sizes}
use Rattle.store_open.specs.declared.format.AskedSizes.{AskedSizes}
use Rattle.store_open.specs.Formats.{new_sizes, IsSlotCount, IsEntryCount, AreSizes, AreAllowed, IsFormat}
use Rattle.store_open.specs.Openings.{FORMAT, StoreTold, IsOpened, AreSizesOf, PutsOnly, format_after, own_format}
use Rattle.store_open.specs.Left.{HasFormat, IsNoneOrFormat, IsStoreOrNothing}

new_segment : (asked : Option ℕ) → IfSome asked IsSegmentSize → IsSegmentSize (unwrap_or asked 1073741824)
new_segment None ok = record { low = omega arith; high = omega arith }
new_segment (Some size) ok = ok

new_slots : (asked : Option ℕ) → IfSome asked IsSlotCount → IsSlotCount (unwrap_or asked 65536)
new_slots None ok = record { low = omega arith; high = omega arith }
new_slots (Some n) ok = ok

new_entries : (asked : Option ℕ) → IfSome asked IsEntryCount → IsEntryCount (unwrap_or asked 262144)
new_entries None ok = record { low = omega arith; high = omega arith }
new_entries (Some n) ok = ok

-- the sizes of a new store are some that a store may have
pub new_allowed : (asked : AskedSizes) → AreAllowed asked → AreSizes (new_sizes asked)
new_allowed asked ok = record { segment = new_segment asked.segment ok.segment; slots = new_slots asked.slots ok.slots; entries = new_entries asked.entries ok.entries }

-- a text that an opening may put is a format, where the one that stood was
own_is_format : (asked : AskedSizes) (kept : Option (List ℕ)) → AreAllowed asked → IsNoneOrFormat kept → IsNoneOrFormat (Some (own_format kept asked))
own_is_format asked None ok is = (new_sizes asked, record { is = refl; allowed = new_allowed asked ok })
own_is_format asked (Some text) ok is = is

-- what is there now is what was there, or the right text
none_or_format : (asked : AskedSizes) (kept before now : Option (List ℕ)) → AreAllowed asked → IsNoneOrFormat kept → IsNoneOrFormat before
    → OldOrNew (own_format kept asked) before now → IsNoneOrFormat now
none_or_format asked kept before now ok is was (inl same) = subst IsNoneOrFormat (sym same) was
none_or_format asked kept before now ok is was (inr put) = subst IsNoneOrFormat (sym put) (own_is_format asked kept ok is)

same_format : (asked : AskedSizes) (text : List ℕ) (kept before now : Option (List ℕ)) → kept ≡ Some text → before ≡ Some text → OldOrNew (own_format kept asked) before now → now ≡ Some text
same_format asked text None before now stands was change = cc
same_format asked text (Some other) before now stands was (inl same) = same ∙ was
same_format asked text (Some other) before now stands was (inr put) = put ∙ stands

-- while the store is opened
pub left_by_opening : (asked : AskedSizes) (sizes : Sizes) (m : ℕ) (files texts : Files) (disk keep keep_then disk_left keep_left : DiskState) → AreAllowed asked
    → IsCrashImage keep keep.reads → IsStoreOrNothing sizes disk keep → PutsOnly (own_format (keep.reads FORMAT) asked) keep keep_then → IsCrashImage disk files
    → keep.moment ≤ m → m ≤ keep_then.moment → keep_then.image_at m texts → EachImage (λ image. image ≡ files) disk_left → EachImage (λ image. image ≡ texts) keep_left
    → IsStoreOrNothing sizes disk_left keep_left
left_by_opening asked sizes m files texts disk keep keep_then disk_left keep_left ok reads_is_image (inl store) puts on_disk low high in_keep disk_is keep_is =
    let image = puts.at_each.each m texts low high in_keep in
    let now = same_format asked store.text (keep.reads FORMAT) (image.0 FORMAT) (texts FORMAT) (store.stays.at keep.reads reads_is_image) (store.stays.at image.0 image.1) image.2.here in
    inl (record {
      text = store.text;
      is = store.is;
      stays = record { at = λ left is_left. subst (λ (t : Files). t FORMAT ≡ Some store.text) (sym (keep_is.at left is_left)) now };
    })
left_by_opening asked sizes m files texts disk keep keep_then disk_left keep_left ok reads_is_image (inr nothing) puts on_disk low high in_keep disk_is keep_is =
    let image = puts.at_each.each m texts low high in_keep in
    let now = none_or_format asked (keep.reads FORMAT) (image.0 FORMAT) (texts FORMAT) ok (nothing.no_other.at keep.reads reads_is_image)
    (nothing.no_other.at image.0 image.1) image.2.here in
    inr (record {
      no_file = record { at = λ left is_left. subst HasNoFile (sym (disk_is.at left is_left)) (nothing.no_file.at files on_disk) };
      no_other = record { at = λ left is_left. subst (λ (t : Files). IsNoneOrFormat (t FORMAT)) (sym (keep_is.at left is_left)) now };
    })

-- the format of a store that is open is one
is_format_after : (asked : AskedSizes) (sizes : Sizes) (kept : Option (List ℕ)) → AreAllowed asked → AreSizesOf kept asked sizes → IsFormat (format_after kept sizes) sizes
is_format_after asked sizes None ok are = record { is = refl; allowed = subst AreSizes (sym are) (new_allowed asked ok) }
is_format_after asked sizes (Some text) ok are = are.format

-- and once it is open
pub left_open : (asked : AskedSizes) (sizes : Sizes) (store : StoreTold) (texts : Files) (keep_then keep_left : DiskState) → AreAllowed asked
    → IsOpened asked sizes store keep_then → store.keep → IsCrashImage keep_then texts → EachImage (λ image. image ≡ texts) keep_left → HasFormat sizes keep_left
left_open asked sizes store texts keep_then keep_left ok opened told in_keep keep_is =
    record {
      text = format_after (store.texts FORMAT) sizes;
      is = is_format_after asked sizes (store.texts FORMAT) ok (opened.sizes_are told);
      stays = record {
        at = λ left is_left.
            subst (λ (t : Files). t FORMAT ≡ Some (format_after (store.texts FORMAT) sizes)) (sym (keep_is.at left is_left)) (opened.stays told texts in_keep ∙ opened.stands told);
      };
    }
